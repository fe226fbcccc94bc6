-- Each step is the one that is drawn, and lowers the weight. Where none is enabled any more, the schedule has ended.
use Rattle.search_schedule.proofs.Runs.{run-ended, under-way-first, under-way-lowers, under-way-next}
use Rattle.search_schedule.proofs.schedule.finished_machine.Goals as goal

pub loop-step-init : goal.loop-step-init
loop-step-init c =
    let first = under-way-first c.args.p.now c.args.workers c.args.places c.args.number c.in_ok-machine.machine c.in_ok-machine.ensures in
    rw c.new-generator.ensures first

pub loop-step-preserved : goal.loop-step-preserved
loop-step-preserved c =
    rw c.in-Some.ensures.generator
    (under-way-next c.args.p.now c.args.workers c.args.places c.args.number c.loop-step.generator c.in-Some.step c.loop-step.machine c.make.new.machine c.loop-step.invariant c.in-Some.ensures.drawn
    c.in_ok-make.ensures.leads c.make.ensures.problem c.make.ensures.places c.in_ok-make.ensures.learns)

pub loop-step-smaller : goal.loop-step-smaller
loop-step-smaller c =
    under-way-lowers c.args.p.now c.args.workers c.args.places c.args.number c.loop-step.generator c.in-Some.step c.loop-step.machine c.make.new.machine c.loop-step.invariant
    c.in_ok-make.ensures.leads c.make.ensures.problem c.make.ensures.places

pub returns-clause-run : goal.returns-clause-run
returns-clause-run c = run-ended c.args.p.now c.args.workers c.args.places c.args.number c.loop-step.generator c.loop-step.machine c.loop-step.invariant c.in_default.ensures.ended
