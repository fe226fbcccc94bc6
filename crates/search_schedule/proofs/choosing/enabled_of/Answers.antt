-- An idle worker may take or steal from each queue that is filled, and of another one Learn or Settle counts, and each other step for itself.
use Rattle.std.proofs.Common.{◌≡◌, ◌∙◌, ap, sym, arith, length}
use Rattle.search_machine.specs.Machine.{is_enabled, is_filled}
use Rattle.search_machine.specs.declared.step.Step.TheVariants.{Consult, Put}
use Rattle.search_schedule.proofs.Counting.{count-busy, count-few, count-idle}
use Rattle.search_schedule.proofs.Places.{bit, bit-few}
use Rattle.search_schedule.proofs.choosing.enabled_of.Goals as goal

pub overflow_add-result : goal.overflow_add-result
overflow_add-result c =
    let s = c.args.machine.now.state in
    let put : c.one_if-put.result ≡ bit (is_enabled s (Put c.args.w)) = c.one_if-put.ensures ∙ ap bit c.may_put.ensures in
    omega (arith, put, bit-few (is_enabled s (Put c.args.w)), c.requires.filled, c.requires.few, count-few (is_filled s.queues) (length s.hands))

pub returns-then-is_idle-clause-enabled : goal.returns-then-is_idle-clause-enabled
returns-then-is_idle-clause-enabled c =
    let s = c.args.machine.now.state in
    let put : c.one_if-put.result ≡ bit (is_enabled s (Put c.args.w)) = c.one_if-put.ensures ∙ ap bit c.may_put.ensures in
    omega (arith, put, c.requires.filled, count-idle s c.args.w c.requires.worker (sym c.is_idle.ensures ∙ c.if-is_idle.true))

pub returns-then-is_idle-clause-few : goal.returns-then-is_idle-clause-few
returns-then-is_idle-clause-few c =
    let s = c.args.machine.now.state in
    let put : c.one_if-put.result ≡ bit (is_enabled s (Put c.args.w)) = c.one_if-put.ensures ∙ ap bit c.may_put.ensures in
    omega (arith, put, bit-few (is_enabled s (Put c.args.w)), c.requires.filled, c.requires.few, count-few (is_filled s.queues) (length s.hands))

pub returns-clause-enabled : goal.returns-clause-enabled
returns-clause-enabled c =
    let s = c.args.machine.now.state in
    let put : c.one_if-put.result ≡ bit (is_enabled s (Put c.args.w)) = c.one_if-put.ensures ∙ ap bit c.may_put.ensures in
    let consult : c.one_if-consult.result ≡ bit (is_enabled s (Consult c.args.w)) = c.one_if-consult.ensures ∙ ap bit c.may_consult.ensures in
    omega (arith, put, consult, count-busy s c.args.w c.requires.worker (sym c.is_idle.ensures ∙ c.if-is_idle.false))
