use Rattle.std.proofs.Common.{◌≡◌, ◌+◌, ◌-◌, arith}
use Rattle.cut_list.proofs.Steps.{seen-at, seen-long, seen-within}
use Rattle.cut_list.proofs.list.CutList.change.Goals as goal

pub index-step-requires : goal.index-step-requires
index-step-requires c = omega (arith, c.requires, c.self.inside.steps.ok.0, seen-long c.self.inside.classes.items c.self.inside.steps.items c.args.self.now c.self.view_is)

pub prove-unreachable-requires : goal.prove-unreachable-requires
prove-unreachable-requires c =
    omega (arith, c.if-prove.true, c.len.ensures, c.self.inside.classes.ok.0, seen-within _ _ _ _ c.args.k c.index-step.result.now c.self.view_is c.self.invariant c.requires c.index-step.ensures)

pub prove-unreachable-requires-2 : goal.prove-unreachable-requires-2
prove-unreachable-requires-2 c =
    omega (arith, c.if-prove-2.true, c.len-2.ensures, c.self.inside.classes.ok.0, seen-within _ _ _ _ c.args.k c.index-step.result.now c.self.view_is c.self.invariant c.requires c.index-step.ensures)

pub returns : goal.returns
returns c = λ before same.
    let step = c.index-step.result.now in
    let count : step.start + step.count - step.start ≡ step.count = omega arith in
    rw (count, c.deref.ensures.value) (seen-at _ _ _ c.args.k step before c.self.view_is (omega (arith, c.requires, seen-long c.self.inside.classes.items c.self.inside.steps.items c.args.self.now c.self.view_is)) c.index-step.ensures same)
