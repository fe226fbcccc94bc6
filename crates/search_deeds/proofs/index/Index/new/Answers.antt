use Rattle.std.proofs.Common.{ℕ, ◌*◌, ◌+◌, arith, ap, ◌∙◌}
use Rattle.search_deeds.proofs.Choices.{IsIndex-none}
use Rattle.search_deeds.proofs.Admitting.{AreBlocked-none}
use Rattle.search_deeds.proofs.index.Index.new.Goals as goal

pub returns-clause-places : goal.returns-clause-places
returns-clause-places c = IsIndex-none _ _ _ (record { wide = λ i b. c.widest-widest.ensures.wide i b; long = c.loop.invariant.long ∙ omega arith ∙ ap (λ (x : ℕ). x * c.widest-widest.result + 1) c.inputs.ensures.value }) c.loop.invariant.none

pub returns-clause-blocked : goal.returns-clause-blocked
returns-clause-blocked c = AreBlocked-none _ _ c.loop.invariant.as_long c.loop.invariant.none c.loop.invariant.no_blocks
