-- the last choice that the terms so far ask for
use Rattle.std.proofs.Common.{take}
use Rattle.refutation.specs.Terms.{terms_in}
use Rattle.search_deeds.specs.Indexed.{IsLastOf}
use Rattle.search_deeds.proofs.index.last_choice.Given as goal

abbrev pub invariant-loop-term : goal.invariant-loop-term
invariant-loop-term l = IsLastOf (terms_in (take l.term-index l.terms)) l.last
