use Rattle.std.proofs.Common.{◌≡◌, ◌++◌, take}
use Rattle.search_deeds.specs.Deeds.{cuts_in}
use Rattle.search_deeds.specs.Gathered.{deeds_in}
use Rattle.search_deeds.proofs.collecting.add_cut_prefixes.Given as goal

-- the prefixes of the deeds so far are added
abbrev pub invariant-loop-deed : goal.invariant-loop-deed
invariant-loop-deed l = l.prefixes.items ≡ l.fn.prefixes.items ++ cuts_in (deeds_in (take l.deed-index l.deeds))
