use Rattle.std.proofs.Common.{◌≡◌, take}
use Rattle.search_deeds.specs.Deeds.{cuts_in}
use Rattle.search_deeds.specs.Gathered.{deeds_of}
use Rattle.search_deeds.proofs.collecting.cut_prefixes.Given as goal

-- the prefixes that the lists so far cut off
abbrev pub invariant-loop-deeds : goal.invariant-loop-deeds
invariant-loop-deeds l = l.prefixes.items ≡ cuts_in (deeds_of (take l.deeds-index l.all))
