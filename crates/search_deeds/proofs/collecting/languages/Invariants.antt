use Rattle.std.proofs.Common.{◌≡◌, take}
use Rattle.refutation.specs.Typologies.{found_of}
use Rattle.search_deeds.specs.Deeds.{languages_in}
use Rattle.search_deeds.specs.Gathered.{deeds_of}
use Rattle.search_deeds.proofs.collecting.languages.Given as goal

-- the languages that the lists so far tell
abbrev pub invariant-loop-deeds : goal.invariant-loop-deeds
invariant-loop-deeds l = found_of l.languages.items ≡ languages_in (deeds_of (take l.deeds-index l.all))
