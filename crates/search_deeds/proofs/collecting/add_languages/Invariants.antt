use Rattle.std.proofs.Common.{◌≡◌, ◌++◌, take}
use Rattle.refutation.specs.Typologies.{found_of}
use Rattle.search_deeds.specs.Deeds.{languages_in}
use Rattle.search_deeds.specs.Gathered.{deeds_in}
use Rattle.search_deeds.proofs.collecting.add_languages.Given as goal

-- the languages of the deeds so far are added
abbrev pub invariant-loop-deed : goal.invariant-loop-deed
invariant-loop-deed l = found_of l.languages.items ≡ found_of l.fn.languages.items ++ languages_in (deeds_in (take l.deed-index l.deeds))
