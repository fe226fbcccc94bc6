-- none of those at the places so far refutes the prefix
use Rattle.std.proofs.Common.{◌-◌, length}
use Rattle.refutation.specs.Prefixes.{class_numbers}
use Rattle.refutation.specs.Typologies.{certificates_of}
use Rattle.search_deeds.proofs.Passing.{NoneRefutes}
use Rattle.search_deeds.proofs.certified.place_of.Given as goal

abbrev pub invariant-loop-k : goal.invariant-loop-k
invariant-loop-k l = NoneRefutes (certificates_of l.certificates) (class_numbers l.prefix) l.places l.k

abbrev pub decreases-loop-k : goal.decreases-loop-k
decreases-loop-k l = length l.places - l.k
