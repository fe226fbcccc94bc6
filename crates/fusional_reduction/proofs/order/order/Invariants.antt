-- the marks so far are equal
use Rattle.std.proofs.Common.{◌≡◌, drop, map}
use Rattle.std.specs.Ordering.{nat_cmp}
use Rattle.std.specs.Cmp.Lexicographic.{slice_cmp}
use Rattle.fusional_reduction.specs.Bases.{place_of}
use Rattle.fusional_reduction.proofs.order.order.Given as goal

abbrev pub invariant-loop-k : goal.invariant-loop-k
invariant-loop-k l = slice_cmp nat_cmp (map place_of l.a) (map place_of l.b) ≡ slice_cmp nat_cmp (map place_of (drop l.k l.a)) (map place_of (drop l.k l.b))
