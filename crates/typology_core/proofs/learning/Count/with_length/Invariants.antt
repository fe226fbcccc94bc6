-- the certificates so far are counted
use Rattle.std.proofs.Common.{ℕ, List, ◌++◌, take}
use Rattle.typology_core.specs.Judged.{IsCount, learns_of}
use Rattle.typology_core.proofs.learning.Count.with_length.Given as goal

abbrev pub invariant-loop-certificate : goal.invariant-loop-certificate
invariant-loop-certificate l = (held places : ℕ) (before : List ℕ) → IsCount held places before l.fn.self → IsCount held places (before ++ learns_of l.length (take l.certificate-index l.named)) l.count
