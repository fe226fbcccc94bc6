-- the bits that the rows so far leave
use Rattle.std.proofs.Common.{◌≡◌, ℕ}
use Rattle.std.specs.Int.{bit_at}
use Rattle.refutation.specs.Prefixes.{class_numbers}
use Rattle.search_deeds.specs.Admitted.{IsAdmitted}
use Rattle.search_deeds.proofs.blocks.Block.admitted.Given as goal

abbrev pub invariant-loop-row : goal.invariant-loop-row
invariant-loop-row l = (b : ℕ) → IsAdmitted l.self (class_numbers l.prefix) b → bit_at l.bits b ≡ 1
