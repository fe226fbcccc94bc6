use Rattle.std.proofs.Common.{ℕ, ◌<◌, length, slice_index}
use Rattle.ot_theory.specs.Languages.{classes_at}
use Rattle.refutation.specs.Prefixes.{class_numbers}
use Rattle.refutation.proofs.prefix.is_prefix.Given as goal

-- the classes so far are those of their inputs
abbrev pub invariant-loop-i : goal.invariant-loop-i
invariant-loop-i l = (j : ℕ) → j < l.i → slice_index (class_numbers l.classes) j < length (classes_at l.p j)
