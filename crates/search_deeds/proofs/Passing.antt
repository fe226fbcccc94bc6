-- Certificates passed over, since no row admits them.
use Rattle.std.proofs.Common.{◌≡◌, ◌≤◌, ◌<◌, ◌+◌, ℕ, List, [], false, arith, inl, inr, length, get_or, slice_index}
use Rattle.std.proofs.lemmas.Bool.{cases_lt, false_from_ne_true}
use Rattle.ot_theory.specs.Languages.{Term}
use Rattle.ot_theory.specs.Refutations.{refutes}
use Rattle.search_deeds.specs.Admitted.{AreBlocks, IsAdmittedAt}
use Rattle.search_deeds.specs.declared.blocks.Block.{Block}

-- none of those at the first places refutes the prefix
pub record NoneRefutes (certificates : List (List Term)) (prefix places : List ℕ) (to : ℕ) : Type 0 where
  pub within : to ≤ length places
  pub each : (j : ℕ) → j < to → refutes (get_or certificates (slice_index places j) []) prefix ≡ false

pub none_yet : (certificates : List (List Term)) (prefix places : List ℕ) → NoneRefutes certificates prefix places 0
none_yet certificates prefix places = record { within = omega arith; each = λ j below. absurd (omega arith) }

pub NoneRefutes-one : (certificates : List (List Term)) (prefix places : List ℕ) (to : ℕ) → to < length places → refutes (get_or certificates (slice_index places to) []) prefix ≡ false → NoneRefutes certificates prefix places to → NoneRefutes certificates prefix places (to + 1)
NoneRefutes-one certificates prefix places to within here h = record {
  within = omega arith;
  each = λ j below. elim (cases_lt j to) [
    | inl before ↦ h.each j before
    | inr behind ↦ let same : j ≡ to = omega arith in rw same here
  ];
}

pub NoneRefutes-passed : (certificates : List (List Term)) (prefix places : List ℕ) (blocks : List Block) (from to : ℕ) → AreBlocks certificates places blocks → from ≤ to → to ≤ length places → ((k : ℕ) → from ≤ k → k < to → IsAdmittedAt blocks prefix k → ⊥)
    → NoneRefutes certificates prefix places from → NoneRefutes certificates prefix places to
NoneRefutes-passed certificates prefix places blocks from to h onward within passed none = record {
  within = within;
  each = λ j below. elim (cases_lt j from) [
    | inl before ↦ none.each j before
    | inr behind ↦ false_from_ne_true (refutes (get_or certificates (slice_index places j) []) prefix) (λ made. passed j behind below (h.each j (omega (arith, below, within)) prefix made))
  ];
}
