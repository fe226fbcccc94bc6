-- The given pair of a number, and the masks of its condition.
use Rattle.std.proofs.Common.{◌≡◌, ◌≢◌, ◌⊎◌, ℕ, ◌*◌, ◌%◌, ◌^◌, ◌<◌, List, [], Bool, true, false, Option, Some, option_map, cond, get_or, length, arith, refl, sym, subst, ◌∙◌, ap, inl, inr}
use Rattle.std.specs.Prelude.{◌==◌, All, slice_get}
use Rattle.std.specs.Option.{option_map_or}
use Rattle.std.specs.Int.{bit_at}
use Rattle.std.proofs.lemmas.Bool.{ne_eqb}
use Rattle.std.proofs.lemmas.Bool.Decides.{eqb_tells}
use Rattle.std.proofs.lemmas.List.{length-map}
use Rattle.std.proofs.lemmas.Nat.{one_shl}
use Rattle.std.proofs.lemmas.Nat.Bits.{bit_at-pow_same, bit_at-pow_other}
use Rattle.std.proofs.lemmas.Option.{get_or_from_slice_get, slice_get-get_or, slice_get-map, slice_get_within}
use Rattle.ot_theory.specs.declared.Mark.TheVariants.{W, L, E}
use Rattle.ot_theory.specs.Conditions.{is_win, is_loss, over}
use Rattle.ot_theory.specs.Languages.{Given, condition_of}
use Rattle.ot_theory.specs.Problems as theory
use Rattle.ot_theory.specs.Problems.{IsPair, Problem, givens}
use Rattle.ot_theory.proofs.Pairs.{mark_at-over_within}
use Rattle.ot_base.specs.declared.tableau.Pair.{Pair}
use Rattle.ot_base.specs.Tableaus.{pair_of, pairs_in}
use Rattle.erc_vectors.specs.Masks.{IsMask}

-- the one bit of a mask
bit_of-one : (k c : ℕ) → k < 64 → bit_at (1 * 2 ^ k % 2 ^ 64) c ≡ cond (c == k) 1 0
bit_of-one k c small = ap (λ (m : ℕ). bit_at m c) (one_shl k 64 small) ∙ elim (eqb_tells c k) [
  | inl same ↦ rw (same.0, same.1) (bit_at-pow_same k)
  | inr other ↦ rw other.0 (bit_at-pow_other k c other.1)
]

pub wins-over : (n c d : ℕ) → c < n → d < n → c < 64 → IsMask is_win (over n c d) (1 * 2 ^ c % 2 ^ 64)
wins-over n c d upper lower small k = bit_of-one c k small ∙ ap (λ (t : Bool). cond t 1 0) (sym (ap is_win (mark_at-over_within n c d k upper lower) ∙ by (k == c) (k == d)))
  where
    by : (p q : Bool) → is_win (cond p W (cond q L E)) ≡ p
    by true q = refl
    by false true = refl
    by false false = refl

pub losses-over : (n c d : ℕ) → c < n → d < n → c ≢ d → d < 64 → IsMask is_loss (over n c d) (1 * 2 ^ d % 2 ^ 64)
losses-over n c d upper lower differ small k = bit_of-one d k small ∙ ap (λ (t : Bool). cond t 1 0) (sym (ap is_loss (mark_at-over_within n c d k upper lower) ∙ by (eqb_tells k c)))
  where
    loss : (p : Bool) → is_loss (cond p L E) ≡ p
    loss true = refl
    loss false = refl

    by : ((k == c) ≡ true) × (k ≡ c) ⊎ ((k == c) ≡ false) × (k ≢ c) → is_loss (cond (k == c) W (cond (k == d) L E)) ≡ (k == d)
    by (inl same) = let other : k ≢ d = λ e. differ (sym same.1 ∙ e) in rw (same.0, ne_eqb k d other) refl
    by (inr other) = rw other.0 (loss (k == d))

-- the given pair of a number
pub pair_at : (pairs : List Pair) (those : List theory.Pair) (k : ℕ) (d : Pair) → pairs_in pairs ≡ those → k < length those → slice_get those k ≡ Some (pair_of (get_or pairs k d))
pair_at pairs those k d same below =
    let within : k < length pairs = omega (arith, length-map pairs pair_of, ap (λ (l : List theory.Pair). length l) same) in
    ap (λ (l : List theory.Pair). slice_get l k) (sym same) ∙ slice_get-map pair_of pairs k ∙ ap (option_map pair_of) (slice_get-get_or pairs k d within)

pub IsPair-at : (n : ℕ) (those : List theory.Pair) (k : ℕ) (pair : theory.Pair) → All (IsPair n) those → slice_get those k ≡ Some pair → IsPair n pair
IsPair-at n those k pair h e = subst (IsPair n) (get_or_from_slice_get those k pair pair e) (h k pair (slice_get_within those k pair e))

pub condition-given : (problem : Problem) (k : ℕ) (pair : theory.Pair) → slice_get (givens problem) k ≡ Some pair → condition_of problem (Given k) ≡ over problem.constraints pair.above pair.below
condition-given problem k pair e = ap (λ (o : Option theory.Pair). option_map_or (λ (p : theory.Pair). over problem.constraints p.above p.below) o []) e
