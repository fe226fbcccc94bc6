-- An input has no winner exactly where no count is positive.
use Rattle.std.proofs.Common.{◌≡◌, ℕ, zero, suc, List, [], false, Option, Some, None, add-one, arith, refl, sym, ◌∙◌, ap, inl, inr, length, slice_index, slice_index_or}
use Rattle.std.specs.Prelude.{All, ◌↔◌, is_some, position, option_and_then}
use Rattle.std.specs.List.{list_any}
use Rattle.std.proofs.lemmas.Bool.{cases_lt}
use Rattle.std.proofs.lemmas.List.Elements.{All-from_get_or}
use Rattle.ot_theory.specs.Problems.{same_profile, classes_of, winner_of}
use Rattle.ot_theory.proofs.Candidates.{Wins, Wins-keep, Wins-take, Wins-find, winner_of-class, any_position, same-refl}
use Rattle.ot_theory.proofs.Members.{any-classes_of, none_at}

-- the winning candidate of the first n, if there is one
record Winning (counts : List ℕ) (n : ℕ) : Type 0 where
  winner : Option ℕ
  greatest : ℕ
  wins : Wins counts n winner greatest

winning : (counts : List ℕ) (n : ℕ) → Winning counts n
winning counts zero = record { winner = None; greatest = 0; wins = record { bound = λ j below. absurd (omega arith); first = refl } }
winning counts (suc n) =
    let w = winning counts n in
    elim (cases_lt w.greatest (slice_index counts n)) [
      | inl more ↦ record {
        winner = Some n;
        greatest = slice_index counts n;
        wins = rw (← add-one) (Wins-take counts n (slice_index counts n) w.winner w.greatest w.wins refl more);
      }
      | inr none ↦ record { winner = w.winner; greatest = w.greatest; wins = rw (← add-one) (Wins-keep counts n w.winner w.greatest w.wins none) }
    ]

-- the class of a candidate is found
none-positive : (profiles : List (List ℕ)) (counts : List ℕ) → length profiles ≡ length counts → (winner : Option ℕ) (greatest : ℕ) → Wins counts (length counts) winner greatest
    → winner_of profiles counts ≡ None → All (λ count. count ≡ 0) counts
none-positive profiles counts same None greatest w none = All-from_get_or (λ count. count ≡ 0) counts 0 (λ k below. omega (arith, w.bound k below, w.first))
none-positive profiles counts same (Some k) greatest w none =
    let profile = slice_index_or profiles k [] in
    let found = winner_of-class profiles (classes_of profiles) counts profile k (sym (Wins-find counts (Some k) greatest w)) refl refl in
    let absent : list_any (same_profile profile) profiles ≡ false =
    sym (any_position (same_profile profile) (classes_of profiles) ∙ any-classes_of profiles profile) ∙ ap is_some (sym found ∙ none)
    in
    let differs = none_at (same_profile profile) profiles k [] absent (omega (arith, w.first.0, same)) in
    let like = same-refl profile in
    absurd (cc)

all-none : (profiles : List (List ℕ)) (counts : List ℕ) (winner : Option ℕ) (greatest : ℕ) → Wins counts (length counts) winner greatest → All (λ count. count ≡ 0) counts
    → winner_of profiles counts ≡ None
all-none profiles counts None greatest w zeros =
    ap (option_and_then (λ k. position (same_profile (slice_index_or profiles k [])) (classes_of profiles))) (sym (Wins-find counts None greatest w))
all-none profiles counts (Some k) greatest w zeros = absurd (omega (arith, w.first.1, w.first.2, zeros k 0 w.first.0))

pub winner_of-none : (profiles : List (List ℕ)) (counts : List ℕ) → length profiles ≡ length counts → winner_of profiles counts ≡ None ↔ All (λ count. count ≡ 0) counts
winner_of-none profiles counts same =
    let w = winning counts (length counts) in
    (none-positive profiles counts same w.winner w.greatest w.wins, all-none profiles counts w.winner w.greatest w.wins)
