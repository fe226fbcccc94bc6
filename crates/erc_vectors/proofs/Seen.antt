-- A walk over numbers that marks those that it has seen.
use Rattle.std.proofs.Common.{◌≡◌, ◌≢◌, ℕ, ◌+◌, ◌<◌, ◌≤◌, List, [], ◌∷◌, Bool, true, false, arith, refl, sym, subst, ◌∙◌, ap, inl, inr, length, get_or, set, take, drop}
use Rattle.std.specs.Prelude.{All, nat_lt}
use Rattle.std.proofs.lemmas.Bool.{cases_eq, lt-ltb, ltb-true, ltb-false}
use Rattle.std.proofs.lemmas.List.{length-set, take_more, take_all, take-append-drop, get_or-set_same, get_or-set_other}
use Rattle.std.proofs.lemmas.List.Elements.{All-more}
use Rattle.ot_theory.specs.Rankings.{count_of, IsRanking}
use Rattle.ot_theory.proofs.Enumeration.{count-append, count_here, count_past, counted}
use Rattle.ot_theory.proofs.Distinct.{IsRanking-distinct}

-- The first i numbers are below n and no two of them alike, and those of them are marked.
pub record AreSeen (n : ℕ) (numbers : List ℕ) (i : ℕ) (seen : List Bool) : Type 0 where
  pub long : n ≤ length seen
  pub below : All (λ x. x < n) (take i numbers)
  pub once : (c : ℕ) → count_of c (take i numbers) ≤ 1
  pub marked : (c : ℕ) → c < n → get_or seen c false ≡ nat_lt 0 (count_of c (take i numbers))

count_more : (c : ℕ) (numbers : List ℕ) (i : ℕ) → i < length numbers → count_of c (take (i + 1) numbers) ≡ count_of c (take i numbers) + count_of c (get_or numbers i 0 ∷ [])
count_more c numbers i h = ap (λ (l : List ℕ). count_of c l) (take_more numbers i 0 h) ∙ count-append c (take i numbers) (get_or numbers i 0 ∷ [])

count_front : (c : ℕ) (numbers : List ℕ) (i : ℕ) → count_of c (take i numbers) ≤ count_of c numbers
count_front c numbers i = omega (arith, count-append c (take i numbers) (drop i numbers), ap (λ (l : List ℕ). count_of c l) (take-append-drop i numbers))

count_more_here : (numbers : List ℕ) (i x c : ℕ) → i < length numbers → x ≡ get_or numbers i 0 → x ≡ c → count_of c (take (i + 1) numbers) ≡ count_of c (take i numbers) + 1
count_more_here numbers i x c h e same = omega (arith, count_more c numbers i h, count_here c (get_or numbers i 0) [] (sym e ∙ same))

count_more_past : (numbers : List ℕ) (i x c : ℕ) → i < length numbers → x ≡ get_or numbers i 0 → x ≢ c → count_of c (take (i + 1) numbers) ≡ count_of c (take i numbers)
count_more_past numbers i x c h e other = omega (arith, count_more c numbers i h, count_past c (get_or numbers i 0) [] (λ same. other (e ∙ same)))

pub AreSeen-none : (n : ℕ) (numbers : List ℕ) (seen : List Bool) → n ≤ length seen → ((c : ℕ) → c < n → get_or seen c false ≡ false) → AreSeen n numbers 0 seen
AreSeen-none n numbers seen long none = record { long = long; below = λ k d b. absurd (omega arith); once = λ c. omega arith; marked = none }

pub AreSeen-more : (n : ℕ) (numbers : List ℕ) (i x : ℕ) (seen : List Bool) → i < length numbers → x ≡ get_or numbers i 0 → x < n → get_or seen x false ≡ false → AreSeen n numbers i seen → AreSeen n numbers (i + 1) (set seen x true)
AreSeen-more n numbers i x seen within e small new h = record {
  long = omega (arith, h.long, length-set seen x true);
  below = All-more (λ y. y < n) numbers i 0 within h.below (omega arith);
  once = λ c. elim (cases_eq x c) [
    | inl same ↦ omega (arith, count_more_here numbers i x c within e same, ap (λ (y : ℕ). count_of y (take i numbers)) same, ltb-false _ _ (sym (h.marked x small) ∙ new))
    | inr other ↦ omega (arith, count_more_past numbers i x c within e other, h.once c)
  ];
  marked = λ c below. elim (cases_eq x c) [
    | inl same ↦ ap (λ (y : ℕ). get_or (set seen x true) y false) (sym same) ∙ get_or-set_same seen x true false (omega (arith, h.long)) ∙ sym (lt-ltb _ _ (omega (arith, count_more_here numbers i x c within e same)))
    | inr other ↦ get_or-set_other seen x c true false (λ same. other (sym same)) ∙ h.marked c below ∙ ap (λ (k : ℕ). nat_lt 0 k) (sym (count_more_past numbers i x c within e other))
  ];
}

pub not_ranking-large : (n : ℕ) (numbers : List ℕ) (i x : ℕ) → i < length numbers → x ≡ get_or numbers i 0 → n ≤ x → IsRanking n numbers → ⊥
not_ranking-large n numbers i x within e large r = absurd (omega (arith, r.none_else (get_or numbers i 0) (omega arith), counted numbers i 0 within))

pub not_ranking-seen : (n : ℕ) (numbers : List ℕ) (i x : ℕ) (seen : List Bool) → i < length numbers → x ≡ get_or numbers i 0 → x < n → get_or seen x false ≡ true → AreSeen n numbers i seen → IsRanking n numbers → ⊥
not_ranking-seen n numbers i x seen within e small old h r =
    absurd (omega (arith, r.each x small, count_front x numbers (i + 1), count_more_here numbers i x x within e refl, ltb-true _ _ (sym (h.marked x small) ∙ old)))

pub IsRanking-seen : (n : ℕ) (numbers : List ℕ) (i : ℕ) (seen : List Bool) → length numbers ≡ n → n ≤ i → AreSeen n numbers i seen → IsRanking n numbers
IsRanking-seen n numbers i seen e all h =
    let whole = take_all i numbers (omega arith) in
    subst (λ (m : ℕ). IsRanking m numbers) e (IsRanking-distinct numbers (λ k d b. omega (arith, rw whole at (h.below k d), e)) (λ c. rw whole at (h.once c)))
