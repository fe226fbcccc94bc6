-- Numbers below n, of which there are n and no two alike, are a ranking.
use Rattle.std.proofs.Common.{◌≡◌, ◌≢◌, ℕ, zero, suc, ◌+◌, ◌<◌, ◌≤◌, List, [], ◌∷◌, ap, arith, refl, inl, inr, length}
use Rattle.std.specs.Prelude.{All}
use Rattle.std.proofs.lemmas.Bool.{cases_eq}
use Rattle.std.proofs.lemmas.List.Elements.{All-head, All-tail}
use Rattle.ot_theory.specs.Rankings.{count_of, IsRanking}
use Rattle.ot_theory.proofs.Enumeration.{count_here, count_past}

-- how many places of a list hold one of n numbers from a on
abbrev places : List ℕ → ℕ → ℕ → ℕ
places list a zero = 0
places list a (suc n) = count_of a list + places list (a + 1) n

places-nil : (a n : ℕ) → places [] a n ≡ 0
places-nil a zero = refl
places-nil a (suc n) = omega (arith, places-nil (a + 1) n)

places-past : (x : ℕ) (list : List ℕ) (a n : ℕ) → x < a → places (x ∷ list) a n ≡ places list a n
places-past x list a zero h = refl
places-past x list a (suc n) h = let other : x ≢ a = omega arith in omega (arith, count_past a x list other, places-past x list (a + 1) n (omega arith))

places-cons : (x : ℕ) (list : List ℕ) (a n : ℕ) → a ≤ x → x < a + n → places (x ∷ list) a n ≡ 1 + places list a n
places-cons x list a zero l u = absurd (omega arith)
places-cons x list a (suc n) l u = elim (cases_eq x a) [
  | inl here ↦ omega (arith, count_here a x list here, places-past x list (a + 1) n (omega arith))
  | inr other ↦ omega (arith, count_past a x list other, places-cons x list (a + 1) n (omega arith) (omega arith))
]

places-all : (n : ℕ) (list : List ℕ) → All (λ x. x < n) list → places list 0 n ≡ length list
places-all n [] h = places-nil 0 n
places-all n (x ∷ list) h =
    let first = All-head (λ y. y < n) x list h in
    omega (arith, places-cons x list 0 n (omega arith) (omega arith), places-all n list (All-tail (λ y. y < n) x list h))

few : (list : List ℕ) (a n : ℕ) → ((c : ℕ) → count_of c list ≤ 1) → places list a n ≤ n
few list a zero once = omega arith
few list a (suc n) once = omega (arith, once a, few list (a + 1) n once)

fewer : (list : List ℕ) (a n c : ℕ) → ((c : ℕ) → count_of c list ≤ 1) → a ≤ c → c < a + n → count_of c list ≡ 0 → places list a n < n
fewer list a zero c once l u none = absurd (omega arith)
fewer list a (suc n) c once l u none = elim (cases_eq a c) [
  | inl here ↦ omega (arith, few list (a + 1) n once, ap (λ (k : ℕ). count_of k list) here)
  | inr other ↦ omega (arith, once a, fewer list (a + 1) n c once (omega arith) (omega arith) none)
]

-- a number that no item is
absent : (n c : ℕ) (list : List ℕ) → All (λ x. x < n) list → n ≤ c → count_of c list ≡ 0
absent n c [] h l = refl
absent n c (x ∷ list) h l =
    let first = All-head (λ y. y < n) x list h in
    let other : x ≢ c = omega arith in
    omega (arith, count_past c x list other, absent n c list (All-tail (λ y. y < n) x list h) l)

pub IsRanking-distinct : (list : List ℕ) → All (λ x. x < length list) list → ((c : ℕ) → count_of c list ≤ 1) → IsRanking (length list) list
IsRanking-distinct list h once = record {
  each = λ c below. elim (cases_eq (count_of c list) 0) [
    | inl none ↦ absurd (omega (arith, fewer list 0 (length list) c once (omega arith) (omega arith) none, places-all (length list) list h))
    | inr some ↦ omega (arith, once c)
  ];
  none_else = λ c above. absent (length list) c list h above;
}
