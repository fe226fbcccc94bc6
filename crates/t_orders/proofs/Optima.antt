-- A ranking makes exactly one of the classes of an input optimal.
use Rattle.std.proofs.Common.{◌≡◌, ◌≢◌, ◌⊎◌, ℕ, zero, suc, ◌+◌, ◌<◌, ◌≤◌, List, [], ◌∷◌, Bool, true, false, ◌||◌, ◌==◌, arith, refl, sym, ◌∙◌, ap, inl, inr, length, slice_index, slice_index_or}
use Rattle.std.specs.Prelude.{nat_lt}
use Rattle.std.specs.List.{list_all, list_any, range_with_len}
use Rattle.std.proofs.lemmas.Bool.{and_parts, and_from, cases_lt, cases_eq, lt-ltb, le-ltb, ltb-true, or_cases, or_left, or_right, eqb-true, eq-eqb}
use Rattle.std.proofs.lemmas.Bool.Decides.{eqb_tells}
use Rattle.ot_theory.specs.Rankings.{better, optimal, IsRanking, count_of}
use Rattle.ot_theory.proofs.Optimal.{AreClasses}
use Rattle.ot_theory.proofs.Enumeration.{count_past}

-- ---- tests over the numbers below
pub all_below : (p : ℕ → Bool) (s n k : ℕ) → list_all p (range_with_len s n) ≡ true → s ≤ k → k < s + n → p k ≡ true
all_below p s zero k h l u = absurd (omega arith)
all_below p s (suc n) k h l u =
    let parts = and_parts (p s) (list_all p (range_with_len (s + 1) n)) h in
    elim (cases_eq s k) [
      | inl here ↦ sym (ap p here) ∙ parts.0
      | inr other ↦ all_below p (s + 1) n k parts.1 (omega arith) (omega arith)
    ]

pub all_below-from : (p : ℕ → Bool) (s n : ℕ) → ((k : ℕ) → s ≤ k → k < s + n → p k ≡ true) → list_all p (range_with_len s n) ≡ true
all_below-from p s zero h = refl
all_below-from p s (suc n) h = and_from _ _ (h s (omega arith) (omega arith)) (all_below-from p (s + 1) n (λ k l u. h k (omega arith) (omega arith)))

pub any_below : (p : ℕ → Bool) (s n k : ℕ) → s ≤ k → k < s + n → p k ≡ true → list_any p (range_with_len s n) ≡ true
any_below p s zero k l u h = absurd (omega arith)
any_below p s (suc n) k l u h = elim (cases_eq s k) [
  | inl here ↦ or_left (p s) _ (ap p here ∙ h)
  | inr other ↦ or_right (p s) _ (any_below p (s + 1) n k (omega arith) (omega arith) h)
]

-- a number below that passes a test
pub record Below (p : ℕ → Bool) (n : ℕ) : Type 0 where
  pub at : ℕ
  pub within : at < n
  pub passes : p at ≡ true

pub below-found : (p : ℕ → Bool) (s n : ℕ) → list_any p (range_with_len s n) ≡ true → Below p (s + n)
below-found p s zero h = absurd (cc)
below-found p s (suc n) h = elim (or_cases (p s) (list_any p (range_with_len (s + 1) n)) h) [
  | inl here ↦ record { at = s; within = omega arith; passes = here }
  | inr later ↦
      let r = below-found p (s + 1) n later in
      record { at = r.at; within = omega (arith, r.within); passes = r.passes }
]

-- ---- which of two profiles is better
three : (m n : ℕ) → (m < n) ⊎ ((m ≡ n) ⊎ (n < m))
three m n = elim (cases_lt m n) [
  | inl less ↦ inl less
  | inr most ↦ elim (cases_lt n m) [
    | inl more ↦ inr (inr more)
    | inr least ↦ inr (inl (omega arith))
  ]
]

better-same : (x : ℕ) (order a b : List ℕ) → slice_index a x ≡ slice_index b x → better (x ∷ order) a b ≡ better order a b
better-same x order a b e = rw (eq-eqb (slice_index a x) (slice_index b x) e) refl

better-less : (x : ℕ) (order a b : List ℕ) → slice_index a x < slice_index b x → better (x ∷ order) a b ≡ true
better-less x order a b h = elim (eqb_tells (slice_index a x) (slice_index b x)) [
  | inl same ↦ absurd (omega (arith, same.1))
  | inr other ↦ rw other.0 (lt-ltb (slice_index a x) (slice_index b x) h)
]

better-more : (x : ℕ) (order a b : List ℕ) → slice_index b x < slice_index a x → better (x ∷ order) a b ≡ false
better-more x order a b h = elim (eqb_tells (slice_index a x) (slice_index b x)) [
  | inl same ↦ absurd (omega (arith, same.1))
  | inr other ↦ rw other.0 (le-ltb (slice_index a x) (slice_index b x) (omega arith))
]

-- what a better profile has at the first constraint
record First (x : ℕ) (order a b : List ℕ) : Type 0 where
  fewer : slice_index a x ≤ slice_index b x
  rest : slice_index a x ≡ slice_index b x → better order a b ≡ true

first_of : (x : ℕ) (order a b : List ℕ) → better (x ∷ order) a b ≡ true → First x order a b
first_of x order a b h = elim (three (slice_index a x) (slice_index b x)) [
  | inl less ↦ record { fewer = omega arith; rest = λ e. absurd (omega arith) }
  | inr not_less ↦ elim not_less [
    | inl same ↦ record { fewer = omega arith; rest = λ e. sym (better-same x order a b same) ∙ h }
    | inr more ↦ let no : true ≡ false = sym h ∙ better-more x order a b more in absurd (cc)
  ]
]

-- Of two profiles not each is better than the other.
pub better-once : (order a b : List ℕ) → better order a b ≡ true → better order b a ≡ true → ⊥
better-once [] a b p q = let no : true ≡ false = sym p in absurd (cc)
better-once (x ∷ order) a b p q =
    let f = first_of x order a b p in
    let g = first_of x order b a q in
    better-once order a b (f.rest (omega (arith, f.fewer, g.fewer))) (g.rest (omega (arith, f.fewer, g.fewer)))

better-along : (order a b c : List ℕ) → better order a b ≡ true → better order b c ≡ true → better order a c ≡ true
better-along [] a b c p q = let no : true ≡ false = sym p in absurd (cc)
better-along (x ∷ order) a b c p q =
    let f = first_of x order a b p in
    let g = first_of x order b c q in
    elim (three (slice_index a x) (slice_index c x)) [
      | inl less ↦ better-less x order a c less
      | inr not_less ↦ elim not_less [
        | inl same ↦ better-same x order a c same ∙ better-along order a b c (f.rest (omega (arith, f.fewer, g.fewer))) (g.rest (omega (arith, f.fewer, g.fewer)))
        | inr more ↦ absurd (omega (arith, f.fewer, g.fewer))
      ]
    ]

better-either : (order a b : List ℕ) (c : ℕ) → 0 < count_of c order → slice_index a c ≢ slice_index b c → (better order a b ≡ true) ⊎ (better order b a ≡ true)
better-either [] a b c h n = absurd (omega arith)
better-either (x ∷ order) a b c h n = elim (three (slice_index a x) (slice_index b x)) [
  | inl less ↦ inl (better-less x order a b less)
  | inr not_less ↦ elim not_less [
    | inr more ↦ inr (better-less x order b a more)
    | inl same ↦
        let other : x ≢ c = λ e. n (sym (ap (slice_index a) e) ∙ same ∙ ap (slice_index b) e) in
        elim (better-either order a b c (omega (arith, count_past c x order other)) n) [
          | inl one ↦ inl (better-same x order a b same ∙ one)
          | inr two ↦ inr (better-same x order b a (sym same) ∙ two)
        ]
  ]
]

-- ---- the optimal class
pub optimal-within : (order : List ℕ) (classes : List (List ℕ)) (a : ℕ) → optimal order classes a ≡ true → a < length classes
optimal-within order classes a h = ltb-true a (length classes) (and_parts (nat_lt a (length classes)) _ h).0

optimal-better : (order : List ℕ) (classes : List (List ℕ)) (a b : ℕ) → optimal order classes a ≡ true → b < length classes → b ≢ a → better order (slice_index_or classes a []) (slice_index_or classes b []) ≡ true
optimal-better order classes a b h below other =
    let test : ℕ → Bool = λ k. (k == a) || better order (slice_index_or classes a []) (slice_index_or classes k []) in
    let passes : test b ≡ true = all_below test 0 (length classes) b (and_parts (nat_lt a (length classes)) _ h).1 (omega arith) (omega arith) in
    elim (or_cases (b == a) (better order (slice_index_or classes a []) (slice_index_or classes b [])) passes) [
      | inl same ↦ absurd (other (eqb-true b a same))
      | inr it ↦ it
    ]

-- Two optimal classes of an input are one.
pub optimal-once : (order : List ℕ) (classes : List (List ℕ)) (a b : ℕ) → optimal order classes a ≡ true → optimal order classes b ≡ true → a ≡ b
optimal-once order classes a b p q = elim (cases_eq a b) [
  | inl same ↦ same
  | inr other ↦ absurd (better-once order (slice_index_or classes a []) (slice_index_or classes b [])
      (optimal-better order classes a b p (optimal-within order classes b q) (λ e. other (sym e)))
      (optimal-better order classes b a q (optimal-within order classes a p) other))
]

-- the best of the first classes, so many of them
record Best (order : List ℕ) (classes : List (List ℕ)) (k : ℕ) : Type 0 where
  at : ℕ
  within : at < k
  best : (b : ℕ) → b < k → b ≢ at → better order (slice_index_or classes at []) (slice_index_or classes b []) ≡ true

best_of : (n : ℕ) (order : List ℕ) (classes : List (List ℕ)) → IsRanking n order → AreClasses n classes → (k : ℕ) → k < length classes → Best order classes (suc k)
best_of n order classes ranking c zero h = record { at = 0; within = omega arith; best = λ b below other. absurd (omega arith) }
best_of n order classes ranking c (suc k) h =
    let r = best_of n order classes ranking c k (omega arith) in
    let d = c.distinct r.at (suc k) (omega (arith, r.within)) h (λ e. omega (arith, r.within)) in
    elim (better-either order (slice_index_or classes r.at []) (slice_index_or classes (suc k) []) d.at (omega (arith, ranking.each d.at d.within)) d.differ) [
      | inl stays ↦ record {
        at = r.at;
        within = omega (arith, r.within);
        best = λ b below other. elim (cases_eq b (suc k)) [
          | inl last ↦ rw last stays
          | inr earlier ↦ r.best b (omega arith) other
        ];
      }
      | inr gives_way ↦ record {
        at = suc k;
        within = omega arith;
        best = λ b below other. elim (cases_eq b r.at) [
          | inl former ↦ rw former gives_way
          | inr earlier ↦ better-along order (slice_index_or classes (suc k) []) (slice_index_or classes r.at []) (slice_index_or classes b []) gives_way (r.best b (omega arith) earlier)
        ];
      }
    ]

pub record Optimum (order : List ℕ) (classes : List (List ℕ)) : Type 0 where
  pub at : ℕ
  pub optimal : optimal order classes at ≡ true

optimum_from : (order : List ℕ) (classes : List (List ℕ)) (k : ℕ) → suc k ≡ length classes → Best order classes (suc k) → Optimum order classes
optimum_from order classes k e r = record {
  at = r.at;
  optimal = and_from _ _ (lt-ltb r.at (length classes) (omega (arith, r.within))) (all_below-from _ 0 (length classes) (λ b l below. elim (eqb_tells b r.at) [
    | inl same ↦ or_left (b == r.at) _ same.0
    | inr other ↦ or_right (b == r.at) _ (r.best b (omega arith) other.1)
  ]));
}

-- Of some classes of n constraints each, no two alike, one is optimal.
pub optimum : (n : ℕ) (order : List ℕ) (classes : List (List ℕ)) → IsRanking n order → AreClasses n classes → 0 < length classes → Optimum order classes
optimum n order classes ranking c some = by (length classes) refl
  where
    by : (m : ℕ) → m ≡ length classes → Optimum order classes
    by zero e = absurd (omega arith)
    by (suc k) e = optimum_from order classes k e (best_of n order classes ranking c k (omega arith))
