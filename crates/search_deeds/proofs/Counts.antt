-- How often a list of numbers stands among others.
use Rattle.std.proofs.Common.{◌≡◌, ℕ, zero, suc, ◌+◌, ◌<◌, ◌≤◌, List, [], ◌∷◌, ◌++◌, Bool, true, false, ◌&&◌, arith, refl, sym, ◌∙◌, ap, inl, inr, cond, map, flat_map, zero-add}
use Rattle.std.specs.Prelude.{filter, nat_eq}
use Rattle.std.specs.List.{range_with_len}
use Rattle.std.specs.Cmp.Lexicographic.{pointwise}
use Rattle.std.proofs.lemmas.Bool.{and_right}
use Rattle.std.proofs.lemmas.Bool.Decides.{eqb_tells}
use Rattle.std.proofs.Math.Bool.{and_assoc}
use Rattle.std.proofs.lemmas.List.Sums.{sum_by-cons, sum_by-append}
use Rattle.ot_theory.proofs.Candidates.{same-true}
use Rattle.search_deeds.specs.Deeds.{times}

-- two lists of numbers are equal
abbrev pub same : List ℕ → List ℕ → Bool
same xs ys = pointwise nat_eq xs ys

pub times-cons : (p x : List ℕ) (xs : List (List ℕ)) → times p (x ∷ xs) ≡ cond (same p x) 1 0 + times p xs
times-cons p x xs = sum_by-cons (λ y. cond (same p y) 1 0) x xs

pub times-append : (p : List ℕ) (xs ys : List (List ℕ)) → times p (xs ++ ys) ≡ times p xs + times p ys
times-append p xs ys = sum_by-append (λ y. cond (same p y) 1 0) xs ys

pub nothing : (b : Bool) → ◌≡◌ {A = ℕ} 0 (cond b 0 0)
nothing true = refl
nothing false = refl

-- of a filtered list
pub times-filter : (p : List ℕ) (test : List ℕ → Bool) (xs : List (List ℕ)) → times p (filter test xs) ≡ cond (test p) (times p xs) 0
times-filter p test [] = nothing (test p)
times-filter p test (x ∷ xs) =
    kept (test x) (filter test xs)
    ∙ ap (λ n. cond (test x) (cond (same p x) 1 0) 0 + n) (times-filter p test xs)
    ∙ by (test x) (test p) (same p x) (times p xs) (λ e. ap test (sym (same-true p x e)))
    ∙ ap (λ n. cond (test p) n 0) (sym (times-cons p x xs))
  where
    kept : (b : Bool) (ys : List (List ℕ)) → times p (cond b (x ∷ ys) ys) ≡ cond b (cond (same p x) 1 0) 0 + times p ys
    kept true ys = times-cons p x ys
    kept false ys = sym (zero-add (times p ys))

    by : (a b s : Bool) (n : ℕ) → (s ≡ true → a ≡ b) → cond a (cond s 1 0) 0 + cond b n 0 ≡ cond b (cond s 1 0 + n) 0
    by true true s n h = refl
    by false false s n h = refl
    by true false false n h = refl
    by false true false n h = refl
    by true false true n h = absurd (let e : true ≡ false = h refl in cc)
    by false true true n h = absurd (let e : false ≡ true = h refl in cc)

and_true_right : (b : Bool) → (b && true) ≡ b
and_true_right true = refl
and_true_right false = refl

-- lists with one number more
pub same-push : (p q : List ℕ) (a b : ℕ) → same (p ++ a ∷ []) (q ++ b ∷ []) ≡ (same p q && nat_eq a b)
same-push [] [] a b = and_true_right (nat_eq a b)
same-push [] (y ∷ []) a b = and_right (nat_eq a y) false refl
same-push [] (y ∷ z ∷ q) a b = and_right (nat_eq a y) false refl
same-push (x ∷ []) [] a b = and_right (nat_eq x b) false refl
same-push (x ∷ z ∷ p) [] a b = and_right (nat_eq x b) false refl
same-push (x ∷ p) (y ∷ q) a b = ap (λ c. nat_eq x y && c) (same-push p q a b) ∙ sym (and_assoc (nat_eq x y) (same p q) (nat_eq a b))

-- of a list for each number of a range: it is that of one number
pub times-outside : (f : ℕ → List ℕ) (p : List ℕ) (s n : ℕ) → ((k : ℕ) → s ≤ k → k < s + n → same p (f k) ≡ false) → times p (map f (range_with_len s n)) ≡ 0
times-outside f p s zero h = refl
times-outside f p s (suc n) h =
    times-cons p (f s) (map f (range_with_len (s + 1) n))
    ∙ ap (λ c. cond c 1 0 + times p (map f (range_with_len (s + 1) n))) (h s (omega arith) (omega arith))
    ∙ zero-add (times p (map f (range_with_len (s + 1) n)))
    ∙ times-outside f p (s + 1) n (λ k l u. h k (omega arith) (omega arith))

pub times-within : (f : ℕ → List ℕ) (p : List ℕ) (b s n : ℕ) → s ≤ b → b < s + n → ((k : ℕ) → same p (f k) ≡ nat_eq b k) → times p (map f (range_with_len s n)) ≡ 1
times-within f p b s zero l u h = absurd (omega arith)
times-within f p b s (suc n) l u h = elim (eqb_tells b s) [
  | inl here ↦
      times-cons p (f s) (map f (range_with_len (s + 1) n))
      ∙ ap (λ c. cond c 1 0 + times p (map f (range_with_len (s + 1) n))) (h s ∙ here.0)
      ∙ ap (λ m. 1 + m) (times-outside f p (s + 1) n (λ k a z. h k ∙ past k (omega (arith, here.1))))
  | inr other ↦
      times-cons p (f s) (map f (range_with_len (s + 1) n))
      ∙ ap (λ c. cond c 1 0 + times p (map f (range_with_len (s + 1) n))) (h s ∙ other.0)
      ∙ zero-add (times p (map f (range_with_len (s + 1) n)))
      ∙ times-within f p b (s + 1) n (omega (arith, other.1)) (omega arith) h
]
  where
    past : (k : ℕ) → b < k → nat_eq b k ≡ false
    past k less = elim (eqb_tells b k) [
      | inl here ↦ absurd (omega (arith, here.1))
      | inr other ↦ other.0
    ]

pub times-none : (xs : List (List ℕ)) (a : ℕ) → times [] (map (λ rest. a ∷ rest) xs) ≡ 0
times-none [] a = refl
times-none (x ∷ xs) a = times-cons [] (a ∷ x) (map (λ rest. a ∷ rest) xs) ∙ zero-add (times [] (map (λ rest. a ∷ rest) xs)) ∙ times-none xs a

-- of lists that begin with one number
pub times-begun : (a b : ℕ) (p : List ℕ) (xs : List (List ℕ)) → times (a ∷ p) (map (λ rest. b ∷ rest) xs) ≡ cond (nat_eq a b) (times p xs) 0
times-begun a b p [] = nothing (nat_eq a b)
times-begun a b p (x ∷ xs) =
    times-cons (a ∷ p) (b ∷ x) (map (λ rest. b ∷ rest) xs)
    ∙ ap (λ n. cond (nat_eq a b && same p x) 1 0 + n) (times-begun a b p xs)
    ∙ by (nat_eq a b) (same p x) (times p xs)
    ∙ ap (λ n. cond (nat_eq a b) n 0) (sym (times-cons p x xs))
  where
    by : (c s : Bool) (n : ℕ) → cond (c && s) 1 0 + cond c n 0 ≡ cond c (cond s 1 0 + n) 0
    by true s n = refl
    by false s n = refl

-- of lists that begin with the numbers of a range

pub times-blocks-none : (xs : List (List ℕ)) (s n : ℕ) → times [] (flat_map (λ b. map (λ rest. b ∷ rest) xs) (range_with_len s n)) ≡ 0
times-blocks-none xs s zero = refl
times-blocks-none xs s (suc n) =
    omega (arith, times-append [] (map (λ rest. s ∷ rest) xs) (flat_map (λ b. map (λ rest. b ∷ rest) xs) (range_with_len (s + 1) n)), times-none xs s, times-blocks-none xs (s + 1) n)

pub times-blocks-outside : (a : ℕ) (p : List ℕ) (xs : List (List ℕ)) (s n : ℕ) → ((k : ℕ) → s ≤ k → k < s + n → nat_eq a k ≡ false) → times (a ∷ p) (flat_map (λ b. map (λ rest. b ∷ rest) xs) (range_with_len s n)) ≡ 0
times-blocks-outside a p xs s zero h = refl
times-blocks-outside a p xs s (suc n) h =
    times-append (a ∷ p) (map (λ rest. s ∷ rest) xs) (flat_map (λ b. map (λ rest. b ∷ rest) xs) (range_with_len (s + 1) n))
    ∙ ap (λ m. m + times (a ∷ p) (flat_map (λ b. map (λ rest. b ∷ rest) xs) (range_with_len (s + 1) n))) (times-begun a s p xs ∙ ap (λ c. cond c (times p xs) 0) (h s (omega arith) (omega arith)))
    ∙ zero-add (times (a ∷ p) (flat_map (λ b. map (λ rest. b ∷ rest) xs) (range_with_len (s + 1) n)))
    ∙ times-blocks-outside a p xs (s + 1) n (λ k l u. h k (omega arith) (omega arith))

pub times-blocks-within : (a : ℕ) (p : List ℕ) (xs : List (List ℕ)) (s n : ℕ) → s ≤ a → a < s + n → times (a ∷ p) (flat_map (λ b. map (λ rest. b ∷ rest) xs) (range_with_len s n)) ≡ times p xs
times-blocks-within a p xs s zero l u = absurd (omega arith)
times-blocks-within a p xs s (suc n) l u =
    times-append (a ∷ p) (map (λ rest. s ∷ rest) xs) (flat_map (λ b. map (λ rest. b ∷ rest) xs) (range_with_len (s + 1) n)) ∙ elim (eqb_tells a s) [
      | inl here ↦
          let first : times (a ∷ p) (map (λ rest. s ∷ rest) xs) ≡ times p xs = times-begun a s p xs ∙ ap (λ c. cond c (times p xs) 0) here.0 in
          let others = times-blocks-outside a p xs (s + 1) n (λ k m z. past k (omega (arith, here.1))) in
          omega (arith, first, others)
      | inr other ↦
          let first : times (a ∷ p) (map (λ rest. s ∷ rest) xs) ≡ 0 = times-begun a s p xs ∙ ap (λ c. cond c (times p xs) 0) other.0 in
          let others = times-blocks-within a p xs (s + 1) n (omega (arith, other.1)) (omega arith) in
          omega (arith, first, others)
    ]
  where
    past : (k : ℕ) → a < k → nat_eq a k ≡ false
    past k less = elim (eqb_tells a k) [
      | inl here ↦ absurd (omega (arith, here.1))
      | inr other ↦ other.0
    ]
