-- What stands at a place of lists that are put together, and of what passes a test.
use Rattle.std.proofs.Common.{◌≡◌, ℕ, zero, suc, ◌+◌, ◌-◌, ◌<◌, ◌≤◌, List, [], ◌∷◌, ◌++◌, Bool, true, false, cond, arith, refl, sym, ◌∙◌, ap, length, length-append, flat_map, take, Option, Some, None}
use Rattle.std.specs.Prelude.{slice_get, count_by, IfNone}
use Rattle.std.specs.List.{filter, range_with_len}
use Rattle.std.proofs.lemmas.List.Concat.{flat_map-append}
use Rattle.std.proofs.lemmas.List.Sums.{count_by_more_no, count_by_more_yes, length-filter, sum_by-cons}
use Rattle.std.proofs.lemmas.Option.{get_or_from_slice_get, slice_get_past, slice_get_within}
use Rattle.ot_theory.specs.Rankings.{numbers_below}
use Rattle.ot_theory.proofs.Terms.{numbers_below-more}

pub get-left : {X : Type 0} (xs ys : List X) (k : ℕ) → k < length xs → slice_get (xs ++ ys) k ≡ slice_get xs k
get-left [] ys k h = absurd (omega arith)
get-left (x ∷ xs) ys zero h = refl
get-left (x ∷ xs) ys (suc k) h = get-left xs ys k (omega arith)

pub get-right : {X : Type 0} (xs ys : List X) (i k : ℕ) → i ≡ length xs + k → slice_get (xs ++ ys) i ≡ slice_get ys k
get-right [] ys i k e = let same : i ≡ k = omega arith in ap (slice_get ys) same
get-right (x ∷ xs) ys zero k e = absurd (omega arith)
get-right (x ∷ xs) ys (suc i) k e = get-right xs ys i k (omega arith)

-- The numbers of a range stand before one of them, there, and behind it.
range-split : (a b n k m : ℕ) → n ≡ k + suc m → b ≡ a + k → range_with_len a n ≡ range_with_len a k ++ b ∷ range_with_len (b + 1) m
range-split a b zero k m e f = absurd (omega arith)
range-split a b (suc n) zero m e f =
    let here : b ≡ a = omega arith in
    let many : m ≡ n = omega arith in
    rw (here, many) refl
range-split a b (suc n) (suc k) m e f = ap (λ (l : List ℕ). a ∷ l) (range-split (a + 1) b n k m (omega arith) (omega arith))

around : (n w : ℕ) → w < n → numbers_below n ≡ numbers_below w ++ w ∷ range_with_len (w + 1) (n - w - 1)
around n w h = range-split 0 w n w (n - w - 1) (omega arith) (omega arith)

-- A place among what the numbers give one after another.
pub flat-place : {X : Type 0} (f : ℕ → List X) (n w i k : ℕ) → w < n → k < length (f w) → i ≡ length (flat_map f (numbers_below w)) + k → slice_get (flat_map f (numbers_below n)) i ≡ slice_get (f w) k
flat-place f n w i k h short e =
    let behind : List ℕ = range_with_len (w + 1) (n - w - 1) in
    ap (λ (l : List ℕ). slice_get (flat_map f l) i) (around n w h)
    ∙ ap (λ l. slice_get l i) (flat_map-append f (numbers_below w) (w ∷ behind))
    ∙ get-right (flat_map f (numbers_below w)) (f w ++ flat_map f behind) i k e
    ∙ get-left (f w) (flat_map f behind) k short

pub flat-more : {X : Type 0} (f : ℕ → List X) (w : ℕ) → length (flat_map f (numbers_below (w + 1))) ≡ length (flat_map f (numbers_below w)) + length (f w)
flat-more f w =
    let all = ap (λ (l : List ℕ). length (flat_map f l)) (numbers_below-more w) ∙ ap length (flat_map-append f (numbers_below w) (w ∷ [])) in
    omega (arith, all, length-append (flat_map f (numbers_below w)) (f w ++ []), length-append (f w) [])

pub nil : {X : Type 0} (xs : List X) → length xs ≡ 0 → xs ≡ []
nil [] h = refl
nil (x ∷ xs) h = absurd (omega arith)

-- Where nothing comes of all numbers, nothing comes of each.
pub flat-none : {X : Type 0} (f : ℕ → List X) (n w : ℕ) → flat_map f (numbers_below n) ≡ [] → w < n → f w ≡ []
flat-none f n w e h =
    let behind : List ℕ = range_with_len (w + 1) (n - w - 1) in
    let all = ap (λ (l : List ℕ). length (flat_map f l)) (around n w h) ∙ ap length (flat_map-append f (numbers_below w) (w ∷ behind)) in
    let none = ap length e in
    nil (f w) (omega (arith, all, none, length-append (flat_map f (numbers_below w)) (f w ++ flat_map f behind), length-append (f w) (flat_map f behind)))

-- one for what passes, and none for what does not
abbrev pub bit : Bool → ℕ
bit b = cond b 1 0

pub bit-few : (b : Bool) → bit b ≤ 1
bit-few true = omega arith
bit-few false = omega arith

hit-next : {X : Type 0} (test : X → Bool) (y : X) (xs before : List X) (k : ℕ) (x : X) → k ≡ count_by test (y ∷ before) → ((n : ℕ) → n ≡ count_by test before → slice_get (filter test xs) n ≡ Some x) → slice_get (filter test (y ∷ xs)) k ≡ Some x
hit-next test y xs before k x c rest = by (test y) refl
  where
    by : (b : Bool) → test y ≡ b → slice_get (cond b (y ∷ filter test xs) (filter test xs)) k ≡ Some x
    by true t =
        let n = count_by test before in
        get-right (y ∷ []) (filter test xs) k n (omega (arith, c, sum_by-cons (λ z. bit (test z)) y before, ap bit t)) ∙ rest n refl
    by false t = rest k (omega (arith, c, sum_by-cons (λ z. bit (test z)) y before, ap bit t))

-- What passes a test stands among all that pass it behind those that pass it before.
pub hit : {X : Type 0} (test : X → Bool) (xs : List X) (i k : ℕ) (x : X) → slice_get xs i ≡ Some x → test x ≡ true → k ≡ count_by test (take i xs) → slice_get (filter test xs) k ≡ Some x
hit test [] i k x e h c = absurd (cc)
hit test (y ∷ xs) zero k x e h c =
    let same : y ≡ x = cc in
    let first : k ≡ 0 = c in
    rw first (ap (λ b. slice_get (cond b (y ∷ filter test xs) (filter test xs)) 0) (ap test same ∙ h) ∙ ap Some same)
hit test (y ∷ xs) (suc i) k x e h c = hit-next test y xs (take i xs) k x c (λ n m. hit test xs i n x e h m)

pub count-more : {X : Type 0} (test : X → Bool) (xs : List X) (i : ℕ) (x : X) → slice_get xs i ≡ Some x → count_by test (take (i + 1) xs) ≡ count_by test (take i xs) + bit (test x)
count-more test xs i x e = by (test x) refl
  where
    by : (b : Bool) → test x ≡ b → count_by test (take (i + 1) xs) ≡ count_by test (take i xs) + bit b
    by true h = count_by_more_yes test xs i x (slice_get_within xs i x e) (ap test (get_or_from_slice_get xs i x x e) ∙ h)
    by false h = omega (arith, count_by_more_no test xs i x (slice_get_within xs i x e) (ap test (get_or_from_slice_get xs i x x e) ∙ h))

pub none-past : {X : Type 0} (test : X → Bool) (xs : List X) (k : ℕ) → count_by test xs ≤ k → slice_get (filter test xs) k ≡ None
none-past test xs k h = slice_get_past (filter test xs) k (omega (arith, length-filter test xs))

none-beyond : {X : Type 0} (xs : List X) (k : ℕ) → slice_get xs k ≡ None → length xs ≤ k
none-beyond [] k e = omega arith
none-beyond (x ∷ xs) zero e = absurd (cc)
none-beyond (x ∷ xs) (suc k) e = omega (arith, none-beyond xs k e)

-- Within a list there is something.
pub some-there : {X : Type 0} (P : Type 0) (xs : List X) (k : ℕ) (slot : Option X) → slot ≡ slice_get xs k → k < length xs → IfNone slot P
some-there P xs k None e h = absurd (omega (arith, none-beyond xs k (sym e), h))
some-there P xs k (Some x) e h = tt
