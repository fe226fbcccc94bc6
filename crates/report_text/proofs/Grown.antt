-- Texts that grow by the pieces of a list's items, one more item at a time.
use Rattle.std.proofs.Common.{◌≡◌, ℕ, ◌+◌, ◌<◌, List, [], ◌∷◌, ◌++◌, length, get_or, take, map, flat_map, arith, refl, sym, ◌∙◌, ap}
use Rattle.std.specs.List.{enumerate_from, zip}
use Rattle.std.proofs.lemmas.List.{take_more, length-take-le, append-nil, map-append, length-map, get_or-map}
use Rattle.std.proofs.lemmas.List.Concat.{flat_map-append}
use Rattle.std.proofs.lemmas.Slice.Zip.{length-zip, get_or-zip}

enumerate_from-push : {X : Type 0} (n : ℕ) (xs : List X) (x : X) → enumerate_from n (xs ++ x ∷ []) ≡ enumerate_from n xs ++ (n + length xs, x) ∷ []
enumerate_from-push {X} n [] x = let e : n ≡ n + 0 = omega arith in ap (λ (m : ℕ). (m, x) ∷ []) e
enumerate_from-push {X} n (y ∷ xs) x =
    let e : n + 1 + length xs ≡ n + length (y ∷ xs) = omega arith in
    rw (enumerate_from-push (n + 1) xs x, e) refl

-- items that are numbered from n on
numbered_from : {X : Type 0} (n : ℕ) (f : ℕ × X → List ℕ) (xs : List X) (k : ℕ) (x d : X) → k < length xs → x ≡ get_or xs k d → flat_map f (enumerate_from n (take (k + 1) xs)) ≡ flat_map f (enumerate_from n (take k xs)) ++ f (k + n, x)
numbered_from {X} n f xs k x d below here =
    let long : n + length (take k xs) ≡ k + n = omega (arith, length-take-le k xs (omega arith)) in
    rw (take_more xs k d below, enumerate_from-push, long, ← here, flat_map-append, append-nil) refl

-- items that are numbered from 1 on
pub numbered_more : {X : Type 0} (f : ℕ × X → List ℕ) (xs : List X) (k : ℕ) (x d : X) → k < length xs → x ≡ get_or xs k d → flat_map f (enumerate_from 1 (take (k + 1) xs)) ≡ flat_map f (enumerate_from 1 (take k xs)) ++ f (k + 1, x)
numbered_more f xs k x d below here = numbered_from 1 f xs k x d below here

-- items that are numbered from 1 on, each by a part of it
pub numbered_parts_more : {X Y : Type 0} (f : ℕ × Y → List ℕ) (part : X → Y) (xs : List X) (k : ℕ) (x : X) → k < length xs → x ≡ get_or xs k x → flat_map f (enumerate_from 1 (take (k + 1) (map part xs))) ≡ flat_map f (enumerate_from 1 (take k (map part xs))) ++ f (k + 1, part x)
numbered_parts_more f part xs k x below here =
    numbered_more f (map part xs) k (part x) (part x) (omega (arith, length-map xs part)) (ap part here ∙ sym (get_or-map part xs k x (part x) below))

-- items that are numbered from 0 on
pub counted_more : {X : Type 0} (f : ℕ × X → List ℕ) (xs : List X) (k : ℕ) (x d : X) → k < length xs → x ≡ get_or xs k d → flat_map f (enumerate_from 0 (take (k + 1) xs)) ≡ flat_map f (enumerate_from 0 (take k xs)) ++ f (k, x)
counted_more f xs k x d below here = let e : k + 0 ≡ k = omega arith in rw e at (numbered_from 0 f xs k x d below here)

-- the items of two lists, in pairs
pub numbered_pairs_more : {X Y : Type 0} (f : ℕ × (X × Y) → List ℕ) (xs : List X) (ys : List Y) (k : ℕ) (x : X) (y : Y) → k < length xs → k < length ys → x ≡ get_or xs k x → y ≡ get_or ys k y → flat_map f (enumerate_from 1 (take (k + 1) (zip xs ys))) ≡ flat_map f (enumerate_from 1 (take k (zip xs ys))) ++ f (k + 1, (x, y))
numbered_pairs_more f xs ys k x y in_xs in_ys x-here y-here =
    numbered_more f (zip xs ys) k (x, y) (x, y) (omega (arith, length-zip xs ys)) (rw (get_or-zip xs ys k (x, y) in_xs in_ys, ← x-here, ← y-here) refl)

-- items one after the other
pub each_more : {X : Type 0} (f : X → List ℕ) (xs : List X) (k : ℕ) (d : X) → k < length xs → flat_map f (take (k + 1) xs) ≡ flat_map f (take k xs) ++ f (get_or xs k d)
each_more f xs k d below = rw (take_more xs k d below, flat_map-append, append-nil) refl

-- items as fields, each behind a tab
abbrev pub fields : {X : Type 0} → (X → List ℕ) → List X → List ℕ
fields field xs = flat_map (λ text. 9 ∷ text) (map field xs)

pub fields-push : {X : Type 0} (field : X → List ℕ) (xs : List X) (x : X) → fields field (xs ++ x ∷ []) ≡ fields field xs ++ (9 ∷ field x)
fields-push field xs x = rw (map-append, flat_map-append, append-nil) refl
