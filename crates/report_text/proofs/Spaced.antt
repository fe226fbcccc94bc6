-- Lists with something between each two items, one more item at a time.
use Rattle.std.proofs.Common.{◌≡◌, ℕ, zero, suc, ◌+◌, ◌*◌, ◌<◌, ◌≤◌, List, [], ◌∷◌, ◌++◌, length, get_or, take, drop, map, Bool, true, false, cond, eqb, ◌==◌, slice_index, filter, decimal, flat_map, arith, refl, sym, ap, append_assoc, ◌∙◌}
use Rattle.std.specs.List.{join_with_byte, join_by, range_with_len}
use Rattle.std.proofs.lemmas.List.{map_push, map-id, append-nil, take_more}
use Rattle.std.proofs.lemmas.List.FromFn.{map-range_with_len_more, filter_of_map_range_with_len_more}
use Rattle.std.proofs.lemmas.Bool.{eq-eqb, ne_eqb}
use Rattle.std.proofs.lemmas.List.Concat.{flat_map-append}
use Rattle.std.proofs.lemmas.List.Folds.{flat_map-map}
use Rattle.ot_theory.specs.Rankings.{numbers_below}
use Rattle.report_text.specs.Spelling.{behind, spaced}

-- each item but the first has the byte before it
pub join-cons : (c : ℕ) (x : List ℕ) (xs : List (List ℕ)) → join_with_byte c (x ∷ xs) ≡ x ++ flat_map (λ y. c ∷ y) xs
join-cons c x [] = sym (append-nil x)
join-cons c x (y ∷ xs) = ap (λ (rest : List ℕ). x ++ (c ∷ rest)) (join-cons c y xs)

-- whether nothing comes before
abbrev pub is_first : {X : Type 0} → List X → Bool
is_first [] = true
is_first (x ∷ xs) = false

joined-push : {X : Type 0} (c : ℕ) (f : X → List ℕ) (xs : List X) (x : X) → join_with_byte c (map f (xs ++ x ∷ [])) ≡ join_with_byte c (map f xs) ++ (cond (is_first xs) [] (c ∷ []) ++ f x)
joined-push c f [] x = refl
joined-push c f (y ∷ xs) x =
    let one : flat_map (λ z. c ∷ z) (map f (xs ++ x ∷ [])) ≡ flat_map (λ z. c ∷ z) (map f xs) ++ (c ∷ f x) =
    rw (map_push f xs x, flat_map-append, append-nil) refl
    in
    rw (join-cons c (f y) (map f (xs ++ x ∷ [])), join-cons c (f y) (map f xs), one) (sym (append_assoc (f y) _ _))

first_at : {X : Type 0} (xs : List X) (k : ℕ) → k < length xs → is_first (take k xs) ≡ eqb k 0
first_at xs zero below = refl
first_at [] (suc k) below = absurd (omega arith)
first_at (x ∷ xs) (suc k) below = sym (ne_eqb (suc k) 0 (λ e. omega arith))

-- the first k + 1 items, with a byte between each two
pub joined_more : {X : Type 0} (c : ℕ) (f : X → List ℕ) (xs : List X) (k : ℕ) (d : X) → k < length xs → join_with_byte c (map f (take (k + 1) xs)) ≡ join_with_byte c (map f (take k xs)) ++ (cond (eqb k 0) [] (c ∷ []) ++ f (get_or xs k d))
joined_more c f xs k d below =
    rw (take_more xs k d below, joined-push c f (take k xs) (get_or xs k d), first_at xs k below) refl

join_by-push : {X : Type 0} (f : X → List ℕ) (separator : List ℕ) (xs : List X) (x : X) → join_by f separator (xs ++ x ∷ []) ≡ join_by f separator xs ++ (cond (is_first xs) [] separator ++ f x)
join_by-push f separator [] x = append-nil (f x)
join_by-push f separator (y ∷ xs) x =
    rw (flat_map-append (λ z. separator ++ f z) xs (x ∷ []), append-nil (separator ++ f x)) (sym (append_assoc (f y) (flat_map (λ z. separator ++ f z) xs) (separator ++ f x)))

range-push : (a n : ℕ) → range_with_len a (n + 1) ≡ range_with_len a n ++ (a + n) ∷ []
range-push a n = simp map-id at (map-range_with_len_more (λ (x : ℕ). x) a n (a + n) refl)

first_in_range : (a n : ℕ) → is_first (range_with_len a n) ≡ eqb n 0
first_in_range a zero = refl
first_in_range a (suc n) = sym (ne_eqb (suc n) 0 (λ e. omega arith))

-- the strata from 1 on, one more stratum at a time
pub strata_more : (f : ℕ → List ℕ) (separator : List ℕ) (n : ℕ) → join_by f separator (range_with_len 1 (n + 1)) ≡ join_by f separator (range_with_len 1 n) ++ (cond (eqb n 0) [] separator ++ f (n + 1))
strata_more f separator n =
    let next : 1 + n ≡ n + 1 = omega arith in
    rw (range-push 1 n, join_by-push f separator (range_with_len 1 n) (1 + n), first_in_range 1 n, next) refl

-- the lines of the strata from 1 on, one more stratum at a time
pub range_lines_more : (f : ℕ → List ℕ) (n : ℕ) → flat_map f (range_with_len 1 (n + 1)) ≡ flat_map f (range_with_len 1 n) ++ f (n + 1)
range_lines_more f n =
    let next : 1 + n ≡ n + 1 = omega arith in
    rw (range-push 1 n, flat_map-append f (range_with_len 1 n) ((1 + n) ∷ []), append-nil (f (1 + n)), next) refl

-- the constraints of a stratum among the first c
abbrev pub stratum_below : List ℕ → ℕ → ℕ → List ℕ
stratum_below levels s c = filter (λ d. slice_index levels d == s) (numbers_below c)

pub stratum_below-push : (levels : List ℕ) (s c : ℕ) → stratum_below levels s (c + 1) ≡ stratum_below levels s c ++ cond (eqb (get_or levels c 0) s) (c ∷ []) []
stratum_below-push levels s c =
    simp map-id at (filter_of_map_range_with_len_more (λ (d : ℕ). slice_index levels d == s) (λ (d : ℕ). d) 0 c c (omega arith))

-- numbers, each behind a space, without the first space
pub spaced-behind : (numbers : List ℕ) → drop 1 (behind 32 numbers) ≡ spaced numbers
spaced-behind [] = refl
spaced-behind (n ∷ numbers) = sym (join-cons 32 (decimal n) (map decimal numbers) ∙ ap (λ (l : List ℕ). decimal n ++ l) (flat_map-map (λ (y : List ℕ). 32 ∷ y) decimal numbers))

first-map : {X Y : Type 0} (f : X → Y) (xs : List X) → is_first (map f xs) ≡ is_first xs
first-map f [] = refl
first-map f (x ∷ xs) = refl

first-push : {X : Type 0} (xs : List X) (x : X) → is_first (xs ++ x ∷ []) ≡ false
first-push [] x = refl
first-push (y ∷ xs) x = refl

-- one constraint more of a stratum, with a space before it unless it is the first
spaced-push : (xs : List ℕ) (c : ℕ) → spaced (map (λ d. d + 1) (xs ++ c ∷ [])) ≡ spaced (map (λ d. d + 1) xs) ++ (cond (is_first xs) [] (32 ∷ []) ++ decimal (c + 1))
spaced-push xs c =
    let next : ℕ → ℕ = λ d. d + 1 in
    ap spaced (map_push next xs c) ∙ joined-push 32 decimal (map next xs) (c + 1)
    ∙ ap (λ (first : Bool). spaced (map next xs) ++ (cond first [] (32 ∷ []) ++ decimal (c + 1))) (first-map next xs)

-- They stand behind the first bytes, with a space between each two.
pub record IsStratumBehind (levels : List ℕ) (s c start end : ℕ) (old bytes : List ℕ) : Type 0 where
  pub long : length bytes ≡ length old
  pub later : start ≤ end
  pub short : end ≤ start + 3 * c
  pub none : eqb end start ≡ is_first (stratum_below levels s c)
  pub written : take end bytes ≡ take start old ++ spaced (map (λ d. d + 1) (stratum_below levels s c))

pub IsStratumBehind-in : (levels : List ℕ) (s c start end next : ℕ) (old bytes new : List ℕ) → eqb (get_or levels c 0) s ≡ true → length new ≡ length bytes → end < next → next ≤ end + 3
    → take next new ≡ take end bytes ++ (cond (eqb end start) [] (32 ∷ []) ++ decimal (c + 1)) → IsStratumBehind levels s c start end old bytes → IsStratumBehind levels s (c + 1) start next old new
IsStratumBehind-in levels s c start end next old bytes new here long some short step below =
    let xs = stratum_below levels s c in
    let more : stratum_below levels s (c + 1) ≡ xs ++ c ∷ [] = rw here at (stratum_below-push levels s c) in
    let one : List ℕ = cond (is_first xs) [] (32 ∷ []) ++ decimal (c + 1) in
    record {
      long = long ∙ below.long;
      later = omega (arith, some, below.later);
      short = omega (arith, short, below.short);
      none = ne_eqb next start (λ e. omega (arith, some, below.later, e)) ∙ sym (ap is_first more ∙ first-push xs c);
      written = step
          ∙ ap (λ (first : Bool). take end bytes ++ (cond first [] (32 ∷ []) ++ decimal (c + 1))) below.none
          ∙ ap (λ (l : List ℕ). l ++ one) below.written
          ∙ append_assoc (take start old) (spaced (map (λ d. d + 1) xs)) one
          ∙ ap (λ (l : List ℕ). take start old ++ l) (sym (ap (λ (l : List ℕ). spaced (map (λ d. d + 1) l)) more ∙ spaced-push xs c));
    }

pub IsStratumBehind-out : (levels : List ℕ) (s c start end : ℕ) (old bytes : List ℕ) → eqb (get_or levels c 0) s ≡ false → IsStratumBehind levels s c start end old bytes → IsStratumBehind levels s (c + 1) start end old bytes
IsStratumBehind-out levels s c start end old bytes other below =
    let same : stratum_below levels s (c + 1) ≡ stratum_below levels s c = rw (other, append-nil) at (stratum_below-push levels s c) in
    record { long = below.long; later = below.later; short = omega (arith, below.short); none = rw same below.none; written = rw same below.written }

-- none of them, at first
pub IsStratumBehind-none : (levels : List ℕ) (s start : ℕ) (bytes : List ℕ) → IsStratumBehind levels s 0 start start bytes bytes
IsStratumBehind-none levels s start bytes = record { long = refl; later = omega arith; short = omega arith; none = eq-eqb start start refl; written = sym (append-nil (take start bytes)) }
