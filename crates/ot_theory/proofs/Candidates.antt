-- What one candidate more does to the classes of an input, and where the winning candidate stands.
use Rattle.std.proofs.Common.{◌≡◌, ℕ, zero, suc, ◌+◌, ◌-◌, ◌<◌, ◌≤◌, List, [], ◌∷◌, ◌++◌, Bool, true, false, not, ◌||◌, arith, refl, sym, ◌∙◌, ap, cond, inl, inr, length, take, drop, Option, Some, None, MatchOption, slice_index}
use Rattle.std.specs.Prelude.{filter, find, position, is_some, option_and_then, slice_index_or, if◌then◌else◌, nat_lt, nat_le}
use Rattle.std.specs.List.{list_any, list_all, range_with_len, position_or_len}
use Rattle.std.specs.Cmp.Lexicographic.{bytes_decides}
use Rattle.std.proofs.lemmas.Bool.{cases_Bool, cases_lt, and_from, and_left, and_right, lt-ltb, le-ltb, le-leb, lt-leb, false_from_ne_true}
use Rattle.std.proofs.lemmas.Bool.Decides.{nat_tests}
use borrow.Author.Count.{below_more}
use Rattle.std.proofs.lemmas.List.{append-nil, length-drop, get_or-drop, get_or-take, length-take}
use Rattle.std.proofs.lemmas.List.Folds.{list_all_at}
use Rattle.std.proofs.lemmas.List.Elements.{filter-append}
use Rattle.ot_theory.specs.Rankings.{numbers_below}
use Rattle.ot_theory.specs.Problems.{same_profile, classes_of, is_winning, winner_of}

pub same-refl : (x : List ℕ) → same_profile x x ≡ true
same-refl x = (bytes_decides x x).1 refl

pub same-true : (x y : List ℕ) → same_profile x y ≡ true → x ≡ y
same-true x y h = (bytes_decides x y).0 h

-- without the profiles that are like y, one like x is found as before, if x is not like y
pub any-filter : (x y : List ℕ) (profiles : List (List ℕ)) → same_profile y x ≡ false
    → list_any (same_profile x) (filter (λ other. not (same_profile y other)) profiles) ≡ list_any (same_profile x) profiles
any-filter x y [] h = refl
any-filter x y (z ∷ profiles) h = elim (cases_Bool (same_profile y z)) [
  | inl like ↦
      let other : same_profile x z ≡ false = false_from_ne_true (same_profile x z) (λ e. let s = same-true x z e in let t = same-true y z like in let u : same_profile y x ≡ true = rw (t, s) (same-refl z) in cc) in
      rw (like, other) (any-filter x y profiles h)
  | inr unlike ↦ rw (unlike) (ap (λ (b : Bool). same_profile x z || b) (any-filter x y profiles h))
]

pub same-flip : (x y : List ℕ) (b : Bool) → same_profile x y ≡ b → same_profile y x ≡ b
same-flip x y true h = let e = same-true x y h in rw e (same-refl y)
same-flip x y false h = false_from_ne_true (same_profile y x) (λ e. let f = same-true y x e in let g : same_profile x y ≡ true = rw f (same-refl x) in cc)

more_classes : (profiles : List (List ℕ)) (x : List ℕ) → classes_of (profiles ++ x ∷ []) ≡ classes_of profiles ++ cond (list_any (same_profile x) (classes_of profiles)) [] (x ∷ [])
more_classes [] x = refl
more_classes (y ∷ profiles) x =
    let kept = filter-append (λ other. not (same_profile y other)) (classes_of profiles) (cond (list_any (same_profile x) (classes_of profiles)) [] (x ∷ [])) in
    ap (λ (rest : List (List ℕ)). y ∷ filter (λ other. not (same_profile y other)) rest) (more_classes profiles x)
    ∙ ap (λ (rest : List (List ℕ)). y ∷ rest) (kept ∙ ap (λ (rest : List (List ℕ)). filter (λ other. not (same_profile y other)) (classes_of profiles) ++ rest) (tail (same_profile x y) (list_any (same_profile x) (classes_of profiles)) refl refl))
  where
    tail : (b a : Bool) → same_profile x y ≡ b → list_any (same_profile x) (classes_of profiles) ≡ a
        → filter (λ other. not (same_profile y other)) (cond a [] (x ∷ [])) ≡ cond (b || list_any (same_profile x) (filter (λ other. not (same_profile y other)) (classes_of profiles))) [] (x ∷ [])
    tail true true s t = refl
    tail true false s t = rw (same-flip x y true s) refl
    tail false true s t = rw (any-filter x y (classes_of profiles) (same-flip x y false s), t) refl
    tail false false s t = rw (any-filter x y (classes_of profiles) (same-flip x y false s), t, same-flip x y false s) refl

-- One candidate more adds its profile as a class, unless it is there.
pub classes_of-push : (profiles : List (List ℕ)) (x : List ℕ)
    → classes_of (profiles ++ x ∷ []) ≡ (if list_any (same_profile x) (classes_of profiles) then classes_of profiles else classes_of profiles ++ x ∷ [])
classes_of-push profiles x = more_classes profiles x ∙ by (list_any (same_profile x) (classes_of profiles))
  where
    by : (b : Bool) → classes_of profiles ++ cond b [] (x ∷ []) ≡ cond b (classes_of profiles) (classes_of profiles ++ x ∷ [])
    by true = append-nil (classes_of profiles)
    by false = refl

-- the first place that passes is one of the list exactly where some place passes
pub any_position : {X : Type 0} (p : X → Bool) (xs : List X) → is_some (position p xs) ≡ list_any p xs
any_position p xs = some_cond (nat_lt (position_or_len p xs) (length xs)) (position_or_len p xs) ∙ within p xs
  where
    some_cond : (b : Bool) (k : ℕ) → is_some (cond b (Some k) None) ≡ b
    some_cond true k = refl
    some_cond false k = refl

    next : (a b : ℕ) → nat_lt (1 + a) (suc b) ≡ nat_lt a b
    next a b = grind (arith, nat_tests)

    within : {X : Type 0} (p : X → Bool) (xs : List X) → nat_lt (position_or_len p xs) (length xs) ≡ list_any p xs
    within p [] = refl
    within p (x ∷ xs) = elim (cases_Bool (p x)) [
      | inl passes ↦ rw passes (lt-ltb 0 (suc (length xs)) (omega arith))
      | inr fails ↦ rw fails (next (position_or_len p xs) (length xs) ∙ within p xs)
    ]

length-filter : (p : List ℕ → Bool) (xs : List (List ℕ)) → length (filter p xs) ≤ length xs
length-filter p [] = omega arith
length-filter p (x ∷ xs) = elim (cases_Bool (p x)) [
  | inl passes ↦ rw passes (omega (arith, length-filter p xs))
  | inr fails ↦ rw fails (omega (arith, length-filter p xs))
]

-- There are no more classes than candidates.
pub length-classes_of : (profiles : List (List ℕ)) → length (classes_of profiles) ≤ length profiles
length-classes_of [] = omega arith
length-classes_of (x ∷ profiles) = omega (arith, length-classes_of profiles, length-filter (λ other. not (same_profile x other)) (classes_of profiles))

-- Of the first n candidates the winning one, if one of them has a positive count, and the greatest count.
pub record Wins (counts : List ℕ) (n : ℕ) (winner : Option ℕ) (greatest : ℕ) : Type 0 where
  pub bound : (j : ℕ) → j < n → slice_index counts j ≤ greatest
  pub first : MatchOption winner (greatest ≡ 0) (λ w. (w < n) × (0 < greatest) × (slice_index counts w ≡ greatest) × ((j : ℕ) → j < w → slice_index counts j < greatest))

pub Wins-keep : (counts : List ℕ) (n : ℕ) (winner : Option ℕ) (greatest : ℕ) → Wins counts n winner greatest → slice_index counts n ≤ greatest → Wins counts (n + 1) winner greatest
Wins-keep counts n None greatest w h = record { bound = below_more (λ j. slice_index counts j ≤ greatest) n w.bound h; first = w.first }
Wins-keep counts n (Some k) greatest w h = record {
  bound = below_more (λ j. slice_index counts j ≤ greatest) n w.bound h;
  first = (omega (arith, w.first.0), w.first.1, w.first.2, w.first.3);
}

pub Wins-take : (counts : List ℕ) (n count : ℕ) (winner : Option ℕ) (greatest : ℕ) → Wins counts n winner greatest → slice_index counts n ≡ count → greatest < count → Wins counts (n + 1) (Some n) count
Wins-take counts n count winner greatest w e h = record {
  bound = below_more (λ j. slice_index counts j ≤ count) n (λ j below. omega (arith, w.bound j below)) (omega arith);
  first = (omega arith, omega arith, e, λ j below. omega (arith, w.bound j below));
}

-- a test that passes nowhere from s on
find-none : (p : ℕ → Bool) (s n : ℕ) → ((j : ℕ) → j < s + n → p j ≡ false) → find p (range_with_len s n) ≡ None
find-none p s zero h = refl
find-none p s (suc n) h = rw (h s (omega arith)) (find-none p (s + 1) n (λ j below. h j (omega arith)))

-- a test that passes at w and nowhere before it
find-first : (p : ℕ → Bool) (s n w : ℕ) → s ≤ w → w < s + n → p w ≡ true → ((j : ℕ) → j < w → p j ≡ false) → find p (range_with_len s n) ≡ Some w
find-first p s zero w from below passes before = absurd (omega arith)
find-first p s (suc n) w from below passes before = elim (cases_lt s w) [
  | inl later ↦ rw (before s later) (find-first p (s + 1) n w (omega arith) (omega arith) passes before)
  | inr here ↦ let e : s ≡ w = omega arith in rw (e, passes) refl
]

-- a test that passes at each place
each_passes : (p : ℕ → Bool) (xs : List ℕ) → ((j : ℕ) → j < length xs → p (slice_index xs j) ≡ true) → list_all p xs ≡ true
each_passes p [] h = refl
each_passes p (x ∷ xs) h = and_from (p x) (list_all p xs) (h 0 (omega arith)) (each_passes p xs (λ j below. h (suc j) (omega arith)))

-- a candidate before the winning one does not win
loses : (counts : List ℕ) (j w : ℕ) → j < w → w < length counts → slice_index counts j < slice_index counts w → is_winning counts j ≡ false
loses counts j w before within less =
    let at : slice_index (drop j counts) (w - j) ≡ slice_index counts w = get_or-drop j counts (w - j) 0 ∙ ap (slice_index counts) (omega arith) in
    and_right _ _ (list_all_at (λ count. nat_le count (slice_index counts j)) (drop j counts) (w - j) 0 (omega (arith, length-drop j counts)) (lt-leb _ _ (omega arith)))

wins : (counts : List ℕ) (w : ℕ) → w < length counts → 0 < slice_index counts w → ((j : ℕ) → j < w → slice_index counts j < slice_index counts w) → ((j : ℕ) → j < length counts → slice_index counts j ≤ slice_index counts w) → is_winning counts w ≡ true
wins counts w within positive before each =
    and_from _ _ (and_from _ _ (lt-ltb _ _ positive)
    (each_passes _ (take w counts) (λ j below. let front : j < w = omega (arith, length-take w counts) in lt-ltb _ _ (rw (get_or-take w counts j 0 front) (before j front)))))
    (each_passes _ (drop w counts) (λ j below. le-leb _ _ (rw (get_or-drop w counts j 0) (each (w + j) (omega (arith, length-drop w counts))))))

-- The winning candidate is the first that the definition finds.
pub Wins-find : (counts : List ℕ) (winner : Option ℕ) (greatest : ℕ) → Wins counts (length counts) winner greatest → winner ≡ find (is_winning counts) (numbers_below (length counts))
Wins-find counts None greatest w =
    sym (find-none (is_winning counts) 0 (length counts) (λ j below. and_left _ _ (and_left _ _ (le-ltb 0 (slice_index counts j) (omega (arith, w.bound j (omega arith), w.first))))))
Wins-find counts (Some k) greatest w =
    let before : (j : ℕ) → j < k → slice_index counts j < slice_index counts k = λ j below. omega (arith, w.first.2, w.first.3 j below) in
    let passes = wins counts k w.first.0 (omega (arith, w.first.1, w.first.2)) before (λ j below. omega (arith, w.first.2, w.bound j below)) in
    sym (find-first (is_winning counts) 0 (length counts) k (omega arith) (omega (arith, w.first.0)) passes (λ j below. loses counts j k below w.first.0 (before j below)))

-- The winner is the class of the winning candidate.
pub winner_of-class : (profiles classes : List (List ℕ)) (counts profile : List ℕ) (k : ℕ) → find (is_winning counts) (numbers_below (length counts)) ≡ Some k
    → slice_index_or profiles k [] ≡ profile → classes ≡ classes_of profiles → winner_of profiles counts ≡ position (same_profile profile) classes
winner_of-class profiles classes counts profile k h at same =
    ap (option_and_then (λ k. position (same_profile (slice_index_or profiles k [])) (classes_of profiles))) h ∙ rw (at, same) refl

-- Where there is a candidate, there is a class.
pub some-classes_of : (profiles : List (List ℕ)) → 1 ≤ length profiles → 1 ≤ length (classes_of profiles)
some-classes_of [] h = h
some-classes_of (profile ∷ profiles) h = omega arith
