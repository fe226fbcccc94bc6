-- A hierarchy is read from what it is spelled as.
use Rattle.std.proofs.Common.{◌≡◌, ◌≢◌, ◌⊎◌, ℕ, zero, suc, ◌+◌, ◌<◌, ◌≤◌, max, Bool, true, false, not, ◌&&◌, ◌||◌, ◌==◌, List, [], ◌∷◌, ◌++◌, Option, Some, All, Contains, length, map, filter, flat_map, fold, replicate, set, decimal, get_or, nat_lt, nat_le, if◌then◌else◌, bytes_eq, codes, arith, refl, sym, ap, subst, ◌∙◌, inl, inr}
use Rattle.std.specs.List.{join_by, range_with_len}
use Rattle.std.proofs.lemmas.Bool.{lt-ltb, le-ltb, le-leb, lt-leb, eq-eqb, ne_eqb, cases_lt, cases_eq, cases_Bool}
use Rattle.std.proofs.lemmas.Bool.Decides.{leb_tells, eqb_tells}
use Rattle.std.proofs.lemmas.List.{append-nil, length-map, length-set, length-replicate, get_or-set_same, get_or-set_other, get_or-replicate, get_or_default, ext_get_or}
use Rattle.std.proofs.lemmas.List.Elements.{All-map, All-filter}
use Rattle.std.proofs.lemmas.List.Filters.{length-filter_both}
use Rattle.std.proofs.lemmas.List.FromFn.{length-range_with_len, get_or-range_with_len, length-map-range_with_len, get_or-map-range_with_len}
use Rattle.ot_theory.specs.Hierarchies.{in_stratum}
use Rattle.report_reader.specs.Fields.{words, are_placed, strata_of, hierarchy_of, is_digit}
use Rattle.report_text.specs.Printable.{IsHierarchy}
use Rattle.report_text.specs.Spelling.{spaced, stratum, stratum_count, hierarchy}
use Rattle.report_text.proofs.Numerals.{NUMBER_LIMIT, place-decimal}
use Rattle.report_text.proofs.Parted.{lacks, lacks-append, pieces-both, pieces-first}
use Rattle.report_text.proofs.Lines.{decimal-differs}
use Rattle.report_text.proofs.Spelled.{IsSmall, words-spaced, spaced-lacks}

-- ---- lists
pub filter-some : {X : Type 0} (test : X → Bool) (xs : List X) (k : ℕ) (d : X) → k < length xs → test (get_or xs k d) ≡ true → 0 < length (filter test xs)
filter-some test [] k d below passes = absurd (omega (arith, below))
filter-some test (x ∷ xs) zero d below passes = rw passes (omega arith)
filter-some test (x ∷ xs) (suc k) d below passes = elim (cases_Bool (test x)) [
  | inl passing ↦ rw passing (omega arith)
  | inr failing ↦ rw failing (filter-some test xs k d (omega (arith, below)) passes)
]

first-below : (a : ℕ) (xs : List ℕ) → a ≤ fold max a xs
first-below a [] = omega arith
first-below a (x ∷ xs) = omega (arith, first-below (max a x) xs)

each-below : (a : ℕ) (xs : List ℕ) (i : ℕ) → i < length xs → get_or xs i 0 ≤ fold max a xs
each-below a [] i below = absurd (omega (arith, below))
each-below a (x ∷ xs) zero below = omega (arith, first-below (max a x) xs)
each-below a (x ∷ xs) (suc i) below = each-below (max a x) xs i (omega (arith, below))

-- ---- where each number from 1 on is used, there are no more of them than places
abbrev up_to : ℕ → List ℕ → List ℕ
up_to s xs = filter (λ x. nat_le x s) xs

no_fewer : (xs : List ℕ) (s : ℕ) → length (up_to s xs) ≤ length (up_to (s + 1) xs)
no_fewer [] s = omega arith
no_fewer (x ∷ xs) s = elim (leb_tells x s) [
  | inl low ↦ rw (low.0, le-leb x (s + 1) (omega (arith, low.1))) (omega (arith, no_fewer xs s))
  | inr high ↦ rw high.0 (elim (leb_tells x (s + 1)) [ inl next ↦ rw next.0 (omega (arith, no_fewer xs s)) | inr past ↦ rw past.0 (no_fewer xs s) ])
]

one_more : (xs : List ℕ) (s k : ℕ) → k < length xs → get_or xs k 0 ≡ s + 1 → length (up_to s xs) + 1 ≤ length (up_to (s + 1) xs)
one_more [] s k below is = absurd (omega (arith, below))
one_more (x ∷ xs) s zero below is = rw (lt-leb x s (omega (arith, is)), le-leb x (s + 1) (omega (arith, is))) (omega (arith, no_fewer xs s))
one_more (x ∷ xs) s (suc k) below is =
    let others = one_more xs s k (omega (arith, below)) is in
    elim (leb_tells x s) [
      | inl low ↦ rw (low.0, le-leb x (s + 1) (omega (arith, low.1))) (omega (arith, others))
      | inr high ↦ rw high.0 (elim (leb_tells x (s + 1)) [ inl next ↦ rw next.0 (omega (arith, others)) | inr past ↦ rw past.0 others ])
    ]

at_least : (xs : List ℕ) (m : ℕ) → ((s : ℕ) → 1 ≤ s → s ≤ m → Contains xs s) → m ≤ length (up_to m xs)
at_least xs zero used = omega arith
at_least xs (suc m) used =
    let here = used (suc m) (omega arith) (omega arith) in
    let next : m + 1 ≡ suc m = omega arith in
    let is : get_or xs here.0 0 ≡ m + 1 = get_or_default xs here.0 0 (suc m) here.1 ∙ here.2 ∙ sym next in
    let before = at_least xs m (λ s low high. used s low (omega (arith, high))) in
    subst (λ (k : ℕ). k ≤ length (up_to k xs)) next (omega (arith, before, one_more xs m here.0 here.1 is))

no_more : (xs : List ℕ) (m : ℕ) → ((s : ℕ) → 1 ≤ s → s ≤ m → Contains xs s) → m ≤ length xs
no_more xs m used = omega (arith, at_least xs m used, length-filter_both (λ (x : ℕ). nat_le x m) (λ x. not (nat_le x m)) (λ x. refl) xs)

-- ---- the constraints that were met
-- the level of constraint d where it stands in a stratum before s, or in s and before constraint c, and else 0
abbrev kept : ℕ → ℕ → ℕ → ℕ → ℕ
kept s c d level = if nat_lt level s || ((level == s) && nat_lt d c) then level else 0

kept-before : (s c d level : ℕ) → level < s → kept s c d level ≡ level
kept-before s c d level before = rw (lt-ltb level s before) refl

kept-in : (s c d level : ℕ) → level ≡ s → d < c → kept s c d level ≡ level
kept-in s c d level same before = rw (le-ltb level s (omega (arith, same)), eq-eqb level s same, lt-ltb d c before) refl

kept-not : (s c d level : ℕ) → s ≤ level → (level ≡ s → c ≤ d) → kept s c d level ≡ 0
kept-not s c d level behind later = elim (eqb_tells level s) [
  | inl same ↦ rw (le-ltb level s behind, same.0, le-ltb d c (later same.1)) refl
  | inr other ↦ rw (le-ltb level s behind, other.0) refl
]

kept-other : (s c d level : ℕ) → level ≢ s → kept s c d level ≡ kept s (c + 1) d level
kept-other s c d level other = rw (ne_eqb level s other) refl

below-next : (d c : ℕ) → (d ≡ c → ⊥) → nat_lt d c ≡ nat_lt d (c + 1)
below-next d c other = elim (cases_lt d c) [
  | inl before ↦ lt-ltb d c before ∙ sym (lt-ltb d (c + 1) (omega (arith, before)))
  | inr behind ↦ le-ltb d c behind ∙ sym (le-ltb d (c + 1) (omega (arith, behind, other)))
]

kept-next : (s c d level : ℕ) → (d ≡ c → ⊥) → kept s c d level ≡ kept s (c + 1) d level
kept-next s c d level other = rw (below-next d c other) refl

-- what is met before constraint c of stratum s
abbrev met : List ℕ → ℕ → ℕ → List ℕ
met levels s c = map (λ d. kept s c d (get_or levels d 0)) (range_with_len 0 (length levels))

length-met : (levels : List ℕ) (s c : ℕ) → length (met levels s c) ≡ length levels
length-met levels s c = length-map-range_with_len (λ d. kept s c d (get_or levels d 0)) 0 (length levels)

met-at : (levels : List ℕ) (s c i : ℕ) → i < length levels → get_or (met levels s c) i 0 ≡ kept s c i (get_or levels i 0)
met-at levels s c i below = get_or-map-range_with_len (λ d. kept s c d (get_or levels d 0)) 0 (length levels) i i 0 below (omega arith)

-- two lists of levels that are met are the same where they agree at each constraint
met-same : (levels others : List ℕ) (s c : ℕ) → length others ≡ length levels → ((i : ℕ) → i < length levels → kept s c i (get_or levels i 0) ≡ get_or others i 0) → met levels s c ≡ others
met-same levels others s c long each = ext_get_or 0 (met levels s c) others (length-met levels s c ∙ sym long)
    (λ i below. let within : i < length levels = omega (arith, below, length-met levels s c) in met-at levels s c i within ∙ each i within)

met-first : (levels : List ℕ) (n : ℕ) → length levels ≡ n → ((i : ℕ) → i < length levels → 1 ≤ get_or levels i 0) → met levels 1 0 ≡ replicate n 0
met-first levels n wide low = met-same levels (replicate n 0) 1 0 (length-replicate n 0 ∙ sym wide)
    (λ i below. kept-not 1 0 i (get_or levels i 0) (low i below) (λ e. omega arith) ∙ sym (get_or-replicate n i 0 0 (omega (arith, below, wide))))

met-next : (levels : List ℕ) (s : ℕ) → met levels s (length levels) ≡ met levels (s + 1) 0
met-next levels s = met-same levels (met levels (s + 1) 0) s (length levels) (length-met levels (s + 1) 0)
    (λ i below. both i below ∙ sym (met-at levels (s + 1) 0 i below))
  where
    both : (i : ℕ) → i < length levels → kept s (length levels) i (get_or levels i 0) ≡ kept (s + 1) 0 i (get_or levels i 0)
    both i below = elim (cases_lt (get_or levels i 0) (s + 1)) [
      | inl low ↦ elim (cases_lt (get_or levels i 0) s) [
        | inl before ↦ kept-before s (length levels) i (get_or levels i 0) before ∙ sym (kept-before (s + 1) 0 i (get_or levels i 0) low)
        | inr same ↦ kept-in s (length levels) i (get_or levels i 0) (omega (arith, low, same)) below ∙ sym (kept-before (s + 1) 0 i (get_or levels i 0) low)
      ]
      | inr high ↦ kept-not s (length levels) i (get_or levels i 0) (omega (arith, high)) (λ e. absurd (omega (arith, high, e))) ∙ sym (kept-not (s + 1) 0 i (get_or levels i 0) high (λ e. omega arith))
    ]

met-last : (levels : List ℕ) (s : ℕ) → ((i : ℕ) → i < length levels → get_or levels i 0 ≤ s) → met levels s (length levels) ≡ levels
met-last levels s high = met-same levels levels s (length levels) refl
    (λ i below. elim (cases_lt (get_or levels i 0) s) [
      | inl before ↦ kept-before s (length levels) i (get_or levels i 0) before
      | inr same ↦ kept-in s (length levels) i (get_or levels i 0) (omega (arith, same, high i below)) below
    ])

met-skip : (levels : List ℕ) (s c : ℕ) → get_or levels c 0 ≢ s → met levels s c ≡ met levels s (c + 1)
met-skip levels s c other = met-same levels (met levels s (c + 1)) s c (length-met levels s (c + 1))
    (λ i below. both i ∙ sym (met-at levels s (c + 1) i below))
  where
    both : (i : ℕ) → kept s c i (get_or levels i 0) ≡ kept s (c + 1) i (get_or levels i 0)
    both i = elim (cases_eq i c) [
      | inl same ↦ kept-other s c i (get_or levels i 0) (λ e. other (rw same at e))
      | inr differ ↦ kept-next s c i (get_or levels i 0) differ
    ]

met-set : (levels : List ℕ) (s c : ℕ) → c < length levels → get_or levels c 0 ≡ s → set (met levels s c) c s ≡ met levels s (c + 1)
met-set levels s c within is = sym (met-same levels (set (met levels s c) c s) s (c + 1) (length-set (met levels s c) c s ∙ length-met levels s c) each)
  where
    each : (i : ℕ) → i < length levels → kept s (c + 1) i (get_or levels i 0) ≡ get_or (set (met levels s c) c s) i 0
    each i below = elim (cases_eq i c) [
      | inl same ↦
          let here : get_or (set (met levels s c) c s) c 0 ≡ s = get_or-set_same (met levels s c) c s 0 (omega (arith, within, length-met levels s c)) in
          rw same (kept-in s (c + 1) c (get_or levels c 0) is (omega arith) ∙ is ∙ sym here)
      | inr differ ↦ sym (get_or-set_other (met levels s c) c i s 0 differ ∙ met-at levels s c i below ∙ kept-next s c i (get_or levels i 0) differ)
    ]

-- ---- reading one stratum
constraint_read : (levels : List ℕ) (s c last : ℕ) (others : List (List ℕ)) → length levels ≤ NUMBER_LIMIT → c < length levels → get_or levels c 0 ≡ s → last ≤ c
    → strata_of (met levels s c) s last (decimal (c + 1) ∷ others) ≡ strata_of (met levels s (c + 1)) s (c + 1) others
constraint_read levels s c last others small within is before =
    let no_bar : bytes_eq (decimal (c + 1)) (124 ∷ []) ≡ false = rw (append-nil (decimal (c + 1))) at (decimal-differs 124 [] (c + 1) [] refl (omega (arith, within, small))) in
    let unmet : get_or (met levels s c) c 0 ≡ 0 = met-at levels s c c within ∙ kept-not s c c (get_or levels c 0) (omega (arith, is)) (λ e. omega arith) in
    rw (no_bar, length-met levels s c, place-decimal (length levels) c within small, le-leb last c before, unmet, met-set levels s c within is) refl

-- the constraints of stratum s among the j from c on
abbrev in_rest : List ℕ → ℕ → ℕ → ℕ → List ℕ
in_rest levels s c j = filter (λ d. get_or levels d 0 == s) (range_with_len c j)

stratum_read : (levels : List ℕ) (s : ℕ) (rest : List (List ℕ)) (answer : Option (List ℕ)) → length levels ≤ NUMBER_LIMIT
    → ((last : ℕ) → 0 < last → strata_of (met levels s (length levels)) s last rest ≡ answer)
    → (j c last : ℕ) → c + j ≡ length levels → last ≤ c → (0 < last) ⊎ (0 < length (in_rest levels s c j))
    → strata_of (met levels s c) s last (map decimal (map (λ d. d + 1) (in_rest levels s c j)) ++ rest) ≡ answer
stratum_read levels s rest answer small ends zero c last total before some =
    let all : c ≡ length levels = omega (arith, total) in
    rw all (ends last (elim some [ inl one ↦ one | inr none ↦ absurd (omega (arith, none)) ]))
stratum_read levels s rest answer small ends (suc j) c last total before some = elim (cases_eq (get_or levels c 0) s) [
  | inl same ↦
      let others = map decimal (map (λ d. d + 1) (in_rest levels s (c + 1) j)) ++ rest in
      rw (eq-eqb (get_or levels c 0) s same)
      (constraint_read levels s c last others small (omega (arith, total)) same before
      ∙ stratum_read levels s rest answer small ends j (c + 1) (c + 1) (omega (arith, total)) (omega arith) (inl (omega arith)))
  | inr other ↦
      let differs = ne_eqb (get_or levels c 0) s other in
      let others : (0 < last) ⊎ (0 < length (in_rest levels s (c + 1) j)) = rw differs at some in
      let more = stratum_read levels s rest answer small ends j (c + 1) last (omega (arith, total)) (omega (arith, before)) others in
      rw differs (ap (λ (l : List ℕ). strata_of l s last (map decimal (map (λ d. d + 1) (in_rest levels s (c + 1) j)) ++ rest)) (met-skip levels s c other) ∙ more)
]

-- ---- reading all strata
-- levels from 1 to the greatest, each of them used
record AreLevels (levels : List ℕ) (greatest : ℕ) : Type 0 where
  small : length levels ≤ NUMBER_LIMIT
  few : greatest ≤ length levels
  low : (i : ℕ) → i < length levels → 1 ≤ get_or levels i 0
  high : (i : ℕ) → i < length levels → get_or levels i 0 ≤ greatest
  some : (s : ℕ) → 1 ≤ s → s ≤ greatest → 0 < length (in_stratum levels s)

range-small : (n : ℕ) → n ≤ NUMBER_LIMIT → All (λ c. c + 1 ≤ NUMBER_LIMIT) (range_with_len 0 n)
range-small n small k d within =
    let below : k < n = omega (arith, within, length-range_with_len 0 n) in
    omega (arith, below, small, get_or-range_with_len 0 n k d below)

stratum-small : (levels : List ℕ) (s : ℕ) → length levels ≤ NUMBER_LIMIT → All IsSmall (stratum levels s)
stratum-small levels s small = All-map IsSmall (λ c. c + 1) (in_stratum levels s) (All-filter (λ c. get_or levels c 0 == s) (λ c. c + 1 ≤ NUMBER_LIMIT) (range_with_len 0 (length levels)) (range-small (length levels) small))

placed : (levels : List ℕ) → ((i : ℕ) → i < length levels → 1 ≤ get_or levels i 0) → are_placed levels ≡ true
placed [] low = refl
placed (level ∷ levels) low =
    let first : 1 ≤ level = low 0 (omega arith) in
    rw (lt-ltb 0 level (omega (arith, first)), placed levels (λ i below. low (suc i) (omega (arith, below)))) refl

stratum-words : (levels : List ℕ) (greatest s : ℕ) → AreLevels levels greatest → 1 ≤ s → s ≤ greatest → words (spaced (stratum levels s)) ≡ map decimal (stratum levels s)
stratum-words levels greatest s h from to =
    words-spaced (stratum levels s) (omega (arith, length-map (in_stratum levels s) (λ c. c + 1), h.some s from to)) (stratum-small levels s h.small)

-- the strata, each behind a bar
abbrev behind_bars : List ℕ → List ℕ → List (List ℕ)
behind_bars levels strata = flat_map (λ s. (124 ∷ []) ∷ words (spaced (stratum levels s))) strata

strata_read : (levels : List ℕ) (greatest : ℕ) → AreLevels levels greatest → (j s : ℕ) → 1 ≤ s → s + j ≡ greatest
    → strata_of (met levels s 0) s 0 (words (spaced (stratum levels s)) ++ behind_bars levels (range_with_len (s + 1) j)) ≡ Some levels
strata_read levels greatest h zero s from total =
    let to : s ≤ greatest = omega (arith, total) in
    let all = met-last levels s (λ i below. omega (arith, total, h.high i below)) in
    let ends : (last : ℕ) → 0 < last → strata_of (met levels s (length levels)) s last [] ≡ Some levels = λ last some. rw (all, lt-ltb 0 last some, placed levels h.low) refl in
    rw (stratum-words levels greatest s h from to)
    (stratum_read levels s [] (Some levels) h.small ends (length levels) 0 0 (omega arith) (omega arith) (inr (h.some s from to)))
strata_read levels greatest h (suc j) s from total =
    let to : s ≤ greatest = omega (arith, total) in
    let n = length levels in
    let others = strata_read levels greatest h j (s + 1) (omega arith) (omega (arith, total)) in
    let rest = words (spaced (stratum levels (s + 1))) ++ behind_bars levels (range_with_len (s + 1 + 1) j) in
    let ends : (last : ℕ) → 0 < last → strata_of (met levels s (length levels)) s last ((124 ∷ []) ∷ rest) ≡ Some levels =
    λ last some. rw (lt-ltb 0 last some, length-met levels s n, lt-ltb s n (omega (arith, total, h.few)))
    (ap (λ (l : List ℕ). strata_of l (s + 1) 0 rest) (met-next levels s) ∙ others)
    in
    rw (stratum-words levels greatest s h from to)
    (stratum_read levels s ((124 ∷ []) ∷ rest) (Some levels) h.small ends n 0 0 (omega arith) (omega arith) (inr (h.some s from to)))

-- the words of strata with bars between them
words-barred : (f : ℕ → List ℕ) (strata : List ℕ) (a : List ℕ) → words (a ++ flat_map (λ s. codes " | " ++ f s) strata) ≡ words a ++ flat_map (λ s. (124 ∷ []) ∷ words (f s)) strata
words-barred f [] a = rw (append-nil a, append-nil (words a)) refl
words-barred f (s ∷ strata) a =
    let behind = f s ++ flat_map (λ z. codes " | " ++ f z) strata in
    pieces-both 32 a (124 ∷ 32 ∷ behind)
    ∙ ap (λ (more : List (List ℕ)). words a ++ more) (pieces-first 32 (124 ∷ []) behind refl ∙ ap (λ (more : List (List ℕ)). (124 ∷ []) ∷ more) (words-barred f strata (f s)))

hierarchy_read : (levels : List ℕ) (n greatest : ℕ) → length levels ≡ n → 1 ≤ n → AreLevels levels greatest
    → hierarchy_of n (join_by (λ s. spaced (stratum levels s)) (codes " | ") (range_with_len 1 greatest)) ≡ Some levels
hierarchy_read levels n zero wide some h = absurd (omega (arith, wide, some, h.low 0 (omega (arith, wide, some)), h.high 0 (omega (arith, wide, some))))
hierarchy_read levels n (suc j) wide some h =
    let f : ℕ → List ℕ = λ s. spaced (stratum levels s) in
    rw (words-barred f (range_with_len 2 j) (f 1), ← met-first levels n wide h.low)
    (strata_read levels (suc j) h j 1 (omega arith) (omega arith))

stratum-some : (levels : List ℕ) (s : ℕ) → Contains levels s → 0 < length (in_stratum levels s)
stratum-some levels s here =
    let k = here.0 in
    let is : get_or levels k 0 ≡ s = get_or_default levels k 0 s here.1 ∙ here.2 in
    let place = get_or-range_with_len 0 (length levels) k 0 here.1 in
    let at : get_or (range_with_len 0 (length levels)) k 0 ≡ k = place ∙ omega arith in
    filter-some (λ c. get_or levels c 0 == s) (range_with_len 0 (length levels)) k 0 (omega (arith, here.1, length-range_with_len 0 (length levels)))
    (rw at (eq-eqb (get_or levels k 0) s is))

levels-of : (n : ℕ) (levels : List ℕ) → n ≤ NUMBER_LIMIT → IsHierarchy n levels → AreLevels levels (fold max 0 levels)
levels-of n levels small h = record {
  small = omega (arith, h.width, small);
  few = no_more levels (fold max 0 levels) h.used;
  low = λ i below. h.from_one i 0 below;
  high = λ i below. each-below 0 levels i below;
  some = λ s from to. stratum-some levels s (h.used s from to);
}

pub hierarchy_of-hierarchy : (n : ℕ) (levels : List ℕ) → 1 ≤ n → n ≤ NUMBER_LIMIT → IsHierarchy n levels → hierarchy_of n (hierarchy levels) ≡ Some levels
hierarchy_of-hierarchy n levels some small h = hierarchy_read levels n (fold max 0 levels) h.width some (levels-of n levels small h)

-- ---- bytes that a hierarchy lacks
bars-lack : (c : ℕ) (f : ℕ → List ℕ) → (32 == c) ≡ false → (124 == c) ≡ false → ((s : ℕ) → lacks c (f s) ≡ true) → (strata : List ℕ) → lacks c (flat_map (λ s. codes " | " ++ f s) strata) ≡ true
bars-lack c f space bar each [] = refl
bars-lack c f space bar each (s ∷ strata) =
    lacks-append c (32 ∷ 124 ∷ 32 ∷ f s) (flat_map (λ z. codes " | " ++ f z) strata) (rw (space, bar, each s) refl) (bars-lack c f space bar each strata)

barred-lacks : (c : ℕ) (f : ℕ → List ℕ) → (32 == c) ≡ false → (124 == c) ≡ false → ((s : ℕ) → lacks c (f s) ≡ true) → (strata : List ℕ) → lacks c (join_by f (codes " | ") strata) ≡ true
barred-lacks c f space bar each [] = refl
barred-lacks c f space bar each (s ∷ strata) = lacks-append c (f s) (flat_map (λ z. codes " | " ++ f z) strata) (each s) (bars-lack c f space bar each strata)

pub hierarchy-lacks : (c : ℕ) → is_digit c ≡ false → (32 == c) ≡ false → (124 == c) ≡ false → (levels : List ℕ) → length levels ≤ NUMBER_LIMIT → lacks c (hierarchy levels) ≡ true
hierarchy-lacks c digit space bar levels small =
    barred-lacks c (λ s. spaced (stratum levels s)) space bar (λ s. spaced-lacks c digit space (stratum levels s) (stratum-small levels s small)) (range_with_len 1 (stratum_count levels))
