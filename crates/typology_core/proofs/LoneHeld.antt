-- How many prefixes of each length hold, by the cuts of that length.
use Rattle.std.proofs.Common.{◌≡◌, ℕ, zero, suc, ◌+◌, ◌*◌, ◌<◌, ◌≤◌, ◌-◌, List, [], ◌∷◌, ◌++◌, Bool, true, false, not, ◌==◌, arith, refl, sym, ◌∙◌, ap, cond, inl, inr, length, length-append, map, flat_map, None}
use Rattle.std.specs.Prelude.{All, sum_by}
use Rattle.std.specs.List.{filter}
use Rattle.std.proofs.lemmas.Bool.{cases_Bool}
use Rattle.std.proofs.lemmas.Option.{slice_get-get_or}
use Rattle.std.proofs.lemmas.List.{length-map}
use Rattle.std.proofs.lemmas.List.Elements.{All-filter, All-head, All-tail}
use Rattle.std.proofs.lemmas.List.Filters.{length-filter_both}
use Rattle.std.proofs.lemmas.List.FromFn.{length-range_with_len}
use Rattle.std.proofs.lemmas.List.Sums.{sum_by-append}
use Rattle.std.proofs.Math.Nat.{le-mul_of_pos_right, suc-mul}
use Rattle.ot_theory.specs.Rankings.{numbers_below}
use Rattle.ot_theory.specs.Problems.{Input, Problem}
use Rattle.ot_theory.specs.Languages.{classes_at, languages, refuted}
use Rattle.ot_theory.specs.Refutations.{cuts}
use Rattle.violation_profiles.specs.WellFormed.{IsWellFormed}
use Rattle.search_deeds.specs.Deeds.{children}
use Rattle.typology_core.specs.Learned.{held_at, level, named_in, of_length, refuted_at, total_of}
use Rattle.typology_core.proofs.Levels.{cuts-at, languages-at, level-next}
use Rattle.typology_core.proofs.LoneCount.{named-tallied, told}
use Rattle.typology_core.proofs.LoneCuts.{meets, meets-length, tallied}
use Rattle.typology_core.proofs.LoneSearch.{IsAt, level-at}
use Rattle.typology_core.proofs.Tallies.{bump, has_length, tally, tally-filter}

-- ---- the cuts of a length
sum-cons : {X : Type 0} (f : X → ℕ) (x : X) (xs : List X) → sum_by f (x ∷ xs) ≡ f x + sum_by f xs
sum-cons f x xs = sum_by-append f (x ∷ []) xs ∙ one (f x) (sum_by f xs)
  where
    one : (a b : ℕ) → 0 + a + b ≡ a + b
    one a b = omega arith

abbrev total : {X : Type 0} → List (X × ℕ) → ℕ
total g = sum_by (λ c. c.1) g

total-bump : {X : Type 0} (h : X → X → Bool) (x : X) (g : List (X × ℕ)) → total (bump h x g) ≡ total g + 1
total-bump h x [] = refl
total-bump {X = X} h x (c ∷ g) = by (total-bump h x g) (h c.0 x)
  where
    by : total (bump h x g) ≡ total g + 1 → (b : Bool) → total (cond b ((c.0, c.1 + 1) ∷ g) (c ∷ bump h x g)) ≡ total (c ∷ g) + 1
    by rest true = sum-cons (λ (c : X × ℕ). c.1) (c.0, c.1 + 1) g ∙ moved c.1 (total g) (total (c ∷ g)) (sum-cons (λ (c : X × ℕ). c.1) c g)
      where
        moved : (a b t : ℕ) → t ≡ a + b → a + 1 + b ≡ t + 1
        moved a b t e = omega (arith, e)
    by rest false = sum-cons (λ (c : X × ℕ). c.1) c (bump h x g) ∙ moved c.1 (total (bump h x g)) (total g) (total (c ∷ g)) rest (sum-cons (λ (c : X × ℕ). c.1) c g)
      where
        moved : (a b d t : ℕ) → b ≡ d + 1 → t ≡ a + d → a + b ≡ t + 1
        moved a b d t e f = omega (arith, e, f)

total-tally : {X : Type 0} (h : X → X → Bool) (g : List (X × ℕ)) (xs : List X) → total (tally h g xs) ≡ total g + length xs
total-tally h g [] = omega arith
total-tally h g (x ∷ xs) = moved _ _ _ (length xs) (total-tally h (bump h x g) xs) (total-bump h x g)
  where
    moved : (a b d n : ℕ) → a ≡ b + n → b ≡ d + 1 → a ≡ d + suc n
    moved a b d n e f = omega (arith, e, f)

total-told : (n : ℕ) (g : List (List ℕ × ℕ)) → total_of (of_length n (map told g)) ≡ total (filter (has_length (λ x. length x) n) g)
total-told n [] = refl
total-told n (c ∷ g) = by (total-told n g) (length c.0 == n)
  where
    by : total_of (of_length n (map told g)) ≡ total (filter (has_length (λ x. length x) n) g) → (b : Bool) → total_of (cond b (told c ∷ of_length n (map told g)) (of_length n (map told g))) ≡ total (cond b (c ∷ filter (has_length (λ x. length x) n) g) (filter (has_length (λ x. length x) n) g))
    by rest true =
        sum-cons (λ (e : ℕ × ℕ). e.1) (told c) (of_length n (map told g)) ∙ ap (λ (m : ℕ). c.1 + m) rest ∙ sym (sum-cons (λ (e : List ℕ × ℕ). e.1) c (filter (has_length (λ x. length x) n) g))
    by rest false = rest

-- What the certificates tell of a length: how many cuts have it.
pub cuts-told : (problem : Problem) (k : ℕ) → IsWellFormed problem → k ≤ length problem.inputs → total_of (of_length k (named_in problem)) ≡ length (refuted_at problem k)
cuts-told problem k well within =
    let len = λ (x : List ℕ). length x in
    ap (λ (named : List (ℕ × ℕ)). total_of (of_length k named)) (named-tallied problem well)
    ∙ total-told k (tallied problem)
    ∙ ap total (tally-filter (meets problem) len (meets-length problem) k [] (cuts problem))
    ∙ total-tally (meets problem) [] (filter (λ x. length x == k) (cuts problem))
    ∙ plus (length (filter (λ x. length x == k) (cuts problem))) (length (refuted_at problem k)) (ap (λ (l : List (List ℕ)). length l) (cuts-at problem k within))
  where
    plus : (b c : ℕ) → b ≡ c → 0 + b ≡ c
    plus b c e = omega (arith, e)

pub level-split : (problem : Problem) (k : ℕ) → length (refuted_at problem k) + length (held_at problem k) ≡ length (level problem k)
level-split problem k = length-filter_both (refuted problem) (λ prefix. not (refuted problem prefix)) (λ x. refl) (level problem k)

-- ---- the children of those that hold
kids-count : (problem : Problem) (k : ℕ) (xs : List (List ℕ)) → All (IsAt problem k) xs → length (flat_map (children problem) xs) ≡ length xs * length (classes_at problem k)
kids-count problem k [] all = omega arith
kids-count problem k (x ∷ xs) all =
    let here : length (children problem x) ≡ length (classes_at problem k) =
    length-map (numbers_below (length (classes_at problem (length x)))) (λ a. x ++ a ∷ [])
    ∙ length-range_with_len 0 (length (classes_at problem (length x)))
    ∙ ap (λ (j : ℕ). length (classes_at problem j)) (All-head (IsAt problem k) x xs all).long in
    let rest = kids-count problem k xs (All-tail (IsAt problem k) x xs all) in
    plus _ _ _ _ _ _ (length-append (children problem x) (flat_map (children problem) xs)) here rest (suc-mul (length xs) (length (classes_at problem k)))
  where
    plus : (a b c d e f : ℕ) → a ≡ b + c → b ≡ d → c ≡ e → f ≡ e + d → a ≡ f
    plus a b c d e f h i j k = omega (arith, h, i, j, k)

pub next-count : (problem : Problem) (k : ℕ) → k < length problem.inputs → length (level problem (k + 1)) ≡ length (held_at problem k) * length (classes_at problem k)
next-count problem k short =
    ap (λ (l : List (List ℕ)). length l) (level-next problem k)
    ∙ kids-count problem k (held_at problem k) (All-filter (λ prefix. not (refuted problem prefix)) (IsAt problem k) (level problem k) (level-at problem k (omega (arith, short))))

some-class : (problem : Problem) (k : ℕ) → IsWellFormed problem → k < length problem.inputs → 1 ≤ length (classes_at problem k)
some-class problem k well short =
    let d : Input = record { classes = []; members = []; winner = None } in
    let one = well.each k d short in
    let e = slice_get-get_or problem.inputs k d short in
    rw e one.some

-- ---- no length has very many
filter-short : {X : Type 0} (p : X → Bool) (xs : List X) → length (filter p xs) ≤ length xs
filter-short p [] = omega arith
filter-short p (x ∷ xs) = elim (cases_Bool (p x)) [
  | inl e ↦ let rest = filter-short p xs in rw e (omega (arith, rest))
  | inr e ↦ let rest = filter-short p xs in rw e (omega (arith, rest))
]

few-refuted : (problem : Problem) (k : ℕ) → k ≤ length problem.inputs → length (cuts problem) < 18446744073709551616 → length (refuted_at problem k) < 18446744073709551616
few-refuted problem k within few =
    let same : length (filter (λ x. length x == k) (cuts problem)) ≡ length (refuted_at problem k) = ap (λ (l : List (List ℕ)). length l) (cuts-at problem k within) in
    let less = filter-short (λ x. length x == k) (cuts problem) in
    bound _ _ _ same less few
  where
    bound : (a b c : ℕ) → a ≡ b → a ≤ c → c < 18446744073709551616 → b < 18446744073709551616
    bound a b c e f g = omega (arith, e, f, g)

within-from : (problem : Problem) (d k : ℕ) → IsWellFormed problem → k + d ≡ length problem.inputs → length (cuts problem) < 18446744073709551616 → length (languages problem) < 18446744073709551616
    → length (level problem k) ≤ 18446744073709551616 * (d + 2)
within-from problem zero k well e few choices =
    let last : k ≡ length problem.inputs = omega (arith, e) in
    let held : length (languages problem) ≡ length (held_at problem k) = ap (λ (l : List (List ℕ)). length l) (languages-at problem ∙ ap (held_at problem) (sym last)) in
    bound _ _ _ _ (level-split problem k) (few-refuted problem k (omega (arith, e)) few) held choices
  where
    bound : (r h l c : ℕ) → r + h ≡ l → r < 18446744073709551616 → c ≡ h → c < 18446744073709551616 → l ≤ 18446744073709551616 * (zero + 2)
    bound r h l c e f g i = omega (arith, e, f, g, i)
within-from problem (suc d) k well e few choices =
    let rest = within-from problem d (k + 1) well (omega (arith, e)) few choices in
    let next = next-count problem k (omega (arith, e)) in
    let more : length (held_at problem k) ≤ length (held_at problem k) * length (classes_at problem k) = le-mul_of_pos_right (length (held_at problem k)) (some-class problem k well (omega (arith, e))) in
    bound _ _ _ _ _ d (level-split problem k) (few-refuted problem k (omega (arith, e)) few) more next rest
  where
    bound : (r h l m n d : ℕ) → r + h ≡ l → r < 18446744073709551616 → h ≤ m → n ≡ m → n ≤ 18446744073709551616 * (d + 2) → l ≤ 18446744073709551616 * (suc d + 2)
    bound r h l m n d e f g i j = omega (arith, e, f, g, i, j)

pub level-within : (problem : Problem) (k : ℕ) → IsWellFormed problem → k ≤ length problem.inputs → length (cuts problem) < 18446744073709551616 → length (languages problem) < 18446744073709551616
    → length (level problem k) ≤ 18446744073709551616 * 1002
level-within problem k well within few choices = by (length problem.inputs) refl k within
  where
    by : (n : ℕ) → length problem.inputs ≡ n → (k : ℕ) → k ≤ n → length (level problem k) ≤ 18446744073709551616 * 1002
    by n e k within =
        let d : ℕ = n - k in
        let at : k + d ≡ n = omega (arith, within) in
        let most = within-from problem d k well (omega (arith, at, e)) few choices in
        let few_inputs = well.inputs in
        omega (arith, most, at, e, few_inputs)
