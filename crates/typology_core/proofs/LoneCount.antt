-- The Learn steps of the run of one worker, by the cuts and the certificates that they name.
use Rattle.std.proofs.Common.{◌≡◌, ℕ, zero, suc, ◌+◌, List, [], ◌∷◌, ◌++◌, Bool, ◌==◌, arith, refl, sym, ◌∙◌, ap, cond, inl, inr, length, length-append, map, flat_map, get_or}
use Rattle.std.specs.Prelude.{All, slice_get}
use Rattle.std.specs.List.{filter, range_with_len}
use Rattle.std.specs.Option.{option_map_or}
use Rattle.std.proofs.lemmas.Bool.{cases_Bool}
use Rattle.std.proofs.lemmas.List.{append-nil, ext_get_or, length-map, map-append}
use Rattle.std.proofs.lemmas.List.Elements.{All-append, All-filter, All-head, All-nil, All-tail}
use Rattle.std.proofs.lemmas.List.FromFn.{get_or-map-range_with_len, length-map-range_with_len}
use Rattle.ot_theory.specs.Rankings.{numbers_below}
use Rattle.ot_theory.specs.Problems.{Problem}
use Rattle.ot_theory.specs.Refutations.{certificate_named, certificates, cuts}
use Rattle.violation_profiles.specs.WellFormed.{IsWellFormed}
use Rattle.search_deeds.proofs.FromDeeds.{IsRefutedPrefix}
use Rattle.search_machine.specs.Machine.{own_certificate}
use Rattle.typology_core.specs.Learned.{all_named, cuts_judged, held_at, held_count, named_by, named_in, naming, of_length, refuted_at, times_judged}
use Rattle.typology_core.proofs.Levels.{cuts-at}
use Rattle.typology_core.proofs.LoneCuts.{certificate-place, certificates-tallied, cuts-refuted, meets, meets-length, meets-own, missed-meets, tallied}
use Rattle.typology_core.proofs.LoneLevels.{hits}
use Rattle.typology_core.proofs.LoneSearch.{learnt_from}
use Rattle.typology_core.proofs.Names.{entry, entry-tally, place, with-none, with_all}
use Rattle.typology_core.proofs.Tallies.{has_length, leaders, missed, missed-append, missed-tally, stored_all, tally, tally-levels, times}

-- ---- all lengths
learnt-all : (problem : Problem) (places n k : ℕ) (kept : List (List ℕ))
    → learnt_from problem places k n kept ≡ length (flat_map (held_at problem) (range_with_len k (suc n))) + missed (hits problem) places kept (flat_map (refuted_at problem) (range_with_len k (suc n)))
learnt-all problem places zero k kept = rw (append-nil (refuted_at problem k), append-nil (held_at problem k)) refl
learnt-all problem places (suc n) k kept =
    plus _ _ _ _ _ _ _ (learnt-all problem places n (k + 1) (stored_all (hits problem) places kept (refuted_at problem k))) (missed-append (hits problem) places kept (refuted_at problem k) (flat_map (refuted_at problem) (range_with_len (k + 1) (suc n)))) (length-append (held_at problem k) (flat_map (held_at problem) (range_with_len (k + 1) (suc n))))
  where
    plus : (h m r s t u v : ℕ) → r ≡ s + t → u ≡ m + t → v ≡ h + s → (h + m) + r ≡ v + u
    plus h m r s t u v e f g = omega (arith, e, f, g)

refuted-cuts : (problem : Problem) (n k : ℕ) → k + n ≡ suc (length problem.inputs) → flat_map (refuted_at problem) (range_with_len k n) ≡ flat_map (λ l. filter (λ x. length x == l) (cuts problem)) (range_with_len k n)
refuted-cuts problem zero k e = refl
refuted-cuts problem (suc n) k e =
    ap (λ (l : List (List ℕ)). l ++ flat_map (refuted_at problem) (range_with_len (k + 1) n)) (sym (cuts-at problem k (omega (arith, e))))
    ∙ ap (λ (l : List (List ℕ)). filter (λ x. length x == k) (cuts problem) ++ l) (refuted-cuts problem n (k + 1) (omega (arith, e)))

-- ---- what the cuts name
-- the length of a leader, and how many it is the first to hit
abbrev pub told : List ℕ × ℕ → ℕ × ℕ
told c = (length c.0, c.1)

filter-same : {X : Type 0} (p q : X → Bool) (xs : List X) → All (λ x. p x ≡ q x) xs → filter p xs ≡ filter q xs
filter-same p q [] all = refl
filter-same {X = X} p q (x ∷ xs) all = both (All-head (λ x. p x ≡ q x) x xs all) (filter-same p q xs (All-tail (λ x. p x ≡ q x) x xs all))
  where
    both : {a b : Bool} {l m : List X} → a ≡ b → l ≡ m → cond a (x ∷ l) l ≡ cond b (x ∷ m) m
    both e f = rw (e, f) refl

naming-map : {X : Type 0} (f : X → ℕ) (j : ℕ) (xs : List X) → filter (λ (cut : X × ℕ). cut.1 == j) (map (λ x. (x, f x)) xs) ≡ map (λ x. (x, f x)) (filter (λ x. f x == j) xs)
naming-map f j [] = refl
naming-map {X = X} f j (x ∷ xs) = elim (cases_Bool (f x == j)) [
  | inl e ↦ rw e (ap (λ (l : List (X × ℕ)). (x, f x) ∷ l) (naming-map f j xs))
  | inr e ↦ rw e (naming-map f j xs)
]

named-map : (f : List ℕ → ℕ) (xs : List (List ℕ)) → named_by (map (λ x. (x, f x)) xs) ≡ (option_map_or (λ (x : List ℕ). length x) (slice_get xs 0) 0, length xs)
named-map f [] = refl
named-map f (x ∷ xs) = ap (λ (n : ℕ). (length x, suc n)) (length-map xs (λ x. (x, f x)))

no-entry : (j : ℕ) → entry {X = List ℕ} (λ x. length x) [] j ≡ (0, 0)
no-entry zero = refl
no-entry (suc j) = refl

one-named : (problem : Problem) (j : ℕ) → IsWellFormed problem → named_by (naming (map (λ cut. (cut, certificate_named problem cut)) (cuts problem)) j) ≡ entry (λ x. length x) (tallied problem) j
one-named problem j well =
    ap named_by (naming-map (certificate_named problem) j (cuts problem))
    ∙ named-map (certificate_named problem) (filter (λ x. certificate_named problem x == j) (cuts problem))
    ∙ sym (with-none (λ x. length x) (filter (λ x. certificate_named problem x == j) (cuts problem)))
    ∙ ap (with_all (λ x. length x) (0, 0)) (filter-same (λ x. certificate_named problem x == j) (λ x. place (meets problem) x (tallied problem) == j) (cuts problem)
    (λ i d below. ap (λ (n : ℕ). n == j) (certificate-place problem (get_or (cuts problem) i d) well (cuts-refuted problem i d below))))
    ∙ ap (λ (e : ℕ × ℕ). with_all (λ x. length x) e (filter (λ x. place (meets problem) x (tallied problem) == j) (cuts problem))) (sym (no-entry j))
    ∙ sym (entry-tally (meets problem) (λ x. length x) (meets-own problem) (meets-length problem) [] (cuts problem) j)

all-at : (f : ℕ → ℕ × ℕ) (xs : List (ℕ × ℕ)) → ((j : ℕ) → f j ≡ get_or xs j (0, 0)) → map f (numbers_below (length xs)) ≡ xs
all-at f xs each =
    ext_get_or (0, 0) (map f (numbers_below (length xs))) xs (length-map-range_with_len f 0 (length xs))
    (λ i below. get_or-map-range_with_len f 0 (length xs) i i (0, 0) (omega (arith, below, length-map-range_with_len f 0 (length xs))) (omega arith) ∙ each i)

pub named-tallied : (problem : Problem) → IsWellFormed problem → named_in problem ≡ map told (tallied problem)
named-tallied problem well =
    let named = map (λ cut. (cut, certificate_named problem cut)) (cuts problem) in
    let count : length (certificates problem) ≡ length (map told (tallied problem)) =
    ap (λ (l : List _). length l) (certificates-tallied problem well) ∙ length-map (leaders (tallied problem)) (own_certificate problem) ∙ length-map (tallied problem) (λ c. c.0) ∙ sym (length-map (tallied problem) told) in
    ap (all_named named) count ∙ all-at (λ j. named_by (naming named j)) (map told (tallied problem)) (λ j. one-named problem j well)

-- ---- by the lengths
times-told : (n : ℕ) (g : List (List ℕ × ℕ)) → map (λ c. c.1) (of_length n (map told g)) ≡ times (filter (has_length (λ x. length x) n) g)
times-told n [] = refl
times-told n (c ∷ g) = elim (cases_Bool (length c.0 == n)) [
  | inl e ↦ rw e (ap (λ (l : List ℕ). c.1 ∷ l) (times-told n g))
  | inr e ↦ rw e (times-told n g)
]

times-levels : (g : List (List ℕ × ℕ)) (numbers : List ℕ) → map (λ c. c.1) (flat_map (λ n. of_length n (map told g)) numbers) ≡ times (flat_map (λ n. filter (has_length (λ x. length x) n) g) numbers)
times-levels g [] = refl
times-levels g (n ∷ numbers) =
    map-append (λ c. c.1) (of_length n (map told g)) (flat_map (λ n. of_length n (map told g)) numbers)
    ∙ ap (λ (l : List ℕ). l ++ map (λ c. c.1) (flat_map (λ n. of_length n (map told g)) numbers)) (times-told n g)
    ∙ ap (λ (l : List ℕ). times (filter (has_length (λ x. length x) n) g) ++ l) (times-levels g numbers)
    ∙ sym (map-append (λ c. c.1) (filter (has_length (λ x. length x) n) g) (flat_map (λ n. filter (has_length (λ x. length x) n) g) numbers))

missed-none : {X : Type 0} (h : X → X → Bool) (places : ℕ) (xs : List X) → missed h places [] xs ≡ times_judged places (times (tally h [] xs))
missed-none h zero xs = let all = missed-tally h zero [] xs in omega (arith, all)
missed-none h (suc places) xs = let all = missed-tally h (suc places) [] xs in omega (arith, all)

refuted-all : (problem : Problem) (n k : ℕ) → k + n ≡ suc (length problem.inputs) → All (IsRefutedPrefix problem) (flat_map (refuted_at problem) (range_with_len k n))
refuted-all problem n k e = rw (refuted-cuts problem n k e) (by (range_with_len k n))
  where
    by : (numbers : List ℕ) → All (IsRefutedPrefix problem) (flat_map (λ l. filter (λ x. length x == l) (cuts problem)) numbers)
    by [] = All-nil (IsRefutedPrefix problem)
    by (l ∷ numbers) = All-append (IsRefutedPrefix problem) (filter (λ x. length x == l) (cuts problem)) (flat_map (λ l. filter (λ x. length x == l) (cuts problem)) numbers)
        (All-filter (λ x. length x == l) (IsRefutedPrefix problem) (cuts problem) (cuts-refuted problem)) (by numbers)

-- The run of one worker judges each prefix that holds, and cuts as often as the certificates tell that they name.
pub learnt-counted : (problem : Problem) (places : ℕ) → IsWellFormed problem → learnt_from problem places 0 (length problem.inputs) [] ≡ held_count problem + cuts_judged places (length problem.inputs) (named_in problem)
learnt-counted problem places well =
    let n = length problem.inputs in
    let e : n + 1 ≡ suc n = omega arith in
    let cuts_by = flat_map (λ l. filter (λ x. length x == l) (cuts problem)) (range_with_len 0 (suc n)) in
    let judged : missed (hits problem) places [] (flat_map (refuted_at problem) (range_with_len 0 (suc n))) ≡ times_judged places (map (λ c. c.1) (flat_map (λ l. of_length l (named_in problem)) (range_with_len 0 (suc n)))) =
    missed-meets problem places [] (flat_map (refuted_at problem) (range_with_len 0 (suc n))) well (All-nil (IsRefutedPrefix problem)) (refuted-all problem (suc n) 0 (omega arith))
    ∙ ap (missed (meets problem) places []) (refuted-cuts problem (suc n) 0 (omega arith))
    ∙ missed-none (meets problem) places cuts_by
    ∙ ap (λ (g : List (List ℕ × ℕ)). times_judged places (times g)) (tally-levels (meets problem) (λ x. length x) (meets-length problem) (cuts problem) 0 (suc n))
    ∙ ap (times_judged places) (sym (times-levels (tallied problem) (range_with_len 0 (suc n))))
    ∙ ap (λ (named : List (ℕ × ℕ)). times_judged places (map (λ c. c.1) (flat_map (λ l. of_length l named) (range_with_len 0 (suc n))))) (sym (named-tallied problem well)) in
    rw e (learnt-all problem places n 0 [] ∙ ap (λ (m : ℕ). length (flat_map (held_at problem) (range_with_len 0 (suc n))) + m) judged)
