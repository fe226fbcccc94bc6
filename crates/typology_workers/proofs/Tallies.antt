-- How often a prefix stands among the prefixes of deeds, and among the children of those that they open.
use Rattle.std.proofs.Common.{◌≡◌, ℕ, zero, suc, ◌+◌, ◌<◌, List, [], ◌∷◌, ◌++◌, arith, sym, ◌∙◌, ap, subst, inl, inr, cond, flat_map, length, get_or}
use Rattle.std.specs.Prelude.{All}
use Rattle.std.proofs.lemmas.List.{map-append, append-nil}
use Rattle.std.proofs.lemmas.List.Concat.{flat_map-append}
use Rattle.std.proofs.lemmas.Bool.{cases_Bool}
use Rattle.std.proofs.lemmas.List.Elements.{All-head, All-tail}
use Rattle.ot_theory.proofs.Candidates.{same-true}
use Rattle.ot_theory.specs.Problems.{Problem}
use Rattle.search_deeds.specs.Deeds as theory
use Rattle.search_deeds.specs.Deeds.{children, opened_by, opened_in, times}
use Rattle.search_deeds.specs.Gathered.{deed_of, deeds_in, fate_of}
use Rattle.search_deeds.specs.declared.deed.Deed.{Deed}
use Rattle.search_deeds.proofs.Ascending.{times-first}
use Rattle.search_deeds.proofs.Counts.{same, times-cons, times-append}
use Rattle.typology_workers.specs.Settled.{prefixes_of}

-- the children of all opened prefixes
abbrev pub born : Problem → List Deed → List (List ℕ)
born problem deeds = flat_map (children problem) (opened_in (deeds_in deeds))

pub born-append : (problem : Problem) (a b : List Deed) → born problem (a ++ b) ≡ born problem a ++ born problem b
born-append problem a b =
    ap (λ (l : List theory.Deed). flat_map (children problem) (opened_in l)) (map-append deed_of a b)
    ∙ ap (flat_map (children problem)) (flat_map-append (λ (d : theory.Deed). opened_by d.prefix d.fate) (deeds_in a) (deeds_in b))
    ∙ flat_map-append (children problem) (opened_in (deeds_in a)) (opened_in (deeds_in b))

pub born-one : (problem : Problem) (deed : Deed) → born problem (deed ∷ []) ≡ flat_map (children problem) (opened_by deed.prefix (fate_of deed.fate))
born-one problem deed = ap (flat_map (children problem)) (append-nil (opened_by deed.prefix (fate_of deed.fate)))

pub times-born : (problem : Problem) (p : List ℕ) (a b : List Deed) → times p (born problem (a ++ b)) ≡ times p (born problem a) + times p (born problem b)
times-born problem p a b = ap (times p) (born-append problem a b) ∙ times-append p (born problem a) (born problem b)

pub times-prefixes : (p : List ℕ) (a b : List Deed) → times p (prefixes_of (a ++ b)) ≡ times p (prefixes_of a) + times p (prefixes_of b)
times-prefixes p a b = ap (times p) (map-append (λ (d : Deed). d.prefix) a b) ∙ times-append p (prefixes_of a) (prefixes_of b)

-- What stands in a list does so at least once.

some-later : (x y : List ℕ) (xs : List (List ℕ)) → 0 < times x xs → 0 < times x (y ∷ xs)
some-later x y xs h = omega (arith, times-cons x y xs)

pub some-member : (xs : List (List ℕ)) (k : ℕ) (d : List ℕ) → k < length xs → 0 < times (get_or xs k d) xs
some-member [] k d h = absurd (omega arith)
some-member (x ∷ xs) zero d h = omega (arith, times-first x xs)
some-member (x ∷ xs) (suc k) d h = some-later (get_or xs k d) x xs (some-member xs k d (omega arith))

-- What holds of each list of numbers that stands among others holds of all these, and the other way round.

pub All-from_times : (P : List ℕ → Type 0) (xs : List (List ℕ)) → ((x : List ℕ) → 0 < times x xs → P x) → All P xs
All-from_times P xs h k d below = h (get_or xs k d) (some-member xs k d below)

pub times-from_All : (P : List ℕ → Type 0) (xs : List (List ℕ)) (x : List ℕ) → All P xs → 0 < times x xs → P x
times-from_All P [] x h some = absurd (omega arith)
times-from_All P (y ∷ xs) x h some = elim (cases_Bool (same x y)) [
  | inl here ↦ subst P (sym (same-true x y here)) (All-head P y xs h)
  | inr other ↦
      let e : times x (y ∷ xs) ≡ 0 + times x xs = times-cons x y xs ∙ ap (λ c. cond c 1 0 + times x xs) other in
      times-from_All P xs x (All-tail P y xs h) (omega (arith, e))
]
