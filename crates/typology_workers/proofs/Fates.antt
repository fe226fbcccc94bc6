-- The fate of a prefix is true, and what cuts it off stands no later than what a deed before it carries.
use Rattle.std.proofs.Common.{◌≡◌, ℕ, zero, suc, ◌<◌, ◌≤◌, List, [], ◌∷◌, ◌++◌, true, false, length, refl, sym, ap, subst, arith, Option, Some, None, slice_get, inl, inr, length-append}
use Rattle.std.specs.Prelude.{◌⊎◌, find}
use Rattle.std.proofs.lemmas.Bool.{and_parts, and_from}
use Rattle.std.proofs.lemmas.Bool.Decides.{eqb_tells}
use Rattle.std.proofs.lemmas.Option.{slice_get_within}
use Rattle.ot_base.specs.Causes.{next_number}
use Rattle.ot_theory.specs.Problems.{Problem}
use Rattle.ot_theory.specs.Languages.{refuted, conditions_of}
use Rattle.ot_theory.specs.Hierarchies.{IsLeastHierarchy}
use Rattle.refutation.specs.declared.contradiction.Contradiction.{Contradiction}
use Rattle.violation_profiles.specs.WellFormed.{IsPrefix}
use Rattle.search_deeds.specs.Deeds.{IsTrueOf}
use Rattle.search_machine.specs.Findings.{IsJudged, fate_for}
use Rattle.typology_workers.specs.Found.{IsFound}
use Rattle.search_deeds.specs.Gathered.{fate_of}
use Rattle.refutation.specs.declared.judging.Finding.{Finding}
use Rattle.refutation.specs.declared.judging.Finding.TheVariants.{Holds, Refuted}
use Rattle.refutation_store.specs.Fronts.{FrontView}
use Rattle.typology_workers.specs.Stays.{KeepsFront}
use Rattle.refutation.specs.Asked.{Begins}
use Rattle.typology_workers.specs.Consulted.{HoldsAll, IfCut, IsCertificate, IsValue}
use Rattle.typology_workers.specs.Found.{IsFoundIn, cuts_off, value_for}
use Rattle.typology_workers.specs.Turned.{IsEarliest, IsFated}
use Rattle.typology_workers.proofs.Staying.{side}
use Rattle.typology_workers.proofs.Finds.{IsFirst, found-at, none-at}

abbrev C : Type 0
C = Contradiction

pub kept-at : (xs ys : List C) (k : ℕ) (x : C) → slice_get xs k ≡ Some x → slice_get (xs ++ ys) k ≡ Some x
kept-at [] ys k x e = absurd (cc)
kept-at (z ∷ xs) ys zero x e = e
kept-at (z ∷ xs) ys (suc k) x e = kept-at xs ys k x e

pub kept-below : (xs ys : List C) (k : ℕ) (x : C) → k < length xs → slice_get (xs ++ ys) k ≡ Some x → slice_get xs k ≡ Some x
kept-below [] ys k x lt e = absurd (omega arith)
kept-below (z ∷ xs) ys zero x lt e = e
kept-below (z ∷ xs) ys (suc k) x lt e = kept-below xs ys k x (omega arith) e

pub still : (xs ys : List C) → Begins xs ys → (k : ℕ) (x : C) → slice_get xs k ≡ Some x → slice_get ys k ≡ Some x
still xs ys b k x e = subst (λ (l : List C). slice_get l k ≡ Some x) (sym b.whole) (kept-at xs b.rest k x e)

pub before : (xs ys : List C) → Begins xs ys → (k : ℕ) (x : C) → k < length xs → slice_get ys k ≡ Some x → slice_get xs k ≡ Some x
before xs ys b k x lt e = kept-below xs b.rest k x lt (subst (λ (l : List C). slice_get l k ≡ Some x) b.whole e)

pub no-shorter : (xs ys : List C) → Begins xs ys → length xs ≤ length ys
no-shorter xs ys b = let n = ap length b.whole in let m = length-append xs b.rest in omega arith

-- believed: the first value that cuts the prefix off
believed : (problem : Problem) (places : ℕ) (prefix : List ℕ) (old mid new : FrontView) (value : C) → KeepsFront places old mid → new.values ≡ mid.values → IsFirst (cuts_off problem prefix) mid.values value → IsEarliest problem places prefix old.values new.values value
believed problem places prefix old mid new value f e first = record {
  carried = inl (first.place, subst (λ (l : List C). slice_get l first.place ≡ Some value) (sym e) first.at);
  best = λ known genuine refuting earlier place at. (
    first.place,
    first.first place known (subst (λ (l : List C). slice_get l place ≡ Some known) e at) (and_from _ _ genuine refuting),
    subst (λ (l : List C). slice_get l first.place ≡ Some value) (sym e) first.at,
  );
}

-- learnt: no value of the front cut the prefix off
learnt : (problem : Problem) (places : ℕ) (prefix : List ℕ) (old mid new : FrontView) (found : C) → KeepsFront places old mid → KeepsFront places mid new → find (cuts_off problem prefix) mid.values ≡ None
    → IsValue new.values found ⊎ HoldsAll places new.values → IsCertificate problem prefix found → IsEarliest problem places prefix old.values new.values found
learnt problem places prefix old mid new found f g none kept certificate = record {
  carried = elim kept [ inl h ↦ inl h | inr h ↦ inr (h, certificate) ];
  best = λ known genuine refuting earlier place at. absurd (never known (and_from _ _ genuine refuting) earlier place at);
}
  where
    never : (known : C) → cuts_off problem prefix known ≡ true → IsValue old.values known ⊎ HoldsAll places old.values → (place : ℕ) → slice_get new.values place ≡ Some known → ⊥
    never known pass (inl h) place at = none-at (cuts_off problem prefix) mid.values h.0 known none (still old.values mid.values f.values h.0 known h.1) pass
    never known pass (inr all) place at =
        let w = slice_get_within new.values place known at in
        let n = no-shorter old.values mid.values f.values in
        let within : place < length mid.values = elim (side (length mid.values) (length new.values)) [ inl i ↦ let m = g.within i in omega arith | inr i ↦ omega arith ] in
        none-at (cuts_off problem prefix) mid.values place known none (before mid.values new.values g.values place known within at) pass

abbrev Judged : Problem → List ℕ → Finding → Type 0
Judged = IsJudged

true-holds : (problem : Problem) (prefix levels : List ℕ) → IsPrefix problem prefix → (refuted problem prefix ≡ false) × IsLeastHierarchy problem.constraints (conditions_of problem prefix) levels → IsTrueOf problem prefix (fate_of (fate_for problem prefix (Holds levels)))
true-holds problem prefix levels p h = elim (eqb_tells (length prefix) (length problem.inputs)) [
  | inl full ↦ rw full.0 (h.0, full.1, h.1)
  | inr shorter ↦ rw shorter.0 (h.0, omega (arith, shorter.1, p.short))
]

never-cut : (problem : Problem) (prefix levels : List ℕ) (P : C → Type 0) → IfCut (fate_for problem prefix (Holds levels)) P
never-cut problem prefix levels P = elim (eqb_tells (length prefix) (length problem.inputs)) [
  | inl full ↦ rw full.0 tt
  | inr shorter ↦ rw shorter.0 tt
]

pub fated : (problem : Problem) (places : ℕ) (prefix : List ℕ) (old mid new : FrontView) (finding : Finding) → IsPrefix problem prefix → KeepsFront places old mid → KeepsFront places mid new
    → HoldsAll places mid.values ⊎ (mid.misses ≡ next_number old.misses)
    → IsFound problem prefix (value_for problem mid.values prefix) finding → IsFoundIn places (value_for problem mid.values prefix) mid.values new.values finding
    → IsFated problem places prefix old new (fate_for problem prefix finding)
fated problem places prefix old mid new finding p f g looked found kept = record {
  true_of = truth (value_for problem mid.values prefix) refl finding found;
  best = top (value_for problem mid.values prefix) refl finding found kept;
  looked = elim looked [
    | inl h ↦ inl (let n = no-shorter mid.values new.values g.values in let a : places ≤ length mid.values = h in omega arith)
    | inr h ↦ inr (let m = g.misses in let a : next_number old.misses ≤ new.misses = subst (λ (n : ℕ). n ≤ new.misses) h m in a)
  ];
}
  where
    truth : (entry : Option C) → value_for problem mid.values prefix ≡ entry → (finding : Finding) → IsFound problem prefix entry finding → IsTrueOf problem prefix (fate_of (fate_for problem prefix finding))
    truth (Some value) e finding h =
        let first = found-at (cuts_off problem prefix) mid.values value e in
        subst (λ (d : Finding). IsTrueOf problem prefix (fate_of (fate_for problem prefix d))) (sym h) (and_parts _ _ first.passes)
    truth None e (Holds levels) h = true-holds problem prefix levels p h
    truth None e (Refuted value) h = (h.2, h.3)

    top : (entry : Option C) → value_for problem mid.values prefix ≡ entry → (finding : Finding) → IsFound problem prefix entry finding → IsFoundIn places entry mid.values new.values finding
        → IfCut (fate_for problem prefix finding) (IsEarliest problem places prefix old.values new.values)
    top (Some value) e finding h k =
        let first = found-at (cuts_off problem prefix) mid.values value e in
        subst (λ (d : Finding). IfCut (fate_for problem prefix d) (IsEarliest problem places prefix old.values new.values)) (sym h) (believed problem places prefix old mid new value f k first)
    top None e (Holds levels) h k = never-cut problem prefix levels (IsEarliest problem places prefix old.values new.values)
    top None e (Refuted value) h k = learnt problem places prefix old mid new value f g e k h.1
