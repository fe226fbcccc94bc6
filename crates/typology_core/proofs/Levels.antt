-- The prefixes of each length that a search comes to: the cuts of that length, and those that hold.
use Rattle.std.proofs.Common.{◌≡◌, ℕ, zero, suc, ◌+◌, ◌<◌, ◌≢◌, ◌≤◌, List, [], ◌∷◌, ◌++◌, Bool, not, ◌==◌, arith, refl, sym, ◌∙◌, ap, cond, inl, inr, length, length-append, flat_map}
use Rattle.std.specs.List.{filter}
use Rattle.std.proofs.lemmas.Bool.{cases_Bool, eq-eqb, ne_eqb}
use Rattle.std.proofs.lemmas.List.{append-nil}
use Rattle.std.proofs.lemmas.List.Elements.{filter-append}
use Rattle.std.proofs.lemmas.List.Concat.{flat_map-append}
use Rattle.std.proofs.lemmas.List.Folds.{flat_map-map}
use Rattle.ot_theory.specs.Rankings.{numbers_below}
use Rattle.ot_theory.specs.Problems.{Problem}
use Rattle.ot_theory.specs.Languages.{classes_at, languages, refuted}
use Rattle.ot_theory.specs.Refutations.{cuts}
use Rattle.search_deeds.specs.Deeds.{children}
use Rattle.typology_core.specs.Below.{cuts_below, languages_below}
use Rattle.typology_core.specs.Learned.{held_at, level, refuted_at}
use Rattle.typology_core.proofs.Below.{cuts-below, flat_map-none, flat_map-same, languages-below}

pub filter-flat_map : {X Y : Type 0} (p : Y → Bool) (f : X → List Y) (xs : List X) → filter p (flat_map f xs) ≡ flat_map (λ x. filter p (f x)) xs
filter-flat_map p f [] = refl
filter-flat_map p f (x ∷ xs) = filter-append p (f x) (flat_map f xs) ∙ ap (λ (l : List _). filter p (f x) ++ l) (filter-flat_map p f xs)

flat_map-flat_map : {X Y Z : Type 0} (g : Y → List Z) (f : X → List Y) (xs : List X) → flat_map g (flat_map f xs) ≡ flat_map (λ x. flat_map g (f x)) xs
flat_map-flat_map g f [] = refl
flat_map-flat_map g f (x ∷ xs) = flat_map-append g (f x) (flat_map f xs) ∙ ap (λ (l : List _). flat_map g (f x) ++ l) (flat_map-flat_map g f xs)

flat_map-single : {X : Type 0} (xs : List X) → flat_map (λ x. x ∷ []) xs ≡ xs
flat_map-single [] = refl
flat_map-single (x ∷ xs) = ap (λ (l : List _). x ∷ l) (flat_map-single xs)

-- the children of those that hold
abbrev pub next : Problem → List (List ℕ) → List (List ℕ)
next problem prefixes = flat_map (children problem) (filter (λ prefix. not (refuted problem prefix)) prefixes)

-- what is reached from a prefix by so many classes more
abbrev pub reach : Problem → ℕ → List ℕ → List (List ℕ)
reach problem zero prefix = prefix ∷ []
reach problem (suc n) prefix = cond (refuted problem prefix) [] (flat_map (reach problem n) (children problem prefix))

next-flat_map : (problem : Problem) (f : List ℕ → List (List ℕ)) (xs : List (List ℕ)) → next problem (flat_map f xs) ≡ flat_map (λ x. next problem (f x)) xs
next-flat_map problem f xs =
    ap (flat_map (children problem)) (filter-flat_map (λ prefix. not (refuted problem prefix)) f xs)
    ∙ flat_map-flat_map (children problem) (λ x. filter (λ prefix. not (refuted problem prefix)) (f x)) xs

reach-more : (problem : Problem) (n : ℕ) (prefix : List ℕ) → reach problem (suc n) prefix ≡ next problem (reach problem n prefix)
reach-more problem zero prefix = elim (cases_Bool (refuted problem prefix)) [
  | inl e ↦ rw e refl
  | inr e ↦ rw e (flat_map-single (children problem prefix) ∙ sym (append-nil (children problem prefix)))
]
reach-more problem (suc n) prefix = elim (cases_Bool (refuted problem prefix)) [
  | inl e ↦ rw e refl
  | inr e ↦ rw e (flat_map-same (reach problem (suc n)) (λ c. next problem (reach problem n c)) (children problem prefix) (λ c. reach-more problem n c) ∙ sym (next-flat_map problem (reach problem n) (children problem prefix)))
]

pub level-reach : (problem : Problem) (k : ℕ) → level problem k ≡ reach problem k []
unfolding level
level-reach problem zero = refl
level-reach problem (suc k) = ap (next problem) (level-reach problem k) ∙ sym (reach-more problem k [])

pub level-next : (problem : Problem) (k : ℕ) → level problem (k + 1) ≡ next problem (level problem k)
unfolding level
level-next problem k = let e : k + 1 ≡ suc k = omega arith in rw e refl

over-children : (problem : Problem) (prefix : List ℕ) (f g : List ℕ → List (List ℕ)) → ((a : ℕ) → f (prefix ++ a ∷ []) ≡ g (prefix ++ a ∷ [])) → flat_map f (children problem prefix) ≡ flat_map g (children problem prefix)
over-children problem prefix f g same =
    let numbers = numbers_below (length (classes_at problem (length prefix))) in
    flat_map-map f (λ a. prefix ++ a ∷ []) numbers ∙ flat_map-same (λ a. f (prefix ++ a ∷ [])) (λ a. g (prefix ++ a ∷ [])) numbers same ∙ sym (flat_map-map g (λ a. prefix ++ a ∷ []) numbers)

none-here : (k : ℕ) (prefix : List ℕ) → k ≢ length prefix → filter (λ p. length p == k) (prefix ∷ []) ≡ []
none-here k prefix other = rw (ne_eqb (length prefix) k (λ e. other (sym e))) refl

children-none : (problem : Problem) (k : ℕ) (prefix : List ℕ) (f : List ℕ → List (List ℕ)) → ((a : ℕ) → filter (λ p. length p == k) (f (prefix ++ a ∷ [])) ≡ []) → filter (λ p. length p == k) (flat_map f (children problem prefix)) ≡ []
children-none problem k prefix f none =
    let numbers = numbers_below (length (classes_at problem (length prefix))) in
    filter-flat_map (λ p. length p == k) f (children problem prefix)
    ∙ flat_map-map (λ c. filter (λ p. length p == k) (f c)) (λ a. prefix ++ a ∷ []) numbers
    ∙ flat_map-none (λ a. filter (λ p. length p == k) (f (prefix ++ a ∷ []))) numbers none

-- No cut below a prefix is shorter than it.
longer : (problem : Problem) (k n : ℕ) (prefix : List ℕ) → k < length prefix → filter (λ p. length p == k) (cuts_below problem n prefix) ≡ []
unfolding cuts_below
longer problem k zero prefix less = elim (cases_Bool (refuted problem prefix)) [
  | inl e ↦ rw e (none-here k prefix (λ f. omega (arith, f)))
  | inr e ↦ rw e refl
]
longer problem k (suc n) prefix less = elim (cases_Bool (refuted problem prefix)) [
  | inl e ↦ rw e (none-here k prefix (λ f. omega (arith, f)))
  | inr e ↦ rw e (children-none problem k prefix (cuts_below problem n) (λ a. longer problem k n (prefix ++ a ∷ []) (omega (arith, length-append prefix (a ∷ [])))))
]

cuts-reached : (problem : Problem) (j n k : ℕ) → j ≤ n → (prefix : List ℕ) → length prefix + j ≡ k → filter (λ p. length p == k) (cuts_below problem n prefix) ≡ filter (refuted problem) (reach problem j prefix)
unfolding cuts_below
cuts-reached problem zero zero k h prefix long = elim (cases_Bool (refuted problem prefix)) [
  | inl e ↦ rw (e, eq-eqb (length prefix) k (omega (arith, long))) refl
  | inr e ↦ rw e refl
]
cuts-reached problem zero (suc n) k h prefix long = elim (cases_Bool (refuted problem prefix)) [
  | inl e ↦ rw (e, eq-eqb (length prefix) k (omega (arith, long))) refl
  | inr e ↦ rw e (children-none problem k prefix (cuts_below problem n) (λ a. longer problem k n (prefix ++ a ∷ []) (omega (arith, long, length-append prefix (a ∷ [])))))
]
cuts-reached problem (suc j) zero k h prefix long = absurd (omega (arith, h))
cuts-reached problem (suc j) (suc n) k h prefix long = elim (cases_Bool (refuted problem prefix)) [
  | inl e ↦ rw e (none-here k prefix (λ f. omega (arith, f, long)))
  | inr e ↦ rw e (
      filter-flat_map (λ p. length p == k) (cuts_below problem n) (children problem prefix)
      ∙ over-children problem prefix (λ c. filter (λ p. length p == k) (cuts_below problem n c)) (λ c. filter (refuted problem) (reach problem j c))
      (λ a. cuts-reached problem j n k (omega (arith, h)) (prefix ++ a ∷ []) (omega (arith, long, length-append prefix (a ∷ []))))
      ∙ sym (filter-flat_map (refuted problem) (reach problem j) (children problem prefix)))
]

-- The cuts of a length are the refuted prefixes of that length that the search comes to.
pub cuts-at : (problem : Problem) (k : ℕ) → k ≤ length problem.inputs → filter (λ p. length p == k) (cuts problem) ≡ refuted_at problem k
cuts-at problem k within =
    ap (filter (λ p. length p == k)) (cuts-below problem) ∙ cuts-reached problem k (length problem.inputs) k within [] (omega arith) ∙ ap (filter (refuted problem)) (sym (level-reach problem k))

languages-reached : (problem : Problem) (n : ℕ) (prefix : List ℕ) → languages_below problem n prefix ≡ filter (λ p. not (refuted problem p)) (reach problem n prefix)
unfolding languages_below
languages-reached problem zero prefix = elim (cases_Bool (refuted problem prefix)) [
  | inl e ↦ rw e refl
  | inr e ↦ rw e refl
]
languages-reached problem (suc n) prefix = elim (cases_Bool (refuted problem prefix)) [
  | inl e ↦ rw e refl
  | inr e ↦ rw e (
      over-children problem prefix (languages_below problem n) (λ c. filter (λ p. not (refuted problem p)) (reach problem n c)) (λ a. languages-reached problem n (prefix ++ a ∷ []))
      ∙ sym (filter-flat_map (λ p. not (refuted problem p)) (reach problem n) (children problem prefix)))
]

-- The languages are the full choices that hold.
pub languages-at : (problem : Problem) → languages problem ≡ held_at problem (length problem.inputs)
languages-at problem =
    languages-below problem ∙ languages-reached problem (length problem.inputs) [] ∙ ap (filter (λ p. not (refuted problem p))) (sym (level-reach problem (length problem.inputs)))
