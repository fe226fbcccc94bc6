-- Prefixes of choices, by a test: each of them stands once in the list of prefixes, and each full one once in that of choices.
use Rattle.std.proofs.Common.{◌≡◌, ℕ, zero, suc, ◌+◌, ◌<◌, ◌≤◌, List, [], ◌∷◌, ◌++◌, Bool, true, false, ◌&&◌, ◌==◌, arith, refl, sym, ◌∙◌, ap, inl, inr, cond, length, map, flat_map, zero-add}
use Rattle.std.specs.Prelude.{All, nat_lt, nat_eq}
use Rattle.std.proofs.lemmas.Bool.{and_parts, ltb-true, ltb-false, le-ltb, cases_Bool}
use Rattle.std.proofs.lemmas.Bool.Decides.{eqb_tells}
use Rattle.std.proofs.Math.Bool.{and_assoc}
use Rattle.std.proofs.lemmas.List.Elements.{All-head, All-tail}
use Rattle.ot_theory.specs.Rankings.{numbers_below}
use Rattle.ot_theory.specs.Problems.{Input, IsPair, Problem, givens}
use Rattle.ot_theory.specs.Languages.{choices}
use Rattle.ot_theory.specs.Refutations.{prefixes}
use Rattle.ot_theory.proofs.Optimal.{AllFit, classes_in}
use Rattle.ot_theory.proofs.Classes.{AllClasses}
use Rattle.ot_theory.proofs.Optimal.{AreClasses}
use Rattle.search_deeds.specs.Deeds.{times}
use Rattle.search_deeds.proofs.Counts.{same, times-cons, times-blocks-none, times-blocks-outside, times-blocks-within}

-- each number is a class of its input
abbrev pub fits : List Input → List ℕ → Bool
fits inputs [] = true
fits [] (a ∷ prefix) = false
fits (input ∷ inputs) (a ∷ prefix) = nat_lt a (length input.classes) && fits inputs prefix

-- as many classes as there are inputs
abbrev pub is_full : List Input → List ℕ → Bool
is_full inputs prefix = length prefix == length inputs

and_true_right : (b : Bool) → b ≡ (b && true)
and_true_right true = refl
and_true_right false = refl

-- a prefix with one class more
pub fits-push : (inputs : List Input) (prefix : List ℕ) (a : ℕ) → fits inputs (prefix ++ a ∷ []) ≡ (fits inputs prefix && nat_lt a (length (classes_in inputs (length prefix))))
fits-push [] [] a = sym (le-ltb a 0 (omega arith))
fits-push [] (x ∷ prefix) a = refl
fits-push (input ∷ inputs) [] a = sym (and_true_right (nat_lt a (length input.classes)))
fits-push (input ∷ inputs) (x ∷ prefix) a =
    ap (λ b. nat_lt x (length input.classes) && b) (fits-push inputs prefix a)
    ∙ sym (and_assoc (nat_lt x (length input.classes)) (fits inputs prefix) (nat_lt a (length (classes_in inputs (length prefix)))))

-- an input that has a class is one
pub classes-within : (inputs : List Input) (i a : ℕ) → a < length (classes_in inputs i) → i < length inputs
classes-within [] i a h = absurd (omega arith)
classes-within (input ∷ inputs) zero a h = omega arith
classes-within (input ∷ inputs) (suc i) a h = omega (arith, classes-within inputs i a h)

pub fits-short : (inputs : List Input) (prefix : List ℕ) → fits inputs prefix ≡ true → length prefix ≤ length inputs
fits-short inputs [] h = omega arith
fits-short [] (a ∷ prefix) h = absurd (cc)
fits-short (input ∷ inputs) (a ∷ prefix) h = omega (arith, fits-short inputs prefix (and_parts _ _ h).1)

-- each input of the problem has classes, and each given pair is of two of its constraints
pub record IsSound (problem : Problem) : Type 0 where
  pub classes : AllClasses problem.constraints problem.inputs
  pub pairs : All (IsPair problem.constraints) (givens problem)

pub AllFit-fits : (n : ℕ) (inputs : List Input) (prefix : List ℕ) → AllClasses n inputs → fits inputs prefix ≡ true → AllFit n inputs prefix
AllFit-fits n inputs [] c h = tt
AllFit-fits n [] (a ∷ prefix) c h = absurd (cc)
AllFit-fits n (input ∷ inputs) (a ∷ prefix) c h = (
  record { classes = All-head (λ (i : Input). AreClasses n i.classes) input inputs c; within = ltb-true _ _ (and_parts _ _ h).0 },
  AllFit-fits n inputs prefix (All-tail (λ (i : Input). AreClasses n i.classes) input inputs c) (and_parts _ _ h).1,
)

-- the lists that begin with a class of an input
begun : (classes : ℕ) (a : ℕ) (p : List ℕ) (xs : List (List ℕ)) → times (a ∷ p) (flat_map (λ b. map (λ rest. b ∷ rest) xs) (numbers_below classes)) ≡ cond (nat_lt a classes) (times p xs) 0
begun classes a p xs = elim (cases_Bool (nat_lt a classes)) [
  | inl below ↦ times-blocks-within a p xs 0 classes (omega arith) (omega (arith, ltb-true a classes below)) ∙ ap (λ c. cond c (times p xs) 0) (sym below)
  | inr above ↦ times-blocks-outside a p xs 0 classes (λ k l u. other k (omega (arith, ltb-false a classes above))) ∙ ap (λ c. cond c (times p xs) 0) (sym above)
]
  where
    other : (k : ℕ) → k < a → nat_eq a k ≡ false
    other k less = elim (eqb_tells a k) [
      | inl here ↦ absurd (omega (arith, here.1))
      | inr there ↦ there.0
    ]

joined : (b c : Bool) → ◌≡◌ {A = ℕ} (cond b (cond c 1 0) 0) (cond (b && c) 1 0)
joined true c = refl
joined false c = refl

pub times-prefixes : (inputs : List Input) (prefix : List ℕ) → times prefix (prefixes inputs) ≡ cond (fits inputs prefix) 1 0
unfolding prefixes
times-prefixes [] [] = refl
times-prefixes [] (a ∷ prefix) = refl
times-prefixes (input ∷ inputs) [] =
    times-cons [] [] (flat_map (λ b. map (λ rest. b ∷ rest) (prefixes inputs)) (numbers_below (length input.classes)))
    ∙ ap (λ n. 1 + n) (times-blocks-none (prefixes inputs) 0 (length input.classes))
times-prefixes (input ∷ inputs) (a ∷ prefix) =
    times-cons (a ∷ prefix) [] (flat_map (λ b. map (λ rest. b ∷ rest) (prefixes inputs)) (numbers_below (length input.classes)))
    ∙ zero-add (times (a ∷ prefix) (flat_map (λ b. map (λ rest. b ∷ rest) (prefixes inputs)) (numbers_below (length input.classes))))
    ∙ begun (length input.classes) a prefix (prefixes inputs)
    ∙ ap (λ n. cond (nat_lt a (length input.classes)) n 0) (times-prefixes inputs prefix)
    ∙ joined (nat_lt a (length input.classes)) (fits inputs prefix)

pub times-choices : (inputs : List Input) (prefix : List ℕ) → times prefix (choices inputs) ≡ cond (fits inputs prefix && is_full inputs prefix) 1 0
unfolding choices
times-choices [] [] = refl
times-choices [] (a ∷ prefix) = refl
times-choices (input ∷ inputs) [] = times-blocks-none (choices inputs) 0 (length input.classes) ∙ ap (λ c. cond c 1 0) (sym (none (length inputs)))
  where
    none : (n : ℕ) → (0 == suc n) ≡ false
    none n = elim (eqb_tells 0 (suc n)) [
      | inl here ↦ absurd (omega (arith, here.1))
      | inr there ↦ there.0
    ]
times-choices (input ∷ inputs) (a ∷ prefix) =
    begun (length input.classes) a prefix (choices inputs)
    ∙ ap (λ n. cond (nat_lt a (length input.classes)) n 0) (times-choices inputs prefix)
    ∙ joined (nat_lt a (length input.classes)) (fits inputs prefix && is_full inputs prefix)
    ∙ ap (λ c. cond c 1 0) (sym (and_assoc (nat_lt a (length input.classes)) (fits inputs prefix) (is_full inputs prefix)) ∙ ap (λ c. (nat_lt a (length input.classes) && fits inputs prefix) && c) (sym (more (length prefix) (length inputs))))
  where
    more : (m n : ℕ) → (suc m == suc n) ≡ (m == n)
    more m n = elim (eqb_tells m n) [
      | inl here ↦ elim (eqb_tells (suc m) (suc n)) [
        | inl same ↦ same.0 ∙ sym here.0
        | inr other ↦ absurd (other.1 (ap suc here.1))
      ]
      | inr there ↦ elim (eqb_tells (suc m) (suc n)) [
        | inl same ↦ absurd (there.1 (omega (arith, same.1)))
        | inr other ↦ other.0 ∙ sym there.0
      ]
    ]
