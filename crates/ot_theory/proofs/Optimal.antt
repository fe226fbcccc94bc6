-- A class is optimal exactly where the ranking keeps its conditions over all other classes of its input.
use Rattle.std.proofs.Common.{◌≡◌, ◌≢◌, ℕ, zero, suc, ◌+◌, ◌<◌, ◌≤◌, List, [], ◌∷◌, Bool, true, false, not, ◌||◌, ◌&&◌, ◌==◌, arith, refl, sym, ◌∙◌, ap, inl, inr, length, flat_map, slice_index_or, drop, add-one}
use Rattle.std.specs.Prelude.{All, filter, nat_lt, slice_get}
use Rattle.std.specs.List.{range_with_len, list_all, list_any, enumerate_from}
use Rattle.std.specs.Option.{option_map_or}
use Rattle.std.proofs.lemmas.Bool.{lt-ltb}
use Rattle.std.proofs.lemmas.List.Folds.{list_all-map, list_all-append}
use Rattle.std.proofs.lemmas.Bool.Decides.{eqb_tells}
use Rattle.ot_theory.specs.Rankings.{better, optimal, numbers_below, IsRanking, rankings}
use Rattle.ot_theory.specs.Conditions.{condition, keeps}
use Rattle.ot_theory.specs.Problems.{Input, Problem, IsPair, givens}
pub use Rattle.ot_theory.specs.Problems.{Differ, AreClasses}
use Rattle.ot_theory.specs.Languages.{Term, Loser, classes_at, terms_of_class, terms_of_givens, terms_of, condition_of, conditions_of, each_optimal, holds, keeps_givens, refuted}
use Rattle.ot_theory.specs.Refutations.{no_ranking_keeps}
use Rattle.ot_theory.proofs.Enumeration.{any-ranking, ranking-found}
use Rattle.ot_theory.proofs.Keeping.{better-keeps, first_difference}
use Rattle.ot_theory.proofs.Pairs.{givens-kept}

pub better-condition : (n : ℕ) (order : List ℕ) (classes : List (List ℕ)) (a b : ℕ) → IsRanking n order → AreClasses n classes → a < length classes → b < length classes → b ≢ a
    → better order (slice_index_or classes a []) (slice_index_or classes b []) ≡ keeps order (condition (slice_index_or classes a []) (slice_index_or classes b []))
better-condition n order classes a b ranking c la lb ne =
    let d = c.distinct a b la lb ne in
    better-keeps order _ _ (c.width a la ∙ sym (c.width b lb)) (first_difference order _ _ d.at (omega (arith, ranking.each d.at d.within)) d.differ)

-- over a range, the test that passes at a is the test of all others
others : (a m : ℕ) (p q : ℕ → Bool) → ((b : ℕ) → b < m → b ≢ a → p b ≡ q b) → (s k : ℕ) → s + k ≤ m
    → list_all (λ b. (b == a) || p b) (range_with_len s k) ≡ list_all q (filter (λ b. not (b == a)) (range_with_len s k))
others a m p q e s zero h = refl
others a m p q e s (suc k) h = elim (eqb_tells s a) [
  | inl same ↦ rw same.0 (others a m p q e (s + 1) k (omega arith))
  | inr other ↦ rw (other.0, e s (omega arith) other.1, others a m p q e (s + 1) k (omega arith)) refl
]

and_true : (a b : Bool) → a ≡ true → (a && b) ≡ b
and_true true b h = refl
and_true false b h = absurd (cc)

pub optimal-conditions : (n : ℕ) (order : List ℕ) (classes : List (List ℕ)) (a : ℕ) → IsRanking n order → AreClasses n classes → a < length classes
    → optimal order classes a ≡ list_all (λ b. keeps order (condition (slice_index_or classes a []) (slice_index_or classes b []))) (filter (λ b. not (b == a)) (numbers_below (length classes)))
optimal-conditions n order classes a ranking c la =
    and_true (nat_lt a (length classes)) _ (lt-ltb a (length classes) la)
    ∙ others a (length classes) (λ b. better order (slice_index_or classes a []) (slice_index_or classes b [])) (λ b. keeps order (condition (slice_index_or classes a []) (slice_index_or classes b [])))
    (λ b lb ne. better-condition n order classes a b ranking c la lb ne) 0 (length classes) (omega arith)

pub all-flat_map : {X Y : Type 0} (p : Y → Bool) (f : X → List Y) (xs : List X) → list_all p (flat_map f xs) ≡ list_all (λ x. list_all p (f x)) xs
all-flat_map p f [] = refl
all-flat_map p f (x ∷ xs) = list_all-append p (f x) (flat_map f xs) ∙ ap (λ (b : Bool). list_all p (f x) && b) (all-flat_map p f xs)

-- The inputs from the i-th on, beside a prefix of a choice of them: each input has classes, and the prefix names one.
pub record Fits (n : ℕ) (input : Input) (a : ℕ) : Type 0 where
  pub classes : AreClasses n input.classes
  pub within : a < length input.classes

abbrev pub AllFit : ℕ → List Input → List ℕ → Type 0
AllFit n inputs [] = Unit {0}
AllFit n [] (a ∷ prefix) = ⊥
AllFit n (input ∷ inputs) (a ∷ prefix) = Fits n input a × AllFit n inputs prefix

-- the classes of an input in a list, and none past its end
abbrev pub classes_in : List Input → ℕ → List (List ℕ)
classes_in inputs i = option_map_or (λ input. input.classes) (slice_get inputs i) []

pub at_drop : (inputs : List Input) (i : ℕ) (input : Input) (rest : List Input) → drop i inputs ≡ input ∷ rest → classes_in inputs i ≡ input.classes
at_drop [] zero input rest e = absurd (cc)
at_drop [] (suc i) input rest e = absurd (cc)
at_drop (x ∷ inputs) zero input rest e = let same : x ≡ input = cc in ap (λ (y : Input). y.classes) same
at_drop (x ∷ inputs) (suc i) input rest e = at_drop inputs i input rest e

pub drop_more : (inputs : List Input) (i : ℕ) (input : Input) (rest : List Input) → drop i inputs ≡ input ∷ rest → drop (suc i) inputs ≡ rest
drop_more [] zero input rest e = absurd (cc)
drop_more [] (suc i) input rest e = absurd (cc)
drop_more (x ∷ inputs) zero input rest e = cc
drop_more (x ∷ inputs) (suc i) input rest e = drop_more inputs i input rest e

-- the ranking keeps the conditions of one class of an input
abbrev keeps_class : List ℕ → Problem → ℕ × ℕ → Bool
keeps_class order problem (i, a) = list_all (λ t. keeps order (condition_of problem t)) (terms_of_class (classes_at problem i) i a)

-- what the conditions of a class over the others ask, as a function of the classes
abbrev asked : List ℕ → ℕ → List (List ℕ) → Bool
asked order a classes = list_all (λ b. keeps order (condition (slice_index_or classes a []) (slice_index_or classes b []))) (filter (λ b. not (b == a)) (numbers_below (length classes)))

class_kept : (problem : Problem) (order : List ℕ) (i a : ℕ) (input : Input) (rest : List Input) → IsRanking problem.constraints order → drop i problem.inputs ≡ input ∷ rest → Fits problem.constraints input a → keeps_class order problem (i, a) ≡ optimal order input.classes a
class_kept problem order i a input rest ranking e f =
    list_all-map (λ t. keeps order (condition_of problem t)) (Loser i a) (filter (λ b. not (b == a)) (numbers_below (length (classes_at problem i))))
    ∙ ap (asked order a) (at_drop problem.inputs i input rest e)
    ∙ sym (optimal-conditions problem.constraints order input.classes a ranking f.classes f.within)

prefix_kept : (problem : Problem) (order : List ℕ) (i : ℕ) (rest : List Input) (prefix : List ℕ) → IsRanking problem.constraints order → drop i problem.inputs ≡ rest → AllFit problem.constraints rest prefix → list_all (keeps_class order problem) (enumerate_from i prefix) ≡ each_optimal order rest prefix
prefix_kept problem order i [] [] ranking e f = refl
prefix_kept problem order i (input ∷ rest) [] ranking e f = refl
prefix_kept problem order i [] (a ∷ prefix) ranking e f = absurd f
prefix_kept problem order i (input ∷ rest) (a ∷ prefix) ranking e f =
    rw (class_kept problem order i a input rest ranking e f.0)
    (ap (λ (b : Bool). optimal order input.classes a && b)
    (prefix_kept problem order (i + 1) rest prefix ranking (rw add-one (drop_more problem.inputs i input rest e)) f.1))

-- A prefix of a problem: each input has classes, of which it names one, and each given pair is of two constraints.
pub record IsFitting (problem : Problem) (prefix : List ℕ) : Type 0 where
  pub classes : AllFit problem.constraints problem.inputs prefix
  pub pairs : All (IsPair problem.constraints) (givens problem)

-- A prefix holds under a ranking exactly where the ranking keeps its conditions.
pub holds-conditions : (problem : Problem) (order prefix : List ℕ) → IsRanking problem.constraints order → IsFitting problem prefix → holds problem order prefix ≡ list_all (keeps order) (conditions_of problem prefix)
holds-conditions problem order prefix ranking f =
    let those : ℕ × ℕ → List Term = λ (i, a). terms_of_class (classes_at problem i) i a in
    let kept = all-flat_map (λ t. keeps order (condition_of problem t)) those (enumerate_from 0 prefix) ∙ prefix_kept problem order 0 problem.inputs prefix ranking refl f.classes in
    sym (
    list_all-map (keeps order) (condition_of problem) (terms_of problem prefix)
    ∙ list_all-append (λ t. keeps order (condition_of problem t)) (terms_of_givens problem) (flat_map those (enumerate_from 0 prefix))
    ∙ ap (λ (b : Bool). b && list_all (λ t. keeps order (condition_of problem t)) (flat_map those (enumerate_from 0 prefix))) (givens-kept problem order ranking f.pairs)
    ∙ ap (λ (b : Bool). keeps_givens problem order && b) kept
    )

any_same : (n : ℕ) (p q : List ℕ → Bool) → ((order : List ℕ) → IsRanking n order → p order ≡ q order) → list_any p (rankings n) ≡ list_any q (rankings n)
any_same n p q e = by (list_any p (rankings n)) (list_any q (rankings n)) (λ h. from h) (λ h. back h)
  where
    from : list_any p (rankings n) ≡ true → list_any q (rankings n) ≡ true
    from h = let f = ranking-found n p h in any-ranking n f.order q f.ranking (sym (e f.order f.ranking) ∙ f.passes)

    back : list_any q (rankings n) ≡ true → list_any p (rankings n) ≡ true
    back h = let f = ranking-found n q h in any-ranking n f.order p f.ranking (e f.order f.ranking ∙ f.passes)

    by : (a b : Bool) → (a ≡ true → b ≡ true) → (b ≡ true → a ≡ true) → a ≡ b
    by true b f g = sym (f refl)
    by false true f g = g refl
    by false false f g = refl

-- A prefix is refuted exactly where no ranking keeps its conditions.
pub refuted-conditions : (problem : Problem) (prefix : List ℕ) → IsFitting problem prefix → refuted problem prefix ≡ no_ranking_keeps problem.constraints (conditions_of problem prefix)
unfolding refuted no_ranking_keeps
refuted-conditions problem prefix f =
    ap not (any_same problem.constraints (λ order. holds problem order prefix) (λ order. list_all (keeps order) (conditions_of problem prefix)) (λ order ranking. holds-conditions problem order prefix ranking f))
