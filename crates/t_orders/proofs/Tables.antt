-- Rows and tables, a choice after another.
use Rattle.std.proofs.Common.{◌≡◌, ◌≢◌, ℕ, ◌+◌, ◌<◌, ◌≤◌, List, [], ◌∷◌, ◌++◌, true, false, arith, refl, sym, ◌∙◌, ap, inl, inr, length, slice_index, slice_index_or, set, take, append-nil, get_or, subst}
use Rattle.std.specs.Prelude.{All}
use Rattle.std.proofs.lemmas.Bool.Decides.{eqb_tells}
use Rattle.std.proofs.lemmas.List.{get_or-map, get_or-set_same, get_or-set_other, length-map, length-set, take_more, take_all, get_or_read}
use Rattle.std.proofs.lemmas.List.Elements.{filter-append}
use Rattle.ot_base.specs.declared.tableau.ClassId.{ClassId}
use Rattle.ot_theory.specs.Problems.{Problem}
use Rattle.ot_theory.specs.Languages.{classes_at}
use Rattle.refutation.specs.declared.typology.Language.{Language}
use Rattle.refutation.specs.Prefixes.{class_numbers}
use Rattle.t_orders.specs.declared.seen.Seen.{Seen}
use Rattle.t_orders.specs.declared.seen.Seen.TheVariants.{Nothing}
use Rattle.t_orders.specs.Implications.{Output, choices_of, has}
use Rattle.t_orders.specs.Rows.{seen_with, seen_at, IsTableOf, AddsChoice, having, IsChoice}

-- ---- a row in which nothing is seen
pub record IsBlank (n : ℕ) (row : List Seen) : Type 0 where
  pub width : length row ≡ n
  pub each : (j : ℕ) → seen_at row j ≡ Nothing

-- ---- a row with a choice more
-- the classes of the choice so far are added
pub record IsNoted (old row : List Seen) (classes : List ℕ) (j : ℕ) : Type 0 where
  pub long : length row ≡ length old
  pub before : (k : ℕ) → k < j → seen_at row k ≡ seen_with (seen_at old k) (slice_index classes k)
  pub behind : (k : ℕ) → j ≤ k → seen_at row k ≡ seen_at old k

-- ---- a table with a choice more
having-here : (output : Output) (choices : List (List ℕ)) (choice : List ℕ) → has output choice ≡ true → having output (choices ++ choice ∷ []) ≡ having output choices ++ choice ∷ []
having-here output choices choice h = filter-append (has output) choices (choice ∷ []) ∙ rw h refl

having-other : (output : Output) (choices : List (List ℕ)) (choice : List ℕ) → has output choice ≡ false → having output (choices ++ choice ∷ []) ≡ having output choices
having-other output choices choice h = filter-append (has output) choices (choice ∷ []) ∙ rw h (append-nil (having output choices))

pub table-more : (choices : List (List ℕ)) (choice : List ℕ) (i classes inputs : ℕ) (table new : List (List Seen)) (row : List Seen) → slice_index choice i < classes → new ≡ set table (slice_index choice i) row
    → AddsChoice choice (slice_index_or table (slice_index choice i) []) row → IsTableOf choices i classes inputs table → IsTableOf (choices ++ choice ∷ []) i classes inputs new
table-more choices choice i classes inputs table new row within e adds h = record {
  long = rw (e, length-set table (slice_index choice i) row) h.long;
  rows = λ a below. elim (eqb_tells (slice_index choice i) a) [
    | inl here ↦
        rw (having-here (record { input = i; class = a }) choices choice here.0, e, ← here.1, get_or-set_same table (slice_index choice i) row [] (omega (arith, h.long)))
        (adds (having (record { input = i; class = slice_index choice i }) choices) inputs (h.rows (slice_index choice i) within))
    | inr other ↦
        let apart : a ≢ slice_index choice i = λ same. other.1 (sym same) in
        rw (having-other (record { input = i; class = a }) choices choice other.0, e, get_or-set_other table (slice_index choice i) a row [] apart) (h.rows a below)
  ];
}

-- ---- a table with a language more
-- the classes of a language that stands in a list
pub record Chosen (problem : Problem) (languages : List Language) (k : ℕ) (classes : List ClassId) : Type 0 where
  pub listed : get_or (choices_of languages) k [] ≡ class_numbers classes
  pub choice : IsChoice problem (class_numbers classes)
  pub long : length classes ≡ length problem.inputs

pub chosen : (problem : Problem) (languages : List Language) (k : ℕ) (language : Language) (classes : List ClassId) → All (IsChoice problem) (choices_of languages) → k < length languages
    → language ≡ get_or languages k language → class_numbers classes ≡ language.choice → Chosen problem languages k classes
chosen problem languages k language classes all below is same =
    let listed : get_or (choices_of languages) k [] ≡ class_numbers classes =
    get_or-map (λ (l : Language). l.choice) languages k language [] below ∙ ap (λ (l : Language). l.choice) (sym is) ∙ sym same in
    let choice : IsChoice problem (class_numbers classes) = subst (IsChoice problem) listed (all k [] (omega (arith, length-map languages (λ (l : Language). l.choice)))) in
    record { listed = listed; choice = choice; long = sym (length-map classes (λ (class : ClassId). class.0)) ∙ choice.full }

-- the number of the class at an input
pub class-at : (classes : List ClassId) (i : ℕ) (d : ClassId) → i < length classes → slice_index (class_numbers classes) i ≡ (get_or classes i d).0
class-at classes i d below = get_or-map (λ (class : ClassId). class.0) classes i d 0 below

-- a class of a choice is one of its input
pub class-within : (problem : Problem) (languages : List Language) (k i : ℕ) (classes : List ClassId) (d : ClassId) → i < length problem.inputs → Chosen problem languages k classes → (get_or classes i d).0 < length (classes_at problem i)
class-within problem languages k i classes d below c =
    let here = class-at classes i d (omega (arith, c.long)) in
    subst (λ (a : ℕ). a < length (classes_at problem i)) here (c.choice.prefix.within i (omega (arith, c.choice.full)))

pub row-long : (table : List (List Seen)) (a inputs : ℕ) (row : List Seen) → a < length table → row ≡ get_or table a row → length (get_or table a []) ≡ inputs → length row ≡ inputs
row-long table a inputs row below is long = ap (λ (r : List Seen). length r) (get_or_read table a row below is []) ∙ long

pub table-start : (classes inputs n m : ℕ) (table : List (List Seen)) (i : ℕ) → n ≡ classes → m ≡ inputs → ((i : ℕ) → IsTableOf [] i n m table) → IsTableOf [] i classes inputs table
table-start classes inputs n m table i e f h = rw (← e, ← f) (h i)

pub table-step : (problem : Problem) (languages : List Language) (k i classes inputs a : ℕ) (choice : List ClassId) (table new : List (List Seen)) (old row : List Seen) → k < length languages
    → Chosen problem languages k choice → slice_index (class_numbers choice) i ≡ a → a < classes → old ≡ get_or table a old → new ≡ set table a row → AddsChoice (class_numbers choice) old row
    → IsTableOf (take k (choices_of languages)) i classes inputs table → IsTableOf (take (k + 1) (choices_of languages)) i classes inputs new
table-step problem languages k i classes inputs a choice table new old row below c here within is e adds t =
    let short : k < length (choices_of languages) = omega (arith, length-map languages (λ (l : Language). l.choice)) in
    let grown : take (k + 1) (choices_of languages) ≡ take k (choices_of languages) ++ class_numbers choice ∷ [] =
    take_more (choices_of languages) k [] short ∙ ap (λ (l : List ℕ). take k (choices_of languages) ++ l ∷ []) c.listed in
    let read : old ≡ get_or table a [] = get_or_read table a old (omega (arith, t.long)) is [] in
    let adds_here : AddsChoice (class_numbers choice) (get_or table a []) row = subst (λ (o : List Seen). AddsChoice (class_numbers choice) o row) read adds in
    subst (λ (l : List (List ℕ)). IsTableOf l i classes inputs new) (sym grown)
    (table-more (take k (choices_of languages)) (class_numbers choice) i classes inputs table new row
    (subst (λ (b : ℕ). b < classes) (sym here) within)
    (subst (λ (b : ℕ). new ≡ set table b row) (sym here) e)
    (subst (λ (b : ℕ). AddsChoice (class_numbers choice) (get_or table b []) row) (sym here) adds_here) t)

-- after the last language
pub table-end : (languages : List Language) (k i classes inputs : ℕ) (table : List (List Seen)) → length languages ≤ k → IsTableOf (take k (choices_of languages)) i classes inputs table → IsTableOf (choices_of languages) i classes inputs table
table-end languages k i classes inputs table all t =
    subst (λ (l : List (List ℕ)). IsTableOf l i classes inputs table) (take_all k (choices_of languages) (omega (arith, length-map languages (λ (l : Language). l.choice)))) t
