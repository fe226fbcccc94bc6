-- The implications that tables tell are those of the problem.
use Rattle.std.proofs.Common.{◌≡◌, ℕ, zero, suc, ◌+◌, ◌<◌, ◌≤◌, List, [], ◌∷◌, ◌++◌, Bool, true, false, not, ◌||◌, ◌&&◌, ◌==◌, cond, arith, refl, sym, ◌∙◌, ap, inl, inr, length, slice_index, slice_index_or, map, flat_map, append-nil, append_assoc, subst}
use Rattle.std.specs.Prelude.{All, filter, fold}
use Rattle.std.specs.List.{list_all, list_any, range_with_len}
use Rattle.std.proofs.lemmas.Bool.{cases_Bool, eq-eqb}
use Rattle.std.proofs.lemmas.Bool.Decides.{eqb_tells}
use Rattle.std.proofs.lemmas.List.{map-append, get_or_default}
use Rattle.std.proofs.lemmas.List.Elements.{filter-append, All-head, All-tail, All-filter, All-weaker}
use Rattle.std.proofs.lemmas.Grind.{flat_map-append}
use Rattle.ot_theory.specs.Rankings.{numbers_below}
use Rattle.ot_base.specs.declared.limits.TheConstants.{CANDIDATE_LIMIT}
use Rattle.ot_theory.specs.Problems.{Problem, Input}
use Rattle.ot_theory.proofs.Optimal.{classes_in}
use Rattle.ot_theory.specs.Languages.{classes_at, languages}
use Rattle.refutation.specs.declared.implication.Implication.{Implication}
use Rattle.refutation.specs.declared.typology.Language.{Language}
use Rattle.refutation.specs.Typologies.{found_of}
use Rattle.violation_profiles.specs.WellFormed.{IsWellFormed, IsWellFormedInput}
use Rattle.t_orders.specs.declared.seen.Seen.{Seen}
use Rattle.t_orders.specs.declared.seen.Seen.TheVariants.{Nothing, One, Several}
use Rattle.t_orders.specs.Implications.{Output, outputs, is_possible, implies, is_listed, implication, implications, choices_of, has}
use Rattle.t_orders.specs.Rows.{seen_with, seen_of, seen_at, IsRowOf, IsTableOf, having, IsChoice, implied_at, implied_by_row, implied_by_table}
use Rattle.t_orders.proofs.OneLanguage.{IsChoice-languages}
use Rattle.t_orders.proofs.ReadOff.{possible_by_languages, implied_by_languages}

-- ---- lists over the numbers below
range-push : (s n : ℕ) → range_with_len s (suc n) ≡ range_with_len s n ++ (s + n) ∷ []
range-push s zero = ap (λ k. k ∷ []) (omega arith)
range-push s (suc n) = ap (λ rest. s ∷ rest) (range-push (s + 1) n ∙ ap (λ k. range_with_len (s + 1) n ++ k ∷ []) (omega arith))

-- what one number more adds
pub flat_map-below_more : {X : Type 0} (f : ℕ → List X) (n : ℕ) → flat_map f (numbers_below (n + 1)) ≡ flat_map f (numbers_below n) ++ f n
flat_map-below_more f n =
    let next : n + 1 ≡ suc n = omega arith in
    let here : 0 + n ≡ n = omega arith in
    ap (λ m. flat_map f (range_with_len 0 m)) next
    ∙ ap (flat_map f) (range-push 0 n ∙ ap (λ k. range_with_len 0 n ++ k ∷ []) here)
    ∙ flat_map-append f (range_with_len 0 n) (n ∷ [])
    ∙ ap (λ rest. flat_map f (range_with_len 0 n) ++ rest) (append-nil (f n))

flat_map-same : {X : Type 0} (f g : ℕ → List X) (s n : ℕ) → ((k : ℕ) → s ≤ k → k < s + n → f k ≡ g k) → flat_map f (range_with_len s n) ≡ flat_map g (range_with_len s n)
flat_map-same f g s zero e = refl
flat_map-same f g s (suc n) e = rw (e s (omega arith) (omega arith), flat_map-same f g (s + 1) n (λ k l u. e k (omega arith) (omega arith))) refl

-- what is added behind what is there
pub added : {X : Type 0} (first before after : List X) (f : ℕ → List X) (n : ℕ) → before ≡ first ++ flat_map f (numbers_below n) → after ≡ before ++ f n → after ≡ first ++ flat_map f (numbers_below (n + 1))
added first before after f n h e = e ∙ rw h (append_assoc first (flat_map f (numbers_below n)) (f n)) ∙ ap (λ l. first ++ l) (sym (flat_map-below_more f n))

flat_map-map : {X Y Z : Type 0} (f : Y → List Z) (g : X → Y) (xs : List X) → flat_map f (map g xs) ≡ flat_map (λ x. f (g x)) xs
flat_map-map f g [] = refl
flat_map-map f g (x ∷ xs) = ap (λ l. f (g x) ++ l) (flat_map-map f g xs)

flat_map-flat_map : {X Y Z : Type 0} (f : Y → List Z) (g : X → List Y) (xs : List X) → flat_map f (flat_map g xs) ≡ flat_map (λ x. flat_map f (g x)) xs
flat_map-flat_map f g [] = refl
flat_map-flat_map f g (x ∷ xs) = flat_map-append f (g x) (flat_map g xs) ∙ ap (λ l. flat_map f (g x) ++ l) (flat_map-flat_map f g xs)

map-filter-flat_map : {X Y Z : Type 0} (f : Y → Z) (p : Y → Bool) (g : X → List Y) (xs : List X) → map f (filter p (flat_map g xs)) ≡ flat_map (λ x. map f (filter p (g x))) xs
map-filter-flat_map f p g [] = refl
map-filter-flat_map f p g (x ∷ xs) =
    ap (map f) (filter-append p (g x) (flat_map g xs)) ∙ map-append f (filter p (g x)) (filter p (flat_map g xs)) ∙ ap (λ l. map f (filter p (g x)) ++ l) (map-filter-flat_map f p g xs)

-- ---- what is seen of some classes
seen-several : (xs : List ℕ) → fold seen_with Several xs ≡ Several
seen-several [] = refl
seen-several (x ∷ xs) = seen-several xs

abbrev one : ℕ → Seen
one b = One (record { 0 = b })

seen-one : (b : ℕ) (xs : List ℕ) → fold seen_with (one b) xs ≡ cond (list_all (λ x. x == b) xs) (one b) Several
seen-one b [] = refl
seen-one b (x ∷ xs) = elim (cases_Bool (x == b)) [
  | inl same ↦ rw same (seen-one b xs)
  | inr other ↦ rw other (seen-several xs)
]

-- ---- one implying output, one input
abbrev pub output : ℕ → ℕ → Output
output i a = record { input = i; class = a }

-- what a row tells of class b of input j
abbrev tells : Output → ℕ → Seen → ℕ → Bool
tells from j Nothing b = false
tells from j (One only) b = not (from.input == j) && (only.0 == b)
tells from j Several b = false

any-having : (from : Output) (choices : List (List ℕ)) → list_any (has from) choices ≡ list_any (λ choice. true) (having from choices)
any-having from [] = refl
any-having from (choice ∷ choices) = elim (cases_Bool (has from choice)) [
  | inl h ↦ rw h refl
  | inr h ↦ rw h (any-having from choices)
]

all-having : (from : Output) (q : List ℕ → Bool) (choices : List (List ℕ)) → list_all (λ choice. not (has from choice) || q choice) choices ≡ list_all q (having from choices)
all-having from q [] = refl
all-having from q (choice ∷ choices) = elim (cases_Bool (has from choice)) [
  | inl h ↦ rw h (ap (λ (b : Bool). q choice && b) (all-having from q choices))
  | inr h ↦ rw h (all-having from q choices)
]

and_none : (a b : Bool) → b ≡ false → (a && b) ≡ false
and_none true b h = h
and_none false b h = refl

-- whether all classes are b, told of what is seen of them
all-seen : (x : ℕ) (xs : List ℕ) (b : ℕ) → list_all (λ y. y == b) (x ∷ xs) ≡ (list_all (λ y. y == x) xs && (x == b))
all-seen x xs b = elim (eqb_tells x b) [
  | inl same ↦ rw same.0 (ap (λ (z : ℕ). list_all (λ y. y == z) xs) (sym same.1) ∙ sym (and_true_right (list_all (λ y. y == x) xs)))
  | inr other ↦ rw other.0 (sym (and_none (list_all (λ y. y == x) xs) false refl))
]
  where
    and_true_right : (b : Bool) → (b && true) ≡ b
    and_true_right true = refl
    and_true_right false = refl

all-map : (f : List ℕ → ℕ) (p : ℕ → Bool) (choices : List (List ℕ)) → list_all (λ choice. p (f choice)) choices ≡ list_all p (map f choices)
all-map f p [] = refl
all-map f p (choice ∷ choices) = ap (λ (b : Bool). p (f choice) && b) (all-map f p choices)

-- the test of the listing, of the classes of the choices that have the implying output
tests : (from : Output) (j b : ℕ) (xs : List ℕ) → (not (from.input == j) && list_any (λ x. true) xs && list_all (λ x. x == b) xs) ≡ tells from j (seen_of xs) b
tests from j b [] = by (not (from.input == j))
  where
    by : (a : Bool) → (a && false && true) ≡ false
    by true = refl
    by false = refl
tests from j b (x ∷ xs) =
    rw (all-seen x xs b, seen-one x xs) (by (not (from.input == j)) (list_all (λ y. y == x) xs) refl)
  where
    by : (a c : Bool) → not (from.input == j) ≡ a → (a && true && (c && (x == b))) ≡ tells from j (cond c (one x) Several) b
    by a true e = rw e (again a)
      where
        again : (a : Bool) → (a && true && (x == b)) ≡ (a && (x == b))
        again true = refl
        again false = refl
    by true false e = refl
    by false false e = refl

any-map-true : (f : List ℕ → ℕ) (choices : List (List ℕ)) → list_any (λ choice. true) choices ≡ list_any (λ x. true) (map f choices)
any-map-true f [] = refl
any-map-true f (choice ∷ choices) = refl

-- An implication is listed exactly where the row of the implying output tells it.
listed-tells : (problem : Problem) (from : Output) (j b : ℕ) → IsWellFormed problem → from.input < length problem.inputs → j < length problem.inputs
    → is_listed problem from (output j b) ≡ tells from j (seen_of (map (λ choice. slice_index choice j) (having from (languages problem)))) b
listed-tells problem from j b well below_from below_to =
    let here : List (List ℕ) = having from (languages problem) in
    let possible : is_possible problem from ≡ list_any (λ x. true) (map (λ choice. slice_index choice j) here) =
    possible_by_languages problem from well below_from ∙ any-having from (languages problem) ∙ any-map-true (λ choice. slice_index choice j) here in
    let implied : implies problem from (output j b) ≡ list_all (λ x. x == b) (map (λ choice. slice_index choice j) here) =
    implied_by_languages problem from (output j b) well below_from below_to ∙ all-having from (has (output j b)) (languages problem) ∙ all-map (λ choice. slice_index choice j) (λ x. x == b) here in
    rw (possible, implied) (tests from j b (map (λ choice. slice_index choice j) here))

-- ---- the class that is seen
below-one : (p : ℕ → Bool) (b s n : ℕ) → ((k : ℕ) → p k ≡ (b == k)) → s ≤ b → b < s + n → filter p (range_with_len s n) ≡ b ∷ []
below-one p b s zero e l u = absurd (omega arith)
below-one p b s (suc n) e l u = elim (eqb_tells b s) [
  | inl here ↦ rw (e s, here.0) (ap (λ (rest : List ℕ). s ∷ rest) (below-none p b (s + 1) n e (omega (arith, here.1))) ∙ ap (λ (k : ℕ). k ∷ []) (sym here.1))
  | inr other ↦ rw (e s, other.0) (below-one p b (s + 1) n e (omega (arith, other.1)) (omega arith))
]
  where
    below-none : (p : ℕ → Bool) (b s n : ℕ) → ((k : ℕ) → p k ≡ (b == k)) → b < s → filter p (range_with_len s n) ≡ []
    below-none p b s zero e l = refl
    below-none p b s (suc n) e l = elim (eqb_tells b s) [
      | inl here ↦ absurd (omega (arith, here.1))
      | inr other ↦ rw (e s, other.0) (below-none p b (s + 1) n e (omega arith))
    ]

filter-none : (p : ℕ → Bool) (xs : List ℕ) → ((k : ℕ) → p k ≡ false) → filter p xs ≡ []
filter-none p [] e = refl
filter-none p (x ∷ xs) e = rw (e x) (filter-none p xs e)

filter-map : {X : Type 0} (p : X → Bool) (f : ℕ → X) (xs : List ℕ) → filter p (map f xs) ≡ map f (filter (λ x. p (f x)) xs)
filter-map p f [] = refl
filter-map p f (x ∷ xs) = elim (cases_Bool (p (f x))) [
  | inl h ↦ rw h (ap (λ l. f x ∷ l) (filter-map p f xs))
  | inr h ↦ rw h (filter-map p f xs)
]

-- a class that is seen is one of the input
abbrev SeenWithin : ℕ → Seen → Type 0
SeenWithin n Nothing = Unit {0}
SeenWithin n (One only) = only.0 < n
SeenWithin n Several = Unit {0}

-- What a row tells of an input is what is listed of its classes.
told : (from : Output) (j n : ℕ) (seen : Seen) (p : ℕ → Bool) → SeenWithin n seen → ((b : ℕ) → p b ≡ tells from j seen b) → implied_at from j seen ≡ map (λ b. implication from (output j b)) (filter p (numbers_below n))
told from j n Nothing p within e = rw (filter-none p (numbers_below n) e) refl
told from j n Several p within e = rw (filter-none p (numbers_below n) e) refl
told from j n (One only) p within e = elim (eqb_tells from.input j) [
  | inl same ↦ rw (filter-none p (numbers_below n) (λ b. e b ∙ rw same.0 refl), eq-eqb j from.input (sym same.1)) refl
  | inr other ↦
      let turned : (j == from.input) ≡ false = elim (eqb_tells j from.input) [ inl same ↦ absurd (other.1 (sym same.1)) | inr apart ↦ apart.0 ] in
      rw (below-one p only.0 0 n (λ b. e b ∙ rw other.0 refl) (omega arith) (omega arith), turned) refl
]

-- ---- the classes of choices
pub seen-within : (n j : ℕ) (choices : List (List ℕ)) → All (λ choice. slice_index choice j < n) choices → SeenWithin n (seen_of (map (λ choice. slice_index choice j) choices))
seen-within n j [] h = tt
seen-within n j (choice ∷ choices) h = rw (seen-one (slice_index choice j) (map (λ choice. slice_index choice j) choices)) (by (list_all (λ x. x == slice_index choice j) (map (λ choice. slice_index choice j) choices)))
  where
    by : (c : Bool) → SeenWithin n (cond c (one (slice_index choice j)) Several)
    by true = All-head (λ choice. slice_index choice j < n) choice choices h
    by false = tt

-- ---- the whole listing
-- the implications from one input
abbrev pub from_input : Problem → ℕ → List Implication
from_input problem i = flat_map (λ a. map (implication (output i a)) (filter (is_listed problem (output i a)) (outputs problem))) (numbers_below (length (classes_at problem i)))

pub listed-whole : (problem : Problem) → implications problem ≡ flat_map (from_input problem) (numbers_below (length problem.inputs))
unfolding implications
listed-whole problem =
    let from : Output → List Implication = λ output. map (implication output) (filter (is_listed problem output) (outputs problem)) in
    flat_map-flat_map from (λ i. map (output i) (numbers_below (length (classes_at problem i)))) (numbers_below (length problem.inputs))
    ∙ flat_map-same (λ i. flat_map from (map (output i) (numbers_below (length (classes_at problem i))))) (from_input problem) 0 (length problem.inputs) (λ i l u. flat_map-map from (output i) (numbers_below (length (classes_at problem i))))

-- the implications from one output
from_output : (problem : Problem) (from : Output) (row : List Seen) → IsWellFormed problem → from.input < length problem.inputs → All (IsChoice problem) (languages problem)
    → IsRowOf (having from (languages problem)) (length problem.inputs) row → implied_by_row from row ≡ map (implication from) (filter (is_listed problem from) (outputs problem))
from_output problem from row well below choices r =
    ap (λ n. flat_map (λ j. implied_at from j (seen_at row j)) (numbers_below n)) r.width
    ∙ flat_map-same _ (λ j. map (implication from) (filter (is_listed problem from) (map (output j) (numbers_below (length (classes_at problem j)))))) 0 (length problem.inputs) each
    ∙ sym (map-filter-flat_map (implication from) (is_listed problem from) (λ j. map (output j) (numbers_below (length (classes_at problem j)))) (numbers_below (length problem.inputs)))
  where
    within : (j : ℕ) → j < length problem.inputs → All (λ choice. slice_index choice j < length (classes_at problem j)) (having from (languages problem))
    within j u = All-filter (has from) (λ choice. slice_index choice j < length (classes_at problem j)) (languages problem)
        (All-weaker (IsChoice problem) (λ choice. slice_index choice j < length (classes_at problem j)) (λ choice c. c.prefix.within j (omega (arith, c.full))) (languages problem) choices)

    map-map-outputs : (j : ℕ) (bs : List ℕ) → map (implication from) (map (output j) bs) ≡ map (λ b. implication from (output j b)) bs
    map-map-outputs j [] = refl
    map-map-outputs j (b ∷ bs) = ap (λ l. implication from (output j b) ∷ l) (map-map-outputs j bs)

    each : (j : ℕ) → 0 ≤ j → j < 0 + length problem.inputs → implied_at from j (seen_at row j) ≡ map (implication from) (filter (is_listed problem from) (map (output j) (numbers_below (length (classes_at problem j)))))
    each j l u =
        let u : j < length problem.inputs = omega arith in
        let seen : Seen = seen_of (map (λ choice. slice_index choice j) (having from (languages problem))) in
        ap (implied_at from j) (r.each j u)
        ∙ told from j (length (classes_at problem j)) seen (λ b. is_listed problem from (output j b)) (seen-within (length (classes_at problem j)) j (having from (languages problem)) (within j u)) (λ b. listed-tells problem from j b well below u)
        ∙ sym (map-map-outputs j (filter (λ b. is_listed problem from (output j b)) (numbers_below (length (classes_at problem j)))))
        ∙ sym (ap (map (implication from)) (filter-map (is_listed problem from) (output j) (numbers_below (length (classes_at problem j)))))

-- The table of an input tells the implications from it.
pub from_table : (problem : Problem) (i : ℕ) (table : List (List Seen)) → IsWellFormed problem → i < length problem.inputs → All (IsChoice problem) (languages problem)
    → IsTableOf (languages problem) i (length (classes_at problem i)) (length problem.inputs) table → implied_by_table i table ≡ from_input problem i
from_table problem i table well below choices t =
    ap (λ n. flat_map (λ a. implied_by_row (output i a) (slice_index_or table a [])) (numbers_below n)) t.long
    ∙ flat_map-same _ (λ a. map (implication (output i a)) (filter (is_listed problem (output i a)) (outputs problem))) 0 (length (classes_at problem i))
    (λ a l u. from_output problem (output i a) (slice_index_or table a []) well below choices (t.rows a (omega arith)))

-- ---- a step of each loop
-- a row more, once all its inputs are told
pub table-row : (i : ℕ) (first before after : List Implication) (table : List (List Seen)) (a j inputs : ℕ) → All (λ row. length row ≡ inputs) table → a < length table → j ≡ inputs
    → before ≡ first ++ flat_map (λ a. implied_by_row (output i a) (slice_index_or table a [])) (numbers_below a)
    → after ≡ before ++ flat_map (λ k. implied_at (output i a) k (seen_at (slice_index_or table a []) k)) (numbers_below j)
    → after ≡ first ++ flat_map (λ a. implied_by_row (output i a) (slice_index_or table a [])) (numbers_below (a + 1))
table-row i first before after table a j inputs widths below all h e =
    let long : j ≡ length (slice_index_or table a []) = omega (arith, all, widths a [] below) in
    added first before after (λ a. implied_by_row (output i a) (slice_index_or table a [])) a h
    (e ∙ ap (λ (n : ℕ). before ++ flat_map (λ k. implied_at (output i a) k (seen_at (slice_index_or table a []) k)) (numbers_below n)) long)

-- the choices of languages are those beside their hierarchies
pub choices-found : (languages : List Language) → choices_of languages ≡ map (λ language. language.0) (found_of languages)
choices-found [] = refl
choices-found (language ∷ rest) = ap (λ (l : List (List ℕ)). language.choice ∷ l) (choices-found rest)

-- an input has no more classes than the limit
pub few_classes : (n : ℕ) (inputs : List Input) (i : ℕ) → All (IsWellFormedInput n) inputs → i < length inputs → length (classes_in inputs i) ≤ CANDIDATE_LIMIT
few_classes n [] i h below = absurd (omega arith)
few_classes n (input ∷ inputs) zero h below = (All-head (IsWellFormedInput n) input inputs h).few
few_classes n (input ∷ inputs) (suc i) h below = few_classes n inputs i (All-tail (IsWellFormedInput n) input inputs h) (omega arith)

-- each row has an item for each input
pub row_widths : (problem : Problem) (choices : List (List ℕ)) (i classes inputs : ℕ) (table : List (List Seen)) → IsTableOf choices i classes (length problem.inputs) table → inputs ≡ length problem.inputs → All (λ row. length row ≡ inputs) table
row_widths problem choices i classes inputs table t all k d below =
    let r = t.rows k (omega (arith, t.long)) in
    subst (λ (row : List Seen). length row ≡ inputs) (get_or_default table k [] d below) (r.width ∙ sym all)

-- an input more
pub input-more : (problem : Problem) (choices : List (List ℕ)) (i : ℕ) (table : List (List Seen)) (before after : List Implication) → IsWellFormed problem → i < length problem.inputs → choices ≡ languages problem
    → IsTableOf choices i (length (classes_at problem i)) (length problem.inputs) table → before ≡ flat_map (from_input problem) (numbers_below i) → after ≡ before ++ implied_by_table i table
    → after ≡ flat_map (from_input problem) (numbers_below (i + 1))
input-more problem choices i table before after well below same t h e =
    let here : implied_by_table i table ≡ from_input problem i =
    from_table problem i table well below (IsChoice-languages problem) (subst (λ (l : List (List ℕ)). IsTableOf l i (length (classes_at problem i)) (length problem.inputs) table) same t) in
    e ∙ rw (h, here) (sym (flat_map-below_more (from_input problem) i))
