-- One step more, and more classes than the steps need.
use Rattle.std.proofs.Common.{◌≡◌, ℕ, zero, suc, ◌+◌, ◌<◌, ◌≤◌, List, [], ◌∷◌, ◌++◌, length, length-append, get_or, take, drop, map, refl, sym, ap, subst, ◌∙◌, arith}
use Rattle.std.specs.Prelude.{All, Some, slice_get}
use Rattle.std.specs.Option.{option_map}
use Rattle.std.proofs.lemmas.List.{drop-append-le, drop_at, length-drop, map-append, take-append-drop, take-append-le, take-map, take_all, take_more}
use Rattle.std.proofs.lemmas.Option.{get_or_from_slice_get, slice_get-get_or, slice_get-map, slice_get_within}
use Rattle.std.proofs.lemmas.List.Elements.{All-head, All-push, All-tail}
use Rattle.ot_base.specs.declared.tableau.ClassId.{ClassId}
use Rattle.refutation.specs.Prefixes.{class_numbers}
use Rattle.refutation.specs.declared.typology.Cut.{Cut}
use Rattle.cut_list.specs.declared.list.Step.{Step}
use Rattle.cut_list.specs.Changed.{changed, cuts_by, last_by, IsWhole, prefix_before}

abbrev pub cut_of : List ClassId → List ClassId → Step → Cut
cut_of classes before step = record { prefix = class_numbers (changed classes before step); certificate = step.certificate }

-- the cuts with one step more
pub cuts-more : (classes before : List ClassId) (steps : List Step) (step : Step) → cuts_by classes before (steps ++ step ∷ []) ≡ cuts_by classes before steps ++ cut_of classes (last_by classes before steps) step ∷ []
unfolding cuts_by last_by
cuts-more classes before [] step = refl
cuts-more classes before (first ∷ steps) step = ap (λ (l : List Cut). cut_of classes before first ∷ l) (cuts-more classes (changed classes before first) steps step)

-- and the last of them
pub last-more : (classes before : List ClassId) (steps : List Step) (step : Step) → last_by classes before (steps ++ step ∷ []) ≡ changed classes (last_by classes before steps) step
unfolding last_by
last-more classes before [] step = refl
last-more classes before (first ∷ steps) step = last-more classes (changed classes before first) steps step

abbrev pub HasOwn : List ClassId → Step → Type 0
HasOwn classes step = step.start + step.count ≤ length classes

-- a step that finds its own classes finds the same ones where there are more
own-same : (classes more : List ClassId) (step : Step) → HasOwn classes step → take step.count (drop step.start (classes ++ more)) ≡ take step.count (drop step.start classes)
own-same classes more step fits =
    ap (λ (l : List ClassId). take step.count l) (drop-append-le step.start classes more (omega (arith, fits)))
    ∙ take-append-le step.count (drop step.start classes) more (omega (arith, fits, length-drop step.start classes))

changed-same : (classes more before : List ClassId) (step : Step) → HasOwn classes step → changed (classes ++ more) before step ≡ changed classes before step
changed-same classes more before step fits = ap (λ (l : List ClassId). take step.kept before ++ l) (own-same classes more step fits)

pub cuts-same : (classes more before : List ClassId) (steps : List Step) → All (HasOwn classes) steps → cuts_by (classes ++ more) before steps ≡ cuts_by classes before steps
unfolding cuts_by
cuts-same classes more before [] fit = refl
cuts-same classes more before (step ∷ steps) fit =
    let same = changed-same classes more before step (All-head (HasOwn classes) step steps fit) in
    ap (λ (l : List ClassId). record { prefix = class_numbers l; certificate = step.certificate } ∷ cuts_by (classes ++ more) l steps) same
    ∙ ap (λ (l : List Cut). cut_of classes before step ∷ l) (cuts-same classes more (changed classes before step) steps (All-tail (HasOwn classes) step steps fit))

pub last-same : (classes more before : List ClassId) (steps : List Step) → All (HasOwn classes) steps → last_by (classes ++ more) before steps ≡ last_by classes before steps
unfolding last_by
last-same classes more before [] fit = refl
last-same classes more before (step ∷ steps) fit =
    ap (λ (l : List ClassId). last_by (classes ++ more) l steps) (changed-same classes more before step (All-head (HasOwn classes) step steps fit))
    ∙ last-same classes more (changed classes before step) steps (All-tail (HasOwn classes) step steps fit)

-- as many cuts as steps
pub cuts-long : (classes before : List ClassId) (steps : List Step) → length (cuts_by classes before steps) ≡ length steps
unfolding cuts_by
cuts-long classes before [] = refl
cuts-long classes before (step ∷ steps) = ap suc (cuts-long classes (changed classes before step) steps)

-- the cut at a place
pub cut-at : (classes before : List ClassId) (steps : List Step) (k : ℕ) (d : Step) (e : Cut) → k < length steps → get_or (cuts_by classes before steps) k e ≡ cut_of classes (last_by classes before (take k steps)) (get_or steps k d)
unfolding cuts_by last_by
cut-at classes before [] k d e below = absurd (omega (arith, below))
cut-at classes before (step ∷ steps) zero d e below = refl
cut-at classes before (step ∷ steps) (suc k) d e below = cut-at classes (changed classes before step) steps k d e (omega (arith, below))

-- the prefix of the cut before it
pub before-at : (classes before : List ClassId) (steps : List Step) (k : ℕ) → k ≤ length steps → get_or (class_numbers before ∷ map (λ (cut : Cut). cut.prefix) (cuts_by classes before steps)) k [] ≡ class_numbers (last_by classes before (take k steps))
unfolding cuts_by last_by
before-at classes before steps zero within = refl
before-at classes before [] (suc k) within = absurd (omega (arith, within))
before-at classes before (step ∷ steps) (suc k) within = before-at classes (changed classes before step) steps k (omega (arith, within))

-- the classes of a cut by their numbers
pub numbers-changed : (classes before other : List ClassId) (step : Step) → class_numbers other ≡ class_numbers before → class_numbers (take step.kept other ++ take step.count (drop step.start classes)) ≡ class_numbers (changed classes before step)
numbers-changed classes before other step same =
    let number : ClassId → ℕ = λ class. class.0 in
    let own = take step.count (drop step.start classes) in
    map-append number (take step.kept other) own
    ∙ ap (λ (l : List ℕ). l ++ class_numbers own) (sym (take-map number step.kept other) ∙ ap (λ (l : List ℕ). take step.kept l) same ∙ take-map number step.kept before)
    ∙ sym (map-append number (take step.kept before) own)

-- ---- a list of cuts that these steps keep

pub seen-long : (classes : List ClassId) (steps : List Step) (cuts : List Cut) → cuts_by classes [] steps ≡ cuts → length cuts ≡ length steps
seen-long classes steps cuts seen = ap (λ (l : List Cut). length l) (sym seen) ∙ cuts-long classes [] steps

pub seen-at : (classes : List ClassId) (steps : List Step) (cuts : List Cut) (k : ℕ) (step : Step) (before : List ClassId) → cuts_by classes [] steps ≡ cuts → k < length steps → step ≡ get_or steps k step
    → class_numbers before ≡ prefix_before cuts k → slice_get cuts k ≡ Some (record { prefix = class_numbers (take step.kept before ++ take step.count (drop step.start classes)); certificate = step.certificate })
seen-at classes steps cuts k step before seen below here same =
    let last = last_by classes [] (take k steps) in
    let cut = cut_of classes last step in
    let told : class_numbers before ≡ class_numbers last =
    same ∙ ap (λ (l : List Cut). prefix_before l k) (sym seen) ∙ before-at classes [] steps k (omega (arith, below)) in
    let at : get_or cuts k cut ≡ cut =
    ap (λ (l : List Cut). get_or l k cut) (sym seen) ∙ cut-at classes [] steps k step cut below ∙ ap (cut_of classes last) (sym here) in
    slice_get-get_or cuts k cut (omega (arith, below, seen-long classes steps cuts seen)) ∙ ap (λ (c : Cut). Some c) at
    ∙ ap (λ (l : List ℕ). Some (record { prefix = l; certificate = step.certificate })) (sym (numbers-changed classes last before step told))

-- ---- the cuts one by one

pub taken-more : (cuts : List Cut) (k : ℕ) (cut : Cut) → slice_get cuts k ≡ Some cut → take (k + 1) cuts ≡ take k cuts ++ cut ∷ []
taken-more cuts k cut here = take_more cuts k cut (slice_get_within cuts k cut here) ∙ ap (λ (c : Cut). take k cuts ++ c ∷ []) (get_or_from_slice_get cuts k cut cut here)

pub before-more : (cuts : List Cut) (k : ℕ) (cut : Cut) → slice_get cuts k ≡ Some cut → prefix_before cuts (k + 1) ≡ cut.prefix
before-more cuts k cut here =
    let prefix : Cut → List ℕ = λ c. c.prefix in
    let next : k + 1 ≡ suc k = omega arith in
    ap (λ (n : ℕ). prefix_before cuts n) next
    ∙ get_or_from_slice_get (map prefix cuts) k cut.prefix [] (slice_get-map prefix cuts k ∙ ap (option_map prefix) here)

-- the own classes of a step stand among those of all
pub seen-within : (classes : List ClassId) (steps : List Step) (last : List ClassId) (cuts : List Cut) (k : ℕ) (step : Step) → cuts_by classes [] steps ≡ cuts → IsWhole classes steps last → k < length cuts → step ≡ get_or steps k step → HasOwn classes step
seen-within classes steps last cuts k step seen h below here = subst (HasOwn classes) (sym here) (h.within k step (omega (arith, below, seen-long classes steps cuts seen)))

-- ---- one cut more

-- what more classes leave as it was
pub whole-longer : (classes more : List ClassId) (steps : List Step) (last : List ClassId) → IsWhole classes steps last → IsWhole (classes ++ more) steps last
whole-longer classes more steps last h = record {
  within = λ k d below. omega (arith, h.within k d below, length-append classes more);
  last = h.last ∙ sym (last-same classes more [] steps h.within);
}

pub record IsNext (classes : List ClassId) (last prefix own : List ClassId) (step : Step) : Type 0 where
  pub start : step.start ≡ length classes
  pub count : step.count ≡ length own
  pub front : take step.kept last ≡ take step.kept prefix
  pub rest : own ≡ drop step.kept prefix

changed-next : (classes last prefix own : List ClassId) (step : Step) → IsNext classes last prefix own step → changed (classes ++ own) last step ≡ take step.kept last ++ own
changed-next classes last prefix own step h =
    ap (λ (l : List ClassId). take step.kept last ++ take step.count l) (drop_at classes own step.start (sym h.start))
    ∙ ap (λ (l : List ClassId). take step.kept last ++ l) (take_all step.count own (omega (arith, h.count)))

pub next-whole : (classes last prefix own : List ClassId) (steps : List Step) (step : Step) → IsNext classes last prefix own step → IsWhole classes steps last → IsWhole (classes ++ own) (steps ++ step ∷ []) (take step.kept last ++ own)
next-whole classes last prefix own steps step n h =
    let longer = whole-longer classes own steps last h in
    record {
      within = All-push (HasOwn (classes ++ own)) steps step longer.within (omega (arith, n.start, n.count, length-append classes own));
      last = sym (last-more (classes ++ own) [] steps step ∙ ap (λ (l : List ClassId). changed (classes ++ own) l step) (sym longer.last) ∙ changed-next classes last prefix own step n);
    }

pub next-seen : (classes last prefix own : List ClassId) (steps : List Step) (step : Step) → IsNext classes last prefix own step → IsWhole classes steps last
    → cuts_by (classes ++ own) [] (steps ++ step ∷ []) ≡ cuts_by classes [] steps ++ record { prefix = class_numbers prefix; certificate = step.certificate } ∷ []
next-seen classes last prefix own steps step n h =
    let longer = whole-longer classes own steps last h in
    let all : changed (classes ++ own) (last_by (classes ++ own) [] steps) step ≡ prefix =
    ap (λ (l : List ClassId). changed (classes ++ own) l step) (sym longer.last) ∙ changed-next classes last prefix own step n
    ∙ ap (λ (l : List ClassId). l ++ own) n.front ∙ ap (λ (l : List ClassId). take step.kept prefix ++ l) n.rest ∙ take-append-drop step.kept prefix in
    cuts-more (classes ++ own) [] steps step
    ∙ ap (λ (l : List Cut). l ++ cut_of (classes ++ own) (last_by (classes ++ own) [] steps) step ∷ []) (cuts-same classes own [] steps h.within)
    ∙ ap (λ (l : List ClassId). cuts_by classes [] steps ++ record { prefix = class_numbers l; certificate = step.certificate } ∷ []) all
