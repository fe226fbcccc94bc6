-- Back to the first classes of a path, and on to a class.
use Rattle.std.proofs.Common.{◌≡◌, ℕ, ◌+◌, ◌<◌, ◌≤◌, List, [], ◌∷◌, ◌++◌, true, false, arith, sym, ◌∙◌, ap, inl, inr, length, map, take, get_or, length-append}
use Rattle.std.specs.Prelude.{slice_index}
use Rattle.std.proofs.lemmas.Bool.{cases_lt}
use Rattle.std.proofs.lemmas.List.{get_or_append_left, get_or_at, get_or-map, get_or-take, length-map, length-take-le, length_push, map-append, take-append-le, take-map, take-take, take_all, take_at, take_more, take_more_same}
use Rattle.ot_base.specs.declared.tableau.ClassId.{ClassId}
use Rattle.ot_theory.specs.declared.Mark.{Mark}
use Rattle.ot_theory.specs.Hierarchies.{IsLeastHierarchy}
use Rattle.ot_theory.specs.Problems.{Problem}
use Rattle.ot_theory.specs.Refutations.{certificate_of, is_contradiction, no_ranking_keeps}
use Rattle.ot_theory.specs.Languages.{classes_at, condition_of, terms_of, terms_of_class}
use Rattle.refutation.specs.Asked.{AreAsked, Begins}
use Rattle.refutation.specs.Prefixes.{class_numbers}
use Rattle.refutation.specs.Terms.{term_of, terms_in}
use Rattle.refutation.specs.declared.contradiction.Contradiction.{Contradiction}
use Rattle.refutation.specs.declared.judging.Finding.TheVariants.{Holds, Refuted}
use Rattle.refutation.specs.declared.term.Term.{Term}
use Rattle.refutation.proofs.Asking.{asked-certificate, asked-least, asked-refuted}
use Rattle.refutation.proofs.TermsOfPrefixes.{certificate-refutes, terms_of-push}
use Rattle.search_deeds.specs.Made.{AreMade}
use Rattle.search_machine.specs.Findings.{IsJudged}
use Rattle.violation_profiles.specs.WellFormed.{IsPrefix, IsWellFormed}
use Rattle.typology_workers.specs.Paths.{IsPathOf, before_of, prefix_of}
use Rattle.typology_workers.specs.Remembered.{AreRemembered}
use Rattle.typology_workers.specs.declared.path.Path.{Path}
use Rattle.typology_workers.specs.declared.path.Step.{Step}

-- the empty prefix, which asks what the given pairs ask
pub path_none : (problem : Problem) (path : Path) → path.steps.items ≡ [] → AreAsked problem (terms_of problem []) path.asked.terms.items path.asked.conditions.items → AreMade problem path.ready → ((p : Problem) → AreRemembered p path.memo) → path.fronts ≡ 0 → IsPathOf problem path
path_none problem path none asked made remembered nothing = record {
  asked = rw none asked;
  before = λ k lt. absurd (omega (arith, ap (λ (l : List Step). length l) none));
  within = λ k lt. absurd (omega (arith, ap (λ (l : List Step). length l) none));
  ordered = λ j k le lt. absurd (omega (arith, ap (λ (l : List Step). length l) none));
  fronts = λ k lt. absurd (omega (arith, lt, nothing));
  reach = omega (arith, nothing);
  made = made;
  remembered = remembered problem;
}

pub prefix-back : (path new : Path) (kept : ℕ) → new.steps.items ≡ take kept path.steps.items → prefix_of new ≡ take kept (prefix_of path)
prefix-back path new kept e = ap (map (λ (step : Step). step.class.0)) e ∙ sym (take-map (λ (step : Step). step.class.0) kept path.steps.items)

-- back to the first classes, of which more go on
pub path-back : (problem : Problem) (path new : Path) (kept : ℕ) → kept < length path.steps.items → new.steps.items ≡ take kept path.steps.items
    → new.asked.terms.items ≡ take (slice_index (before_of path) kept) path.asked.terms.items → new.asked.conditions.items ≡ take (slice_index (before_of path) kept) path.asked.conditions.items → new.ready ≡ path.ready → new.memo ≡ path.memo
    → new.fronts ≤ path.fronts → new.fronts ≤ slice_index (before_of path) kept + 1 → IsPathOf problem path → IsPathOf problem new
path-back problem path new kept below steps terms conditions ready memo fewer reach h = record {
  asked = rw (prefix-back path new kept steps, terms, conditions) (h.before kept below);
  before = λ k lt.
      let less : k < kept = (omega (arith, lt, long)) in
      rw (
        prefix-back path new kept steps,
        terms,
        conditions,
        here k less,
        take-take k kept (prefix_of path) (omega arith),
        take-take (slice_index (before_of path) k) end path.asked.terms.items (h.ordered k kept (omega arith) below),
        take-take (slice_index (before_of path) k) end path.asked.conditions.items (h.ordered k kept (omega arith) below),
      ) (h.before k (omega arith));
  within = λ k lt.
      let less : k < kept = (omega (arith, lt, long)) in
      rw (here k less, terms, length-take-le end path.asked.terms.items (h.within kept below)) (h.ordered k kept (omega arith) below);
  ordered = λ j k le lt.
      let less : k < kept = (omega (arith, lt, long)) in
      rw (here j (omega arith), here k less) (h.ordered j k le (omega arith));
  fronts = λ k lt. rw (conditions, take-take k end path.asked.conditions.items (omega (arith, lt, reach))) (h.fronts k (omega (arith, lt, fewer)));
  reach = rw (terms, length-take-le end path.asked.terms.items (h.within kept below)) reach;
  made = rw ready h.made;
  remembered = rw memo h.remembered;
}
  where
    end : ℕ
    end = slice_index (before_of path) kept

    long : length new.steps.items ≡ kept
    long = ap (λ (l : List Step). length l) steps ∙ length-take-le kept path.steps.items (omega arith)

    here : (k : ℕ) → k < kept → slice_index (before_of new) k ≡ slice_index (before_of path) k
    here k less = ap (λ (l : List Step). slice_index (map (λ (step : Step). step.before) l) k) steps ∙ (ap (λ (l : List ℕ). slice_index l k) (sym (take-map (λ (step : Step). step.before) kept path.steps.items)) ∙ get_or-take kept (before_of path) k 0 less)

pub prefix-on : (path new : Path) (step : Step) → new.steps.items ≡ path.steps.items ++ step ∷ [] → prefix_of new ≡ prefix_of path ++ step.class.0 ∷ []
prefix-on path new step e = ap (map (λ (step : Step). step.class.0)) e ∙ map-append (λ (step : Step). step.class.0) path.steps.items (step ∷ [])

-- on to a class of the next input
pub path-on : (problem : Problem) (path new : Path) (step : Step) (i : ℕ) → IsPathOf problem path → new.steps.items ≡ path.steps.items ++ step ∷ [] → i ≡ length path.steps.items → step.before ≡ length path.asked.terms.items
    → AreAsked problem (terms_of problem (prefix_of path) ++ terms_of_class (classes_at problem i) i step.class.0) new.asked.terms.items new.asked.conditions.items
    → Begins path.asked.terms.items new.asked.terms.items → Begins path.asked.conditions.items new.asked.conditions.items → AreMade problem new.ready → new.memo ≡ path.memo → new.fronts ≡ path.fronts → IsPathOf problem new
path-on problem path new step i h steps at count asked t c made memo same = record {
  asked = rw (prefix-on path new step steps, terms_of-push problem (prefix_of path) i step.class.0 (length-map path.steps.items (λ (s : Step). s.class.0) ∙ sym at)) asked;
  before = λ k lt. elim (cases_lt k (length path.steps.items)) [
    | inl less ↦
        let few : slice_index (before_of path) k ≤ length path.asked.terms.items = h.within k less in
        rw (
          prefix-on path new step steps,
          old k less,
          t.whole,
          c.whole,
          take-append-le k (prefix_of path) (step.class.0 ∷ []) (omega (arith, length-map path.steps.items (λ (s : Step). s.class.0))),
          take-append-le (slice_index (before_of path) k) path.asked.terms.items t.rest few,
          take-append-le (slice_index (before_of path) k) path.asked.conditions.items c.rest (omega (arith, few, as_many)),
        ) (h.before k less)
    | inr most ↦
        let same : k ≡ length path.steps.items = last k lt most in
        rw (
          prefix-on path new step steps,
          newest k same,
          t.whole,
          c.whole,
          take_at (prefix_of path) (step.class.0 ∷ []) k (length-map path.steps.items (λ (s : Step). s.class.0) ∙ sym same),
          take_at path.asked.terms.items t.rest step.before (sym count),
          take_at path.asked.conditions.items c.rest step.before (as_many ∙ sym count),
        ) h.asked
  ];
  within = λ k lt. elim (cases_lt k (length path.steps.items)) [
    | inl less ↦ rw (old k less, t.whole, length-append path.asked.terms.items t.rest) (omega (arith, h.within k less))
    | inr most ↦ rw (newest k (last k lt most), t.whole, length-append path.asked.terms.items t.rest) (omega (arith, count))
  ];
  ordered = λ j k le lt. elim (cases_lt k (length path.steps.items)) [
    | inl less ↦ rw (old j (omega arith), old k less) (h.ordered j k le less)
    | inr most ↦ elim (cases_lt j (length path.steps.items)) [
      | inl less ↦ rw (old j less, newest k (last k lt most)) (omega (arith, count, h.within j less))
      | inr behind ↦ rw (newest j (omega (arith, last k lt most)), newest k (last k lt most)) (omega arith)
    ]
  ];
  fronts = λ k lt.
      let less : k < path.fronts = omega (arith, lt, same) in
      rw (c.whole, take-append-le k path.asked.conditions.items c.rest (omega (arith, less, h.reach, as_many))) (h.fronts k less);
  reach = rw (same, t.whole, length-append path.asked.terms.items t.rest) (omega (arith, h.reach));
  made = made;
  remembered = rw memo h.remembered;
}
  where
    before-on : before_of new ≡ before_of path ++ step.before ∷ []
    before-on = ap (map (λ (s : Step). s.before)) steps ∙ map-append (λ (s : Step). s.before) path.steps.items (step ∷ [])

    as_many : length path.asked.conditions.items ≡ length path.asked.terms.items
    as_many = ap (λ (l : List (List Mark)). length l) h.asked.each ∙ length-map (terms_in path.asked.terms.items) (condition_of problem) ∙ length-map path.asked.terms.items term_of

    last : (k : ℕ) → k < length new.steps.items → length path.steps.items ≤ k → k ≡ length path.steps.items
    last k lt most = omega (arith, lt, most, ap (λ (l : List Step). length l) steps, length_push path.steps.items step)

    old : (k : ℕ) → k < length path.steps.items → slice_index (before_of new) k ≡ slice_index (before_of path) k
    old k less = ap (λ (l : List ℕ). slice_index l k) before-on ∙ get_or_append_left (before_of path) (step.before ∷ []) 0 k (omega (arith, length-map path.steps.items (λ (s : Step). s.before)))

    newest : (k : ℕ) → k ≡ length path.steps.items → slice_index (before_of new) k ≡ step.before
    newest k same = ap (λ (l : List ℕ). slice_index l k) before-on ∙ get_or_at (before_of path) step.before [] 0 k (length-map path.steps.items (λ (s : Step). s.before) ∙ sym same)

-- ---- along the classes of a prefix
pub front-more : (steps : List Step) (classes : List ClassId) (k : ℕ) (d : Step) (e : ClassId) → k < length steps → k < length classes → (get_or steps k d).class.0 ≡ (get_or classes k e).0
    → take k (map (λ (step : Step). step.class.0) steps) ≡ take k (class_numbers classes) → take (k + 1) (map (λ (step : Step). step.class.0) steps) ≡ take (k + 1) (class_numbers classes)
front-more steps classes k d e on within same h =
    take_more_same (map (λ (step : Step). step.class.0) steps) (class_numbers classes) k 0 (omega (arith, length-map steps (λ (step : Step). step.class.0))) (omega (arith, length-map classes (λ (class : ClassId). class.0))) h
    (get_or-map (λ (step : Step). step.class.0) steps k d 0 on ∙ same ∙ sym (get_or-map (λ (class : ClassId). class.0) classes k e 0 within))

pub there_more : (classes : List ClassId) (k : ℕ) (d : ClassId) (old new : List ℕ) (class : ClassId) → k < length classes → class ≡ get_or classes k d → old ≡ take k (class_numbers classes) → new ≡ old ++ class.0 ∷ [] → new ≡ take (k + 1) (class_numbers classes)
there_more classes k d old new class within here h e =
    e ∙ ap (λ (l : List ℕ). l ++ class.0 ∷ []) h ∙ ap (λ (a : ℕ). take k (class_numbers classes) ++ a ∷ []) (ap (λ (c : ClassId). c.0) here ∙ sym (get_or-map (λ (c : ClassId). c.0) classes k d 0 within))
    ∙ sym (take_more (class_numbers classes) k 0 (omega (arith, length-map classes (λ (c : ClassId). c.0))))

-- so many classes stand on the path
pub on-path : (path : Path) (classes : List ClassId) (k : ℕ) → prefix_of path ≡ take k (class_numbers classes) → k ≤ length classes → length path.steps.items ≡ k
on-path path classes k h within =
    sym (length-map path.steps.items (λ (step : Step). step.class.0)) ∙ ap (λ (l : List ℕ). length l) h ∙ length-take-le k (class_numbers classes) (omega (arith, length-map classes (λ (c : ClassId). c.0)))

pub shorter_path : (problem : Problem) (path : Path) (classes : List ClassId) (k : ℕ) → IsPrefix problem (class_numbers classes) → prefix_of path ≡ take k (class_numbers classes) → k < length classes → length path.steps.items < length problem.inputs
shorter_path problem path classes k p h within = omega (arith, p.short, length-map classes (λ (c : ClassId). c.0), on-path path classes k h (omega arith))

pub next_class : (problem : Problem) (path : Path) (classes : List ClassId) (k : ℕ) (d class : ClassId) → IsPrefix problem (class_numbers classes) → prefix_of path ≡ take k (class_numbers classes) → k < length classes → class ≡ get_or classes k d
    → class.0 < length (classes_at problem (length path.steps.items))
next_class problem path classes k d class p h within here =
    let it : slice_index (class_numbers classes) k < length (classes_at problem k) = p.within k (omega (arith, length-map classes (λ (c : ClassId). c.0))) in
    rw (on-path path classes k h (omega arith), here, ← get_or-map (λ (c : ClassId). c.0) classes k d 0 within) it

pub all_there : (path : Path) (classes : List ClassId) (k : ℕ) → prefix_of path ≡ take k (class_numbers classes) → length classes ≤ k → prefix_of path ≡ class_numbers classes
all_there path classes k h all = h ∙ take_all k (class_numbers classes) (omega (arith, length-map classes (λ (c : ClassId). c.0)))

-- ---- what the path asks decides what is found of its prefix
pub held-here : (problem : Problem) (path : Path) (n : ℕ) (set : List (List Mark)) (levels : List ℕ) → IsWellFormed problem → IsPrefix problem (prefix_of path) → IsPathOf problem path → n ≡ problem.constraints → set ≡ path.asked.conditions.items
    → (no_ranking_keeps n set ≡ false) × IsLeastHierarchy n set levels → IsJudged problem (prefix_of path) (Holds levels)
held-here problem path n set levels well p h m e l = (
  asked-refuted problem (prefix_of path) path.asked.terms.items path.asked.conditions.items well p h.asked ∙ (rw (m, e) at l.0),
  asked-least problem (prefix_of path) path.asked.terms.items path.asked.conditions.items levels h.asked (rw (m, e) at l.1),
)

pub refuted-here : (problem : Problem) (path : Path) (n : ℕ) (set : List (List Mark)) (terms : List Term) (core : Contradiction) → IsWellFormed problem → IsPrefix problem (prefix_of path) → IsPathOf problem path → n ≡ problem.constraints
    → set ≡ path.asked.conditions.items → terms ≡ path.asked.terms.items → no_ranking_keeps n set ≡ true → terms_in core.terms ≡ certificate_of problem (terms_in terms) → is_contradiction problem (terms_in core.terms) ≡ true → IsJudged problem (prefix_of path) (Refuted core)
refuted-here problem path n set terms core well p h m e t hopeless certificate contradiction =
    let gone = asked-refuted problem (prefix_of path) path.asked.terms.items path.asked.conditions.items well p h.asked ∙ (rw (m, e) at hopeless) in
    let own = certificate ∙ ap (λ (l : List Term). certificate_of problem (terms_in l)) t ∙ asked-certificate problem (prefix_of path) path.asked.terms.items path.asked.conditions.items well p h.asked gone in
    (gone, own, contradiction, certificate-refutes problem (prefix_of path) (terms_in core.terms) own)
