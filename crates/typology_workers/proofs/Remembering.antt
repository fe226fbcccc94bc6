-- The certificate of terms that no ranking keeps depends on the last term that it needs, and on any first terms that no ranking keeps
-- beside that one.
use Rattle.std.proofs.Common.{◌≡◌, ℕ, ◌+◌, ◌-◌, ◌<◌, ◌≤◌, List, [], ◌∷◌, ◌++◌, Bool, true, false, arith, sym, ◌∙◌, ap, append_assoc, length, get_or, map, take, take-take, drop}
use Rattle.std.specs.Prelude.{slice_index, slice_index_or}
use Rattle.std.specs.List.{list_all}
use Rattle.std.proofs.lemmas.Bool.{and_parts, false_from_ne_true}
use Rattle.std.proofs.lemmas.List.{append-nil, get_or-map, length-map, map-append, take-append-drop, take-map, take_more}
use Rattle.std.proofs.lemmas.List.Folds.{list_all-append}
use Rattle.ot_theory.specs.declared.Mark.{Mark}
use Rattle.ot_theory.specs.Languages as theory
use Rattle.ot_theory.specs.Languages.{condition_of, refuted, terms_of}
use Rattle.ot_theory.specs.Problems.{Problem}
use Rattle.ot_theory.specs.Reductions.{IsReduced}
use Rattle.ot_theory.specs.Refutations.{certificate_of, kept_of, no_ranking_keeps}
use Rattle.ot_theory.proofs.Deletion.{IsMonotone-beside, kept_of-append, kept_of-halved, kept_of-none, kept_of-same}
use Rattle.ot_theory.proofs.Redundant.{IsReduced-certificate, IsReduced-hopeless, IsReduced-push}
use Rattle.ot_theory.proofs.Sets.{IsMonotone-hopeless, IsPart, is_hopeless, no_ranking_keeps-more}
use Rattle.refutation.specs.Terms.{term_of, terms_in}
use Rattle.refutation.specs.declared.judging.Finding.TheVariants.{Refuted}
use Rattle.refutation.specs.declared.term.Term.{Term}
use Rattle.refutation.proofs.Asking.{asked-certificate, asked-refuted}
use Rattle.refutation.proofs.TermsOfPrefixes.{certificate-refutes}
use Rattle.search_machine.specs.Findings.{IsJudged}
use Rattle.violation_profiles.specs.WellFormed.{IsPrefix, IsWellFormed}
use Rattle.typology_workers.specs.Paths.{IsLastNeeded, IsPathOf, before_of, prefix_of}
use Rattle.typology_workers.specs.Remembered.{IsRemembered, terms_needed}
use Rattle.typology_workers.specs.declared.memo.Entry.{Entry}
use Rattle.typology_workers.specs.declared.path.Path.{Path}
use Rattle.typology_workers.specs.declared.path.Step.{Step}

-- What no ranking keeps, none keeps with more terms between.
hopeless-between : (problem : Problem) (before middle behind : List theory.Term) → is_hopeless problem (before ++ behind) ≡ true → is_hopeless problem (before ++ (middle ++ behind)) ≡ true
hopeless-between problem before [] behind h = h
hopeless-between problem before (term ∷ middle) behind h = IsMonotone-hopeless problem before term (middle ++ behind) (hopeless-between problem before middle behind h)

hopeless-more : (problem : Problem) (before behind : List theory.Term) → is_hopeless problem before ≡ true → is_hopeless problem (before ++ behind) ≡ true
hopeless-more problem before behind h = rw (append-nil behind) at (hopeless-between problem before behind [] (rw (append-nil before) h))

-- The last term kept ends the shortest front that no ranking keeps.
certificate-ends : (problem : Problem) (before : List theory.Term) (term : theory.Term) (behind : List theory.Term) → is_hopeless problem before ≡ false → is_hopeless problem (before ++ term ∷ []) ≡ true
    → certificate_of problem (before ++ term ∷ behind) ≡ kept_of (λ rest. is_hopeless problem (rest ++ term ∷ [])) [] before ++ term ∷ []
unfolding certificate_of
certificate-ends problem before term behind some none =
    sym (kept_of-same (λ rest. is_hopeless problem (rest ++ [])) (is_hopeless problem) (λ rest. ap (is_hopeless problem) (append-nil rest)) [] (before ++ term ∷ behind))
    ∙ sym (append-nil _)
    ∙ kept_of-halved (is_hopeless problem) (IsMonotone-hopeless problem) before term behind [] (rw (append-nil before) some) (rw (append-nil (before ++ term ∷ [])) none)

-- Where no ranking keeps some first terms with one more, and some ranking keeps them with others, these others and all that stands
-- behind that term are dropped.
pub certificate-same : (problem : Problem) (first others : List theory.Term) (term : theory.Term) (behind : List theory.Term) → is_hopeless problem (first ++ others) ≡ false → is_hopeless problem (first ++ term ∷ []) ≡ true
    → certificate_of problem ((first ++ others) ++ term ∷ behind) ≡ certificate_of problem (first ++ term ∷ [])
certificate-same problem first others term behind some none =
    certificate-ends problem (first ++ others) term behind some (rw (append_assoc first others (term ∷ [])) (hopeless-between problem first others (term ∷ []) none))
    ∙ ap (λ (kept : List theory.Term). kept ++ term ∷ []) dropped
    ∙ sym (certificate-ends problem first term [] (false_from_ne_true _ few) none)
  where
    beside : List theory.Term → Bool
    beside rest = is_hopeless problem (rest ++ term ∷ [])

    few : is_hopeless problem first ≡ true → ⊥
    few e = let no : true ≡ false = sym (hopeless-more problem first others e) ∙ some in cc

    nothing : kept_of beside first others ≡ []
    nothing = kept_of-none beside (IsMonotone-beside (is_hopeless problem) (term ∷ []) (IsMonotone-hopeless problem)) first others none

    dropped : kept_of beside [] (first ++ others) ≡ kept_of beside [] first
    dropped =
        kept_of-append beside [] first others
        ∙ ap (λ (kept : List theory.Term). kept_of (λ terms. beside (terms ++ kept)) [] first ++ kept) nothing
        ∙ append-nil _
        ∙ kept_of-same (λ terms. beside (terms ++ [])) beside (λ terms. ap beside (append-nil terms)) [] first

-- ---- on a path
-- What some ranking keeps, it keeps the fronts of.
pub fronts-kept : (n : ℕ) (set : List (List Mark)) (k : ℕ) → no_ranking_keeps n set ≡ false → no_ranking_keeps n (take k set) ≡ false
fronts-kept n set k some = false_from_ne_true _ (λ e. let no : true ≡ false = sym (no_ranking_keeps-more n (take k set) set part e) ∙ some in cc)
  where
    part : IsPart (take k set) set
    part p h = (and_parts _ _ (sym (list_all-append p (take k set) (drop k set)) ∙ ap (list_all p) (take-append-drop k set) ∙ h)).0

pub fronts-up-to : (n : ℕ) (set : List (List Mark)) (place k : ℕ) → k < place + 1 → no_ranking_keeps n (take place set) ≡ false → no_ranking_keeps n (take k set) ≡ false
fronts-up-to n set place k within some = ap (no_ranking_keeps n) (sym (take-take k place set (omega (arith, within)))) ∙ fronts-kept n (take place set) k some

-- the terms up to a place: the first ones, and the others
front-parted : (terms : List Term) (front place : ℕ) → front ≤ place → terms_in (take place terms) ≡ terms_in (take front terms) ++ terms_in (drop front (take place terms))
front-parted terms front place behind =
    ap terms_in (sym (take-append-drop front (take place terms)))
    ∙ map-append term_of (take front (take place terms)) (drop front (take place terms))
    ∙ ap (λ (l : List Term). terms_in l ++ terms_in (drop front (take place terms))) (take-take front place terms behind)

-- beside the one there, and those behind it
parted : (terms : List Term) (front place : ℕ) (d : Term) → front ≤ place → place < length terms
    → terms_in terms ≡ (terms_in (take front terms) ++ terms_in (drop front (take place terms))) ++ term_of (get_or terms place d) ∷ terms_in (drop (place + 1) terms)
parted terms front place d behind within =
    ap terms_in (sym (take-append-drop (place + 1) terms))
    ∙ map-append term_of (take (place + 1) terms) (drop (place + 1) terms)
    ∙ ap (λ (l : List Term). terms_in l ++ terms_in (drop (place + 1) terms)) (take_more terms place d within)
    ∙ ap (λ (l : List theory.Term). l ++ terms_in (drop (place + 1) terms)) (map-append term_of (take place terms) (get_or terms place d ∷ []))
    ∙ append_assoc (terms_in (take place terms)) (term_of (get_or terms place d) ∷ []) (terms_in (drop (place + 1) terms))
    ∙ ap (λ (l : List theory.Term). l ++ term_of (get_or terms place d) ∷ terms_in (drop (place + 1) terms)) (front-parted terms front place behind)

-- Where some ranking keeps what a path asks before a place, and none keeps the terms of its first classes with the term there, the
-- prefix is refuted, and its certificate is that of those.
pub own-same : (problem : Problem) (path : Path) (front place : ℕ) (d : Term) → IsWellFormed problem → IsPrefix problem (prefix_of path) → IsPathOf problem path
    → front < length path.steps.items → slice_index (before_of path) front ≤ place → place < length path.asked.terms.items
    → no_ranking_keeps problem.constraints (take place path.asked.conditions.items) ≡ false
    → is_hopeless problem (terms_of problem (take front (prefix_of path)) ++ term_of (get_or path.asked.terms.items place d) ∷ []) ≡ true
    → (refuted problem (prefix_of path) ≡ true) × (certificate_of problem (terms_of problem (prefix_of path)) ≡ certificate_of problem (terms_of problem (take front (prefix_of path)) ++ term_of (get_or path.asked.terms.items place d) ∷ []))
own-same problem path front place d well p h on behind within some none = (gone, same)
  where
    terms : List Term
    terms = path.asked.terms.items

    term : theory.Term
    term = term_of (get_or terms place d)

    before : ℕ
    before = slice_index (before_of path) front

    first : List theory.Term
    first = terms_in (take before terms)

    others : List theory.Term
    others = terms_in (drop before (take place terms))

    behind_it : List theory.Term
    behind_it = terms_in (drop (place + 1) terms)

    pushed : IsReduced problem (terms_of problem (take front (prefix_of path)) ++ term ∷ []) (first ++ term ∷ [])
    pushed = IsReduced-push problem (terms_of problem (take front (prefix_of path))) first term (h.before front on).reduced

    whole : terms_in terms ≡ (first ++ others) ++ term ∷ behind_it
    whole = parted terms before place d behind within

    first_none : is_hopeless problem (first ++ term ∷ []) ≡ true
    first_none = sym (IsReduced-hopeless problem _ _ pushed) ∙ none

    first_some : is_hopeless problem (first ++ others) ≡ false
    first_some =
        ap (is_hopeless problem) (sym (front-parted terms before place behind))
        ∙ ap (no_ranking_keeps problem.constraints) (ap (map (condition_of problem)) (sym (take-map term_of place terms)) ∙ sym (take-map (condition_of problem) place (terms_in terms)) ∙ ap (take place) (sym h.asked.each))
        ∙ some

    all_none : is_hopeless problem (terms_in terms) ≡ true
    all_none =
        let near : is_hopeless problem ((first ++ others) ++ term ∷ []) ≡ true = rw (append_assoc first others (term ∷ [])) (hopeless-between problem first others (term ∷ []) first_none) in
        let far : is_hopeless problem ((first ++ others) ++ term ∷ behind_it) ≡ true = rw (append_assoc (first ++ others) (term ∷ []) behind_it) at (hopeless-more problem ((first ++ others) ++ term ∷ []) behind_it near) in
        rw whole far

    gone : refuted problem (prefix_of path) ≡ true
    gone = asked-refuted problem (prefix_of path) terms path.asked.conditions.items well p h.asked ∙ ap (no_ranking_keeps problem.constraints) h.asked.each ∙ all_none

    same : certificate_of problem (terms_of problem (prefix_of path)) ≡ certificate_of problem (terms_of problem (take front (prefix_of path)) ++ term ∷ [])
    same =
        sym (asked-certificate problem (prefix_of path) terms path.asked.conditions.items well p h.asked gone)
        ∙ ap (certificate_of problem) whole
        ∙ certificate-same problem first others term behind_it first_some first_none
        ∙ sym (IsReduced-certificate problem _ _ pushed none)

as-long : (path : Path) (prefix : List ℕ) → prefix_of path ≡ prefix → length path.steps.items ≡ length prefix
as-long path prefix there = sym (length-map path.steps.items (λ (step : Step). step.class.0)) ∙ ap (λ (l : List ℕ). length l) there

-- What the classes before the last one ask stands at least as far in front as what any first ones ask.
pub before-last : (problem : Problem) (path : Path) (prefix : List ℕ) (front : ℕ) (step : Step) → IsPathOf problem path → prefix_of path ≡ prefix → front < length prefix
    → step ≡ slice_index_or path.steps.items (length path.steps.items - 1) step → slice_index (before_of path) front ≤ step.before
before-last problem path prefix front step h there shorter last =
    let long = as-long path prefix there in
    let here : slice_index (before_of path) (length path.steps.items - 1) ≡ step.before =
    get_or-map (λ (s : Step). s.before) path.steps.items (length path.steps.items - 1) step 0 (omega (arith, shorter, long)) ∙ ap (λ (s : Step). s.before) (sym last) in
    let ordered = h.ordered front (length path.steps.items - 1) (omega (arith, shorter, long)) (omega (arith, shorter, long)) in
    omega (arith, here, ordered)

-- The certificate of an entry whose front begins the prefix is that of the prefix, where the entry's last term stands at a place before
-- which some ranking keeps all.
pub recalled : (problem : Problem) (path : Path) (prefix : List ℕ) (entry : Entry) (place : ℕ) (d : Term) → IsWellFormed problem → IsPrefix problem prefix → IsPathOf problem path → prefix_of path ≡ prefix → IsRemembered problem entry
    → length entry.front < length prefix → entry.front ≡ take (length entry.front) prefix → entry.last ≡ get_or path.asked.terms.items place d
    → slice_index (before_of path) (length entry.front) ≤ place → place < length path.asked.terms.items
    → no_ranking_keeps problem.constraints (take place path.asked.conditions.items) ≡ false → IsJudged problem prefix (Refuted entry.certificate)
recalled problem path prefix entry place d well p h there r shorter begins last behind within some =
    let same : (terms_of problem (take (length entry.front) (prefix_of path)) ++ term_of (get_or path.asked.terms.items place d) ∷ []) ≡ terms_needed problem entry =
    ap (λ (l : List ℕ). terms_of problem (take (length entry.front) l) ++ term_of (get_or path.asked.terms.items place d) ∷ []) there
    ∙ ap (λ (l : List ℕ). terms_of problem l ++ term_of (get_or path.asked.terms.items place d) ∷ []) (sym begins)
    ∙ ap (λ (t : Term). terms_of problem entry.front ++ term_of t ∷ []) (sym last) in
    let own = own-same problem path (length entry.front) place d well (rw there p) h (omega (arith, shorter, as-long path prefix there)) behind within some (ap (is_hopeless problem) same ∙ r.hopeless) in
    let gone : refuted problem prefix ≡ true = rw there at own.0 in
    let certificate : terms_in entry.certificate.terms ≡ certificate_of problem (terms_of problem prefix) =
    r.certificate ∙ ap (certificate_of problem) (sym same) ∙ sym own.1 ∙ ap (λ (l : List ℕ). certificate_of problem (terms_of problem l)) there in
    (gone, certificate, r.contradiction, certificate-refutes problem prefix (terms_in entry.certificate.terms) certificate)

-- An entry of the first classes of the prefix and of the last term that it needs can be remembered.
pub remembered : (problem : Problem) (path : Path) (prefix : List ℕ) (entry : Entry) (front place : ℕ) (d : Term) → IsWellFormed problem → IsPrefix problem prefix → IsPathOf problem path → prefix_of path ≡ prefix
    → front < length prefix → IsLastNeeded problem path front place → IsJudged problem prefix (Refuted entry.certificate) → entry.front ≡ take front prefix → entry.last ≡ get_or path.asked.terms.items place d → IsRemembered problem entry
remembered problem path prefix entry front place d well p h there shorter needed judged begins last = record {
  hopeless = ap (is_hopeless problem) (sym same) ∙ none;
  certificate = judged.1 ∙ ap (λ (l : List ℕ). certificate_of problem (terms_of problem l)) (sym there) ∙ own.1 ∙ ap (certificate_of problem) same;
  contradiction = judged.2;
}
  where
    on : front < length path.steps.items
    on = omega (arith, shorter, as-long path prefix there)

    terms : List Term
    terms = path.asked.terms.items

    term : theory.Term
    term = term_of (get_or terms place d)

    before : ℕ
    before = slice_index (before_of path) front

    same : (terms_of problem (take front (prefix_of path)) ++ term ∷ []) ≡ terms_needed problem entry
    same =
        ap (λ (l : List ℕ). terms_of problem (take front l) ++ term ∷ []) there
        ∙ ap (λ (l : List ℕ). terms_of problem l ++ term ∷ []) (sym begins)
        ∙ ap (λ (t : Term). terms_of problem entry.front ++ term_of t ∷ []) (sym last)

    pushed : IsReduced problem (terms_of problem (take front (prefix_of path)) ++ term ∷ []) (terms_in (take before terms) ++ term ∷ [])
    pushed = IsReduced-push problem (terms_of problem (take front (prefix_of path))) (terms_in (take before terms)) term (h.before front on).reduced

    here : slice_index_or path.asked.conditions.items place [] ≡ condition_of problem term
    here =
        ap (λ (l : List (List Mark)). slice_index_or l place []) h.asked.each
        ∙ get_or-map (condition_of problem) (terms_in terms) place (term_of d) [] (omega (arith, needed.within, length-map terms term_of))
        ∙ ap (condition_of problem) (get_or-map term_of terms place d (term_of d) needed.within)

    conditions : take before path.asked.conditions.items ++ slice_index_or path.asked.conditions.items place [] ∷ [] ≡ map (condition_of problem) (terms_in (take before terms) ++ term ∷ [])
    conditions =
        ap (λ (m : List Mark). take before path.asked.conditions.items ++ m ∷ []) here
        ∙ ap (λ (l : List (List Mark)). l ++ condition_of problem term ∷ []) (h.before front on).each
        ∙ sym (map-append (condition_of problem) (terms_in (take before terms)) (term ∷ []))

    none : is_hopeless problem (terms_of problem (take front (prefix_of path)) ++ term ∷ []) ≡ true
    none = IsReduced-hopeless problem _ _ pushed ∙ ap (no_ranking_keeps problem.constraints) (sym conditions) ∙ needed.none

    own : (refuted problem (prefix_of path) ≡ true) × (certificate_of problem (terms_of problem (prefix_of path)) ≡ certificate_of problem (terms_of problem (take front (prefix_of path)) ++ term ∷ []))
    own = own-same problem path front place d well (rw there p) h on needed.behind needed.within needed.some none
