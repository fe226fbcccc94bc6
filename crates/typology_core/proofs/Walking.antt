-- The steps of a walk through the prefixes of a problem.
use Rattle.std.proofs.Common.{◌≡◌, ℕ, zero, suc, ◌+◌, ◌<◌, List, [], ◌∷◌, ◌++◌, true, false, arith, refl, sym, ◌∙◌, ap, inl, inr, length, map, take, get_or, length-append, flat_map, append_assoc, Option, Some, None, IfSome, IfNone}
use Rattle.std.specs.Prelude.{All}
use Rattle.std.proofs.lemmas.Bool.{cases_lt}
use Rattle.std.proofs.lemmas.List.{append-nil, length-map, map-append, take-append-le, take_all}
use Rattle.std.proofs.lemmas.List.Concat.{flat_map-append}
use Rattle.std.proofs.lemmas.List.FromFn.{map-range_with_len_more}
use Rattle.std.proofs.lemmas.List.Elements.{All-push, All-map}
use Rattle.std.proofs.lemmas.List.Folds.{list_all-map}
use Rattle.std.proofs.lemmas.List.Sums.{passes_at_first}
use Rattle.ot_base.specs.declared.tableau.ClassId.{ClassId}
use Rattle.ot_theory.specs.declared.Mark.{Mark}
use Rattle.ot_theory.specs.Hierarchies.{IsLeastHierarchy}
use Rattle.ot_theory.specs.Problems.{Problem}
use Rattle.ot_theory.specs.Languages.{Term, classes_at, condition_of, conditions_of, refuted, terms_of, terms_of_class}
use Rattle.refutation.specs.declared.term.Term as program
use Rattle.ot_theory.specs.Refutations.{certificate_of, is_contradiction, is_term, no_ranking_keeps, one_winner_each, refutes, with_certificate}
use Rattle.ot_theory.proofs.Certificates.{contradiction-refutes}
use Rattle.ot_theory.proofs.Optimal.{refuted-conditions}
use Rattle.ot_theory.proofs.Redundant.{IsReduced-certificate, IsReduced-hopeless, IsReduced-least}
use Rattle.ot_theory.proofs.Sets.{is_hopeless}
use Rattle.violation_profiles.specs.WellFormed.{IsPrefix, IsWellFormed}
use Rattle.violation_profiles.proofs.Inputs.{AllFit-prefix}
use Rattle.refutation.specs.Asked.{AreAsked, Begins}
use Rattle.refutation.specs.Prefixes.{class_numbers, is_made}
use Rattle.refutation.specs.Terms.{are_terms, term_of, terms_in}
use Rattle.refutation.specs.Typologies.{certificates_of, cuts_of, found_of}
use Rattle.refutation.specs.declared.contradiction.Contradiction.{Contradiction}
use Rattle.refutation.specs.declared.typology.Cut.{Cut}
use Rattle.refutation.specs.declared.typology.Language.{Language}
use Rattle.refutation.proofs.TermsOfPrefixes.{certificate-refutes, made-one, terms_of-genuine, terms_of-made, terms_of-push}
use Rattle.search_deeds.specs.Gathered.{AreGenuine, first_refuting}
use Rattle.search_deeds.specs.Indexed.{IsIndex}
use Rattle.search_deeds.specs.Places.{IsIndexOf}
use Rattle.search_deeds.specs.Admitted.{AreBlocked}
use Rattle.search_deeds.specs.declared.index.Index.{Index}
use Rattle.typology_core.specs.Below.{cuts_below, languages_below}
use Rattle.typology_core.specs.Walked.{AreAllBelow, AreMore, IsDone, IsEntered, IsFoundOf, IsPathOf, IsReached, IsSamePath, choices_of, cut_prefixes, prefix_of}
use Rattle.typology_core.specs.declared.walk.Found.{Found}
use Rattle.typology_core.specs.declared.walk.Path.{Path}
use Rattle.search_deeds.proofs.Children.{IsPrefix-child, children_below}
use Rattle.search_deeds.proofs.Named.{certified-more, first-new, listed-new, listed-old}
use Rattle.search_deeds.proofs.Reached.{take-append-one, take-whole}

-- the empty prefix, which asks what the given pairs ask
pub path-start : (problem : Problem) (path : Path) → path.classes.items ≡ [] → AreAsked problem (terms_of problem []) path.asked.terms.items path.asked.conditions.items → IsPathOf problem path
path-start problem path none asked =
    let same : prefix_of path ≡ [] = ap class_numbers none in
    record {
      reached = rw same (record { fits = record { short = omega arith; within = λ i below. absurd (omega arith) }; first = λ k below. absurd (omega arith) });
      asked = rw same asked;
    }

-- What a path asks: terms of the problem, with one winner for each input.
pub path-genuine : (problem : Problem) (path : Path) → IsPathOf problem path → are_terms problem path.asked.terms.items ≡ true
path-genuine problem path h =
    sym (list_all-map (is_term problem) term_of path.asked.terms.items) ∙ h.asked.reduced.part (is_term problem) (terms_of-genuine problem (prefix_of path) h.reached.fits)

pub path-one : (problem : Problem) (path : Path) → IsPathOf problem path → one_winner_each (terms_in path.asked.terms.items) ≡ true
path-one problem path h = made-one (prefix_of path) (terms_in path.asked.terms.items) (h.asked.reduced.part (is_made (prefix_of path)) (terms_of-made problem (prefix_of path)))

-- No ranking keeps them exactly where the prefix is refuted.
pub path-hopeless : (problem : Problem) (path : Path) → IsWellFormed problem → IsPathOf problem path → refuted problem (prefix_of path) ≡ is_hopeless problem (terms_in path.asked.terms.items)
path-hopeless problem path well h =
    refuted-conditions problem (prefix_of path) (AllFit-prefix problem (prefix_of path) well h.reached.fits) ∙ IsReduced-hopeless problem (terms_of problem (prefix_of path)) (terms_in path.asked.terms.items) h.asked.reduced

pub path-refuted : (problem : Problem) (path : Path) (n : ℕ) (set : List (List Mark)) → IsWellFormed problem → IsPathOf problem path → n ≡ problem.constraints → set ≡ path.asked.conditions.items → refuted problem (prefix_of path) ≡ no_ranking_keeps n set
path-refuted problem path n set well h m e = path-hopeless problem path well h ∙ rw (m, e) (ap (no_ranking_keeps problem.constraints) (sym h.asked.each))

pub path-least : (problem : Problem) (path : Path) (n : ℕ) (set : List (List Mark)) (levels : List ℕ) → IsPathOf problem path → n ≡ problem.constraints → set ≡ path.asked.conditions.items → IsLeastHierarchy n set levels
    → IsLeastHierarchy problem.constraints (conditions_of problem (prefix_of path)) levels
path-least problem path n set levels h m e least =
    IsReduced-least problem (terms_of problem (prefix_of path)) (terms_in path.asked.terms.items) levels h.asked.reduced (rw (m, e ∙ h.asked.each) at least)

-- Their certificate is that of the prefix.
pub path-certificate : (problem : Problem) (path : Path) (core : List Term) → IsWellFormed problem → IsPathOf problem path → refuted problem (prefix_of path) ≡ true → core ≡ certificate_of problem (terms_in path.asked.terms.items)
    → core ≡ certificate_of problem (terms_of problem (prefix_of path))
path-certificate problem path core well h hopeless e =
    e ∙ sym (IsReduced-certificate problem (terms_of problem (prefix_of path)) (terms_in path.asked.terms.items) h.asked.reduced
    (sym (refuted-conditions problem (prefix_of path) (AllFit-prefix problem (prefix_of path) well h.reached.fits)) ∙ hopeless))

-- one cut more, which names a certificate
pub record IsWithCut (problem : Problem) (prefix : List ℕ) (old new : Found) : Type 0 where
  pub sound : IsFoundOf problem new
  pub grown : AreMore (prefix ∷ []) [] old new

pub with-cut : (problem : Problem) (old new : Found) (prefix : List ℕ) (place : ℕ) → IsFoundOf problem old → certificates_of new.certificates ≡ with_certificate problem (certificates_of old.certificates) prefix
    → place ≡ first_refuting (certificates_of new.certificates) prefix → place < length new.certificates → AreGenuine problem new.certificates → IsIndexOf problem new.certificates new.index
    → new.cuts ≡ old.cuts ++ record { prefix = prefix; certificate = place } ∷ [] → new.languages ≡ old.languages → IsWithCut problem prefix old new
with-cut problem old new prefix place h listed first within genuine indexed pushed same =
    let cut : Cut = record { prefix = prefix; certificate = place } in
    let more : cut_prefixes new.cuts ≡ cut_prefixes old.cuts ++ prefix ∷ [] =
    ap cut_prefixes pushed ∙ ap (map (λ (c : List ℕ × ℕ). c.0)) (map-append (λ (c : Cut). (c.prefix, c.certificate)) old.cuts (cut ∷ [])) ∙ map-append (λ (c : List ℕ × ℕ). c.0) (cuts_of old.cuts) (cuts_of (cut ∷ [])) in
    record {
      sound = record {
        certified = rw more (certified-more problem (cut_prefixes old.cuts) old.cuts new.cuts old.certificates new.certificates prefix place h.certified listed first within pushed);
        genuine = genuine;
        indexed = indexed;
        least = rw same h.least;
      };
      grown = record { cuts = more; languages = ap choices_of same ∙ sym (append-nil (choices_of old.languages)) };
    }

-- a cut that a certificate so far refutes
pub with-old-cut : (problem : Problem) (old new : Found) (prefix : List ℕ) (place : ℕ) → IsFoundOf problem old → (place ≡ first_refuting (certificates_of old.certificates) prefix) × (place < length old.certificates)
    → new.certificates ≡ old.certificates → new.index ≡ old.index → new.cuts ≡ old.cuts ++ record { prefix = prefix; certificate = place } ∷ [] → new.languages ≡ old.languages → IsWithCut problem prefix old new
with-old-cut problem old new prefix place h here certificates index pushed same =
    with-cut problem old new prefix place h
    (ap certificates_of certificates ∙ listed-old problem old.certificates old.certificates prefix prefix place refl refl here)
    (here.0 ∙ ap (λ (l : List Contradiction). first_refuting (certificates_of l) prefix) (sym certificates))
    (rw certificates here.1) (rw certificates h.genuine) (rw (certificates, index) h.indexed) pushed same

-- a cut with a certificate of its own
pub with-new-cut : (problem : Problem) (old new : Found) (prefix : List ℕ) (core : Contradiction) → IsFoundOf problem old → first_refuting (certificates_of old.certificates) prefix ≡ length old.certificates
    → terms_in core.terms ≡ certificate_of problem (terms_of problem prefix) → is_contradiction problem (terms_in core.terms) ≡ true → new.certificates ≡ old.certificates ++ core ∷ [] → IsIndexOf problem new.certificates new.index
    → new.cuts ≡ old.cuts ++ record { prefix = prefix; certificate = length old.certificates } ∷ [] → new.languages ≡ old.languages → IsWithCut problem prefix old new
with-new-cut problem old new prefix core h fresh own contradiction certificates indexed pushed same =
    let more : certificates_of new.certificates ≡ certificates_of old.certificates ++ terms_in core.terms ∷ [] = ap certificates_of certificates ∙ map-append (λ (c : Contradiction). terms_in c.terms) old.certificates (core ∷ []) in
    let long : length (certificates_of old.certificates) ≡ length old.certificates = length-map old.certificates (λ (c : Contradiction). terms_in c.terms) in
    with-cut problem old new prefix (length old.certificates) h
    (listed-new problem old.certificates old.certificates new.certificates core prefix prefix refl refl fresh own certificates)
    (sym (ap (λ (l : List (List Term)). first_refuting l prefix) more ∙ first-new (certificates_of old.certificates) (terms_in core.terms) prefix (fresh ∙ sym long) (certificate-refutes problem prefix (terms_in core.terms) own) ∙ long))
    (omega (arith, ap (λ (l : List Contradiction). length l) certificates, length-append old.certificates (core ∷ [])))
    (rw certificates (All-push (λ (c : Contradiction). is_contradiction problem (terms_in c.terms) ≡ true) old.certificates core h.genuine contradiction)) indexed pushed same

-- What a certificate refutes is refuted.
pub place-refuted : (problem : Problem) (found : Found) (prefix : List ℕ) (place : ℕ) → IsWellFormed problem → IsPrefix problem prefix → IsFoundOf problem found → (place ≡ first_refuting (certificates_of found.certificates) prefix) × (place < length found.certificates)
    → refuted problem prefix ≡ true
place-refuted problem found prefix place well p h here =
    let certificates = certificates_of found.certificates in
    let first : ℕ = first_refuting certificates prefix in
    let within : first < length certificates = omega (arith, here.0, here.1, length-map found.certificates (λ (c : Contradiction). terms_in c.terms)) in
    let genuine = All-map (λ (terms : List Term). is_contradiction problem terms ≡ true) (λ (c : Contradiction). terms_in c.terms) found.certificates h.genuine in
    contradiction-refutes problem (get_or certificates first []) prefix (AllFit-prefix problem prefix well p) (genuine first [] within) (passes_at_first (λ terms. refutes terms prefix) certificates [] within)

-- the prefix with a class of the next input
pub reached-child : (problem : Problem) (prefix : List ℕ) (a : ℕ) → IsReached problem prefix → refuted problem prefix ≡ false → length prefix < length problem.inputs → a < length (classes_at problem (length prefix)) → IsReached problem (prefix ++ a ∷ [])
reached-child problem prefix a h held short below = record {
  fits = IsPrefix-child problem prefix a h.fits short below;
  first = λ k less. ap (refuted problem) (take-append-one prefix a k (omega (arith, length-append prefix (a ∷ [])))) ∙ elim (cases_lt k (length prefix)) [
    | inl shorter ↦ h.first k shorter
    | inr most ↦ let e : k ≡ length prefix = omega (arith, length-append prefix (a ∷ [])) in rw (e, take-whole prefix) held
  ];
}

pub asked-child : (problem : Problem) (prefix : List ℕ) (i a : ℕ) (terms : List program.Term) (conditions : List (List Mark)) → length prefix ≡ i
    → AreAsked problem (terms_of problem prefix ++ terms_of_class (classes_at problem i) i a) terms conditions → AreAsked problem (terms_of problem (prefix ++ a ∷ [])) terms conditions
asked-child problem prefix i a terms conditions long h = rw (terms_of-push problem prefix i a long) h

-- the index with the new certificate
pub index-new : (problem : Problem) (old new : Found) (core : Contradiction) (index : Index) (terms : List program.Term) → new.certificates ≡ old.certificates ++ core ∷ [] → new.index ≡ index → terms ≡ core.terms
    → IsIndex problem (certificates_of old.certificates ++ terms_in terms ∷ []) index.widest index.places.items → AreBlocked (certificates_of old.certificates ++ terms_in terms ∷ []) index.places.items index.blocks.items → IsIndexOf problem new.certificates new.index
index-new problem old new core index terms certificates same those h m =
    let more : certificates_of new.certificates ≡ certificates_of old.certificates ++ terms_in core.terms ∷ [] = ap certificates_of certificates ∙ map-append (λ (c : Contradiction). terms_in c.terms) old.certificates (core ∷ []) in
    rw same (record { places = rw (more, ← those) h; blocked = rw (more, ← those) m })

pub cut-same : (p q : List ℕ) (m n : ℕ) → p ≡ q → m ≡ n → ◌≡◌ {A = Cut} (record { prefix = p; certificate = m }) (record { prefix = q; certificate = n })
cut-same p q m n e f = rw (e, f) refl

-- the prefix of a path with one class more
pub child-of : (path : Path) (classes pushed : List ClassId) (class : ClassId) → pushed ≡ path.classes.items ++ class ∷ [] → classes ≡ pushed → class_numbers classes ≡ prefix_of path ++ class.0 ∷ []
child-of path classes pushed class e f = ap class_numbers (f ∙ e) ∙ map-append (λ (c : ClassId). c.0) path.classes.items (class ∷ [])

pub path-child : (problem : Problem) (path : Path) (a : ℕ) → IsPathOf problem path → refuted problem (prefix_of path) ≡ false → length path.classes.items < length problem.inputs → a < length (classes_at problem (length path.classes.items)) → IsReached problem (prefix_of path ++ a ∷ [])
path-child problem path a h held short below =
    let long : length (prefix_of path) ≡ length path.classes.items = length-map path.classes.items (λ (class : ClassId). class.0) in
    reached-child problem (prefix_of path) a h.reached held (rw long short) (rw long below)

-- a language more
pub with-language : (problem : Problem) (old new : Found) (language : Language) (levels : List ℕ) (prefix : List ℕ) → IsFoundOf problem old → language.choice ≡ prefix → language.strata ≡ levels → IsLeastHierarchy problem.constraints (conditions_of problem prefix) levels
    → new.languages ≡ old.languages ++ language ∷ [] → new.cuts ≡ old.cuts → new.certificates ≡ old.certificates → new.index ≡ old.index → IsFoundOf problem new × AreMore [] (prefix ∷ []) old new
with-language problem old new language levels prefix h choice strata least pushed cuts certificates index =
    let more : found_of new.languages ≡ found_of old.languages ++ (prefix, levels) ∷ [] =
    ap found_of pushed ∙ map-append (λ (l : Language). (l.choice, l.strata)) old.languages (language ∷ []) ∙ rw (choice, strata) refl in (
      record {
        certified = rw (cuts, certificates) h.certified;
        genuine = rw certificates h.genuine;
        indexed = rw (certificates, index) h.indexed;
        least = rw more (All-push (λ (l : List ℕ × List ℕ). IsLeastHierarchy problem.constraints (conditions_of problem l.0) l.1) (found_of old.languages) (prefix, levels) h.least least);
      },
      record {
        cuts = ap cut_prefixes cuts ∙ sym (append-nil (cut_prefixes old.cuts));
        languages = ap (map (λ (l : List ℕ × List ℕ). l.0)) more ∙ map-append (λ (l : List ℕ × List ℕ). l.0) (found_of old.languages) ((prefix, levels) ∷ []);
      },
    )

-- What extends a refuted prefix is the cut that it is,
pub below-refuted : (problem : Problem) (n : ℕ) (prefix : List ℕ) (old new : Found) → refuted problem prefix ≡ true → AreMore (prefix ∷ []) [] old new → AreAllBelow problem n prefix old new
unfolding cuts_below languages_below
below-refuted problem zero prefix old new h more = rw h more
below-refuted problem (suc n) prefix old new h more = rw h more

-- what extends a full choice that is not refuted is the language that it is,
pub below-full : (problem : Problem) (n : ℕ) (prefix : List ℕ) (old new : Found) → n ≡ 0 → refuted problem prefix ≡ false → AreMore [] (prefix ∷ []) old new → AreAllBelow problem n prefix old new
unfolding cuts_below languages_below
below-full problem zero prefix old new e h more = rw h more
below-full problem (suc n) prefix old new e h more = absurd (omega arith)

-- and what extends a shorter one extends its children.
pub below-children : (problem : Problem) (n m k : ℕ) (prefix : List ℕ) (old new : Found) → n ≡ m + 1 → refuted problem prefix ≡ false → k ≡ length (classes_at problem (length prefix))
    → AreMore (flat_map (cuts_below problem m) (children_below prefix k)) (flat_map (languages_below problem m) (children_below prefix k)) old new → AreAllBelow problem n prefix old new
unfolding cuts_below languages_below
below-children problem n m k prefix old new e h all more = let next : n ≡ suc m = omega arith in rw (next, h) (rw all at more)

-- with one child more
pub below-more : (problem : Problem) (n a : ℕ) (prefix : List ℕ) (start before now : Found)
    → AreMore (flat_map (cuts_below problem n) (children_below prefix a)) (flat_map (languages_below problem n) (children_below prefix a)) start before → AreAllBelow problem n (prefix ++ a ∷ []) before now
    → AreMore (flat_map (cuts_below problem n) (children_below prefix (a + 1))) (flat_map (languages_below problem n) (children_below prefix (a + 1))) start now
below-more problem n a prefix start before now h more = record {
  cuts = more.cuts ∙ ap (λ (l : List (List ℕ)). l ++ cuts_below problem n (prefix ++ a ∷ [])) h.cuts ∙ append_assoc (cut_prefixes start.cuts) _ _ ∙ ap (λ (l : List (List ℕ)). cut_prefixes start.cuts ++ l) (sym (one_more (cuts_below problem n)));
  languages = more.languages ∙ ap (λ (l : List (List ℕ)). l ++ languages_below problem n (prefix ++ a ∷ [])) h.languages ∙ append_assoc (choices_of start.languages) _ _ ∙ ap (λ (l : List (List ℕ)). choices_of start.languages ++ l) (sym (one_more (languages_below problem n)));
}
  where
    one_more : (f : List ℕ → List (List ℕ)) → flat_map f (children_below prefix (a + 1)) ≡ flat_map f (children_below prefix a) ++ f (prefix ++ a ∷ [])
    one_more f =
        ap (flat_map f) (map-range_with_len_more (λ b. prefix ++ b ∷ []) 0 a a (omega arith))
        ∙ flat_map-append f (children_below prefix a) ((prefix ++ a ∷ []) ∷ [])
        ∙ ap (λ (l : List (List ℕ)). flat_map f (children_below prefix a) ++ l) (append-nil (f (prefix ++ a ∷ [])))

pub same-prefix : (path other : Path) → IsSamePath path other → prefix_of other ≡ prefix_of path
same-prefix path other s = ap class_numbers s.classes

pub same-path : (problem : Problem) (path other : Path) → IsPathOf problem path → IsSamePath path other → IsPathOf problem other
same-path problem path other h s = record { reached = rw (same-prefix path other s) h.reached; asked = rw (same-prefix path other s, s.terms, s.conditions) h.asked }

pub take-front : {X : Type 0} (n : ℕ) (front list : List X) → n ≡ length front → Begins front list → take n list ≡ front
take-front n front list e b = ap (take n) b.whole ∙ take-append-le n front b.rest (omega arith) ∙ take_all n front (omega arith)

pub length-conditions : (problem : Problem) (path : Path) → IsPathOf problem path → length path.asked.conditions.items ≡ length path.asked.terms.items
length-conditions problem path h = ap (λ (l : List (List Mark)). length l) h.asked.each ∙ length-map (terms_in path.asked.terms.items) (condition_of problem) ∙ length-map path.asked.terms.items term_of

-- back from a child
pub back-from : (problem : Problem) (start path child end back : Path) (i terms : ℕ) → IsPathOf problem path → IsSamePath start path
    → Begins path.classes.items child.classes.items → Begins path.asked.terms.items child.asked.terms.items → Begins path.asked.conditions.items child.asked.conditions.items → IsSamePath child end
    → i ≡ length start.classes.items → terms ≡ length path.asked.terms.items → back.classes.items ≡ take i end.classes.items → back.asked.terms.items ≡ take terms end.asked.terms.items → back.asked.conditions.items ≡ take terms end.asked.conditions.items
    → IsSamePath start back
back-from problem start path child end back i terms h s b d e last long count classes those conditions =
    let as_many : length path.asked.conditions.items ≡ length path.asked.terms.items = length-conditions problem path h in
    record {
      classes = classes ∙ ap (take i) last.classes ∙ take-front i path.classes.items child.classes.items (long ∙ ap (λ (l : List ClassId). length l) (sym s.classes)) b ∙ s.classes;
      terms = those ∙ ap (take terms) last.terms ∙ take-front terms path.asked.terms.items child.asked.terms.items count d ∙ s.terms;
      conditions = conditions ∙ ap (take terms) last.conditions ∙ take-front terms path.asked.conditions.items child.asked.conditions.items (count ∙ sym as_many) e ∙ s.conditions;
    }

-- The conditions of a path have a mark for each constraint.
pub path-widths : (problem : Problem) (path : Path) (n : ℕ) (set : List (List Mark)) → IsPathOf problem path → n ≡ problem.constraints → set ≡ path.asked.conditions.items → All (λ marks. length marks ≡ n) set
path-widths problem path n set h m e = rw (e, m) h.asked.widths

pub some-weaker : {X : Type 0} (r : Option X) (P Q : X → Type 0) → ((x : X) → P x → Q x) → IfSome r P → IfSome r Q
some-weaker None P Q f h = h
some-weaker (Some x) P Q f h = f x h

pub none-weaker : {X P Q : Type 0} (r : Option X) → (P → Q) → IfNone r P → IfNone r Q
none-weaker None f h = f h
none-weaker (Some x) f h = h

pub same-trans : (path other third : Path) → IsSamePath path other → IsSamePath other third → IsSamePath path third
same-trans path other third s r = record { classes = r.classes ∙ s.classes; terms = r.terms ∙ s.terms; conditions = r.conditions ∙ s.conditions }

-- what extends the prefix by the classes so far
abbrev pub AreMoreBelow : Problem → ℕ → ℕ → List ℕ → Found → Found → Type 0
AreMoreBelow problem n a prefix found more = AreMore (flat_map (cuts_below problem n) (children_below prefix a)) (flat_map (languages_below problem n) (children_below prefix a)) found more

pub entered-more : (problem : Problem) (n a : ℕ) (start path child : Path) (first before same now : Found) → IsSamePath start path → IsEntered problem a path child before same → length start.classes.items + (n + 1) ≡ length problem.inputs
    → ((m : ℕ) → length child.classes.items + m ≡ length problem.inputs → AreAllBelow problem m (prefix_of child) same now)
    → AreMoreBelow problem n a (prefix_of start) first before → AreMoreBelow problem n (a + 1) (prefix_of start) first now
entered-more problem n a start path child first before same now s e count more h =
    let here : prefix_of child ≡ prefix_of start ++ a ∷ [] = e.prefix ∙ ap (λ (l : List ℕ). l ++ a ∷ []) (same-prefix start path s) in
    let fits : length child.classes.items + n ≡ length problem.inputs = omega (arith, e.long, ap (λ (l : List ClassId). length l) s.classes, count) in
    below-more problem n a (prefix_of start) first before now h (rw (here, e.opened.kept) at (more n fits))

pub done-more : (problem : Problem) (n a : ℕ) (start path same : Path) (first before now : Found) → IsSamePath start path → IsDone problem a path same before now → length start.classes.items + (n + 1) ≡ length problem.inputs
    → AreMoreBelow problem n a (prefix_of start) first before → AreMoreBelow problem n (a + 1) (prefix_of start) first now
done-more problem n a start path same first before now s done count h =
    let here : prefix_of path ≡ prefix_of start = same-prefix start path s in
    below-more problem n a (prefix_of start) first before now h (rw here at (done.below n (omega (arith, ap (λ (l : List ClassId). length l) s.classes, count))))
