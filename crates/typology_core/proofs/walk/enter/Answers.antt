use Rattle.std.proofs.Common.{rules, ◌≡◌, ◌∙◌, refl, sym, ap, ℕ, List, [], ◌∷◌, ◌++◌, length, length-append, take, arith}
use Rattle.std.proofs.lemmas.List.{length-map, take-append-le, take_all}
use Rattle.ot_base.specs.declared.tableau.ClassId.{ClassId}
use Rattle.ot_theory.specs.Languages.{terms_of}
use Rattle.refutation.specs.declared.typology.Cut.{Cut}
use Rattle.refutation.specs.Prefixes.{class_numbers}
use Rattle.typology_core.specs.Walked.{IsToOpen, prefix_of}
use Rattle.typology_core.proofs.Lower.{IsLower-child, path-satisfied}
use Rattle.typology_core.proofs.Walking.{path-child, asked-child, below-refuted, place-refuted, with-old-cut, child-of, cut-same, length-conditions, take-front}
use Rattle.typology_core.proofs.walk.enter.Goals as goal

pub place_of-requires-clause-reached : goal.place_of-requires-clause-reached
place_of-requires-clause-reached c =
    let path = c.args.path.now in
    rw (child-of path c.as_slice.result.now c.go_on.new.classes.items c.args.class c.in_ok-go_on.ensures c.as_slice.ensures.value) (path-child c.args.p.now path c.args.class.0 c.requires.path c.requires.held c.requires.shorter c.requires.class)

pub returns-in-Some-clause-settled : goal.returns-in-Some-clause-settled
returns-in-Some-clause-settled c =
    let problem = c.args.p.now in
    let path = c.args.path.now in
    let child : List ℕ = prefix_of path ++ c.args.class.0 ∷ [] in
    let seen : class_numbers c.as_slice.result.now ≡ child = child-of path c.as_slice.result.now c.go_on.new.classes.items c.args.class c.in_ok-go_on.ensures c.as_slice.ensures.value in
    let told : class_numbers c.as_slice-in-Some.result.now ≡ child = child-of path c.as_slice-in-Some.result.now c.go_on.new.classes.items c.args.class c.in_ok-go_on.ensures c.as_slice-in-Some.ensures.value in
    let here = rw seen at c.in-Some.ensures.some in
    let cut = with-old-cut problem c.args.found.now c.add_cut.new.self child c.in-Some.place c.requires.found here c.add_cut.ensures.certificates c.add_cut.ensures.index
    (c.in_ok-add_cut.ensures.cuts ∙ ap (λ (d : Cut). c.args.found.now.cuts ++ d ∷ []) (cut-same (class_numbers c.as_slice-in-Some.result.now) child c.in-Some.place c.in-Some.place told refl)) c.add_cut.ensures.languages in
    let hopeless = place-refuted problem c.args.found.now child c.in-Some.place c.inputs.ensures.well_formed (path-child problem path c.args.class.0 c.requires.path c.requires.held c.requires.shorter c.requires.class).fits c.requires.found here in
    record {
      stays = record {
        classes = c.truncate.ensures.items ∙ ap (take c.len.result) c.in_ok-go_on.ensures ∙ take-append-le c.len.result path.classes.items (c.args.class ∷ []) (omega (arith, c.len.ensures, path.classes.ok.0)) ∙ take_all c.len.result path.classes.items (omega (arith, c.len.ensures, path.classes.ok.0));
        terms = refl;
        conditions = refl;
      };
      sound = cut.sound;
      below = λ n count. below-refuted problem n child c.args.found.now c.add_cut.new.self hopeless cut.grown;
    }

pub hierarchy_from-hierarchy-requires-clause-path : goal.hierarchy_from-hierarchy-requires-clause-path
hierarchy_from-hierarchy-requires-clause-path c =
    let problem = c.args.p.now in
    let path = c.args.path.now in
    let now : class_numbers c.go_on.new.classes.items ≡ prefix_of path ++ c.args.class.0 ∷ [] = child-of path c.go_on.new.classes.items c.go_on.new.classes.items c.args.class c.in_ok-go_on.ensures refl in
    let long : length (prefix_of path) ≡ c.len.result = omega (arith, length-map path.classes.items (λ (d : ClassId). d.0), c.len.ensures, path.classes.ok.0) in
    record {
      reached = rw now (path-child problem path c.args.class.0 c.requires.path c.requires.held c.requires.shorter c.requires.class);
      asked = rw now (asked-child problem (prefix_of path) c.len.result c.args.class.0 c.ask.new.asked.terms.items c.ask.new.asked.conditions.items long (c.in_ok-ask.ensures.asked (terms_of problem (prefix_of path)) c.requires.path.asked));
    }

pub holds-requires-clause-path : goal.holds-requires-clause-path
holds-requires-clause-path c =
    let problem = c.args.p.now in
    let path = c.args.path.now in
    let now : class_numbers c.go_on.new.classes.items ≡ prefix_of path ++ c.args.class.0 ∷ [] = child-of path c.go_on.new.classes.items c.go_on.new.classes.items c.args.class c.in_ok-go_on.ensures refl in
    let long : length (prefix_of path) ≡ c.len.result = omega (arith, length-map path.classes.items (λ (d : ClassId). d.0), c.len.ensures, path.classes.ok.0) in
    record {
      reached = rw now (path-child problem path c.args.class.0 c.requires.path c.requires.held c.requires.shorter c.requires.class);
      asked = rw now (asked-child problem (prefix_of path) c.len.result c.args.class.0 c.ask.new.asked.terms.items c.ask.new.asked.conditions.items long (c.in_ok-ask.ensures.asked (terms_of problem (prefix_of path)) c.requires.path.asked));
    }

pub hierarchy_from-hierarchy-requires-clause-lower : goal.hierarchy_from-hierarchy-requires-clause-lower
hierarchy_from-hierarchy-requires-clause-lower c =
    let path = c.args.path.now in
    let now : class_numbers c.go_on.new.classes.items ≡ prefix_of path ++ c.args.class.0 ∷ [] = child-of path c.go_on.new.classes.items c.go_on.new.classes.items c.args.class c.in_ok-go_on.ensures refl in
    rw now (IsLower-child c.args.p.now (prefix_of path) c.args.class.0 c.args.strata.now c.requires.least)

pub hierarchy_from-hierarchy-requires-clause-satisfied : goal.hierarchy_from-hierarchy-requires-clause-satisfied
hierarchy_from-hierarchy-requires-clause-satisfied c =
    let problem = c.args.p.now in
    let path = c.args.path.now in
    let count : c.len-terms.result ≡ length path.asked.terms.items = omega (arith, c.len-terms.ensures, path.asked.terms.ok.0) in
    let first : take c.len-terms.result c.ask.new.asked.conditions.items ≡ path.asked.conditions.items =
    take-front c.len-terms.result path.asked.conditions.items c.ask.new.asked.conditions.items (count ∙ sym (length-conditions problem path c.requires.path)) c.in_ok-ask.ensures.conditions in
    rw first (path-satisfied problem path c.args.strata.now c.requires.path c.requires.least)

pub returns-in_ok-ask-in-Some-2-clause-entered : goal.returns-in_ok-ask-in-Some-2-clause-entered
returns-in_ok-ask-in-Some-2-clause-entered c =
    let problem = c.args.p.now in
    let path = c.args.path.now in
    let now : class_numbers c.go_on.new.classes.items ≡ prefix_of path ++ c.args.class.0 ∷ [] = child-of path c.go_on.new.classes.items c.go_on.new.classes.items c.args.class c.in_ok-go_on.ensures refl in
    let long : length (prefix_of path) ≡ c.len.result = omega (arith, length-map path.classes.items (λ (d : ClassId). d.0), c.len.ensures, path.classes.ok.0) in
    let count : c.len-terms.result ≡ length path.asked.terms.items = omega (arith, c.len-terms.ensures, path.asked.terms.ok.0) in
    let terms : c.forget.new.self.terms.items ≡ path.asked.terms.items = c.forget.ensures.terms ∙ take-front c.len-terms.result path.asked.terms.items c.ask.new.asked.terms.items count c.in_ok-ask.ensures.terms in
    let conditions : c.forget.new.self.conditions.items ≡ path.asked.conditions.items =
    c.forget.ensures.conditions ∙ take-front c.len-terms.result path.asked.conditions.items c.ask.new.asked.conditions.items (count ∙ sym (length-conditions problem path c.requires.path)) c.in_ok-ask.ensures.conditions in
    let opened : IsToOpen problem (record { classes = c.go_on.new.classes; asked = c.ask.new.asked }) c.args.found.now c.holds.new.found = search rules in
    record {
      here = record {
        reached = rw now (path-child problem path c.args.class.0 c.requires.path c.requires.held c.requires.shorter c.requires.class);
        asked = rw now (asked-child problem (prefix_of path) c.len.result c.args.class.0 c.ask-in-Some-2.new.asked.terms.items c.ask-in-Some-2.new.asked.conditions.items long (c.in_ok-ask-in-Some-2.ensures.asked (terms_of problem (prefix_of path)) (rw (terms, conditions) c.requires.path.asked)));
      };
      prefix = now;
      classes = record { rest = c.args.class ∷ []; whole = c.in_ok-go_on.ensures };
      long = ap (λ (l : List ClassId). length l) c.in_ok-go_on.ensures ∙ length-append path.classes.items (c.args.class ∷ []);
      terms = rw terms at c.in_ok-ask-in-Some-2.ensures.terms;
      conditions = rw conditions at c.in_ok-ask-in-Some-2.ensures.conditions;
      opened = record { held = opened.held; shorter = opened.shorter; kept = opened.kept };
    }
