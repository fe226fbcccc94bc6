-- The conditions of a front of the terms, and of the terms kept so far.
use Rattle.std.proofs.Common.{◌≡◌, ℕ, ◌+◌, ◌-◌, ◌<◌, ◌≤◌, List, [], ◌∷◌, ◌++◌, true, false, arith, refl, sym, ◌∙◌, ap, subst, length, get_or, set, map, take, take_all, take-take, drop}
use Rattle.std.specs.Prelude.{All}
use Rattle.std.specs.List.{take-map}
use Rattle.std.proofs.lemmas.List.{drop-set, drop_all, length-drop, length-map, length-set, length-take-le, get_or-map, get_or-take, map-append, take-set-le}
use Rattle.std.proofs.lemmas.List.Elements.{All-set}
use Rattle.std.proofs.lemmas.List.Folds.{list_all-map}
use Rattle.ot_theory.specs.declared.Mark.{Mark}
use Rattle.ot_theory.specs.Problems.{Problem}
use Rattle.ot_theory.specs.Languages as theory
use Rattle.ot_theory.specs.Languages.{condition_of}
use Rattle.ot_theory.specs.Refutations.{is_contradiction, is_term, no_ranking_keeps, one_winner_each, certificate_of, EachIsNeeded}
use Rattle.ot_theory.proofs.Certificates.{certificate-contradiction, certificate-needed}
use Rattle.ot_theory.proofs.Sets.{is_hopeless}
use Rattle.ot_theory.proofs.Halving.{IsHalved, IsHalved-start, IsHalved-more, IsHalved-end, hopeless-exchanged}
use Rattle.refutation.specs.declared.term.Term.{Term}
use Rattle.refutation.specs.Terms.{are_terms, term_of, terms_in}

-- The conditions of the first terms are at the start of the list, and those of the terms kept at its end.
pub record AreFront (problem : Problem) (terms kept : List Term) (conditions : List (List Mark)) (front others : ℕ) : Type 0 where
  pub halved : IsHalved problem (terms_in terms) (terms_in kept) front
  pub firsts : take front conditions ≡ map (condition_of problem) (take front (terms_in terms))
  pub those : drop others conditions ≡ map (condition_of problem) (terms_in kept)
  pub between : front ≤ others
  pub within : others ≤ length conditions
  pub widths : All (λ marks. length marks ≡ problem.constraints) conditions

pub AreFront-start : (problem : Problem) (terms kept : List Term) (conditions : List (List Mark)) (front others : ℕ) → kept ≡ [] → front ≡ length conditions → others ≡ length conditions → conditions ≡ map (condition_of problem) (terms_in terms)
    → All (λ marks. length marks ≡ problem.constraints) conditions → is_hopeless problem (terms_in terms) ≡ true → AreFront problem terms kept conditions front others
AreFront-start problem terms kept conditions front others none e end each widths h =
    let long : front ≡ length (terms_in terms) = omega (arith, e, ap (λ (l : List (List Mark)). length l) each, length-map (terms_in terms) (condition_of problem)) in
    record {
      halved = rw (long, none) (IsHalved-start problem (terms_in terms) h);
      firsts = take_all front conditions (omega arith) ∙ each ∙ ap (map (condition_of problem)) (sym (take_all front (terms_in terms) (omega arith)));
      those = drop_all others conditions (omega arith) ∙ rw none refl;
      between = omega arith;
      within = omega arith;
      widths = widths;
    }

-- the first conditions are those of the first terms
shorter : (problem : Problem) (terms kept : List Term) (conditions : List (List Mark)) (front others k : ℕ) → AreFront problem terms kept conditions front others → k ≤ front
    → take k (take front conditions) ≡ map (condition_of problem) (take k (terms_in terms))
shorter problem terms kept conditions front others k f h =
    ap (take k) f.firsts ∙ take-map (condition_of problem) k (take front (terms_in terms)) ∙ ap (map (condition_of problem)) (take-take k front (terms_in terms) h)

-- whether no ranking keeps these beside the terms kept
beside : (problem : Problem) (terms kept : List Term) (conditions : List (List Mark)) (front others k : ℕ) → AreFront problem terms kept conditions front others → k ≤ front
    → no_ranking_keeps problem.constraints (drop others conditions ++ take k (take front conditions)) ≡ is_hopeless problem (take k (terms_in terms) ++ terms_in kept)
beside problem terms kept conditions front others k f h =
    ap (λ (l : List (List Mark)). no_ranking_keeps problem.constraints (l ++ take k (take front conditions))) f.those
    ∙ ap (λ (l : List (List Mark)). no_ranking_keeps problem.constraints (map (condition_of problem) (terms_in kept) ++ l)) (shorter problem terms kept conditions front others k f h)
    ∙ ap (no_ranking_keeps problem.constraints) (sym (map-append (condition_of problem) (terms_in kept) (take k (terms_in terms))))
    ∙ hopeless-exchanged problem (take k (terms_in terms)) (terms_in kept)

-- no ranking keeps them
pub AreFront-hopeless : (problem : Problem) (terms kept : List Term) (conditions : List (List Mark)) (front others n : ℕ) → n ≡ problem.constraints → AreFront problem terms kept conditions front others
    → no_ranking_keeps n (drop others conditions ++ take front conditions) ≡ true
AreFront-hopeless problem terms kept conditions front others n e f =
    let whole : take front (take front conditions) ≡ take front conditions = take-take front front conditions (omega arith) in
    rw e (rw whole at (beside problem terms kept conditions front others front f (omega arith)) ∙ f.halved.hopeless)

-- a term is there for each condition of the front
pub AreFront-long : (problem : Problem) (terms kept : List Term) (conditions : List (List Mark)) (front others : ℕ) → AreFront problem terms kept conditions front others → front ≤ length terms
AreFront-long problem terms kept conditions front others f = omega (arith, f.halved.short, length-map terms term_of)

-- a condition of the front is that of a term
of_term : (problem : Problem) (terms kept : List Term) (conditions : List (List Mark)) (front others k : ℕ) (e : List Mark) (d : Term) → AreFront problem terms kept conditions front others → k < front
    → get_or conditions k e ≡ condition_of problem (term_of (get_or terms k d))
of_term problem terms kept conditions front others k e d f below =
    let first = take front (terms_in terms) in
    let long : length first ≡ front = length-take-le front (terms_in terms) f.halved.short in
    sym (get_or-take front conditions k e below) ∙ ap (λ (l : List (List Mark)). get_or l k e) f.firsts ∙ get_or-map (condition_of problem) first k (term_of d) e (omega (arith, long))
    ∙ ap (condition_of problem) (get_or-take front (terms_in terms) k (term_of d) below ∙ get_or-map term_of terms k d (term_of d) (omega (arith, AreFront-long problem terms kept conditions front others f)))

-- The front that ends before the last term that is needed: some ranking keeps it, and none with that term.
pub AreFront-more : (problem : Problem) (terms kept longer : List Term) (old new : List (List Mark)) (front others last place n : ℕ) (e : List Mark) (d : Term) → n ≡ problem.constraints → AreFront problem terms kept old front others
    → last < length (take front old) → place ≡ others - 1 → no_ranking_keeps n (drop others old ++ take last (take front old)) ≡ false → no_ranking_keeps n (drop others old ++ take (last + 1) (take front old)) ≡ true
    → new ≡ set old place (get_or old last e) → longer ≡ get_or terms last d ∷ kept → AreFront problem terms longer new last place
AreFront-more problem terms kept longer old new front others last place n e d wide f short before some none moved more =
    let below : last < front = omega (arith, short, length-take-le front old (omega (arith, f.between, f.within))) in
    let next : place + 1 ≡ others = omega (arith, f.between) in
    let term = get_or terms last d in
    let long = AreFront-long problem terms kept old front others f in
    let with_some : is_hopeless problem (take last (terms_in terms) ++ terms_in kept) ≡ false = sym (beside problem terms kept old front others last f (omega arith)) ∙ rw wide at some in
    let with_none : is_hopeless problem (take (last + 1) (terms_in terms) ++ terms_in kept) ≡ true = sym (beside problem terms kept old front others (last + 1) f (omega arith)) ∙ rw wide at none in
    let it : get_or (terms_in terms) last (term_of d) ≡ term_of term = get_or-map term_of terms last d (term_of d) (omega arith) in
    let halved : IsHalved problem (terms_in terms) (term_of term ∷ terms_in kept) last = rw it at (IsHalved-more problem (terms_in terms) (terms_in kept) front last (term_of d) f.halved below with_some with_none) in
    let first : get_or old last e ≡ condition_of problem (term_of term) = of_term problem terms kept old front others last e d f below in
    let room : place < length old = omega (arith, f.within) in
    record {
      halved = rw more halved;
      firsts = ap (take last) moved ∙ take-set-le last old place (get_or old last e) (omega (arith, f.between)) ∙ sym (take-take last front old (omega arith)) ∙ shorter problem terms kept old front others last f (omega arith);
      those = ap (drop place) moved ∙ drop-set old place (get_or old last e) room ∙ rw (next, first, f.those, more) refl;
      between = omega (arith, f.between);
      within = omega (arith, f.within, ap (λ (l : List (List Mark)). length l) moved, length-set old place (get_or old last e));
      widths = rw moved (All-set (λ marks. length marks ≡ problem.constraints) old place (get_or old last e) (f.widths last e (omega (arith, f.between, f.within))) f.widths);
    }

-- the end of the list as a slice
pub end_slice : (conditions whole : List (List Mark)) (others : ℕ) → whole ≡ conditions → take (length whole - others) (drop others whole) ≡ drop others conditions
end_slice conditions whole others e = take_all (length whole - others) (drop others whole) (omega (arith, length-drop others whole)) ∙ ap (drop others) e

-- Where no ranking keeps the conditions of the terms kept, these are the certificate.
pub AreFront-end : (problem : Problem) (terms kept : List Term) (conditions : List (List Mark)) (front others n : ℕ) → n ≡ problem.constraints → AreFront problem terms kept conditions front others
    → no_ranking_keeps n (drop others conditions) ≡ true → terms_in kept ≡ certificate_of problem (terms_in terms)
AreFront-end problem terms kept conditions front others n e f none =
    IsHalved-end problem (terms_in terms) (terms_in kept) front f.halved (ap (no_ranking_keeps problem.constraints) (sym f.those) ∙ rw e at none)

-- the certificate of terms of the problem is a contradiction
pub certified : (problem : Problem) (terms : List Term) (kept : List theory.Term) → are_terms problem terms ≡ true → one_winner_each (terms_in terms) ≡ true → is_hopeless problem (terms_in terms) ≡ true
    → kept ≡ certificate_of problem (terms_in terms) → is_contradiction problem kept ≡ true
certified problem terms kept genuine one h e = rw e (certificate-contradiction problem (terms_in terms) (list_all-map (is_term problem) term_of terms ∙ genuine) one h)

pub needed : (problem : Problem) (terms : List Term) (kept : List theory.Term) → kept ≡ certificate_of problem (terms_in terms) → EachIsNeeded problem kept
needed problem terms kept e = subst (EachIsNeeded problem) (sym e) (certificate-needed problem (terms_in terms))
