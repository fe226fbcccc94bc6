use Rattle.std.proofs.Common.{◌≡◌, List, [], ◌∷◌, arith, true, sym, subst}
use Rattle.std.specs.Prelude.{All, IsTrue}
use Rattle.std.proofs.lemmas.List.Elements.{All-push}
use Rattle.ot_theory.specs.Refutations.{is_contradiction}
use Rattle.refutation.specs.declared.contradiction.Contradiction.{Contradiction}
use Rattle.refutation.specs.Terms.{are_terms, terms_in}
use Rattle.report_text.proofs.Genuine.{genuine-terms}
use Rattle.report_rows.proofs.texts.a_certificate_that_two_cuts_name.Goals as goal

pub typology_text-requires-clause-terms : goal.typology_text-requires-clause-terms
typology_text-requires-clause-terms g c =
    let problem = c.in_ok-problem.problem in
    let certificate : Contradiction = record { terms = c.push.new.self } in
    let has_terms : Contradiction → Type 0 = λ (one : Contradiction). IsTrue (are_terms problem one.terms) in
    let genuine : is_contradiction problem (terms_in c.push.new.self) ≡ true = cc in
    let all : c.push-4.new.self ≡ certificate ∷ [] = rw c.new-certificates.ensures at c.in_ok-push-4.ensures.ok in
    subst (λ (all : List Contradiction). All has_terms all) (sym all)
    (All-push has_terms [] certificate (λ k d below. absurd (omega (arith, below))) (genuine-terms problem c.push.new.self genuine))
