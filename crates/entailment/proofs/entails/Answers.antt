use Rattle.std.proofs.Common.{◌≡◌, ℕ, List, ◌++◌, ◌∷◌, [], Bool, true, false, ◌||◌, arith, refl, sym, ◌∙◌, ap, map, length}
use Rattle.std.specs.List.{list_all}
use Rattle.std.proofs.lemmas.Grind.{common_steps}
use Rattle.ot_theory.specs.declared.Mark.{Mark}
use Rattle.ot_theory.specs.Conditions.{exchanged, is_even}
use Rattle.ot_theory.specs.Entailment.{entails}
use Rattle.ot_theory.specs.Refutations.{no_ranking_keeps}
use Rattle.ot_theory.proofs.Entailing.{entails-by_negation, entails-from, keeps-even}
use Rattle.ot_theory.proofs.Sets.{no_ranking_keeps-exchanged}
use Rattle.entailment.proofs.entails.Goals as goal

-- The condition with W and L exchanged may stand behind the set.
hopeless-behind : (n : ℕ) (asked set : List (List Mark)) (marks : List Mark) → n ≡ length marks → list_all is_even marks ≡ false → asked ≡ set ++ map exchanged marks ∷ [] → no_ranking_keeps n asked ≡ entails (length marks) set marks
hopeless-behind n asked set marks long marked e =
    let negated : List Mark = map exchanged marks in
    rw (e, long) (no_ranking_keeps-exchanged (length marks) set (negated ∷ []) ∙ sym (entails-by_negation (length marks) set marks refl ∙ ap (λ (t : Bool). t || no_ranking_keeps (length marks) (negated ∷ set)) marked))

pub returns-then-is_even : goal.returns-then-is_even
returns-then-is_even c =
    let even : list_all is_even c.args.c.now ≡ true = sym c.is_even.ensures ∙ c.if-is_even.true in
    sym (entails-from (length c.args.c.now) c.args.set.now c.args.c.now (λ order ranking kept. keeps-even order c.args.c.now even))

pub returns : goal.returns
returns c =
    let asked : c.as_slice.result.now ≡ c.args.set.now ++ map exchanged c.args.c.now ∷ [] = grind (arith, common_steps) in
    c.is_hopeless.ensures ∙ hopeless-behind c.width.result c.as_slice.result.now c.args.set.now c.args.c.now c.width.ensures.width (sym c.is_even.ensures ∙ c.if-is_even.false) asked
