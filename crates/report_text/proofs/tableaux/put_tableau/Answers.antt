use Rattle.std.proofs.Common.{◌≡◌, ℕ, ◌+◌, List, [], ◌++◌, Some, None, append-nil, sym, ◌∙◌, ap, refl}
use Rattle.std.specs.Prelude.{Option}
use Rattle.std.specs.List.{slice_get}
use Rattle.std.specs.Option.{option_map_or}
use Rattle.std.proofs.lemmas.Result.{on_ok_weaker}
use Rattle.ot_theory.specs.Languages.{classes_at}
use Rattle.ot_theory.specs.Problems.{Problem, Input}
use Rattle.ot_theory.specs.Languages.{winner_at}
use Rattle.report_text.specs.Reports.{tableau_lines}
use Rattle.report_text.proofs.tableaux.put_tableau.Goals as goal

by_winner : (f : List (List ℕ) → ℕ → List ℕ) (problem : Problem) (i : ℕ) (won : Option ℕ) (input : Input) → won ≡ winner_at problem i → slice_get problem.inputs i ≡ Some input → option_map_or (f (classes_at problem i)) won [] ≡ option_map_or (f input.classes) input.winner []
by_winner f problem i won input e there = rw (e, there) refl

pub returns-in-Some : goal.returns-in-Some
returns-in-Some c =
    let f = tableau_lines c.args.order.now (c.args.i.0 + 1) c.args.rows.now in
    on_ok_weaker c.put_tableau_of.result
    (λ e input there. e ∙ ap (λ (lines : List ℕ). c.args.text.now ++ lines) (by_winner f c.args.problem.now c.args.i.0 (Some c.in-Some.winner.0) input c.in-Some.ensures.value there))
    c.put_tableau_of.ensures

pub returns-in-None : goal.returns-in-None
returns-in-None c = λ input there.
    let f = tableau_lines c.args.order.now (c.args.i.0 + 1) c.args.rows.now in
    rw (← by_winner f c.args.problem.now c.args.i.0 None input c.in-None.ensures.value there) (sym (append-nil c.args.text.now))
