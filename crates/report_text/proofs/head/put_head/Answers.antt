use Rattle.std.proofs.Common.{get_or, ◌≡◌, ℕ, ◌<◌, List, [], ◌∷◌, ◌++◌, length, codes, decimal, flat_map, arith, append_assoc, refl, sym, take_all, Some, ap}
use Rattle.std.specs.List.{slice_get, zip, enumerate_from}
use Rattle.std.proofs.lemmas.Option.{slice_get_read, get_or_from_slice_get}
use Rattle.std.proofs.lemmas.Slice.Zip.{length-zip}
use Rattle.std.proofs.lemmas.Result.{on_ok_weaker}
use Rattle.ot_base.specs.declared.tableau.InputRows.{InputRows}
use Rattle.ot_base.specs.declared.tableau.Tableau.{Tableau}
use Rattle.ot_base.specs.Tableaus.{input_of_rows}
use Rattle.ot_theory.specs.Problems.{Problem}
use Rattle.report_text.specs.Posed.{Poses}
use Rattle.report_text.specs.Reports.{head, title, constraint_lines, given_lines}
use Rattle.report_text.specs.Spelling.{line}
use Rattle.report_text.proofs.Grown.{numbered_pairs_more}
use Rattle.report_text.proofs.Posed.{input_at, inputs-length, posed-inputs}
use Rattle.report_text.proofs.head.put_head.Invariants.{input_lines}
use Rattle.report_text.proofs.head.put_head.Goals as goal

-- the input of the rows that come next
next_input : (tableau : Tableau) (problem : Problem) (all : List InputRows) (i : ℕ) (rows : InputRows) → Poses tableau problem → all ≡ tableau.inputs → i < length all → rows ≡ get_or all i rows
    → slice_get problem.inputs i ≡ Some (input_of_rows rows)
next_input tableau problem all i rows posed same within here =
    rw (posed-inputs tableau problem posed) (input_at tableau i rows (slice_get_read tableau.inputs (length tableau.inputs) i rows refl (rw same at within) (rw same at here)))

pub put_input-requires-clause-posed : goal.put_input-requires-clause-posed
put_input-requires-clause-posed c =
    next_input c.args.tableau.now c.args.problem.now c.as_slice-rows-items.result.now c.loop-i.i c.rows-item.result c.requires c.as_slice-rows-items.ensures (omega arith) c.rows-item.is

pub loop-i-preserved : goal.loop-i-preserved
loop-i-preserved c =
    let t = c.args.tableau.now in
    let rows = c.rows-item.result in
    let here = rw c.as_slice-rows-items.ensures at c.rows-item.is in
    let within : c.loop-i.i < length t.inputs = omega (arith, ap length c.as_slice-rows-items.ensures) in
    let long : length c.args.problem.now.inputs ≡ length t.inputs = rw (posed-inputs t c.args.problem.now c.requires) (inputs-length t) in
    let there = next_input t c.args.problem.now c.as_slice-rows-items.result.now c.loop-i.i rows c.requires c.as_slice-rows-items.ensures (omega arith) c.rows-item.is in
    let e = numbered_pairs_more input_lines t.inputs c.args.problem.now.inputs c.loop-i.i rows (input_of_rows rows)
    within (omega arith) here (sym (get_or_from_slice_get c.args.problem.now.inputs c.loop-i.i (input_of_rows rows) (input_of_rows rows) there))
    in
    rw (e, c.in_ok-put_input.ensures, c.loop-i.invariant) (simp append_assoc)

appended : (text title constraints count inputs pairs : List ℕ) → text ++ title ++ constraints ++ count ++ inputs ++ pairs ≡ text ++ (title ++ constraints ++ count ++ inputs ++ pairs)
appended text title constraints count inputs pairs = simp append_assoc

pub returns : goal.returns
unfolding head
returns c =
    let t = c.args.tableau.now in
    let inputs = zip t.inputs c.args.problem.now.inputs in
    let long : length c.args.problem.now.inputs ≡ length t.inputs = rw (posed-inputs t c.args.problem.now c.requires) (inputs-length t) in
    let all = take_all c.loop-i.i inputs (omega (arith, length-zip t.inputs c.args.problem.now.inputs, ap length c.as_slice-rows-items.ensures)) in
    on_ok_weaker c.put_givens.result
    (λ (e : c.put_givens.new.text ≡ c.loop-i.text ++ given_lines c.args.problem.now). rw (e, c.loop-i.invariant, all, c.in_ok-count_line.ensures, c.inputs.ensures.value, long, c.in_ok-put_constraints.ensures, c.in_ok-put_title.ensures)
    (appended c.args.text.now (title c.args.command.now) (constraint_lines t) (line (codes "inputs" ∷ decimal (length t.inputs) ∷ [])) (flat_map input_lines (enumerate_from 1 inputs)) (given_lines c.args.problem.now)))
    c.put_givens.ensures
