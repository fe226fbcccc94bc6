use Rattle.std.proofs.Common.{◌≡◌, ◌<◌, ◌+◌, length, take, flat_map, arith, append_assoc, refl, sym, take_all, Some, ap}
use Rattle.std.specs.List.{slice_get, zip, enumerate_from}
use Rattle.std.proofs.lemmas.Option.{slice_get_read, get_or_from_slice_get}
use Rattle.std.proofs.lemmas.Slice.Zip.{length-zip}
use Rattle.ot_base.specs.Tableaus.{input_of_rows}
use Rattle.report_text.proofs.Grown.{numbered_pairs_more}
use Rattle.report_text.proofs.Posed.{input_at, inputs-length, posed-inputs}
use Rattle.report_text.proofs.tableaux.put_tableaux.Invariants.{lines_of_winner}
use Rattle.report_text.proofs.tableaux.put_tableaux.Goals as goal

pub loop-i-preserved : goal.loop-i-preserved
loop-i-preserved c =
    let t = c.args.tableau.now in
    let rows = c.rows-item.result in
    let here = rw c.as_slice-rows-items.ensures at c.rows-item.is in
    let within : c.loop-i.i < length t.inputs = omega (arith, ap length c.as_slice-rows-items.ensures) in
    let long : length c.args.problem.now.inputs ≡ length t.inputs = rw (posed-inputs t c.args.problem.now c.requires.poses) (inputs-length t) in
    let there : slice_get c.args.problem.now.inputs c.loop-i.i ≡ Some (input_of_rows rows) =
    rw (posed-inputs t c.args.problem.now c.requires.poses) (input_at t c.loop-i.i rows (slice_get_read t.inputs (length t.inputs) c.loop-i.i rows refl within here))
    in
    let line = lines_of_winner c.args.order.now in
    let e = numbered_pairs_more line t.inputs c.args.problem.now.inputs c.loop-i.i rows (input_of_rows rows)
    within (omega arith) here (sym (get_or_from_slice_get c.args.problem.now.inputs c.loop-i.i (input_of_rows rows) (input_of_rows rows) there))
    in
    rw (e, c.in_ok-put_tableau.ensures (input_of_rows rows) there, c.loop-i.invariant)
    (append_assoc c.args.text.now (flat_map line (enumerate_from 1 (take c.loop-i.i (zip t.inputs c.args.problem.now.inputs)))) (line (c.loop-i.i + 1, (rows, input_of_rows rows))))

pub returns : goal.returns
returns c =
    let t = c.args.tableau.now in
    let inputs = zip t.inputs c.args.problem.now.inputs in
    let long : length c.args.problem.now.inputs ≡ length t.inputs = rw (posed-inputs t c.args.problem.now c.requires.poses) (inputs-length t) in
    let all = take_all c.loop-i.i inputs (omega (arith, length-zip t.inputs c.args.problem.now.inputs, ap length c.as_slice-rows-items.ensures)) in
    rw (c.loop-i.invariant, all) refl
