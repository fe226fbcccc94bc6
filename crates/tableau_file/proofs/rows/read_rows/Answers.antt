use Rattle.std.proofs.Common.{◌≡◌, ◌+◌, map, length, Err, ap, sym, subst, ◌∙◌, arith}
use Rattle.tableau_file.specs.Rows.{texts_of, rows_from}
use Rattle.tableau_file.specs.declared.Why.TheVariants.{NoRows}
use Rattle.tableau_file.specs.Faults.{rows_refusals, IsFirst}
use Rattle.tableau_file.proofs.RowRefusals.{LeavesAll, left-all, left-blank, left-sound, left-fault, left-some, left-none}
use Rattle.tableau_file.proofs.rows.read_rows.Goals as goal
use Rattle.tableau_file.proofs.rows.read_rows.Goals.{then-not-is_blank+in_default, else-not-is_blank}

pub loop-line-preserved : goal.loop-line-preserved
loop-line-preserved c =
    let n = c.args.n in
    let whole = rows_from 3 (map texts_of c.args.lines) in
    let first = c.in-Some.ensures.steps in
    let line = texts_of c.in-Some.line.now in
    let rest = map texts_of c.next.new.self in
    let left = subst (λ lines. LeavesAll n c.loop-line.inputs c.loop-line.number (map texts_of lines) whole) first c.loop-line.invariant.left in
    let next = c.loop-line.number + 1 in
    record {
      few = omega (arith, ap length first, c.loop-line.invariant.few);
      left = elim c.if-not-is_blank.branch [
        | then-not-is_blank+in_default w ↦
            let added = w.inputs-is ∙ w.in_default.ensures.added in
            subst (λ inputs. LeavesAll n inputs next rest whole) (sym added) (left-sound n c.loop-line.inputs c.loop-line.number line rest whole (sym w.if-not-is_blank.ensures) w.in_default.ensures.sound left)
        | else-not-is_blank w ↦
            subst (λ inputs. LeavesAll n inputs next rest whole) (sym w.inputs-is) (left-blank n c.loop-line.inputs c.loop-line.number line rest whole (sym w.if-not-is_blank.ensures) left)
      ];
    }

pub returns-in-Err-clause-refused : goal.returns-in-Err-clause-refused
returns-in-Err-clause-refused c refusal is =
    let n = c.args.n in
    let whole = rows_from 3 (map texts_of c.args.lines) in
    let line = texts_of c.in-Some.line.now in
    let rest = map texts_of c.next.new.self in
    let left = subst (λ lines. LeavesAll n c.loop-line.inputs c.loop-line.number (map texts_of lines) whole) c.in-Some.ensures.steps c.loop-line.invariant.left in
    let told = c.error_at.ensures.refused refusal (cc) in
    left-fault n c.loop-line.inputs c.loop-line.number line rest whole refusal (sym c.if-not-is_blank.ensures) told.0 (c.in-Err.ensures.fault refusal.why (ap Err told.1)) left

pub returns-then-len-eq0-clause-refused : goal.returns-then-len-eq0-clause-refused
returns-then-len-eq0-clause-refused c refusal is =
    let n = c.args.n in
    let whole = rows_from 3 (map texts_of c.args.lines) in
    let left = subst (λ lines. LeavesAll n c.loop-line.inputs c.loop-line.number (map texts_of lines) whole) c.in-None.ensures.steps.0 c.loop-line.invariant.left in
    let none = ap length (sym c.into_list-inputs.ensures) ∙ sym c.len.ensures ∙ c.if-len-eq0.true in
    let same : record { line = 3; why = NoRows } ≡ refusal = cc in
    subst (λ refusal. IsFirst refusal (rows_refusals n whole)) same (left-none n c.loop-line.inputs c.loop-line.number whole left none)

pub returns-clause-sound : goal.returns-clause-sound
returns-clause-sound c =
    let n = c.args.n in
    let whole = rows_from 3 (map texts_of c.args.lines) in
    let left = subst (λ lines. LeavesAll n c.loop-line.inputs c.loop-line.number (map texts_of lines) whole) c.in-None.ensures.steps.0 c.loop-line.invariant.left in
    left-some n c.loop-line.inputs c.loop-line.number whole left (λ none. c.if-len-eq0.false (c.len.ensures ∙ ap length c.into_list-inputs.ensures ∙ none))

pub returns-clause-inputs : goal.returns-clause-inputs
returns-clause-inputs c =
    let whole = rows_from 3 (map texts_of c.args.lines) in
    let left = subst (λ lines. LeavesAll c.args.n c.loop-line.inputs c.loop-line.number (map texts_of lines) whole) c.in-None.ensures.steps.0 c.loop-line.invariant.left in
    c.into_list-inputs.ensures ∙ left.inputs_left

pub loop-line-init : goal.loop-line-init
loop-line-init c =
    let left = left-all c.args.n (map texts_of c.args.lines) in
    let lines = c.into_iter-line-iterator.ensures.into_iter_gives in
    record { few = omega (arith, ap length lines); left = rw (c.new-inputs.ensures, lines) left }
