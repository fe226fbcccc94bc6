use Rattle.std.proofs.Common.{map, length, Err, ap, sym, subst, arith}
use Rattle.tableau_file.specs.Rows.{texts_of, rows_from}
use Rattle.tableau_file.proofs.GivenRefusals.{Leaves, Leaves-blank, Leaves-end, Leaves-fault, Leaves-more, Leaves-start}
use Rattle.tableau_file.proofs.given.read_pairs.Goals as goal
use Rattle.tableau_file.proofs.given.read_pairs.Goals.{then-not-is_blank+in_default, else-not-is_blank}

pub loop-line-init : goal.loop-line-init
loop-line-init c =
    let lines = c.into_iter-line-iterator.ensures.into_iter_gives in
    record { few = omega (arith, ap length lines); left = rw (c.new-pairs.ensures, lines) (Leaves-start c.args.t.now (rows_from 1 (map texts_of c.args.lines))) }

pub loop-line-preserved : goal.loop-line-preserved
loop-line-preserved c =
    let t = c.args.t.now in
    let whole = rows_from 1 (map texts_of c.args.lines) in
    let first = c.in-Some.ensures.steps in
    let line = texts_of c.in-Some.line.now in
    let rest = map texts_of c.next.new.self in
    let left = subst (λ lines. Leaves t c.loop-line.pairs (rows_from c.loop-line.number (map texts_of lines)) whole) first c.loop-line.invariant.left in
    record {
      few = omega (arith, ap length first, c.loop-line.invariant.few);
      left = elim c.if-not-is_blank.branch [
        | then-not-is_blank+in_default w ↦
            rw w.pairs-is (Leaves-more t c.loop-line.pairs w.add_pair.new.pairs c.loop-line.number line rest whole (sym w.if-not-is_blank.ensures) w.in_default.ensures.sound w.in_default.ensures.added w.in_default.ensures.few w.in_default.ensures.pair left)
        | else-not-is_blank w ↦ rw w.pairs-is (Leaves-blank t c.loop-line.pairs c.loop-line.number line rest whole (sym w.if-not-is_blank.ensures) left)
      ];
    }

pub returns-in-Err-clause-refused : goal.returns-in-Err-clause-refused
returns-in-Err-clause-refused c refusal is =
    let t = c.args.t.now in
    let whole = rows_from 1 (map texts_of c.args.lines) in
    let line = texts_of c.in-Some.line.now in
    let rest = map texts_of c.next.new.self in
    let left = subst (λ lines. Leaves t c.loop-line.pairs (rows_from c.loop-line.number (map texts_of lines)) whole) c.in-Some.ensures.steps c.loop-line.invariant.left in
    let told = c.given_error_at.ensures.refused refusal (cc) in
    Leaves-fault t c.loop-line.pairs c.loop-line.number line rest (map texts_of c.args.lines) refusal (sym c.if-not-is_blank.ensures) told.0 (c.in-Err.ensures.fault refusal.why (ap Err told.1)) left

pub returns-clause-read : goal.returns-clause-read
returns-clause-read c =
    let whole = rows_from 1 (map texts_of c.args.lines) in
    let left = subst (λ lines. Leaves c.args.t.now c.loop-line.pairs (rows_from c.loop-line.number (map texts_of lines)) whole) c.in-None.ensures.steps.0 c.loop-line.invariant.left in
    Leaves-end c.args.t.now c.loop-line.pairs c.loop-line.number (map texts_of c.args.lines) left
