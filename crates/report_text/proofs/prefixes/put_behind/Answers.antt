use Rattle.std.proofs.Common.{◌++◌, ℕ, List, arith, ap, sym, take, ◌∙◌}
use Rattle.std.proofs.lemmas.Bool.{eqb-false}
use Rattle.std.proofs.lemmas.List.{append-nil}
use Rattle.std.proofs.lemmas.Result.{on_ok_weaker}
use Rattle.report_text.proofs.Kept.{written, written-all, written-prefix}
use Rattle.report_text.proofs.prefixes.put_behind.Goals as goal

pub loop-class-init : goal.loop-class-init
loop-class-init c = c.requires.kept ∙ sym (append-nil (written (take c.args.front c.args.classes.now)))

pub returns-else-is_empty-clause-written : goal.returns-else-is_empty-clause-written
returns-else-is_empty-clause-written c =
    let all = written-all c.args.front c.loop-class.class-index c.args.classes.now c.loop-class.kept (omega (arith, c.loop-class-test.false)) c.loop-class.invariant in
    on_ok_weaker c.put-else-is_empty.result
    (λ e. e ∙ ap (λ (l : List ℕ). c.args.text.now ++ l) (written-prefix c.args.classes.now c.bytes.result.now (eqb-false _ 0 (sym c.is_empty.ensures ∙ c.if-is_empty.false)) (c.bytes.ensures ∙ all)))
    c.put-else-is_empty.ensures

pub returns-else-is_empty-clause-kept : goal.returns-else-is_empty-clause-kept
returns-else-is_empty-clause-kept c =
    on_ok_weaker c.put-else-is_empty.result (λ e. written-all c.args.front c.loop-class.class-index c.args.classes.now c.loop-class.kept (omega (arith, c.loop-class-test.false)) c.loop-class.invariant) c.put-else-is_empty.ensures
