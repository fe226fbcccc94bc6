use Rattle.std.proofs.Common.{◌≡◌, ℕ, List, ◌++◌, ◌∷◌, []}
use Rattle.std.proofs.lemmas.Result.{err_from_is_err_and}
use Rattle.report_reader.specs.Grammar.{Reading, input_at, each_at}
use Rattle.report_reader.proofs.LinesInTurn.{goes_on, ends}
use Rattle.report_reader.proofs.blocks.inputs_at.Goals as goal

pub returns-in_err-classes : goal.returns-in_err-classes
returns-in_err-classes c =
    let item : ℕ → List ℕ → Reading (ℕ) = input_at c.args.n in
    let p = err_from_is_err_and c.from_residual.result c.from_residual.ensures.1 in
    rw (p.1, p.2) (ends c.in_err-classes.field-0.0 item (c.loop-k.counts) c.args.count c.loop-k.k c.loop-k.rest.now
    (each_at item 1 c.args.count c.args.bytes.now) c.loop-k-test.true c.in_err-classes.ensures c.loop-k.invariant)

pub loop-k-preserved : goal.loop-k-preserved
loop-k-preserved c =
    let item : ℕ → List ℕ → Reading (ℕ) = input_at c.args.n in
    let classes = c.in_ok-classes.classes in
    let more : c.push.new.self ≡ c.loop-k.counts ++ classes ∷ [] = c.in_ok-push.ensures.ok in
    rw more (goes_on item (c.loop-k.counts) c.args.count c.loop-k.k c.loop-k.rest.now classes c.in_ok-classes.after.now
    (each_at item 1 c.args.count c.args.bytes.now) c.loop-k-test.true c.in_ok-classes.ensures c.loop-k.invariant)
