use Rattle.std.proofs.Common.{true, sym, ◌∙◌}
use Rattle.memory_runs.proofs.Joined.{split-all, split-more}
use Rattle.memory_runs.proofs.left.is_joined.Goals as goal

pub loop-piece-preserved : goal.loop-piece-preserved
loop-piece-preserved c =
    split-more c.args.bytes.now c.args.pieces.now c.loop-piece.piece-index _ c.loop-piece.rest.now c.in-Some.behind.now c.loop-piece-test.true
    c.in-Some.ensures.cases.0 c.in-Some.ensures.cases.1 c.loop-piece.invariant

pub returns : goal.returns
returns c = λ joined.
    split-all c.args.bytes.now c.args.pieces.now c.loop-piece.piece-index c.loop-piece.rest.now c.loop-piece-test.false c.loop-piece.auto.piece-index-end (sym c.is_empty.ensures ∙ joined) c.loop-piece.invariant
