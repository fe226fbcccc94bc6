use Rattle.std.proofs.Common.{sym, ◌∙◌}
use Rattle.report_reader.proofs.MorePieces.{two-more}
use Rattle.report_reader.proofs.pieces.two.Goals as goal

pub returns-then-is_some : goal.returns-then-is_some
returns-then-is_some c =
    two-more c.args.separator c.args.text.now c.cut.result.0.now c.cut.result.1 c.in_ok-rest.field-0 c.cut-2.result.0.now c.cut-2.result.1
    c.cut.ensures c.in_ok-rest.was c.cut-2.ensures (sym c.is_some.ensures ∙ c.if-is_some.true)
