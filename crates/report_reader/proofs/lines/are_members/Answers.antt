use Rattle.report_reader.proofs.MorePieces.{one_piece}
use Rattle.report_reader.proofs.lines.are_members.Goals as goal

pub returns : goal.returns
returns c = rw (one_piece 9 c.args.line.now) c.are_texts.ensures
