use Rattle.report_text.proofs.ReadBack.{report-read}
use Rattle.report_text.proofs.laws.report_is_read_back.Goals as goal

pub returns : goal.returns
returns c = report-read
