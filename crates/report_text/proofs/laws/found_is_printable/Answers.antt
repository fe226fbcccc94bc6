use Rattle.report_text.proofs.TrueTypologies.{printable-found}
use Rattle.report_text.proofs.laws.found_is_printable.Goals as goal

pub returns : goal.returns
returns c = printable-found
