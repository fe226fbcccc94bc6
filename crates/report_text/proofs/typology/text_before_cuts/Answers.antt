use Rattle.std.proofs.Common.{refl}
use Rattle.report_text.proofs.typology.text_before_cuts.Goals as goal

pub returns : goal.returns
returns c = rw (c.in_ok-put_certificates.ensures, c.in_ok-put_languages.ensures, c.in_ok-put_head.ensures, c.new-text.ensures) refl
