use Rattle.std.proofs.Common.{refl}
use Rattle.report_text.specs.Reports.{typology_report}
use Rattle.report_text.proofs.typology.compact_typology_text.Goals as goal

pub returns : goal.returns
unfolding typology_report
returns c = rw (c.into_label.ensures, c.in_ok-put.ensures, c.in_ok-put_cut_list.ensures, c.in_ok-text.ensures, c.as_slice-certificates.ensures, c.as_slice-languages.ensures) refl
