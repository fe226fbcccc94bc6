use Rattle.std.proofs.Common.{refl}
use Rattle.report_text.specs.Summary.{demo_report}
use Rattle.report_text.proofs.demo.demo_text.Goals as goal

pub returns : goal.returns
unfolding demo_report
returns c =
    rw (c.into_label.ensures, c.in_ok-put.ensures, c.in_ok-count_line-6.ensures, c.in_ok-count_line-5.ensures, c.in_ok-count_line-4.ensures, c.in_ok-count_line-3.ensures, c.in_ok-count_line-2.ensures, c.in_ok-count_line.ensures, c.in_ok-put_title.ensures, c.new-text.ensures, c.len-languages.ensures, c.len-certificates.ensures, c.len-cuts.ensures) refl
