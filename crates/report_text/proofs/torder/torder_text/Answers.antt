use Rattle.std.proofs.Common.{refl}
use Rattle.report_text.specs.Listings.{torder_report}
use Rattle.report_text.proofs.torder.torder_text.Goals as goal

pub returns : goal.returns
unfolding torder_report
returns c =
    rw (c.into_label.ensures, c.in_ok-put.ensures, c.in_ok-put_implications.ensures, c.in_ok-put_head.ensures, c.new-text.ensures) refl
