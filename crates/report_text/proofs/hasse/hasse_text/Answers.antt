use Rattle.std.proofs.Common.{refl}
use Rattle.report_text.specs.Listings.{hasse_report}
use Rattle.report_text.proofs.hasse.hasse_text.Goals as goal

pub returns : goal.returns
unfolding hasse_report
returns c =
    rw (c.into_label.ensures, c.in_ok-put.ensures, c.in_ok-put_covers.ensures, c.as_slice.ensures, c.in_ok-put_winners.ensures, c.in_ok-put_head.ensures, c.new-text.ensures) refl
