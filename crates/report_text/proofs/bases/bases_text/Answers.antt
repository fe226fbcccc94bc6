use Rattle.std.proofs.Common.{refl}
use Rattle.report_text.specs.Listings.{bases_report}
use Rattle.report_text.proofs.bases.bases_text.Goals as goal

pub returns : goal.returns
unfolding bases_report
returns c =
    rw (c.into_label.ensures, c.in_ok-put.ensures, c.in_ok-put_members.ensures, c.as_slice-3.ensures, c.as_slice-2.ensures, c.in_ok-put_conditions.ensures, c.as_slice.ensures, c.in_ok-terms.ensures.terms, c.in_ok-put_winners.ensures, c.in_ok-put_head.ensures, c.new-text.ensures) refl
