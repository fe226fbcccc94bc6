use Rattle.std.proofs.Common.{◌≡◌, List, ◌++◌, subst, refl}
use Rattle.refutation.specs.declared.term.Term.{Term}
use Rattle.refutation.specs.Terms.{terms_in}
use Rattle.report_text.specs.Reports.{contradiction_report, contradiction_line}
use Rattle.report_text.proofs.contradiction.contradiction_text.Goals as goal

pub returns : goal.returns
unfolding contradiction_report
returns c =
    let written : c.put_contradiction.new.text ≡ c.put_winners.new.text ++ contradiction_line c.args.p.now (terms_in c.args.c.now.terms) =
    subst (λ (list : List Term). c.put_contradiction.new.text ≡ c.put_winners.new.text ++ contradiction_line c.args.p.now (terms_in list)) c.as_slice.ensures c.in_ok-put_contradiction.ensures
    in
    rw (c.into_label.ensures, c.in_ok-put.ensures, written, c.in_ok-put_winners.ensures, c.in_ok-put_head.ensures, c.as_bytes.ensures.value, c.new-text.ensures) refl
