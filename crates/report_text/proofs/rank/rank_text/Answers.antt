use Rattle.std.proofs.Common.{◌≡◌, ◌++◌, refl}
use Rattle.report_text.specs.Reports.{rank_report, tableaux}
use Rattle.ot_theory.specs.Hierarchies.{order_along}
use Rattle.report_text.proofs.rank.rank_text.Goals as goal

pub put_tableaux-requires-clause-ranking : goal.put_tableaux-requires-clause-ranking
put_tableaux-requires-clause-ranking c = rw c.order_of.ensures.width c.order_of.ensures.ranking

pub returns : goal.returns
unfolding rank_report
returns c =
    let written : c.put_tableaux.new.text ≡ c.put_measure.new.text ++ tableaux (order_along c.args.s.now) c.args.t.now c.args.p.now =
    rw c.order_of.ensures.along at c.in_ok-put_tableaux.ensures
    in
    rw (c.into_label.ensures, c.in_ok-put.ensures, written, c.in_ok-put_measure.ensures, c.in_ok-put_strata.ensures, c.as_slice.ensures, c.in_ok-put_winners.ensures, c.in_ok-put_head.ensures, c.new-text.ensures) refl
