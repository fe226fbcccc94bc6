use Rattle.std.proofs.Common.{◌≡◌, ℕ, ◌+◌, List, ◌++◌, ap, subst, ◌∙◌}
use Rattle.report_text.proofs.CutLines.{cut_line, line-more, shown}
use Rattle.report_text.proofs.Kept.{written}
use Rattle.report_text.proofs.typology.put_cuts.Goals as goal

pub put_cut-requires-clause-kept : goal.put_cut-requires-clause-kept
put_cut-requires-clause-kept c = c.keep_front.ensures ∙ ap written c.common_front-front.ensures.same

pub loop-k-preserved : goal.loop-k-preserved
loop-k-preserved c =
    let k = c.loop-k.k in
    let cut = c.index-cuts-k.result in
    let step : c.put_cut.new.text ≡ c.loop-k.text ++ cut_line (k + 1, shown cut) =
    subst (λ (prefix : List ℕ). c.put_cut.new.text ≡ c.loop-k.text ++ cut_line (k + 1, (prefix, cut.certificate))) c.as_slice-prefix.ensures c.in_ok-put_cut.ensures.written
    in (line-more c.count_line.new.self c.loop-k.text c.put_cut.new.text c.args.cuts.now k cut c.loop-k-test.true c.index-cuts-k.is c.loop-k.invariant.0 step, c.in_ok-put_cut.ensures.kept)
