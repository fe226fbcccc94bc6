use Rattle.std.proofs.Common.{◌≡◌, ℕ, List, ◌++◌, ◌∷◌, []}
use Rattle.std.proofs.lemmas.Result.{err_from_is_err_and}
use Rattle.std.proofs.lemmas.List.{map_push}
use Rattle.refutation.specs.Typologies.{cuts_of}
use Rattle.report_reader.specs.Shapes.{cut_line}
use Rattle.report_reader.specs.Grammar.{Reading, line_at, each_at}
use Rattle.report_reader.proofs.LinesInTurn.{goes_on, ends}
use Rattle.report_reader.proofs.blocks.cuts_of.Goals as goal

pub returns-in_err-cut : goal.returns-in_err-cut
returns-in_err-cut c =
    let item : ℕ → List ℕ → Reading (List ℕ × ℕ) = λ k. line_at (cut_line c.args.head.now.counts c.args.certificates k) in
    let p = err_from_is_err_and c.from_residual.result c.from_residual.ensures.1 in
    rw (p.1, p.2) (ends c.in_err-cut.field-0.0 item (cuts_of c.loop-k.cuts) c.args.count c.loop-k.k c.loop-k.rest.now
    (each_at item 1 c.args.count c.args.bytes.now) c.loop-k-test.true c.in_err-cut.ensures c.loop-k.invariant)

pub loop-k-preserved : goal.loop-k-preserved
loop-k-preserved c =
    let item : ℕ → List ℕ → Reading (List ℕ × ℕ) = λ k. line_at (cut_line c.args.head.now.counts c.args.certificates k) in
    let cut = c.in_ok-cut.cut in
    let more : cuts_of c.push.new.self ≡ cuts_of c.loop-k.cuts ++ (cut.prefix, cut.certificate) ∷ [] = rw c.in_ok-push.ensures.ok (map_push _ c.loop-k.cuts cut) in
    rw more (goes_on item (cuts_of c.loop-k.cuts) c.args.count c.loop-k.k c.loop-k.rest.now ((cut.prefix, cut.certificate)) c.in_ok-cut.after.now
    (each_at item 1 c.args.count c.args.bytes.now) c.loop-k-test.true c.in_ok-cut.ensures c.loop-k.invariant)
