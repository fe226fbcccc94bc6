use Rattle.std.proofs.Common.{◌≡◌, ℕ, List, ◌++◌, ◌∷◌, []}
use Rattle.std.proofs.lemmas.Result.{err_from_is_err_and}
use Rattle.std.proofs.lemmas.List.{map_push}
use Rattle.ot_theory.specs.Languages.{Term}
use Rattle.refutation.specs.Terms.{terms_in}
use Rattle.refutation.specs.Typologies.{certificates_of}
use Rattle.report_reader.specs.Shapes.{certificate_line}
use Rattle.report_reader.specs.Grammar.{Reading, line_at, each_at}
use Rattle.report_reader.proofs.LinesInTurn.{goes_on, ends}
use Rattle.report_reader.proofs.blocks.certificates_of.Goals as goal

pub returns-in_err-certificate : goal.returns-in_err-certificate
returns-in_err-certificate c =
    let item : ℕ → List ℕ → Reading (List Term) = λ k. line_at (certificate_line c.args.head.now.constraints c.args.head.now.counts c.args.head.now.pairs k) in
    let p = err_from_is_err_and c.from_residual.result c.from_residual.ensures.1 in
    rw (p.1, p.2) (ends c.in_err-certificate.field-0.0 item (certificates_of c.loop-k.certificates) c.args.count c.loop-k.k c.loop-k.rest.now
    (each_at item 1 c.args.count c.args.bytes.now) c.loop-k-test.true c.in_err-certificate.ensures c.loop-k.invariant)

pub loop-k-preserved : goal.loop-k-preserved
loop-k-preserved c =
    let item : ℕ → List ℕ → Reading (List Term) = λ k. line_at (certificate_line c.args.head.now.constraints c.args.head.now.counts c.args.head.now.pairs k) in
    let certificate = c.in_ok-certificate.certificate in
    let more : certificates_of c.push.new.self ≡ certificates_of c.loop-k.certificates ++ terms_in certificate.terms ∷ [] = rw c.in_ok-push.ensures.ok (map_push _ c.loop-k.certificates certificate) in
    rw more (goes_on item (certificates_of c.loop-k.certificates) c.args.count c.loop-k.k c.loop-k.rest.now (terms_in certificate.terms) c.in_ok-certificate.after.now
    (each_at item 1 c.args.count c.args.bytes.now) c.loop-k-test.true c.in_ok-certificate.ensures c.loop-k.invariant)
