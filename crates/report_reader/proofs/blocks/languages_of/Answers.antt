use Rattle.std.proofs.Common.{◌≡◌, ℕ, List, ◌++◌, ◌∷◌, []}
use Rattle.std.proofs.lemmas.Result.{err_from_is_err_and}
use Rattle.std.proofs.lemmas.List.{map_push}
use Rattle.refutation.specs.Typologies.{found_of}
use Rattle.report_reader.specs.Shapes.{language_line}
use Rattle.report_reader.specs.Grammar.{Reading, line_at, each_at}
use Rattle.report_reader.proofs.LinesInTurn.{goes_on, ends}
use Rattle.report_reader.proofs.blocks.languages_of.Goals as goal

pub returns-in_err-language : goal.returns-in_err-language
returns-in_err-language c =
    let item : ℕ → List ℕ → Reading (List ℕ × List ℕ) = λ k. line_at (language_line c.args.head.now.constraints c.args.head.now.counts k) in
    let p = err_from_is_err_and c.from_residual.result c.from_residual.ensures.1 in
    rw (p.1, p.2) (ends c.in_err-language.field-0.0 item (found_of c.loop-k.languages) c.args.count c.loop-k.k c.loop-k.rest.now
    (each_at item 1 c.args.count c.args.bytes.now) c.loop-k-test.true c.in_err-language.ensures c.loop-k.invariant)

pub loop-k-preserved : goal.loop-k-preserved
loop-k-preserved c =
    let item : ℕ → List ℕ → Reading (List ℕ × List ℕ) = λ k. line_at (language_line c.args.head.now.constraints c.args.head.now.counts k) in
    let language = c.in_ok-language.language in
    let more : found_of c.push.new.self ≡ found_of c.loop-k.languages ++ (language.choice, language.strata) ∷ [] = rw c.in_ok-push.ensures.ok (map_push _ c.loop-k.languages language) in
    rw more (goes_on item (found_of c.loop-k.languages) c.args.count c.loop-k.k c.loop-k.rest.now ((language.choice, language.strata)) c.in_ok-language.after.now
    (each_at item 1 c.args.count c.args.bytes.now) c.loop-k-test.true c.in_ok-language.ensures c.loop-k.invariant)
