use Rattle.std.proofs.Common.{◌≡◌, ℕ, ◌+◌, List, ◌++◌, take, map, flat_map, append_assoc, subst}
use Rattle.std.specs.List.{enumerate_from}
use Rattle.refutation.specs.declared.typology.Language.{Language}
use Rattle.report_text.proofs.Grown.{numbered_parts_more}
use Rattle.report_text.proofs.typology.put_languages.Invariants.{language_line}
use Rattle.report_text.proofs.typology.put_languages.Goals as goal

abbrev shown : Language → List ℕ × List ℕ
shown language = (language.choice, language.strata)

pub loop-k-preserved : goal.loop-k-preserved
loop-k-preserved c =
    let found = c.args.languages.now in
    let k = c.loop-k.k in
    let language = c.index-languages-k.result in
    let step : c.put_language.new.text ≡ c.loop-k.text ++ language_line (k + 1, shown language) =
    subst (λ (choice : List ℕ). c.put_language.new.text ≡ c.loop-k.text ++ language_line (k + 1, (choice, language.strata))) c.as_slice-choice.ensures c.in_ok-put_language.ensures.written
    in (
      rw (numbered_parts_more language_line shown found k language c.loop-k-test.true c.index-languages-k.is, step, c.loop-k.invariant.0)
          (append_assoc c.count_line.new.self (flat_map language_line (enumerate_from 1 (take k (map shown found)))) (language_line (k + 1, shown language))),
      c.in_ok-put_language.ensures.kept,
    )
