use Rattle.std.proofs.Common.{◌≡◌, ◌∙◌, ap, length, sym, ℕ, List}
use Rattle.std.proofs.lemmas.Result.{IfOk-weaker}
use Rattle.demonstration_file.specs.declared.TheConstants.{FILE_BYTES}
use Rattle.demonstration_file.proofs.Lengths.{length-file}
use Rattle.report_text.specs.Summary.{demo_report}
use Rattle.otsoft_run.specs.Answers.{IsDemoReport}
use Rattle.otsoft_run.specs.Searched.{report_of, summary_of}
use Rattle.otsoft_run.proofs.Demonstrated.{told}
use Rattle.otsoft_run.proofs.searches.demo_report.Goals as goal

pub returns-clause-right : goal.returns-clause-right
returns-clause-right c =
    let typology = c.args.typology.now in
    IfOk-weaker c.demo_text.result
    (λ (report : List ℕ). report ≡ demo_report c.args.number FILE_BYTES (length typology.languages) (length typology.certificates) (length typology.cuts) (length c.bytes.result.now))
    (IsDemoReport c.args.number c.args.posed.now)
    (λ report report_is.
    told c.args.number c.args.posed.now typology c.in_ok-whole.whole report c.requires.found.languages c.requires.found.all_cuts c.requires.found.all_certificates c.in_ok-whole.ensures.made
    (report_is ∙ ap (λ (bytes : List ℕ). demo_report c.args.number FILE_BYTES (length typology.languages) (length typology.certificates) (length typology.cuts) (length bytes)) c.bytes.ensures))
    c.demo_text.ensures

pub returns-clause-made : goal.returns-clause-made
returns-clause-made c =
    let typology = c.args.typology.now in
    let counts : ℕ → List ℕ → List ℕ = λ n whole. demo_report c.args.number n (length typology.languages) (length typology.certificates) (length typology.cuts) (length whole) in
    IfOk-weaker c.demo_text.result
    (λ (report : List ℕ). report ≡ counts FILE_BYTES c.bytes.result.now)
    (λ (report : List ℕ). report ≡ summary_of c.args.number c.args.posed.now typology)
    (λ report report_is. report_is ∙ ap (counts FILE_BYTES) (c.bytes.ensures ∙ c.in_ok-whole.ensures.made) ∙ ap (λ n. counts n (report_of c.args.posed.now typology)) (sym (length-file c.args.number)))
    c.demo_text.ensures
