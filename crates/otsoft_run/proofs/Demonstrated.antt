-- The demonstration file is accepted, and what is told of it.
use Rattle.std.proofs.Common.{◌≡◌, ℕ, ◌+◌, List, take, take_all, length, Err, sym, ap, ◌∙◌, arith}
use Rattle.std.proofs.lemmas.List.{length-map}
use Rattle.ot_theory.specs.Languages.{IsTypology}
use Rattle.ot_theory.specs.Refutations.{certificate_named, certificates, cuts}
use Rattle.refutation.specs.Terms.{terms_in}
use Rattle.refutation.specs.Typologies.{certificates_of, cuts_of, found_of}
use Rattle.refutation.specs.declared.contradiction.Contradiction.{Contradiction}
use Rattle.refutation.specs.declared.typology.Cut.{Cut}
use Rattle.refutation.specs.declared.typology.Language.{Language}
use Rattle.refutation.specs.declared.typology.Typology.{Typology}
use Rattle.tableau_file.specs.Reading.{reading}
use Rattle.tableau_file.specs.declared.FileRefusal.{FileRefusal}
use Rattle.tableau_file.specs.declared.limits.TheConstants.{FILE_LIMIT}
use Rattle.demonstration_file.specs.declared.TheConstants.{FILE_BYTES}
use Rattle.demonstration_file.specs.Demonstration.{demonstration_file}
use Rattle.demonstration_file.proofs.Lengths.{length-file}
use Rattle.demonstration_file.proofs.Accepted.{accepted}
use Rattle.report_text.specs.Reports.{typology_report}
use Rattle.report_text.specs.Summary.{demo_report}
use Rattle.otsoft_run.specs.declared.judging.Posed.{Posed}
use Rattle.otsoft_run.specs.Answers.{IsDemoReport, named_cuts}

-- all of it is read
pub whole_file : (number : ℕ) → demonstration_file number ≡ take (FILE_LIMIT + 1) (demonstration_file number)
whole_file number = sym (take_all (FILE_LIMIT + 1) (demonstration_file number) (omega (arith, length-file number)))

pub never_refused : (number : ℕ) (read : List ℕ) (fault : FileRefusal) → read ≡ demonstration_file number
    → ((bytes : List ℕ) → read ≡ take (FILE_LIMIT + 1) bytes → reading bytes ≡ Err fault) → ⊥
never_refused number read fault is wrong =
    let refused : reading (demonstration_file number) ≡ Err fault = wrong (demonstration_file number) (is ∙ whole_file number) in
    let both = sym (accepted number) ∙ refused in cc

-- the counts of the typology that was found are those of the problem
pub told : (number : ℕ) (posed : Posed) (typology : Typology) (whole report : List ℕ)
    → IsTypology posed.problem (found_of typology.languages) → cuts_of typology.cuts ≡ named_cuts posed.problem → certificates_of typology.certificates ≡ certificates posed.problem
    → whole ≡ typology_report posed.tableau posed.problem (found_of typology.languages) (certificates_of typology.certificates) (cuts_of typology.cuts)
    → report ≡ demo_report number FILE_BYTES (length typology.languages) (length typology.certificates) (length typology.cuts) (length whole)
    → IsDemoReport number posed report
told number posed typology whole report languages all_cuts all_certificates whole_is report_is =
    let found = found_of typology.languages in
    let bytes : FILE_BYTES ≡ length (demonstration_file number) = sym (length-file number) in
    let some : length typology.languages ≡ length found = sym (length-map typology.languages (λ (language : Language). (language.choice, language.strata))) in
    let named : length typology.certificates ≡ length (certificates posed.problem) =
    sym (length-map typology.certificates (λ (certificate : Contradiction). terms_in certificate.terms)) ∙ ap length all_certificates
    in
    let cut : length typology.cuts ≡ length (cuts posed.problem) =
    sym (length-map typology.cuts (λ (c : Cut). (c.prefix, c.certificate))) ∙ ap length all_cuts ∙ length-map (cuts posed.problem) (λ (c : List ℕ). (c, certificate_named posed.problem c))
    in
    record {
      found = found;
      typology = languages;
      whole = whole;
      whole_is = whole_is
          ∙ ap (λ listed. typology_report posed.tableau posed.problem found listed (cuts_of typology.cuts)) all_certificates
          ∙ ap (λ listed. typology_report posed.tableau posed.problem found (certificates posed.problem) listed) all_cuts;
      text = report_is
          ∙ ap (λ n. demo_report number n (length typology.languages) (length typology.certificates) (length typology.cuts) (length whole)) bytes
          ∙ ap (λ n. demo_report number (length (demonstration_file number)) n (length typology.certificates) (length typology.cuts) (length whole)) some
          ∙ ap (λ n. demo_report number (length (demonstration_file number)) (length found) n (length typology.cuts) (length whole)) named
          ∙ ap (λ n. demo_report number (length (demonstration_file number)) (length found) (length (certificates posed.problem)) n (length whole)) cut;
    }
