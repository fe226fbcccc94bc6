-- Typologies that can be printed, and the law that their reports are read back.
use Rattle.std.specs.Prelude.{◌≡◌, ◌≤◌, ◌<◌, ℕ, Bool, true, not, ◌&&◌, ◌==◌, ⊤, List, length, map, fold, max, All, Contains, Option, Result, Ok, Err}
use Rattle.std.specs.List.{list_all}
use Rattle.ot_base.specs.Acceptable.{IsAcceptable}
use Rattle.ot_base.specs.declared.tableau.InputRows.{InputRows}
use Rattle.ot_base.specs.declared.tableau.Tableau.{Tableau}
use Rattle.ot_theory.specs.Languages.{Term, IsTypology}
use Rattle.ot_theory.specs.Problems.{Pair, Problem}
use Rattle.ot_theory.specs.Refutations as refutations
use Rattle.ot_theory.specs.Refutations.{is_term, is_contradiction}
use Rattle.refutation.specs.Typologies.{found_of, cuts_of, certificates_of}
use Rattle.refutation.specs.declared.typology.Typology.{Typology}
use Rattle.report_reader.specs.Grammar.{found, report_at, IsRead}
use Rattle.report_text.specs.Posed.{ArePairs, posed}
use Rattle.report_text.specs.Reports.{typology_report}
use Rattle.report_reader.specs.declared.reading.TheConstants.{REPORT_LIMIT}
use Rattle.report_reader.specs.declared.reading.TextError.{TextError}
use Rattle.report_reader.specs.declared.reading.TextError.TheVariants as errors
use Rattle.violation_profiles.specs.WellFormed.{IsPrefix}

-- a text without a tab, an LF and a CR
abbrev pub is_plain : List ℕ → Bool
is_plain text = list_all (λ b. not (b == 9) && not (b == 10) && not (b == 13)) text

-- an input whose text is plain, and the texts of its candidates
pub record IsPlainInput (rows : InputRows) : Type 0 where
  pub text : is_plain rows.text ≡ true
  pub candidates : All (λ row. is_plain row.text ≡ true) rows.candidates

-- a tableau whose texts are plain
pub record IsPlain (tableau : Tableau) : Type 0 where
  pub names : All (λ name. is_plain name ≡ true) tableau.names
  pub abbreviations : All (λ abbreviation. is_plain abbreviation ≡ true) tableau.abbrevs
  pub inputs : All IsPlainInput tableau.inputs

-- a class of each input
pub record IsFullChoice (problem : Problem) (choice : List ℕ) : Type 0 where
  pub full : length choice ≡ length problem.inputs
  pub prefix : IsPrefix problem choice

-- a hierarchy of n constraints, whose strata are numbered from 1 to the greatest, and none of them empty
pub record IsHierarchy (n : ℕ) (levels : List ℕ) : Type 0 where
  pub width : length levels ≡ n
  pub from_one : All (λ level. 1 ≤ level) levels
  pub used : (s : ℕ) → 1 ≤ s → s ≤ fold max 0 levels → Contains levels s

-- a language: a full choice beside its hierarchy
pub record IsLanguage (problem : Problem) (language : List ℕ × List ℕ) : Type 0 where
  pub choice : IsFullChoice problem language.0
  pub hierarchy : IsHierarchy problem.constraints language.1

-- a certificate: terms of the problem, at least one
pub record IsCertificate (problem : Problem) (terms : List Term) : Type 0 where
  pub some_term : 1 ≤ length terms
  pub each : All (λ term. is_term problem term ≡ true) terms

-- a cut: a prefix beside the place of one of so many certificates
pub record IsCut (problem : Problem) (certificates : ℕ) (cut : List ℕ × ℕ) : Type 0 where
  pub prefix : IsPrefix problem cut.0
  pub named : cut.1 < certificates

-- a typology whose report can be read: it need not be that of the problem
pub record IsPrintable (problem : Problem) (languages : List (List ℕ × List ℕ)) (certificates : List (List Term)) (cuts : List (List ℕ × ℕ)) : Type 0 where
  pub each_language : All (IsLanguage problem) languages
  pub each_certificate : All (IsCertificate problem) certificates
  pub each_cut : All (IsCut problem (length certificates)) cuts

-- What a search finds: the languages with their least hierarchies, all cuts, each with the place of a certificate, and
-- certificates that are contradictions.
pub record IsTypologyFound (problem : Problem) (languages : List (List ℕ × List ℕ)) (certificates : List (List Term)) (cuts : List (List ℕ × ℕ)) : Type 0 where
  pub typology : IsTypology problem languages
  pub all_cuts : map (λ cut. cut.0) cuts ≡ refutations.cuts problem
  pub genuine : All (λ terms. is_contradiction problem terms ≡ true) certificates
  pub named : All (λ cut. cut.1 < length certificates) cuts

-- Such a typology is printable.
abbrev pub IsPrintableWhereFound : Problem → List (List ℕ × List ℕ) → List (List Term) → List (List ℕ × ℕ) → Type 0
IsPrintableWhereFound problem languages certificates cuts = IsTypologyFound problem languages certificates cuts → IsPrintable problem languages certificates cuts

-- The report of a printable typology, of a tableau within the limits and with plain texts, and of given pairs where there are some, is
-- read as that typology, unless it is longer than can be read.
abbrev pub IsReadBack : Tableau → Option (List Pair) → List (List ℕ × List ℕ) → List (List Term) → List (List ℕ × ℕ) → Type 0
IsReadBack tableau given languages certificates cuts =
    IsAcceptable tableau → IsPlain tableau → ArePairs tableau given → IsPrintable (posed tableau given) languages certificates cuts
    → length (typology_report tableau (posed tableau given) languages certificates cuts) ≤ REPORT_LIMIT
    → report_at (typology_report tableau (posed tableau given) languages certificates cuts)
    ≡ Ok (record { languages = languages; certificates = certificates; cuts = cuts })

-- Reading gave this typology, or there was no memory: no line is bad.
abbrev pub IsThis : Typology → Result Typology TextError → Type 0
IsThis typology (Ok other) = found other ≡ found typology
IsThis typology (Err errors.NoMemory) = ⊤
IsThis typology (Err (errors.BadLine number)) = ⊥

-- What the call that reads reports answers to the report of a printable typology.
abbrev pub IsAnsweredBack : Tableau → Option (List Pair) → Typology → Result Typology TextError → Type 0
IsAnsweredBack tableau given typology answer =
    let languages = found_of typology.languages in
    let certificates = certificates_of typology.certificates in
    let cuts = cuts_of typology.cuts in
    let report = typology_report tableau (posed tableau given) languages certificates cuts in
    IsAcceptable tableau → IsPlain tableau → ArePairs tableau given → IsPrintable (posed tableau given) languages certificates cuts → length report ≤ REPORT_LIMIT
    → IsRead report answer → IsThis typology answer
