-- The report of a printable typology is read as that typology.
use Rattle.std.proofs.Common.{◌≡◌, ℕ, ◌+◌, ◌≤◌, List, [], ◌∷◌, ◌++◌, Option, Some, None, Result, Ok, Err, length, map, flat_map, decimal, codes, length-append, append_assoc, arith, refl, sym, ap, ◌∙◌}
use Rattle.std.specs.List.{enumerate_from}
use Rattle.ot_base.specs.Acceptable.{IsAcceptable}
use Rattle.ot_base.specs.declared.tableau.Tableau.{Tableau}
use Rattle.ot_theory.specs.Conditions.{fusion}
use Rattle.ot_theory.specs.Languages.{Term, condition_of}
use Rattle.ot_theory.specs.Problems.{Pair, givens}
use Rattle.refutation.specs.declared.typology.Typology.{Typology}
use Rattle.report_reader.specs.Grammar.{found, IsRead, test_at, head_at, languages_at, certificates_at, cuts_at, report_at}
use Rattle.report_text.specs.Posed.{ArePairs, posed}
use Rattle.report_text.specs.Printable.{IsPlain, IsPrintable, IsThis}
use Rattle.report_text.specs.Reports.{head, language_line, language_lines, certificate_line, certificate_lines, cut_line, cut_lines, typology_report}
use Rattle.report_reader.specs.Shapes.{is_end}
use Rattle.report_text.specs.Spelling.{line, prefix, hierarchy, marks, terms}
use Rattle.report_reader.specs.declared.reading.TheConstants.{REPORT_LIMIT}
use Rattle.report_reader.specs.declared.reading.TextError.{TextError}
use Rattle.report_reader.specs.declared.reading.TextError.TheVariants as errors
use Rattle.violation_profiles.specs.WellFormed.{IsWellFormed}
use Rattle.violation_profiles.proofs.Acceptable.{IsWellFormed-problem_of}
use Rattle.report_text.proofs.Numerals.{NUMBER_LIMIT}
use Rattle.report_text.proofs.Heads.{counts_of, head-read, skips-languages}
use Rattle.report_text.proofs.NumberedLines.{line-some}
use Rattle.report_text.proofs.TypologyLines.{block-within, languages-read, certificates-read, cuts-read}

report-chain : (n : ℕ) (counts : List ℕ) (pairs : ℕ) (languages : List (List ℕ × List ℕ)) (certificates : List (List Term)) (cuts : List (List ℕ × ℕ)) (b0 b1 b2 b3 b4 : List ℕ)
    → head_at b0 ≡ Ok (((n, counts), pairs), b1) → languages_at n counts b1 ≡ Ok (languages, b2) → certificates_at n counts pairs b2 ≡ Ok (certificates, b3)
    → cuts_at counts (length certificates) b3 ≡ Ok (cuts, b4) → test_at is_end b4 ≡ Ok (tt, [])
    → report_at b0 ≡ Ok (record { languages = languages; certificates = certificates; cuts = cuts })
unfolding report_at
report-chain n counts pairs languages certificates cuts b0 b1 b2 b3 b4 h1 h2 h3 h4 h5 = rw (h1, h2, h3, h4, h5) refl

regrouped : (h l c k e : List ℕ) → ((((h ++ l) ++ c) ++ k) ++ e) ≡ h ++ (l ++ (c ++ (k ++ e)))
regrouped h l c k e = simp append_assoc

-- each part of a text is as long as the text at most
record AreWithin (limit : ℕ) (l c k : List ℕ) : Type 0 where
  first : length l ≤ limit
  second : length c ≤ limit
  third : length k ≤ limit

within : (limit : ℕ) (h l c k e : List ℕ) → length ((((h ++ l) ++ c) ++ k) ++ e) ≤ limit → AreWithin limit l c k
within limit h l c k e short =
    let one = length-append (((h ++ l) ++ c) ++ k) e in
    let two = length-append ((h ++ l) ++ c) k in
    let three = length-append (h ++ l) c in
    let four = length-append h l in
    record { first = omega arith; second = omega arith; third = omega arith }

-- with given pairs the problem is within the limits too
IsWellFormed-posed : (tableau : Tableau) (given : Option (List Pair)) → IsAcceptable tableau → ArePairs tableau given → IsWellFormed (posed tableau given)
IsWellFormed-posed tableau None h pairs = IsWellFormed-problem_of tableau h
IsWellFormed-posed tableau (Some list) h pairs =
    let w = IsWellFormed-problem_of tableau h in
    record { constraints = w.constraints; inputs = w.inputs; each = w.each; few_pairs = pairs.0; pairs = pairs.1 }

pub report-read : (tableau : Tableau) (given : Option (List Pair)) (languages : List (List ℕ × List ℕ)) (certificates : List (List Term)) (cuts : List (List ℕ × ℕ))
    → IsAcceptable tableau → IsPlain tableau → ArePairs tableau given → IsPrintable (posed tableau given) languages certificates cuts
    → length (typology_report tableau (posed tableau given) languages certificates cuts) ≤ REPORT_LIMIT
    → report_at (typology_report tableau (posed tableau given) languages certificates cuts) ≡ Ok (record { languages = languages; certificates = certificates; cuts = cuts })
unfolding typology_report
report-read tableau given languages certificates cuts h plain pairs printable short =
    let problem = posed tableau given in
    let n = problem.constraints in
    let counts = counts_of problem.inputs in
    let w = IsWellFormed-posed tableau given h pairs in
    let top = head (codes "typology") tableau problem in
    let l = language_lines languages in
    let c = certificate_lines problem certificates in
    let k = cut_lines cuts in
    let e = line (codes "end" ∷ []) in
    let parts = within REPORT_LIMIT top l c k e short in
    let few_languages : length languages ≤ NUMBER_LIMIT =
    omega (
      arith,
      parts.first,
      block-within {X = List ℕ × List ℕ} (codes "languages" ∷ decimal (length languages) ∷ []) (λ p. language_line p.0 p.1)
          (λ p. line-some (codes "language" ∷ decimal p.0 ∷ prefix p.1.0 ∷ hierarchy p.1.1 ∷ [])) languages,
    )
    in
    let few_certificates : length certificates ≤ NUMBER_LIMIT =
    omega (
      arith,
      parts.second,
      block-within {X = List Term} (codes "certificates" ∷ decimal (length certificates) ∷ []) (λ p. certificate_line problem p.0 p.1)
          (λ p. line-some (codes "certificate" ∷ decimal p.0 ∷ marks (fusion n (map (condition_of problem) p.1)) ∷ terms p.1 ∷ [])) certificates,
    )
    in
    let few_cuts : length cuts ≤ NUMBER_LIMIT =
    omega (
      arith,
      parts.third,
      block-within {X = List ℕ × ℕ} (codes "cuts" ∷ decimal (length cuts) ∷ []) (λ p. cut_line p.0 p.1)
          (λ p. line-some (codes "cut" ∷ decimal p.0 ∷ prefix p.1.0 ∷ decimal (p.1.1 + 1) ∷ [])) cuts,
    )
    in
    ap report_at (regrouped top l c k e)
    ∙ report-chain n counts (length (givens problem)) languages certificates cuts (top ++ (l ++ (c ++ (k ++ e)))) (l ++ (c ++ (k ++ e))) (c ++ (k ++ e)) (k ++ e) e
    (head-read tableau given (l ++ (c ++ (k ++ e))) h plain pairs (skips-languages (length languages) (flat_map (λ p. language_line p.0 p.1) (enumerate_from 1 languages)) (c ++ (k ++ e)) few_languages))
    (languages-read problem languages (c ++ (k ++ e)) w h.some_name printable.each_language few_languages)
    (certificates-read problem certificates (k ++ e) w printable.each_certificate few_certificates)
    (cuts-read problem (length certificates) cuts e w few_certificates printable.each_cut few_cuts)
    refl

-- what was read is found, where the whole report gives it
pub answer-from_report : (typology : Typology) (report : List ℕ) (answer : Result Typology TextError) → report_at report ≡ Ok (found typology) → IsRead report answer → IsThis typology answer
answer-from_report typology report (Ok other) whole read = let same = sym read ∙ whole in cc
answer-from_report typology report (Err errors.NoMemory) whole read = tt
answer-from_report typology report (Err (errors.BadLine number)) whole read = absurd (let same = sym read.1 ∙ whole in cc)
