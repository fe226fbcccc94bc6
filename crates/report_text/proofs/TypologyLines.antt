-- The lines of languages, certificates and cuts are read.
use Rattle.std.proofs.Common.{◌≡◌, ℕ, zero, suc, ◌+◌, ◌≤◌, true, not, ◌&&◌, ◌==◌, List, [], ◌∷◌, ◌++◌, Ok, All, length, map, flat_map, decimal, get_or, nat_lt, codes, length-append, arith, refl, sym, ◌∙◌}
use Rattle.std.specs.Prelude.{slice_get}
use Rattle.std.specs.List.{enumerate_from}
use Rattle.std.specs.Option.{option_map_or}
use Rattle.std.proofs.lemmas.Bool.{and_parts, ltb-true, not-true, eqb-false, ne_eqb}
use Rattle.std.proofs.lemmas.List.{append_assoc, length-map, map-id}
use Rattle.std.proofs.lemmas.List.Elements.{All-head, All-tail, All-weaker}
use Rattle.std.proofs.lemmas.List.FromFn.{length-map-range_with_len}
use Rattle.ot_theory.specs.declared.Mark.{Mark}
use Rattle.ot_theory.specs.Conditions.{fusion, fused, mark_at}
use Rattle.ot_theory.specs.Languages.{Term, Loser, Given, classes_at, condition_of}
use Rattle.ot_theory.specs.Problems.{Problem, Input, givens}
use Rattle.ot_theory.specs.Refutations.{is_term}
use Rattle.violation_profiles.specs.WellFormed.{IsWellFormed, IsWellFormedInput, IsPrefix}
use Rattle.report_reader.specs.Grammar.{◌>>=◌, Reading, line_at, each_at, languages_at, certificates_at, cuts_at}
use Rattle.report_text.specs.Printable.{IsLanguage, IsCertificate, IsCut}
use Rattle.report_text.specs.Reports as reports
use Rattle.report_reader.specs.Shapes as shapes
use Rattle.report_text.specs.Spelling.{line, prefix, hierarchy, marks, terms}
use Rattle.report_text.proofs.Numerals.{NUMBER_LIMIT, place-decimal}
use Rattle.report_text.proofs.Parted.{lacks}
use Rattle.report_text.proofs.Lines.{lacks-decimal, line_at-value, count_line-joined, numbered-joined}
use Rattle.report_text.proofs.NumberedLines.{IsEachRead, each_at-all, lines-within}
use Rattle.report_text.proofs.Spelled.{AreCounts, AreClassNumbers, prefix_of-prefix, choice_of-prefix, prefix-lacks, are_marks-marks, marks-lack, IsTermOf, terms_of-terms, terms-lack}
use Rattle.report_text.proofs.Strata.{hierarchy_of-hierarchy, hierarchy-lacks}
use Rattle.report_text.proofs.Heads.{counts_of}

-- ---- a count, and so many numbered lines
pub block-read : {X : Type 0} (word : List ℕ) (item : ℕ → List ℕ → Reading X) (write : ℕ × X → List ℕ) (P : X → Type 0) → lacks 9 word ≡ true → lacks 10 word ≡ true
    → IsEachRead item write (λ x. x) P NUMBER_LIMIT → (xs : List X) → All P xs → length xs ≤ NUMBER_LIMIT → (rest : List ℕ)
    → (line_at (shapes.count_line word) ((line (word ∷ decimal (length xs) ∷ []) ++ flat_map write (enumerate_from 1 xs)) ++ rest) >>= λ number. each_at item 1 number.0 number.1) ≡ Ok (xs, rest)
block-read word item write P tabs ends read xs each few rest =
    let texts = word ∷ decimal (length xs) ∷ [] in
    let behind = flat_map write (enumerate_from 1 xs) in
    let first = line_at-value (shapes.count_line word) texts (behind ++ rest) (length xs) (rw (ends, lacks-decimal 10 (length xs) refl few) refl) (count_line-joined word (length xs) tabs few) in
    let others = rw (map-id xs) at (each_at-all item write (λ x. x) P NUMBER_LIMIT read xs 1 rest each (omega (arith, few))) in
    rw (append_assoc (line texts) behind rest, first) others

-- there are no more lines than bytes
pub block-within : {X : Type 0} (texts : List (List ℕ)) (write : ℕ × X → List ℕ) → ((p : ℕ × X) → 1 ≤ length (write p)) → (xs : List X) → length xs ≤ length (line texts ++ flat_map write (enumerate_from 1 xs))
block-within texts write some xs =
    let behind = flat_map write (enumerate_from 1 xs) in
    omega (arith, length-append (line texts) behind, lines-within write some xs 1)

-- ---- the numbers of classes by input
counts-small : (inputs : List Input) → All (λ input. length input.classes ≤ NUMBER_LIMIT) inputs → (i : ℕ) → get_or (counts_of inputs) i 0 ≤ NUMBER_LIMIT
counts-small [] each i = omega arith
counts-small (input ∷ inputs) each zero = All-head (λ (other : Input). length other.classes ≤ NUMBER_LIMIT) input inputs each
counts-small (input ∷ inputs) each (suc i) = counts-small inputs (All-tail (λ (other : Input). length other.classes ≤ NUMBER_LIMIT) input inputs each) i

count-at : (inputs : List Input) (i : ℕ) → get_or (counts_of inputs) i 0 ≡ length (option_map_or (λ (input : Input). input.classes) (slice_get inputs i) [])
count-at [] i = refl
count-at (input ∷ inputs) zero = refl
count-at (input ∷ inputs) (suc i) = count-at inputs i

pub are-counts : (problem : Problem) → IsWellFormed problem → AreCounts (counts_of problem.inputs)
are-counts problem h = record {
  few = omega (arith, length-map problem.inputs (λ (input : Input). length input.classes), h.inputs);
  small = counts-small problem.inputs (All-weaker (IsWellFormedInput problem.constraints) (λ input. length input.classes ≤ NUMBER_LIMIT) (λ input fits. omega (arith, fits.few)) problem.inputs h.each);
}

are-class-numbers : (problem : Problem) (numbers : List ℕ) → IsPrefix problem numbers → AreClassNumbers (counts_of problem.inputs) numbers
are-class-numbers problem numbers h = record {
  short = omega (arith, length-map problem.inputs (λ (input : Input). length input.classes), h.short);
  within = λ i below. omega (arith, count-at problem.inputs i, h.within i below);
}

is-term-of : (problem : Problem) (t : Term) → is_term problem t ≡ true → IsTermOf (counts_of problem.inputs) (length (givens problem)) t
is-term-of problem (Given k) h = ltb-true k (length (givens problem)) h
is-term-of problem (Loser i a b) h =
    let input = nat_lt i (length problem.inputs) in
    let winner = nat_lt a (length (classes_at problem i)) in
    let loser = nat_lt b (length (classes_at problem i)) in
    let last = and_parts (input && winner && loser) (not (b == a)) h in
    let third = and_parts (input && winner) loser last.0 in
    let first = and_parts input winner third.0 in
    let at = count-at problem.inputs i in
    record {
      input = omega (arith, ltb-true i (length problem.inputs) first.0, length-map problem.inputs (λ (input : Input). length input.classes));
      winner = omega (arith, ltb-true a (length (classes_at problem i)) first.1, at);
      loser = omega (arith, ltb-true b (length (classes_at problem i)) third.1, at);
      differ = ne_eqb a b (λ e. eqb-false b a (not-true (b == a) last.1) (sym e));
    }

-- ---- languages
language-read : (problem : Problem) → IsWellFormed problem → 1 ≤ problem.constraints
    → IsEachRead (λ k. line_at (shapes.language_line problem.constraints (counts_of problem.inputs) k)) (λ p. reports.language_line p.0 p.1) (λ language. language) (IsLanguage problem) NUMBER_LIMIT
language-read problem w some j language rest small h =
    let n = problem.constraints in
    let counts = counts_of problem.inputs in
    let bounds = are-counts problem w in
    let choice = language.0 in
    let levels = language.1 in
    let few : n ≤ NUMBER_LIMIT = omega (arith, w.constraints) in
    let wide : length levels ≤ NUMBER_LIMIT = omega (arith, few, h.hierarchy.width) in
    let numbers = are-class-numbers problem choice h.choice.prefix in
    let full : length choice ≡ length counts = h.choice.full ∙ sym (length-map problem.inputs (λ (input : Input). length input.classes)) in
    let value = numbered-joined (codes "language") j (prefix choice) (hierarchy levels) refl (prefix-lacks 9 refl refl refl counts choice bounds numbers) (hierarchy-lacks 9 refl refl refl levels wide) small in
    line_at-value (shapes.language_line n counts j) (codes "language" ∷ decimal j ∷ prefix choice ∷ hierarchy levels ∷ []) rest language
    (rw (lacks-decimal 10 j refl small, prefix-lacks 10 refl refl refl counts choice bounds numbers, hierarchy-lacks 10 refl refl refl levels wide) refl)
    (rw (value, choice_of-prefix counts choice bounds numbers full, hierarchy_of-hierarchy n levels some few h.hierarchy) refl)

pub languages-read : (problem : Problem) (languages : List (List ℕ × List ℕ)) (rest : List ℕ) → IsWellFormed problem → 1 ≤ problem.constraints → All (IsLanguage problem) languages → length languages ≤ NUMBER_LIMIT
    → languages_at problem.constraints (counts_of problem.inputs) (reports.language_lines languages ++ rest) ≡ Ok (languages, rest)
unfolding languages_at
languages-read problem languages rest w some each few =
    block-read (codes "languages") (λ k. line_at (shapes.language_line problem.constraints (counts_of problem.inputs) k)) (λ p. reports.language_line p.0 p.1) (IsLanguage problem) refl refl
    (language-read problem w some) languages each few rest

-- ---- certificates
fusion-wide : (n : ℕ) (set : List (List Mark)) → length (fusion n set) ≡ n
fusion-wide n set = length-map-range_with_len (λ c. fused (map (λ marks. mark_at marks c) set)) 0 n

certificate-read : (problem : Problem) → IsWellFormed problem
    → IsEachRead (λ k. line_at (shapes.certificate_line problem.constraints (counts_of problem.inputs) (length (givens problem)) k)) (λ p. reports.certificate_line problem p.0 p.1) (λ list. list) (IsCertificate problem) NUMBER_LIMIT
certificate-read problem w j list rest small h =
    let n = problem.constraints in
    let counts = counts_of problem.inputs in
    let bounds = are-counts problem w in
    let fusion_marks = fusion n (map (condition_of problem) list) in
    let each = All-weaker (λ t. is_term problem t ≡ true) (IsTermOf counts (length (givens problem))) (is-term-of problem) list h.each in
    let pairs : ℕ = length (givens problem) in
    let few_pairs : pairs ≤ NUMBER_LIMIT = omega (arith, w.few_pairs) in
    let value = numbered-joined (codes "certificate") j (marks fusion_marks) (terms list) refl (marks-lack 9 refl fusion_marks) (terms-lack 9 refl refl refl refl refl counts pairs list bounds few_pairs each) small in
    line_at-value (shapes.certificate_line n counts pairs j) (codes "certificate" ∷ decimal j ∷ marks fusion_marks ∷ terms list ∷ []) rest list
    (rw (lacks-decimal 10 j refl small, marks-lack 10 refl fusion_marks, terms-lack 10 refl refl refl refl refl counts pairs list bounds few_pairs each) refl)
    (rw (value, are_marks-marks n fusion_marks (fusion-wide n (map (condition_of problem) list))) (terms_of-terms counts pairs list h.some_term bounds few_pairs each))

pub certificates-read : (problem : Problem) (certificates : List (List Term)) (rest : List ℕ) → IsWellFormed problem → All (IsCertificate problem) certificates → length certificates ≤ NUMBER_LIMIT
    → certificates_at problem.constraints (counts_of problem.inputs) (length (givens problem)) (reports.certificate_lines problem certificates ++ rest) ≡ Ok (certificates, rest)
unfolding certificates_at
certificates-read problem certificates rest w each few =
    block-read (codes "certificates") (λ k. line_at (shapes.certificate_line problem.constraints (counts_of problem.inputs) (length (givens problem)) k)) (λ p. reports.certificate_line problem p.0 p.1) (IsCertificate problem) refl refl
    (certificate-read problem w) certificates each few rest

-- ---- cuts
cut-read : (problem : Problem) (certificates : ℕ) → IsWellFormed problem → certificates ≤ NUMBER_LIMIT
    → IsEachRead (λ k. line_at (shapes.cut_line (counts_of problem.inputs) certificates k)) (λ p. reports.cut_line p.0 p.1) (λ cut. cut) (IsCut problem certificates) NUMBER_LIMIT
cut-read problem certificates w few j cut rest small h =
    let counts = counts_of problem.inputs in
    let bounds = are-counts problem w in
    let numbers = are-class-numbers problem cut.0 h.prefix in
    let place_small : cut.1 + 1 ≤ NUMBER_LIMIT = omega (arith, h.named, few) in
    let value = numbered-joined (codes "cut") j (prefix cut.0) (decimal (cut.1 + 1)) refl (prefix-lacks 9 refl refl refl counts cut.0 bounds numbers) (lacks-decimal 9 (cut.1 + 1) refl place_small) small in
    line_at-value (shapes.cut_line counts certificates j) (codes "cut" ∷ decimal j ∷ prefix cut.0 ∷ decimal (cut.1 + 1) ∷ []) rest cut
    (rw (lacks-decimal 10 j refl small, prefix-lacks 10 refl refl refl counts cut.0 bounds numbers, lacks-decimal 10 (cut.1 + 1) refl place_small) refl)
    (rw (value, prefix_of-prefix counts cut.0 bounds numbers, place-decimal certificates cut.1 h.named few) refl)

pub cuts-read : (problem : Problem) (certificates : ℕ) (cuts : List (List ℕ × ℕ)) (rest : List ℕ) → IsWellFormed problem → certificates ≤ NUMBER_LIMIT → All (IsCut problem certificates) cuts → length cuts ≤ NUMBER_LIMIT
    → cuts_at (counts_of problem.inputs) certificates (reports.cut_lines cuts ++ rest) ≡ Ok (cuts, rest)
unfolding cuts_at
cuts-read problem certificates cuts rest w small each few =
    block-read (codes "cuts") (λ k. line_at (shapes.cut_line (counts_of problem.inputs) certificates k)) (λ p. reports.cut_line p.0 p.1) (IsCut problem certificates) refl refl
    (cut-read problem certificates w small) cuts each few rest
