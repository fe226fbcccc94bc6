-- The texts of reports: what every report begins with, the reports of one ranking of the winners, and that of a typology.
use Rattle.std.specs.Prelude.{ℕ, ◌+◌, Bool, true, false, not, List, [], ◌∷◌, ◌++◌, map, length, slice_index, slice_index_or, decimal, codes, flat_map, filter, find, ◌==◌, Option, Some, None, if◌then◌else◌}
use Rattle.std.specs.List.{enumerate_from, zip, range_with_len}
use Rattle.std.specs.Option.{option_map_or}
use Rattle.ot_base.specs.declared.tableau.Tableau.{Tableau}
use Rattle.ot_base.specs.declared.tableau.InputRows.{InputRows}
use Rattle.ot_theory.specs.Conditions.{fusion}
use Rattle.ot_theory.specs.Hierarchies.{in_stratum, order_along}
use Rattle.ot_theory.specs.Languages.{Term, condition_of}
use Rattle.ot_theory.specs.Problems.{Problem, Input, Pair, same_profile}
use Rattle.report_text.specs.Spelling.{line, spaced, output, stratum, stratum_count, hierarchy, prefix, winner, marks, terms}

abbrev pub title : List ℕ → List ℕ
title command = line (codes "otsoft report 1" ∷ command ∷ [])

abbrev pub constraint_lines : Tableau → List ℕ
constraint_lines tableau =
    line (codes "constraints" ∷ decimal (length tableau.names) ∷ [])
    ++ flat_map (λ (k, names). line (codes "constraint" ∷ decimal k ∷ names.0 ∷ names.1 ∷ []))
    (enumerate_from 1 (zip tableau.abbrevs tableau.names))

-- the texts of the candidates with this profile, in file order
abbrev pub members : InputRows → List ℕ → List (List ℕ)
members rows profile = map (λ row. row.text) (filter (λ row. same_profile profile row.violations) rows.candidates)

-- the text of the candidate at a position
abbrev pub text_at : InputRows → ℕ → List ℕ
text_at rows k = slice_index_or (map (λ row. row.text) rows.candidates) k []

abbrev pub class_line : ℕ → InputRows → ℕ → List ℕ → List ℕ
class_line i rows a profile =
    line (codes "class" ∷ output i a ∷ spaced profile ∷ members rows profile)

-- an input, of which the rows give the texts and the classes the profiles
abbrev pub input_lines : ℕ → InputRows → Input → List ℕ
input_lines i rows input =
    line (codes "input" ∷ decimal i ∷ rows.text ∷ decimal (length input.classes) ∷ [])
    ++ flat_map (λ (a, profile). class_line i rows a profile) (enumerate_from 1 input.classes)

-- the line of a given pair: its number, and those of its upper and its lower constraint, all counted from 1
abbrev pub given_line : ℕ → Pair → List ℕ
given_line k pair = line (codes "given" ∷ decimal k ∷ decimal (pair.above + 1) ∷ decimal (pair.below + 1) ∷ [])

-- the number of given pairs, and a line for each
abbrev pub pair_lines : List Pair → List ℕ
pair_lines pairs =
    line (codes "givens" ∷ decimal (length pairs) ∷ []) ++ flat_map (λ (k, pair). given_line k pair) (enumerate_from 1 pairs)

-- the same where pairs were given, of which there may be none
abbrev pub given_lines : Problem → List ℕ
given_lines problem = option_map_or pair_lines problem.given []

-- what every report begins with
unfoldable pub head : List ℕ → Tableau → Problem → List ℕ
head command tableau problem =
    title command
    ++ constraint_lines tableau
    ++ line (codes "inputs" ∷ decimal (length tableau.inputs) ∷ [])
    ++ flat_map (λ (i, input). input_lines i input.0 input.1) (enumerate_from 1 (zip tableau.inputs problem.inputs))
    ++ given_lines problem

-- the winner of each input, or that it has none
abbrev pub winner_lines : Problem → List ℕ
winner_lines problem =
    flat_map (λ (i, input). line (codes "winner" ∷ decimal i ∷ winner input.winner ∷ [])) (enumerate_from 1 problem.inputs)

-- The line of a stratum: its number, its constraints, and the abbreviation of each of them as a field of its own.
abbrev pub stratum_line : List (List ℕ) → List ℕ → ℕ → List ℕ
stratum_line abbreviations levels s =
    line (codes "stratum" ∷ decimal s ∷ spaced (stratum levels s) ∷ map (λ c. slice_index_or abbreviations c []) (in_stratum levels s))

-- the number of strata, and a line for each from the highest on
abbrev pub strata_lines : List (List ℕ) → List ℕ → List ℕ
strata_lines abbreviations levels =
    line (codes "strata" ∷ decimal (stratum_count levels) ∷ [])
    ++ flat_map (stratum_line abbreviations levels) (range_with_len 1 (stratum_count levels))

-- the line of the r-measure, where there is one
abbrev pub measure_line : Option ℕ → List ℕ
measure_line None = []
measure_line (Some measure) = line (codes "rmeasure" ∷ decimal measure ∷ [])

-- the first constraint of the order on which a profile differs from the winner's, where it is fatal
abbrev pub fatal : List ℕ → List ℕ → List ℕ → Option ℕ
fatal order winning profile = find (λ c. not (slice_index profile c == slice_index winning c)) order

-- the violation of a constraint, and behind it a mark where it is fatal
abbrev pub violation : List ℕ → Option ℕ → ℕ → List ℕ
violation profile fatal c = decimal (slice_index profile c) ++ (if option_map_or (λ d. d == c) fatal false then codes "!" else [])

-- the sign of the winner, and that of another class
abbrev pub sign : Bool → List ℕ
sign true = codes ">"
sign false = codes "-"

-- the line of a class: its number, whether it is the winner, and its violations in the order of the ranking
abbrev pub row_line : List ℕ → ℕ → List ℕ → ℕ → List ℕ → List ℕ
row_line order w winning a profile =
    line (codes "row" ∷ decimal (a + 1) ∷ sign (a == w) ∷ map (violation profile (fatal order winning profile)) order)

-- the tableau of an input with these classes and the winner w
abbrev pub tableau_lines : List ℕ → ℕ → InputRows → List (List ℕ) → ℕ → List ℕ
tableau_lines order i rows classes w =
    line (codes "tableau" ∷ decimal i ∷ rows.text ∷ [])
    ++ line (codes "order" ∷ map (λ c. decimal (c + 1)) order)
    ++ flat_map (λ (a, profile). row_line order w (slice_index_or classes w []) a profile) (enumerate_from 0 classes)

-- the tableaux of the inputs that have a winner, in file order
abbrev pub tableaux : List ℕ → Tableau → Problem → List ℕ
tableaux order tableau problem =
    flat_map (λ (i, input). option_map_or (tableau_lines order i input.0 input.1.classes) input.1.winner []) (enumerate_from 1 (zip tableau.inputs problem.inputs))

-- The report of a hierarchy that satisfies the conditions of the winners, with its r-measure where it was asked for.
unfoldable pub rank_report : Tableau → Problem → List ℕ → Option ℕ → List ℕ
rank_report tableau problem levels measure =
    head (codes "rank") tableau problem
    ++ winner_lines problem
    ++ strata_lines tableau.abbrevs levels
    ++ measure_line measure
    ++ tableaux (order_along levels) tableau problem
    ++ line (codes "end" ∷ [])

-- the fusion of the conditions of terms, and the terms
abbrev pub contradiction_line : Problem → List Term → List ℕ
contradiction_line problem list =
    line (codes "contradiction" ∷ marks (fusion problem.constraints (map (condition_of problem) list)) ∷ terms list ∷ [])

-- The report of a command where no ranking keeps the conditions of the winners, as these terms show.
unfoldable pub contradiction_report : List ℕ → Tableau → Problem → List Term → List ℕ
contradiction_report command tableau problem list =
    head command tableau problem
    ++ winner_lines problem
    ++ contradiction_line problem list
    ++ line (codes "end" ∷ [])

-- the line of a language, a choice beside its hierarchy
abbrev pub language_line : ℕ → List ℕ × List ℕ → List ℕ
language_line k language = line (codes "language" ∷ decimal k ∷ prefix language.0 ∷ hierarchy language.1 ∷ [])

-- the number of languages, and a line for each
abbrev pub language_lines : List (List ℕ × List ℕ) → List ℕ
language_lines languages =
    line (codes "languages" ∷ decimal (length languages) ∷ []) ++ flat_map (λ (k, language). language_line k language) (enumerate_from 1 languages)

-- the line of a certificate: the fusion of the conditions of its terms, and the terms
abbrev pub certificate_line : Problem → ℕ → List Term → List ℕ
certificate_line problem k list =
    line (codes "certificate" ∷ decimal k ∷ marks (fusion problem.constraints (map (condition_of problem) list)) ∷ terms list ∷ [])

-- the number of certificates, and a line for each
abbrev pub certificate_lines : Problem → List (List Term) → List ℕ
certificate_lines problem certificates =
    line (codes "certificates" ∷ decimal (length certificates) ∷ [])
    ++ flat_map (λ (k, list). certificate_line problem k list) (enumerate_from 1 certificates)

-- the line of a cut, a prefix beside the place of its certificate, which is counted from 1 here
abbrev pub cut_line : ℕ → List ℕ × ℕ → List ℕ
cut_line k cut = line (codes "cut" ∷ decimal k ∷ prefix cut.0 ∷ decimal (cut.1 + 1) ∷ [])

-- the number of cuts, and a line for each
abbrev pub cut_lines : List (List ℕ × ℕ) → List ℕ
cut_lines cuts = line (codes "cuts" ∷ decimal (length cuts) ∷ []) ++ flat_map (λ (k, cut). cut_line k cut) (enumerate_from 1 cuts)

-- The report of a typology: its languages, each a choice beside its hierarchy, its certificates, and its cuts, each a
-- prefix beside the place of its certificate.
unfoldable pub typology_report : Tableau → Problem → List (List ℕ × List ℕ) → List (List Term) → List (List ℕ × ℕ) → List ℕ
typology_report tableau problem languages certificates cuts =
    head (codes "typology") tableau problem
    ++ language_lines languages
    ++ certificate_lines problem certificates
    ++ cut_lines cuts
    ++ line (codes "end" ∷ [])
