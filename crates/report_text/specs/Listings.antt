-- The reports that list what all rankings have in common that keep the winners' conditions, as covers or as bases, and the
-- implications between outputs.
use Rattle.std.specs.Prelude.{ℕ, ◌+◌, ◌<◌, List, [], ◌∷◌, ◌++◌, length, slice_index_or, decimal, codes, flat_map, filter}
use Rattle.std.specs.List.{enumerate_from, zip}
use Rattle.erc_vectors.specs.declared.cover.Cover.{Cover}
use Rattle.ot_theory.specs.Conditions.{has_both}
use Rattle.ot_base.specs.declared.tableau.Tableau.{Tableau}
use Rattle.ot_theory.specs.declared.Mark.{Mark}
use Rattle.ot_theory.specs.Languages.{Term, condition_of}
use Rattle.ot_theory.specs.Problems.{Problem}
use Rattle.ot_theory.specs.Refutations.{terms_of_winners}
use Rattle.refutation.specs.declared.implication.Implication.{Implication}
use Rattle.report_text.specs.Spelling.{line, output, marks, term}
use Rattle.report_text.specs.Reports.{head, winner_lines}

-- two of n constraints
abbrev pub IsPair : ℕ → Cover → Type 0
IsPair n cover = (cover.above.0 < n) × (cover.below.0 < n)

-- the line of a cover: the upper and the lower constraint, by their numbers and then by their abbreviations
abbrev pub cover_line : List (List ℕ) → Cover → List ℕ
cover_line abbreviations cover =
    line (codes "cover" ∷ decimal (cover.above.0 + 1) ∷ decimal (cover.below.0 + 1)
    ∷ slice_index_or abbreviations cover.above.0 [] ∷ slice_index_or abbreviations cover.below.0 [] ∷ [])

-- the number of covers, and a line for each
abbrev pub cover_lines : List (List ℕ) → List Cover → List ℕ
cover_lines abbreviations covers = line (codes "covers" ∷ decimal (length covers) ∷ []) ++ flat_map (cover_line abbreviations) covers

-- The report of the covers of the winners' conditions.
unfoldable pub hasse_report : Tableau → Problem → List Cover → List ℕ
hasse_report tableau problem covers =
    head (codes "hasse") tableau problem
    ++ winner_lines problem
    ++ cover_lines tableau.abbrevs covers
    ++ line (codes "end" ∷ [])

-- the line of an implication: the implying output, and the implied one
abbrev pub implication_line : Implication → List ℕ
implication_line implication =
    line (codes "implication" ∷ output (implication.from_input.0 + 1) (implication.from_class.0 + 1)
    ∷ output (implication.to_input.0 + 1) (implication.to_class.0 + 1) ∷ [])

-- the number of implications, and a line for each
abbrev pub implication_lines : List Implication → List ℕ
implication_lines implications = line (codes "implications" ∷ decimal (length implications) ∷ []) ++ flat_map implication_line implications

-- The report of the implications between outputs, which asks for no winners.
unfoldable pub torder_report : Tableau → Problem → List Implication → List ℕ
torder_report tableau problem implications =
    head (codes "torder") tableau problem
    ++ implication_lines implications
    ++ line (codes "end" ∷ [])

-- the terms whose condition has both W and L
abbrev pub with_both : Problem → List Term → List Term
with_both problem list = filter (λ t. has_both (condition_of problem t)) list

-- those of the winners, in order of input and then of loser
abbrev pub nontrivial_terms : Problem → List Term
nontrivial_terms problem = with_both problem (terms_of_winners problem)

-- the line of a condition: its marks, and the term that it is the condition of
abbrev pub condition_line : Problem → ℕ → Term → List ℕ
condition_line problem k t = line (codes "condition" ∷ decimal k ∷ marks (condition_of problem t) ∷ term t ∷ [])

-- the number of terms, and a line for the condition of each
abbrev pub condition_lines : Problem → List Term → List ℕ
condition_lines problem list =
    line (codes "conditions" ∷ decimal (length list) ∷ []) ++ flat_map (λ (k, t). condition_line problem k t) (enumerate_from 1 list)

-- the line of a member: a member of the informative basis, and that of the skeletal basis at the same place
abbrev pub member_line : ℕ → List Mark × List Mark → List ℕ
member_line k member = line (codes "member" ∷ decimal k ∷ marks member.0 ∷ marks member.1 ∷ [])

-- the number of members of a basis, and a line for each
abbrev pub member_lines : List (List Mark) → List (List Mark) → List ℕ
member_lines informative skeletal =
    line (codes "members" ∷ decimal (length informative) ∷ []) ++ flat_map (λ (k, member). member_line k member) (enumerate_from 1 (zip informative skeletal))

-- The report of the winners' conditions and of an informative and a skeletal basis of them.
unfoldable pub bases_report : Tableau → Problem → List (List Mark) → List (List Mark) → List ℕ
bases_report tableau problem informative skeletal =
    head (codes "bases") tableau problem
    ++ winner_lines problem
    ++ condition_lines problem (nontrivial_terms problem)
    ++ member_lines informative skeletal
    ++ line (codes "end" ∷ [])
