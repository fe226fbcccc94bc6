-- Nodes: the parts of a set of conditions that fusional reduction fuses, and which of their fusions are kept.
use Rattle.std.specs.Prelude.{◌≡◌, ◌<◌, ◌==◌, ℕ, Bool, true, not, ◌&&◌, List, [], ◌∷◌, map, length, filter, if◌then◌else◌}
use Rattle.std.specs.List.{list_any}
use Rattle.ot_theory.specs.declared.Mark.{Mark}
use Rattle.ot_theory.specs.declared.Mark.TheVariants.{E}
use Rattle.ot_theory.specs.Rankings.{numbers_below}
use Rattle.ot_theory.specs.Conditions.{mark_at, is_win, is_loss, is_even, fusion}
use Rattle.ot_theory.specs.Entailment.{entails}

abbrev pub is_even_at : ℕ → List Mark → Bool
is_even_at k marks = is_even (mark_at marks k)

-- the conditions with e at a constraint
abbrev pub even_part : ℕ → List (List Mark) → List (List Mark)
even_part k node = filter (is_even_at k) node

-- The nodes of a set of conditions over n constraints are the smallest collection that has the whole set, if it is not empty, and,
-- for each node whose fusion has W at k, the conditions of the node with e at k, if there are any.
pub data IsNode (n : ℕ) (set : List (List Mark)) : List (List Mark) → Type 0 where
  whole : 0 < length set → IsNode n set set
  below : (node : List (List Mark)) (k : ℕ) → IsNode n set node → is_win (mark_at (fusion n node) k) ≡ true → 0 < length (even_part k node) → IsNode n set (even_part k node)

-- whether a condition of a node stands in a node just below it
abbrev pub stands_below : ℕ → List (List Mark) → List Mark → Bool
stands_below n node marks = list_any (λ k. is_win (mark_at (fusion n node) k) && is_even_at k marks) (numbers_below n)

-- The residue of a node is the union of the nodes just below it.
unfoldable pub residue : ℕ → List (List Mark) → List (List Mark)
residue n node = filter (stands_below n node) node

-- The fusion of a node is kept unless the residue is not empty and the residue's fusion entails it.
unfoldable pub is_kept : ℕ → List (List Mark) → Bool
is_kept n node = not (not (length (residue n node) == 0) && entails n (fusion n (residue n node) ∷ []) (fusion n node))

-- e in place of an L that the residue's fusion has too
abbrev pub skeletal_mark : Mark → Mark → Mark
skeletal_mark mark of_residue = if is_loss mark && is_loss of_residue then E else mark

-- The skeletal form of a node's fusion has e in place of each L that the residue's fusion has too.
unfoldable pub skeletal_form : ℕ → List (List Mark) → List Mark
skeletal_form n node = map (λ c. skeletal_mark (mark_at (fusion n node) c) (mark_at (fusion n (residue n node)) c)) (numbers_below n)
