-- The informative and the skeletal basis of a set of conditions.
use Rattle.std.specs.Prelude.{◌≡◌, ◌<◌, ℕ, Bool, true, List, [], map, length, slice_index_or, AllPairs}
use Rattle.std.specs.Ordering.{is_lt, nat_cmp}
use Rattle.std.specs.Cmp.Lexicographic.{slice_cmp}
use Rattle.ot_theory.specs.declared.Mark.{Mark}
use Rattle.ot_theory.specs.declared.Mark.TheVariants.{W, L, E}
use Rattle.ot_theory.specs.Conditions.{fusion}
use Rattle.fusional_reduction.specs.Nodes.{IsNode, is_kept, skeletal_form}

-- W comes before e, and e before L.
abbrev pub place_of : Mark → ℕ
place_of W = 0
place_of E = 1
place_of L = 2

-- One list of marks comes before another where it has the earlier mark at the first constraint on which they differ.
abbrev pub comes_before : List Mark → List Mark → Bool
comes_before marks others = is_lt (slice_cmp nat_cmp (map place_of marks) (map place_of others))

-- The fusion of a node that is kept, and its skeletal form.
pub record IsMember (n : ℕ) (set : List (List Mark)) (informative skeletal : List Mark) : Type 0 where
  pub node : List (List Mark)
  pub is_node : IsNode n set node
  pub kept : is_kept n node ≡ true
  pub is_fusion : informative ≡ fusion n node
  pub is_form : skeletal ≡ skeletal_form n node

-- a place at which two lists have these forms of a node
pub record StandAt (n : ℕ) (node informative skeletal : List (List Mark)) : Type 0 where
  pub place : ℕ
  pub within : place < length informative
  pub is_fusion : slice_index_or informative place [] ≡ fusion n node
  pub is_form : slice_index_or skeletal place [] ≡ skeletal_form n node

-- The informative basis is the set of the kept fusions, and the skeletal basis has their skeletal forms; both are listed in
-- the order of the informative marks.
pub record AreBases (n : ℕ) (set informative skeletal : List (List Mark)) : Type 0 where
  pub same_length : length skeletal ≡ length informative
  pub each : (k : ℕ) → k < length informative → IsMember n set (slice_index_or informative k []) (slice_index_or skeletal k [])
  pub all : (node : List (List Mark)) → IsNode n set node → is_kept n node ≡ true → StandAt n node informative skeletal
  pub in_order : AllPairs (λ first second. comes_before first second ≡ true) informative
