-- The nodes that the conditions of a group lead to, and what is found of them.
use Rattle.std.specs.Prelude.{◌≡◌, ℕ, ◌==◌, Bool, true, false, List, [], ◌∷◌, ◌++◌, length, All, AllPairs, Contains}
use Rattle.std.specs.List.{list_all}
use Rattle.ot_theory.specs.declared.Mark.{Mark}
use Rattle.ot_theory.specs.Conditions.{fusion, has_both}
use Rattle.ot_theory.specs.Refutations.{no_ranking_keeps}
use Rattle.ot_theory.proofs.Sets.{IsPart}
use Rattle.fusional_reduction.specs.declared.member.Member.{Member}
use Rattle.fusional_reduction.specs.Nodes.{IsNode, stands_below, is_kept, skeletal_form}
use Rattle.fusional_reduction.specs.Bases.{IsMember, comes_before}

-- whether a condition is over so many constraints
abbrev pub has_width : ℕ → List Mark → Bool
has_width n marks = length marks == n

-- conditions over n constraints, each with both W and L, that some ranking keeps
pub record IsGiven (n : ℕ) (set : List (List Mark)) : Type 0 where
  pub widths : list_all (has_width n) set ≡ true
  pub both : list_all has_both set ≡ true
  pub possible : no_ranking_keeps n set ≡ false

-- a node that a condition leads to: the condition stands in it, and in no node just below it
pub record IsEnd (n : ℕ) (node : List (List Mark)) (marks : List Mark) : Type 0 where
  pub stands : IsPart (marks ∷ []) node
  pub ends : stands_below n node marks ≡ false

-- the fusion of a node, with its skeletal form
abbrev pub member_of : ℕ → List (List Mark) → Member
member_of n node = record { informative = fusion n node; skeletal = skeletal_form n node }

-- the node that a condition leads to from this one, whose member is among those that are found, if it is kept
pub record Leads (n : ℕ) (node : List (List Mark)) (found : List Member) (marks : List Mark) : Type 0 where
  pub end : List (List Mark)
  pub is_node : IsNode n node end
  pub is_end : IsEnd n end marks
  pub is_found : is_kept n end ≡ true → Contains found (member_of n end)

-- Some members are added: each is of a node, and each condition of the group leads to a node whose member is added, if it is kept.
pub record IsVisited (n : ℕ) (node group : List (List Mark)) (old new : List Member) : Type 0 where
  pub added : List Member
  pub grown : new ≡ old ++ added
  pub members : All (λ member. IsMember n node member.informative member.skeletal) added
  pub leads : (it : List Mark) → IsPart (it ∷ []) group → Leads n node added it

-- Members of kept nodes, among them that of each kept node.
pub record AreFound (n : ℕ) (set : List (List Mark)) (found : List Member) : Type 0 where
  pub members : All (λ member. IsMember n set member.informative member.skeletal) found
  pub all : (node : List (List Mark)) → IsNode n set node → is_kept n node ≡ true → Contains found (member_of n node)

-- They are, each once, in the order of the informative marks.
pub record AreListed (n : ℕ) (set : List (List Mark)) (listed : List Member) : Type 0 where
  pub found : AreFound n set listed
  pub in_order : AllPairs (λ first second. comes_before first.informative second.informative ≡ true) listed
