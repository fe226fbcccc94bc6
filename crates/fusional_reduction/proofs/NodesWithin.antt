-- Which conditions lie within a node, and that a node is known by its conditions, and by its fusion.
use Rattle.std.proofs.Common.{◌≡◌, ◌⊎◌, ℕ, ◌<◌, List, [], ◌∷◌, Bool, true, false, ◌&&◌, arith, refl, sym, ◌∙◌, ap, cond, inl, inr, length}
use Rattle.std.specs.Prelude.{filter}
use Rattle.std.specs.List.{list_all, list_any}
use Rattle.std.proofs.lemmas.Bool.{and_parts, and_from, cases_Bool, false_from_ne_true}
use Rattle.ot_theory.specs.declared.Mark.{Mark}
use Rattle.ot_theory.specs.Conditions.{mark_at, is_win, is_loss, is_even, fusion}
use Rattle.ot_theory.proofs.Strata.{range-any}
use Rattle.ot_theory.proofs.Sets.{IsPart, IsPart-filter, both_ways}
use Rattle.fusional_reduction.specs.Visits.{IsEnd}
use Rattle.fusional_reduction.specs.Nodes.{IsNode, is_even_at, even_part, stands_below, residue}
use Rattle.fusional_reduction.specs.Nodes.IsNode.{whole, below}
use Rattle.fusional_reduction.proofs.Fusions.{win_at, loss_at, fusion-win, win-fusion, fusion-even, even-fusion, even-all, all-even, none-part, part-trans, part-filter, all-filter, all-if_then, if_then, it-passes, win-left, not_both, fusion-loss, all-each}

pub part-same : (set : List (List Mark)) → IsPart set set
part-same set p h = h

pub node-part : (n : ℕ) (set node : List (List Mark)) → IsNode n set node → IsPart node set
node-part n set node (whole some) = part-same set
node-part n set node (below above k is_node win some) = part-trans (even_part k above) above set (IsPart-filter (is_even_at k) above) (node-part n set above is_node)

pub node-some : (n : ℕ) (set node : List (List Mark)) → IsNode n set node → 0 < length node
node-some n set node (whole some) = some
node-some n set node (below above k is_node win some) = some

-- Conditions of the set lie within a node if they have no W at any constraint below which the node stands: they have no L there
-- either, since the node above has none.
pub part-within : (n : ℕ) (set node part : List (List Mark)) → IsNode n set node → IsPart part set
    → ((above : List (List Mark)) (k : ℕ) → IsPart part above → is_win (mark_at (fusion n above) k) ≡ true → list_all (is_even_at k) node ≡ true → list_any (win_at k) part ≡ false)
    → IsPart part node
part-within n set node part (whole some) within no_win = within
part-within n set node part (below above k is_node win some) within no_win =
    let up : IsPart part above = part-within n set above part is_node within (λ upper j up w all. no_win upper j up w (IsPart-filter (is_even_at k) above (is_even_at j) all)) in
    let w = fusion-win n above k win in
    part-filter (is_even_at k) part above up (even-all k part (record {
      no_loss = none-part (loss_at k) part above up w.no_loss;
      no_win = no_win above k up win (all-filter (is_even_at k) above);
    }))

-- ---- a node is known by its conditions
pub record Tested (set node : List (List Mark)) : Type 0 where
  pub test : List Mark → Bool
  pub is : node ≡ filter test set

filter-all_of : (set : List (List Mark)) → filter (λ m. true) set ≡ set
filter-all_of [] = refl
filter-all_of (m ∷ set) = ap (λ (l : List (List Mark)). m ∷ l) (filter-all_of set)

filter-filter : (p q : List Mark → Bool) (set : List (List Mark)) → filter q (filter p set) ≡ filter (λ m. p m && q m) set
filter-filter p q [] = refl
filter-filter p q (m ∷ set) = elim (cases_Bool (p m)) [
  | inl here ↦ rw here (ap (λ (l : List (List Mark)). cond (q m) (m ∷ l) l) (filter-filter p q set))
  | inr out ↦ rw out (filter-filter p q set)
]

pub node-tested : (n : ℕ) (set node : List (List Mark)) → IsNode n set node → Tested set node
node-tested n set node (whole some) = record { test = λ m. true; is = sym (filter-all_of set) }
node-tested n set node (below above k is_node win some) =
    let t = node-tested n set above is_node in
    record { test = λ m. t.test m && is_even_at k m; is = ap (even_part k) t.is ∙ filter-filter t.test (is_even_at k) set }

filter-same : (p q : List Mark → Bool) (set : List (List Mark)) → list_all (if_then p q) set ≡ true → list_all (if_then q p) set ≡ true → filter p set ≡ filter q set
filter-same p q [] h k = refl
filter-same p q (m ∷ set) h k =
    let hs = and_parts (if_then p q m) (list_all (if_then p q) set) h in
    let ks = and_parts (if_then q p m) (list_all (if_then q p) set) k in
    let same : p m ≡ q m = both_ways _ _ (λ e. rw e at hs.0) (λ e. rw e at ks.0) in
    rw (same, filter-same p q set hs.1 ks.1) refl

same-tests : (set node other : List (List Mark)) (p q : List Mark → Bool) → node ≡ filter p set → other ≡ filter q set → IsPart node other → IsPart other node → node ≡ other
same-tests set node other p q d e h k =
    d ∙ filter-same p q set
    (all-if_then p q set (sym (ap (list_all q) d) ∙ h q (ap (list_all q) e ∙ all-filter q set)))
    (all-if_then q p set (sym (ap (list_all p) e) ∙ k p (ap (list_all p) d ∙ all-filter p set)))
    ∙ sym e

pub same-node : (n : ℕ) (set node other : List (List Mark)) → IsNode n set node → IsNode n set other → IsPart node other → IsPart other node → node ≡ other
same-node n set node other a b h k =
    let s = node-tested n set node a in
    let t = node-tested n set other b in
    same-tests set node other s.test t.test s.is t.is h k

-- A node is known by its fusion.
pub fusion-within : (n : ℕ) (set node other : List (List Mark)) → IsNode n set node → IsNode n set other → fusion n node ≡ fusion n other → IsPart other node
fusion-within n set node other a b e = part-within n set node other a (node-part n set other b) (λ above k up win all.
    let w = fusion-win n above k win in
    let even : is_even (mark_at (fusion n other) k) ≡ true = rw e at (even-fusion n node k (all-even k node all)) in
    (fusion-even n other k w.below even).no_win)

pub same-fusion : (n : ℕ) (set node other : List (List Mark)) → IsNode n set node → IsNode n set other → fusion n node ≡ fusion n other → node ≡ other
same-fusion n set node other a b e = same-node n set node other a b (fusion-within n set other node b a (sym e)) (fusion-within n set node other a b e)

-- ---- a node that a member leads to: the member stands in it, and in no node just below it
-- a constraint at which the fusion has W and the condition e tells that it stands below
pub below-at : (n : ℕ) (node : List (List Mark)) (marks : List Mark) (k : ℕ) → k < n → is_win (mark_at (fusion n node) k) ≡ true → is_even_at k marks ≡ true → stands_below n node marks ≡ true
below-at n node marks k small win even = range-any (λ k. is_win (mark_at (fusion n node) k) && is_even_at k marks) 0 n k (omega arith) (omega arith) (and_from _ _ win even)

end-within : (n : ℕ) (set node other : List (List Mark)) (marks : List Mark) → IsNode n set node → IsNode n set other → IsEnd n node marks → IsEnd n other marks → IsPart other node
end-within n set node other marks a b h k = part-within n set node other a (node-part n set other b) (λ above j up win all.
    let w = fusion-win n above j win in
    false_from_ne_true _ (λ some.
    let wins = win-fusion n other j w.below (none-part (loss_at j) other above up w.no_loss) some in
    not_both (below-at n other marks j w.below wins (it-passes (is_even_at j) marks node h.stands all)) k.ends))

-- A member leads to one node.
pub same-end : (n : ℕ) (set node other : List (List Mark)) (marks : List Mark) → IsNode n set node → IsNode n set other → IsEnd n node marks → IsEnd n other marks → node ≡ other
same-end n set node other marks a b h k = same-node n set node other a b (end-within n set other node marks b a k h) (end-within n set node other marks a b h k)

-- ---- a node within another
pub residue-part : (n : ℕ) (node : List (List Mark)) → IsPart (residue n node) node
unfolding residue
residue-part n node = IsPart-filter (stands_below n node) node

pub all-residue : (n : ℕ) (node : List (List Mark)) → list_all (stands_below n node) (residue n node) ≡ true
unfolding residue
all-residue n node = all-filter (stands_below n node) node

-- what lies within the node lies in its residue, if it lies within this set
abbrev pub IsInResidue : ℕ → List (List Mark) → List (List Mark) → Type 0
IsInResidue n node above = (part : List (List Mark)) → IsPart part above → IsPart part node → IsPart part (residue n node)

pub around-or-below : (n : ℕ) (set node other : List (List Mark)) → IsNode n set other → IsPart node set → (IsPart node other) ⊎ (IsInResidue n node other)
unfolding residue
around-or-below n set node other (whole some) within = inl within
around-or-below n set node other (below above k is_node win some) within = elim (around-or-below n set node above is_node within) [
  | inl up ↦
      let w = fusion-win n above k win in
      elim (cases_Bool (is_even (mark_at (fusion n node) k))) [
        | inl even ↦ inl (part-filter (is_even_at k) node above up (even-all k node (fusion-even n node k w.below even)))
        | inr marked ↦ inr (λ part in_other in_node.
            let wins : is_win (mark_at (fusion n node) k) ≡ true = win-left _ (no_loss up w.no_loss) marked in
            part-filter (stands_below n node) part node in_node (all-below part (in_other (is_even_at k) (all-filter (is_even_at k) above)) w.below wins))
      ]
  | inr out ↦ inr (λ part in_other in_node. out part (part-trans part (even_part k above) above in_other (IsPart-filter (is_even_at k) above)) in_node)
]
  where
    no_loss : IsPart node above → list_any (loss_at k) above ≡ false → is_loss (mark_at (fusion n node) k) ≡ false
    no_loss up none = false_from_ne_true _ (λ loss. not_both (fusion-loss n node k loss).loss (none-part (loss_at k) node above up none))

    all-below : (part : List (List Mark)) → list_all (is_even_at k) part ≡ true → k < n → is_win (mark_at (fusion n node) k) ≡ true → list_all (stands_below n node) part ≡ true
    all-below part even small wins = all-each (stands_below n node) part (λ it stands. below-at n node it k small wins (it-passes (is_even_at k) it part stands even))

-- Of two nodes the one that lies within the other is the same, or lies in its residue.
pub in-residue : (n : ℕ) (set node other : List (List Mark)) → IsNode n set node → IsNode n set other → IsPart other node → (other ≡ node → ⊥) → IsPart other (residue n node)
in-residue n set node other a b within differ = elim (around-or-below n set node other b (node-part n set node a)) [
  | inl around ↦ absurd (differ (same-node n set other node b a within around))
  | inr out ↦ out other (part-same other) within
]
