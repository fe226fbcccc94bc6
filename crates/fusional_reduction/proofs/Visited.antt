-- The nodes that the conditions of a group lead to, and what is found of them.
use Rattle.std.proofs.Common.{◌≡◌, ℕ, ◌+◌, ◌<◌, List, [], ◌∷◌, ◌++◌, Bool, true, false, not, ◌&&◌, ◌||◌, arith, refl, sym, ◌∙◌, ap, subst, cond, inl, inr, length, append_assoc, length-append}
use Rattle.std.specs.Prelude.{filter, Contains}
use Rattle.std.specs.List.{list_all, list_any}
use Rattle.std.proofs.lemmas.Bool.{and_parts, and_from, cases_Bool, not-true}
use Rattle.std.proofs.lemmas.List.{append-nil, get_or_append_left, get_or-append-add}
use Rattle.std.proofs.lemmas.List.Elements.{All-nil, All-cons, All-append}
use Rattle.ot_theory.specs.declared.Mark.{Mark}
use Rattle.ot_theory.specs.declared.Mark.TheVariants.{W, L, E}
use Rattle.ot_theory.specs.Conditions.{mark_at, is_win, is_loss, is_even}
use Rattle.ot_theory.proofs.Sets.{IsPart, IsPart-filter}
use Rattle.fusional_reduction.specs.declared.member.Member.{Member}
use Rattle.fusional_reduction.specs.Visits.{IsEnd, Leads, IsVisited, member_of}
use Rattle.fusional_reduction.specs.Nodes.{IsNode, is_even_at, even_part, is_kept}
use Rattle.fusional_reduction.specs.Nodes.IsNode.{whole, below}
use Rattle.fusional_reduction.specs.Bases.{IsMember}
use Rattle.fusional_reduction.proofs.Fusions.{win_at, loss_at, none-part, part-filter, it-passes, win-fusion, not_both, even-all, all-none, all-each}
use Rattle.fusional_reduction.proofs.SameRankings.{part-some}

-- ---- a node of a node is a node
pub node-trans : (n : ℕ) (set node other : List (List Mark)) → IsNode n set node → IsNode n node other → IsNode n set other
node-trans n set node other a (whole some) = a
node-trans n set node other a (below above k is_node win some) = below above k (node-trans n set node above a is_node) win some

pub member-trans : (n : ℕ) (set node : List (List Mark)) (informative skeletal : List Mark) → IsNode n set node → IsMember n node informative skeletal → IsMember n set informative skeletal
member-trans n set node informative skeletal a m = record { node = m.node; is_node = node-trans n set node m.node a m.is_node; kept = m.kept; is_fusion = m.is_fusion; is_form = m.is_form }

-- ---- more constraints at once
-- whether a condition has no W at those of the constraints that pass a test
abbrev pub is_clear : (ℕ → Bool) → List ℕ → List Mark → Bool
is_clear bits ks marks = not (list_any (λ c. is_win (mark_at marks c) && bits c) ks)

pub filter-equal : (p q : List Mark → Bool) (set : List (List Mark)) → ((it : List Mark) → IsPart (it ∷ []) set → p it ≡ q it) → filter p set ≡ filter q set
filter-equal p q [] h = refl
filter-equal p q (marks ∷ set) h = rw (h marks (λ r all. and_from _ _ (and_parts _ _ all).0 refl), filter-equal p q set (λ it stands. h it (λ r all. stands r (and_parts _ _ all).1))) refl

filter-twice : (p q : List Mark → Bool) (set : List (List Mark)) → filter q (filter p set) ≡ filter (λ m. p m && q m) set
filter-twice p q [] = refl
filter-twice p q (m ∷ set) = elim (cases_Bool (p m)) [
  | inl here ↦ rw here (ap (λ (l : List (List Mark)). cond (q m) (m ∷ l) l) (filter-twice p q set))
  | inr out ↦ rw out (filter-twice p q set)
]

filter-whole : (p : List Mark → Bool) (set : List (List Mark)) → list_all p set ≡ true → filter p set ≡ set
filter-whole p [] h = refl
filter-whole p (m ∷ set) h =
    let parts = and_parts (p m) (list_all p set) h in
    rw parts.0 (ap (λ (l : List (List Mark)). m ∷ l) (filter-whole p set parts.1))

some-before : (p : List Mark → Bool) (set : List (List Mark)) → 0 < length (filter p set) → 0 < length set
some-before p [] h = h
some-before p (m ∷ set) h = omega arith

clear-out : (bits : ℕ → Bool) (k : ℕ) (ks : List ℕ) (marks : List Mark) → bits k ≡ false → is_clear bits (k ∷ ks) marks ≡ is_clear bits ks marks
clear-out bits k ks marks out = rw out (by (is_win (mark_at marks k)) (list_any (λ c. is_win (mark_at marks c) && bits c) ks))
  where
    by : (w t : Bool) → not ((w && false) || t) ≡ not t
    by true t = refl
    by false t = refl

clear-in : (bits : ℕ → Bool) (k : ℕ) (ks : List ℕ) (marks : List Mark) → bits k ≡ true → is_loss (mark_at marks k) ≡ false → is_clear bits (k ∷ ks) marks ≡ (is_even_at k marks && is_clear bits ks marks)
clear-in bits k ks marks here none = rw here (by (mark_at marks k) none (list_any (λ c. is_win (mark_at marks c) && bits c) ks))
  where
    by : (m : Mark) → is_loss m ≡ false → (t : Bool) → not ((is_win m && true) || t) ≡ (is_even m && not t)
    by W none t = refl
    by L none t = absurd (cc)
    by E none t = refl

-- What has e at a constraint at which no condition of the node has L is the node, or a node just below it.
even-node : (n k : ℕ) (node : List (List Mark)) → k < n → list_any (loss_at k) node ≡ false → 0 < length (even_part k node) → IsNode n node (even_part k node)
even-node n k node small none some = elim (cases_Bool (list_any (win_at k) node)) [
  | inl win ↦ below node k (whole (some-before (is_even_at k) node some)) (win-fusion n node k small none win) some
  | inr no_win ↦
      let same = filter-whole (is_even_at k) node (even-all k node (record { no_loss = none; no_win = no_win })) in
      subst (IsNode n node) (sym same) (whole (some-before (is_even_at k) node some))
]

-- The conditions with no W at constraints at which the node has no L are a node, if there are any.
pub clear-node : (n : ℕ) (node : List (List Mark)) (bits : ℕ → Bool) (ks : List ℕ) → ((c : ℕ) → bits c ≡ true → (c < n) × (list_any (loss_at c) node ≡ false)) → 0 < length (filter (is_clear bits ks) node) → IsNode n node (filter (is_clear bits ks) node)
clear-node n node bits [] h some =
    let same = filter-whole (is_clear bits []) node (all-each (is_clear bits []) node (λ it stands. refl)) in
    subst (IsNode n node) (sym same) (whole (some-before (is_clear bits []) node some))
clear-node n node bits (k ∷ ks) h some = elim (cases_Bool (bits k)) [
  | inr out ↦
      let same = filter-equal (is_clear bits (k ∷ ks)) (is_clear bits ks) node (λ it stands. clear-out bits k ks it out) in
      subst (IsNode n node) (sym same) (clear-node n node bits ks h (subst (λ (l : List (List Mark)). 0 < length l) same some))
  | inl here ↦
      let none = (h k here).1 in
      let same : filter (is_clear bits (k ∷ ks)) node ≡ filter (is_clear bits ks) (even_part k node) =
      filter-equal (is_clear bits (k ∷ ks)) (λ m. is_even_at k m && is_clear bits ks m) node (λ it stands. clear-in bits k ks it here (not-true _ (it-passes (λ m. not (loss_at k m)) it node stands (all-none (loss_at k) node none))))
      ∙ sym (filter-twice (is_even_at k) (is_clear bits ks) node) in
      let left : 0 < length (filter (is_clear bits ks) (even_part k node)) = subst (λ (l : List (List Mark)). 0 < length l) same some in
      let lower = even-node n k node (h k here).0 none (some-before (is_clear bits ks) (even_part k node) left) in
      subst (IsNode n node) (sym same)
      (node-trans n node (even_part k node) (filter (is_clear bits ks) (even_part k node)) lower
      (clear-node n (even_part k node) bits ks (λ c e. ((h c e).0, none-part (loss_at c) (even_part k node) node (IsPart-filter (is_even_at k) node) (h c e).1)) left))
]

-- ---- what is visited
contains-left : (xs ys : List Member) (it : Member) → Contains xs it → Contains (xs ++ ys) it
contains-left xs ys it c = (c.0, omega (arith, c.1, length-append xs ys), get_or_append_left xs ys it c.0 c.1 ∙ c.2)

contains-right : (xs ys : List Member) (it : Member) → Contains ys it → Contains (xs ++ ys) it
contains-right xs ys it c = (length xs + c.0, omega (arith, c.1, length-append xs ys), get_or-append-add xs ys c.0 it ∙ c.2)

leads-left : (n : ℕ) (set node : List (List Mark)) (xs ys : List Member) (marks : List Mark) → IsNode n set node → Leads n node xs marks → Leads n set (xs ++ ys) marks
leads-left n set node xs ys marks a l = record { end = l.end; is_node = node-trans n set node l.end a l.is_node; is_end = l.is_end; is_found = λ kept. contains-left xs ys (member_of n l.end) (l.is_found kept) }

leads-right : (n : ℕ) (node : List (List Mark)) (xs ys : List Member) (marks : List Mark) → Leads n node ys marks → Leads n node (xs ++ ys) marks
leads-right n node xs ys marks l = record { end = l.end; is_node = l.is_node; is_end = l.is_end; is_found = λ kept. contains-right xs ys (member_of n l.end) (l.is_found kept) }

pub visited-none : (n : ℕ) (node : List (List Mark)) (old : List Member) → IsVisited n node [] old old
visited-none n node old = record { added = []; grown = sym (append-nil old); members = All-nil _; leads = λ it stands. absurd (omega (arith, part-some it [] stands)) }

pub visited-both : (n : ℕ) (node under group : List (List Mark)) (p : List Mark → Bool) (old mid new : List Member) → IsNode n node under
    → IsVisited n under (filter (λ m. not (p m)) group) old mid → IsVisited n node (filter p group) mid new → IsVisited n node group old new
visited-both n node under group p old mid new a v w = record {
  added = v.added ++ w.added;
  grown = w.grown ∙ ap (λ (l : List Member). l ++ w.added) v.grown ∙ append_assoc old v.added w.added;
  members = All-append (λ (m : Member). IsMember n node m.informative m.skeletal) v.added w.added (λ k d small. member-trans n node under _ _ a (v.members k d small)) w.members;
  leads = λ it stands. elim (cases_Bool (p it)) [
    | inl here ↦ leads-right n node v.added w.added it (w.leads it (part-filter p (it ∷ []) group stands (and_from _ _ here refl)))
    | inr out ↦ leads-left n node under v.added w.added it a (v.leads it (part-filter (λ m. not (p m)) (it ∷ []) group stands (and_from _ _ (ap not out) refl)))
  ];
}

-- Where each of the group has W at each W of the fusion, the node itself is the one that they lead to.
pub visited-end : (n : ℕ) (node group : List (List Mark)) (old new : List Member) (own : Bool) → 0 < length node → is_kept n node ≡ own → new ≡ old ++ cond own (member_of n node ∷ []) []
    → ((it : List Mark) → IsPart (it ∷ []) group → IsEnd n node it) → IsVisited n node group old new
visited-end n node group old new true some kept grown ends = record {
  added = member_of n node ∷ [];
  grown = grown;
  members = All-cons (λ (m : Member). IsMember n node m.informative m.skeletal) (member_of n node) [] (record { node = node; is_node = whole some; kept = kept; is_fusion = refl; is_form = refl }) (All-nil _);
  leads = λ it stands. record { end = node; is_node = whole some; is_end = ends it stands; is_found = λ e. (0, omega arith, refl) };
}
visited-end n node group old new false some kept grown ends = record {
  added = [];
  grown = grown;
  members = All-nil _;
  leads = λ it stands. record { end = node; is_node = whole some; is_end = ends it stands; is_found = λ e. absurd (not_both e kept) };
}
