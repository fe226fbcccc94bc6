-- One step of the walk to the nodes that conditions lead to.
use Rattle.std.proofs.Common.{◌≡◌, ◌≢◌, ℕ, ◌+◌, ◌^◌, ◌<◌, ◌≤◌, List, [], ◌∷◌, ◌++◌, Bool, true, not, ◌&&◌, ◌==◌, cond, length, get_or, arith, refl, sym, ap, subst, ◌∙◌, inl, inr}
use Rattle.std.specs.Prelude.{filter, All}
use Rattle.std.specs.List.{list_all, list_any}
use Rattle.std.specs.Int.{bit_at, w64, trailing_zeros}
use Rattle.std.proofs.lemmas.Nat.Bits.{bit_at-trailing_zeros}
use Rattle.std.proofs.lemmas.Bool.{cases_Bool, and_from, and_parts, eqb-true, eq-eqb, false_from_ne_true, not-true}
use Rattle.std.proofs.lemmas.List.Sums.{AllPass-from_list_all, list_all-from_AllPass}
use Rattle.ot_theory.specs.declared.Mark.{Mark}
use Rattle.ot_theory.specs.Rankings.{numbers_below}
use Rattle.ot_theory.specs.Conditions.{is_win, mark_at, fusion, width_of}
use Rattle.ot_theory.proofs.Strata.{any-range, range-any}
use Rattle.ot_theory.proofs.Sets.{IsPart, IsPart-filter, both_ways}
use Rattle.erc_vectors.specs.Masks.{IsMask}
use Rattle.fusional_reduction.specs.declared.member.Member.{Member}
use Rattle.fusional_reduction.specs.Chosen.{wins_in}
use Rattle.fusional_reduction.specs.Nodes.{IsNode, is_even_at, is_kept}
use Rattle.fusional_reduction.specs.Visits.{IsGiven, has_width, IsVisited, member_of}
use Rattle.fusional_reduction.proofs.Fusions.{win_at, fusion-win, it-passes, part-trans, part-filter, all-filter, even-not-win, not_both, standing}
use Rattle.fusional_reduction.proofs.KeptNodes.{given-part}
use Rattle.fusional_reduction.proofs.SameRankings.{filter-long, filter-shorter, part-some}
use Rattle.fusional_reduction.proofs.Visited.{filter-equal, clear-node, is_clear, visited-both, visited-end, visited-none}
use Rattle.fusional_reduction.proofs.ByMasks.{wins_in-some, wins_in-at, bit-test, test-bit}

pub width-is : (n : ℕ) (set : List (List Mark)) → list_all (has_width n) set ≡ true → 0 < length set → width_of set ≡ n
width-is n [] h some = absurd (omega arith)
width-is n (m ∷ set) h some = eqb-true _ _ (and_parts _ _ h).0

pub part-nonempty : (part set : List (List Mark)) → IsPart part set → 0 < length part → 0 < length set
part-nonempty [] set h some = absurd (omega arith)
part-nonempty (m ∷ part) set h some = part-some m set (λ p all. and_from _ _ (and_parts _ _ (h p all)).0 refl)

-- the group, the fusion's W's, and the constraints at which it parts
pub record AreParted (n : ℕ) (node group : List (List Mark)) (fused : List Mark) (wins away : ℕ) : Type 0 where
  pub given : IsGiven n node
  pub part : IsPart group node
  pub is : fused ≡ fusion n node
  pub wins_mask : IsMask is_win fused wins
  pub within : (c : ℕ) → bit_at away c ≡ 1 → bit_at wins c ≡ 1
  pub small : away < 2 ^ 64
  pub bit : ℕ
  pub at : bit_at away bit ≡ 1
  pub some : list_any (λ marks. not (wins_in away marks)) group ≡ true

abbrev pub without : ℕ → List (List Mark) → List (List Mark)
without away set = filter (λ marks. not (wins_in away marks)) set

some-filtered : (p : List Mark → Bool) (set : List (List Mark)) → list_any p set ≡ true → 0 < length (filter p set)
some-filtered p [] h = absurd (cc)
some-filtered p (m ∷ set) h = elim (cases_Bool (p m)) [
  | inl here ↦ rw here (omega arith)
  | inr out ↦ let k : list_any p set ≡ true = rw out at h in rw out (some-filtered p set k)
]

module _ (n : ℕ) (node group : List (List Mark)) (fused : List Mark) (wins away : ℕ) (h : AreParted n node group fused wins away) where
  win-of : (c : ℕ) → bit_at away c ≡ 1 → is_win (mark_at (fusion n node) c) ≡ true
  win-of c bit = ap (λ (m : List Mark). is_win (mark_at m c)) (sym h.is) ∙ bit-test _ _ (h.wins_mask c) (h.within c bit)

  pub even-some : 0 < length (without away group)
  even-some = some-filtered (λ marks. not (wins_in away marks)) group h.some

  pub even-part : IsPart (without away group) (without away node)
  even-part = part-filter (λ marks. not (wins_in away marks)) (without away group) node (part-trans (without away group) group node (IsPart-filter (λ marks. not (wins_in away marks)) group) h.part) (all-filter (λ marks. not (wins_in away marks)) group)

  pub below-some : 0 < length (without away node)
  below-some = part-nonempty (without away group) (without away node) even-part even-some

  below-given : IsGiven n (without away node)
  below-given = given-part n node (without away node) h.given (IsPart-filter (λ marks. not (wins_in away marks)) node)

  pub below-width : width_of (without away node) ≡ n
  below-width = width-is n (without away node) below-given.widths below-some

  pub given-below : IsGiven (width_of (without away node)) (without away node)
  given-below = subst (λ (k : ℕ). IsGiven k (without away node)) (sym below-width) below-given

  same-test : (it : List Mark) → not (wins_in away it) ≡ is_clear (λ c. bit_at away c == 1) (numbers_below n) it
  same-test it = ap not (both_ways _ _
      (λ e. let w = wins_in-some away it h.small e in range-any (λ c. is_win (mark_at it c) && (bit_at away c == 1)) 0 n w.at (omega arith) (omega (arith, (fusion-win n node w.at (win-of w.at w.bit)).below)) (and_from _ _ w.win (eq-eqb _ _ w.bit)))
      (λ e. let r = any-range (λ c. is_win (mark_at it c) && (bit_at away c == 1)) 0 n e in let parts = and_parts (is_win (mark_at it r.it)) (bit_at away r.it == 1) r.passes in wins_in-at away it r.it (eqb-true _ _ parts.1) parts.0))

  pub below-node : IsNode n node (without away node)
  below-node =
      let same = filter-equal (λ marks. not (wins_in away marks)) (is_clear (λ c. bit_at away c == 1) (numbers_below n)) node (λ it stands. same-test it) in
      subst (IsNode n node) (sym same) (clear-node n node (λ c. bit_at away c == 1) (numbers_below n)
      (λ c e. let w = fusion-win n node c (win-of c (eqb-true _ _ e)) in (w.below, w.no_loss)) (subst (λ (l : List (List Mark)). 0 < length l) same below-some))

  pub below-shorter : length (without away node) < length node
  below-shorter =
      let w = fusion-win n node h.bit (win-of h.bit h.at) in
      let s = standing (win_at h.bit) node w.win in
      filter-shorter (λ marks. not (wins_in away marks)) node (false_from_ne_true _ (λ all. not_both (wins_in-at away s.it h.bit h.at s.passes) (not-true _ (it-passes (λ marks. not (wins_in away marks)) s.it node s.stands all))))

  pub even-long : length (without away group) ≤ length group
  even-long = filter-long (λ marks. not (wins_in away marks)) group

  pub rest-shorter : length (filter (wins_in away) group) < length group
  rest-shorter =
      let s = standing (λ marks. not (wins_in away marks)) group h.some in
      filter-shorter (wins_in away) group (false_from_ne_true _ (λ all. not_both (it-passes (wins_in away) s.it group s.stands all) (not-true _ s.passes)))

  pub rest-part : IsPart (filter (wins_in away) group) node
  rest-part = part-trans (filter (wins_in away) group) group node (IsPart-filter (wins_in away) group) h.part

  pub parted : (old mid new : List Member) → IsVisited (width_of (without away node)) (without away node) (without away group) old mid → IsVisited n node (filter (wins_in away) group) mid new → IsVisited n node group old new
  parted old mid new v w = visited-both n node (without away node) group (wins_in away) old mid new below-node (subst (λ (k : ℕ). IsVisited k (without away node) (without away group) old mid) below-width v) w

  pub parted-all : (old mid : List Member) → length (filter (wins_in away) group) ≡ 0 → IsVisited (width_of (without away node)) (without away node) (without away group) old mid → IsVisited n node group old mid
  parted-all old mid none v = parted old mid mid v (subst (λ (l : List (List Mark)). IsVisited n node l mid mid) (sym (empty (filter (wins_in away) group) none)) (visited-none n node mid))
    where
      empty : (l : List (List Mark)) → length l ≡ 0 → l ≡ []
      empty [] e = refl
      empty (m ∷ l) e = absurd (omega arith)

-- Where the group parts nowhere, each of it ends here.
pub ended : (n : ℕ) (node group : List (List Mark)) (fused : List Mark) (wins : ℕ) (old new : List Member) → IsPart group node → 0 < length group → fused ≡ fusion n node → IsMask is_win fused wins
    → All (λ marks. (c : ℕ) → bit_at wins c ≡ 1 → is_win (mark_at marks c) ≡ true) group → new ≡ old ++ cond (is_kept n node) (member_of n node ∷ []) [] → IsVisited n node group old new
ended n node group fused wins old new part some is m none grown =
    visited-end n node group old new (is_kept n node) (part-nonempty group node part some) refl grown (λ it stands. record {
      stands = part-trans (it ∷ []) group node stands part;
      ends = false_from_ne_true _ (λ further.
          let r = any-range (λ j. is_win (mark_at (fusion n node) j) && is_even_at j it) 0 n further in
          let parts = and_parts (is_win (mark_at (fusion n node) r.it)) (is_even_at r.it it) r.passes in
          let bit : bit_at wins r.it ≡ 1 = test-bit _ _ (m r.it) (ap (λ (x : List Mark). is_win (mark_at x r.it)) is ∙ parts.0) in
          let win : is_win (mark_at it r.it) ≡ true = it-passes (λ x. is_win (mark_at x r.it)) it group stands (list_all-from_AllPass (λ x. is_win (mark_at x r.it)) group (λ k d small. none k d small r.it bit)) in
          not_both win (even-not-win _ parts.1));
    })

pub are-parted : (n : ℕ) (node group : List (List Mark)) (fused : List Mark) (wins away : ℕ) → IsGiven n node → IsPart group node → fused ≡ fusion n node → IsMask is_win fused wins → ((c : ℕ) → bit_at away c ≡ 1 → bit_at wins c ≡ 1) → away < 2 ^ 64 → 0 < away
    → list_any (λ marks. not (wins_in away marks)) group ≡ true → AreParted n node group fused wins away
are-parted n node group fused wins away g part is m within small some any =
    let t = bit_at-trailing_zeros w64 away some small in
    record { given = g; part = part; is = is; wins_mask = m; within = within; small = small; bit = trailing_zeros w64 away; at = t.1; some = any }

-- what a call below asks for, and that it has fewer conditions
pub record Asks (node group : List (List Mark)) (bound : ℕ) : Type 0 where
  pub given : IsGiven (width_of node) node
  pub part : IsPart group node
  pub some : 0 < length group
  pub fewer : length node + length group < bound

pub asks-below : (n : ℕ) (node group : List (List Mark)) (fused : List Mark) (wins away : ℕ) (b e : List (List Mark)) → AreParted n node group fused wins away → b ≡ without away node → e ≡ without away group → Asks b e (length node + length group)
asks-below n node group fused wins away b e h p q = record {
  given = subst (λ (l : List (List Mark)). IsGiven (width_of l) l) (sym p) (given-below n node group fused wins away h);
  part = subst (λ (l : List (List Mark)). IsPart e l) (sym p) (subst (λ (l : List (List Mark)). IsPart l (without away node)) (sym q) (even-part n node group fused wins away h));
  some = subst (λ (l : List (List Mark)). 0 < length l) (sym q) (even-some n node group fused wins away h);
  fewer = omega (arith, ap length p, ap length q, below-shorter n node group fused wins away h, even-long n node group fused wins away h);
}

pub asks-rest : (n : ℕ) (node group : List (List Mark)) (fused : List Mark) (wins away : ℕ) (rest : List (List Mark)) → AreParted n node group fused wins away → IsGiven (width_of node) node → rest ≡ filter (wins_in away) group → length rest ≢ 0 → Asks node rest (length node + length group)
asks-rest n node group fused wins away rest h g p more = record {
  given = g;
  part = subst (λ (l : List (List Mark)). IsPart l node) (sym p) (rest-part n node group fused wins away h);
  some = omega (arith, more);
  fewer = omega (arith, ap length p, rest-shorter n node group fused wins away h);
}

pub walked-all : (n : ℕ) (node group : List (List Mark)) (fused : List Mark) (wins away : ℕ) (b e rest : List (List Mark)) (old mid : List Member) → AreParted n node group fused wins away → b ≡ without away node → e ≡ without away group → rest ≡ filter (wins_in away) group → length rest ≡ 0
    → IsVisited (width_of b) b e old mid → IsVisited n node group old mid
walked-all n node group fused wins away b e rest old mid h p q r none v = parted-all n node group fused wins away h old mid (sym (ap length r) ∙ none)
    (subst (λ (l : List (List Mark)). IsVisited (width_of l) l (without away group) old mid) p (subst (λ (l : List (List Mark)). IsVisited (width_of b) b l old mid) q v))

pub walked : (n : ℕ) (node group : List (List Mark)) (fused : List Mark) (wins away : ℕ) (b e rest : List (List Mark)) (old mid new : List Member) → AreParted n node group fused wins away → b ≡ without away node → e ≡ without away group → rest ≡ filter (wins_in away) group
    → IsVisited (width_of b) b e old mid → IsVisited n node rest mid new → IsVisited n node group old new
walked n node group fused wins away b e rest old mid new h p q r v w = parted n node group fused wins away h old mid new
    (subst (λ (l : List (List Mark)). IsVisited (width_of l) l (without away group) old mid) p (subst (λ (l : List (List Mark)). IsVisited (width_of b) b l old mid) q v))
    (subst (λ (l : List (List Mark)). IsVisited n node l mid new) r w)
