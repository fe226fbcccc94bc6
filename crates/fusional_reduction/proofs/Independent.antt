-- No member of a basis is entailed by its others.
use Rattle.std.proofs.Common.{◌≡◌, ◌⊎◌, ℕ, zero, suc, ◌+◌, ◌<◌, ◌≤◌, List, [], ◌∷◌, ◌++◌, Bool, true, false, not, ◌||◌, arith, refl, sym, ◌∙◌, ap, subst, cond, inl, inr, length, map, get_or, length-append, ◌-◌}
use Rattle.std.specs.Prelude.{filter, slice_index_or}
use Rattle.std.specs.List.{list_all, list_any}
use Rattle.std.proofs.lemmas.Bool.{and_parts, and_from, or_cases, or_left, or_right, or_parts, or_from, cases_Bool, cases_lt, false_from_ne_true, true_from_ne_false}
use Rattle.std.proofs.lemmas.List.Folds.{list_all-append, list_any-append}
use Rattle.std.proofs.lemmas.List.{get_or_append_left, get_or-append-add}
use Rattle.std.proofs.Math.Seq.{get_or-append_seam}
use Rattle.ot_theory.specs.declared.Mark.{Mark}
use Rattle.ot_theory.specs.Rankings.{rankings}
use Rattle.ot_theory.specs.Conditions.{keeps, mark_at, is_win, is_loss, is_even, fusion, is_contradictory, exchanged}
use Rattle.ot_theory.specs.Refutations.{no_ranking_keeps}
use Rattle.ot_theory.specs.Entailment.{entails}
use Rattle.ot_theory.proofs.Enumeration.{any-ranking, ranking-found}
use Rattle.ot_theory.proofs.Hopeless.{hopeless-fused}
use Rattle.ot_theory.proofs.Sets.{IsPart}
use Rattle.ot_theory.proofs.ContradictoryParts.{contradictory-part}
use Rattle.ot_theory.proofs.Entailing.{entails-by_negation}
use Rattle.fusional_reduction.specs.Visits.{IsGiven}
use Rattle.fusional_reduction.specs.Nodes.{IsNode, residue, is_kept}
use Rattle.fusional_reduction.specs.Laws.{AreIndependent}
use Rattle.fusional_reduction.proofs.Fusions.{win_at, loss_at, fusion-win, win-fusion, fusion-loss, loss-fusion, even-fusion, all-even, none-part, any-part, part-trans, even-not-win, even-not-loss, loss-not-win, not_both}
use Rattle.fusional_reduction.proofs.NodesWithin.{part-within, node-part, in-residue}
use Rattle.fusional_reduction.proofs.KeptNodes.{OwnLoss, own-loss, kept-own, given-part, contradictory-no_win, win-exchanged, loss-exchanged}
use Rattle.fusional_reduction.proofs.NodesWithin.{node-some}
use Rattle.fusional_reduction.proofs.SameRankings.{IsForm, AreForms, keeps-form}

-- ---- forms of other nodes, and the conditions of those nodes together
pub record FormOfOther (n : ℕ) (set node : List (List Mark)) (marks : List Mark) : Type 0 where
  pub other : List (List Mark)
  pub is_node : IsNode n set other
  pub form : IsForm n other marks
  pub differs : other ≡ node → ⊥

record Union (n : ℕ) (set node forms : List (List Mark)) : Type 0 where
  all : List (List Mark)
  part : IsPart all set
  losses : (c : ℕ) → list_any (loss_at c) forms ≡ true → list_any (loss_at c) all ≡ true
  wins : (c : ℕ) → c < n → list_any (loss_at c) all ≡ false → list_any (win_at c) all ≡ true → list_any (win_at c) forms ≡ true
  behind : IsPart all node → IsPart all (residue n node)
  kept : (order : List ℕ) → list_all (keeps order) set ≡ true → list_all (keeps order) forms ≡ true

part-append : (a b set : List (List Mark)) → IsPart a set → IsPart b set → IsPart (a ++ b) set
part-append a b set h k p all = list_all-append p a b ∙ and_from _ _ (h p all) (k p all)

part-left : (a b : List (List Mark)) → IsPart a (a ++ b)
part-left a b p all = (and_parts _ _ (sym (list_all-append p a b) ∙ all)).0

part-right : (a b : List (List Mark)) → IsPart b (a ++ b)
part-right a b p all = (and_parts _ _ (sym (list_all-append p a b) ∙ all)).1

union-none : (n : ℕ) (set node : List (List Mark)) → Union n set node []
union-none n set node = record {
  all = [];
  part = λ p h. refl;
  losses = λ c h. h;
  wins = λ c small none h. h;
  behind = λ h p all. refl;
  kept = λ order h. refl;
}

union-more : (n : ℕ) (set node forms : List (List Mark)) (marks : List Mark) → IsGiven n set → IsNode n set node → FormOfOther n set node marks → Union n set node forms → Union n set node (marks ∷ forms)
union-more n set node forms marks g is_node f u = record {
  all = f.other ++ u.all;
  part = part-append f.other u.all set (node-part n set f.other f.is_node) u.part;
  losses = λ c h. list_any-append (loss_at c) f.other u.all ∙ losses c (or_cases (loss_at c marks) (list_any (loss_at c) forms) h);
  wins = λ c small none h.
      let no = or_parts _ _ (sym (list_any-append (loss_at c) f.other u.all) ∙ none) in
      wins c small no.0 no.1 (or_cases _ _ (sym (list_any-append (win_at c) f.other u.all) ∙ h));
  behind = λ within. part-append f.other u.all (residue n node)
      (in-residue n set node f.other is_node f.is_node (part-trans f.other (f.other ++ u.all) node (part-left f.other u.all) within) f.differs)
      (u.behind (part-trans u.all (f.other ++ u.all) node (part-right f.other u.all) within));
  kept = λ order h. and_from _ _ (keeps-form n order set f.other marks g f.is_node f.form h) (u.kept order h);
}
  where
    losses : (c : ℕ) → (loss_at c marks ≡ true) ⊎ (list_any (loss_at c) forms ≡ true) → (list_any (loss_at c) f.other || list_any (loss_at c) u.all) ≡ true
    losses c (inl here) = or_left _ _ (fusion-loss n f.other c (f.form.losses c here)).loss
    losses c (inr later) = or_right _ _ (u.losses c later)

    wins : (c : ℕ) → c < n → list_any (loss_at c) f.other ≡ false → list_any (loss_at c) u.all ≡ false → (list_any (win_at c) f.other ≡ true) ⊎ (list_any (win_at c) u.all ≡ true) → (win_at c marks || list_any (win_at c) forms) ≡ true
    wins c small here rest (inl win) = or_left _ _ (f.form.wins c ∙ win-fusion n f.other c small here win)
    wins c small here rest (inr win) = or_right _ _ (u.wins c small rest win)

-- each of a list is a form of another node
abbrev pub FormsOfOthers : ℕ → List (List Mark) → List (List Mark) → List (List Mark) → Type 0
FormsOfOthers n set node others = (k : ℕ) → k < length others → FormOfOther n set node (slice_index_or others k [])

union-of : (n : ℕ) (set node others : List (List Mark)) (test : List Mark → Bool) → IsGiven n set → IsNode n set node → FormsOfOthers n set node others → Union n set node (filter test others)
union-of n set node [] test g is_node forms = union-none n set node
union-of n set node (marks ∷ others) test g is_node forms =
    let rest = union-of n set node others test g is_node (λ k small. forms (suc k) (omega arith)) in
    by (test marks) rest
  where
    by : (t : Bool) → Union n set node (filter test others) → Union n set node (cond t (marks ∷ filter test others) (filter test others))
    by true rest = union-more n set node (filter test others) marks g is_node (forms 0 (omega arith)) rest
    by false rest = rest

-- Where each ranking that keeps the one set keeps the other, some ranking keeps the other if one keeps the one.
possible-other : (n : ℕ) (set other : List (List Mark)) → ((order : List ℕ) → list_all (keeps order) set ≡ true → list_all (keeps order) other ≡ true) → no_ranking_keeps n set ≡ false → no_ranking_keeps n other ≡ false
unfolding no_ranking_keeps
possible-other n set other more possible = elim (cases_Bool (list_any (λ order. list_all (keeps order) set) (rankings n))) [
  | inl found ↦
      let f = ranking-found n (λ order. list_all (keeps order) set) found in
      ap not (any-ranking n f.order (λ order. list_all (keeps order) other) f.ranking (more f.order f.passes))
  | inr none ↦ absurd (not_both (ap not none) possible)
]

-- The condition exchanged, and forms of other nodes: they fuse to no contradiction.
not-contradictory : (n : ℕ) (set node others : List (List Mark)) (marks : List Mark) → IsNode n set node → IsForm n node marks → OwnLoss n node → Union n set node others → is_contradictory (fusion n (map exchanged marks ∷ others)) ≡ true → ⊥
not-contradictory n set node others marks is_node form own u h = not_both (fusion-loss-of u.all lost) own.lacks
  where
    whole : List (List Mark)
    whole = map exchanged marks ∷ others

    loss-here : (c : ℕ) → is_win (mark_at marks c) ≡ false → list_any (loss_at c) others ≡ false → list_any (loss_at c) (map exchanged marks ∷ others) ≡ false
    loss-here c here none = or_from _ _ (loss-exchanged marks c ∙ here) none

    no-loss : (c : ℕ) → list_any (loss_at c) u.all ≡ false → list_any (loss_at c) others ≡ false
    no-loss c none = false_from_ne_true _ (λ some. not_both (u.losses c some) none)

    within : IsPart u.all node
    within = part-within n set node u.all is_node u.part (λ above k up win all.
        let w = fusion-win n above k win in
        let none = none-part (loss_at k) u.all above up w.no_loss in
        let even = even-fusion n node k (all-even k node all) in
        false_from_ne_true _ (λ some.
        not_both
        (win-fusion n (map exchanged marks ∷ others) k w.below (loss-here k (form.wins k ∙ even-not-win _ even) (no-loss k none)) (or_right _ _ (u.wins k w.below none some)))
        (contradictory-no_win n (map exchanged marks ∷ others) k h)))

    lost : list_any (loss_at own.at) u.all ≡ true
    lost = u.losses own.at (true_from_ne_false _ (λ none.
        let here = form.own own.at own.loss own.lacks in
        not_both
        (win-fusion n (map exchanged marks ∷ others) own.at own.below (loss-here own.at (loss-not-win _ here) none) (or_left _ _ (win-exchanged marks own.at ∙ here)))
        (contradictory-no_win n (map exchanged marks ∷ others) own.at h)))

    fusion-loss-of : (all : List (List Mark)) → list_any (loss_at own.at) u.all ≡ true → is_loss (mark_at (fusion n (residue n node)) own.at) ≡ true
    fusion-loss-of all some = loss-fusion n (residue n node) own.at own.below (any-part (loss_at own.at) u.all (residue n node) (u.behind within) some)

-- A form of a kept node is not entailed by forms of other nodes.
pub not-entailed : (n : ℕ) (set node others : List (List Mark)) (marks : List Mark) → IsGiven n set → length marks ≡ n → IsNode n set node → is_kept n node ≡ true → IsForm n node marks → FormsOfOthers n set node others → entails n others marks ≡ false
not-entailed n set node others marks g width is_node kept form forms = false_from_ne_true _ (λ h.
    elim (or_cases (list_all is_even marks) (no_ranking_keeps n (map exchanged marks ∷ others)) (sym (entails-by_negation n others marks width) ∙ h)) [
      | inl even ↦ not_both (form.own own.at own.loss own.lacks) (even-not-loss _ (all-marks marks own.at even))
      | inr none ↦
          let part = contradictory-part n (map exchanged marks ∷ others) none in
          by part.test (part.test (map exchanged marks)) part.contradictory
    ])
  where
    own : OwnLoss n node
    own = own-loss n node (sym (kept-own n node (given-part n set node g (node-part n set node is_node)) (node-some n set node is_node)) ∙ kept)

    all-marks : (marks : List Mark) (c : ℕ) → list_all is_even marks ≡ true → is_even (mark_at marks c) ≡ true
    all-marks [] c h = refl
    all-marks (m ∷ marks) zero h = (and_parts _ _ h).0
    all-marks (m ∷ marks) (suc c) h = all-marks marks c (and_parts _ _ h).1

    by : (test : List Mark → Bool) (t : Bool) → is_contradictory (fusion n (cond t (map exchanged marks ∷ filter test others) (filter test others))) ≡ true → ⊥
    by test true bad = not-contradictory n set node (filter test others) marks is_node form own (union-of n set node others test g is_node forms) bad
    by test false bad =
        let u = union-of n set node others test g is_node forms in
        not_both (hopeless-fused n (filter test others) bad) (possible-other n set (filter test others) u.kept g.possible)

-- ---- a list of forms
others-of : (n : ℕ) (set before : List (List Mark)) (marks : List Mark) (behind : List (List Mark)) → (forms : AreForms n set (before ++ marks ∷ behind)) → (here : length before < length (before ++ marks ∷ behind)) → FormsOfOthers n set (forms.each (length before) here).node (before ++ behind)
others-of n set before marks behind forms here k small = elim (cases_lt k (length before)) [
  | inl first ↦
      let within : k < length (before ++ marks ∷ behind) = omega (arith, length-append before (marks ∷ behind)) in
      let f = forms.each k within in
      let e : slice_index_or (before ++ marks ∷ behind) k [] ≡ slice_index_or (before ++ behind) k [] = get_or_append_left before (marks ∷ behind) [] k first ∙ sym (get_or_append_left before behind [] k first) in
      record { other = f.node; is_node = f.is_node; form = subst (IsForm n f.node) e f.form; differs = forms.differ k (length before) within here (λ same. absurd (omega arith)) }
  | inr later ↦
      let within : k + 1 < length (before ++ marks ∷ behind) = omega (arith, length-append before (marks ∷ behind), length-append before behind) in
      let f = forms.each (k + 1) within in
      record { other = f.node; is_node = f.is_node; form = subst (IsForm n f.node) (moved later) f.form; differs = forms.differ (k + 1) (length before) within here (λ same. absurd (omega arith)) }
]
  where
    moved : length before ≤ k → slice_index_or (before ++ marks ∷ behind) (k + 1) [] ≡ slice_index_or (before ++ behind) k []
    moved later =
        let a = get_or-append-add before (marks ∷ behind) (suc (k - length before)) [] in
        let b = get_or-append-add before behind (k - length before) [] in
        let p : length before + suc (k - length before) ≡ k + 1 = omega arith in
        let q : length before + (k - length before) ≡ k = omega arith in
        sym (ap (λ (i : ℕ). get_or (before ++ marks ∷ behind) i []) p) ∙ a ∙ sym b ∙ ap (λ (i : ℕ). get_or (before ++ behind) i []) q

independent-parts : (n : ℕ) (set before : List (List Mark)) (marks : List Mark) (behind : List (List Mark)) → IsGiven n set → AreForms n set (before ++ marks ∷ behind) → length marks ≡ n → entails n (before ++ behind) marks ≡ false
independent-parts n set before marks behind g forms width =
    let here : length before < length (before ++ marks ∷ behind) = omega (arith, length-append before (marks ∷ behind)) in
    let f = forms.each (length before) here in
    not-entailed n set f.node (before ++ behind) marks g width f.is_node f.kept (subst (IsForm n f.node) (get_or-append_seam before marks behind []) f.form) (others-of n set before marks behind forms here)

abbrev pub HaveWidth : ℕ → List (List Mark) → Type 0
HaveWidth n basis = (k : ℕ) → k < length basis → length (slice_index_or basis k []) ≡ n

pub independent : (n : ℕ) (set basis : List (List Mark)) → IsGiven n set → AreForms n set basis → HaveWidth n basis → AreIndependent n basis
independent n set basis g forms widths before marks behind e =
    let here : length before < length basis = omega (arith, ap length e, length-append before (marks ∷ behind)) in
    let width : length marks ≡ n = ap length (sym (ap (λ (l : List (List Mark)). slice_index_or l (length before) []) e ∙ get_or-append_seam before marks behind [])) ∙ widths (length before) here in
    independent-parts n set before marks behind g (subst (AreForms n set) e forms) width
