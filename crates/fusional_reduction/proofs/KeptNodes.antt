-- The fusion of a node is kept exactly where it has an L that the fusion of the residue lacks.
use Rattle.std.proofs.Common.{◌≡◌, ℕ, zero, suc, ◌<◌, List, [], ◌∷◌, Bool, true, false, not, ◌&&◌, ◌==◌, arith, refl, sym, ◌∙◌, ap, cond, inl, inr, length, map}
use Rattle.std.specs.Prelude.{filter}
use Rattle.std.specs.List.{list_all, list_any}
use Rattle.std.proofs.lemmas.Bool.{and_parts, and_from, or_cases, or_left, or_right, cases_Bool, false_from_ne_true, true_from_ne_false, not-true, eqb-true, ne_eqb}
use Rattle.std.proofs.lemmas.List.FromFn.{length-map-range_with_len}
use Rattle.ot_theory.specs.declared.Mark.{Mark}
use Rattle.ot_theory.specs.declared.Mark.TheVariants.{W, L, E}
use Rattle.ot_theory.specs.Rankings.{numbers_below}
use Rattle.ot_theory.specs.Conditions.{keeps, mark_at, is_win, is_loss, is_even, fusion, is_contradictory, exchanged, has_both}
use Rattle.ot_theory.specs.Refutations.{no_ranking_keeps}
use Rattle.ot_theory.specs.Entailment.{entails}
use Rattle.ot_theory.specs.Reductions.{IsStronger}
use Rattle.ot_theory.proofs.Strata.{any-range, range-any}
use Rattle.ot_theory.proofs.Hopeless.{fused_at, hopeless-fused}
use Rattle.ot_theory.proofs.Redundant.{IsImplied-stronger}
use Rattle.ot_theory.proofs.Sets.{IsPart, no_ranking_keeps-more}
use Rattle.ot_theory.proofs.ContradictoryParts.{contradictory-part, contradictory-some}
use Rattle.ot_theory.proofs.Entailing.{entails-from, entails-by_negation, mark_at-exchanged}
use Rattle.fusional_reduction.specs.Visits.{has_width, IsGiven}
use Rattle.fusional_reduction.specs.Nodes.{residue, is_kept}
use Rattle.fusional_reduction.proofs.Fusions.{win_at, loss_at, fusion-win, win-fusion, fusion-loss, loss-fusion, fusion-even, any-part, win-left, even-not-loss, win-not-loss, loss-not-win, not_both}
use Rattle.fusional_reduction.proofs.NodesWithin.{residue-part}

pub given-part : (n : ℕ) (set part : List (List Mark)) → IsGiven n set → IsPart part set → IsGiven n part
given-part n set part g within = record {
  widths = within (has_width n) g.widths;
  both = within has_both g.both;
  possible = false_from_ne_true _ (λ none. not_both (no_ranking_keeps-more n part set within none) g.possible);
}

-- ---- where a condition has a mark
pub record SomeMark (test : Mark → Bool) (n : ℕ) (marks : List Mark) : Type 0 where
  pub at : ℕ
  pub below : at < n
  pub marked : test (mark_at marks at) ≡ true

pub some-mark : (test : Mark → Bool) (marks : List Mark) → list_any test marks ≡ true → SomeMark test (length marks) marks
some-mark test [] h = absurd (cc)
some-mark test (m ∷ marks) h = elim (or_cases (test m) (list_any test marks) h) [
  | inl here ↦ record { at = 0; below = omega arith; marked = here }
  | inr later ↦ let r = some-mark test marks later in record { at = suc r.at; below = omega (arith, r.below); marked = r.marked }
]

pub mark-some : (test : Mark → Bool) (marks : List Mark) (c : ℕ) → test E ≡ false → test (mark_at marks c) ≡ true → list_any test marks ≡ true
mark-some test [] c e h = absurd (not_both h e)
mark-some test (m ∷ marks) zero e h = or_left _ _ h
mark-some test (m ∷ marks) (suc c) e h = or_right _ _ (mark-some test marks c e h)

pub length-fusion : (n : ℕ) (set : List (List Mark)) → length (fusion n set) ≡ n
length-fusion n set = length-map-range_with_len (fused_at set) 0 n

some-in : (test : Mark → Bool) (n : ℕ) (marks : List Mark) → length marks ≡ n → list_any test marks ≡ true → SomeMark test n marks
some-in test n marks e h = let r = some-mark test marks h in record { at = r.at; below = omega (arith, r.below); marked = r.marked }

-- ---- the fusion of some of them has both W and L
pub some-loss : (n : ℕ) (set : List (List Mark)) → IsGiven n set → 0 < length set → SomeMark is_loss n (fusion n set)
some-loss n [] g some = absurd (omega arith)
some-loss n (marks ∷ set) g some =
    let width : (length marks == n) ≡ true = (and_parts _ _ g.widths).0 in
    let both = and_parts (list_any is_win marks) (list_any is_loss marks) (and_parts _ _ g.both).0 in
    let r = some-in is_loss n marks (eqb-true _ _ width) both.1 in
    record { at = r.at; below = r.below; marked = loss-fusion n (marks ∷ set) r.at r.below (or_left _ _ r.marked) }

pub some-win : (n : ℕ) (set : List (List Mark)) → IsGiven n set → 0 < length set → SomeMark is_win n (fusion n set)
some-win n set g some =
    let l = some-loss n set g some in
    let loss : list_any is_loss (fusion n set) ≡ true = mark-some is_loss (fusion n set) l.at refl l.marked in
    elim (cases_Bool (list_any is_win (fusion n set))) [
      | inl win ↦ some-in is_win n (fusion n set) (length-fusion n set) win
      | inr none ↦ absurd (not_both (hopeless-fused n set (and_from _ _ loss (ap not none))) g.possible)
    ]

-- ---- the residue
-- an L that the fusion of the residue lacks
abbrev pub is_own_loss : ℕ → List (List Mark) → ℕ → Bool
is_own_loss n node c = is_loss (mark_at (fusion n node) c) && not (is_loss (mark_at (fusion n (residue n node)) c))

abbrev pub has_own_loss : ℕ → List (List Mark) → Bool
has_own_loss n node = list_any (is_own_loss n node) (numbers_below n)

pub record OwnLoss (n : ℕ) (node : List (List Mark)) : Type 0 where
  pub at : ℕ
  pub below : at < n
  pub loss : is_loss (mark_at (fusion n node) at) ≡ true
  pub lacks : is_loss (mark_at (fusion n (residue n node)) at) ≡ false

pub own-loss : (n : ℕ) (node : List (List Mark)) → has_own_loss n node ≡ true → OwnLoss n node
own-loss n node h =
    let r = any-range (is_own_loss n node) 0 n h in
    let parts = and_parts (is_loss (mark_at (fusion n node) r.it)) (not (is_loss (mark_at (fusion n (residue n node)) r.it))) r.passes in
    record { at = r.it; below = omega (arith, r.below); loss = parts.0; lacks = not-true _ parts.1 }

-- Where the fusion of the residue has each of the fusion's L's, it is stronger.
pub stronger-residue : (n : ℕ) (node : List (List Mark)) → has_own_loss n node ≡ false → IsStronger (fusion n (residue n node)) (fusion n node)
stronger-residue n node none = record { losses = λ c loss. losses c loss; wins = λ c win. wins c win }
  where
    losses : (c : ℕ) → is_loss (mark_at (fusion n node) c) ≡ true → is_loss (mark_at (fusion n (residue n node)) c) ≡ true
    losses c loss = true_from_ne_false _ (λ lacks. not_both (range-any (is_own_loss n node) 0 n c (omega arith) (omega (arith, (fusion-loss n node c loss).below)) (and_from _ _ loss (ap not lacks))) none)

    wins : (c : ℕ) → is_win (mark_at (fusion n (residue n node)) c) ≡ true → is_win (mark_at (fusion n node) c) ≡ true
    wins c win =
        let w = fusion-win n (residue n node) c win in
        win-left _ (false_from_ne_true _ (λ loss. not_both (fusion-loss n (residue n node) c (losses c loss)).loss w.no_loss))
        (false_from_ne_true _ (λ even. not_both (any-part (win_at c) (residue n node) node (residue-part n node) w.win) (fusion-even n node c w.below even).no_win))

pub stronger-kept : (order : List ℕ) (marks weaker : List Mark) → IsStronger marks weaker → keeps order marks ≡ true → keeps order weaker ≡ true
stronger-kept order marks weaker s kept = (IsImplied-stronger (marks ∷ []) weaker 0 [] (omega arith) s).kept order (and_from _ _ kept refl)

stronger-entails : (n : ℕ) (marks weaker : List Mark) → IsStronger marks weaker → entails n (marks ∷ []) weaker ≡ true
stronger-entails n marks weaker s = entails-from n (marks ∷ []) weaker (λ order ranking kept. stronger-kept order marks weaker s (and_parts _ _ kept).0)

-- ---- a contradictory fusion has no W
pub contradictory-no_win : (n : ℕ) (set : List (List Mark)) (c : ℕ) → is_contradictory (fusion n set) ≡ true → is_win (mark_at (fusion n set) c) ≡ false
contradictory-no_win n set c h = false_from_ne_true _ (λ win. not_both (mark-some is_win (fusion n set) c refl win) (not-true _ (and_parts (list_any is_loss (fusion n set)) (not (list_any is_win (fusion n set))) h).1))

is_win-exchanged : (m : Mark) → is_win (exchanged m) ≡ is_loss m
is_win-exchanged W = refl
is_win-exchanged L = refl
is_win-exchanged E = refl

is_loss-exchanged : (m : Mark) → is_loss (exchanged m) ≡ is_win m
is_loss-exchanged W = refl
is_loss-exchanged L = refl
is_loss-exchanged E = refl

pub win-exchanged : (marks : List Mark) (c : ℕ) → is_win (mark_at (map exchanged marks) c) ≡ is_loss (mark_at marks c)
win-exchanged marks c = ap is_win (mark_at-exchanged marks c) ∙ is_win-exchanged (mark_at marks c)

pub loss-exchanged : (marks : List Mark) (c : ℕ) → is_loss (mark_at (map exchanged marks) c) ≡ is_win (mark_at marks c)
loss-exchanged marks c = ap is_loss (mark_at-exchanged marks c) ∙ is_loss-exchanged (mark_at marks c)

-- of two conditions none, either or both
abbrev pub pair_of : Bool → Bool → List Mark → List Mark → List (List Mark)
pair_of s t a b = cond s (a ∷ cond t (b ∷ []) []) (cond t (b ∷ []) [])

-- An L that the one lacks makes both of them, the other exchanged, possible together: no part of them is contradictory.
pair-possible : (n c d : ℕ) (r f : List Mark) (s t : Bool) → c < n → is_loss (mark_at f c) ≡ true → is_loss (mark_at r c) ≡ false → d < n → is_win (mark_at r d) ≡ true → is_contradictory (fusion n (pair_of s t (map exchanged f) r)) ≡ false
pair-possible n c d r f true t small loss lacks small_d win = false_from_ne_true _ (λ h. not_both (win-fusion n (pair_of true t (map exchanged f) r) c small (none t) (or_left _ _ (win-exchanged f c ∙ loss))) (contradictory-no_win n (pair_of true t (map exchanged f) r) c h))
  where
    first : is_loss (mark_at (map exchanged f) c) ≡ false
    first = loss-exchanged f c ∙ loss-not-win (mark_at f c) loss

    none : (t : Bool) → list_any (loss_at c) (pair_of true t (map exchanged f) r) ≡ false
    none true = rw (first, lacks) refl
    none false = rw first refl
pair-possible n c d r f false true small loss lacks small_d win = false_from_ne_true _ (λ h. not_both (win-fusion n (r ∷ []) d small_d (rw (win-not-loss (mark_at r d) win) refl) (or_left _ _ win)) (contradictory-no_win n (r ∷ []) d h))
pair-possible n c d r f false false small loss lacks small_d win = false_from_ne_true _ (λ h. absurd (omega (arith, contradictory-some n [] h)))

own-not-entailed : (n : ℕ) (node : List (List Mark)) → OwnLoss n node → SomeMark is_win n (fusion n (residue n node)) → entails n (fusion n (residue n node) ∷ []) (fusion n node) ≡ false
own-not-entailed n node own win = false_from_ne_true _ (λ h.
    let r : List Mark = fusion n (residue n node) in
    let f : List Mark = fusion n node in
    elim (or_cases (list_all is_even f) (no_ranking_keeps n (map exchanged f ∷ r ∷ [])) (sym (entails-by_negation n (r ∷ []) f (length-fusion n node)) ∙ h)) [
      | inl even ↦ not_both own.loss (even-not-loss _ (all-marks f own.at even))
      | inr none ↦
          let part = contradictory-part n (map exchanged f ∷ r ∷ []) none in
          not_both part.contradictory (pair-possible n own.at win.at r f (part.test (map exchanged f)) (part.test r) own.below own.loss own.lacks win.below win.marked)
    ])
  where
    all-marks : (marks : List Mark) (c : ℕ) → list_all is_even marks ≡ true → is_even (mark_at marks c) ≡ true
    all-marks [] c h = refl
    all-marks (m ∷ marks) zero h = (and_parts _ _ h).0
    all-marks (m ∷ marks) (suc c) h = all-marks marks c (and_parts _ _ h).1

empty-residue : (n : ℕ) (node : List (List Mark)) → residue n node ≡ [] → SomeMark is_loss n (fusion n node) → has_own_loss n node ≡ true
empty-residue n node none loss = range-any (is_own_loss n node) 0 n loss.at (omega arith) (omega (arith, loss.below)) (and_from _ _ loss.marked
    (ap not (false_from_ne_true _ (λ bad. let no : list_any (loss_at loss.at) [] ≡ true = rw none at (fusion-loss n (residue n node) loss.at bad).loss in cc))))

pub kept-own : (n : ℕ) (node : List (List Mark)) → IsGiven n node → 0 < length node → is_kept n node ≡ has_own_loss n node
unfolding is_kept
kept-own n node g some = by (residue n node) refl
  where
    by : (rest : List (List Mark)) → residue n node ≡ rest → is_kept n node ≡ has_own_loss n node
    by [] none = rw none (sym (empty-residue n node none (some-loss n node g some)))
    by (marks ∷ rest) more =
        let long : 0 < length (residue n node) = omega (arith, ap length more) in
        let count : (length (residue n node) == 0) ≡ false = ne_eqb _ _ (λ e. omega arith) in
        rw count (elim (cases_Bool (has_own_loss n node)) [
          | inl own ↦ rw own (ap not (own-not-entailed n node (own-loss n node own) (some-win n (residue n node) (given-part n node (residue n node) g (residue-part n node)) long)))
          | inr none ↦ rw none (ap not (stronger-entails n _ _ (stronger-residue n node none)))
        ])
