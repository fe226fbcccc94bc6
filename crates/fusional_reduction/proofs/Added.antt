-- The fusion of a node, and its skeletal form, by masks.
use Rattle.std.proofs.Common.{◌≡◌, ◌≢◌, ℕ, ◌-◌, ◌^◌, ◌<◌, ◌≤◌, min, List, [], ◌∷◌, ◌++◌, Bool, true, false, not, ◌&&◌, cond, length, arith, refl, sym, ap, subst, ◌∙◌, inl, inr}
use Rattle.std.specs.Prelude.{bit_and, filter}
use Rattle.std.specs.List.{list_all, list_any}
use Rattle.std.specs.Int.{bit_at, bit_not, w64}
use Rattle.std.proofs.lemmas.Bool.{cases_lt, and_parts, ne_eqb, eqb-true, false_from_ne_true, not-true}
use Rattle.std.proofs.lemmas.List.{append-nil}
use Rattle.std.proofs.lemmas.List.FromFn.{fill_by_all}
use Rattle.std.proofs.lemmas.Nat.{and_le_l, pow_below}
use Rattle.std.proofs.lemmas.Nat.Bits.{bit_at_and, bit_at_not, bit_at-zero, same_from_bits}
use Rattle.ot_theory.specs.declared.Mark.{Mark}
use Rattle.ot_theory.specs.declared.Mark.TheVariants.{W, L, E}
use Rattle.ot_theory.specs.Conditions.{is_win, is_loss, mark_at, fusion}
use Rattle.ot_theory.proofs.Strata.{any-range, range-any}
use Rattle.ot_theory.proofs.Sets.{IsPart, both_ways}
use Rattle.erc_vectors.specs.Masks.{IsMask, mask_of, IsMask-mask_of}
use Rattle.erc_vectors.proofs.Bits.{IsMask-below, masks-apart}
use Rattle.erc_fusion.specs.Joined.{IsJoined}
use Rattle.fusional_reduction.specs.Chosen.{lacks_in}
use Rattle.fusional_reduction.specs.Nodes.{is_even_at, stands_below, residue, is_kept, skeletal_mark, skeletal_form}
use Rattle.fusional_reduction.specs.declared.member.Member.{Member}
use Rattle.fusional_reduction.specs.Visits.{IsGiven, has_width, member_of}
use Rattle.fusional_reduction.proofs.Fusions.{loss_at, fusion-win, fusion-loss, loss-fusion, it-passes, all-none, neither, even-not-win}
use Rattle.fusional_reduction.proofs.NodesWithin.{below-at}
use Rattle.fusional_reduction.proofs.KeptNodes.{is_own_loss, has_own_loss, kept-own, length-fusion}
use Rattle.fusional_reduction.proofs.Visited.{filter-equal}
use Rattle.fusional_reduction.proofs.SameRankings.{form-skeletal, skeletal-at}
use Rattle.fusional_reduction.proofs.ByMasks.{shared, shared-bit, bit-test, test-bit, bit-not, left-out, not-eq0}

same-bits : (s t : Bool) (a : ℕ) → a ≡ cond s 1 0 → a ≡ cond t 1 0 → s ≡ t
same-bits true true a p q = refl
same-bits false false a p q = refl
same-bits true false a p q = absurd (omega arith)
same-bits false true a p q = absurd (omega arith)

-- The residue is what has no W at some W of the fusion.
pub residue-lacking : (n : ℕ) (node : List (List Mark)) (wins : ℕ) → n ≤ 64 → wins < 2 ^ 64 → list_all (has_width n) node ≡ true → IsMask is_win (fusion n node) wins → filter (lacks_in wins) node ≡ residue n node
unfolding residue lacks_in
residue-lacking n node wins few small widths m = filter-equal (lacks_in wins) (stands_below n node) node (λ it stands. both_ways _ _ (into it stands) (out it stands))
  where
    fits : (it : List Mark) → IsPart (it ∷ []) node → mask_of is_win it < 2 ^ 64
    fits it stands =
        let width : length it ≡ n = eqb-true _ _ (it-passes (has_width n) it node stands widths) in
        let below = IsMask-below is_win it (mask_of is_win it) refl (IsMask-mask_of is_win it refl) in
        elim (cases_lt (length it) 64) [
          | inl less ↦ omega (arith, below, pow_below (length it) 64 less)
          | inr full ↦ let e : length it ≡ 64 = omega (arith, width) in subst (λ (k : ℕ). mask_of is_win it < 2 ^ k) e below
        ]

    into : (it : List Mark) → IsPart (it ∷ []) node → lacks_in wins it ≡ true → stands_below n node it ≡ true
    into it stands h =
        let s = shared (bit_not w64 (mask_of is_win it)) wins small (λ none. not-eq0 _ h (same_from_bits _ _ (λ c. bit_at_and wins (bit_not w64 (mask_of is_win it)) c ∙ swapped c ∙ sym (bit_at_and (bit_not w64 (mask_of is_win it)) wins c)) ∙ none)) in
        let win : is_win (mark_at (fusion n node) s.at) ≡ true = bit-test _ _ (m s.at) s.second in
        let w = fusion-win n node s.at win in
        let zero : bit_at (mask_of is_win it) s.at ≢ 1 = λ one. absurd (omega (arith, bit_at_not w64 (mask_of is_win it) s.at (fits it stands) s.small, s.first, one)) in
        let lost : is_win (mark_at it s.at) ≡ false = bit-not _ _ (IsMask-mask_of is_win it refl s.at) zero in
        below-at n node it s.at w.below win (neither _ (not-true _ (it-passes (λ x. not (loss_at s.at x)) it node stands (all-none (loss_at s.at) node w.no_loss))) lost)
      where
        swapped : (c : ℕ) → min (bit_at wins c) (bit_at (bit_not w64 (mask_of is_win it)) c) ≡ min (bit_at (bit_not w64 (mask_of is_win it)) c) (bit_at wins c)
        swapped c = omega arith

    out : (it : List Mark) → IsPart (it ∷ []) node → stands_below n node it ≡ true → lacks_in wins it ≡ true
    out it stands h =
        let r = any-range (λ k. is_win (mark_at (fusion n node) k) && is_even_at k it) 0 n h in
        let parts = and_parts (is_win (mark_at (fusion n node) r.it)) (is_even_at r.it it) r.passes in
        let within : r.it < 64 = omega (arith, r.below) in
        let zero : bit_at (mask_of is_win it) r.it ≡ 0 = IsMask-mask_of is_win it refl r.it ∙ ap (λ (t : Bool). cond t 1 0) (even-not-win _ parts.1) in
        let one : bit_at (bit_not w64 (mask_of is_win it)) r.it ≡ 1 = bit_at_not w64 (mask_of is_win it) r.it (fits it stands) within ∙ omega (arith, zero) in
        ap not (ne_eqb _ _ (shared-bit wins (bit_not w64 (mask_of is_win it)) r.it (test-bit _ _ (m r.it) parts.0) one))

-- the L's of the fusion that the residue's lacks, as bits
abbrev pub AreOwn : ℕ → List (List Mark) → ℕ → Type 0
AreOwn n node own = (c : ℕ) → bit_at own c ≡ cond (is_own_loss n node c) 1 0

pub own-bits : (n : ℕ) (node : List (List Mark)) (losses rest : ℕ) → n ≤ 64 → losses < 2 ^ 64 → rest < 2 ^ 64 → IsMask is_loss (fusion n node) losses → IsJoined is_loss (residue n node) rest → AreOwn n node (bit_and losses (bit_not w64 rest))
own-bits n node losses rest few small fits m j c = elim (cases_lt c n) [
  | inl below ↦
      let within : c < 64 = omega arith in
      let same : is_loss (mark_at (fusion n (residue n node)) c) ≡ list_any (loss_at c) (residue n node) = both_ways _ _ (λ h. (fusion-loss n (residue n node) c h).loss) (λ h. loss-fusion n (residue n node) c below h) in
      left-out losses rest c fits within ∙ rw (m c, j c, same) (by (is_loss (mark_at (fusion n node) c)) (list_any (loss_at c) (residue n node)))
  | inr past ↦
      let none : is_loss (mark_at (fusion n node) c) ≡ false = false_from_ne_true _ (λ h. absurd (omega (arith, (fusion-loss n node c h).below))) in
      let zero : bit_at losses c ≡ 0 = m c ∙ ap (λ (t : Bool). cond t 1 0) none in
      rw none (omega (arith, bit_at_and losses (bit_not w64 rest) c, zero))
]
  where
    by : (a b : Bool) → min (cond a 1 0) (1 - cond b 1 0) ≡ cond (a && not b) 1 0
    by true true = refl
    by true false = refl
    by false true = refl
    by false false = refl

pub own-some : (n : ℕ) (node : List (List Mark)) (own : ℕ) → own < 2 ^ 64 → AreOwn n node own → own ≢ 0 → has_own_loss n node ≡ true
own-some n node own small h some =
    let s = shared own own small (λ none. some (same_from_bits own 0 (λ c. omega (arith, bit_at_and own own c, ap (λ (x : ℕ). bit_at x c) none, bit_at-zero c)))) in
    let loss = bit-test _ _ (h s.at) s.first in
    let within = (fusion-loss n node s.at (and_parts (is_loss (mark_at (fusion n node) s.at)) (not (is_loss (mark_at (fusion n (residue n node)) s.at))) loss).0).below in
    range-any (is_own_loss n node) 0 n s.at (omega arith) (omega (arith, within)) loss

pub own-none : (n : ℕ) (node : List (List Mark)) (own : ℕ) → AreOwn n node own → own ≡ 0 → has_own_loss n node ≡ false
own-none n node own h none = false_from_ne_true _ (λ some.
    let r = any-range (is_own_loss n node) 0 n some in
    absurd (omega (arith, test-bit _ _ (h r.it) r.passes, ap (λ (x : ℕ). bit_at x r.it) none, bit_at-zero r.it)))

mark-same : (a b : Mark) → is_win a ≡ is_win b → is_loss a ≡ is_loss b → a ≡ b
mark-same W W p q = refl
mark-same L L p q = refl
mark-same E E p q = refl
mark-same W L p q = absurd (cc)
mark-same W E p q = absurd (cc)
mark-same L W p q = absurd (cc)
mark-same L E p q = absurd (cc)
mark-same E W p q = absurd (cc)
mark-same E L p q = absurd (cc)

is_loss-skeletal : (f r : Mark) → is_loss (skeletal_mark f r) ≡ (is_loss f && not (is_loss r))
is_loss-skeletal W r = refl
is_loss-skeletal L W = refl
is_loss-skeletal L L = refl
is_loss-skeletal L E = refl
is_loss-skeletal E r = refl

pub skeletal-masks : (n : ℕ) (node : List (List Mark)) (wins own : ℕ) (result : List Mark) → length result ≡ n → IsMask is_win (fusion n node) wins → AreOwn n node own → IsMask is_win result wins → IsMask is_loss result own → result ≡ skeletal_form n node
unfolding skeletal_form
skeletal-masks n node wins own result long m h p q = fill_by_all (λ c. skeletal_mark (mark_at (fusion n node) c) (mark_at (fusion n (residue n node)) c)) result n E long (λ c below. at c)
  where
    at : (c : ℕ) → mark_at result c ≡ skeletal_mark (mark_at (fusion n node) c) (mark_at (fusion n (residue n node)) c)
    at c =
        let win : is_win (mark_at result c) ≡ is_win (mark_at (fusion n node) c) = same-bits _ _ (bit_at wins c) (p c) (m c) in
        let loss : is_loss (mark_at result c) ≡ is_own_loss n node c = same-bits _ _ (bit_at own c) (q c) (h c) in
        mark-same _ _ (win ∙ sym ((form-skeletal n node).wins c) ∙ ap is_win (skeletal-at n node c)) (loss ∙ sym (is_loss-skeletal (mark_at (fusion n node) c) (mark_at (fusion n (residue n node)) c)))

pub own-apart : (marks : List Mark) (w l x : ℕ) → IsMask is_win marks w → IsMask is_loss marks l → bit_and w (bit_and l x) ≡ 0
own-apart marks w l x p q = same_from_bits (bit_and w (bit_and l x)) 0 (λ c. omega (arith, bit_at_and w (bit_and l x) c, bit_at_and l x c, bit_at_and w l c, ap (λ (y : ℕ). bit_at y c) (masks-apart marks w l p q), bit_at-zero c))

-- ---- what is added of a node
-- a fused condition and its masks, and the L's that the residue's fusion has
pub record AreFused (n : ℕ) (node : List (List Mark)) (fused : List Mark) (wins losses rest : ℕ) : Type 0 where
  pub is : fused ≡ fusion n node
  pub few : length fused ≤ 64
  pub wins_small : wins < 2 ^ 64
  pub losses_small : losses < 2 ^ 64
  pub rest_small : rest < 2 ^ 64
  pub wins_mask : IsMask is_win fused wins
  pub losses_mask : IsMask is_loss fused losses
  pub joined : IsJoined is_loss (filter (lacks_in wins) node) rest

fused-own : (n : ℕ) (node : List (List Mark)) (fused : List Mark) (wins losses rest : ℕ) → IsGiven n node → AreFused n node fused wins losses rest → AreOwn n node (bit_and losses (bit_not w64 rest))
fused-own n node fused wins losses rest g f =
    let few : n ≤ 64 = omega (arith, f.few, ap length f.is, length-fusion n node) in
    own-bits n node losses rest few f.losses_small f.rest_small (subst (λ (m : List Mark). IsMask is_loss m losses) f.is f.losses_mask)
    (subst (λ (l : List (List Mark)). IsJoined is_loss l rest) (residue-lacking n node wins few f.wins_small g.widths (subst (λ (m : List Mark). IsMask is_win m wins) f.is f.wins_mask)) f.joined)

pub added-none : (n : ℕ) (node : List (List Mark)) (fused : List Mark) (wins losses rest : ℕ) (old : List Member) → IsGiven n node → 0 < length node → AreFused n node fused wins losses rest → bit_and losses (bit_not w64 rest) ≡ 0 → old ≡ old ++ cond (is_kept n node) (member_of n node ∷ []) []
added-none n node fused wins losses rest old g some f none =
    let dropped : is_kept n node ≡ false = kept-own n node g some ∙ own-none n node _ (fused-own n node fused wins losses rest g f) none in
    rw dropped (sym (append-nil old))

pub added-one : (n : ℕ) (node : List (List Mark)) (fused skeletal : List Mark) (wins losses rest : ℕ) (old new : List Member) → IsGiven n node → 0 < length node → AreFused n node fused wins losses rest → bit_and losses (bit_not w64 rest) ≢ 0
    → length skeletal ≡ length fused → IsMask is_win skeletal wins → IsMask is_loss skeletal (bit_and losses (bit_not w64 rest)) → new ≡ old ++ record { informative = fused; skeletal = skeletal } ∷ [] → new ≡ old ++ cond (is_kept n node) (member_of n node ∷ []) []
added-one n node fused skeletal wins losses rest old new g some f more long p q grown =
    let own = fused-own n node fused wins losses rest g f in
    let small : bit_and losses (bit_not w64 rest) < 2 ^ 64 = omega (arith, and_le_l losses (bit_not w64 rest), f.losses_small) in
    let kept : is_kept n node ≡ true = kept-own n node g some ∙ own-some n node (bit_and losses (bit_not w64 rest)) small own more in
    let form : skeletal ≡ skeletal_form n node = skeletal-masks n node wins (bit_and losses (bit_not w64 rest)) skeletal (long ∙ ap length f.is ∙ length-fusion n node) (subst (λ (m : List Mark). IsMask is_win m wins) f.is f.wins_mask) own p q in
    let member : Member = record { informative = fused; skeletal = skeletal } in
    let same : member ≡ member_of n node = together fused (fusion n node) skeletal (skeletal_form n node) f.is form in
    grown ∙ ap (λ (m : Member). old ++ m ∷ []) same ∙ ap (λ (b : Bool). old ++ cond b (member_of n node ∷ []) []) (sym kept)
  where
    pair : List Mark → List Mark → Member
    pair a c = record { informative = a; skeletal = c }

    together : (a b c d : List Mark) → a ≡ b → c ≡ d → pair a c ≡ pair b d
    together a b c d p q = λ i. record { informative = p i; skeletal = q i }
