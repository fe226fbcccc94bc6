-- The fusion of conditions, by their masks.
use Rattle.std.proofs.Common.{suc, ◌∷◌, ◌≡◌, ℕ, ◌+◌, ◌-◌, ◌*◌, ◌^◌, ◌<◌, ◌≤◌, min, max, List, [], Bool, true, false, not, ◌&&◌, ◌||◌, ◌==◌, ◌≢◌, cond, length, take, drop, map, get_or, arith, refl, sym, ap, ◌∙◌, inl, inr}
use Rattle.std.specs.Prelude.{bit_and, bit_or, All}
use Rattle.std.specs.List.{list_any}
use Rattle.std.specs.Int.{bit_at, bit_not, w64}
use Rattle.std.specs.Simd.Lanes.{zip2, fold_l}
use Rattle.std.proofs.lemmas.Simd.{length-zip2}
use Rattle.std.proofs.lemmas.List.{take_all, get_or-take, get_or-drop, get_or_default, get_or_past, length-drop, length-take-le}
use Rattle.std.proofs.lemmas.Bool.{cases_lt, ne_eqb}
use Rattle.std.proofs.lemmas.List.Folds.{list_any_more, list_any_none}
use Rattle.std.proofs.lemmas.List.FromFn.{fill_by_all}
use Rattle.std.proofs.lemmas.Nat.{and_le_r, pow_pos}
use Rattle.std.proofs.lemmas.Nat.Bits.{bit_at_and, bit_at_or, bit_at_not, bit_at-zero, bit_at_above, bit_at_ones, bit_at-lt, same_from_bits}
use Rattle.ot_theory.specs.declared.Mark.{Mark}
use Rattle.ot_theory.specs.declared.Mark.TheVariants.{W, L, E}
use Rattle.ot_theory.specs.Conditions.{is_win, is_loss, mark_at, fused, fusion}
use Rattle.ot_theory.proofs.Enumeration.{any-map}
use Rattle.erc_vectors.specs.Masks.{IsMask}
use Rattle.erc_fusion.specs.Joined.{IsJoined}

-- ---- one condition more
abbrev has : (Mark → Bool) → ℕ → List Mark → Bool
has test c marks = test (mark_at marks c)

max_bits : (a b : Bool) → max (cond a 1 0) (cond b 1 0) ≡ cond (a || b) 1 0
max_bits true true = refl
max_bits true false = refl
max_bits false true = refl
max_bits false false = refl

pub IsJoined-more : (test : Mark → Bool) (set : List (List Mark)) (k mask more : ℕ) (d : List Mark) → k < length set → IsMask test (get_or set k d) more → IsJoined test (take k set) mask → IsJoined test (take (k + 1) set) (bit_or mask more)
IsJoined-more test set k mask more d within m h c =
    bit_at_or mask more c ∙ rw (h c, m c) (max_bits (list_any (has test c) (take k set)) (test (mark_at (get_or set k d) c)))
    ∙ ap (λ (t : Bool). cond t 1 0) (sym (list_any_more (has test c) set k d within))

-- ---- as many conditions more as there are lanes
or_swap : (x a b : ℕ) → bit_or (bit_or x a) b ≡ bit_or (bit_or x b) a
or_swap x a b = same_from_bits (bit_or (bit_or x a) b) (bit_or (bit_or x b) a) (λ c. rw (bit_at_or (bit_or x a) b c, bit_at_or x a c, bit_at_or (bit_or x b) a c, bit_at_or x b c) (omega arith))

or_assoc : (x a b : ℕ) → bit_or x (bit_or a b) ≡ bit_or (bit_or x a) b
or_assoc x a b = same_from_bits (bit_or x (bit_or a b)) (bit_or (bit_or x a) b) (λ c. rw (bit_at_or x (bit_or a b) c, bit_at_or a b c, bit_at_or (bit_or x a) b c, bit_at_or x a c) (omega arith))

-- the lanes together, and those before them
abbrev pub lanes_joined : ℕ → List ℕ → ℕ
lanes_joined mask lanes = fold_l bit_or mask lanes

lanes_joined-or : (x a : ℕ) (lanes : List ℕ) → lanes_joined (bit_or x a) lanes ≡ bit_or (lanes_joined x lanes) a
lanes_joined-or x a [] = refl
lanes_joined-or x a (lane ∷ lanes) = rw (or_swap x a lane) (lanes_joined-or (bit_or x lane) a lanes)

-- To join more masks into the lanes and then the lanes is to join the masks behind the lanes.
lanes_joined-zip2 : (x : ℕ) (lanes more : List ℕ) → length lanes ≡ length more → lanes_joined x (zip2 bit_or lanes more) ≡ lanes_joined (lanes_joined x lanes) more
lanes_joined-zip2 x [] [] e = refl
lanes_joined-zip2 x [] (mask ∷ more) e = absurd (omega arith)
lanes_joined-zip2 x (lane ∷ lanes) [] e = absurd (omega arith)
lanes_joined-zip2 x (lane ∷ lanes) (mask ∷ more) e =
    lanes_joined-zip2 (bit_or x (bit_or lane mask)) lanes more (omega arith)
    ∙ ap (λ (y : ℕ). lanes_joined y more) (ap (λ (y : ℕ). lanes_joined y lanes) (or_assoc x lane mask) ∙ lanes_joined-or (bit_or x lane) mask lanes)

-- the conditions from the place k on, as many as there are masks, are those of the masks
abbrev pub AreMasksFrom : (Mark → Bool) → List (List Mark) → ℕ → List ℕ → Type 0
AreMasksFrom test set k [] = Unit {0}
AreMasksFrom test set k (mask ∷ masks) = (k < length set) × IsMask test (get_or set k []) mask × AreMasksFrom test set (k + 1) masks

lanes_joined-more : (test : Mark → Bool) (set : List (List Mark)) (k x : ℕ) (masks : List ℕ) → AreMasksFrom test set k masks → IsJoined test (take k set) x → IsJoined test (take (k + length masks) set) (lanes_joined x masks)
lanes_joined-more test set k x [] m h = let e : k + 0 ≡ k = omega arith in rw e h
lanes_joined-more test set k x (mask ∷ masks) m h =
    let e : k + suc (length masks) ≡ k + 1 + length masks = omega arith in
    rw e (lanes_joined-more test set (k + 1) (bit_or x mask) masks m.2 (IsJoined-more test set k x mask [] m.0 m.1 h))

-- the mask of a condition that is read from those behind the start
pub mask-behind : (test : Mark → Bool) (set : List (List Mark)) (start j at mask : ℕ) (item : List Mark) → at ≡ start + j → at < length set
    → item ≡ get_or (take (length set - start) (drop start set)) j item → IsMask test item mask → IsMask test (get_or set at []) mask
mask-behind test set start j at mask item e within is m =
    let front = get_or-take (length set - start) (drop start set) j item (omega arith) in
    let behind = get_or-drop start set j item in
    let same : get_or set at [] ≡ item = get_or_default set at [] item within ∙ ap (λ (k : ℕ). get_or set k item) e ∙ sym (is ∙ front ∙ behind) in
    rw same m

-- all that stands behind the start
pub behind-end : (set : List (List Mark)) (start k : ℕ) → start ≤ length set → length (take (length set - start) (drop start set)) ≤ k → length set ≤ start + k
behind-end set start k within h =
    let long = length-drop start set in
    let all = length-take-le (length set - start) (drop start set) (omega arith) in
    omega arith

pub behind-within : (set : List (List Mark)) (start k : ℕ) → start ≤ length set → k < length (take (length set - start) (drop start set)) → start + k < length set
behind-within set start k within h =
    let long = length-drop start set in
    let all = length-take-le (length set - start) (drop start set) (omega arith) in
    omega arith

-- so many times four conditions, joined in lanes
pub record AreLanes (test : Mark → Bool) (set : List (List Mark)) (k : ℕ) (lanes : List ℕ) : Type 0 where
  pub four : length lanes ≡ 4
  pub joined : IsJoined test (take (4 * k) set) (lanes_joined 0 lanes)

pub AreLanes-none : (test : Mark → Bool) (set : List (List Mark)) → AreLanes test set 0 (0 ∷ 0 ∷ 0 ∷ 0 ∷ [])
AreLanes-none test set = record { four = refl; joined = λ c. bit_at-zero c }

pub AreLanes-more : (test : Mark → Bool) (set : List (List Mark)) (k : ℕ) (lanes masks : List ℕ) → length masks ≡ 4 → AreMasksFrom test set (4 * k) masks → AreLanes test set k lanes → AreLanes test set (k + 1) (zip2 bit_or lanes masks)
AreLanes-more test set k lanes masks four m h =
    let long : length lanes ≡ length masks = omega (arith, h.four) in
    let e : 4 * (k + 1) ≡ 4 * k + length masks = omega arith in
    record {
      four = length-zip2 bit_or lanes masks long ∙ h.four;
      joined = rw (lanes_joined-zip2 0 lanes masks long, e) (lanes_joined-more test set (4 * k) (lanes_joined 0 lanes) masks m h.joined);
    }

pub AreLanes-all : (test : Mark → Bool) (set : List (List Mark)) (k : ℕ) (lanes : List ℕ) → length set ≤ 4 * k → AreLanes test set k lanes → IsJoined test set (lanes_joined 0 lanes)
AreLanes-all test set k lanes all h = rw (take_all (4 * k) set all) at h.joined

-- A joined mask has no bit at the width or past it.
pub IsJoined-below : (test : Mark → Bool) (n : ℕ) (set : List (List Mark)) (mask : ℕ) → test E ≡ false → All (λ marks. length marks ≡ n) set → IsJoined test set mask → mask < 2 ^ n
IsJoined-below test n set mask even widths h =
    let same : mask ≡ bit_and mask (2 ^ n - 1) = same_from_bits mask (bit_and mask (2 ^ n - 1)) (λ c. at c ∙ sym (bit_at_and mask (2 ^ n - 1) c)) in
    omega (arith, same, and_le_r mask (2 ^ n - 1), pow_pos n)
  where
    at : (c : ℕ) → bit_at mask c ≡ min (bit_at mask c) (bit_at (2 ^ n - 1) c)
    at c = elim (cases_lt c n) [
      | inl below ↦ rw (bit_at_ones n c below) (omega (arith, bit_at-lt mask c))
      | inr past ↦
          let none : list_any (has test c) set ≡ false = list_any_none (has test c) set (λ k d b. ap test (get_or_past (get_or set k d) c E (omega (arith, widths k d b))) ∙ even) in
          let zero : bit_at mask c ≡ 0 = h c ∙ ap (λ (t : Bool). cond t 1 0) none in
          rw zero (omega arith)
    ]

-- ---- the fusion
fused_mark : (m : Mark) (wins losses : Bool) (w l : ℕ) → w ≡ cond (is_win m) 1 0 → l ≡ cond (is_loss m) 1 0 → w ≡ min (cond wins 1 0) (1 - cond losses 1 0) → l ≡ cond losses 1 0 → m ≡ cond losses L (cond wins W E)
fused_mark W true false w l p q r t = refl
fused_mark L true true w l p q r t = refl
fused_mark L false true w l p q r t = refl
fused_mark E false false w l p q r t = refl
fused_mark W true true w l p q r t = absurd (omega arith)
fused_mark W false true w l p q r t = absurd (omega arith)
fused_mark W false false w l p q r t = absurd (omega arith)
fused_mark L true false w l p q r t = absurd (omega arith)
fused_mark L false false w l p q r t = absurd (omega arith)
fused_mark E true true w l p q r t = absurd (omega arith)
fused_mark E false true w l p q r t = absurd (omega arith)
fused_mark E true false w l p q r t = absurd (omega arith)

-- W's without L's
pub left_wins : (wins losses c : ℕ) → losses < 2 ^ 64 → c < 64 → bit_at (bit_and wins (bit_not w64 losses)) c ≡ min (bit_at wins c) (1 - bit_at losses c)
left_wins wins losses c small within = bit_at_and wins (bit_not w64 losses) c ∙ ap (λ (x : ℕ). min (bit_at wins c) x) (bit_at_not w64 losses c small within)

pub fusion-masks : (n : ℕ) (set : List (List Mark)) (wins losses : ℕ) (result : List Mark) → n ≤ 64 → losses < 2 ^ 64 → IsJoined is_win set wins → IsJoined is_loss set losses
    → length result ≡ n → IsMask is_win result (bit_and wins (bit_not w64 losses)) → IsMask is_loss result losses → result ≡ fusion n set
fusion-masks n set wins losses result few small w l long p q = fill_by_all (λ c. fused (map (λ marks. mark_at marks c) set)) result n E long (λ c below.
    let here = fused_mark (mark_at result c) (list_any (has is_win c) set) (list_any (has is_loss c) set) (bit_at (bit_and wins (bit_not w64 losses)) c) (bit_at losses c) (p c) (q c)
    (left_wins wins losses c small (omega arith) ∙ rw (w c, l c) refl) (l c) in
    here ∙ rw (any-map is_win (λ marks. mark_at marks c) set, any-map is_loss (λ marks. mark_at marks c) set) refl)

-- ---- an L and no W, by the masks
pub no_wins : (l w : ℕ) (marks : List Mark) → list_any is_loss marks ≡ not (l == 0) → list_any is_win marks ≡ not (w == 0) → l ≢ 0 → (w == 0) ≡ (list_any is_loss marks && not (list_any is_win marks))
no_wins l w marks p q some = rw (p, q) (by (l == 0) (w == 0) (ne_eqb l 0 some))
  where
    by : (a b : Bool) → a ≡ false → b ≡ (not a && not (not b))
    by true b h = absurd (cc)
    by false true h = refl
    by false false h = refl

pub no_losses : (l : ℕ) (marks : List Mark) (none : l ≡ 0) → list_any is_loss marks ≡ not (l == 0) → not (l == 0) ≡ (list_any is_loss marks && not (list_any is_win marks))
no_losses l marks none p = rw (p, none) refl
