-- Conditions that are chosen by masks.
use Rattle.std.proofs.Common.{◌≡◌, ◌≢◌, ℕ, ◌+◌, ◌-◌, ◌*◌, ◌%◌, ◌^◌, ◌<◌, min, max, List, [], ◌∷◌, ◌++◌, Bool, true, false, not, ◌&&◌, ◌||◌, ◌==◌, cond, length, take, get_or, arith, refl, sym, ap, subst, ◌∙◌, inl, inr}
use Rattle.std.specs.Prelude.{bit_and, bit_or, filter, All}
use Rattle.std.specs.List.{list_all, list_any}
use Rattle.std.specs.Int.{bit_at, bit_not, w64, trailing_zeros}
use Rattle.std.proofs.lemmas.Bool.{cases_lt, cases_Bool, ne_eqb, eq-eqb, false_from_ne_true, or_left, or_right, or_cases, not-true}
use Rattle.std.proofs.lemmas.Bool.Decides.{eqb_tells}
use Rattle.std.proofs.lemmas.List.Elements.{filter_more}
use Rattle.std.proofs.lemmas.List.{append-nil, take_more}
use Rattle.std.proofs.lemmas.List.Folds.{list_any-append, list_all-append}
use Rattle.std.proofs.lemmas.Nat.{and_le_l, and_le_r, shl_whole, pow_below}
use Rattle.std.proofs.lemmas.List.Sums.{AllPass-from_list_all}
use Rattle.std.proofs.lemmas.Nat.Bits.{bit_at-lt, bit_at_and, bit_at_or, bit_at_not, bit_at-zero, bit_at_above, bit_at-trailing_zeros, bit_at-pow_other}
use Rattle.ot_theory.specs.declared.Mark.{Mark}
use Rattle.ot_theory.specs.Conditions.{is_win, mark_at}
use Rattle.erc_vectors.specs.Masks.{IsMask, mask_of, same_mask, IsMask-mask_of}
use Rattle.erc_fusion.specs.Joined.{IsJoined}
use Rattle.fusional_reduction.specs.Chosen.{wins_in, lacks_in, IsShared}

pub mask-is : (marks : List Mark) (w : ℕ) → IsMask is_win marks w → w ≡ mask_of is_win marks
mask-is marks w h = same_mask is_win marks w (mask_of is_win marks) h (IsMask-mask_of is_win marks refl)

pub wins_in-mask : (marks : List Mark) (w mask : ℕ) → IsMask is_win marks w → not (bit_and w mask == 0) ≡ wins_in mask marks
unfolding wins_in
wins_in-mask marks w mask h = ap (λ (x : ℕ). not (bit_and x mask == 0)) (mask-is marks w h)

pub lacks_in-mask : (marks : List Mark) (w mask : ℕ) → IsMask is_win marks w → not (bit_and mask (bit_not w64 w) == 0) ≡ lacks_in mask marks
unfolding lacks_in
lacks_in-mask marks w mask h = ap (λ (x : ℕ). not (bit_and mask (bit_not w64 x) == 0)) (mask-is marks w h)

-- ---- what passes of the conditions so far, and one more
pub filter-in : (p : List Mark → Bool) (set : List (List Mark)) (k : ℕ) (marks : List Mark) → k < length set → marks ≡ get_or set k marks → p marks ≡ true → filter p (take k set) ++ marks ∷ [] ≡ filter p (take (k + 1) set)
filter-in p set k marks within is h =
    sym (filter_more p set k marks within
    ∙ ap (λ (x : List Mark). filter p (take k set) ++ cond (p x) (x ∷ []) []) (sym is)
    ∙ ap (λ (b : Bool). filter p (take k set) ++ cond b (marks ∷ []) []) h)

pub filter-out : (p : List Mark → Bool) (set : List (List Mark)) (k : ℕ) (marks : List Mark) → k < length set → marks ≡ get_or set k marks → p marks ≡ false → filter p (take k set) ≡ filter p (take (k + 1) set)
filter-out p set k marks within is h =
    sym (filter_more p set k marks within
    ∙ ap (λ (x : List Mark). filter p (take k set) ++ cond (p x) (x ∷ []) []) (sym is)
    ∙ ap (λ (b : Bool). filter p (take k set) ++ cond b (marks ∷ []) []) h
    ∙ append-nil (filter p (take k set)))

max_bits : (a b : Bool) → max (cond a 1 0) (cond b 1 0) ≡ cond (a || (b || false)) 1 0
max_bits true true = refl
max_bits true false = refl
max_bits false true = refl
max_bits false false = refl

min_bits : (a b : Bool) → min (cond a 1 0) (cond b 1 0) ≡ cond (a && (b && true)) 1 0
min_bits true true = refl
min_bits true false = refl
min_bits false true = refl
min_bits false false = refl

pub IsJoined-push : (test : Mark → Bool) (set : List (List Mark)) (marks : List Mark) (mask more : ℕ) → IsMask test marks more → IsJoined test set mask → IsJoined test (set ++ marks ∷ []) (bit_or mask more)
IsJoined-push test set marks mask more m h c =
    bit_at_or mask more c ∙ rw (h c, m c) (max_bits (list_any (λ x. test (mark_at x c)) set) (test (mark_at marks c)))
    ∙ ap (λ (t : Bool). cond t 1 0) (sym (list_any-append (λ x. test (mark_at x c)) set (marks ∷ [])))

pub IsShared-push : (set : List (List Mark)) (marks : List Mark) (mask more : ℕ) → IsMask is_win marks more → IsShared set mask → IsShared (set ++ marks ∷ []) (bit_and mask more)
IsShared-push set marks mask more m h c small =
    bit_at_and mask more c ∙ rw (h c small, m c) (min_bits (list_all (λ x. is_win (mark_at x c)) set) (is_win (mark_at marks c)))
    ∙ ap (λ (t : Bool). cond t 1 0) (sym (list_all-append (λ x. is_win (mark_at x c)) set (marks ∷ [])))

pub take-push : (set : List (List Mark)) (k : ℕ) (marks : List Mark) → k < length set → marks ≡ get_or set k marks → take k set ++ marks ∷ [] ≡ take (k + 1) set
take-push set k marks within is = sym (take_more set k marks within ∙ ap (λ (x : List Mark). take k set ++ x ∷ []) (sym is))

-- ---- a bit that two masks share
pub record Shared (a b : ℕ) : Type 0 where
  pub at : ℕ
  pub small : at < 64
  pub first : bit_at a at ≡ 1
  pub second : bit_at b at ≡ 1

pub shared : (a b : ℕ) → b < 2 ^ 64 → bit_and a b ≢ 0 → Shared a b
shared a b small some =
    let t = bit_at-trailing_zeros w64 (bit_and a b) (omega (arith, some)) (omega (arith, and_le_r a b)) in
    let k : ℕ = trailing_zeros w64 (bit_and a b) in
    let both : min (bit_at a k) (bit_at b k) ≡ 1 = sym (bit_at_and a b k) ∙ t.1 in
    record { at = k; small = t.0; first = omega (arith, bit_at-lt a k, both); second = omega (arith, bit_at-lt b k, both) }

pub shared-bit : (a b c : ℕ) → bit_at a c ≡ 1 → bit_at b c ≡ 1 → bit_and a b ≢ 0
shared-bit a b c p q none =
    let zero : bit_at (bit_and a b) c ≡ 0 = ap (λ (x : ℕ). bit_at x c) none ∙ bit_at-zero c in
    let both = bit_at_and a b c in
    absurd (omega arith)

pub bit-test : (b : ℕ) (t : Bool) → b ≡ cond t 1 0 → b ≡ 1 → t ≡ true
bit-test b true h e = refl
bit-test b false h e = absurd (omega arith)

pub bit-not : (b : ℕ) (t : Bool) → b ≡ cond t 1 0 → b ≢ 1 → t ≡ false
bit-not b false h e = refl
bit-not b true h e = absurd (e h)

pub test-bit : (b : ℕ) (t : Bool) → b ≡ cond t 1 0 → t ≡ true → b ≡ 1
test-bit b true h e = h
test-bit b false h e = absurd (cc)

pub not-eq0 : (x : ℕ) → not (x == 0) ≡ true → x ≢ 0
not-eq0 x h e = let no : (x == 0) ≡ true = eq-eqb x 0 e in let bad : false ≡ true = sym (ap not no) ∙ h in absurd (cc)

-- a constraint of the mask at which a condition has W
pub record WinIn (mask : ℕ) (marks : List Mark) : Type 0 where
  pub at : ℕ
  pub small : at < 64
  pub bit : bit_at mask at ≡ 1
  pub win : is_win (mark_at marks at) ≡ true

pub wins_in-some : (mask : ℕ) (marks : List Mark) → mask < 2 ^ 64 → wins_in mask marks ≡ true → WinIn mask marks
unfolding wins_in
wins_in-some mask marks small h =
    let s = shared (mask_of is_win marks) mask small (not-eq0 _ h) in
    record { at = s.at; small = s.small; bit = s.second; win = bit-test _ _ (IsMask-mask_of is_win marks refl s.at) s.first }

pub wins_in-at : (mask : ℕ) (marks : List Mark) (c : ℕ) → bit_at mask c ≡ 1 → is_win (mark_at marks c) ≡ true → wins_in mask marks ≡ true
unfolding wins_in
wins_in-at mask marks c bit win = ap not (ne_eqb _ _ (shared-bit (mask_of is_win marks) mask c (test-bit _ _ (IsMask-mask_of is_win marks refl c) win) bit))

-- ---- the constraints at which conditions part
pub and-within : (a b c : ℕ) → bit_at (bit_and a b) c ≡ 1 → bit_at a c ≡ 1
and-within a b c h = omega (arith, bit_at_and a b c, bit_at-lt a c)

pub left-out : (a b c : ℕ) → b < 2 ^ 64 → c < 64 → bit_at (bit_and a (bit_not w64 b)) c ≡ min (bit_at a c) (1 - bit_at b c)
left-out a b c small within = bit_at_and a (bit_not w64 b) c ∙ ap (λ (x : ℕ). min (bit_at a c) x) (bit_at_not w64 b c small within)

pub lacking-some : (wins joined : ℕ) (group : List (List Mark)) → wins < 2 ^ 64 → joined < 2 ^ 64 → IsJoined is_win group joined → 0 < length group → list_any (λ marks. not (wins_in (bit_and wins (bit_not w64 joined)) marks)) group ≡ true
lacking-some wins joined [] small fits h some = absurd (omega arith)
lacking-some wins joined (marks ∷ group) small fits h some = or_left _ _ (ap not (false_from_ne_true _ (λ e.
    let w = wins_in-some (bit_and wins (bit_not w64 joined)) marks (omega (arith, and_le_l wins (bit_not w64 joined))) e in
    let here : bit_at joined w.at ≡ 1 = test-bit _ _ (h w.at) (or_left _ _ w.win) in
    absurd (omega (arith, left-out wins joined w.at fits w.small, w.bit, here)))))

pub lacked-none : (wins shared : ℕ) (group : List (List Mark)) → wins < 2 ^ 64 → shared < 2 ^ 64 → IsShared group shared → bit_and wins (bit_not w64 shared) ≡ 0 → All (λ marks. (c : ℕ) → bit_at wins c ≡ 1 → is_win (mark_at marks c) ≡ true) group
lacked-none wins shared group small fits h none k d within c bit = elim (cases_lt c 64) [
  | inl below ↦
      let zero : bit_at (bit_and wins (bit_not w64 shared)) c ≡ 0 = ap (λ (x : ℕ). bit_at x c) none ∙ bit_at-zero c in
      let one : bit_at shared c ≡ 1 = omega (arith, left-out wins shared c fits below, zero, bit, bit_at-lt shared c) in
      AllPass-from_list_all (λ marks. is_win (mark_at marks c)) group (bit-test _ _ (h c below) one) k d within
  | inr past ↦ absurd (omega (arith, bit_at_above wins 64 c small past, bit))
]

one-shifted : (k : ℕ) → k < 64 → 1 * 2 ^ k % 2 ^ 64 ≡ 2 ^ k
one-shifted k small = shl_whole 1 1 k 64 (omega arith) (omega arith) ∙ omega arith

pub first-within : (wins shared k c : ℕ) → wins < 2 ^ 64 → bit_and wins (bit_not w64 shared) ≢ 0 → k ≡ trailing_zeros w64 (bit_and wins (bit_not w64 shared)) → bit_at (1 * 2 ^ k % 2 ^ 64) c ≡ 1 → bit_at wins c ≡ 1
first-within wins shared k c small some e bit =
    let t = bit_at-trailing_zeros w64 (bit_and wins (bit_not w64 shared)) (omega (arith, some)) (omega (arith, and_le_l wins (bit_not w64 shared))) in
    let within : k < 64 = omega (arith, t.0) in
    let power : bit_at (2 ^ k) c ≡ 1 = sym (ap (λ (x : ℕ). bit_at x c) (one-shifted k within)) ∙ bit in
    elim (eqb_tells c k) [
      | inl same ↦ ap (bit_at wins) (same.1 ∙ e) ∙ and-within wins (bit_not w64 shared) _ t.1
      | inr other ↦ absurd (omega (arith, bit_at-pow_other k c other.1, power))
    ]

some-fails : (p : List Mark → Bool) (set : List (List Mark)) → list_all p set ≡ false → list_any (λ m. not (p m)) set ≡ true
some-fails p [] h = absurd (cc)
some-fails p (m ∷ set) h = elim (cases_Bool (p m)) [
  | inl here ↦ let k : list_all p set ≡ false = rw here at h in rw here (some-fails p set k)
  | inr out ↦ rw out refl
]

any-weaker : (p q : List Mark → Bool) (set : List (List Mark)) → ((m : List Mark) → p m ≡ true → q m ≡ true) → list_any p set ≡ true → list_any q set ≡ true
any-weaker p q [] h k = absurd (cc)
any-weaker p q (m ∷ set) h k = elim (or_cases (p m) (list_any p set) k) [
  | inl here ↦ or_left _ _ (h m here)
  | inr later ↦ or_right _ _ (any-weaker p q set h later)
]

pub first-some : (wins shared k : ℕ) (group : List (List Mark)) → wins < 2 ^ 64 → shared < 2 ^ 64 → IsShared group shared → bit_and wins (bit_not w64 shared) ≢ 0 → k ≡ trailing_zeros w64 (bit_and wins (bit_not w64 shared)) → list_any (λ marks. not (wins_in (1 * 2 ^ k % 2 ^ 64) marks)) group ≡ true
first-some wins shared k group small fits h some e =
    let t = bit_at-trailing_zeros w64 (bit_and wins (bit_not w64 shared)) (omega (arith, some)) (omega (arith, and_le_l wins (bit_not w64 shared))) in
    let within : k < 64 = omega (arith, t.0) in
    let set_there : bit_at (bit_and wins (bit_not w64 shared)) k ≡ 1 = ap (bit_at (bit_and wins (bit_not w64 shared))) e ∙ t.1 in
    let zero : bit_at shared k ≢ 1 = λ one. absurd (omega (arith, left-out wins shared k fits within, set_there, one)) in
    let fails = some-fails (λ marks. is_win (mark_at marks k)) group (bit-not _ _ (h k within) zero) in
    any-weaker (λ m. not (is_win (mark_at m k))) (λ marks. not (wins_in (1 * 2 ^ k % 2 ^ 64) marks)) group (λ m out. ap not (false_from_ne_true _ (λ wins.
    let shifted = one-shifted k within in
    let w = wins_in-some (1 * 2 ^ k % 2 ^ 64) m (omega (arith, shifted, pow_below k 64 within)) wins in
    let power : bit_at (2 ^ k) w.at ≡ 1 = sym (ap (λ (x : ℕ). bit_at x w.at) shifted) ∙ w.bit in
    elim (eqb_tells w.at k) [
      | inl same ↦ let no : true ≡ false = sym w.win ∙ ap (λ (x : ℕ). is_win (mark_at m x)) same.1 ∙ not-true _ out in absurd (cc)
      | inr other ↦ absurd (omega (arith, bit_at-pow_other k w.at other.1, power))
    ]))) fails

-- ---- masks of the conditions so far, and one more
pub IsJoined-step : (test : Mark → Bool) (set : List (List Mark)) (k : ℕ) (marks : List Mark) (mask more : ℕ) → k < length set → marks ≡ get_or set k marks → IsMask test marks more → IsJoined test (take k set) mask → IsJoined test (take (k + 1) set) (bit_or mask more)
IsJoined-step test set k marks mask more within is m h = subst (λ (l : List (List Mark)). IsJoined test l (bit_or mask more)) (take-push set k marks within is) (IsJoined-push test (take k set) marks mask more m h)

pub IsShared-step : (set : List (List Mark)) (k : ℕ) (marks : List Mark) (mask more : ℕ) → k < length set → marks ≡ get_or set k marks → IsMask is_win marks more → IsShared (take k set) mask → IsShared (take (k + 1) set) (bit_and mask more)
IsShared-step set k marks mask more within is m h = subst (λ (l : List (List Mark)). IsShared l (bit_and mask more)) (take-push set k marks within is) (IsShared-push (take k set) marks mask more m h)

pub IsJoined-in : (test : Mark → Bool) (p : List Mark → Bool) (set : List (List Mark)) (k : ℕ) (marks : List Mark) (mask more : ℕ) → k < length set → marks ≡ get_or set k marks → p marks ≡ true → IsMask test marks more → IsJoined test (filter p (take k set)) mask → IsJoined test (filter p (take (k + 1) set)) (bit_or mask more)
IsJoined-in test p set k marks mask more within is passes m h = subst (λ (l : List (List Mark)). IsJoined test l (bit_or mask more)) (filter-in p set k marks within is passes) (IsJoined-push test (filter p (take k set)) marks mask more m h)

pub IsJoined-out : (test : Mark → Bool) (p : List Mark → Bool) (set : List (List Mark)) (k : ℕ) (marks : List Mark) (mask : ℕ) → k < length set → marks ≡ get_or set k marks → p marks ≡ false → IsJoined test (filter p (take k set)) mask → IsJoined test (filter p (take (k + 1) set)) mask
IsJoined-out test p set k marks mask within is fails h = subst (λ (l : List (List Mark)). IsJoined test l mask) (filter-out p set k marks within is fails) h
