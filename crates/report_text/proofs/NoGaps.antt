-- The least hierarchy of a set of conditions leaves no stratum empty.
use Rattle.std.proofs.Common.{◌≡◌, ◌≢◌, ◌⊎◌, ℕ, zero, suc, ◌-◌, ◌<◌, ◌≤◌, max, Bool, not, ◌&&◌, ◌||◌, IsTrue, List, [], ◌∷◌, Contains, length, map, fold, get_or, nat_lt, if◌then◌else◌, arith, refl, sym, ap, subst, ◌∙◌, inl, inr}
use Rattle.std.specs.List.{list_any, list_all}
use Rattle.std.proofs.lemmas.Bool.{lt-ltb, le-ltb, cases_lt, cases_eq}
use Rattle.std.proofs.lemmas.List.{length-map, get_or_past}
use Rattle.std.proofs.lemmas.List.Elements.{All-map, All-weaker}
use Rattle.ot_theory.specs.declared.Mark.{Mark}
use Rattle.ot_theory.specs.Conditions.{is_win, is_loss, mark_at}
use Rattle.ot_theory.specs.Hierarchies.{satisfies, Satisfies, IsLeastHierarchy}
use Rattle.ot_theory.specs.Rankings.{numbers_below}
use Rattle.report_text.specs.Printable.{IsHierarchy}

-- ---- the levels without the gap at s
abbrev closed : ℕ → ℕ → ℕ
closed s level = if nat_lt s level then level - 1 else level

closed-above : (s level : ℕ) → s < level → closed s level ≡ level - 1
closed-above s level above = rw (lt-ltb s level above) refl

closed-below : (s level : ℕ) → level ≤ s → closed s level ≡ level
closed-below s level below = rw (le-ltb s level below) refl

same_order : (a b c d : ℕ) → (a < b → c < d) → (b ≤ a → d ≤ c) → nat_lt c d ≡ nat_lt a b
same_order a b c d less more = elim (cases_lt a b) [
  | inl before ↦ lt-ltb c d (less before) ∙ sym (lt-ltb a b before)
  | inr behind ↦ le-ltb c d (more behind) ∙ sym (le-ltb a b behind)
]

closed-order : (s a b : ℕ) → a ≢ s → b ≢ s → nat_lt (closed s a) (closed s b) ≡ nat_lt a b
closed-order s a b first second = elim (cases_lt s a) [
  | inl above ↦ elim (cases_lt s b) [
    | inl high ↦ same_order a b (closed s a) (closed s b) (λ h. omega (arith, h, closed-above s a above, closed-above s b high)) (λ h. omega (arith, h, above, high, closed-above s a above, closed-above s b high))
    | inr low ↦ same_order a b (closed s a) (closed s b) (λ h. absurd (omega (arith, h, above, low))) (λ h. omega (arith, above, low, closed-above s a above, closed-below s b low))
  ]
  | inr below ↦ elim (cases_lt s b) [
    | inl high ↦ same_order a b (closed s a) (closed s b) (λ h. omega (arith, below, high, first, closed-below s a below, closed-above s b high)) (λ h. absurd (omega (arith, h, below, high)))
    | inr low ↦ same_order a b (closed s a) (closed s b) (λ h. omega (arith, h, closed-below s a below, closed-below s b low)) (λ h. omega (arith, h, closed-below s a below, closed-below s b low))
  ]
]

closed-at : (s : ℕ) (levels : List ℕ) (c : ℕ) → get_or (map (closed s) levels) c 0 ≡ closed s (get_or levels c 0)
closed-at s [] c = sym (closed-below s 0 (omega arith))
closed-at s (level ∷ levels) zero = refl
closed-at s (level ∷ levels) (suc c) = closed-at s levels c

any-same : {X : Type 0} (p q : X → Bool) → ((x : X) → p x ≡ q x) → (xs : List X) → list_any p xs ≡ list_any q xs
any-same p q same [] = refl
any-same p q same (x ∷ xs) = rw (same x, any-same p q same xs) refl

all-same : {X : Type 0} (p q : X → Bool) → ((x : X) → p x ≡ q x) → (xs : List X) → list_all p xs ≡ list_all q xs
all-same p q same [] = refl
all-same p q same (x ∷ xs) = rw (same x, all-same p q same xs) refl

satisfies-closed : (s : ℕ) (levels : List ℕ) (marks : List Mark) → ((c : ℕ) → get_or levels c 0 ≢ s) → satisfies (map (closed s) levels) marks ≡ satisfies levels marks
satisfies-closed s levels marks unused = all-same _ _
    (λ d. ap (λ (b : Bool). not (is_loss (mark_at marks d)) || b) (any-same _ _ (λ c. ap (λ (b : Bool). is_win (mark_at marks c) && b) (order c d)) (numbers_below (length marks))))
    (numbers_below (length marks))
  where
    order : (c d : ℕ) → nat_lt (get_or (map (closed s) levels) c 0) (get_or (map (closed s) levels) d 0) ≡ nat_lt (get_or levels c 0) (get_or levels d 0)
    order c d = rw (closed-at s levels c, closed-at s levels d) (closed-order s (get_or levels c 0) (get_or levels d 0) (unused c) (unused d))

satisfying : (n : ℕ) (set : List (List Mark)) (levels : List ℕ) (s : ℕ) → 1 ≤ s → ((c : ℕ) → get_or levels c 0 ≢ s) → Satisfies n set levels → Satisfies n set (map (closed s) levels)
satisfying n set levels s from unused h = record {
  width = length-map levels (closed s) ∙ h.width;
  from_one = All-map (λ level. 1 ≤ level) (closed s) levels (All-weaker (λ level. 1 ≤ level) (λ level. 1 ≤ closed s level) low levels h.from_one);
  each = All-weaker (λ marks. IsTrue (satisfies levels marks)) (λ marks. IsTrue (satisfies (map (closed s) levels) marks))
      (λ marks kept. subst (λ (b : Bool). IsTrue b) (sym (satisfies-closed s levels marks unused)) kept) set h.each;
}
  where
    low : (level : ℕ) → 1 ≤ level → 1 ≤ closed s level
    low level some = elim (cases_lt s level) [ inl above ↦ omega (arith, above, from, closed-above s level above) | inr below ↦ omega (arith, some, closed-below s level below) ]

-- ---- a number that is used, or not
later : (s level : ℕ) (levels : List ℕ) → level ≢ s → ((c : ℕ) → c < length levels → get_or levels c 0 ≢ s) → (c : ℕ) → c < length (level ∷ levels) → get_or (level ∷ levels) c 0 ≢ s
later s level levels first others zero below = first
later s level levels first others (suc c) below = others c (omega (arith, below))

used_or_not : (s : ℕ) (levels : List ℕ) → Contains levels s ⊎ ((c : ℕ) → c < length levels → get_or levels c 0 ≢ s)
used_or_not s [] = inr (λ c below. absurd (omega (arith, below)))
used_or_not s (level ∷ levels) = elim (cases_eq level s) [
  | inl same ↦ inl (0, omega arith, same)
  | inr other ↦ elim (used_or_not s levels) [ inl at ↦ inl (suc at.0, omega (arith, at.1), at.2) | inr none ↦ inr (later s level levels other none) ]
]

record HasOneFrom (s : ℕ) (levels : List ℕ) : Type 0 where
  at : ℕ
  within : at < length levels
  high : s ≤ get_or levels at 0

one_from : (s a : ℕ) (levels : List ℕ) → a < s → s ≤ fold max a levels → HasOneFrom s levels
one_from s a [] low high = absurd (omega (arith, low, high))
one_from s a (level ∷ levels) low high = elim (cases_lt level s) [
  | inl small ↦ let other = one_from s (max a level) levels (omega (arith, low, small)) high in record { at = suc other.at; within = omega (arith, other.within); high = other.high }
  | inr big ↦ record { at = 0; within = omega arith; high = big }
]

unused_at : (s : ℕ) (levels : List ℕ) → 1 ≤ s → ((c : ℕ) → c < length levels → get_or levels c 0 ≢ s) → (c : ℕ) → get_or levels c 0 ≢ s
unused_at s levels from none c = elim (cases_lt c (length levels)) [
  | inl within ↦ none c within
  | inr past ↦ λ e. omega (arith, from, e, get_or_past levels c 0 past)
]

no_gap : (n : ℕ) (set : List (List Mark)) (levels : List ℕ) → IsLeastHierarchy n set levels → (s : ℕ) → 1 ≤ s → s ≤ fold max 0 levels → Contains levels s
no_gap n set levels h s from to = elim (used_or_not s levels) [
  | inl used ↦ used
  | inr none ↦
      let one = one_from s 0 levels (omega (arith, from)) to in
      let least = h.least (map (closed s) levels) (satisfying n set levels s from (unused_at s levels from none) h.satisfying) one.at in
      let differs = none one.at one.within in
      let above : s < get_or levels one.at 0 = omega (arith, one.high, differs) in
      absurd (omega (arith, above, least, closed-at s levels one.at, closed-above s (get_or levels one.at 0) above))
]

pub hierarchy-least : (n : ℕ) (set : List (List Mark)) (levels : List ℕ) → IsLeastHierarchy n set levels → IsHierarchy n levels
hierarchy-least n set levels h = record { width = h.satisfying.width; from_one = h.satisfying.from_one; used = no_gap n set levels h }
