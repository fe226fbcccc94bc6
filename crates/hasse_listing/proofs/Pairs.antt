-- The condition that one constraint stands above another, and the one that holds a constraint back.
use Rattle.std.proofs.Common.{◌≡◌, ◌≢◌, ℕ, ◌<◌, List, ◌∷◌, Bool, true, false, not, ◌&&◌, ◌||◌, arith, refl, sym, ◌∙◌, ap, inl, inr, length, map, cond}
use Rattle.std.specs.Prelude.{◌==◌}
use Rattle.std.specs.List.{list_all}
use Rattle.std.proofs.lemmas.Bool.{eq-eqb, ne_eqb, cases_lt, false_from_ne_true}
use Rattle.std.proofs.lemmas.Bool.Decides.{eqb_tells}
use Rattle.std.proofs.lemmas.List.{get_or_past}
use Rattle.std.proofs.lemmas.List.FromFn.{length-map-range_with_len, get_or-map-range_with_len}
use Rattle.std.proofs.lemmas.List.Sums.{AllPass-from_list_all}
use Rattle.ot_theory.specs.declared.Mark.{Mark}
use Rattle.ot_theory.specs.declared.Mark.TheVariants.{W, L, E}
use Rattle.ot_theory.specs.Rankings.{numbers_below}
use Rattle.ot_theory.specs.Conditions.{mark_at, is_loss, is_even}
use Rattle.ot_theory.specs.Demotion.{is_closed, is_blocked}
use Rattle.ot_theory.proofs.Demotion.{closed-placed}
use Rattle.ot_theory.proofs.Strata.{mark_at-within}
use Rattle.hasse_listing.specs.Covers.{over}
pub use Rattle.ot_theory.proofs.Pairs.{length-over, mark_at-over}

pub over-above : (n c d : ℕ) → c < n → mark_at (over n c d) c ≡ W
over-above n c d below = mark_at-over n c d c below ∙ rw (eq-eqb c c refl) refl

pub over-below : (n c d : ℕ) → d < n → d ≢ c → mark_at (over n c d) d ≡ L
over-below n c d below other = mark_at-over n c d d below ∙ rw (ne_eqb d c other, eq-eqb d d refl) refl

-- only d has L
pub over-loss : (n c d k : ℕ) → mark_at (over n c d) k ≡ L → k ≡ d
over-loss n c d k loss =
    let below : k < n = omega (arith, mark_at-within (over n c d) k (λ even. let no : L ≡ E = sym loss ∙ even in cc), length-over n c d) in
    let here : cond (k == c) W (cond (k == d) L E) ≡ L = sym (mark_at-over n c d k below) ∙ loss in
    elim (eqb_tells k c) [
      | inl same ↦ let no : W ≡ L = rw same.0 at here in absurd (cc)
      | inr other ↦ elim (eqb_tells k d) [
        | inl there ↦ there.1
        | inr neither ↦ let no : E ≡ L = rw (other.0, neither.0) at here in absurd (cc)
      ]
    ]

-- only c has W
pub over-win : (n c d k : ℕ) → mark_at (over n c d) k ≡ W → k ≡ c
over-win n c d k win =
    let below : k < n = omega (arith, mark_at-within (over n c d) k (λ even. let no : W ≡ E = sym win ∙ even in cc), length-over n c d) in
    let here : cond (k == c) W (cond (k == d) L E) ≡ W = sym (mark_at-over n c d k below) ∙ win in
    elim (eqb_tells k c) [
      | inl same ↦ same.1
      | inr other ↦ elim (eqb_tells k d) [
        | inl there ↦ let no : L ≡ W = rw (other.0, there.0) at here in absurd (cc)
        | inr neither ↦ let no : E ≡ W = rw (other.0, neither.0) at here in absurd (cc)
      ]
    ]

pub over-marked : (n c d : ℕ) → c < n → list_all is_even (over n c d) ≡ false
over-marked n c d below = false_from_ne_true (list_all is_even (over n c d)) (λ even.
    let here : is_even (mark_at (over n c d) c) ≡ true = AllPass-from_list_all is_even (over n c d) even c E (omega (arith, below, length-over n c d)) in
    let no : false ≡ true = sym (ap is_even (over-above n c d below)) ∙ here in
    cc)

-- ---- the condition with L at c and e elsewhere: as long as it is in the set, c is never placed
abbrev pub alone : ℕ → ℕ → List Mark
alone n c = map (λ k. cond (k == c) L E) (numbers_below n)

pub length-alone : (n c : ℕ) → length (alone n c) ≡ n
length-alone n c = length-map-range_with_len (λ (k : ℕ). cond (k == c) L E) 0 n

mark_at-alone : (n c k : ℕ) → c < n → mark_at (alone n c) k ≡ cond (k == c) L E
mark_at-alone n c k within = elim (cases_lt k n) [
  | inl below ↦ get_or-map-range_with_len (λ (j : ℕ). cond (j == c) L E) 0 n k k E below (omega arith)
  | inr past ↦
      let other : k ≢ c = omega arith in
      get_or_past (alone n c) k E (omega (arith, past, length-alone n c)) ∙ sym (rw (ne_eqb k c other) refl)
]

pub alone-loss : (n c : ℕ) → c < n → mark_at (alone n c) c ≡ L
alone-loss n c within = mark_at-alone n c c within ∙ rw (eq-eqb c c refl) refl

pub alone-no_win : (n c k : ℕ) → c < n → mark_at (alone n c) k ≢ W
alone-no_win n c k within win = by (k == c) (sym (mark_at-alone n c k within) ∙ win)
  where
    by : (t : Bool) → cond t L E ≡ W → ⊥
    by true e = absurd (cc)
    by false e = absurd (cc)

closed-alone : (levels : List ℕ) (n c : ℕ) → c < n → is_closed levels (alone n c) ≡ false
closed-alone levels n c within = false_from_ne_true (is_closed levels (alone n c)) (λ closed. let w = closed-placed levels (alone n c) closed in alone-no_win n c w.it within w.win)

-- It blocks c, and no other constraint.
pub blocked-alone : (levels : List ℕ) (n c : ℕ) (set : List (List Mark)) (x : ℕ) → c < n → is_blocked levels (alone n c ∷ set) x ≡ ((x == c) || is_blocked levels set x)
blocked-alone levels n c set x within = rw (closed-alone levels n c within, mark_at-alone n c x within) (by (x == c) (is_blocked levels set x))
  where
    by : (t b : Bool) → ((not false && is_loss (cond t L E)) || b) ≡ (t || b)
    by true b = refl
    by false b = refl
