-- A walk over the constraints that gives the free ones a number.
use Rattle.std.proofs.Common.{◌≡◌, ◌≢◌, ℕ, ◌==◌, refl, ◌+◌, ◌<◌, ◌≤◌, List, Bool, false, arith, sym, ◌∙◌, ap, cond, length, get_or, set, below_more}
use Rattle.std.proofs.lemmas.Bool.Decides.{nat_tests}
use Rattle.std.proofs.lemmas.List.{get_or-set_same, get_or-set_other}
use Rattle.std.proofs.lemmas.List.Sums.{sum_by-set}
use Rattle.ot_theory.specs.Rankings.{count_of}
use Rattle.ot_theory.specs.Demotion.{level_after}

-- The constraints below k are placed where they are free, and the others are as they were.
pub record ArePlaced (blocked : List Bool) (given : ℕ) (old : List ℕ) (k placed : ℕ) (new : List ℕ) : Type 0 where
  pub done : (c : ℕ) → c < k → get_or new c 0 ≡ level_after (get_or old c 0) (get_or blocked c false) given
  pub rest : (c : ℕ) → k ≤ c → get_or new c 0 ≡ get_or old c 0
  pub few : placed ≤ k
  pub counted : count_of 0 new + placed ≡ count_of 0 old
  pub idle : placed ≡ 0 → new ≡ old

-- one that is placed already, or blocked
pub ArePlaced-past : (blocked : List Bool) (given : ℕ) (old : List ℕ) (k placed : ℕ) (new : List ℕ) → level_after (get_or new k 0) (get_or blocked k false) given ≡ get_or new k 0 → ArePlaced blocked given old k placed new → ArePlaced blocked given old (k + 1) placed new
ArePlaced-past blocked given old k placed new e h = record {
  done = below_more _ _ h.done (sym e ∙ ap (λ (x : ℕ). level_after x (get_or blocked k false) given) (h.rest k (omega arith)));
  rest = λ c l. h.rest c (omega arith);
  few = omega (arith, h.few);
  counted = h.counted;
  idle = h.idle;
}

abbrev if_none : ℕ → ℕ
if_none level = cond (level == 0) 1 0

-- a free one
pub ArePlaced-free : (blocked : List Bool) (given : ℕ) (old : List ℕ) (k placed : ℕ) (new : List ℕ) → k < length new → get_or new k 0 ≡ 0 → get_or blocked k false ≡ false → 0 < given → ArePlaced blocked given old k placed new → ArePlaced blocked given old (k + 1) (placed + 1) (set new k given)
ArePlaced-free blocked given old k placed new within none free some h = record {
  done = below_more _ _
      (λ c below. let other : c ≢ k = omega arith in get_or-set_other new k c given 0 other ∙ h.done c below)
      (let was : get_or old k 0 ≡ 0 = sym (h.rest k (omega arith)) ∙ none in get_or-set_same new k given 0 within ∙ rw (was, free) refl);
  rest = λ c l. let other : c ≢ k = omega arith in get_or-set_other new k c given 0 other ∙ h.rest c (omega arith);
  few = omega (arith, h.few);
  counted =
      let before : if_none (get_or new k 0) ≡ 1 = rw none refl in
      let after : if_none given ≡ 0 = grind (arith, nat_tests) in
      omega (arith, sum_by-set if_none new k given 0 within, before, after, h.counted);
  idle = λ e. absurd (omega arith);
}
