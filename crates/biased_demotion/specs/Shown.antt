-- Sets of constraints as bits of a mask.
use Rattle.std.specs.Prelude.{◌≡◌, ℕ, ◌<◌, ◌≤◌, ◌^◌, Bool, true, ◌&&◌, List, count_by, bit_or, if◌then◌else◌}
use Rattle.std.specs.Int.{bit_at}
use Rattle.ot_theory.specs.declared.Mark.{Mark}
use Rattle.ot_theory.specs.Rankings.{numbers_below}
use Rattle.demotion.specs.Placed.{levels_of, has_bit}
use Rattle.biased_demotion.specs.Biased.{is_free}

-- The bit of a constraint is set exactly where it passes the test.
abbrev pub Shows : ℕ → (ℕ → Bool) → Type 0
Shows mask test = (c : ℕ) → bit_at mask c ≡ (if test c then 1 else 0)

-- how many of the markedness constraints are free once this constraint is placed besides those of the mask
unfoldable pub freed_in : ℕ → ℕ → List (List Mark) → ℕ → ℕ
freed_in markedness placed set c = count_by (λ d. has_bit markedness d && is_free (levels_of (bit_or placed (2 ^ c))) set d) (numbers_below 64)

-- Of the numbers below n that pass the test, one for which the number of it is the greatest, and positive, and the first such.
pub record IsFirstGreatest (n : ℕ) (test : ℕ → Bool) (number : ℕ → ℕ) (c : ℕ) : Type 0 where
  pub below : c < n
  pub passes : test c ≡ true
  pub some : 0 < number c
  pub greatest : (d : ℕ) → d < n → test d ≡ true → number d ≤ number c
  pub first : (d : ℕ) → d < c → test d ≡ true → number d < number c
