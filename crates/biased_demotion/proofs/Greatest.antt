-- The first number that passes a test and to which the greatest number belongs, found in a walk.
use Rattle.std.proofs.Common.{◌≡◌, ℕ, ◌+◌, ◌<◌, ◌≤◌, Bool, true, arith, sym, ap, ◌∙◌, inl, inr}
use Rattle.std.specs.Prelude.{Option, Some, None, IfSome, IfNone}
use Rattle.std.proofs.lemmas.Bool.{cases_lt}
use Rattle.biased_demotion.specs.Shown.{IsFirstGreatest}

-- the best of the numbers below k, if one of them has a positive number, and that number, else 0
abbrev pub IsGreatestSoFar : ℕ → (ℕ → Bool) → (ℕ → ℕ) → Option ℕ → ℕ → Type 0
IsGreatestSoFar k test number None most = (most ≡ 0) × ((d : ℕ) → d < k → test d ≡ true → number d ≡ 0)
IsGreatestSoFar k test number (Some best) most = (most ≡ number best) × IsFirstGreatest k test number best

pub IsGreatestSoFar-none : (test : ℕ → Bool) (number : ℕ → ℕ) → IsGreatestSoFar 0 test number None 0
IsGreatestSoFar-none test number = (omega arith, λ d below passes. absurd (omega arith))

bounded : (k : ℕ) (test : ℕ → Bool) (number : ℕ → ℕ) (best : Option ℕ) (most : ℕ) → IsGreatestSoFar k test number best most → (d : ℕ) → d < k → test d ≡ true → number d ≤ most
bounded k test number None most h d below passes = omega (arith, h.0, h.1 d below passes)
bounded k test number (Some best) most h d below passes = omega (arith, h.0, h.1.greatest d below passes)

-- one that does not pass, or to which no greater number belongs
pub IsGreatestSoFar-kept : (k : ℕ) (test : ℕ → Bool) (number : ℕ → ℕ) (best : Option ℕ) (most : ℕ) → (test k ≡ true → number k ≤ most) → IsGreatestSoFar k test number best most → IsGreatestSoFar (k + 1) test number best most
IsGreatestSoFar-kept k test number None most less h = (
  h.0,
  λ d below passes. elim (cases_lt d k) [
    | inl early ↦ h.1 d early passes
    | inr last ↦ let same : d ≡ k = omega arith in omega (arith, h.0, ap number same, less (ap test (sym same) ∙ passes))
  ],
)
IsGreatestSoFar-kept k test number (Some best) most less h = (
  h.0,
  record {
    below = omega (arith, h.1.below);
    passes = h.1.passes;
    some = h.1.some;
    greatest = λ d below passes. elim (cases_lt d k) [
      | inl early ↦ h.1.greatest d early passes
      | inr last ↦ let same : d ≡ k = omega arith in omega (arith, h.0, ap number same, less (ap test (sym same) ∙ passes))
    ];
    first = h.1.first;
  },
)

-- one to which a greater number belongs
pub IsGreatestSoFar-more : (k : ℕ) (test : ℕ → Bool) (number : ℕ → ℕ) (best : Option ℕ) (most : ℕ) → test k ≡ true → most < number k → IsGreatestSoFar k test number best most → IsGreatestSoFar (k + 1) test number (Some k) (number k)
IsGreatestSoFar-more k test number best most passes more h = (
  omega arith,
  record {
    below = omega arith;
    passes = passes;
    some = omega (arith, more);
    greatest = λ d below p. elim (cases_lt d k) [
      | inl early ↦ omega (arith, more, bounded k test number best most h d early p)
      | inr last ↦ let same : d ≡ k = omega arith in omega (arith, ap number same)
    ];
    first = λ d early p. omega (arith, more, bounded k test number best most h d early p);
  },
)

-- ---- at the end of the walk
pub found_greatest : (k : ℕ) (test : ℕ → Bool) (number : ℕ → ℕ) (best : Option ℕ) (most : ℕ) → IsGreatestSoFar k test number best most → IfSome best (λ c. IsFirstGreatest k test number c)
found_greatest k test number None most h = tt
found_greatest k test number (Some best) most h = h.1

pub found_none : (k : ℕ) (test : ℕ → Bool) (number : ℕ → ℕ) (best : Option ℕ) (most : ℕ) → IsGreatestSoFar k test number best most → IfNone best ((d : ℕ) → d < k → test d ≡ true → number d ≡ 0)
found_none k test number None most h = h.1
found_none k test number (Some best) most h = tt
