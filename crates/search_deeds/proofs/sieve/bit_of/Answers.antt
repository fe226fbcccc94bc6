use Rattle.std.proofs.Common.{◌≡◌, ◌<◌, ℕ, ◌+◌, ◌*◌, ◌%◌, ◌^◌, arith, ap, ◌∙◌}
use Rattle.std.proofs.Math.Nat.{mod-eq_of_lt, mod-lt}
use Rattle.std.proofs.Math.Pow.{pow-lt}
use Rattle.search_deeds.specs.Sieved.{choice_bit}
use Rattle.search_deeds.proofs.sieve.bit_of.Goals as goal

pub returns : goal.returns
unfolding choice_bit
returns c =
    let sum : ℕ = c.args.input % 64 * 37 + c.args.class.0 in
    let small : 2 ^ (sum % 64) < 2 ^ 64 = pow-lt (mod-lt sum (omega arith)) in
    let one : 1 * 2 ^ (sum % 64) ≡ 2 ^ (sum % 64) = omega arith in
    ap (λ (x : ℕ). x % 2 ^ 64) one ∙ mod-eq_of_lt small
