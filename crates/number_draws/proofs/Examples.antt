-- From the state 0.
use Rattle.std.proofs.Common.{◌≡◌, ◌/◌, ◌^◌, refl}
use Rattle.number_draws.specs.Draws.{drawn_below, next_state}

pub from-zero : next_state 0 ≡ 1442695040888963407
from-zero = refl

pub shifted : next_state 0 / 2 ^ 33 ≡ 167951807
shifted = refl

pub below-three : drawn_below 3 0 ≡ 2
below-three = refl
