-- A generator of numbers, linear congruential, with a state of 64 bits.
use Rattle.std.specs.Prelude.{ℕ, ◌+◌, ◌*◌, ◌/◌, ◌%◌, ◌^◌}

-- the state after a draw
abbrev pub next_state : ℕ → ℕ
next_state state = (state * 6364136223846793005 + 1442695040888963407) % 2 ^ 64

-- the number below k that is drawn from a state: the state after it, shifted right by 33 bits, modulo k
abbrev pub drawn_below : ℕ → ℕ → ℕ
drawn_below k state = next_state state / 2 ^ 33 % k
