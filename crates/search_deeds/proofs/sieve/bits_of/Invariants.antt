-- the bits of the choices so far
use Rattle.std.proofs.Common.{take}
use Rattle.refutation.specs.Prefixes.{class_numbers}
use Rattle.search_deeds.specs.Sieved.{HasBits}
use Rattle.search_deeds.proofs.sieve.bits_of.Given as goal

abbrev pub invariant-loop-i : goal.invariant-loop-i
invariant-loop-i l = HasBits (take l.i (class_numbers l.prefix)) l.bits
