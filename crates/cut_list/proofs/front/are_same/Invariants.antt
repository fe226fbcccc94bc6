-- whether the first ones are the same
use Rattle.std.proofs.Common.{◌≡◌, true, false, take}
use Rattle.cut_list.proofs.front.are_same.Given as goal

abbrev pub invariant-loop-k : goal.invariant-loop-k
invariant-loop-k l = (l.same ≡ true → take l.k l.before ≡ take l.k l.classes) × (l.same ≡ false → take l.k l.before ≡ take l.k l.classes → ⊥)
