-- the first classes are put, and there is room for the others
use Rattle.std.proofs.Common.{◌≡◌, ◌+◌, ◌-◌, ◌≤◌, ◌++◌, length, take}
use Rattle.std.specs.Vec.{vec_len, vec_capacity}
use Rattle.cut_list.proofs.list.put_reserved.Given as goal

abbrev pub invariant-loop-class : goal.invariant-loop-class
invariant-loop-class l = (l.classes.items ≡ l.initial.classes.items ++ take l.class-index l.own) × (vec_len l.classes + (length l.own - l.class-index) ≤ vec_capacity l.classes)
