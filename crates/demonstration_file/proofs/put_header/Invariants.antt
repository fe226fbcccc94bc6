-- the names of the first c constraints are written
use Rattle.std.proofs.Common.{◌≡◌, ◌∷◌, ◌++◌, flat_map}
use Rattle.std.specs.List.{range_with_len}
use Rattle.demonstration_file.specs.Demonstration.{constraint_name}
use Rattle.demonstration_file.proofs.put_header.Given as goal

abbrev pub invariant-loop-c : goal.invariant-loop-c
invariant-loop-c l = l.text ≡ l.initial.text ++ flat_map (λ c. 9 ∷ constraint_name c) (range_with_len 1 l.c)
