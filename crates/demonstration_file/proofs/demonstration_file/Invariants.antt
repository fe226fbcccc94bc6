-- the rows of the first k inputs are written, with fifteen draws for each
use Rattle.std.proofs.Common.{◌≡◌, ◌*◌, ◌++◌, flat_map}
use Rattle.demonstration_file.specs.Demonstration.{line, state_after}
use Rattle.demonstration_file.proofs.Growing.{inputs_below}
use Rattle.demonstration_file.proofs.demonstration_file.Given as goal

abbrev pub invariant-loop-k : goal.invariant-loop-k
invariant-loop-k l =
    (l.text ≡ l.initial.text ++ flat_map line (inputs_below l.fn.number l.k)) × (l.generator ≡ state_after l.fn.number (15 * l.k))
