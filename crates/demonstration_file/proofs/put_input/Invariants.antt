-- the rows of the first j candidates are written, with three draws for each
use Rattle.std.proofs.Common.{◌≡◌, ◌*◌, ◌++◌, flat_map}
use Rattle.demonstration_file.specs.Demonstration.{line, state_after}
use Rattle.demonstration_file.proofs.Growing.{rows_below}
use Rattle.demonstration_file.proofs.put_input.Given as goal

abbrev pub invariant-loop-j : goal.invariant-loop-j
invariant-loop-j l =
    (l.text ≡ l.initial.text ++ flat_map line (rows_below l.initial.generator l.k l.j)) × (l.generator ≡ state_after l.initial.generator (3 * l.j))
