use Rattle.std.proofs.Common.{◌≡◌, ◌+◌, ◌++◌, length, map, List}
use Rattle.prefix_deques.specs.Dealing.{lists_of}
use Rattle.prefix_deques.specs.Made.{Cut, HaveLanes, uncut}
use Rattle.prefix_deques.proofs.Ending.{before_of, last_of}
use Rattle.prefix_deques.proofs.settling.column.Given as goal

abbrev pub invariant-loop : goal.invariant-loop
invariant-loop l =
    (cuts : List Cut)
    × (lists_of l.initial.rows.items ≡ map uncut cuts ++ lists_of l.rows.items)
    × (lists_of l.rest.items ≡ map before_of cuts)
    × (l.column.items ≡ map last_of cuts)
    × (l.counter + length (lists_of l.rows.items) ≡ length (lists_of l.initial.rows.items))
    × HaveLanes (lists_of l.rows.items)
