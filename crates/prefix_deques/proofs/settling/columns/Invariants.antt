use Rattle.std.proofs.Common.{◌≡◌, ◌-◌, map, take}
use Rattle.prefix_deques.specs.Dealing.{lists_of}
use Rattle.prefix_deques.specs.Made.{columns_from}
use Rattle.prefix_deques.proofs.settling.columns.Given as goal

abbrev pub invariant-loop : goal.invariant-loop
invariant-loop l =
    (lists_of l.rows.items ≡ map (take (l.deques - l.counter)) (lists_of l.initial.rows.items))
    × (lists_of l.columns.items ≡ columns_from (l.deques - l.counter) l.counter (lists_of l.initial.rows.items))
