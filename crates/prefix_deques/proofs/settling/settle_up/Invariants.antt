use Rattle.std.proofs.Common.{◌≡◌, ◌++◌, length, map, List}
use Rattle.prefix_deques.specs.Dealing.{lists_of}
use Rattle.prefix_deques.specs.Made.{Desk}
use Rattle.prefix_deques.specs.Booked.{all_later}
use Rattle.prefix_deques.proofs.Ending.{Facts, Agreed, HaveColumns, seat_of, owner_of}
use Rattle.prefix_deques.proofs.settling.settle_up.Given as goal

abbrev pub invariant-loop-number : goal.invariant-loop-number
invariant-loop-number l =
    (ds : List Desk)
    × (todo : List Desk)
    × (done : List Desk)
    × Facts l.fn.seats ds
    × (ds ≡ todo ++ done)
    × (l.owners.items ≡ map owner_of todo)
    × HaveColumns ds (lists_of l.columns.items) todo
    × (length (lists_of l.columns.items) ≡ length ds)
    × Agreed l.fn.seats done
    × (l.left ≡ all_later l.fn.seats (map seat_of done))
    × (l.shown.value ≡ l.fn.seats)

abbrev pub decreases-loop-number : goal.decreases-loop-number
decreases-loop-number l = length l.owners.items
