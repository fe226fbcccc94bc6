-- the classes of the first inputs are noted
use Rattle.refutation.specs.Prefixes.{class_numbers}
use Rattle.t_orders.proofs.Tables.{IsNoted}
use Rattle.t_orders.proofs.row.note.Given as goal

abbrev pub invariant-loop-j : goal.invariant-loop-j
invariant-loop-j l = IsNoted l.initial.seen l.seen (class_numbers l.choice) l.j
