-- The children of the classes so far wait behind those that waited.
use Rattle.std.proofs.Common.{◌≡◌, ◌++◌}
use Rattle.search_deeds.proofs.Children.{children_below}
use Rattle.typology_workers.proofs.gatherer.add_all_children.Given as goal

abbrev pub invariant-loop-a : goal.invariant-loop-a
invariant-loop-a l = l.waiting.items ≡ l.initial.waiting.items ++ children_below l.prefix l.a
