-- nothing is made so far
use Rattle.std.proofs.Common.{◌≡◌, None}
use Rattle.std.specs.Prelude.{All}
use Rattle.search_deeds.proofs.ready.Ready.new.Given as goal

abbrev pub invariant-loop : goal.invariant-loop
invariant-loop l = All (λ place. place ≡ None) l.entries.items
