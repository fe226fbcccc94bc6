-- nothing is remembered so far
use Rattle.std.proofs.Common.{◌≡◌, None}
use Rattle.std.specs.Prelude.{All}
use Rattle.typology_workers.proofs.memo.Memo.new.Given as goal

abbrev pub invariant-loop : goal.invariant-loop
invariant-loop l = All (λ place. place ≡ None) l.entries.items
