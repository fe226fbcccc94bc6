-- as many empty lists as turns
use Rattle.std.proofs.Common.{◌≡◌, ℕ, [], length, get_or}
use Rattle.search_deeds.proofs.index.Index.new.Given as goal

abbrev pub invariant-loop : goal.invariant-loop
invariant-loop l = record {
  long : length l.places.items ≡ l.counter;
  none : (b : ℕ) → get_or l.places.items b [] ≡ [];
  as_long : length l.blocks.items ≡ length l.places.items;
  no_blocks : (b : ℕ) → get_or l.blocks.items b [] ≡ [];
}
