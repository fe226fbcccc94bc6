use Rattle.std.proofs.Common.{◌≡◌, ℕ, [], length}
use Rattle.std.specs.Prelude.{slice_index_or}
use Rattle.typology_workers.proofs.index.Index.new.Given as goal

abbrev pub invariant-loop-slot : goal.invariant-loop-slot
invariant-loop-slot l = record {
  long : length l.slots.items ≡ l._slot;
  as_long : length l.marks.items ≡ l._slot;
  empty : (s : ℕ) → slice_index_or l.slots.items s [] ≡ [];
  unmarked : (s : ℕ) → slice_index_or l.marks.items s [] ≡ [];
}
