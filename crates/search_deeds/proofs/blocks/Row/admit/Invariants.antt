-- the words so far have the bit where the winner may go with them
use Rattle.std.proofs.Common.{◌≡◌}
use Rattle.search_deeds.proofs.Admitting.{AreGiven}
use Rattle.search_deeds.proofs.blocks.Row.admit.Given as goal

abbrev pub invariant-loop-k : goal.invariant-loop-k
invariant-loop-k l = record {
  input : l.self.input ≡ l.initial.self.input;
  given : AreGiven l.initial.self.words l.self.words l.winner l.bit l.k;
}
