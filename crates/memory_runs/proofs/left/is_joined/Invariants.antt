-- the bytes are the pieces so far, and the rest
use Rattle.memory_runs.proofs.Joined.{IsSplit}
use Rattle.memory_runs.proofs.left.is_joined.Given as goal

abbrev pub invariant-loop-piece : goal.invariant-loop-piece
invariant-loop-piece l = IsSplit l.bytes l.pieces l.piece-index l.rest
