-- the flags are those of the constraints so far
use Rattle.std.proofs.Common.{◌≡◌, take}
use Rattle.command_words.specs.Words.{named}
use Rattle.command_words.proofs.constraint_list.named_flags.Given as goal

abbrev pub invariant-loop-constraint : goal.invariant-loop-constraint
invariant-loop-constraint l = l.flags.items ≡ named l.n (take l.constraint-index l.list)
