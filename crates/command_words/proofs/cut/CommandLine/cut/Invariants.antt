-- what was read, and the cut of the rest behind it, are the cut of the words
use Rattle.std.proofs.Common.{◌≡◌, map, length, option_map, string_bytes}
use Rattle.command_words.specs.Words.{cut_of}
use Rattle.command_words.specs.CommandLines.{shown}
use Rattle.command_words.proofs.Cuts.{joined}
use Rattle.command_words.proofs.cut.CommandLine.cut.Given as goal

abbrev pub invariant-loop-word : goal.invariant-loop-word
invariant-loop-word l = cut_of (map string_bytes l.fn.words) ≡ option_map (joined (shown l.line)) (cut_of (map string_bytes l.rest))

abbrev pub decreases-loop-word : goal.decreases-loop-word
decreases-loop-word l = length l.rest
