-- each option so far has one of the names
use Rattle.std.proofs.Common.{◌≡◌, map, drop}
use Rattle.command_words.specs.Words.{are_among}
use Rattle.command_words.specs.CommandLines.{given}
use Rattle.command_words.proofs.cut.are_among.Given as goal

abbrev pub invariant-loop-option : goal.invariant-loop-option
invariant-loop-option l =
    are_among (map (λ name. name.now) l.names) (map given l.options) ≡ are_among (map (λ name. name.now) l.names) (map given (drop l.option-index l.options))
