-- what was found is the value so far, and those of the options left come behind it
use Rattle.std.proofs.Common.{◌≡◌, ◌++◌, map, drop, option_map, option_to_list}
use Rattle.command_words.specs.Words.{values_of}
use Rattle.command_words.specs.CommandLines.{given}
use Rattle.command_words.proofs.cut.value_of.Given as goal

abbrev pub invariant-loop-option : goal.invariant-loop-option
invariant-loop-option l =
    values_of l.name (map given l.options) ≡ option_to_list (option_map (λ text. text.now) l.found) ++ values_of l.name (map given (drop l.option-index l.options))
