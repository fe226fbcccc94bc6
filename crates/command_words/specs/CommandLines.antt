-- A command line in memory, as what it was cut from.
use Rattle.std.specs.Prelude.{◌≡◌, ◌<◌, ◌≤◌, ⊤, ℕ, List, length, map, option_map, Option, Some, None, string_bytes, if◌then◌else◌}
use Rattle.std.specs.List.{before_first, after_first}
use Rattle.command_words.specs.Words.{Given, Cut, cut_from, cut_of, has_value, is_equals_sign, only_words, with_word, with_option}
use Rattle.command_words.specs.declared.cut.Head.{Head}
use Rattle.command_words.specs.declared.cut.Head.TheVariants.{Word, Valued, Words, Faulty}
use Rattle.command_words.specs.declared.cut.GivenOption.{GivenOption}
use Rattle.command_words.specs.declared.cut.CommandLine.{CommandLine}

abbrev pub given : GivenOption → Given
given option = record { name = option.name.now; value = option.value.now }

abbrev pub shown : CommandLine → Cut
shown line = record { positional = map (λ word. word.now) line.words; options = map given line.options }

-- How a cut is continued: what stands first in it, and the cut of the words behind that.
abbrev pub BeginsWith : Option Cut → Head → Type 0
BeginsWith cut (Word word rest) = cut ≡ option_map (with_word word.now) (cut_of (map string_bytes rest.now))
BeginsWith cut (Valued option rest) = cut ≡ option_map (with_option option.name.now option.value.now) (cut_of (map string_bytes rest.now))
BeginsWith cut (Words rest) = cut ≡ Some (only_words (map string_bytes rest.now))
BeginsWith cut Faulty = cut ≡ None

-- the cut that begins with an option, from what follows its dashes
abbrev pub cut_at_option : List ℕ → List (List ℕ) → Option Cut
cut_at_option text words =
    if has_value text
    then option_map (with_option (before_first is_equals_sign text) (after_first is_equals_sign text)) (cut_of words)
    else cut_from (Some text) words

-- fewer words are left behind what stands first
abbrev pub IsShorter : ℕ → Head → Type 0
IsShorter n (Word word rest) = length rest.now < n
IsShorter n (Valued option rest) = length rest.now < n
IsShorter n (Words rest) = length rest.now ≤ n
IsShorter n Faulty = ⊤
