-- Cuts that go on behind what was read.
use Rattle.std.proofs.Common.{◌≡◌, ℕ, List, [], ◌∷◌, ◌++◌, map, Option, Some, None, option_map, append_assoc, refl, sym, ap, Bor}
use Rattle.std.proofs.lemmas.List.{map-append}
use Rattle.command_words.specs.Words.{Given, Cut, with_word, with_option}
use Rattle.command_words.specs.CommandLines.{given, shown}
use Rattle.command_words.specs.declared.cut.GivenOption.{GivenOption}
use Rattle.command_words.specs.declared.cut.CommandLine.{CommandLine}

-- one cut behind another
abbrev pub joined : Cut → Cut → Cut
joined before cut = record { positional = before.positional ++ cut.positional; options = before.options ++ cut.options }

joined-word : (words : List (List ℕ)) (options : List Given) (word : List ℕ) (cut : Option Cut)
    → option_map (joined (record { positional = words; options = options })) (option_map (with_word word) cut) ≡ option_map (joined (record { positional = words ++ word ∷ []; options = options })) cut
joined-word words options word None = refl
joined-word words options word (Some cut) =
    ap (λ (all : List (List ℕ)). Some (record { positional = all; options = options ++ cut.options })) (sym (append_assoc words (word ∷ []) cut.positional))

joined-option : (words : List (List ℕ)) (options : List Given) (name value : List ℕ) (cut : Option Cut)
    → option_map (joined (record { positional = words; options = options })) (option_map (with_option name value) cut)
    ≡ option_map (joined (record { positional = words; options = options ++ record { name = name; value = value } ∷ [] })) cut
joined-option words options name value None = refl
joined-option words options name value (Some cut) =
    ap (λ (all : List Given). Some (record { positional = words ++ cut.positional; options = all })) (sym (append_assoc options (record { name = name; value = value } ∷ []) cut.options))

pub more_word : (whole rest behind : Option Cut) (line line' : CommandLine) (word : Bor (List ℕ)) → whole ≡ option_map (joined (shown line)) rest → rest ≡ option_map (with_word word.now) behind
    → line'.words ≡ line.words ++ word ∷ [] → line'.options ≡ line.options → whole ≡ option_map (joined (shown line')) behind
more_word whole rest behind line line' word so_far first grown kept =
    rw (so_far, first, grown, kept, map-append (λ (w : Bor (List ℕ)). w.now) line.words (word ∷ [])) (joined-word (map (λ (w : Bor (List ℕ)). w.now) line.words) (map given line.options) word.now behind)

pub more_option : (whole rest behind : Option Cut) (line line' : CommandLine) (option : GivenOption) → whole ≡ option_map (joined (shown line)) rest
    → rest ≡ option_map (with_option option.name.now option.value.now) behind → line'.words ≡ line.words → line'.options ≡ line.options ++ option ∷ [] → whole ≡ option_map (joined (shown line')) behind
more_option whole rest behind line line' option so_far first kept grown =
    rw (so_far, first, kept, grown, map-append given line.options (option ∷ [])) (joined-option (map (λ (w : Bor (List ℕ)). w.now) line.words) (map given line.options) option.name.now option.value.now behind)
