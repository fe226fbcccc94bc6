-- What the words after the program's name ask for.
use Rattle.std.specs.Prelude.{ℕ, ◌≤◌, ◌-◌, ◌^◌, List, [], ◌∷◌, Bool, ◌&&◌, map, filter, length, drop, slice_index, ◌==◌, nat_lt, nat_le, bytes_eq, codes, option_map, option_and_then, unwrap_or, Option, Some, None, if◌then◌else◌, String, string_bytes, ⊤}
use Rattle.std.specs.List.{before_first, after_first, position_or_len, list_all, list_any, slice_split, range_with_len}
use Rattle.std.specs.Char.{is_ascii_digit}
use Rattle.std.specs.Str.Parse.{digits_value}
use Rattle.std.specs.declared.alloc.Global.{Global}
use Rattle.command_words.specs.declared.settings.Settings.{Settings}
use Rattle.command_words.specs.declared.settings.Settings.TheVariants.{Typology, Torder, Rank, Bases, Hasse, Demo}
use Rattle.erc_vectors.specs.declared.condition.ConId.{ConId}

-- an option as it was given: its name without the dashes, and its value
pub record Given : Type 0 where
  pub name : List ℕ
  pub value : List ℕ

-- the words, cut into the positional ones and the options, each in their order
pub record Cut : Type 0 where
  pub positional : List (List ℕ)
  pub options : List Given

abbrev pub only_words : List (List ℕ) → Cut
only_words words = record { positional = words; options = [] }

abbrev pub with_word : List ℕ → Cut → Cut
with_word word cut = record { positional = word ∷ cut.positional; options = cut.options }

abbrev pub with_option : List ℕ → List ℕ → Cut → Cut
with_option name value cut = record { positional = cut.positional; options = record { name = name; value = value } ∷ cut.options }

-- a word that begins with a dash
abbrev pub begins_with_dash : List ℕ → Bool
begins_with_dash word = slice_index word 0 == 45

-- a word that begins with two dashes
abbrev pub is_option : List ℕ → Bool
is_option word = begins_with_dash word && begins_with_dash (drop 1 word)

-- a word of more than one byte that begins with a dash
abbrev pub is_dashed : List ℕ → Bool
is_dashed word = nat_lt 1 (length word) && begins_with_dash word

abbrev pub is_equals_sign : ℕ → Bool
is_equals_sign c = c == 61

-- whether what follows the dashes of an option has the value too, behind an equals sign
abbrev pub has_value : List ℕ → Bool
has_value text = nat_lt (position_or_len is_equals_sign text) (length text)

-- The cut of the words from here on, read from left to right. An option that waits for its value takes the next word, which
-- must not begin with a dash.
abbrev pub cut_from : Option (List ℕ) → List (List ℕ) → Option Cut
cut_from None [] = Some (only_words [])
cut_from None (word ∷ words) =
    if bytes_eq word (codes "--")
    then Some (only_words words)
    else if is_option word
    then if has_value (drop 2 word)
    then option_map (with_option (before_first is_equals_sign (drop 2 word)) (after_first is_equals_sign (drop 2 word))) (cut_from None words)
    else cut_from (Some (drop 2 word)) words
    else if is_dashed word
    then None
    else option_map (with_word word) (cut_from None words)
cut_from (Some name) [] = None
cut_from (Some name) (value ∷ words) = if begins_with_dash value then None else option_map (with_option name value) (cut_from None words)

-- the words, cut, if they can be
abbrev pub cut_of : List (List ℕ) → Option Cut
cut_of words = cut_from None words

-- The number that 1 to so many digits spell, where it is within these bounds.
abbrev pub number : ℕ → ℕ → ℕ → List ℕ → Option ℕ
number digits least most text =
    if nat_le 1 (length text) && nat_le (length text) digits && list_all is_ascii_digit text && nat_le least (digits_value 10 text) && nat_le (digits_value 10 text) most
    then Some (digits_value 10 text)
    else None

-- The constraint of a number from 1 to 128, of 1 to 3 digits. It is counted from 0 in settings.
abbrev pub constraint : List ℕ → Option ConId
constraint text = option_map (λ c. record { 0 = c - 1 }) (number 3 1 128 text)

-- what each text of a list reads as, where each can be read
abbrev pub all_read : {A : Type 0} → (List ℕ → Option A) → List (List ℕ) → Option (List A)
all_read read [] = Some []
all_read read (text ∷ texts) = option_and_then (λ item. option_map (λ items. item ∷ items) (all_read read texts)) (read text)

-- a list of constraints: one or more, with one comma between two
abbrev pub constraint_list : List ℕ → Option (List ConId)
constraint_list text = all_read constraint (slice_split (λ c. c == 44) text)

-- Of each of n constraints, whether a list of constraints names it. A number that is no constraint's names none.
abbrev pub named : ℕ → List ConId → List Bool
named n list = map (λ k. list_any (λ constraint. constraint.0 == k) list) (range_with_len 0 n)

-- the values that an option was given
abbrev pub values_of : List ℕ → List Given → List (List ℕ)
values_of name options = map (λ option. option.value) (filter (λ option. bytes_eq option.name name) options)

-- What an option was given, if anything. Given twice it gives no settings, and neither does a value that cannot be read.
abbrev pub optional : {A : Type 0} → (List ℕ → Option A) → List (List ℕ) → Option (Option A)
optional read [] = Some None
optional read (value ∷ []) = option_map Some (read value)
optional read (value ∷ other ∷ more) = None

-- what an option was given, or its default
abbrev pub or_default : {A : Type 0} → A → Option (Option A) → Option A
or_default default given = option_map (λ value. unwrap_or value default) given

abbrev pub workers_in : List Given → Option ℕ
workers_in options = or_default 1 (optional (number 20 1 64) (values_of (codes "workers") options))

abbrev pub places_in : List Given → Option ℕ
places_in options = or_default 1024 (optional (number 20 0 4096) (values_of (codes "store") options))

-- the number of a schedule, if the option was given
abbrev pub schedule_in : List Given → Option (Option ℕ)
schedule_in options = optional (number 20 0 (2 ^ 64 - 1)) (values_of (codes "schedule") options)

-- the faithfulness constraints that are named, if the option was given
abbrev pub faith_in : List Given → Option (Option (List ConId))
faith_in options = optional constraint_list (values_of (codes "faith") options)

-- The name of a file that an option names: any text that is not empty.
abbrev pub file_name : List ℕ → Option (List ℕ)
file_name text = if length text == 0 then None else Some text

-- the file of given pairs, if the option was given
abbrev pub given_in : List Given → Option (Option (List ℕ))
given_in options = optional file_name (values_of (codes "given") options)

abbrev pub is_among : List (List ℕ) → List ℕ → Bool
is_among names name = list_any (λ known. bytes_eq name known) names

-- each option is one of those that the command takes
abbrev pub are_among : List (List ℕ) → List Given → Bool
are_among names options = list_all (λ option. is_among names option.name) options

abbrev pub typology_of : List ℕ → List Given → Option Settings
typology_of file options =
    if are_among (codes "workers" ∷ codes "store" ∷ codes "schedule" ∷ codes "given" ∷ []) options
    then option_and_then (λ workers. option_and_then (λ places. option_and_then (λ schedule. option_map (λ given. Typology file workers places schedule given) (given_in options)) (schedule_in options)) (places_in options)) (workers_in options)
    else None

abbrev pub torder_of : List ℕ → List Given → Option Settings
torder_of file options =
    if are_among (codes "workers" ∷ codes "store" ∷ codes "given" ∷ []) options
    then option_and_then (λ workers. option_and_then (λ places. option_map (λ given. Torder file workers places given) (given_in options)) (places_in options)) (workers_in options)
    else None

abbrev pub rank_of : List ℕ → List Given → Option Settings
rank_of file options =
    if are_among (codes "faith" ∷ codes "given" ∷ []) options
    then option_and_then (λ faith. option_map (λ given. Rank file faith given) (given_in options)) (faith_in options)
    else None

abbrev pub bases_of : List ℕ → List Given → Option Settings
bases_of file options = if are_among (codes "given" ∷ []) options then option_map (λ given. Bases file given) (given_in options) else None

abbrev pub hasse_of : List ℕ → List Given → Option Settings
hasse_of file options = if are_among (codes "given" ∷ []) options then option_map (λ given. Hasse file given) (given_in options) else None

-- `demo` takes a number in place of a file.
abbrev pub demo_of : List ℕ → List Given → Option Settings
demo_of text options =
    if are_among (codes "workers" ∷ codes "store" ∷ []) options
    then option_and_then (λ n. option_and_then (λ workers. option_map (λ places. Demo n workers places) (places_in options)) (workers_in options)) (number 20 0 (2 ^ 64 - 1) text)
    else None

-- a command, its word and its options
abbrev pub command_of : List ℕ → List ℕ → List Given → Option Settings
command_of command word options =
    if bytes_eq command (codes "typology")
    then typology_of word options
    else if bytes_eq command (codes "torder")
    then torder_of word options
    else if bytes_eq command (codes "rank")
    then rank_of word options
    else if bytes_eq command (codes "bases")
    then bases_of word options
    else if bytes_eq command (codes "hasse")
    then hasse_of word options
    else if bytes_eq command (codes "demo") then demo_of word options else None

-- a command and one word for it, with its options
abbrev pub asked_by : List (List ℕ) → List Given → Option Settings
asked_by [] options = None
asked_by (command ∷ []) options = None
asked_by (command ∷ word ∷ []) options = command_of command word options
asked_by (command ∷ word ∷ other ∷ words) options = None

unfoldable pub settings_of : List (List ℕ) → Option Settings
settings_of words = option_and_then (λ cut. asked_by cut.positional cut.options) (cut_of words)

-- the file that a command reads, and no name where it reads none
abbrev pub file_of : Settings → List ℕ
file_of (Typology file workers places schedule given) = file
file_of (Torder file workers places given) = file
file_of (Rank file faith given) = file
file_of (Bases file given) = file
file_of (Hasse file given) = file
file_of (Demo number workers places) = []

-- the file of given pairs that a command reads, where it reads one
abbrev pub given_of : Settings → Option (List ℕ)
given_of (Typology file workers places schedule given) = given
given_of (Torder file workers places given) = given
given_of (Rank file faith given) = given
given_of (Bases file given) = given
given_of (Hasse file given) = given
given_of (Demo number workers places) = None

-- the number of the demonstration file that a command makes, where it reads no file
abbrev pub made_of : Settings → Option ℕ
made_of (Typology file workers places schedule given) = None
made_of (Torder file workers places given) = None
made_of (Rank file faith given) = None
made_of (Bases file given) = None
made_of (Hasse file given) = None
made_of (Demo number workers places) = Some number

-- the numbers of the settings are within their limits
abbrev pub IsWithinLimits : Settings → Type 0
IsWithinLimits (Typology file workers places schedule given) = (1 ≤ workers) × (workers ≤ 64) × (places ≤ 4096)
IsWithinLimits (Torder file workers places given) = (1 ≤ workers) × (workers ≤ 64) × (places ≤ 4096)
IsWithinLimits (Rank file faith given) = ⊤
IsWithinLimits (Bases file given) = ⊤
IsWithinLimits (Hasse file given) = ⊤
IsWithinLimits (Demo number workers places) = (1 ≤ workers) × (workers ≤ 64) × (places ≤ 4096)

-- what the words ask for, if they give settings
abbrev pub asked : List (String Global) → Option Settings
asked words = settings_of (map string_bytes words)
