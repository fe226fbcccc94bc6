-- The lines of a typology's report, by their fields.
use Rattle.std.specs.Prelude.{ℕ, Bool, false, not, ◌&&◌, ◌==◌, List, [], ◌∷◌, length, nat_le, bytes_eq, codes, Option, Some, None, if◌then◌else◌}
use Rattle.std.specs.List.{list_all}
use Rattle.std.specs.Option.{option_map_or}
use Rattle.ot_base.specs.declared.limits.TheConstants.{CANDIDATE_LIMIT}
use Rattle.ot_theory.specs.Languages.{Term}
use Rattle.report_reader.specs.Fields.{◌>>=◌, pieces, fields, words, two, is_text, number, is_number, spells, place, prefix_of, choice_of, hierarchy_of, are_marks, terms_of}

-- a line of four fields
pub record Parts : Type 0 where
  pub word : List ℕ
  pub number : List ℕ
  pub first : List ℕ
  pub second : List ℕ

abbrev pub parts_of : List (List ℕ) → Option Parts
parts_of [] = None
parts_of (word ∷ []) = None
parts_of (word ∷ number ∷ []) = None
parts_of (word ∷ number ∷ first ∷ []) = None
parts_of (word ∷ number ∷ first ∷ second ∷ more) =
    if length more == 0 then Some (record { word = word; number = number; first = first; second = second }) else None

-- two more fields behind this word and this number
abbrev pub numbered : List ℕ → ℕ → List ℕ → Option (List ℕ × List ℕ)
numbered word k line = do
  parts ← parts_of (fields line)
  if bytes_eq parts.word word && spells parts.number k then Some (parts.first, parts.second) else None

abbrev pub is_title : List ℕ → Bool
is_title line = bytes_eq line (codes "otsoft report 1\ttypology")

-- a word and a number, which says how many lines follow
abbrev pub count_line : List ℕ → List ℕ → Option ℕ
count_line word line = do
  parts ← two (fields line)
  if bytes_eq parts.0 word then number parts.1 else None

-- such a line with a number from 1 to a limit
abbrev pub some_line : List ℕ → ℕ → List ℕ → Option ℕ
some_line word limit line = do
  count ← count_line word line
  if nat_le 1 count && nat_le count limit then Some count else None

-- such a line with a number up to a limit
abbrev pub few_line : List ℕ → ℕ → List ℕ → Option ℕ
few_line word limit line = do
  count ← count_line word line
  if nat_le count limit then Some count else None

-- the line of constraint k: its abbreviation and its name
abbrev pub is_constraint : ℕ → List ℕ → Bool
is_constraint k line = option_map_or (λ texts. is_text texts.0 && is_text texts.1) (numbered (codes "constraint") k line) false

-- the numbers of two different ones of n constraints
abbrev pub are_two : ℕ → List ℕ → List ℕ → Bool
are_two n above below = option_map_or (λ c. option_map_or (λ d. not (c == d)) (place n below) false) (place n above) false

-- the line of given pair k: its upper and its lower constraint
abbrev pub is_given : ℕ → ℕ → List ℕ → Bool
is_given n k line = option_map_or (λ pair. are_two n pair.0 pair.1) (numbered (codes "given") k line) false

-- the line of input i: its text, and its number of classes, which is the value
abbrev pub input_line : ℕ → List ℕ → Option ℕ
input_line i line = do
  parts ← numbered (codes "input") i line
  count ← number parts.1
  if is_text parts.0 && nat_le 1 count && nat_le count CANDIDATE_LIMIT then Some count else None

-- the numbers of an input and of a class of it, with a point between them
abbrev pub is_class_name : ℕ → ℕ → List ℕ → Bool
is_class_name i a field = option_map_or (λ parts. spells parts.0 i && spells parts.1 a) (two (pieces 46 field)) false

-- a violation of each constraint
abbrev pub is_profile : ℕ → List ℕ → Bool
is_profile n field = (length (words field) == n) && list_all is_number (words field)

-- texts, at least one
abbrev pub are_members : List (List ℕ) → Bool
are_members members = nat_le 1 (length members) && list_all is_text members

abbrev pub is_named_class : ℕ → ℕ → List ℕ → List ℕ → Bool
is_named_class i a word name = bytes_eq word (codes "class") && is_class_name i a name

abbrev pub has_members : ℕ → List ℕ → List (List ℕ) → Bool
has_members n profile members = is_profile n profile && are_members members

-- the line of class a of input i: its profile, and the texts of its members
abbrev pub are_class : ℕ → ℕ → ℕ → List (List ℕ) → Bool
are_class n i a [] = false
are_class n i a (word ∷ []) = false
are_class n i a (word ∷ name ∷ []) = false
are_class n i a (word ∷ name ∷ profile ∷ members) = is_named_class i a word name && has_members n profile members

abbrev pub is_class : ℕ → ℕ → ℕ → List ℕ → Bool
is_class n i a line = are_class n i a (fields line)

-- the line of language k: its class of each input, and its hierarchy
abbrev pub language_line : ℕ → List ℕ → ℕ → List ℕ → Option (List ℕ × List ℕ)
language_line n counts k line = do
  parts ← numbered (codes "language") k line
  choice ← choice_of counts parts.0
  strata ← hierarchy_of n parts.1
  Some (choice, strata)

-- the line of certificate k: the marks of its fusion, and its terms
abbrev pub certificate_line : ℕ → List ℕ → ℕ → ℕ → List ℕ → Option (List Term)
certificate_line n counts pairs k line = do
  parts ← numbered (codes "certificate") k line
  if are_marks n parts.0 then terms_of counts pairs (words parts.1) else None

-- the line of cut k: its prefix, and the number of one of the certificates
abbrev pub cut_line : List ℕ → ℕ → ℕ → List ℕ → Option (List ℕ × ℕ)
cut_line counts certificates k line = do
  parts ← numbered (codes "cut") k line
  prefix ← prefix_of counts parts.0
  certificate ← place certificates parts.1
  Some (prefix, certificate)

abbrev pub is_end : List ℕ → Bool
is_end line = bytes_eq line (codes "end")
