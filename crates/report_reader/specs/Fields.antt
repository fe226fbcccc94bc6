-- What the fields of a report spell: numbers, classes by input, hierarchies, marks and terms.
use Rattle.std.specs.Prelude.{ℕ, ◌+◌, ◌-◌, ◌*◌, Bool, not, ◌&&◌, ◌||◌, ◌==◌, List, [], ◌∷◌, length, replicate, fold, nat_le, nat_lt, slice_index, slice_set, bytes_eq, codes, Option, Some, None, if◌then◌else◌}
use Rattle.std.specs.List.{list_all, slice_split}
use Rattle.std.specs.Option.{option_map}
use Rattle.report_reader.specs.declared.fields.TheConstants.{NUMBER_LIMIT}
use Rattle.ot_theory.specs.Languages.{Term, Loser, Given}
use denote.Ref.{Bor}

infixl 10 ◌>>=◌
abbrev pub ◌>>=◌ : {A B : Type 0} → Option A → (A → Option B) → Option B
None >>= f = None
(Some x) >>= f = f x

-- the pieces of a text between the places of a byte
abbrev pub pieces : ℕ → List ℕ → List (List ℕ)
pieces separator text = slice_split (λ b. b == separator) text

-- the pieces of what is left of a text, which is nothing after the last piece
abbrev pub pieces_left : ℕ → Option (Bor (List ℕ)) → List (List ℕ)
pieces_left separator None = []
pieces_left separator (Some rest) = pieces separator rest.now

-- what stands between the tabs of a line, and between the spaces of a field
abbrev pub fields : List ℕ → List (List ℕ)
fields line = pieces 9 line

abbrev pub words : List ℕ → List (List ℕ)
words field = pieces 32 field

-- exactly two pieces
abbrev pub two : List (List ℕ) → Option (List ℕ × List ℕ)
two [] = None
two (a ∷ []) = None
two (a ∷ b ∷ more) = if length more == 0 then Some (a, b) else None

-- a text of the tableau: no CR, as no tab and no LF
abbrev pub is_text : List ℕ → Bool
is_text field = list_all (λ b. not (b == 13)) field

abbrev pub is_digit : ℕ → Bool
is_digit b = nat_le 48 b && nat_le b 57

abbrev pub has_leading_zero : List ℕ → Bool
has_leading_zero field = nat_lt 1 (length field) && (slice_index field 0 == 48)

-- 1 to 9 digits, of which the first is no 0 unless it is the only one
abbrev pub are_digits : List ℕ → Bool
are_digits field =
    nat_le 1 (length field) && nat_le (length field) 9 && list_all is_digit field && not (has_leading_zero field)

abbrev pub value_of : List ℕ → ℕ
value_of field = fold (λ n b. 10 * n + (b - 48)) 0 field

-- a number in decimal without leading zeros, none above the greatest
abbrev pub number : List ℕ → Option ℕ
number field = if are_digits field && nat_le (value_of field) NUMBER_LIMIT then Some (value_of field) else None

abbrev pub is_number : List ℕ → Bool
is_number field = are_digits field && nat_le (value_of field) NUMBER_LIMIT

-- this number
abbrev pub spells : List ℕ → ℕ → Bool
spells field k = is_number field && (value_of field == k)

-- a number from 1 to a count, which names one of so many things, counted from 0
abbrev pub place : ℕ → List ℕ → Option ℕ
place count field = do
  k ← number field
  if nat_le 1 k && nat_le k count then Some (k - 1) else None

-- class numbers of the first inputs, of which the counts are the numbers of classes
abbrev pub classes : List ℕ → List (List ℕ) → Option (List ℕ)
classes counts [] = Some []
classes [] (word ∷ others) = None
classes (count ∷ counts) (word ∷ others) = do
  a ← place count word
  rest ← classes counts others
  Some (a ∷ rest)

-- a prefix: a dash where it is empty
abbrev pub prefix_of : List ℕ → List ℕ → Option (List ℕ)
prefix_of counts field = if bytes_eq field (codes "-") then Some [] else classes counts (words field)

-- the class of every input
abbrev pub choice_of : List ℕ → List ℕ → Option (List ℕ)
choice_of counts field = do
  prefix ← prefix_of counts field
  if length prefix == length counts then Some prefix else None

abbrev pub are_placed : List ℕ → Bool
are_placed levels = list_all (λ level. nat_lt 0 level) levels

-- The constraints of a hierarchy, stratum by stratum. The levels have the stratum of each constraint that was met, and 0
-- for the others; s is the stratum at hand, and last the number of its last constraint, or 0 where it has none yet.
abbrev pub strata_of : List ℕ → ℕ → ℕ → List (List ℕ) → Option (List ℕ)
strata_of levels s last [] = if nat_lt 0 last && are_placed levels then Some levels else None
strata_of levels s last (word ∷ others) =
    if bytes_eq word (codes "|")
    then (if nat_lt 0 last && nat_lt s (length levels) then strata_of levels (s + 1) 0 others else None)
    else do
      c ← place (length levels) word
      if nat_le last c && (slice_index levels c == 0) then strata_of (slice_set levels c s) s (c + 1) others else None

-- a hierarchy: each constraint once, in strata that are not empty, and ascending in each of them
abbrev pub hierarchy_of : ℕ → List ℕ → Option (List ℕ)
hierarchy_of n field = strata_of (replicate n 0) 1 0 (words field)

abbrev pub is_letter : ℕ → Bool
is_letter b = (b == 87) || (b == 76) || (b == 101)

-- one of W, L and e for each constraint
abbrev pub are_marks : ℕ → List ℕ → Bool
are_marks n field = (length field == n) && list_all is_letter field

-- an input, and two classes of it
abbrev pub term_of_parts : List ℕ → List ℕ → List ℕ → List ℕ → Option Term
term_of_parts counts input winner loser = do
  i ← place (length counts) input
  a ← place (slice_index counts i) winner
  b ← place (slice_index counts i) loser
  if a == b then None else Some (Loser i a b)

-- an input, a colon, its winner, the sign >, and another class as the loser
abbrev pub loser_of : List ℕ → List ℕ → Option Term
loser_of counts word = do
  sides ← two (pieces 58 word)
  classes ← two (pieces 62 sides.1)
  term_of_parts counts sides.0 classes.0 classes.1

-- the number of one of so many given pairs
abbrev pub given_of : ℕ → List ℕ → Option Term
given_of pairs word = option_map Given (place pairs word)

-- a term: the letter g and the number of a given pair, or a class of an input against another one
abbrev pub term_of : List ℕ → ℕ → List ℕ → Option Term
term_of counts pairs [] = loser_of counts []
term_of counts pairs (b ∷ others) = if b == 103 then given_of pairs others else loser_of counts (b ∷ others)

-- terms, at least one
abbrev pub terms_of : List ℕ → ℕ → List (List ℕ) → Option (List Term)
terms_of counts pairs [] = Some []
terms_of counts pairs (word ∷ others) = do
  term ← term_of counts pairs word
  rest ← terms_of counts pairs others
  Some (term ∷ rest)
