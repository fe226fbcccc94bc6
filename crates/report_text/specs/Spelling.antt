-- How reports spell what they print.
use Rattle.std.specs.Prelude.{ℕ, ◌+◌, List, [], ◌∷◌, ◌++◌, ◌==◌, if◌then◌else◌, map, decimal, codes, max, fold, flat_map, Option, Some, None}
use Rattle.std.specs.List.{join_with_byte, join_by, range_with_len}
use Rattle.ot_theory.specs.declared.Mark.{Mark}
use Rattle.ot_theory.specs.declared.Mark.TheVariants.{W, L, E}
use Rattle.ot_theory.specs.Hierarchies.{in_stratum}
use Rattle.ot_theory.specs.Languages.{Term, Loser, Given}

-- a line of fields with a tab between each two
abbrev pub line : List (List ℕ) → List ℕ
line fields = join_with_byte 9 fields ++ 10 ∷ []

-- numbers with a space between each two
abbrev pub spaced : List ℕ → List ℕ
spaced numbers = join_with_byte 32 (map decimal numbers)

-- the constraints of a stratum, ascending, counted from 1
abbrev pub stratum : List ℕ → ℕ → List ℕ
stratum levels s = map (λ c. c + 1) (in_stratum levels s)

-- the number of the lowest stratum
abbrev pub stratum_count : List ℕ → ℕ
stratum_count levels = fold max 0 levels

-- the strata from 1 to the greatest, with a bar between each two
abbrev pub hierarchy : List ℕ → List ℕ
hierarchy levels = join_by (λ s. spaced (stratum levels s)) (codes " | ") (range_with_len 1 (stratum_count levels))

-- class numbers by input, counted from 1, and a dash for none
abbrev pub prefix : List ℕ → List ℕ
prefix [] = codes "-"
prefix (a ∷ classes) = spaced (map (λ b. b + 1) (a ∷ classes))

-- numbers, each behind a byte
abbrev pub behind : ℕ → List ℕ → List ℕ
behind byte numbers = flat_map (λ n. byte ∷ decimal n) numbers

-- class numbers by input, counted from 1, each behind a space
abbrev pub each_behind_space : List ℕ → List ℕ
each_behind_space classes = behind 32 (map (λ a. a + 1) classes)

-- numbers, the first behind one byte and each other behind another
abbrev pub led : ℕ → ℕ → List ℕ → List ℕ
led first byte [] = []
led first byte (n ∷ numbers) = first ∷ (decimal n ++ behind byte numbers)

-- the violations of a class, each behind a tab, with a mark behind the first that differs from the winner's
abbrev pub marked : List ℕ → List ℕ → List ℕ
marked [] winning = []
marked (n ∷ violations) [] = behind 9 (n ∷ violations)
marked (n ∷ violations) (m ∷ winning) = 9 ∷ (decimal n ++ (if n == m then marked violations winning else codes "!" ++ behind 9 violations))

-- an input and a class of it by their numbers, with a point between them
abbrev pub output : ℕ → ℕ → List ℕ
output i a = decimal i ++ codes "." ++ decimal a

-- a class number, counted from 1, or the word for none
abbrev pub winner : Option ℕ → List ℕ
winner None = codes "none"
winner (Some a) = decimal (a + 1)

abbrev pub letter : Mark → ℕ
letter W = 87
letter L = 76
letter E = 101

-- a letter for each mark, in file order, and nothing between them
abbrev pub marks : List Mark → List ℕ
marks list = map letter list

-- an input, a colon, its winner, the sign >, and the loser, all counted from 1; or the letter g and a given pair, counted from 1
abbrev pub term : Term → List ℕ
term (Loser i a b) = decimal (i + 1) ++ codes ":" ++ decimal (a + 1) ++ codes ">" ++ decimal (b + 1)
term (Given k) = codes "g" ++ decimal (k + 1)

-- terms with a space between each two
abbrev pub terms : List Term → List ℕ
terms list = join_with_byte 32 (map term list)
