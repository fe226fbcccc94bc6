-- What is found of a prefix, by the values of a front or by demotion.
use Rattle.std.specs.Prelude.{◌≡◌, ℕ, ◌⊎◌, ◌&&◌, Bool, List, [], find, Option, None, Some}
use Rattle.ot_theory.specs.Problems.{Problem}
use Rattle.ot_theory.specs.Refutations.{is_contradiction, refutes}
use Rattle.refutation.specs.Terms.{terms_in}
use Rattle.refutation.specs.declared.contradiction.Contradiction.{Contradiction}
use Rattle.search_deeds.specs.Deeds.{children}
use Rattle.search_deeds.specs.declared.deed.Fate as fates
use Rattle.search_deeds.specs.declared.deed.Fate.TheVariants as fate
use Rattle.search_machine.specs.Findings.{IsJudged}
use Rattle.refutation.specs.declared.judging.Finding.{Finding}
use Rattle.refutation.specs.declared.judging.Finding.TheVariants.{Holds, Refuted}
use Rattle.typology_workers.specs.Consulted.{HoldsAll, IsValue}

-- it is a contradiction of the problem and refutes the prefix
abbrev pub cuts_off : Problem → List ℕ → Contradiction → Bool
cuts_off problem prefix value = is_contradiction problem (terms_in value.terms) && refutes (terms_in value.terms) prefix

-- the first value that is a contradiction of the problem and refutes the prefix
abbrev pub value_for : Problem → List Contradiction → List ℕ → Option Contradiction
value_for problem values prefix = find (cuts_off problem prefix) values

-- What is found of a prefix: that this value refutes it, or, where there is none, what demotion finds.
abbrev pub IsFound : Problem → List ℕ → Option Contradiction → Finding → Type 0
IsFound problem prefix (Some value) finding = finding ≡ Refuted value
IsFound problem prefix None finding = IsJudged problem prefix finding

-- The contradiction that demotion found is now a value of the front, unless this holds all places.
abbrev pub IsKeptFor : ℕ → List Contradiction → Finding → Type 0
IsKeptFor places values (Holds levels) = Unit {0}
IsKeptFor places values (Refuted found) = IsValue values found ⊎ HoldsAll places values

-- Where a value refutes the prefix none is learnt.
abbrev pub IsFoundIn : ℕ → Option Contradiction → List Contradiction → List Contradiction → Finding → Type 0
IsFoundIn places (Some value) old new finding = new ≡ old
IsFoundIn places None old new finding = IsKeptFor places new finding

-- the children of a prefix that is opened
abbrev pub opened : Problem → List ℕ → fates.Fate → List (List ℕ)
opened problem prefix fate.Opened = children problem prefix
opened problem prefix (fate.Language levels) = []
opened problem prefix (fate.Cut found) = []
