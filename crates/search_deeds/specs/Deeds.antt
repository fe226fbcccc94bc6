-- Deeds: what a search found of a prefix. It opened the prefix, found it to be a language, or cut it off.
use Rattle.std.specs.Prelude.{◌≡◌, ℕ, ◌<◌, true, false, List, [], ◌∷◌, ◌++◌, map, length, flat_map, count_by, nat_eq, All}
use Rattle.std.specs.Cmp.Lexicographic.{pointwise}
use Rattle.ot_theory.specs.Rankings.{numbers_below}
use Rattle.ot_theory.specs.Hierarchies.{IsLeastHierarchy}
use Rattle.ot_theory.specs.Problems.{Problem}
use Rattle.ot_theory.specs.Languages.{Term, classes_at, conditions_of, refuted}
use Rattle.ot_theory.specs.Refutations.{is_contradiction, refutes}

-- what became of a prefix: its children are searched, it is a language with this hierarchy, or these terms refute it
pub data Fate : Type 0 where
  Opened : Fate
  Language : List ℕ → Fate
  Cut : List Term → Fate

pub record Deed : Type 0 where
  pub prefix : List ℕ
  pub fate : Fate

-- An opened prefix holds under some ranking and is no full choice. A language is a full choice that is not refuted, with
-- its least hierarchy. What cuts a prefix off is a contradiction that refutes it.
abbrev pub IsTrueOf : Problem → List ℕ → Fate → Type 0
IsTrueOf problem prefix Opened = (refuted problem prefix ≡ false) × (length prefix < length problem.inputs)
IsTrueOf problem prefix (Language levels) =
    (refuted problem prefix ≡ false) × (length prefix ≡ length problem.inputs)
    × IsLeastHierarchy problem.constraints (conditions_of problem prefix) levels
IsTrueOf problem prefix (Cut terms) = (is_contradiction problem terms ≡ true) × (refutes terms prefix ≡ true)

-- Deeds are honest where each fate is true.
abbrev pub AreHonest : Problem → List Deed → Type 0
AreHonest problem deeds = All (λ deed. IsTrueOf problem deed.prefix deed.fate) deeds

-- the prefixes longer by one class, in class order
abbrev pub children : Problem → List ℕ → List (List ℕ)
children problem prefix = map (λ a. prefix ++ a ∷ []) (numbers_below (length (classes_at problem (length prefix))))

-- how often a prefix stands in a list
abbrev pub times : List ℕ → List (List ℕ) → ℕ
times prefix list = count_by (pointwise nat_eq prefix) list

-- the prefix of a deed if it is opened, its language beside the hierarchy if it is one, and the prefix if it is cut off
abbrev pub opened_by : List ℕ → Fate → List (List ℕ)
opened_by prefix Opened = prefix ∷ []
opened_by prefix (Language levels) = []
opened_by prefix (Cut terms) = []

abbrev pub language_by : List ℕ → Fate → List (List ℕ × List ℕ)
language_by prefix Opened = []
language_by prefix (Language levels) = (prefix, levels) ∷ []
language_by prefix (Cut terms) = []

abbrev pub cut_by : List ℕ → Fate → List (List ℕ)
cut_by prefix Opened = []
cut_by prefix (Language levels) = []
cut_by prefix (Cut terms) = prefix ∷ []

-- the opened prefixes, the languages beside their hierarchies, and the prefixes cut off, in order of the deeds
abbrev pub opened_in : List Deed → List (List ℕ)
opened_in deeds = flat_map (λ deed. opened_by deed.prefix deed.fate) deeds

abbrev pub languages_in : List Deed → List (List ℕ × List ℕ)
languages_in deeds = flat_map (λ deed. language_by deed.prefix deed.fate) deeds

abbrev pub cuts_in : List Deed → List (List ℕ)
cuts_in deeds = flat_map (λ deed. cut_by deed.prefix deed.fate) deeds

-- Deeds are balanced where their prefixes are the empty one and the children of each opened one, each as often.
abbrev pub AreBalanced : Problem → List Deed → Type 0
AreBalanced problem deeds = (prefix : List ℕ)
    → times prefix (map (λ deed. deed.prefix) deeds) ≡ times prefix ([] ∷ flat_map (children problem) (opened_in deeds))
