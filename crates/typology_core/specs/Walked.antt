-- A walk through the prefixes of a problem, depth first: the prefix where it stands, and what it found so far.
use Rattle.std.specs.Prelude.{◌≡◌, ℕ, ◌+◌, ◌<◌, ◌≤◌, true, false, List, [], ◌∷◌, ◌++◌, map, length, take, All, Option, IfSome, IfNone}
use Rattle.ot_theory.specs.Hierarchies.{IsAtMostEvery, IsLeastHierarchy}
use Rattle.ot_theory.specs.Problems.{Problem}
use Rattle.ot_theory.specs.Languages.{conditions_of, refuted, terms_of}
use Rattle.violation_profiles.specs.WellFormed.{IsPrefix}
use Rattle.refutation.specs.Asked.{AreAsked, Begins}
use Rattle.refutation.specs.Prefixes.{class_numbers}
use Rattle.refutation.specs.Typologies.{certificates_of, cuts_of, found_of}
use Rattle.refutation.specs.declared.typology.Cut.{Cut}
use Rattle.refutation.specs.declared.typology.Language.{Language}
use Rattle.typology_core.specs.Below.{cuts_below, languages_below}
use Rattle.search_deeds.specs.Gathered.{AreGenuine, IsCertified}
use Rattle.search_deeds.specs.Places.{IsIndexOf}
use Rattle.typology_core.specs.declared.walk.Found.{Found}
use Rattle.typology_core.specs.declared.walk.Path.{Path}

-- the prefix
abbrev pub prefix_of : Path → List ℕ
prefix_of path = class_numbers path.classes.items

-- a prefix of the problem, no shorter front of which is refuted
pub record IsReached (problem : Problem) (prefix : List ℕ) : Type 0 where
  pub fits : IsPrefix problem prefix
  pub first : (k : ℕ) → k < length prefix → refuted problem (take k prefix) ≡ false

-- such a prefix, beside what it asks
pub record IsPathOf (problem : Problem) (path : Path) : Type 0 where
  pub reached : IsReached problem (prefix_of path)
  pub asked : AreAsked problem (terms_of problem (prefix_of path)) path.asked.terms.items path.asked.conditions.items

pub record IsSamePath (path other : Path) : Type 0 where
  pub classes : other.classes.items ≡ path.classes.items
  pub terms : other.asked.terms.items ≡ path.asked.terms.items
  pub conditions : other.asked.conditions.items ≡ path.asked.conditions.items

-- the prefixes of cuts, and the choices of languages
abbrev pub cut_prefixes : List Cut → List (List ℕ)
cut_prefixes cuts = map (λ cut. cut.0) (cuts_of cuts)

abbrev pub choices_of : List Language → List (List ℕ)
choices_of languages = map (λ language. language.0) (found_of languages)

-- Each cut names the first certificate that refutes it, and each language has its least hierarchy.
pub record IsFoundOf (problem : Problem) (found : Found) : Type 0 where
  pub certified : IsCertified problem (cut_prefixes found.cuts) (cuts_of found.cuts) (certificates_of found.certificates)
  pub genuine : AreGenuine problem found.certificates
  pub indexed : IsIndexOf problem found.certificates found.index
  pub least : All (λ language. IsLeastHierarchy problem.constraints (conditions_of problem language.0) language.1) (found_of found.languages)

-- with these cuts and languages more
pub record AreMore (new_cuts new_languages : List (List ℕ)) (found more : Found) : Type 0 where
  pub cuts : cut_prefixes more.cuts ≡ cut_prefixes found.cuts ++ new_cuts
  pub languages : choices_of more.languages ≡ choices_of found.languages ++ new_languages

-- with all that extend a prefix by at most n classes
abbrev pub AreAllBelow : Problem → ℕ → List ℕ → Found → Found → Type 0
AreAllBelow problem n prefix found more = AreMore (cuts_below problem n prefix) (languages_below problem n prefix) found more

-- The least hierarchy of a prefix where it is not refuted, and none where it is.
pub record IsJudged (problem : Problem) (prefix : List ℕ) (hierarchy : Option (List ℕ)) : Type 0 where
  pub held : IfSome hierarchy (λ levels. refuted problem prefix ≡ false)
  pub least : IfSome hierarchy (λ levels. IsLeastHierarchy problem.constraints (conditions_of problem prefix) levels)
  pub refuted : IfNone hierarchy (refuted problem prefix ≡ true)

-- A hierarchy that is at most every one that satisfies what a prefix asks.
pub record IsLower (problem : Problem) (prefix : List ℕ) (levels : List ℕ) : Type 0 where
  pub width : length levels ≡ problem.constraints
  pub from_one : All (λ level. 1 ≤ level) levels
  pub least : IsAtMostEvery problem.constraints (conditions_of problem prefix) levels

-- The prefix is neither refuted nor a full choice, and nothing is found yet.
pub record IsToOpen (problem : Problem) (path : Path) (found same : Found) : Type 0 where
  pub held : refuted problem (prefix_of path) ≡ false
  pub shorter : length path.classes.items < length problem.inputs
  pub kept : same ≡ found

-- All that extends the prefix is found.
pub record IsSettled (problem : Problem) (path : Path) (found more : Found) : Type 0 where
  pub sound : IsFoundOf problem more
  pub below : (n : ℕ) → length path.classes.items + n ≡ length problem.inputs → AreAllBelow problem n (prefix_of path) found more

-- The path goes on to a class of the next input, and is neither refuted nor a full choice.
pub record IsEntered (problem : Problem) (a : ℕ) (path child : Path) (found same : Found) : Type 0 where
  pub here : IsPathOf problem child
  pub prefix : prefix_of child ≡ prefix_of path ++ a ∷ []
  pub classes : Begins path.classes.items child.classes.items
  pub long : length child.classes.items ≡ length path.classes.items + 1
  pub terms : Begins path.asked.terms.items child.asked.terms.items
  pub conditions : Begins path.asked.conditions.items child.asked.conditions.items
  pub opened : IsToOpen problem child found same

-- The path stays, and all that extends its prefix by this class is found.
pub record IsDone (problem : Problem) (a : ℕ) (path same : Path) (found more : Found) : Type 0 where
  pub stays : IsSamePath path same
  pub sound : IsFoundOf problem more
  pub below : (n : ℕ) → length path.classes.items + (n + 1) ≡ length problem.inputs → AreAllBelow problem n (prefix_of path ++ a ∷ []) found more
