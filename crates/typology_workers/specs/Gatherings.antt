-- What the gatherer settles itself.
use Rattle.std.specs.Prelude.{◌≡◌, ℕ, List, [], ◌∷◌, ◌++◌, flat_map, All}
use Rattle.ot_theory.specs.Problems.{Problem}
use Rattle.search_deeds.specs.Deeds.{AreHonest, IsTrueOf, children, opened_by, opened_in, times}
use Rattle.search_deeds.specs.Gathered.{deeds_in, fate_of}
use Rattle.search_deeds.specs.declared.deed.Deed.{Deed}
use Rattle.search_deeds.specs.declared.deed.Fate.{Fate}
use Rattle.typology_workers.specs.FoundSearch.{ExtendsOne, IsOpening}
use Rattle.typology_workers.specs.Settled.{prefixes_of}
use Rattle.typology_workers.specs.declared.gatherer.Gatherer.{Gatherer}
use Rattle.violation_profiles.specs.WellFormed.{IsPrefix}

-- There is one deed more, that of this prefix, and its children wait behind the others where it is opened.
pub record SettlesOne (problem : Problem) (prefix : List ℕ) (old new : Gatherer) : Type 0 where
  pub fate : Fate
  pub is_true : IsTrueOf problem prefix (fate_of fate)
  pub deeds : new.deeds ≡ old.deeds ++ (record { prefix = prefix; fate = fate }) ∷ []
  pub waiting : new.waiting.items ≡ old.waiting.items ++ flat_map (children problem) (opened_by prefix (fate_of fate))

-- From the prefixes that waited before, these deeds come to those that wait after them: each prefix that waited before, and each
-- child of an opened one, is settled or waits, each as often. What is settled and what waits extends what waited before.
pub record SettlesSome (problem : Problem) (before : List (List ℕ)) (deeds : List Deed) (after : List (List ℕ)) : Type 0 where
  pub honest : AreHonest problem (deeds_in deeds)
  pub each : (prefix : List ℕ) → times prefix (prefixes_of deeds ++ after) ≡ times prefix (before ++ flat_map (children problem) (opened_in (deeds_in deeds)))
  pub prefixes : All (IsPrefix problem) after
  pub waiting : All (ExtendsOne before) after
  pub settled : All (λ deed. ExtendsOne before deed.prefix) deeds

-- The deeds begin with the empty prefix, and end where enough prefixes wait or none does.
pub record IsOpened (problem : Problem) (enough : ℕ) (gatherer : Gatherer) : Type 0 where
  pub settled : SettlesSome problem ([] ∷ []) gatherer.deeds gatherer.waiting.items
  pub opening : IsOpening problem enough gatherer.deeds

-- These are the deeds of the gatherer, and behind them those of what waited and of all that extends it.
pub record SettlesAll (problem : Problem) (gatherer : Gatherer) (deeds : List Deed) : Type 0 where
  pub more : List Deed
  pub whole : deeds ≡ gatherer.deeds ++ more
  pub settled : SettlesSome problem gatherer.waiting.items more []
