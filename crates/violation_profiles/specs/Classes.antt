-- The classes of candidates, each with its profile and its members.
use Rattle.std.specs.Prelude.{◌≡◌, ℕ, List, map}
use Rattle.ot_theory.specs.Problems.{classes_of, members_of}
use Rattle.violation_profiles.specs.declared.classes.Class.{Class}
use Rattle.violation_profiles.specs.Planes.{planes_of, key_in}

-- these are the classes of candidates with these profiles
pub record AreClassesOf (profiles : List (List ℕ)) (classes : List Class) : Type 0 where
  pub distinct : map (λ class. class.profile) classes ≡ classes_of profiles
  pub members : map (λ class. class.members) classes ≡ map (members_of profiles) (classes_of profiles)

-- A number for a profile, the same for equal profiles.
abbrev pub key_of : List ℕ → ℕ
key_of profile = key_in (planes_of profile)

-- the keys of classes
abbrev pub keys_of : List Class → List ℕ
keys_of classes = map (λ class. key_of class.profile) classes
