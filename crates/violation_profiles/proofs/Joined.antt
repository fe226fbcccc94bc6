-- What one candidate more does to the classes that are kept.
use Rattle.std.proofs.Common.{◌≡◌, ℕ, ◌<◌, List, [], ◌∷◌, ◌++◌, Bool, true, false, cond, Some, None, sym, ◌∙◌, ap, length, map, get_or, set}
use Rattle.std.specs.Prelude.{position, is_some}
use Rattle.std.specs.List.{list_any}
use Rattle.std.proofs.Math.Seq.{map-set_same}
use Rattle.std.proofs.lemmas.List.{get_or-map, map-set}
use Rattle.std.proofs.lemmas.List.Quantifiers.{position-Some}
use Rattle.ot_theory.specs.Problems.{same_profile, classes_of, members_of}
use Rattle.ot_theory.proofs.Candidates.{classes_of-push, any_position}
use Rattle.ot_theory.proofs.Members.{members-joined, members-new}
use Rattle.violation_profiles.specs.declared.classes.Class.{Class}
use Rattle.violation_profiles.specs.Classes.{AreClassesOf}
use Rattle.violation_profiles.proofs.Found.{position-map}

-- the first class with a profile, among the distinct profiles
found_in : (profiles : List (List ℕ)) (x : List ℕ) (classes : List Class) → AreClassesOf profiles classes → position (same_profile x) (classes_of profiles) ≡ position (λ class. same_profile x class.profile) classes
found_in profiles x classes are = ap (position (same_profile x)) (sym are.distinct) ∙ position-map (same_profile x) (λ class. class.profile) classes

-- the candidate joins the class of its profile
pub AreClassesOf-joined : (profiles : List (List ℕ)) (x : List ℕ) (classes : List Class) (a : ℕ) (class joined : Class) → AreClassesOf profiles classes
    → position (λ class. same_profile x class.profile) classes ≡ Some a → class ≡ get_or classes a class → joined.profile ≡ class.profile → joined.members ≡ class.members ++ length profiles ∷ []
    → AreClassesOf (profiles ++ x ∷ []) (set classes a joined)
AreClassesOf-joined profiles x classes a class joined are found here same more =
    let at : position (same_profile x) (classes_of profiles) ≡ Some a = found_in profiles x classes are ∙ found in
    let there : list_any (same_profile x) (classes_of profiles) ≡ true = sym (any_position (same_profile x) (classes_of profiles)) ∙ ap is_some at in
    let pushed : classes_of (profiles ++ x ∷ []) ≡ classes_of profiles = classes_of-push profiles x ∙ ap (λ (b : Bool). cond b (classes_of profiles) (classes_of profiles ++ x ∷ [])) there in
    let within : a < length classes = (position-Some (λ class. same_profile x class.profile) classes a class found).0 in
    let members = map (members_of profiles) (classes_of profiles) in
    let held : get_or members a [] ≡ class.members =
    ap (λ (all : List (List ℕ)). get_or all a []) (sym are.members) ∙ get_or-map (λ class. class.members) classes a class [] within ∙ ap (λ (c : Class). c.members) (sym here)
    in
    record {
      distinct = map-set_same (λ class. class.profile) classes a joined class (same ∙ ap (λ (c : Class). c.profile) here) ∙ are.distinct ∙ sym pushed;
      members =
          map-set (λ class. class.members) classes a joined
          ∙ ap (λ (all : List (List ℕ)). set all a joined.members) are.members
          ∙ ap (set members a) (more ∙ ap (λ (held : List ℕ). held ++ length profiles ∷ []) (sym held))
          ∙ members-joined profiles x a at
          ∙ ap (map (members_of (profiles ++ x ∷ []))) (sym pushed);
    }

-- the candidate is a class of its own
pub AreClassesOf-new : (profiles : List (List ℕ)) (x : List ℕ) (classes more : List Class) → AreClassesOf profiles classes
    → position (λ class. same_profile x class.profile) classes ≡ None → map (λ class. class.profile) more ≡ map (λ class. class.profile) classes ++ x ∷ []
    → map (λ class. class.members) more ≡ map (λ class. class.members) classes ++ (length profiles ∷ []) ∷ []
    → AreClassesOf (profiles ++ x ∷ []) more
AreClassesOf-new profiles x classes more are found profile members =
    let none : list_any (same_profile x) (classes_of profiles) ≡ false = sym (any_position (same_profile x) (classes_of profiles)) ∙ ap is_some (found_in profiles x classes are ∙ found) in
    let pushed : classes_of (profiles ++ x ∷ []) ≡ classes_of profiles ++ x ∷ [] = classes_of-push profiles x ∙ ap (λ (b : Bool). cond b (classes_of profiles) (classes_of profiles ++ x ∷ [])) none in
    record {
      distinct = profile ∙ ap (λ (all : List (List ℕ)). all ++ x ∷ []) are.distinct ∙ sym pushed;
      members =
          members
          ∙ ap (λ (all : List (List ℕ)). all ++ (length profiles ∷ []) ∷ []) are.members
          ∙ members-new profiles x none
          ∙ ap (map (members_of (profiles ++ x ∷ []))) (sym pushed);
    }
