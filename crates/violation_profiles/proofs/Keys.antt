-- Keys, by which profiles are told apart.
use Rattle.std.proofs.Common.{◌≡◌, ℕ, ◌+◌, ◌<◌, List, [], ◌∷◌, ◌++◌, Bool, true, false, Option, Some, None, take, get_or, length, map, sym, ◌∙◌, ap, refl, arith}
use Rattle.std.specs.Prelude.{position, is_some}
use Rattle.std.specs.List.{list_any, position_or_len}
use Rattle.std.proofs.lemmas.Bool.{lt-ltb, false_from_ne_true}
use Rattle.std.proofs.lemmas.List.{get_or-take, get_or-map, length-take-le, map_push}
use Rattle.std.proofs.lemmas.List.Folds.{list_any_more}
use Rattle.std.proofs.lemmas.List.Sums.{position_or_len_is}
use Rattle.ot_theory.specs.Problems.{same_profile}
use Rattle.ot_theory.proofs.Candidates.{same-true, any_position}
use Rattle.ot_theory.proofs.Members.{none_at}
use Rattle.violation_profiles.specs.declared.classes.Class.{Class}
use Rattle.violation_profiles.specs.Classes.{key_of, keys_of}

-- the first item that passes, where none before it does
pub position-at : {X : Type 0} (p : X → Bool) (xs : List X) (a : ℕ) (x : X) → list_any p (take a xs) ≡ false → a < length xs → p (get_or xs a x) ≡ true → position p xs ≡ Some a
position-at p xs a x none within passes =
    let before : (k : ℕ) → k < a → p (get_or xs k x) ≡ false = λ k below. ap p (sym (get_or-take a xs k x below)) ∙ none_at p (take a xs) k x none (omega (arith, length-take-le a xs (omega arith), below)) in
    let at : position_or_len p xs ≡ a = position_or_len_is p xs a x (omega arith) before (λ _. passes) in
    rw (at, lt-ltb a (length xs) within) refl

-- no place is found where no item passes
none-found : (found : Option ℕ) → is_some found ≡ false → found ≡ None
none-found None h = refl
none-found (Some k) h = absurd (cc)

pub position-none : {X : Type 0} (p : X → Bool) (xs : List X) → list_any p xs ≡ false → position p xs ≡ None
position-none p xs none = none-found (position p xs) (any_position p xs ∙ none)

pub none-more : {X : Type 0} (p : X → Bool) (xs : List X) (a : ℕ) (x : X) → list_any p (take a xs) ≡ false → a < length xs → p (get_or xs a x) ≡ false → list_any p (take (a + 1) xs) ≡ false
none-more p xs a x none within fails = list_any_more p xs a x within ∙ rw (none, fails) refl

-- profiles with different keys differ
differ-by_key : (p q : List ℕ) → (key_of q ≡ key_of p → ⊥) → same_profile p q ≡ false
differ-by_key p q other = false_from_ne_true (same_profile p q) (λ e. other (ap key_of (sym (same-true p q e))))

pub other-key : (profile : List ℕ) (classes : List Class) (keys : List ℕ) (a : ℕ) → keys ≡ keys_of classes → a < length classes → (get_or keys a 0 ≡ key_of profile → ⊥)
    → list_any (λ class. same_profile profile class.profile) (take a classes) ≡ false → list_any (λ class. same_profile profile class.profile) (take (a + 1) classes) ≡ false
other-key profile [] keys a is within other none = absurd (omega (arith, within))
other-key profile (class ∷ more) keys a is within other none =
    let here = get_or (class ∷ more) a class in
    let at : get_or keys a 0 ≡ key_of here.profile = ap (λ (l : List ℕ). get_or l a 0) is ∙ get_or-map (λ (class : Class). key_of class.profile) (class ∷ more) a class 0 within in
    none-more (λ (class : Class). same_profile profile class.profile) (class ∷ more) a class none within (differ-by_key profile here.profile (λ e. other (at ∙ e)))

-- the keys of classes are those of their profiles
keys-of_profiles : (classes : List Class) → keys_of classes ≡ map key_of (map (λ class. class.profile) classes)
keys-of_profiles [] = refl
keys-of_profiles (class ∷ classes) = ap (λ (keys : List ℕ). key_of class.profile ∷ keys) (keys-of_profiles classes)

pub keys-new : (classes more : List Class) (keys profile : List ℕ) (key : ℕ) → keys ≡ keys_of classes → key ≡ key_of profile
    → map (λ class. class.profile) more ≡ map (λ class. class.profile) classes ++ profile ∷ [] → keys ++ key ∷ [] ≡ keys_of more
keys-new classes more keys profile key is same added =
    let before = map (λ (class : Class). class.profile) classes in
    ap (λ (k : ℕ). keys ++ k ∷ []) same
    ∙ ap (λ (l : List ℕ). l ++ key_of profile ∷ []) (is ∙ keys-of_profiles classes)
    ∙ sym (map_push key_of before profile)
    ∙ ap (map key_of) (sym added)
    ∙ sym (keys-of_profiles more)
