-- The constraints that a list names, one more after another.
use Rattle.std.proofs.Common.{◌≡◌, ◌<◌, ◌≤◌, ℕ, Bool, true, false, ◌||◌, List, [], ◌∷◌, ◌++◌, length, set, get_or, get_or-set_other, refl, sym, ap, ◌∙◌, arith, inl, inr, ◌⊎◌}
use Rattle.std.specs.Prelude.{◌==◌}
use Rattle.std.proofs.Math.ListN.{replicate}
use Rattle.std.proofs.Math.Bool.{or-true, or-false}
use Rattle.std.proofs.lemmas.Grind.{get_or-set_at}
use Rattle.std.specs.List.{list_any}
use Rattle.std.proofs.lemmas.Bool.{cases_eq, eq-eqb}
use Rattle.std.proofs.lemmas.Bool.Decides.{nat_tests}
use Rattle.std.proofs.lemmas.List.{ext_get_or, length-set, length-replicate, get_or-replicate}
use Rattle.std.proofs.lemmas.List.Folds.{list_any-append}
use Rattle.std.proofs.lemmas.List.FromFn.{length-map-range_with_len, get_or-map-range_with_len}
use Rattle.erc_vectors.specs.declared.condition.ConId.{ConId}
use Rattle.command_words.specs.Words.{named}

-- the constraint with this number is in the list
abbrev pub is_named : List ConId → ℕ → Bool
is_named list k = list_any (λ constraint. constraint.0 == k) list

named_at : (n : ℕ) (list : List ConId) (k : ℕ) → k < n → get_or (named n list) k false ≡ is_named list k
named_at n list k within = get_or-map-range_with_len (is_named list) 0 n k k false within (omega arith)

pub length_named : (n : ℕ) (list : List ConId) → length (named n list) ≡ n
length_named n list = length-map-range_with_len (is_named list) 0 n

-- Of no constraints each is not named.
pub named-none : (n : ℕ) → replicate n false ≡ named n []
named-none n =
    ext_get_or false _ _ (length-replicate n false ∙ sym (length_named n []))
    (λ k h.
    let within : k < n = omega (arith, h, length-replicate n false) in
    get_or-replicate n k false false within ∙ sym (named_at n [] k within))

-- One more list member names its own constraint, and no other.
one_more : (list : List ConId) (c : ConId) (k : ℕ) → is_named (list ++ c ∷ []) k ≡ (is_named list k || is_named (c ∷ []) k)
one_more list c k = list_any-append (λ (constraint : ConId). constraint.0 == k) list (c ∷ [])

names_own : (list : List ConId) (c : ConId) (k : ℕ) → c.0 ≡ k → is_named (list ++ c ∷ []) k ≡ true
names_own list c k same =
    let own : (c.0 == k) ≡ true = eq-eqb c.0 k same in
    let named : is_named (c ∷ []) k ≡ true = rw own refl in
    one_more list c k ∙ rw named (or-true (is_named list k))

names_no_other : (list : List ConId) (c : ConId) (k : ℕ) → (c.0 ≡ k → ⊥) → is_named (list ++ c ∷ []) k ≡ is_named list k
names_no_other list c k other =
    let own : (c.0 == k) ≡ false = grind (arith, nat_tests) in
    let named : is_named (c ∷ []) k ≡ false = rw own refl in
    one_more list c k ∙ rw named (or-false (is_named list k))

-- With one more name its flag is set.
pub named-more : (n : ℕ) (list : List ConId) (c : ConId) → c.0 < n → set (named n list) c.0 true ≡ named n (list ++ c ∷ [])
named-more n list c small =
    ext_get_or false _ _ (length-set (named n list) c.0 true ∙ (length_named n list ∙ sym (length_named n (list ++ c ∷ []))))
    (λ k h.
    let within : k < n = omega (arith, h, length-set (named n list) c.0 true, length_named n list) in
    at k within (cases_eq c.0 k))
  where
    at : (k : ℕ) → k < n → (c.0 ≡ k) ⊎ (c.0 ≡ k → ⊥) → get_or (set (named n list) c.0 true) k false ≡ get_or (named n (list ++ c ∷ [])) k false
    at k within (inl same) =
        get_or-set_at (named n list) c.0 k true false (sym same) (omega (arith, small, length_named n list)) ∙ sym (named_at n (list ++ c ∷ []) k within ∙ names_own list c k same)
    at k within (inr other) =
        get_or-set_other (named n list) c.0 k true false (λ e. other (sym e)) ∙ (named_at n list k within ∙ sym (named_at n (list ++ c ∷ []) k within ∙ names_no_other list c k other))

-- A number that is no constraint's names none.
pub named-past : (n : ℕ) (list : List ConId) (c : ConId) → n ≤ c.0 → named n list ≡ named n (list ++ c ∷ [])
named-past n list c large =
    ext_get_or false _ _ (length_named n list ∙ sym (length_named n (list ++ c ∷ [])))
    (λ k h.
    let within : k < n = omega (arith, h, length_named n list) in
    let other : c.0 ≡ k → ⊥ = λ e. absurd (omega (arith, e, large, within)) in
    named_at n list k within ∙ sym (named_at n (list ++ c ∷ []) k within ∙ names_no_other list c k other))

-- The same of flags that are known to be those of a list.
pub set-named : (n : ℕ) (list : List ConId) (c : ConId) (flags : List Bool) → flags ≡ named n list → c.0 < length flags → set flags c.0 true ≡ named n (list ++ c ∷ [])
set-named n list c flags e small =
    let within : c.0 < n = omega (arith, small, ap length e, length_named n list) in
    rw e (named-more n list c within)

pub keep-named : (n : ℕ) (list : List ConId) (c : ConId) (flags : List Bool) → flags ≡ named n list → length flags ≤ c.0 → flags ≡ named n (list ++ c ∷ [])
keep-named n list c flags e large =
    let past : n ≤ c.0 = omega (arith, large, ap length e, length_named n list) in
    e ∙ named-past n list c past
