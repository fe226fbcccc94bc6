-- The candidates of a class, by their positions and by their profile.
use Rattle.std.proofs.Common.{◌≡◌, ◌≤◌, ◌<◌, ◌+◌, ℕ, zero, suc, Bool, true, false, cond, List, [], ◌∷◌, ◌++◌, length, get_or, take, take_all, map, filter, All, arith, refl, ap, subst}
use Rattle.std.specs.List.{range_with_len}
use Rattle.std.proofs.lemmas.List.FromFn.{filter_of_map_range_with_len_more, get_or-range_with_len, length-range_with_len}
use Rattle.std.proofs.lemmas.List.Elements.{filter_more, All-filter}
use Rattle.std.proofs.lemmas.List.{map-append, map-id, get_or-map, length-map}
use Rattle.ot_base.specs.declared.tableau.CandidateRow.{CandidateRow}
use Rattle.ot_base.specs.declared.tableau.InputRows.{InputRows}
use Rattle.ot_theory.specs.Problems.{members_of, same_profile}
use Rattle.report_text.specs.Reports.{members, text_at}

abbrev nobody : CandidateRow
nobody = record { text = []; count = 0; violations = []; line = 0 }

abbrev text_of : CandidateRow → List ℕ
text_of row = row.text

abbrev profile_of : CandidateRow → List ℕ
profile_of row = row.violations

-- one of them alone, if it passes
one_alone : {X Y Z : Type 0} (f : X → Z) (g : Y → Z) (x : X) (y : Y) (passes : Bool) → f x ≡ g y → map f (cond passes (x ∷ []) []) ≡ map g (cond passes (y ∷ []) [])
one_alone f g x y true same = ap (λ z. z ∷ []) same
one_alone f g x y false same = refl

-- those among the first n candidates
abbrev AgreeUpTo : InputRows → List ℕ → ℕ → Type 0
AgreeUpTo rows profile n =
    map (text_at rows) (filter (λ k. same_profile profile (get_or (map profile_of rows.candidates) k [])) (range_with_len 0 n))
    ≡ map text_of (filter (λ row. same_profile profile row.violations) (take n rows.candidates))

one_more : (rows : InputRows) (profile : List ℕ) (n : ℕ) → n < length rows.candidates → AgreeUpTo rows profile n → AgreeUpTo rows profile (n + 1)
one_more rows profile n below before =
    let all = rows.candidates in
    let row = get_or all n nobody in
    let passes : ℕ → Bool = λ k. same_profile profile (get_or (map profile_of all) k []) in
    let is : passes n ≡ same_profile profile row.violations = ap (same_profile profile) (get_or-map profile_of all n nobody [] below) in
    let one = one_alone (text_at rows) text_of n row (same_profile profile row.violations) (get_or-map text_of all n nobody [] below) in
    let e = filter_of_map_range_with_len_more passes (λ k. k) 0 n n (omega arith) in
    let left : filter passes (range_with_len 0 (n + 1)) ≡ filter passes (range_with_len 0 n) ++ cond (same_profile profile row.violations) (n ∷ []) [] =
    rw (map-id (range_with_len 0 (n + 1)), map-id (range_with_len 0 n), is) at e
    in
    let right = filter_more (λ (r : CandidateRow). same_profile profile r.violations) all n nobody below in
    rw (left, right, map-append, map-append, before, one) refl

up_to : (rows : InputRows) (profile : List ℕ) (n : ℕ) → n ≤ length rows.candidates → AgreeUpTo rows profile n
up_to rows profile zero within = refl
up_to rows profile (suc n) within =
    let next : n + 1 ≡ suc n = omega arith in
    subst (λ (m : ℕ). AgreeUpTo rows profile m) next (one_more rows profile n (omega (arith, within)) (up_to rows profile n (omega (arith, within))))

pub members-by_position : (rows : InputRows) (profile : List ℕ) → map (text_at rows) (members_of (map (λ row. row.violations) rows.candidates) profile) ≡ members rows profile
members-by_position rows profile =
    let n = length rows.candidates in
    rw (length-map rows.candidates profile_of, up_to rows profile n (omega arith), take_all n rows.candidates (omega arith)) refl

range_below : (n : ℕ) → All (λ k. k < n) (range_with_len 0 n)
range_below n k d within =
    let below : k < n = omega (arith, within, length-range_with_len 0 n) in
    omega (arith, below, get_or-range_with_len 0 n k d below)

pub members-within : (rows : InputRows) (profile : List ℕ) → All (λ k. k < length rows.candidates) (members_of (map (λ row. row.violations) rows.candidates) profile)
members-within rows profile =
    let n = length rows.candidates in
    let profiles = map profile_of rows.candidates in
    rw (length-map rows.candidates profile_of) (All-filter (λ k. same_profile profile (get_or profiles k [])) (λ k. k < n) (range_with_len 0 n) (range_below n))
