-- The open conditions among the first ones of a set.
use Rattle.std.proofs.Common.{◌≡◌, ℕ, ◌+◌, ◌<◌, List, [], ◌∷◌, ◌++◌, true, false, arith, refl, sym, ap, ◌∙◌, length, get_or, cond}
use Rattle.std.specs.Prelude.{filter}
use Rattle.std.proofs.lemmas.List.{append-nil, map-id, get_or_read}
use Rattle.std.proofs.lemmas.List.FromFn.{filter_of_map_range_with_len_more}
use Rattle.ot_theory.specs.declared.Mark.{Mark}
use Rattle.ot_theory.specs.Rankings.{numbers_below}
use Rattle.ot_theory.specs.Demotion.{is_open}

abbrev open_below : List ℕ → List (List Mark) → ℕ → List ℕ
open_below levels set k = filter (λ j. is_open levels (get_or set j [])) (numbers_below k)

more : (levels : List ℕ) (set : List (List Mark)) (k : ℕ) → open_below levels set (k + 1) ≡ open_below levels set k ++ cond (is_open levels (get_or set k [])) (k ∷ []) []
more levels set k = simp map-id at (filter_of_map_range_with_len_more (λ (j : ℕ). is_open levels (get_or set j [])) (λ (j : ℕ). j) 0 k k (omega arith))

pub listed-in : (levels : List ℕ) (set : List (List Mark)) (k : ℕ) (marks : List Mark) → k < length set → marks ≡ get_or set k marks → is_open levels marks ≡ true → open_below levels set k ++ k ∷ [] ≡ open_below levels set (k + 1)
listed-in levels set k marks below is h =
    let same : marks ≡ get_or set k [] = get_or_read set k marks below is [] in
    let opened : is_open levels (get_or set k []) ≡ true = sym (ap (is_open levels) same) ∙ h in
    rw (more levels set k, opened) refl

pub listed-out : (levels : List ℕ) (set : List (List Mark)) (k : ℕ) (marks : List Mark) → k < length set → marks ≡ get_or set k marks → is_open levels marks ≡ false → open_below levels set k ≡ open_below levels set (k + 1)
listed-out levels set k marks below is h =
    let same : marks ≡ get_or set k [] = get_or_read set k marks below is [] in
    let closed : is_open levels (get_or set k []) ≡ false = sym (ap (is_open levels) same) ∙ h in
    rw (more levels set k, closed) (sym (append-nil (open_below levels set k)))
