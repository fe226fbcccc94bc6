-- Bytes that are pieces, one behind another.
use Rattle.std.proofs.Common.{◌≡◌, ℕ, suc, ◌+◌, ◌<◌, ◌≤◌, List, [], ◌∷◌, ◌++◌, Bor, true, ◌==◌, length, take, drop, get_or, flat_map, append-nil, append_assoc, arith, sym, ap, ◌∙◌}
use Rattle.std.specs.Str.{bytes_eq}
use Rattle.std.proofs.Math.Seq.{take-suc, take-length}
use Rattle.std.proofs.lemmas.Bool.{eqb-true}
use Rattle.std.proofs.lemmas.Grind.{flat_map-append}
use Rattle.std.proofs.lemmas.List.{take-append-drop}
use Rattle.std.proofs.lemmas.Slice.Eq.{bytes_eq-Decides}

abbrev pub text : Bor (List ℕ) → List ℕ
text piece = piece.now

-- the pieces so far, and the rest
abbrev pub IsSplit : List ℕ → List (Bor (List ℕ)) → ℕ → List ℕ → Type 0
IsSplit bytes pieces k rest = bytes ≡ flat_map text (take k pieces) ++ rest

-- a piece more
pub split-more : (bytes : List ℕ) (pieces : List (Bor (List ℕ))) (k : ℕ) (d : Bor (List ℕ)) (rest behind : List ℕ) → k < length pieces
    → bytes_eq (take (length (get_or pieces k d).now) rest) (get_or pieces k d).now ≡ true → behind ≡ drop (length (get_or pieces k d).now) rest
    → IsSplit bytes pieces k rest → IsSplit bytes pieces (k + 1) behind
split-more bytes pieces k d rest behind below same e h =
    let piece : List ℕ = (get_or pieces k d).now in
    let front : take (length piece) rest ≡ piece = (bytes_eq-Decides (take (length piece) rest) piece).0 same in
    let whole : rest ≡ piece ++ behind = sym (take-append-drop (length piece) rest) ∙ ap (λ (l : List ℕ). l ++ drop (length piece) rest) front ∙ ap (λ (l : List ℕ). piece ++ l) (sym e) in
    let next : k + 1 ≡ suc k = omega arith in
    let pieces_so_far : flat_map text (take (k + 1) pieces) ≡ flat_map text (take k pieces) ++ piece =
    ap (λ (n : ℕ). flat_map text (take n pieces)) next ∙ ap (flat_map text) (take-suc pieces k d below) ∙ flat_map-append text (take k pieces) (get_or pieces k d ∷ []) ∙ ap (λ (l : List ℕ). flat_map text (take k pieces) ++ l) (append-nil piece) in
    h ∙ ap (λ (l : List ℕ). flat_map text (take k pieces) ++ l) whole ∙ sym (append_assoc (flat_map text (take k pieces)) piece behind) ∙ ap (λ (l : List ℕ). l ++ behind) (sym pieces_so_far)

-- all pieces, and no rest
pub split-all : (bytes : List ℕ) (pieces : List (Bor (List ℕ))) (k : ℕ) (rest : List ℕ) → length pieces ≤ k → k ≤ length pieces → (length rest == 0) ≡ true → IsSplit bytes pieces k rest → bytes ≡ flat_map text pieces
split-all bytes pieces k [] above below none h =
    let all : k ≡ length pieces = omega (arith, above, below) in
    h ∙ append-nil (flat_map text (take k pieces)) ∙ ap (λ (n : ℕ). flat_map text (take n pieces)) all ∙ ap (flat_map text) (take-length pieces)
split-all bytes pieces k (x ∷ rest) above below none h = absurd (omega (arith, eqb-true _ _ none))
