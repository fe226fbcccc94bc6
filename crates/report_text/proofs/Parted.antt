-- Texts that are cut at a byte which their parts do not have.
use Rattle.std.proofs.Common.{◌≡◌, ℕ, suc, ◌+◌, ◌<◌, Bool, true, false, not, ◌==◌, List, [], ◌∷◌, ◌++◌, Some, length, drop, length-append, arith, refl, ap, ◌∙◌, inl, inr}
use Rattle.std.specs.List.{list_all, join_with_byte, onto_first, position_or_len}
use Rattle.std.proofs.lemmas.Bool.{eq-eqb, not-true, and_parts, cases_Bool, lt-ltb}
use Rattle.std.proofs.lemmas.List.{append_assoc, take_at, drop_at}
use Rattle.std.proofs.lemmas.List.Folds.{list_all-append}
use Rattle.std.proofs.lemmas.List.Splits.{length-slice_split}
use Rattle.report_reader.specs.Fields.{pieces}
use Rattle.report_reader.specs.Grammar.{first_line}

-- no byte of the text is this one
abbrev pub lacks : ℕ → List ℕ → Bool
lacks c text = list_all (λ b. not (b == c)) text

pub lacks-append : (c : ℕ) (a b : List ℕ) → lacks c a ≡ true → lacks c b ≡ true → lacks c (a ++ b) ≡ true
lacks-append c a b left right = rw (list_all-append (λ x. not (x == c)) a b, left, right) refl

pub lacks-joined : (c d : ℕ) (texts : List (List ℕ)) → (d == c) ≡ false → list_all (lacks c) texts ≡ true → lacks c (join_with_byte d texts) ≡ true
lacks-joined c d [] other each = refl
lacks-joined c d (x ∷ []) other each = (and_parts _ _ each).0
lacks-joined c d (x ∷ y ∷ texts) other each =
    let parts = and_parts (lacks c x) (list_all (lacks c) (y ∷ texts)) each in
    lacks-append c x (d ∷ join_with_byte d (y ∷ texts)) parts.0 (rw other (lacks-joined c d (y ∷ texts) other parts.1))

-- ---- pieces
onto_first-append : (x : ℕ) (front rest : List (List ℕ)) → 0 < length front → onto_first x (front ++ rest) ≡ onto_first x front ++ rest
onto_first-append x [] rest some = absurd (omega (arith, some))
onto_first-append x (part ∷ parts) rest some = refl

pub pieces-alone : (c : ℕ) (text : List ℕ) → lacks c text ≡ true → pieces c text ≡ text ∷ []
pieces-alone c [] without = refl
pieces-alone c (b ∷ text) without =
    let parts = and_parts (not (b == c)) (lacks c text) without in
    rw (not-true (b == c) parts.0, pieces-alone c text parts.1) refl

pub pieces-both : (c : ℕ) (a b : List ℕ) → pieces c (a ++ c ∷ b) ≡ pieces c a ++ pieces c b
pieces-both c [] b = rw (eq-eqb c c refl) refl
pieces-both c (x ∷ a) b = elim (cases_Bool (x == c)) [
  | inl same ↦ rw (same, pieces-both c a b) refl
  | inr other ↦ rw (other, pieces-both c a b) (onto_first-append x (pieces c a) (pieces c b) (omega (arith, length-slice_split (λ (y : ℕ). y == c) a)))
]

-- a part that lacks the byte, and the pieces behind it
pub pieces-first : (c : ℕ) (a b : List ℕ) → lacks c a ≡ true → pieces c (a ++ c ∷ b) ≡ a ∷ pieces c b
pieces-first c a b without = pieces-both c a b ∙ rw (pieces-alone c a without) refl

pub pieces-joined : (c : ℕ) (x : List ℕ) (texts : List (List ℕ)) → list_all (lacks c) (x ∷ texts) ≡ true → pieces c (join_with_byte c (x ∷ texts)) ≡ x ∷ texts
pieces-joined c x [] each = pieces-alone c x (and_parts (lacks c x) true each).0
pieces-joined c x (y ∷ texts) each =
    let parts = and_parts (lacks c x) (list_all (lacks c) (y ∷ texts)) each in
    pieces-first c x (join_with_byte c (y ∷ texts)) parts.0 ∙ ap (λ (rest : List (List ℕ)). x ∷ rest) (pieces-joined c y texts parts.1)

-- ---- the first line
first_place : (text rest : List ℕ) → lacks 10 text ≡ true → position_or_len (λ b. b == 10) (text ++ 10 ∷ rest) ≡ length text
first_place [] rest without = refl
first_place (b ∷ text) rest without =
    let parts = and_parts (not (b == 10)) (lacks 10 text) without in
    let next : 1 + length text ≡ suc (length text) = omega arith in
    rw (not-true (b == 10) parts.0, first_place text rest parts.1, next) refl

pub first_line-text : (text rest : List ℕ) → lacks 10 text ≡ true → first_line (text ++ 10 ∷ rest) ≡ Some (text, rest)
first_line-text text rest without =
    let place = first_place text rest without in
    let within : length text < length (text ++ 10 ∷ rest) = omega (arith, length-append text (10 ∷ rest)) in
    let before = take_at text (10 ∷ rest) (length text) refl in
    let long : length (text ++ 10 ∷ []) ≡ length text + 1 = length-append text (10 ∷ []) in
    let after : drop (length text + 1) (text ++ 10 ∷ rest) ≡ rest = rw (append_assoc text (10 ∷ []) rest) at (drop_at (text ++ 10 ∷ []) rest (length text + 1) long) in
    rw (place, lt-ltb (length text) (length (text ++ 10 ∷ rest)) within, before, after) refl
