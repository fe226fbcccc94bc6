-- A text that has more pieces than are looked for.
use Rattle.std.proofs.Common.{◌≡◌, ℕ, ◌==◌, leb, true, false, List, ◌∷◌, length, refl, arith}
use Rattle.std.specs.Prelude.{Option, Some, None, is_some}
use Rattle.std.proofs.lemmas.Bool.{ne_eqb, le-leb}
use Rattle.std.proofs.lemmas.List.Splits.{length-slice_split}
use Rattle.report_reader.specs.Fields.{pieces, pieces_left, two}
use Rattle.report_reader.specs.Shapes.{parts_of}
use denote.Ref.{Bor}

-- there is one piece at least
pub one_piece : (c : ℕ) (text : List ℕ) → leb 1 (length (pieces c text)) ≡ true
one_piece c text = le-leb 1 (length (pieces c text)) (omega (arith, length-slice_split (λ (b : ℕ). b == c) text))

not_none : (c : ℕ) (text : List ℕ) → (length (pieces c text) == 0) ≡ false
not_none c text = ne_eqb (length (pieces c text)) 0 (λ e. omega (arith, length-slice_split (λ (b : ℕ). b == c) text))

pub two-more : (c : ℕ) (text a : List ℕ) (r1 : Option (Bor (List ℕ))) (s1 : Bor (List ℕ)) (b : List ℕ) (r2 : Option (Bor (List ℕ)))
    → pieces c text ≡ a ∷ pieces_left c r1 → r1 ≡ Some s1 → pieces c s1.now ≡ b ∷ pieces_left c r2 → is_some r2 ≡ true → None ≡ two (pieces c text)
two-more c text a r1 s1 b None first some second more = absurd cc
two-more c text a r1 s1 b (Some rest) first some second more = rw (first, some, second, not_none c rest.now) refl

pub parts-more : (text a : List ℕ) (r1 : Option (Bor (List ℕ))) (s1 : Bor (List ℕ)) (b : List ℕ) (r2 : Option (Bor (List ℕ))) (s2 : Bor (List ℕ))
    (d : List ℕ) (r3 : Option (Bor (List ℕ))) (s3 : Bor (List ℕ)) (e : List ℕ) (r4 : Option (Bor (List ℕ)))
    → pieces 9 text ≡ a ∷ pieces_left 9 r1 → r1 ≡ Some s1 → pieces 9 s1.now ≡ b ∷ pieces_left 9 r2 → r2 ≡ Some s2
    → pieces 9 s2.now ≡ d ∷ pieces_left 9 r3 → r3 ≡ Some s3 → pieces 9 s3.now ≡ e ∷ pieces_left 9 r4 → is_some r4 ≡ true → None ≡ parts_of (pieces 9 text)
parts-more text a r1 s1 b r2 s2 d r3 s3 e None p1 i1 p2 i2 p3 i3 p4 more = absurd cc
parts-more text a r1 s1 b r2 s2 d r3 s3 e (Some rest) p1 i1 p2 i2 p3 i3 p4 more = rw (p1, i1, p2, i2, p3, i3, p4, not_none 9 rest.now) refl
