use Rattle.std.proofs.Common.{◌≡◌, ℕ, ◌+◌, List, [], ◌∷◌, ◌++◌, codes, append_assoc, refl, ◌∙◌}
use Rattle.std.proofs.lemmas.Result.{on_ok_weaker}
use Rattle.report_text.specs.Spelling.{line, output}
use Rattle.report_text.proofs.torder.put_implication.Goals as goal

two_fields : (text word x y : List ℕ) → (((text ++ word) ++ (9 ∷ x)) ++ (9 ∷ y)) ++ 10 ∷ [] ≡ text ++ line (word ∷ x ∷ y ∷ [])
two_fields text word x y = simp append_assoc

pub returns : goal.returns
returns c =
    let i = c.args.implication.now in
    let from = output (i.from_input.0 + 1) (i.from_class.0 + 1) in
    let to = output (i.to_input.0 + 1) (i.to_class.0 + 1) in
    let fields : c.output_field-2.new.self ≡ ((c.args.text.now ++ codes "implication") ++ (9 ∷ from)) ++ (9 ∷ to) =
    rw (c.in_ok-output_field-2.ensures, c.in_ok-output_field.ensures, c.in_ok-put.ensures) refl
    in
    let whole : c.output_field-2.new.self ++ 10 ∷ [] ≡ c.args.text.now ++ line (codes "implication" ∷ from ∷ to ∷ []) = rw fields (two_fields c.args.text.now (codes "implication") from to) in
    on_ok_weaker c.end_line.result (λ (written : c.end_line.new.self ≡ c.output_field-2.new.self ++ 10 ∷ []). written ∙ whole) c.end_line.ensures
