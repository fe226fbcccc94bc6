use Rattle.std.proofs.Common.{take, slice_index, ◌≡◌, ℕ, List, [], ◌∷◌, ◌+◌, ◌++◌, codes, decimal, flat_map, map, append_assoc, ap, ◌==◌, ◌∙◌}
use Rattle.std.proofs.lemmas.Result.{on_ok_weaker}
use Rattle.report_text.specs.Reports.{violation, fatal, sign}
use Rattle.report_text.specs.Spelling.{line}
use Rattle.report_text.proofs.Grown.{fields}
use Rattle.report_text.proofs.Spaced.{join-cons}
use Rattle.report_text.proofs.Marked.{row_marked}
use Rattle.report_text.proofs.tableaux.put_row.Goals as goal

apart : (text word number shown rest last : List ℕ) → ((((text ++ word) ++ number) ++ shown) ++ rest) ++ last ≡ text ++ ((word ++ (number ++ (shown ++ rest))) ++ last)
apart text word number shown rest last = simp append_assoc

row_written : (text number shown : List ℕ) (xs : List (List ℕ)) → ((((text ++ codes "row") ++ (9 ∷ number)) ++ (9 ∷ shown)) ++ flat_map (λ y. 9 ∷ y) xs) ++ 10 ∷ [] ≡ text ++ line (codes "row" ∷ number ∷ shown ∷ xs)
row_written text number shown xs = rw (join-cons 9 shown xs) (apart text (codes "row") (9 ∷ number) (9 ∷ shown) (flat_map (λ y. 9 ∷ y) xs) (10 ∷ []))

pub returns : goal.returns
returns c =
    let order = c.args.order.now in
    let profile = c.args.profile.now in
    on_ok_weaker c.end_line.result (λ e w same.
    let first = fatal order w profile in
    let here : take c.width.result c.in_order-violations.result ≡ map (slice_index profile) order =
    rw c.width.ensures.width c.in_order-violations.ensures
    in
    let row = row_marked order w profile c.args.winning.now (take c.width.result c.in_order-violations.result) c.requires.ranking same here in
    let written : c.put_violations.new.text ≡ c.field.new.self ++ fields (violation profile first) order = c.in_ok-put_violations.ensures ∙ ap (λ (l : List ℕ). c.field.new.self ++ l) row in
    e ∙ (rw (written, c.in_ok-field.ensures, c.sign.ensures, c.in_ok-number_field.ensures, c.in_ok-put.ensures)
    (row_written c.args.text.now (decimal (c.args.a + 1)) (sign (c.args.a == c.args.winner.0)) (map (violation profile first) order))))
    c.end_line.ensures
