use Rattle.std.proofs.Common.{◌≡◌, map, arith, sym, ◌∙◌}
use Rattle.std.proofs.lemmas.List.{length-map, get_or-map}
use Rattle.std.proofs.lemmas.List.Elements.{All-map}
use Rattle.ot_theory.proofs.Winners.{winner_of-none}
use Rattle.violation_profiles.proofs.laws.winner_by_counts.Goals as goal

pub returns : goal.returns
returns c = λ rows.
    let violations = length-map rows.candidates (λ row. row.violations) in
    let counts = length-map rows.candidates (λ row. row.count) in
    let law = winner_of-none (map (λ row. row.violations) rows.candidates) (map (λ row. row.count) rows.candidates) (violations ∙ sym counts) in
    (λ none k d below. omega (arith, get_or-map (λ row. row.count) rows.candidates k d 0 below, law.0 none k 0 (omega (arith, counts, below))), λ zeros. law.1 (All-map (λ count. count ≡ 0) (λ row. row.count) rows.candidates zeros))
