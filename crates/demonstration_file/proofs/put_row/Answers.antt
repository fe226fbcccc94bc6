use Rattle.std.proofs.Common.{[], ◌∷◌, ap, ◌∙◌}
use Rattle.std.proofs.lemmas.Result.{on_ok_weaker}
use Rattle.number_draws.specs.Draws.{next_state, drawn_below}
use Rattle.demonstration_file.proofs.Growing.{row-written, three-draws}
use Rattle.demonstration_file.proofs.put_row.Goals as goal

pub returns-clause-row : goal.returns-clause-row
returns-clause-row c =
    let second = c.below-2.ensures.drawn ∙ ap (drawn_below 3) c.below.ensures.state in
    let third = c.below-3.ensures.drawn ∙ ap (drawn_below 3) (c.below-2.ensures.state ∙ ap next_state c.below.ensures.state) in
    on_ok_weaker c.put.result
    (row-written c.args.generator.now c.args.k c.args.j (c.below.result ∷ c.below-2.result ∷ c.below-3.result ∷ []) _ _ _ _ (λ place few. three-draws c.args.generator.now place _ _ _ c.below.ensures.drawn second third few) c.in_ok-put_texts.ensures c.in_ok-put_violations.ensures)
    c.put.ensures
