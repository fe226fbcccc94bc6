use Rattle.std.proofs.Common.{◌∙◌, ap, ◌++◌, ◌∷◌, []}
use Rattle.search_rows.proofs.Staying.{pair_make}
use Rattle.search_rows.proofs.deques.ends.Goals as goal

pub settle_up-requires : goal.settle_up-requires
settle_up-requires c =
    pair_make c.args.first c.args.second c.push-2.new.self c.requires (c.in_ok-push-2.ensures.ok ∙ (ap (λ l. l ++ c.args.first ∷ []) (c.in_ok-push.ensures.ok ∙ ap (λ l. l ++ c.args.second ∷ []) c.new-seats.ensures)))
