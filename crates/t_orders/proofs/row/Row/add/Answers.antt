use Rattle.std.proofs.Common.{◌≡◌, ◌++◌, ◌∷◌, [], List, arith, length, drop, sym, subst}
use Rattle.std.proofs.lemmas.List.{take_at}
use Rattle.refutation.specs.Prefixes.{class_numbers}
use Rattle.t_orders.specs.declared.seen.Seen.{Seen}
use Rattle.t_orders.specs.Rows.{IsRowOf}
use Rattle.t_orders.proofs.row.Row.add.Goals as goal

-- The whole list is lent, so what is written back is all of it.
pub returns : goal.returns
returns c = λ choices inputs r.
    let same : c.args.self.now ≡ c.deref_mut.result.now = cc in
    let long : length c.note.new.seen ≡ c.self.inside.seen.len = omega arith in
    subst (λ (l : List Seen). IsRowOf (choices ++ class_numbers c.args.choice.now ∷ []) inputs l)
    (sym (take_at c.note.new.seen (drop (length c.note.new.seen) c.self.inside.seen.items) c.self.inside.seen.len long))
    (c.note.ensures choices inputs (subst (λ (l : List Seen). IsRowOf choices inputs l) same r))
