use Rattle.std.proofs.Common.{◌++◌, ◌∷◌, [], ap, ◌∙◌, append_assoc}
use Rattle.prefix_deques.specs.Dealing.{lists_of}
use Rattle.prefix_deques.proofs.settling.part_all.Goals as goal

pub loop-seat-preserved : goal.loop-seat-preserved
loop-seat-preserved c =
    let h = c.loop-seat.invariant in
    let o = c.part-owner.result.0 in
    let r = c.part-owner.result.1.items in (
      c.in-Some.seat ∷ h.0,
      h.1 ∙ (ap (λ l. l ++ h.0) c.in-Some.ensures ∙ append_assoc c.pop.new.self (c.in-Some.seat ∷ []) h.0),
      record {
        desks = record { seat = c.in-Some.seat; owner = o; lanes = r } ∷ h.2.desks;
        seats = ap (λ l. c.in-Some.seat ∷ l) h.2.seats;
        owners = c.in-Ok.ensures.items ∙ (λ i. (c.number-number.ensures i, o) ∷ h.2.owners i);
        rows = ap lists_of c.in-Ok-insert.ensures.items ∙ ap (λ l. r ∷ l) h.2.rows;
        each = (c.part-owner.ensures, h.2.each);
      },
    )
