-- The last seat of the list goes into a packet before the others.
use Rattle.std.proofs.Common.{◌≡◌, ◌∙◌, ◌++◌, ◌∷◌, [], ap, append_assoc, subst}
use Rattle.std.proofs.lemmas.List.Elements.{All-cons}
use Rattle.prefix_deques.specs.Booked.{IsMake}
use Rattle.prefix_deques.specs.Made.{AreNew}
use Rattle.refutation_store.specs.Fronts.{Begins}
use Rattle.typology_workers.specs.Packets.{seats_of}
use Rattle.typology_workers.specs.declared.halves.Packet.{Packet}
use Rattle.typology_workers.proofs.dealing.packets.Goals as goal

pub loop-seat-preserved : goal.loop-seat-preserved
loop-seat-preserved c =
    let seats = seats_of c.loop-seat.packets.items in
    let packet : Packet = record { seat = c.in-Some.seat; front = c.in_ok-front.front } in
    rw c.in_ok-insert.ensures.items (record {
      whole = c.loop-seat.invariant.whole ∙ ap (λ l. l ++ seats) c.in-Some.ensures ∙ append_assoc c.pop.new.self (c.in-Some.seat ∷ []) seats;
      fronts = All-cons (λ (p : Packet). Begins c.args.store.now p.front) packet c.loop-seat.packets.items c.in_ok-front.ensures c.loop-seat.invariant.fronts;
    })

pub returns : goal.returns
returns c =
    let seats = seats_of c.loop-seat.packets.items in
    let all : c.in_ok-seats.seats ≡ seats = c.loop-seat.invariant.whole ∙ ap (λ l. l ++ seats) c.in_default.ensures.0 in
    record {
      seats = subst (AreNew c.args.workers) all c.in_ok-seats.ensures.new;
      make = subst IsMake all c.in_ok-seats.ensures.make;
      fronts = c.loop-seat.invariant.fronts;
    }
