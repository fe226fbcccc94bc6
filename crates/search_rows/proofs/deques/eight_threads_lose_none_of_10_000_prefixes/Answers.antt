use Rattle.std.proofs.Common.{◌∙◌, List, length, map, sym, ap, subst, arith}
use Rattle.prefix_deques.specs.Lanes.{SeatView}
use Rattle.prefix_deques.specs.Booked.{IsMake}
use Rattle.search_rows.specs.declared.deques.Hand.{Hand}
use Rattle.search_rows.proofs.Staying.{still_make, written}
use Rattle.search_rows.proofs.deques.eight_threads_lose_none_of_10_000_prefixes.Goals as goal

abbrev seat_of : Hand → SeatView
seat_of h = h.seat

pub ended-requires : goal.ended-requires
ended-requires g c =
    let v = c.deref_mut.ensures.value in
    let many = c.all_turns.ensures.many ∙ ap length v in
    let before : IsMake (map seat_of c.deref_mut.result.now) = subst (λ (l : List Hand). IsMake (map seat_of l)) (sym v) c.in_ok-hands.ensures in
    let after = still_make seat_of c.deref_mut.result.now c.all_turns.new.hands before c.all_turns.ensures.many c.all_turns.ensures.same in
    subst (λ (l : List Hand). IsMake (map seat_of l)) (sym (written c.in_ok-hands.hands.len c.all_turns.new.hands c.in_ok-hands.hands.items many (let k = c.in_ok-hands.hands.ok.0 in omega arith))) after
