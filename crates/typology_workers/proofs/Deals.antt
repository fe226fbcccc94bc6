-- Prefixes are dealt to packets one after another.
use Rattle.std.proofs.Common.{◌≡◌, ℕ, zero, suc, ◌+◌, ◌<◌, List, [], ◌∷◌, arith, refl, sym, ◌∙◌, ap, flat_map, map, length, get_or, set}
use Rattle.std.proofs.lemmas.List.{get_or-map, map-set, set-get_or}
use Rattle.prefix_deques.specs.Lanes.{SeatView}
use Rattle.search_deeds.specs.Deeds.{times}
use Rattle.search_deeds.proofs.Counts.{times-append, times-cons}
use Rattle.typology_workers.specs.Packets.{AreDealt, IsPut, but_puts, seats_of}
use Rattle.typology_workers.specs.declared.halves.Packet.{Packet}

times-set : (f : SeatView → List (List ℕ)) (p : List ℕ) (packets : List Packet) (k : ℕ) (here new : Packet) → k < length packets
    → times p (flat_map f (seats_of (set packets k new))) + times p (f (get_or packets k here).seat) ≡ times p (flat_map f (seats_of packets)) + times p (f new.seat)
times-set f p [] k here new lt = absurd (omega arith)
times-set f p (x ∷ packets) zero here new lt = omega (arith, times-append p (f new.seat) (flat_map f (seats_of packets)), times-append p (f x.seat) (flat_map f (seats_of packets)))
times-set f p (x ∷ packets) (suc k) here new lt =
    omega (
      arith,
      times-append p (f x.seat) (flat_map f (seats_of (set packets k new))),
      times-append p (f x.seat) (flat_map f (seats_of packets)),
      times-set f p packets k here new (omega arith),
    )

pub dealt-first : (packets : List Packet) (waiting : List (List ℕ)) → AreDealt packets waiting packets [] waiting
dealt-first packets waiting = record { same = refl; puts = λ p. omega arith; back = λ p. omega arith }

pub dealt-more : (old packets : List Packet) (waited before after waiting rest : List (List ℕ)) (prefix : List ℕ) (k : ℕ) (here new : Packet) → k < length packets → here ≡ get_or packets k here → waiting ≡ prefix ∷ rest
    → AreDealt old waited packets before waiting → IsPut here prefix new before after → AreDealt old waited (set packets k new) after rest
dealt-more old packets waited before after waiting rest prefix k here new lt at front dealt put = record {
  same = map-set but_puts packets k new ∙ ap (set (map but_puts packets) k) (put.same ∙ ap but_puts at ∙ sym (get_or-map but_puts packets k here (but_puts here) lt)) ∙ set-get_or (map but_puts packets) k (but_puts here) ∙ dealt.same;
  puts = λ p.
      omega (
        arith,
        times-set (λ seat. seat.puts) p packets k here new lt,
        ap (λ (x : Packet). times p x.seat.puts) at,
        dealt.puts p,
        put.puts p,
        ap (times p) front,
        times-cons p prefix rest,
        times-cons p prefix [],
      );
  back = λ p. omega (arith, times-set (λ seat. seat.back) p packets k here new lt, ap (λ (x : Packet). times p x.seat.back) at, dealt.back p, put.back p);
}
