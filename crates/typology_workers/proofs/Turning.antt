-- What holds between two turns of a worker.
use Rattle.std.proofs.Common.{◌≡◌, ℕ, ◌+◌, ◌-◌, ◌^◌, ◌<◌, ◌≤◌, List, [], ◌∷◌, length, refl, sym, ap, subst, arith, inl, inr, length-append, sum, min}
use Rattle.std.specs.Prelude.{All}
use Rattle.std.proofs.lemmas.List.Elements.{All-push, All-nil, All-map}
use Rattle.ot_theory.specs.Problems.{Problem}
use Rattle.search_deeds.specs.Deeds as theory
use Rattle.search_deeds.specs.Deeds.{AreHonest, IsTrueOf}
use Rattle.search_deeds.specs.Gathered.{deed_of}
use Rattle.search_deeds.specs.declared.deed.Deed.{Deed}
use Rattle.prefix_deques.specs.Books.{Entry}
use Rattle.prefix_deques.specs.Lanes.{SeatView, HasPlaces}
use Rattle.refutation_store.specs.Fronts.{FrontView}
use Rattle.typology_workers.specs.declared.outcome.Work.{Work}
use Rattle.typology_workers.specs.declared.worker.TheConstants.{IDLE_ROUNDS, TURNS}
use Rattle.typology_workers.specs.Stays.{KeepsFront, KeepsSeat}
use Rattle.typology_workers.specs.Settled.{AreSettled, AreHandedOn, AreIdle, HasTried, HasSearched, got}
use Rattle.typology_workers.specs.Consulted.{AreConsulted}
use Rattle.typology_workers.specs.Turned.{HasDeed, HasSettled, IsStrange}
use Rattle.typology_workers.specs.Turns.{HasGot, HasMissed}
use Rattle.typology_workers.specs.Worked.{HasLooked, IsWorked}
use Rattle.typology_workers.proofs.Staying.{seat-then, front-then}
use Rattle.typology_workers.proofs.Consults.{IsTrueDeed, Grows, all-grows, consulted-none, consulted-more}
use Rattle.typology_workers.proofs.Settles.{settled-none, settled-deed, settled-strange, settled-same, handed-none-yet, handed-same, handed-deed}

-- After so many turns: all but the search itself is as it must be at the end.
pub record IsSoFar (problem : Problem) (places : ℕ) (old seat : SeatView) (front : FrontView) (work : Work) (turns : ℕ) : Type 0 where
  pub honest : All (IsTrueDeed problem) work.deeds
  pub settled : AreSettled problem old seat work.deeds work.strange
  pub handed_on : AreHandedOn problem old seat work.deeds work.outbox
  pub consulted : AreConsulted problem places front.values work.deeds
  pub looked : HasLooked places front (length work.deeds)
  pub tried : HasTried turns old seat
  pub longer : length (got old) ≤ length (got seat)
  pub few : length work.deeds ≤ turns
  pub places_each : HasPlaces seat

abbrev pub start : Work
start = record { deeds = []; outbox = []; strange = [] }

pub so-far-start : (problem : Problem) (places : ℕ) (seat : SeatView) (front : FrontView) (work : Work) → HasPlaces seat → work.deeds ≡ [] → work.outbox ≡ [] → work.strange ≡ [] → IsSoFar problem places seat seat front work 0
so-far-start problem places seat front work h d o s = record {
  honest = rw d (All-nil (IsTrueDeed problem));
  settled = rw (d, s) (settled-none problem seat);
  handed_on = rw (d, o) (handed-none-yet problem seat);
  consulted = rw d (consulted-none problem places front.values);
  looked = inl (rw d (omega arith));
  tried = omega arith;
  longer = omega arith;
  few = rw d (omega arith);
  places_each = h;
}

-- a turn that gets something counts as a get
tried-got : (turns : ℕ) (old a b c : SeatView) → turns < 2 ^ 41 → length (got old) ≤ length (got a) → HasTried turns old a → length (got b) ≡ length (got a) + 1 → ((n : ℕ) → n < 2 ^ 63 → n ≤ sum a.misses → n ≤ sum b.misses)
    → c.gets ≡ b.gets → c.misses ≡ b.misses → HasTried (turns + 1) old c × (length (got old) ≤ length (got c))
tried-got turns old a b c few long tried one keeps gets misses =
    let n = keeps (length (got old) + turns - length (got a)) (omega arith) (omega arith) in
    let x = ap sum misses in
    let y = ap (λ (g : List (List Entry)). length (flat g)) gets in
    (omega arith, omega arith)
  where
    flat : List (List Entry) → List (List ℕ)
    flat g = got (record a { gets = g })

tried-missed : (turns n : ℕ) (old a b : SeatView) → 0 < n → turns < 2 ^ 41 → length (got old) ≤ length (got a) → HasTried turns old a → HasMissed 0 n a b → HasTried (turns + 1) old b × (length (got old) ≤ length (got b))
tried-missed turns n old a b some few long tried m =
    let k = m.missed some (length (got old) + turns - length (got a)) (omega arith) (omega arith) in
    let y = ap (λ (g : List (List Entry)). length (flat g)) m.gets in
    (omega arith, omega arith)
  where
    flat : List (List Entry) → List (List ℕ)
    flat g = got (record a { gets = g })

pub so-far-got : (problem : Problem) (places : ℕ) (prefix : List ℕ) (old a b c : SeatView) (front front' : FrontView) (work work' : Work) (turns : ℕ) → turns < 2 ^ 41 → IsSoFar problem places old a front work turns → HasGot a b prefix
    → HasSettled problem places prefix b c front front' work work' → KeepsFront places front front' → IsSoFar problem places old c front' work' (turns + 1)
so-far-got problem places prefix old a b c front front' work work' turns small h g s f = elim s [ inl d ↦ done d | inr d ↦ strange d ]
  where
    done : HasDeed problem places prefix b c front front' work work' → IsSoFar problem places old c front' work' (turns + 1)
    done d =
        let deed : Deed = record { prefix = prefix; fate = d.fate } in
        let grows : Grows places front.values front'.values = record { begins = f.values; within = f.within } in
        let t = tried-got turns old a b c small h.longer h.tried g.count g.misses d.handed.gets d.handed.misses in
        record {
          honest = rw d.deeds (All-push (IsTrueDeed problem) work.deeds deed h.honest d.fated.true_of);
          settled = rw (d.deeds, d.strange) (settled-deed problem old a b c work.deeds work.strange deed h.settled g d.handed.gets d.is_prefix);
          handed_on = rw d.deeds (handed-deed problem old b c work.deeds work.outbox work'.outbox deed (handed-same problem old a b work.deeds work.outbox h.handed_on g.puts g.back g.room) d.handed);
          consulted = rw d.deeds (consulted-more problem places front.values front'.values work.deeds deed grows h.honest h.consulted d.fated.best);
          looked = look grows d;
          tried = t.0;
          longer = t.1;
          few = (let n = ap length d.deeds in let m = length-append work.deeds (deed ∷ []) in let k = h.few in omega arith);
          places_each = d.handed.places;
        }
      where
        look : Grows places front.values front'.values → (d : HasDeed problem places prefix b c front front' work work') → HasLooked places front' (length work'.deeds)
        look grows d =
            let deed : Deed = record { prefix = prefix; fate = d.fate } in
            let n = ap length d.deeds in
            let m = length-append work.deeds (deed ∷ []) in
            let k = h.few in
            elim d.fated.looked [
              | inl all ↦ inr all
              | inr rose ↦ elim h.looked [ inl most ↦ inl (let r : min (front.misses + 1) (2 ^ 64 - 1) ≤ front'.misses = rose in omega arith) | inr all ↦ inr (all-grows places front.values front'.values grows all) ]
            ]

    strange : IsStrange problem prefix b c front front' work work' → IsSoFar problem places old c front' work' (turns + 1)
    strange d =
        let t = tried-got turns old a b b small h.longer h.tried g.count g.misses refl refl in
        let now : IsSoFar problem places old b front work' (turns + 1) = record {
          honest = rw d.deeds h.honest;
          settled = rw (d.deeds, d.strange) (settled-strange problem old a b work.deeds work.strange prefix h.settled g d.is_none);
          handed_on = rw (d.deeds, d.outbox) (handed-same problem old a b work.deeds work.outbox h.handed_on g.puts g.back g.room);
          consulted = rw d.deeds h.consulted;
          looked = rw d.deeds h.looked;
          tried = t.0;
          longer = t.1;
          few = (let n = ap length d.deeds in let k = h.few in omega arith);
          places_each = g.places;
        } in
        subst (λ (s : SeatView). IsSoFar problem places old s front' work' (turns + 1)) (sym d.same_seat) (subst (λ (v : FrontView). IsSoFar problem places old b v work' (turns + 1)) (sym d.same_front) now)

pub so-far-idle : (problem : Problem) (places n : ℕ) (old a b : SeatView) (front : FrontView) (work : Work) (turns : ℕ) → 0 < n → turns < 2 ^ 41 → IsSoFar problem places old a front work turns → HasMissed 0 n a b → IsSoFar problem places old b front work (turns + 1)
so-far-idle problem places n old a b front work turns some small h m =
    let t = tried-missed turns n old a b some small h.longer h.tried m in
    record {
      honest = h.honest;
      settled = settled-same problem old a b work.deeds work.strange h.settled m.gets;
      handed_on = handed-same problem old a b work.deeds work.outbox h.handed_on m.puts m.back m.room;
      consulted = h.consulted;
      looked = h.looked;
      tried = t.0;
      longer = t.1;
      few = (let k = h.few in omega arith);
      places_each = m.places;
    }

pub idle-more : (rounds n : ℕ) (a b : SeatView) → rounds < 2 ^ 62 → n ≡ length a.make → AreIdle rounds a → HasMissed 0 n a b → AreIdle (rounds + 1) b
idle-more rounds n a b small e h m v within =
    let k = ap (λ l. length l) m.make in
    m.each v rounds (omega arith) (omega arith) small (h v (omega arith))

pub worked : (problem : Problem) (places : ℕ) (old seat : SeatView) (front : FrontView) (work : Work) (turns : ℕ) → IsSoFar problem places old seat front work turns → HasSearched old seat → IsWorked problem places old seat front work
worked problem places old seat front work turns h s = record {
  honest = All-map (λ (deed : theory.Deed). IsTrueOf problem deed.prefix deed.fate) deed_of work.deeds h.honest;
  settled = h.settled;
  handed_on = h.handed_on;
  searched = s;
  consulted = h.consulted;
  looked = h.looked;
}

-- what the loop keeps
pub record IsBetween (problem : Problem) (places : ℕ) (old seat : SeatView) (first front : FrontView) (work : Work) (idle taken turns : ℕ) : Type 0 where
  pub so_far : IsSoFar problem places old seat front work turns
  pub rounds : AreIdle idle seat
  pub stays : KeepsSeat old seat
  pub learns : KeepsFront places first front
  pub few : idle ≤ IDLE_ROUNDS
  pub gets : taken ≤ turns

pub got-turn : (problem : Problem) (places : ℕ) (prefix : List ℕ) (old a b c : SeatView) (first front front' : FrontView) (work work' : Work) (idle taken turns : ℕ) → IsBetween problem places old a first front work idle taken turns → turns < TURNS
    → KeepsSeat a b → HasGot a b prefix → KeepsSeat b c → KeepsFront places front front' → HasSettled problem places prefix b c front front' work work' → IsBetween problem places old c first front' work' 0 (taken + 1) (turns + 1)
got-turn problem places prefix old a b c first front front' work work' idle taken turns h lt s g t f d = record {
  so_far = so-far-got problem places prefix old a b c front front' work work' turns (omega arith) h.so_far g d f;
  rounds = λ v within. omega arith;
  stays = seat-then old a c h.stays (seat-then a b c s t);
  learns = front-then places first front front' h.learns f;
  few = omega arith;
  gets = (let k = h.gets in omega arith);
}

pub idle-turn : (problem : Problem) (places : ℕ) (old a b : SeatView) (first front : FrontView) (work : Work) (idle taken turns : ℕ) → IsBetween problem places old a first front work idle taken turns → turns < TURNS → idle < IDLE_ROUNDS
    → KeepsSeat a b → HasMissed 0 (length a.make) a b → IsBetween problem places old b first front work (idle + 1) taken (turns + 1)
idle-turn problem places old a b first front work idle taken turns h lt le s m = record {
  so_far = so-far-idle problem places (length a.make) old a b front work turns (let o = h.so_far.places_each.own in omega arith) (omega arith) h.so_far m;
  rounds = idle-more idle (length a.make) a b (omega arith) refl h.rounds m;
  stays = seat-then old a b h.stays s;
  learns = h.learns;
  few = omega arith;
  gets = (let k = h.gets in omega arith);
}
