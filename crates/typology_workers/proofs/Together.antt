-- The workers of a search together: from the prefixes that were dealt to them to their deeds and what they leave.
use Rattle.std.proofs.Common.{◌≡◌, ℕ, zero, suc, ◌+◌, ◌<◌, ◌⊎◌, List, [], ◌∷◌, ◌++◌, arith, refl, sym, ◌∙◌, ap, subst, inl, inr, cond, map, flat_map, length, get_or, replicate}
use Rattle.std.specs.Prelude.{All, Some, eqb, if◌then◌else◌, slice_get}
use Rattle.std.specs.List.{Any}
use Rattle.std.proofs.lemmas.Bool.{cases_Bool}
use Rattle.std.proofs.lemmas.List.{append-nil, length-map, map-append}
use Rattle.std.proofs.lemmas.List.Concat.{flat_map-append}
use Rattle.std.proofs.lemmas.List.Elements.{All-cons, All-head, All-nil, All-tail, All-weaker}
use Rattle.std.proofs.lemmas.Option.{none-some, same_Some, slice_get-get_or}
use Rattle.ot_theory.proofs.Candidates.{same-true}
use Rattle.ot_theory.specs.Problems.{Problem}
use Rattle.prefix_deques.specs.Booked.{DequeAgrees, IsMake, all_later, seats_at}
use Rattle.prefix_deques.specs.Lanes.{SeatView}
use Rattle.prefix_deques.specs.Made.{AreNew, IsNew}
use Rattle.refutation.specs.Asked.{Begins}
use Rattle.refutation_store.specs.Fronts as fronts
use Rattle.refutation_store.specs.Fronts.{FrontView}
use Rattle.search_deeds.specs.Deeds as theory
use Rattle.search_deeds.specs.Deeds.{AreBalanced, AreHonest, IsTrueOf, children, opened_by, opened_in, times}
use Rattle.search_deeds.specs.Gathered.{deed_of, deeds_in, deeds_of}
use Rattle.search_deeds.specs.declared.deed.Deed.{Deed}
use Rattle.search_deeds.proofs.Counts.{same, times-append, times-cons}
use Rattle.typology_workers.specs.FoundSearch.{ExtendsOne, IsWorkers}
use Rattle.typology_workers.specs.Packets.{HasRunAll, IsReady, back_of, but_puts, puts_of, seats_of}
use Rattle.typology_workers.specs.Settled.{got, prefixes_of}
use Rattle.typology_workers.specs.declared.halves.Ended.{Ended}
use Rattle.typology_workers.specs.declared.halves.Packet.{Packet}
use Rattle.typology_workers.specs.declared.outcome.Work.{Work}
use Rattle.typology_workers.specs.declared.parting.Parts.{Parts}
use Rattle.typology_workers.proofs.Accounts.{books-together, flat_map-map}
use Rattle.typology_workers.proofs.Shares.{AreShares, EachIs, IsShare, Share, all-born-fit, all-honest, all-none-strange, back-sums, both-sums, dealt_in, deeds_by, ended_in, fresh_in, front_in, given, got-sums, nothing-sums, put-sums, seat_in, shares-of, strange-sums, strange_to, work_in, workers-are}
use Rattle.typology_workers.proofs.Tallies.{All-from_times, born, some-member, times-from_All}
use Rattle.violation_profiles.specs.WellFormed.{IsPrefix}

pub map-map : {X Y Z : Type 0} (f : X → Y) (g : Y → Z) (xs : List X) → map g (map f xs) ≡ map (λ x. g (f x)) xs
map-map f g [] = refl
map-map f g (x ∷ xs) = ap (λ l. g (f x) ∷ l) (map-map f g xs)

-- A worker may go to work with each packet, also after the deal.

abbrev IsBlank : SeatView → Type 0
IsBlank s = (s.puts ≡ []) × (got s ≡ []) × (s.back ≡ []) × All (λ (misses : ℕ). misses ≡ 0) s.misses

got-none : (n : ℕ) → flat_map (map (λ (e : ℕ × List ℕ). e.1)) (replicate n []) ≡ []
got-none zero = refl
got-none (suc n) = got-none n

none-missed : (n : ℕ) → All (λ (misses : ℕ). misses ≡ 0) (replicate n 0)
none-missed zero = All-nil (λ (misses : ℕ). misses ≡ 0)
none-missed (suc n) = All-cons (λ (misses : ℕ). misses ≡ 0) 0 (replicate n 0) refl (none-missed n)

all-blank : (n : ℕ) (seats : List SeatView) → AreNew n seats → All IsBlank seats
all-blank n seats new k d lt =
    let here : IsNew new.make k (get_or seats k d) = new.each k (get_or seats k d) (slice_get-get_or seats k d lt) in
    (here.puts, ap (flat_map (map (λ (e : ℕ × List ℕ). e.1))) here.gets ∙ got-none (length new.make), here.back, subst (All (λ (misses : ℕ). misses ≡ 0)) (sym here.misses) (none-missed (length new.make)))

pub all-ready : (store : List ℕ) (fresh dealt : List Packet) → map but_puts dealt ≡ map but_puts fresh → All IsBlank (seats_of fresh) → All (λ (p : Packet). fronts.Begins store p.front) fresh → All (IsReady store) dealt
all-ready store [] [] e blank begins = All-nil (IsReady store)
all-ready store [] (p ∷ ps) e blank begins = absurd (cc)
all-ready store (f ∷ fs) [] e blank begins = absurd (cc)
all-ready store (f ∷ fs) (p ∷ ps) e blank begins =
    let here : but_puts p ≡ but_puts f = cc in
    let rest : map but_puts ps ≡ map but_puts fs = cc in
    let b = All-head IsBlank f.seat (seats_of fs) blank in
    let g = All-head (λ (q : Packet). fronts.Begins store q.front) f fs begins in
    All-cons (IsReady store) p ps (record {
      of_store = ap (λ (q : Packet). q.front.store) here ∙ ap (λ (q : FrontView). q.store) g;
      seat = subst (All (λ (misses : ℕ). misses ≡ 0)) (sym (ap (λ (q : Packet). q.seat.misses) here)) b.3;
      front = ap (λ (q : Packet). q.front.misses) here ∙ ap (λ (q : FrontView). q.misses) g;
    })
    (all-ready store fs ps rest (All-tail IsBlank f.seat (seats_of fs) blank) (All-tail (λ (q : Packet). fronts.Begins store q.front) f fs begins))

pub new-ready : (n : ℕ) (store : List ℕ) (fresh dealt : List Packet) → AreNew n (seats_of fresh) → map but_puts dealt ≡ map but_puts fresh → All (λ (p : Packet). fronts.Begins store p.front) fresh → All (IsReady store) dealt
new-ready n store fresh dealt new e begins = all-ready store fresh dealt e (all-blank n (seats_of fresh) new) begins

-- What a worker keeps of its seat and its front.

each-fresh : (P : SeatView → Type 0) (shares : List Share) → All P (map (λ (s : Share). s.fresh.seat) shares) → EachIs (λ (s : Share). P s.fresh.seat) shares
each-fresh P [] all = tt
each-fresh P (s ∷ shares) all = (All-head P s.fresh.seat (map (λ (t : Share). t.fresh.seat) shares) all, each-fresh P shares (All-tail P s.fresh.seat (map (λ (t : Share). t.fresh.seat) shares) all))

number-kept : (problem : Problem) (store : List ℕ) (s : Share) → IsShare problem store s → s.ended.packet.seat.number ≡ s.fresh.seat.number
number-kept problem store s h = h.ran.seat.number ∙ ap (λ (p : Packet). p.seat.number) h.same

seats-at-kept : (problem : Problem) (store : List ℕ) (k : ℕ) (shares : List Share) → EachIs (IsShare problem store) shares → seats_at k (map seat_in shares) ≡ seats_at k (map (λ (s : Share). s.fresh.seat) shares)
seats-at-kept problem store k [] each = refl
seats-at-kept problem store k (s ∷ shares) each =
    omega (arith, ap {B = ℕ} (λ (n : ℕ). if eqb k n then 1 else 0) (number-kept problem store s each.0), seats-at-kept problem store k shares each.1)

makes-kept : (problem : Problem) (store : List ℕ) (make : List (ℕ × ℕ)) (shares : List Share) → EachIs (IsShare problem store) shares → All (λ (t : SeatView). t.make ≡ make) (map (λ (s : Share). s.fresh.seat) shares) → All (λ (t : SeatView). t.make ≡ make) (map seat_in shares)
makes-kept problem store make [] each all = All-nil (λ (t : SeatView). t.make ≡ make)
makes-kept problem store make (s ∷ shares) each all =
    let others : List SeatView = map (λ (t : Share). t.fresh.seat) shares in
    All-cons (λ (t : SeatView). t.make ≡ make) s.ended.packet.seat (map seat_in shares) (each.0.ran.seat.make ∙ ap (λ (p : Packet). p.seat.make) each.0.same ∙ All-head (λ (t : SeatView). t.make ≡ make) s.fresh.seat others all)
    (makes-kept problem store make shares each.1 (All-tail (λ (t : SeatView). t.make ≡ make) s.fresh.seat others all))

make-kept : (problem : Problem) (store : List ℕ) (shares : List Share) → EachIs (IsShare problem store) shares → IsMake (map (λ (s : Share). s.fresh.seat) shares) → IsMake (map seat_in shares)
make-kept problem store shares each m =
    let many = length-map shares (λ (s : Share). s.fresh.seat) in
    let ends = length-map shares seat_in in
    record {
      make = m.make;
      same = makes-kept problem store m.make shares each m.same;
      many = omega (arith, many, ends, m.many);
      once = λ k lt. seats-at-kept problem store k shares each ∙ m.once k (omega (arith, many, ends, lt));
    }

record WasSeat (shares : List Share) (k : ℕ) (seat : SeatView) : Type 0 where
  was : SeatView
  at : slice_get (map (λ (s : Share). s.fresh.seat) shares) k ≡ Some was
  number : seat.number ≡ was.number

was-seat : (problem : Problem) (store : List ℕ) (shares : List Share) (k : ℕ) (seat : SeatView) → EachIs (IsShare problem store) shares → slice_get (map seat_in shares) k ≡ Some seat → WasSeat shares k seat
was-seat problem store [] k seat each a = absurd (none-some seat a)
was-seat problem store (s ∷ shares) zero seat each a = record {
  was = s.fresh.seat;
  at = refl;
  number = ap (λ (t : SeatView). t.number) (sym (same_Some (seat_in s) seat a)) ∙ number-kept problem store s each.0;
}
was-seat problem store (s ∷ shares) (suc k) seat each a = let r = was-seat problem store shares k seat each.1 a in record { was = r.was; at = r.at; number = r.number }

fronts-kept : (problem : Problem) (store : List ℕ) (shares : List Share) → EachIs (IsShare problem store) shares → All (λ (p : Packet). fronts.Begins store p.front) (map fresh_in shares) → All (λ (f : FrontView). f.store ≡ store) (map front_in shares)
fronts-kept problem store [] each all = All-nil (λ (f : FrontView). f.store ≡ store)
fronts-kept problem store (s ∷ shares) each all =
    All-cons (λ (f : FrontView). f.store ≡ store) s.ended.packet.front (map front_in shares)
    (each.0.ran.front.store ∙ ap (λ (p : Packet). p.front.store) each.0.same ∙ ap (λ (f : FrontView). f.store) (All-head (λ (p : Packet). fronts.Begins store p.front) s.fresh (map fresh_in shares) all))
    (fronts-kept problem store shares each.1 (All-tail (λ (p : Packet). fronts.Begins store p.front) s.fresh (map fresh_in shares) all))

-- Deeds of lists of deeds.

told-by : (x : List ℕ) (shares : List Share) → times x (map (λ (d : theory.Deed). d.prefix) (deeds_of (map deeds_by shares))) ≡ times x (flat_map (λ (s : Share). prefixes_of s.work.deeds) shares)
told-by x [] = refl
told-by x (s ∷ shares) =
    let f : theory.Deed → List ℕ = λ d. d.prefix in
    omega (
      arith,
      ap (times x) (map-append f (deeds_in s.work.deeds) (deeds_of (map deeds_by shares))),
      times-append x (map f (deeds_in s.work.deeds)) (map f (deeds_of (map deeds_by shares))),
      ap (times x) (map-map deed_of f s.work.deeds),
      told-by x shares,
      times-append x (prefixes_of s.work.deeds) (flat_map (λ (t : Share). prefixes_of t.work.deeds) shares),
    )

abbrev pub born_of : Problem → List theory.Deed → List (List ℕ)
born_of problem deeds = flat_map (children problem) (opened_in deeds)

pub born-of-append : (problem : Problem) (x : List ℕ) (a b : List theory.Deed) → times x (born_of problem (a ++ b)) ≡ times x (born_of problem a) + times x (born_of problem b)
born-of-append problem x a b =
    ap (λ (l : List (List ℕ)). times x (flat_map (children problem) l)) (flat_map-append (λ (d : theory.Deed). opened_by d.prefix d.fate) a b) ∙ ap (times x) (flat_map-append (children problem) (opened_in a) (opened_in b))
    ∙ times-append x (born_of problem a) (born_of problem b)

born-by : (problem : Problem) (x : List ℕ) (shares : List Share) → times x (born_of problem (deeds_of (map deeds_by shares))) ≡ times x (flat_map (λ (s : Share). born problem s.work.deeds) shares)
born-by problem x [] = refl
born-by problem x (s ∷ shares) =
    omega (
      arith,
      born-of-append problem x (deeds_in s.work.deeds) (deeds_of (map deeds_by shares)),
      born-by problem x shares,
      times-append x (born problem s.work.deeds) (flat_map (λ (t : Share). born problem t.work.deeds) shares),
    )

pub deeds-of-push : (lists : List (List Deed)) (last : List Deed) → deeds_of (lists ++ last ∷ []) ≡ deeds_of lists ++ deeds_in last
deeds-of-push lists last = flat_map-append deeds_in lists (last ∷ []) ∙ ap (λ l. deeds_of lists ++ l) (append-nil (deeds_in last))

-- Sums over what is empty.

none-in : (x : List ℕ) (f : SeatView → List (List ℕ)) (seats : List SeatView) → All (λ (s : SeatView). f s ≡ []) seats → times x (flat_map f seats) ≡ 0
none-in x f [] all = refl
none-in x f (s ∷ seats) all =
    omega (arith, times-append x (f s) (flat_map f seats), ap (times x) (All-head (λ (t : SeatView). f t ≡ []) s seats all), none-in x f seats (All-tail (λ (t : SeatView). f t ≡ []) s seats all))

-- Where a sum is more than nothing, one of its parts is.
either : (a b : ℕ) → 0 < a + b → (0 < a) ⊎ (0 < b)
either zero b h = inr (omega arith)
either (suc a) b h = inl (omega arith)

-- What stands in the one list stands in the other, so what extends a member of the one extends one of the other.

place-in : (xs : List (List ℕ)) (x : List ℕ) → 0 < times x xs → Any (λ (y : List ℕ). y ≡ x) xs
place-in [] x some = absurd (omega arith)
place-in (y ∷ xs) x some = elim (cases_Bool (same x y)) [
  | inl here ↦ (0, y, omega arith, refl, sym (same-true x y here))
  | inr other ↦
      let e : times x (y ∷ xs) ≡ 0 + times x xs = times-cons x y xs ∙ ap (λ c. cond c 1 0 + times x xs) other in
      let r = place-in xs x (omega (arith, e)) in
      (suc r.0, r.1, (let lt = r.2 in omega arith), r.3, r.4)
]

pub extends-within : (xs ys : List (List ℕ)) (p : List ℕ) → ((x : List ℕ) → 0 < times x xs → 0 < times x ys) → ExtendsOne xs p → ExtendsOne ys p
extends-within xs ys p within e =
    let some : 0 < times e.1 xs = subst (λ (l : List ℕ). 0 < times l xs) e.3 (some-member xs e.0 e.1 e.2) in
    let r = place-in ys e.1 (within e.1 some) in
    (r.0, r.1, r.2, r.3, subst (λ (l : List ℕ). Begins l p) (sym r.4) e.4)

-- The workers have run.
module _ (problem : Problem) (workers : ℕ) (store : List ℕ) (waiting : List (List ℕ)) (parts : Parts) (h : HasRunAll problem workers store waiting parts) where
  pub all-shares : AreShares problem store h.fresh h.dealt h.ended h.left.works
  all-shares = shares-of problem store h.fresh h.dealt h.ended h.left.works h.dealing.same h.ran h.left.done

  pub seats-are : parts.seats ≡ map seat_in all-shares.shares
  seats-are = h.left.seats ∙ ap (map (λ (e : Ended). e.packet.seat)) all-shares.ended_is ∙ map-map ended_in (λ (e : Ended). e.packet.seat) all-shares.shares

  fresh-are : seats_of h.fresh ≡ map (λ (s : Share). s.fresh.seat) all-shares.shares
  fresh-are = ap seats_of all-shares.fresh_is ∙ map-map fresh_in (λ (p : Packet). p.seat) all-shares.shares

  pub run-make : IsMake parts.seats
  run-make = subst IsMake (sym seats-are) (make-kept problem store all-shares.shares all-shares.each (subst IsMake fresh-are h.make))

  pub run-order : (k : ℕ) (seat : SeatView) → slice_get parts.seats k ≡ Some seat → seat.number ≡ k
  run-order k seat at =
      let r = was-seat problem store all-shares.shares k seat all-shares.each (subst (λ (l : List SeatView). slice_get l k ≡ Some seat) seats-are at) in
      r.number ∙ (h.new.each k r.was (subst (λ (l : List SeatView). slice_get l k ≡ Some r.was) (sym fresh-are) r.at)).number

  pub run-many : length parts.seats ≡ workers
  run-many =
      omega (
        arith,
        ap length seats-are,
        length-map all-shares.shares seat_in,
        ap length fresh-are,
        length-map all-shares.shares (λ (s : Share). s.fresh.seat),
        h.new.many,
      )

  run-long : All (λ (s : SeatView). length s.gets ≡ length parts.seats) parts.seats
  run-long k d lt = omega (arith, (h.left.places k d lt).gets, ap length (run-make.same k d lt), run-make.many)

  blank : All IsBlank (seats_of h.fresh)
  blank = all-blank workers (seats_of h.fresh) h.new

  none-got : EachIs (λ (s : Share). got s.fresh.seat ≡ []) all-shares.shares
  none-got = each-fresh (λ (t : SeatView). got t ≡ []) all-shares.shares (subst (All (λ (t : SeatView). got t ≡ [])) fresh-are (All-weaker IsBlank (λ (t : SeatView). got t ≡ []) (λ t b. b.1) (seats_of h.fresh) blank))

  fresh-none : (x : List ℕ) → times x (flat_map (λ (s : Share). got s.fresh.seat) all-shares.shares) ≡ 0
  fresh-none x =
      ap (times x) (sym (flat_map-map (λ (s : Share). s.fresh.seat) got all-shares.shares) ∙ ap (flat_map got) (sym fresh-are)) ∙ none-in x got (seats_of h.fresh) (All-weaker IsBlank (λ (t : SeatView). got t ≡ []) (λ t b. b.1) (seats_of h.fresh) blank)

  -- what the seats got is what the deeds are of, and what is strange
  got-tally : (x : List ℕ) → times x (flat_map got parts.seats) ≡ times x (flat_map (λ (s : Share). prefixes_of s.work.deeds) all-shares.shares) + times x (flat_map strange_to all-shares.shares)
  got-tally x =
      omega (
        arith,
        ap (times x) (ap (flat_map got) seats-are ∙ flat_map-map seat_in got all-shares.shares),
        got-sums problem store x all-shares.shares all-shares.each,
        nothing-sums x all-shares.shares,
        fresh-none x,
        both-sums x (λ (s : Share). prefixes_of s.work.deeds) strange_to all-shares.shares,
      )

  dealt-are : seats_of h.dealt ≡ map (λ (s : Share). s.dealt.seat) all-shares.shares
  dealt-are = ap seats_of all-shares.dealt_is ∙ map-map dealt_in (λ (p : Packet). p.seat) all-shares.shares

  given-are : (x : List ℕ) → times x (flat_map (λ (w : Work). w.outbox) h.left.works) ≡ times x (flat_map given all-shares.shares)
  given-are x = ap (times x) (ap (flat_map (λ (w : Work). w.outbox)) all-shares.works_is ∙ flat_map-map work_in (λ (w : Work). w.outbox) all-shares.shares)

  -- what the seats put and what was handed back to workers is what was dealt, and the children of what they opened
  put-tally : (x : List ℕ)
      → times x (puts_of parts.seats) + times x (flat_map given all-shares.shares) ≡ times x (puts_of (seats_of h.dealt)) + times x (flat_map (λ (s : Share). born problem s.work.deeds) all-shares.shares)
  put-tally x =
      omega (
        arith,
        ap (times x) (ap puts_of seats-are ∙ flat_map-map seat_in (λ (t : SeatView). t.puts) all-shares.shares),
        ap (times x) (ap puts_of dealt-are ∙ flat_map-map (λ (s : Share). s.dealt.seat) (λ (t : SeatView). t.puts) all-shares.shares),
        put-sums problem store x all-shares.shares all-shares.each,
      )

  -- what was dealt and what was handed back at the deal is what waited
  dealt-tally : (x : List ℕ) → times x (puts_of (seats_of h.dealt)) + times x h.handed ≡ times x waiting
  dealt-tally x = omega (arith, h.dealing.puts x, none-in x (λ (t : SeatView). t.puts) (seats_of h.fresh) (All-weaker IsBlank (λ (t : SeatView). t.puts ≡ []) (λ t b. b.0) (seats_of h.fresh) blank))

  pub back-tally : (x : List ℕ) → times x (back_of parts.seats) ≡ times x parts.waiting.items
  back-tally x =
      omega (
        arith,
        ap (times x) (ap back_of seats-are ∙ flat_map-map seat_in (λ (t : SeatView). t.back) all-shares.shares),
        ap (times x) (ap back_of dealt-are ∙ flat_map-map (λ (s : Share). s.dealt.seat) (λ (t : SeatView). t.back) all-shares.shares),
        back-sums problem store x all-shares.shares all-shares.each,
        nothing-sums x all-shares.shares,
        h.dealing.back x,
        none-in x (λ (t : SeatView). t.back) (seats_of h.fresh) (All-weaker IsBlank (λ (t : SeatView). t.back ≡ []) (λ t b. b.2) (seats_of h.fresh) blank),
        h.left.waiting x,
        given-are x,
      )

  -- What was put or handed back to a worker are prefixes of the problem.
  put-fits : All (IsPrefix problem) waiting → (x : List ℕ) → 0 < times x (puts_of parts.seats) + times x (flat_map given all-shares.shares) → IsPrefix problem x
  put-fits fit x some = elim (either (times x (puts_of (seats_of h.dealt))) (times x (flat_map (λ (s : Share). born problem s.work.deeds) all-shares.shares)) (omega (arith, some, put-tally x))) [
    | inl dealt ↦ times-from_All (IsPrefix problem) waiting x fit (omega (arith, dealt, dealt-tally x))
    | inr opened ↦ times-from_All (IsPrefix problem) (flat_map (λ (s : Share). born problem s.work.deeds) all-shares.shares) x (all-born-fit problem store all-shares.shares all-shares.each) opened
  ]

  pub fronts-are : parts.fronts ≡ map front_in all-shares.shares
  fronts-are = h.left.fronts ∙ ap (map (λ (e : Ended). e.packet.front)) all-shares.ended_is ∙ map-map ended_in (λ (e : Ended). e.packet.front) all-shares.shares

  module _ (fit : All (IsPrefix problem) waiting) (agree : All (DequeAgrees parts.seats) parts.seats) where
    together : (x : List ℕ) → times x (flat_map got parts.seats) + times x (all_later parts.seats parts.seats) ≡ times x (puts_of parts.seats)
    together x = books-together parts.seats x run-order run-long agree

    none-strange-here : EachIs (λ (s : Share). s.work.strange ≡ []) all-shares.shares
    none-strange-here = all-none-strange problem store all-shares.shares all-shares.each (λ x some. put-fits fit x (omega (arith, some, got-tally x, together x)))

    -- what waits then for the gatherer: prefixes of the problem
    pub rest-fits : (rest : List (List ℕ)) → ((x : List ℕ) → times x rest ≡ times x (parts.waiting.items ++ all_later parts.seats parts.seats)) → All (IsPrefix problem) rest
    rest-fits rest is =
        All-from_times (IsPrefix problem) rest
        (λ x some. let sum : 0 < times x h.handed + (times x (flat_map given all-shares.shares) + times x (all_later parts.seats parts.seats)) =
        omega (arith, some, is x, times-append x parts.waiting.items (all_later parts.seats parts.seats), h.left.waiting x, given-are x) in
        by x (either (times x h.handed) (times x (flat_map given all-shares.shares) + times x (all_later parts.seats parts.seats)) sum))
      where
        by : (x : List ℕ) → (0 < times x h.handed) ⊎ (0 < times x (flat_map given all-shares.shares) + times x (all_later parts.seats parts.seats)) → IsPrefix problem x
        by x (inl handed) = times-from_All (IsPrefix problem) waiting x fit (omega (arith, handed, dealt-tally x))
        by x (inr other) = put-fits fit x (omega (arith, other, together x))

    -- the workers' deeds
    pub run-deeds : parts.deeds ≡ map deeds_by all-shares.shares
    run-deeds = h.left.deeds ∙ ap (map (λ (w : Work). w.deeds)) all-shares.works_is ∙ map-map work_in (λ (w : Work). w.deeds) all-shares.shares

    pub run-honest : AreHonest problem (deeds_of parts.deeds)
    run-honest = rw run-deeds (all-honest problem store all-shares.shares all-shares.each)

    pub run-tally : (x : List ℕ)
        → times x (map (λ (d : theory.Deed). d.prefix) (deeds_of parts.deeds)) + times x (parts.waiting.items ++ all_later parts.seats parts.seats) ≡ times x (born_of problem (deeds_of parts.deeds)) + times x waiting
    run-tally x =
        omega (
          arith,
          ap (λ (l : List (List Deed)). times x (map (λ (d : theory.Deed). d.prefix) (deeds_of l))) run-deeds,
          told-by x all-shares.shares,
          ap (λ (l : List (List Deed)). times x (born_of problem (deeds_of l))) run-deeds,
          born-by problem x all-shares.shares,
          times-append x parts.waiting.items (all_later parts.seats parts.seats),
          h.left.waiting x,
          given-are x,
          got-tally x,
          strange-sums x all-shares.shares none-strange-here,
          together x,
          put-tally x,
          dealt-tally x,
        )

    pub run-workers : (last : List Deed) (k : ℕ) (seat : SeatView) (front : FrontView) (deeds : List Deed) → slice_get parts.seats k ≡ Some seat → slice_get parts.fronts k ≡ Some front → slice_get (parts.deeds ++ last ∷ []) k ≡ Some deeds
        → IsWorkers problem (length store) seat front deeds
    run-workers last k seat front deeds a b c =
        workers-are problem store all-shares.shares last k seat front deeds all-shares.each none-strange-here none-got (subst (λ (l : List SeatView). slice_get l k ≡ Some seat) seats-are a)
        (subst (λ (l : List FrontView). slice_get l k ≡ Some front) fronts-are b) (subst (λ (l : List (List Deed)). slice_get (l ++ last ∷ []) k ≡ Some deeds) run-deeds c)

  pub run-fronts : All (λ (f : FrontView). f.store ≡ store) parts.fronts
  run-fronts = subst (All (λ (f : FrontView). f.store ≡ store)) (sym fronts-are) (fronts-kept problem store all-shares.shares all-shares.each (subst (All (λ (p : Packet). fronts.Begins store p.front)) all-shares.fresh_is h.begins))

  pub fronts-many : length parts.fronts ≡ workers
  fronts-many = omega (arith, ap length fronts-are, length-map all-shares.shares front_in, ap length seats-are, length-map all-shares.shares seat_in, run-many)

  pub deeds-many : length parts.deeds ≡ workers
  deeds-many =
      omega (
        arith,
        ap length h.left.deeds,
        length-map h.left.works (λ (w : Work). w.deeds),
        ap length all-shares.works_is,
        length-map all-shares.shares work_in,
        ap length seats-are,
        length-map all-shares.shares seat_in,
        run-many,
      )
