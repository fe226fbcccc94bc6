-- Each worker beside what it went to work with and what it left.
use Rattle.std.proofs.Common.{◌≡◌, ℕ, zero, suc, ◌+◌, ◌<◌, List, [], ◌∷◌, ◌++◌, arith, refl, ◌∙◌, ap, subst, inl, inr, map, flat_map, length}
use Rattle.std.specs.Prelude.{All, Ok, Some, slice_get}
use Rattle.std.specs.List.{AllZip}
use Rattle.std.proofs.lemmas.List.Elements.{All-append, All-head, All-nil, All-tail}
use Rattle.std.proofs.lemmas.Option.{none-some, same_Some}
use Rattle.std.proofs.lemmas.Result.{IfOk-at_ok}
use Rattle.ot_theory.specs.Problems.{Problem}
use Rattle.prefix_deques.specs.Lanes.{SeatView}
use Rattle.refutation_store.specs.Fronts.{FrontView}
use Rattle.search_deeds.specs.Deeds as theory
use Rattle.search_deeds.specs.Deeds.{AreHonest, IsTrueOf, children, opened_by, times}
use Rattle.search_deeds.specs.Gathered.{deed_of, deeds_in, deeds_of, fate_of}
use Rattle.search_deeds.specs.declared.deed.Deed.{Deed}
use Rattle.search_deeds.proofs.Ascending.{times-first}
use Rattle.search_deeds.proofs.Counts.{times-append}
use Rattle.typology_workers.specs.FoundSearch.{HasEnded, IsWorkers}
use Rattle.typology_workers.specs.Packets.{AllRan, HasRun, but_puts}
use Rattle.typology_workers.specs.Settled.{HasSearched, got, prefixes_of}
use Rattle.typology_workers.specs.Worked.{IsWorked}
use Rattle.typology_workers.specs.declared.halves.Ended.{Ended}
use Rattle.typology_workers.specs.declared.halves.Packet.{Packet}
use Rattle.typology_workers.specs.declared.outcome.Work.{Work}
use Rattle.typology_workers.proofs.Gathers.{opened-prefixes}
use Rattle.typology_workers.proofs.Tallies.{born, born-append, born-one}
use Rattle.violation_profiles.specs.WellFormed.{IsPrefix}

-- the packet before and after the deal, the packet that the worker left, and what it did
pub record Share : Type 0 where
  pub fresh : Packet
  pub dealt : Packet
  pub ended : Ended
  pub work : Work

abbrev pub fresh_in : Share → Packet
fresh_in s = s.fresh

abbrev pub dealt_in : Share → Packet
dealt_in s = s.dealt

abbrev pub ended_in : Share → Ended
ended_in s = s.ended

abbrev pub work_in : Share → Work
work_in s = s.work

pub record IsShare (problem : Problem) (store : List ℕ) (s : Share) : Type 0 where
  pub same : but_puts s.dealt ≡ but_puts s.fresh
  pub ran : HasRun problem store s.dealt s.ended
  pub worked : IsWorked problem (length store) s.dealt.seat s.ended.packet.seat s.ended.packet.front s.work

abbrev pub EachIs : (Share → Type 0) → List Share → Type 0
EachIs P [] = Unit {0}
EachIs P (s ∷ shares) = P s × EachIs P shares

-- the lists of packets, of what was left, and of what was done, as those of shares
pub record AreShares (problem : Problem) (store : List ℕ) (fresh dealt : List Packet) (ended : List Ended) (works : List Work) : Type 0 where
  pub shares : List Share
  pub fresh_is : fresh ≡ map fresh_in shares
  pub dealt_is : dealt ≡ map dealt_in shares
  pub ended_is : ended ≡ map ended_in shares
  pub works_is : works ≡ map work_in shares
  pub each : EachIs (IsShare problem store) shares

pub shares-of : (problem : Problem) (store : List ℕ) (fresh dealt : List Packet) (ended : List Ended) (works : List Work) → map but_puts dealt ≡ map but_puts fresh → AllRan problem store dealt ended → AllZip (λ (one : Ended) (work : Work). one.work ≡ Ok work) ended works
    → AreShares problem store fresh dealt ended works
shares-of problem store [] [] [] [] e r z = record { shares = []; fresh_is = refl; dealt_is = refl; ended_is = refl; works_is = refl; each = tt }
shares-of problem store fresh dealt [] (w ∷ ws) e r z = absurd z
shares-of problem store fresh dealt (d ∷ ds) [] e r z = absurd z
shares-of problem store fresh [] (d ∷ ds) works e r z = absurd r
shares-of problem store fresh (p ∷ ps) [] works e r z = absurd r
shares-of problem store [] (p ∷ ps) ended works e r z = absurd (cc)
shares-of problem store (f ∷ fs) [] ended works e r z = absurd (cc)
shares-of problem store (f ∷ fs) (p ∷ ps) (d ∷ ds) (w ∷ ws) e r z =
    let here : but_puts p ≡ but_puts f = cc in
    let rest : map but_puts ps ≡ map but_puts fs = cc in
    let others = shares-of problem store fs ps ds ws rest r.1 z.1 in
    let share : Share = record { fresh = f; dealt = p; ended = d; work = w } in
    record {
      shares = share ∷ others.shares;
      fresh_is = ap (λ l. f ∷ l) others.fresh_is;
      dealt_is = ap (λ l. p ∷ l) others.dealt_is;
      ended_is = ap (λ l. d ∷ l) others.ended_is;
      works_is = ap (λ l. w ∷ l) others.works_is;
      each = (record { same = here; ran = r.0; worked = IfOk-at_ok (IsWorked problem (length store) p.seat d.packet.seat d.packet.front) z.0 r.0.worked }, others.each);
    }

-- What the workers left: their seats, their fronts and their deeds.

abbrev pub seat_in : Share → SeatView
seat_in s = s.ended.packet.seat

abbrev pub front_in : Share → FrontView
front_in s = s.ended.packet.front

abbrev pub deeds_by : Share → List Deed
deeds_by s = s.work.deeds

abbrev pub given : Share → List (List ℕ)
given s = s.work.outbox

abbrev pub strange_to : Share → List (List ℕ)
strange_to s = s.work.strange

-- Sums over all workers, from sums of each.
pub sums : (problem : Problem) (store : List ℕ) (x : List ℕ) (f g h k : Share → List (List ℕ)) → ((s : Share) → IsShare problem store s → times x (f s) + times x (g s) ≡ times x (h s) + times x (k s)) → (shares : List Share)
    → EachIs (IsShare problem store) shares → times x (flat_map f shares) + times x (flat_map g shares) ≡ times x (flat_map h shares) + times x (flat_map k shares)
sums problem store x f g h k one [] each = refl
sums problem store x f g h k one (s ∷ shares) each =
    omega (
      arith,
      times-append x (f s) (flat_map f shares),
      times-append x (g s) (flat_map g shares),
      times-append x (h s) (flat_map h shares),
      times-append x (k s) (flat_map k shares),
      one s each.0,
      sums problem store x f g h k one shares each.1,
    )

got-same : (problem : Problem) (store : List ℕ) (s : Share) → IsShare problem store s → got s.dealt.seat ≡ got s.fresh.seat
got-same problem store s h = ap (λ (p : Packet). got p.seat) h.same

-- What each got, put and handed back.

pub got-sums : (problem : Problem) (store : List ℕ) (x : List ℕ) (shares : List Share) → EachIs (IsShare problem store) shares
    → times x (flat_map (λ (s : Share). got s.ended.packet.seat) shares) + times x (flat_map (λ (s : Share). []) shares)
    ≡ times x (flat_map (λ (s : Share). got s.fresh.seat) shares) + times x (flat_map (λ (s : Share). prefixes_of s.work.deeds ++ s.work.strange) shares)
got-sums problem store x =
    sums problem store x (λ (s : Share). got s.ended.packet.seat) (λ (s : Share). []) (λ (s : Share). got s.fresh.seat) (λ (s : Share). prefixes_of s.work.deeds ++ s.work.strange)
    (λ s h. omega (arith, h.worked.settled.each x, ap (times x) (got-same problem store s h)))

pub put-sums : (problem : Problem) (store : List ℕ) (x : List ℕ) (shares : List Share) → EachIs (IsShare problem store) shares
    → times x (flat_map (λ (s : Share). s.ended.packet.seat.puts) shares) + times x (flat_map given shares) ≡ times x (flat_map (λ (s : Share). s.dealt.seat.puts) shares) + times x (flat_map (λ (s : Share). born problem s.work.deeds) shares)
put-sums problem store x =
    sums problem store x (λ (s : Share). s.ended.packet.seat.puts) given (λ (s : Share). s.dealt.seat.puts) (λ (s : Share). born problem s.work.deeds)
    (λ s h. omega (arith, h.worked.handed_on.each x, times-append x s.ended.packet.seat.puts s.work.outbox))

pub back-sums : (problem : Problem) (store : List ℕ) (x : List ℕ) (shares : List Share) → EachIs (IsShare problem store) shares
    → times x (flat_map (λ (s : Share). s.ended.packet.seat.back) shares) + times x (flat_map (λ (s : Share). []) shares) ≡ times x (flat_map (λ (s : Share). s.dealt.seat.back) shares) + times x (flat_map given shares)
back-sums problem store x =
    sums problem store x (λ (s : Share). s.ended.packet.seat.back) (λ (s : Share). []) (λ (s : Share). s.dealt.seat.back) given
    (λ s h. omega (arith, h.worked.handed_on.back x, times-append x s.dealt.seat.back s.work.outbox))

pub nothing-sums : (x : List ℕ) (shares : List Share) → times x (flat_map (λ (s : Share). []) shares) ≡ 0
nothing-sums x [] = refl
nothing-sums x (s ∷ shares) = nothing-sums x shares

pub both-sums : (x : List ℕ) (f g : Share → List (List ℕ)) (shares : List Share) → times x (flat_map (λ (s : Share). f s ++ g s) shares) ≡ times x (flat_map f shares) + times x (flat_map g shares)
both-sums x f g [] = refl
both-sums x f g (s ∷ shares) =
    omega (
      arith,
      times-append x (f s ++ g s) (flat_map (λ (t : Share). f t ++ g t) shares),
      times-append x (f s) (g s),
      times-append x (f s) (flat_map f shares),
      times-append x (g s) (flat_map g shares),
      both-sums x f g shares,
    )

-- Deeds are honest, and their prefixes and the children of opened ones are prefixes of the problem.

pub all-honest : (problem : Problem) (store : List ℕ) (shares : List Share) → EachIs (IsShare problem store) shares → AreHonest problem (deeds_of (map deeds_by shares))
all-honest problem store [] each = All-nil (λ (d : theory.Deed). IsTrueOf problem d.prefix d.fate)
all-honest problem store (s ∷ shares) each = All-append (λ (d : theory.Deed). IsTrueOf problem d.prefix d.fate) (deeds_in s.work.deeds) (deeds_of (map deeds_by shares)) each.0.worked.honest (all-honest problem store shares each.1)

born-fit : (problem : Problem) (deeds : List Deed) → AreHonest problem (deeds_in deeds) → All (IsPrefix problem) (prefixes_of deeds) → All (IsPrefix problem) (born problem deeds)
born-fit problem [] honest prefixes = All-nil (IsPrefix problem)
born-fit problem (d ∷ deeds) honest prefixes =
    rw (born-append problem (d ∷ []) deeds, born-one problem d) (All-append (IsPrefix problem) (flat_map (children problem) (opened_by d.prefix (fate_of d.fate))) (born problem deeds)
    (opened-prefixes problem d.prefix (fate_of d.fate) (All-head (IsPrefix problem) d.prefix (prefixes_of deeds) prefixes) (All-head (λ (t : theory.Deed). IsTrueOf problem t.prefix t.fate) (deed_of d) (deeds_in deeds) honest))
    (born-fit problem deeds (All-tail (λ (t : theory.Deed). IsTrueOf problem t.prefix t.fate) (deed_of d) (deeds_in deeds) honest) (All-tail (IsPrefix problem) d.prefix (prefixes_of deeds) prefixes)))

pub all-born-fit : (problem : Problem) (store : List ℕ) (shares : List Share) → EachIs (IsShare problem store) shares → All (IsPrefix problem) (flat_map (λ (s : Share). born problem s.work.deeds) shares)
all-born-fit problem store [] each = All-nil (IsPrefix problem)
all-born-fit problem store (s ∷ shares) each =
    All-append (IsPrefix problem) (born problem s.work.deeds) (flat_map (λ (t : Share). born problem t.work.deeds) shares) (born-fit problem s.work.deeds each.0.worked.honest each.0.worked.settled.prefixes) (all-born-fit problem store shares each.1)

-- No worker got anything strange, where all that stands among what is strange is a prefix of the problem.
none-strange : (problem : Problem) (strange : List (List ℕ)) → ((x : List ℕ) → 0 < times x strange → IsPrefix problem x) → All (λ (x : List ℕ). ¬ IsPrefix problem x) strange → strange ≡ []
none-strange problem [] fit others = refl
none-strange problem (x ∷ strange) fit others = absurd (All-head (λ (y : List ℕ). ¬ IsPrefix problem y) x strange others (fit x (omega (arith, times-first x strange))))

pub all-none-strange : (problem : Problem) (store : List ℕ) (shares : List Share) → EachIs (IsShare problem store) shares → ((x : List ℕ) → 0 < times x (flat_map strange_to shares) → IsPrefix problem x) → EachIs (λ (s : Share). s.work.strange ≡ []) shares
all-none-strange problem store [] each fit = tt
all-none-strange problem store (s ∷ shares) each fit = (
  none-strange problem s.work.strange (λ x some. fit x (omega (arith, some, times-append x s.work.strange (flat_map strange_to shares)))) each.0.worked.settled.others,
  all-none-strange problem store shares each.1
      (λ x some. fit x (omega (arith, some, times-append x s.work.strange (flat_map strange_to shares)))),
)

pub strange-sums : (x : List ℕ) (shares : List Share) → EachIs (λ (s : Share). s.work.strange ≡ []) shares → times x (flat_map strange_to shares) ≡ 0
strange-sums x [] each = refl
strange-sums x (s ∷ shares) each = omega (arith, times-append x s.work.strange (flat_map strange_to shares), ap (times x) each.0, strange-sums x shares each.1)

-- Each worker's deeds are of what its seat got, and it ended, looked, and consulted.
worker-is : (problem : Problem) (store : List ℕ) (s : Share) → IsShare problem store s → s.work.strange ≡ [] → got s.fresh.seat ≡ [] → IsWorkers problem (length store) s.ended.packet.seat s.ended.packet.front s.work.deeds
worker-is problem store s h none fresh = record {
  each = λ x. omega (arith, h.worked.settled.each x, times-append x (prefixes_of s.work.deeds) s.work.strange, ap (times x) none, ap (times x) (got-same problem store s h ∙ fresh));
  ended = by h.worked.searched;
  consulted = h.worked.consulted;
  looked = h.worked.looked;
}
  where
    by : HasSearched s.dealt.seat s.ended.packet.seat → HasEnded s.ended.packet.seat
    by (inl idle) = inl idle
    by (inr tried) = inr (omega (arith, tried))

pub workers-are : (problem : Problem) (store : List ℕ) (shares : List Share) (last : List Deed) (k : ℕ) (seat : SeatView) (front : FrontView) (deeds : List Deed) → EachIs (IsShare problem store) shares → EachIs (λ (s : Share). s.work.strange ≡ []) shares
    → EachIs (λ (s : Share). got s.fresh.seat ≡ []) shares → slice_get (map seat_in shares) k ≡ Some seat → slice_get (map front_in shares) k ≡ Some front → slice_get (map deeds_by shares ++ last ∷ []) k ≡ Some deeds
    → IsWorkers problem (length store) seat front deeds
workers-are problem store [] last k seat front deeds each none fresh a b c = absurd (none-some seat a)
workers-are problem store (s ∷ shares) last zero seat front deeds each none fresh a b c =
    let x : s.ended.packet.seat ≡ seat = same_Some (seat_in s) seat a in
    let y : s.ended.packet.front ≡ front = same_Some (front_in s) front b in
    let z : s.work.deeds ≡ deeds = same_Some (deeds_by s) deeds c in
    subst (λ (l : List Deed). IsWorkers problem (length store) seat front l) z (subst (λ (f : FrontView). IsWorkers problem (length store) seat f s.work.deeds) y (subst (λ (t : SeatView). IsWorkers problem (length store) t s.ended.packet.front s.work.deeds) x
    (worker-is problem store s each.0 none.0 fresh.0)))
workers-are problem store (s ∷ shares) last (suc k) seat front deeds each none fresh a b c = workers-are problem store shares last k seat front deeds each.1 none.1 fresh.1 a b c
