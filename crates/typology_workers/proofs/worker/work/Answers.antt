use Rattle.std.proofs.Common.{arith, length, inl, inr}
use Rattle.typology_workers.proofs.Turning.{worked, got-turn, idle-turn, so-far-start}
use Rattle.refutation.specs.Typologies.{certificates_of}
use Rattle.typology_workers.proofs.Indexing.{index-none}
use Rattle.typology_workers.proofs.Sifting.{marked-none}
use Rattle.typology_workers.proofs.Staying.{seat-then, seat-same, front-same}
use Rattle.typology_workers.proofs.worker.work.Goals as goal
use Rattle.typology_workers.proofs.worker.work.Goals.{in-Some+in_ok-settle-in-Some, in-None}

pub loop-turn-init : goal.loop-turn-init
loop-turn-init g c = (
  (
    (
      index-none c.args.p.now c.in_ok-index.index.slots.items c.in_ok-index.index.indexed c.args.front.now.values c.in_ok-index.ensures.some c.in_ok-index.ensures.empty c.in_ok-index.ensures.none,
      marked-none (certificates_of c.args.front.now.values) c.in_ok-index.index.slots.items c.in_ok-index.index.marks.items c.in_ok-index.ensures.long c.in_ok-index.ensures.empty c.in_ok-index.ensures.unmarked,
    ),
    c.in_ok-path.ensures,
  ),
  record {
    so_far = so-far-start c.args.p.now (length c.args.store.now) c.args.seat.now c.args.front.now _ c.deques-deques.ensures.places c.new.ensures c.new-2.ensures c.new-3.ensures;
    rounds = λ v within. omega arith;
    stays = seat-same c.args.seat.now;
    learns = front-same (length c.args.store.now) c.args.front.now;
    few = omega arith;
    gets = omega arith;
  },
)

pub returns-then-idle-ge-IDLE_ROUNDS-clause-worked : goal.returns-then-idle-ge-IDLE_ROUNDS-clause-worked
returns-then-idle-ge-IDLE_ROUNDS-clause-worked g c =
    let h = c.loop-turn.invariant.1 in
    worked c.args.p.now (length c.args.store.now) c.args.seat.now c.loop-turn.seat c.loop-turn.front c.loop-turn.work c.loop-turn.turn h.so_far
    (inl (λ v within. let r = h.rounds v within in let t = c.if-idle-ge-IDLE_ROUNDS.true in omega arith))

pub returns-in_err-settle-in-Some-clause-seat : goal.returns-in_err-settle-in-Some-clause-seat
returns-in_err-settle-in-Some-clause-seat g c =
    seat-then c.args.seat.now c.loop-turn.seat c.settle.new.seat c.loop-turn.invariant.1.stays (seat-then c.loop-turn.seat c.get.new.seat c.settle.new.seat c.get.ensures.stays c.settle.ensures.seat)

pub loop-turn-preserved : goal.loop-turn-preserved
loop-turn-preserved g c =
    elim c.match-get.branch [
      | in-Some+in_ok-settle-in-Some w ↦ rw (w.seat-is, w.front-is, w.work-is, w.index-is, w.path-is, w.idle-is, w.taken-is) (
        ((w.in_ok-settle-in-Some.ensures.index, w.in_ok-settle-in-Some.ensures.marked), w.in_ok-settle-in-Some.ensures.path),
        got-turn c.args.p.now (length c.args.store.now) w.in-Some.prefix c.args.seat.now c.loop-turn.seat c.get.new.seat w.settle.new.seat c.args.front.now c.loop-turn.front w.settle.new.front c.loop-turn.work w.settle.new.work c.loop-turn.idle c.loop-turn.taken c.loop-turn.turn
            c.loop-turn.invariant.1 c.loop-turn-test.true w.in-Some.ensures.stays w.in-Some.ensures.got w.settle.ensures.seat w.settle.ensures.front w.in_ok-settle-in-Some.ensures.settled,
      )
      | in-None w ↦ rw (w.seat-is, w.front-is, w.work-is, w.index-is, w.path-is, w.idle-is, w.taken-is) (
        c.loop-turn.invariant.0,
        idle-turn c.args.p.now (length c.args.store.now) c.args.seat.now c.loop-turn.seat c.get.new.seat c.args.front.now c.loop-turn.front c.loop-turn.work c.loop-turn.idle c.loop-turn.taken c.loop-turn.turn
            c.loop-turn.invariant.1 c.loop-turn-test.true c.if-idle-ge-IDLE_ROUNDS.false w.in-None.ensures.stays w.in-None.ensures.got,
      )
    ]

pub returns-clause-worked : goal.returns-clause-worked
returns-clause-worked g c =
    let h = c.loop-turn.invariant.1 in
    worked c.args.p.now (length c.args.store.now) c.args.seat.now c.loop-turn.seat c.loop-turn.front c.loop-turn.work c.loop-turn.turn h.so_far
    (inr (let t = c.loop-turn-test.false in let r = h.so_far.tried in omega arith))
