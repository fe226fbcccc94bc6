use Rattle.std.proofs.Common.{Some, Global, ◌+◌, ◌≡◌, ◌∙◌, ap, ◌<◌, length, map, set, sym, subst, arith}
use Rattle.std.proofs.lemmas.List.{length-map, length-replicate}
use Rattle.prefix_deques.specs.declared.rule.Account.{Account}
use Rattle.crossbeam_deque.specs.Handles.{worker_view}
use Rattle.prefix_deques.specs.Lanes.{DequeId, GetsFrom, SeatView, gets_of}
use Rattle.prefix_deques.proofs.Seated.{deque_of, got_of, view_at, gets_grow, took, rise_grows, some_left}
use Rattle.prefix_deques.proofs.seat.Seat.take.Goals as goal

pub returns-in-Some-clause-got : goal.returns-in-Some-clause-got
returns-in-Some-clause-got c =
    let s = c.self.inside in
    let lanes = s.lanes.items in
    let g = gets_grow (worker_view s.own) (worker_view c.take.new.own) c.in-Some.p c.in-Some.ensures.got in
    let lt : s.number < length (map got_of lanes) = rw length-map c.self.invariant.in_range in
    let new : SeatView = view_at s.number (map deque_of lanes) s.room (worker_view c.take.new.own).puts (set (map got_of lanes) s.number (worker_view c.take.new.own).gets) s.back.items s.counts.misses.items c.rest.new.idle.items in
    subst (λ (o : SeatView). GetsFrom o.number o c.in-Some.p new) c.self.view_is
    (took s.number s.room (map deque_of lanes) (worker_view s.own).puts (worker_view c.take.new.own).puts s.back.items (map got_of lanes) (worker_view s.own).gets (worker_view c.take.new.own).gets s.counts.misses.items s.counts.idle.items c.rest.new.idle.items c.in-Some.p lt g.0 g.1 c.rest.ensures)

pub returns-in-Some-clause-left : goal.returns-in-Some-clause-left
returns-in-Some-clause-left c =
    let s = c.self.inside in
    let lt : s.number < length (map got_of s.lanes.items) = rw length-map c.self.invariant.in_range in
    subst (λ (o : SeatView). length o.make ≡ 1 → length (gets_of o o.number) < length o.puts) c.self.view_is
    (some_left s.lanes.items s.number (worker_view s.own) (worker_view c.take.new.own) c.in-Some.p c.self.invariant.owner c.self.invariant.parts lt c.in-Some.ensures.got)

pub invariant_of-self : goal.invariant_of-self
invariant_of-self c =
    let h = c.self.invariant in
    let v = worker_view c.self.inside.own in
    let w = worker_view c.take.new.own in
    let g = gets_grow v w c.in-Some.p c.in-Some.ensures.got in
    let m = c.in-Some.ensures.same in
    let a = c.in-Some.ensures.got.after in record {
      in_range = h.in_range;
      misses = h.misses;
      idle = ap length c.rest.ensures ∙ (length-replicate (length c.self.inside.counts.idle.items) 0 ∙ h.idle);
      owner = ap (λ (u : Account). u.owns) a ∙ h.owner;
      flavor = m.0.1 ∙ h.flavor;
      parts = ap (λ (u : Account). u.parts + length c.self.inside.lanes.items) a ∙ h.parts;
      few = h.few;
      tied = h.tied ∙ ap (λ (d : DequeId × Global). Some d.0) (sym m.0.0);
      others = h.others;
      mine = h.mine;
      room = (h.room.0, let x = m.0.3 in let y = h.room.1 in omega arith);
      index = (let x = m.1 in let y = h.index in let z : length w.puts ≡ length v.puts = ap (λ (u : Account). length u.puts) a in omega arith);
      rise = rise_grows v.gets w.gets c.in-Some.p g.0 h.rise;
      rises = h.rises;
    }
