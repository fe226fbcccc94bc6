use Rattle.std.proofs.Common.{◌≡◌, ◌+◌, ◌<◌, ◌∷◌, [], length, map, drop, List, Vec, Global, sym, ap, ◌∙◌, subst, arith, length-append}
use Rattle.std.proofs.lemmas.List.{length-map}
use Rattle.prefix_deques.specs.Lanes.{DequeId, LaneView, SeatView}
use Rattle.prefix_deques.specs.Dealing.{AreRows, after_rows, lanes_from, lists_of}
use Rattle.prefix_deques.specs.Made.{IsNew, IsRow}
use Rattle.prefix_deques.proofs.Seated.{deque_of}
use Rattle.prefix_deques.proofs.Making.{NewFrom, owner_deque, some_left, head_out, rows_rest, row_fits, new_snoc, are_new, is_make, deques_from, length-deques}
use Rattle.prefix_deques.proofs.seats.make.Goals as goal
use Rattle.prefix_deques.proofs.seats.make.Goals.{After-remove-lanes}

pub remove-owner-requires : goal.remove-owner-requires
remove-owner-requires c =
    let h = c.loop-number.invariant in
    let lt : c.loop-number.number < length h.0 = (let a = h.2 in let t = c.loop-number-test.true in omega arith) in
    let k = some_left c.args.n c.loop-number.number h.0 c.loop-number.owners.items h.4 lt in
    let e = c.loop-number.owners.ok.0 in omega arith

-- the owner and the row of the next seat belong together, and what is left is as before
next_seat : (c : After-remove-lanes)
    → IsRow c.remove-owner.result c.loop-number.number c.remove-lanes.result.items
    × (c.remove-owner.new.self.items ≡ after_rows c.args.n (c.loop-number.number + 1) (drop (c.loop-number.number + 1) c.loop-number.invariant.0))
    × (c.remove-lanes.result.items ≡ lanes_from c.loop-number.number 0 c.loop-number.invariant.0)
    × AreRows (c.loop-number.number + 1) c.loop-number.invariant.0 (lists_of c.remove-lanes.new.self.items)
    × (length (lists_of c.loop-number.rows.items) ≡ length (lists_of c.remove-lanes.new.self.items) + 1)
next_seat c =
    let h = c.loop-number.invariant in
    let s = c.loop-number.number in
    let t = c.loop-number-test.true in
    let lt : s < length h.0 = (let a = h.2 in omega arith) in
    let lt' : s < c.args.n = omega arith in
    let k = some_left c.args.n s h.0 c.loop-number.owners.items h.4 lt in
    let os = head_out c.loop-number.owners.items c.remove-owner.new.self.items c.remove-owner.result k c.remove-owner.ensures.value c.remove-owner.ensures.by_index.2 in
    let j : 0 < length c.loop-number.rows.items = (let a = h.6 in let b = length-map c.loop-number.rows.items (λ (v : Vec LaneView Global). v.items) in omega arith) in
    let rs = head_out c.loop-number.rows.items c.remove-lanes.new.self.items c.remove-lanes.result j c.remove-lanes.ensures.value c.remove-lanes.ensures.by_index.2 in
    let r = rows_rest s h.0 (lists_of c.loop-number.rows.items) (lists_of c.remove-lanes.new.self.items) c.remove-lanes.result.items (ap lists_of rs) h.5 in
    let f = row_fits c.args.n s h.0 c.remove-owner.new.self.items c.remove-owner.result c.remove-lanes.result.items h.1 h.2 h.3 lt' (sym os ∙ h.4) r.0 in
    (f.0, f.1, r.0, r.1, r.2)

pub new-requires : goal.new-requires
new-requires c = (next_seat (goal.at.new-requires c).After-remove-lanes).0

pub loop-number-preserved : goal.loop-number-preserved
loop-number-preserved c =
    let h = c.loop-number.invariant in
    let s = c.loop-number.number in
    let next = next_seat (goal.at.loop-number-preserved c).After-remove-lanes in
    let x : SeatView = c.in_ok-new.field-0 in
    let made : map deque_of c.remove-lanes.result.items ≡ map owner_deque h.0 = ap (map deque_of) next.2 ∙ deques_from s 0 h.0 in
    let new : IsNew (map owner_deque h.0) s x = subst (λ (m : List DequeId). IsNew m s x) made c.in_ok-new.ensures in
    let at : s ≡ 0 + length c.loop-number.seats = (let a = h.8 in omega arith) in
    let more = c.in_ok-push.ensures.ok in (
      h.0,
      h.1,
      h.2,
      h.3,
      next.1,
      next.3,
      (let a = h.6 in let b = next.4 in omega arith),
      subst (λ (l : List SeatView). NewFrom (map owner_deque h.0) 0 l) (sym more) (new_snoc (map owner_deque h.0) 0 c.loop-number.seats x h.7 (subst (λ i. IsNew (map owner_deque h.0) i x) at new)),
      ap length more ∙ (let a = h.8 in omega (arith, length-append c.loop-number.seats (x ∷ []))),
    )

pub returns-clause-new : goal.returns-clause-new
returns-clause-new c =
    let h = c.loop-number.invariant in
    let t = c.loop-number-test.false in
    are_new c.args.n (map owner_deque h.0) c.loop-number.seats h.7 (length-deques h.0 ∙ h.2) (let a = h.8 in omega arith)

pub returns-clause-make : goal.returns-clause-make
returns-clause-make c =
    let h = c.loop-number.invariant in
    let t = c.loop-number-test.false in
    is_make c.args.n (map owner_deque h.0) c.loop-number.seats h.7 (length-deques h.0 ∙ h.2) (let a = h.8 in omega arith)
