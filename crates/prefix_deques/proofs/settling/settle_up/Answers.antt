use Rattle.std.proofs.Common.{◌≡◌, ◌+◌, ◌<◌, ◌++◌, ◌∷◌, [], ℕ, length, map, set, get_or, drop, List, Vec, Global, sym, ap, ◌∙◌, subst, arith, length-set}
use Rattle.std.proofs.lemmas.List.{append-nil, length-map, get_or-map, map-set}
use Rattle.prefix_deques.specs.Books.{Agree, whole}
use Rattle.prefix_deques.specs.Lanes.{LaneView}
use Rattle.prefix_deques.specs.Dealing.{OwnerView, lists_of}
use Rattle.prefix_deques.specs.Made.{AreLong}
use Rattle.prefix_deques.specs.Closed.{AreLanesOf, all_gets, all_parts}
use Rattle.prefix_deques.proofs.Ending.{HaveColumns, agrees, all_done, facts, have_all, left_more, long_rows, next_turn, owner_of}
use Rattle.prefix_deques.proofs.settling.settle_up.Goals as goal

abbrev items_of : Vec LaneView Global → List LaneView
items_of v = v.items

pub columns-requires : goal.columns-requires
columns-requires c =
    let p = c.in_ok-owners.ensures in
    let f = facts c.args.seats p.desks p.seats p.each c.requires in
    let n : c.len.result ≡ length p.desks = (let e = c.len.ensures in let k = c.in_ok-owners.owners.ok.0 in let l = ap length p.owners in let m = length-map p.desks owner_of in omega arith) in
    subst (λ j. AreLong j (lists_of c.in_ok-owners.rows.items)) (sym n) (subst (λ (l : List (List LaneView)). AreLong (length p.desks) l) (sym p.rows) (long_rows (length p.desks) p.desks f.long))

pub loop-number-init : goal.loop-number-init
loop-number-init c =
    let p = c.in_ok-owners.ensures in
    let f = facts c.args.seats p.desks p.seats p.each c.requires in
    let n : c.len.result ≡ length p.desks = (let e = c.len.ensures in let k = c.in_ok-owners.owners.ok.0 in let l = ap length p.owners in let m = length-map p.desks owner_of in omega arith) in
    let h = have_all c.args.seats p.desks (lists_of c.in_ok-columns.columns.items) (lists_of c.in_ok-owners.rows.items) c.len.result f p.rows n c.in_ok-columns.ensures in
    (p.desks, p.desks, [], f, sym (append-nil p.desks), p.owners, h.0, h.1, tt, c.new-left.ensures, c.of_seats-shown.ensures)

pub index_mut-requires : goal.index_mut-requires
index_mut-requires c =
    let h = c.loop-number.invariant in
    let n = next_turn c.args.seats h.0 h.1 h.2 c.loop-number.owners.items c.pop.new.self.items (c.in-Some.number, c.in-Some.owner) (lists_of c.loop-number.columns.items) h.3 h.4 h.5 c.in-Some.ensures.items h.6 h.7 in
    let w = n.within in
    let m = length-map c.loop-number.columns.items items_of in
    let k = c.loop-number.columns.ok.0 in omega arith

-- its column
column : (xs : List (Vec LaneView Global)) (v : ℕ) (x y : Vec LaneView Global) → v < length (map items_of xs) → y ≡ x → x ≡ get_or xs v x → y.items ≡ get_or (map items_of xs) v []
column xs v x y lt e at = ap items_of (e ∙ at) ∙ sym (get_or-map items_of xs v x [] (let m = length-map xs items_of in omega arith))

pub close-requires-clause-lanes : goal.close-requires-clause-lanes
close-requires-clause-lanes c =
    let h = c.loop-number.invariant in
    let n = next_turn c.args.seats h.0 h.1 h.2 c.loop-number.owners.items c.pop.new.self.items (c.in-Some.number, c.in-Some.owner) (lists_of c.loop-number.columns.items) h.3 h.4 h.5 c.in-Some.ensures.items h.6 h.7 in
    let is = column c.loop-number.columns.items c.in-Some.number c.index_mut.result.now c.replace-lanes.result n.within c.replace-lanes.ensures.value c.index_mut.ensures.value in
    subst (λ (x : OwnerView). AreLanesOf x.deque c.replace-lanes.result.items) (ap (λ (y : ℕ × OwnerView). y.1) n.owner ∙ c.into_deque.ensures.view)
    (subst (λ (y : List LaneView). AreLanesOf n.desk.owner.deque y) (sym is) n.turn.lanes)

pub close-requires-clause-parts : goal.close-requires-clause-parts
close-requires-clause-parts c =
    let h = c.loop-number.invariant in
    let n = next_turn c.args.seats h.0 h.1 h.2 c.loop-number.owners.items c.pop.new.self.items (c.in-Some.number, c.in-Some.owner) (lists_of c.loop-number.columns.items) h.3 h.4 h.5 c.in-Some.ensures.items h.6 h.7 in
    let is = column c.loop-number.columns.items c.in-Some.number c.index_mut.result.now c.replace-lanes.result n.within c.replace-lanes.ensures.value c.index_mut.ensures.value in
    subst (λ (x : OwnerView). x.parts + all_parts c.replace-lanes.result.items ≡ whole) (ap (λ (y : ℕ × OwnerView). y.1) n.owner ∙ c.into_deque.ensures.view)
    (subst (λ (y : List LaneView). n.desk.owner.parts + all_parts y ≡ whole) (sym is) n.turn.parts)

pub loop-number-preserved : goal.loop-number-preserved
loop-number-preserved c =
    let h = c.loop-number.invariant in
    let cols : List (List LaneView) = lists_of c.loop-number.columns.items in
    let v : ℕ = c.in-Some.number in
    let n = next_turn c.args.seats h.0 h.1 h.2 c.loop-number.owners.items c.pop.new.self.items (c.in-Some.number, c.in-Some.owner) cols h.3 h.4 h.5 c.in-Some.ensures.items h.6 h.7 in
    let is = column c.loop-number.columns.items v c.index_mut.result.now c.replace-lanes.result n.within c.replace-lanes.ensures.value c.index_mut.ensures.value in
    let col : List LaneView = get_or cols v [] in
    let back = sym (ap (λ (y : ℕ × OwnerView). y.1) n.owner ∙ c.into_deque.ensures.view) in
    let e = c.in_ok-close.ensures in
    let books : Agree n.desk.owner.puts (n.desk.owner.gets ++ all_gets col) = subst (λ (y : List LaneView). Agree n.desk.owner.puts (n.desk.owner.gets ++ all_gets y)) is
    (subst (λ (x : OwnerView). Agree x.puts (x.gets ++ all_gets c.replace-lanes.result.items)) back e.books) in
    let rest : c.close.new.left ≡ c.loop-number.left ++ drop (length (n.desk.owner.gets ++ all_gets col)) n.desk.owner.puts =
    subst (λ (y : List LaneView). c.close.new.left ≡ c.loop-number.left ++ drop (length (n.desk.owner.gets ++ all_gets y)) n.desk.owner.puts) is
    (subst (λ (x : OwnerView). c.close.new.left ≡ c.loop-number.left ++ drop (length (x.gets ++ all_gets c.replace-lanes.result.items)) x.puts) back e.rest) in
    let none : c.replace-lanes.new.dest.items ≡ [] = ap items_of c.replace-lanes.ensures.after ∙ c.new.ensures.items in
    let cut : lists_of (set c.loop-number.columns.items v c.replace-lanes.new.dest) ≡ set cols v [] = map-set items_of c.loop-number.columns.items v c.replace-lanes.new.dest ∙ ap (set cols v) none in (
      h.0,
      n.front,
      n.desk ∷ h.2,
      h.3,
      n.at,
      n.owners,
      subst (λ (y : List (List LaneView)). HaveColumns h.0 y n.front) (sym cut) n.rest,
      ap length cut ∙ (length-set cols v [] ∙ h.7),
      (agrees c.args.seats n.desk col n.turn books, h.8),
      left_more c.args.seats h.2 n.desk col c.loop-number.left c.close.new.left n.turn h.9 rest,
      h.10,
    )

pub returns-clause-agree : goal.returns-clause-agree
returns-clause-agree c =
    let h = c.loop-number.invariant in
    all_done c.args.seats h.0 h.1 h.2 c.loop-number.owners.items h.3 h.4 h.5 (let e = c.in_default.ensures.cases.0 in let k = c.loop-number.owners.ok.0 in omega arith) h.8
