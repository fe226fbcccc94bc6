use Rattle.std.proofs.Common.{◌≡◌, ◌+◌, ◌<◌, ◌++◌, ◌∷◌, [], length, List, Vec, Global, sym, ap, ◌∙◌, subst, arith}
use Rattle.std.proofs.lemmas.List.{map-append, length-map}
use Rattle.prefix_deques.specs.Lanes.{LaneView}
use Rattle.prefix_deques.specs.Dealing.{lists_of}
use Rattle.prefix_deques.specs.Made.{HaveLanes}
use Rattle.prefix_deques.proofs.Making.{head_out}
use Rattle.prefix_deques.proofs.Ending.{before_of, last_of, column_more}
use Rattle.prefix_deques.proofs.settling.column.Goals as goal

pub loop-preserved : goal.loop-preserved
loop-preserved c =
    let h = c.loop.invariant in
    let items : Vec LaneView Global → List LaneView = λ v. v.items in
    let q : List LaneView = c.pop.new.self.items in
    let l : LaneView = c.in-Some.lane in
    let j : 0 < length c.loop.rows.items = (let t = c.loop-test.true in let e = c.len-end.ensures in let k = c.args.rows.ok.0 in let a = h.4 in let b = length-map c.loop.rows.items items in let d = length-map c.args.rows.items items in omega arith) in
    let rs = head_out c.loop.rows.items c.remove-row.new.self.items c.remove-row.result j c.remove-row.ensures.value c.remove-row.ensures.by_index.2 in
    let rows : lists_of c.loop.rows.items ≡ c.remove-row.result.items ∷ lists_of c.remove-row.new.self.items = ap lists_of rs in
    let fewer : length (lists_of c.loop.rows.items) ≡ length (lists_of c.remove-row.new.self.items) + 1 = ap length rows ∙ omega arith in (
      h.0 ++ (q, l) ∷ [],
      column_more (lists_of c.args.rows.items) h.0 (lists_of c.loop.rows.items) (lists_of c.remove-row.new.self.items) c.remove-row.result.items q l h.1 rows c.in-Some.ensures.items,
      ap lists_of c.in-Ok.ensures.items ∙ (map-append items c.loop.rest.items (c.pop.new.self ∷ []) ∙ (ap (λ y. y ++ q ∷ []) h.2 ∙ sym (map-append before_of h.0 ((q, l) ∷ [])))),
      c.in-Ok-push.ensures.items ∙ (ap (λ y. y ++ l ∷ []) h.3 ∙ sym (map-append last_of h.0 ((q, l) ∷ []))),
      (let a = h.4 in omega arith),
      (subst HaveLanes rows h.5).1,
    )

pub unreachable-requires : goal.unreachable-requires
unreachable-requires c =
    let h = c.loop.invariant in
    let items : Vec LaneView Global → List LaneView = λ v. v.items in
    let j : 0 < length c.loop.rows.items = (let t = c.loop-test.true in let e = c.len-end.ensures in let k = c.args.rows.ok.0 in let a = h.4 in let b = length-map c.loop.rows.items items in let d = length-map c.args.rows.items items in omega arith) in
    let rs = head_out c.loop.rows.items c.remove-row.new.self.items c.remove-row.result j c.remove-row.ensures.value c.remove-row.ensures.by_index.2 in
    let some = (subst HaveLanes (ap lists_of rs) h.5).0 in
    let none = c.in_default.ensures.cases.0 in
    let k = c.remove-row.result.ok.0 in omega arith
