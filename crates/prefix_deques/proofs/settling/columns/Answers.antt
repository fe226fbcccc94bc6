use Rattle.std.proofs.Common.{◌≡◌, ◌-◌, ◌∙◌, ap, map, take, refl, arith}
use Rattle.prefix_deques.specs.Dealing.{lists_of}
use Rattle.prefix_deques.specs.Made.{columns_from}
use Rattle.prefix_deques.proofs.Ending.{uncut_all, rows_left, column_cut}
use Rattle.prefix_deques.proofs.settling.columns.Goals as goal

pub loop-init : goal.loop-init
loop-init c = (let z : c.args.deques ≡ c.args.deques - 0 = omega arith in uncut_all c.args.deques (lists_of c.args.rows.items) c.requires ∙ ap (λ j. map (take j) (lists_of c.args.rows.items)) z, ap lists_of c.new-columns.ensures.items)

pub column-requires : goal.column-requires
column-requires c = rows_left c.args.deques c.loop.counter (lists_of c.args.rows.items) (lists_of c.loop.rows.items) c.requires c.loop.invariant.0 c.loop-test.true

pub loop-preserved : goal.loop-preserved
loop-preserved c =
    column_cut c.args.deques c.loop.counter (lists_of c.args.rows.items) (lists_of c.loop.rows.items) (lists_of c.in_ok-rest.rest.items) c.in_ok-rest.lanes.items (lists_of c.loop.columns.items) (lists_of c.insert.new.self.items)
    c.requires c.loop.invariant.0 c.loop-test.true c.in_ok-rest.ensures c.loop.invariant.1 (ap lists_of c.in-Ok.ensures.items)

pub returns : goal.returns
returns c =
    let all : c.loop.counter ≡ c.args.deques = (let a = c.loop.auto.counter-end in let b = c.loop-test.false in omega arith) in
    let none : c.args.deques - c.loop.counter ≡ 0 = omega arith in
    c.loop.invariant.1 ∙ (λ i. columns_from (none i) (all i) (lists_of c.args.rows.items))
