use Rattle.std.proofs.Common.{arith, length, refl}
use Rattle.ot_theory.specs.Languages.{classes_at}
use Rattle.t_orders.proofs.Tables.{chosen, class-at, class-within, row-long, table-end, table-start, table-step}
use Rattle.t_orders.proofs.table.table_of.Goals as goal

pub loop-language-init : goal.loop-language-init
loop-language-init c =
    table-start (length (classes_at c.args.p.now c.args.input.0)) (length c.args.p.now.inputs) c.classes.result c.inputs.result c.in_ok-table.table.items c.args.input.0 c.classes.ensures.value c.inputs.ensures.value c.in_ok-table.ensures

pub bounds-choice-input : goal.bounds-choice-input
bounds-choice-input c =
    let k = chosen c.args.p.now c.args.languages.now c.loop-language.language-index c.language-item.result c.as_slice-choice.result.now c.requires.choices c.loop-language-test.true c.language-item.is c.as_slice-choice.ensures in
    omega (arith, k.long, c.requires.input)

pub index_mut-requires : goal.index_mut-requires
index_mut-requires c =
    let k = chosen c.args.p.now c.args.languages.now c.loop-language.language-index c.language-item.result c.as_slice-choice.result.now c.requires.choices c.loop-language-test.true c.language-item.is c.as_slice-choice.ensures in
    omega (arith, class-within c.args.p.now c.args.languages.now c.loop-language.language-index c.args.input.0 c.as_slice-choice.result.now (record { 0 = 0 }) c.requires.input k, c.loop-language.invariant.long)

pub add-requires : goal.add-requires
add-requires c =
    let k = chosen c.args.p.now c.args.languages.now c.loop-language.language-index c.language-item.result c.as_slice-choice.result.now c.requires.choices c.loop-language-test.true c.language-item.is c.as_slice-choice.ensures in
    let within = class-within c.args.p.now c.args.languages.now c.loop-language.language-index c.args.input.0 c.as_slice-choice.result.now (record { 0 = 0 }) c.requires.input k in
    let row = row-long c.loop-language.table.items _ (length c.args.p.now.inputs) c.index_mut.result.now (omega (arith, within, c.loop-language.invariant.long)) c.index_mut.ensures.value (c.loop-language.invariant.rows _ within).width in
    omega (arith, k.long, row)

pub loop-language-preserved : goal.loop-language-preserved
loop-language-preserved c =
    let k = chosen c.args.p.now c.args.languages.now c.loop-language.language-index c.language-item.result c.as_slice-choice.result.now c.requires.choices c.loop-language-test.true c.language-item.is c.as_slice-choice.ensures in
    let within = class-within c.args.p.now c.args.languages.now c.loop-language.language-index c.args.input.0 c.as_slice-choice.result.now (record { 0 = 0 }) c.requires.input k in
    table-step c.args.p.now c.args.languages.now c.loop-language.language-index c.args.input.0 (length (classes_at c.args.p.now c.args.input.0)) (length c.args.p.now.inputs) _ c.as_slice-choice.result.now c.loop-language.table.items _ c.index_mut.result.now c.add.new.self
    c.loop-language-test.true k (class-at c.as_slice-choice.result.now c.args.input.0 (record { 0 = 0 }) (omega (arith, k.long, c.requires.input))) within c.index_mut.ensures.value refl c.add.ensures c.loop-language.invariant

pub returns : goal.returns
returns c =
    table-end c.args.languages.now c.loop-language.language-index c.args.input.0 (length (classes_at c.args.p.now c.args.input.0)) (length c.args.p.now.inputs) c.loop-language.table.items c.loop-language-test.false c.loop-language.invariant
