use Rattle.std.proofs.Common.{◌≡◌, ℕ, List, All, ◌∙◌, ◌++◌, ap, arith, flat_map, length, sym, subst}
use Rattle.ot_theory.specs.Rankings.{numbers_below}
use Rattle.ot_theory.specs.Languages.{classes_at, languages}
use Rattle.t_orders.specs.declared.seen.Seen.{Seen}
use Rattle.t_orders.specs.Implications.{choices_of, implications_by}
use Rattle.t_orders.specs.Rows.{IsChoice, implied_by_table}
use Rattle.t_orders.proofs.OneLanguage.{IsChoice-languages}
use Rattle.t_orders.proofs.Listed.{choices-found, few_classes, row_widths, from_input, input-more, listed-whole}
use Rattle.t_orders.proofs.Told.{told_by_languages}
use Rattle.t_orders.proofs.listing.implications.Goals as goal

pub table_of-requires-clause-choices : goal.table_of-requires-clause-choices
table_of-requires-clause-choices c =
    let same : choices_of c.args.languages.now ≡ languages c.args.p.now = choices-found c.args.languages.now ∙ c.requires in
    subst (λ (l : List (List ℕ)). All (IsChoice c.args.p.now) l) (sym same) (IsChoice-languages c.args.p.now)

pub add_by_table-requires-clause-classes : goal.add_by_table-requires-clause-classes
add_by_table-requires-clause-classes c =
    let well = c.inputs-i-end.ensures.well_formed in
    let below = few_classes c.args.p.now.constraints c.args.p.now.inputs c.loop-i.i well.each (omega (arith, c.loop-i-test.true, c.inputs-i-end.ensures.value)) in
    let long : length c.deref.result.now ≡ length (classes_at c.args.p.now c.loop-i.i) = ap (λ (t : List (List Seen)). length t) c.deref.ensures.value ∙ c.in_ok-table.ensures.long in
    omega (arith, below, long)

pub add_by_table-requires-clause-widths : goal.add_by_table-requires-clause-widths
add_by_table-requires-clause-widths c =
    subst (λ (t : List (List Seen)). All (λ row. length row ≡ c.inputs.result) t) (sym c.deref.ensures.value)
    (row_widths c.args.p.now (choices_of c.args.languages.now) c.loop-i.i (length (classes_at c.args.p.now c.loop-i.i)) c.inputs.result c.in_ok-table.table.items c.in_ok-table.ensures c.inputs.ensures.value)

pub loop-i-preserved : goal.loop-i-preserved
loop-i-preserved c =
    let same : choices_of c.args.languages.now ≡ languages c.args.p.now = choices-found c.args.languages.now ∙ c.requires in
    input-more c.args.p.now (choices_of c.args.languages.now) c.loop-i.i c.in_ok-table.table.items c.loop-i.listed c.add_by_table.new.listed c.inputs-i-end.ensures.well_formed (omega (arith, c.loop-i-test.true, c.inputs-i-end.ensures.value)) same c.in_ok-table.ensures c.loop-i.invariant
    (c.in_ok-add_by_table.ensures ∙ ap (λ (t : List (List Seen)). c.loop-i.listed ++ implied_by_table c.loop-i.i t) c.deref.ensures.value)

pub returns-clause-listed : goal.returns-clause-listed
returns-clause-listed c =
    let all : c.loop-i.i ≡ length c.args.p.now.inputs = omega (arith, c.loop-i-test.false, c.loop-i.auto.i-end, c.inputs-i-end.ensures.value) in
    c.loop-i.invariant ∙ ap (λ (n : ℕ). flat_map (from_input c.args.p.now) (numbers_below n)) all ∙ sym (listed-whole c.args.p.now)

pub returns-clause-told : goal.returns-clause-told
returns-clause-told c =
    let same : choices_of c.args.languages.now ≡ languages c.args.p.now = choices-found c.args.languages.now ∙ c.requires in
    returns-clause-listed c ∙ told_by_languages c.args.p.now c.inputs-i-end.ensures.well_formed ∙ ap (implications_by c.args.p.now) (sym same)
