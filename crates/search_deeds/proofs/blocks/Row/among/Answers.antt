use Rattle.std.proofs.Common.{◌≡◌, ◌<◌, ◌%◌, ◌∙◌, arith, ap, length, slice_index, sym}
use Rattle.std.specs.Int.{bit_at}
use Rattle.std.proofs.lemmas.Bool.{ltb-true}
use Rattle.std.proofs.lemmas.List.{get_or_default, length-map}
use Rattle.std.proofs.lemmas.Nat.Bits.{bit_at_and}
use Rattle.ot_base.specs.declared.tableau.ClassId.{ClassId}
use Rattle.refutation.specs.Prefixes.{class_numbers}
use Rattle.search_deeds.proofs.Choices.{class-at}
use Rattle.search_deeds.proofs.blocks.Row.among.Goals as goal

pub returns-in-Some : goal.returns-in-Some
returns-in-Some c = λ b set h.
    let classes = c.args.prefix.now in
    let i = c.args.self.now.input.0 in
    let words = c.args.self.now.words in
    let within : i < length classes = ltb-true i (length classes) (sym c.in-Some.ensures.lookup.0) in
    let same : slice_index (class_numbers classes) i ≡ c.in-Some.class.now.0 = class-at classes i within ∙ ap (λ (class : ClassId). class.0) (get_or_default classes i (record { 0 = 0 }) c.in-Some.class.now within ∙ sym c.in-Some.ensures.lookup.1) in
    let one : bit_at (slice_index words (slice_index (class_numbers classes) i % 8)) b ≡ 1 = h.at (omega (arith, within, length-map classes (λ (class : ClassId). class.0))) in
    let here : bit_at (slice_index words (c.in-Some.class.now.0 % 8)) b ≡ 1 = rw same at one in
    omega (arith, set, here, bit_at_and c.args.bits (slice_index words (c.in-Some.class.now.0 % 8)) b)
