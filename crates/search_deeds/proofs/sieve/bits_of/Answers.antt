use Rattle.std.proofs.Common.{◌≡◌, ◌<◌, arith, length, get_or}
use Rattle.std.proofs.lemmas.List.{length-map, length-take-le, take_all}
use Rattle.ot_base.specs.declared.tableau.ClassId.{ClassId}
use Rattle.refutation.specs.Prefixes.{class_numbers}
use Rattle.search_deeds.proofs.Choices.{class-at}
use Rattle.search_deeds.proofs.Sieving.{HasBits-none, HasBits-more}
use Rattle.search_deeds.proofs.sieve.bits_of.Goals as goal

pub loop-i-init : goal.loop-i-init
loop-i-init c = HasBits-none

pub loop-i-preserved : goal.loop-i-preserved
loop-i-preserved c =
    let classes = c.args.prefix.now in
    let k = c.loop-i.i in
    let below : k < length (class_numbers classes) = omega (arith, c.loop-i-test.true, length-map classes (λ (class : ClassId). class.0)) in
    let here : get_or (class_numbers classes) k 0 ≡ (get_or classes k (record { 0 = 0 })).0 = class-at classes k c.loop-i-test.true in
    HasBits-more (class_numbers classes) c.loop-i.bits c.bit_of-bits.result k (get_or classes k (record { 0 = 0 })).0 0 below here c.bit_of-bits.ensures c.loop-i.invariant (length-take-le k (class_numbers classes) (omega (arith, below)))

pub returns : goal.returns
returns c = rw (take_all c.loop-i.i (class_numbers c.args.prefix.now) (omega (arith, length-map c.args.prefix.now (λ (class : ClassId). class.0)))) at c.loop-i.invariant
