use Rattle.std.proofs.Common.{◌≡◌, ℕ, ◌+◌, ◌∙◌, ap, arith, get_or, min}
use Rattle.typology_core.proofs.Counted.{empty}
use Rattle.typology_core.proofs.Holding.{held-all, held-more, held-none, length-counted}
use Rattle.typology_core.proofs.LoneHeld.{level-within}
use Rattle.typology_core.proofs.learning.held.Goals as goal

pub loop-length-init : goal.loop-length-init
loop-length-init c = held-none c.args.p.now

pub overflow_sub-here : goal.overflow_sub-here
overflow_sub-here c =
    (length-counted c.args.p.now c.loop-length.length c.loop-length.held c.loop-length.reached (get_or c.args.tallies.now c.loop-length.length empty).cuts c.inputs-length-end.ensures.well_formed (omega (arith, c.loop-length-test.true, c.inputs-length-end.ensures.value)) c.requires.cuts c.requires.few (c.requires.tallies.each c.loop-length.length empty (omega (arith, c.loop-length-test.true, c.inputs-length-end.ensures.value))).cuts c.loop-length.invariant).most

pub overflow_add-held : goal.overflow_add-held
overflow_add-held c =
    let here = length-counted c.args.p.now c.loop-length.length c.loop-length.held c.loop-length.reached (get_or c.args.tallies.now c.loop-length.length empty).cuts c.inputs-length-end.ensures.well_formed (omega (arith, c.loop-length-test.true, c.inputs-length-end.ensures.value)) c.requires.cuts c.requires.few (c.requires.tallies.each c.loop-length.length empty (omega (arith, c.loop-length-test.true, c.inputs-length-end.ensures.value))).cuts c.loop-length.invariant in
    omega (arith, here.few, c.loop-length.invariant.few, c.loop-length-test.true, c.inputs-length-end.ensures.small)

pub overflow_mul-reached : goal.overflow_mul-reached
overflow_mul-reached c =
    let here = length-counted c.args.p.now c.loop-length.length c.loop-length.held c.loop-length.reached (get_or c.args.tallies.now c.loop-length.length empty).cuts c.inputs-length-end.ensures.well_formed (omega (arith, c.loop-length-test.true, c.inputs-length-end.ensures.value)) c.requires.cuts c.requires.few (c.requires.tallies.each c.loop-length.length empty (omega (arith, c.loop-length-test.true, c.inputs-length-end.ensures.value))).cuts c.loop-length.invariant in
    let next = held-more c.args.p.now c.loop-length.length c.loop-length.held c.loop-length.reached (get_or c.args.tallies.now c.loop-length.length empty).cuts c.classes.result (omega (arith, c.loop-length-test.true, c.inputs-length-end.ensures.value)) c.classes.ensures.value c.loop-length.invariant here in
    let most = level-within c.args.p.now (c.loop-length.length + 1) c.inputs-length-end.ensures.well_formed (omega (arith, c.loop-length-test.true, c.inputs-length-end.ensures.value)) c.requires.cuts c.requires.few in
    omega (arith, next.reached, most)

pub loop-length-preserved : goal.loop-length-preserved
loop-length-preserved c =
    let here = length-counted c.args.p.now c.loop-length.length c.loop-length.held c.loop-length.reached (get_or c.args.tallies.now c.loop-length.length empty).cuts c.inputs-length-end.ensures.well_formed (omega (arith, c.loop-length-test.true, c.inputs-length-end.ensures.value)) c.requires.cuts c.requires.few (c.requires.tallies.each c.loop-length.length empty (omega (arith, c.loop-length-test.true, c.inputs-length-end.ensures.value))).cuts c.loop-length.invariant in
    held-more c.args.p.now c.loop-length.length c.loop-length.held c.loop-length.reached (get_or c.args.tallies.now c.loop-length.length empty).cuts c.classes.result (omega (arith, c.loop-length-test.true, c.inputs-length-end.ensures.value)) c.classes.ensures.value c.loop-length.invariant here

last-length : (a b : ℕ) → a ≡ b → a ≡ b
last-length a b e = e

pub overflow_sub-held : goal.overflow_sub-held
overflow_sub-held c =
    let last = last-length c.loop-length.length c.inputs.result (omega (arith, c.loop-length-test.false, c.loop-length.auto.length-end, c.inputs.ensures.value, c.inputs-length-end.ensures.value)) in
    (length-counted c.args.p.now c.inputs.result c.loop-length.held c.loop-length.reached (get_or c.args.tallies.now c.inputs.result empty).cuts c.inputs.ensures.well_formed (omega (arith, c.inputs.ensures.value)) c.requires.cuts c.requires.few (c.requires.tallies.each c.inputs.result empty (omega (arith, c.inputs.ensures.value))).cuts (rw last at c.loop-length.invariant)).most

pub overflow_add-held-2 : goal.overflow_add-held-2
overflow_add-held-2 c =
    let last = last-length c.loop-length.length c.inputs.result (omega (arith, c.loop-length-test.false, c.loop-length.auto.length-end, c.inputs.ensures.value, c.inputs-length-end.ensures.value)) in
    let here = length-counted c.args.p.now c.inputs.result c.loop-length.held c.loop-length.reached (get_or c.args.tallies.now c.inputs.result empty).cuts c.inputs.ensures.well_formed (omega (arith, c.inputs.ensures.value)) c.requires.cuts c.requires.few (c.requires.tallies.each c.inputs.result empty (omega (arith, c.inputs.ensures.value))).cuts (rw last at c.loop-length.invariant) in
    omega (arith, here.few, c.loop-length.invariant.few, last, c.inputs.ensures.small)

pub returns : goal.returns
returns c =
    let last = last-length c.loop-length.length c.inputs.result (omega (arith, c.loop-length-test.false, c.loop-length.auto.length-end, c.inputs.ensures.value, c.inputs-length-end.ensures.value)) in
    let below = rw last at c.loop-length.invariant in
    let here = length-counted c.args.p.now c.inputs.result c.loop-length.held c.loop-length.reached (get_or c.args.tallies.now c.inputs.result empty).cuts c.inputs.ensures.well_formed (omega (arith, c.inputs.ensures.value)) c.requires.cuts c.requires.few (c.requires.tallies.each c.inputs.result empty (omega (arith, c.inputs.ensures.value))).cuts below in
    c.min.ensures ∙ ap (λ (n : ℕ). min n 18446744073709551615) (held-all c.args.p.now c.inputs.result c.loop-length.held c.loop-length.reached (get_or c.args.tallies.now c.inputs.result empty).cuts c.inputs.ensures.value below here)
