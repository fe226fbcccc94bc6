use Rattle.std.proofs.Common.{◌≡◌, ◌≤◌, ◌+◌, ℕ, List, arith, sym, ◌∙◌, ap, length, map, take, inl, inr, length-append}
use Rattle.std.proofs.lemmas.List.{length-map}
use Rattle.erc_vectors.specs.declared.condition.ConId.{ConId}
use Rattle.ot_theory.specs.Hierarchies.{in_stratum, order_along}
use Rattle.std.specs.Prelude.{All, fold, max}
use Rattle.ot_theory.proofs.Enumeration.{ranking-length}
use Rattle.ot_theory.proofs.Orders.{order_to, order_to-more, length-order_to, IsAlong-order, all_kept_along}
use Rattle.demotion.proofs.order.order_of.Goals as goal

ranking_long : (levels : List ℕ) (ids : List ConId) → All (λ level. 1 ≤ level) levels → map (λ c. c.0) ids ≡ order_along levels → length ids ≡ length levels
ranking_long levels ids some e = sym (length-map ids (λ (c : ConId). c.0)) ∙ ap (λ (l : List ℕ). length l) e ∙ ranking-length (length levels) (order_along levels) (IsAlong-order levels some).ranking

pub put_stratum-placed-requires : goal.put_stratum-placed-requires
put_stratum-placed-requires c =
    let levels = c.args.s.now in
    let above = c.loop-above.above in
    let next : length (order_to levels (above + 1)) ≡ length (order_to levels above) + length (in_stratum levels (above + 1)) =
    ap (λ (l : List ℕ). length l) (order_to-more levels above) ∙ length-append (order_to levels above) (in_stratum levels (above + 1)) in
    record { room = omega (arith, next, length-order_to levels (above + 1), c.loop-above.invariant.count, c.width.ensures.small) }

pub loop-above-preserved : goal.loop-above-preserved
loop-above-preserved c = record {
  count = rw (order_to-more c.args.s.now c.loop-above.above, length-append) (omega (arith, c.put_stratum-placed.ensures.count, c.loop-above.invariant.count));
  numbers = rw (order_to-more c.args.s.now c.loop-above.above, ← c.loop-above.invariant.numbers) c.put_stratum-placed.ensures.numbers;
}

pub unreachable-requires : goal.unreachable-requires
unreachable-requires c =
    let from_one = c.width.ensures.from_one in
    let all : c.loop-above.above ≡ fold max 0 c.args.s.now = omega (arith, c.lowest-above-end.ensures) in
    let whole : map (λ (x : ConId). x.0) (take c.loop-above.placed c.loop-above.list) ≡ order_along c.args.s.now = c.loop-above.invariant.numbers ∙ ap (order_to c.args.s.now) all in
    let long : length (take c.loop-above.placed c.loop-above.list) ≡ length c.args.s.now = ranking_long c.args.s.now _ from_one whole in
    elim c.in-None.ensures.none [
      | inl large ↦ omega (arith, long, c.width.ensures.small)
      | inr other ↦ other (rw (long, whole) (IsAlong-order c.args.s.now from_one).ranking)
    ]

pub returns-clause-keeping : goal.returns-clause-keeping
returns-clause-keeping c = λ set h.
    let all : c.loop-above.above ≡ fold max 0 c.args.s.now = omega (arith, c.lowest-above-end.ensures) in
    rw (c.in-Some.ensures.some.0, c.loop-above.invariant.numbers, all) (all_kept_along c.args.s.now set c.width.ensures.from_one h)

pub returns-clause-ranking : goal.returns-clause-ranking
returns-clause-ranking c =
    let all : c.loop-above.above ≡ fold max 0 c.args.s.now = omega (arith, c.lowest-above-end.ensures) in
    rw (c.in-Some.ensures.some.0, c.loop-above.invariant.numbers, all) (IsAlong-order c.args.s.now c.width.ensures.from_one).ranking

pub returns-clause-width : goal.returns-clause-width
returns-clause-width c = ranking-length (length c.args.s.now) c.in-Some.order (returns-clause-ranking c)
