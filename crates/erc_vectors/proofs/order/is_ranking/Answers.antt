use Rattle.std.proofs.Common.{◌<◌, ℕ, map, length, false, refl, arith, sym}
use Rattle.std.proofs.lemmas.List.{get_or-replicate, length-replicate, get_or-map, length-map}
use Rattle.erc_vectors.specs.declared.condition.TheConstants.{LIMIT}
use Rattle.erc_vectors.specs.declared.condition.ConId.{ConId}
use Rattle.erc_vectors.proofs.Seen.{AreSeen-none, AreSeen-more, IsRanking-seen, not_ranking-large, not_ranking-seen}
use Rattle.erc_vectors.proofs.order.is_ranking.Goals as goal
use Rattle.erc_vectors.proofs.order.is_ranking.Goals.{then-number-list-via-then-number-list, then-number-list-via-else-number-list+then-seen-number}

abbrev number : ConId → ℕ
number c = c.0

pub loop-c-init : goal.loop-c-init
loop-c-init c = AreSeen-none _ _ _ (omega (arith, length-replicate LIMIT false)) (λ k b. get_or-replicate LIMIT k false false (omega (arith, c.requires)))

pub loop-c-preserved : goal.loop-c-preserved
loop-c-preserved c =
    AreSeen-more _ (map number c.args.list.now) _ _ _ (omega (arith, length-map c.args.list.now number)) (sym (get_or-map number c.args.list.now c.loop-c.c-index (record { 0 = 0 }) 0 (omega arith))) (omega arith) c.if-seen-number.false c.loop-c.invariant

pub returns-then-number-list : goal.returns-then-number-list
returns-then-number-list c =
    let within : c.loop-c.c-index < length (map number c.args.list.now) = omega (arith, length-map c.args.list.now number) in
    let here = sym (get_or-map number c.args.list.now c.loop-c.c-index (record { 0 = 0 }) 0 (omega arith)) in (
      λ h. absurd (cc),
      λ ranking. absurd (elim c.then-number-list.branch [
        | then-number-list-via-then-number-list w ↦ not_ranking-large _ _ _ _ within here w.if-number-list.true ranking
        | then-number-list-via-else-number-list+then-seen-number w ↦ not_ranking-seen _ _ _ _ _ within here w.if-number-list.false w.if-seen-number.true c.loop-c.invariant ranking
      ]),
    )

pub returns : goal.returns
returns c = (λ h. IsRanking-seen _ _ _ _ (length-map c.args.list.now number) (omega arith) c.loop-c.invariant, λ ranking. refl)
