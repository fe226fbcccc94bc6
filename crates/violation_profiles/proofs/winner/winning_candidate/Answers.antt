use Rattle.std.proofs.Common.{◌≡◌, map, get_or, sym, ◌∙◌, ap, subst, arith}
use Rattle.std.proofs.lemmas.List.{get_or-map, length-map}
use Rattle.ot_theory.proofs.Candidates.{Wins, Wins-keep, Wins-take, Wins-find}
use Rattle.violation_profiles.proofs.winner.winning_candidate.Goals as goal
use Rattle.violation_profiles.proofs.winner.winning_candidate.Goals.{then-row-greatest, else-row-greatest}

pub loop-k-preserved : goal.loop-k-preserved
loop-k-preserved c =
    let row = c.index-candidates-k.result in
    let at : get_or (map (λ row. row.count) c.args.candidates.now) c.loop-k.k 0 ≡ row.count =
    get_or-map (λ row. row.count) c.args.candidates.now c.loop-k.k row 0 (omega arith) ∙ sym (ap (λ row. row.count) c.index-candidates-k.is) in
    elim c.if-row-greatest.branch [
      | then-row-greatest w ↦ rw (w.winner-is, w.greatest-is) (Wins-take _ _ _ _ _ c.loop-k.invariant at w.if-row-greatest.true)
      | else-row-greatest w ↦ rw (w.winner-is, w.greatest-is) (Wins-keep _ _ _ _ c.loop-k.invariant (omega arith))
    ]

pub returns-clause-winner : goal.returns-clause-winner
returns-clause-winner c = Wins-find (map (λ row. row.count) c.args.candidates.now) c.loop-k.winner c.loop-k.greatest (subst (λ n. Wins (map (λ row. row.count) c.args.candidates.now) n c.loop-k.winner c.loop-k.greatest) (omega (arith, length-map c.args.candidates.now (λ row. row.count))) c.loop-k.invariant)
