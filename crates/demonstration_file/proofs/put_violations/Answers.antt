use Rattle.std.proofs.Common.{◌≡◌, ◌+◌, ◌++◌, decimal, ap, ◌∙◌}
use Rattle.demonstration_file.proofs.Growing.{violation_of, violation-owned, violation-other, violations-more}
use Rattle.demonstration_file.proofs.put_violations.Goals as goal
use Rattle.demonstration_file.proofs.put_violations.Goals.{then-c-group, else-c-group}

pub loop-c-preserved : goal.loop-c-preserved
loop-c-preserved c =
    let same : violation_of c.args.group c.args.drawn.now (c.loop-c.c + 1) ≡ c.if-c-group.violation = elim c.if-c-group.branch [
      | then-c-group w ↦ violation-owned c.args.group c.loop-c.c c.if-c-group.violation c.args.drawn.now w.if-c-group.true w.violation-is
      | else-c-group w ↦ violation-other c.args.group c.loop-c.c c.if-c-group.violation c.args.drawn.now w.if-c-group.false w.violation-is
    ] in
    violations-more c.args.group c.args.drawn.now c.loop-c.c c.if-c-group.violation _ _ _ same c.loop-c.invariant
    (c.in_ok-number.ensures ∙ ap (λ text. text ++ decimal c.if-c-group.violation) c.in_ok-put.ensures)
