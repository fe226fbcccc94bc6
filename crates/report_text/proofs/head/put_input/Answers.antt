use Rattle.std.proofs.Common.{◌+◌, [], arith, append_assoc}
use Rattle.ot_theory.specs.Languages.{classes_at}
use Rattle.report_text.proofs.Grown.{numbered_more}
use Rattle.report_text.proofs.head.put_input.Invariants.{class_line}
use Rattle.report_text.proofs.head.put_input.Goals as goal

pub loop-a-preserved : goal.loop-a-preserved
loop-a-preserved c =
    let classes = classes_at c.args.problem.now c.args.i.0 in
    let e = numbered_more (class_line (c.args.i.0 + 1) c.args.rows.now) classes c.loop-a.a c.profile-profile.result.now [] (omega arith) c.profile-profile.ensures.value in
    rw (e, c.in_ok-put_class.ensures, c.loop-a.invariant) (simp append_assoc)
