use Rattle.std.proofs.Common.{◌∙◌}
use Rattle.demonstration_file.specs.Demonstration.{demonstration_file}
use Rattle.otsoft_run.proofs.Demonstrated.{never_refused, whole_file}
use Rattle.otsoft_run.proofs.posing.pose_made.Goals as goal

pub returns-in-Ok-judge-clause-accepted : goal.returns-in-Ok-judge-clause-accepted
returns-in-Ok-judge-clause-accepted c = c.in-Ok-judge.ensures.accepted (demonstration_file c.args.number) (c.bytes.ensures ∙ c.in-Ok.ensures.file ∙ whole_file c.args.number)

pub unreachable-requires : goal.unreachable-requires
unreachable-requires c =
    never_refused c.args.number c.bytes.result.now c.in-Err-Refused.field-0-0 (c.bytes.ensures ∙ c.in-Ok.ensures.file) (c.in-Err-Refused.ensures.refused c.in-Err-Refused.field-0-0 (cc c.in-Err-Refused.field-0-is))
