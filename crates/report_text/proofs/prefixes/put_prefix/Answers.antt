use Rattle.std.proofs.Common.{ap, ◌∙◌}
use Rattle.report_text.proofs.Kept.{written}
use Rattle.report_text.proofs.prefixes.put_prefix.Goals as goal

pub put_behind-requires-clause-kept : goal.put_behind-requires-clause-kept
put_behind-requires-clause-kept c = c.keep_front.ensures ∙ ap written c.common_front-front.ensures.same
