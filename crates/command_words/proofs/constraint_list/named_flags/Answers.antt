use Rattle.std.proofs.Common.{◌∙◌}
use Rattle.command_words.proofs.Named.{named-none}
use Rattle.command_words.proofs.constraint_list.named_flags.Goals as goal

pub loop-constraint-init : goal.loop-constraint-init
loop-constraint-init c = c.in_ok-flags.ensures.items_if_clones_equal (λ y e. e) ∙ named-none c.args.n
