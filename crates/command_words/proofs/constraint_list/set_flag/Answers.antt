use Rattle.command_words.proofs.Named.{set-named, keep-named}
use Rattle.command_words.proofs.constraint_list.set_flag.Goals as goal

pub returns-then-k-flags : goal.returns-then-k-flags
returns-then-k-flags c = λ n list e. keep-named n list c.args.constraint c.args.flags.now e c.if-k-flags.true

pub returns : goal.returns
returns c = λ n list e. set-named n list c.args.constraint c.args.flags.now e c.if-k-flags.false
