use Rattle.std.proofs.Common.{refl}
use Rattle.command_words.specs.declared.cut.CommandLine.{CommandLine}
use Rattle.command_words.proofs.Cuts.{more_word, more_option}
use Rattle.command_words.proofs.cut.CommandLine.cut.Goals as goal

pub loop-word-preserved-in-Word : goal.loop-word-preserved-in-Word
loop-word-preserved-in-Word c =
    let line : CommandLine = record { words = c.push.new.self; options = c.loop-word.line.options } in
    more_word _ _ _ c.loop-word.line line c.in-Word.word c.loop-word.invariant c.in-Word.ensures.begins c.in_ok-push-in-Word.ensures.ok refl

pub loop-word-preserved : goal.loop-word-preserved
loop-word-preserved c =
    let line : CommandLine = record { words = c.loop-word.line.words; options = c.push-in-Valued.new.self } in
    more_option _ _ _ c.loop-word.line line c.in-Valued.option c.loop-word.invariant c.in-Valued.ensures.begins refl c.in_ok-push-in-Valued.ensures.ok
