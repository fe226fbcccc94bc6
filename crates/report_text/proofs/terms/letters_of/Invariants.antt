-- the letters of the first marks stand there
use Rattle.std.proofs.Common.{◌≡◌, length, take}
use Rattle.report_text.specs.Spelling.{marks}
use Rattle.report_text.proofs.terms.letters_of.Given as goal

abbrev pub invariant-loop-c : goal.invariant-loop-c
invariant-loop-c l = (length l.letters ≡ 64) × (take l.c l.letters ≡ marks (take l.c l.condition))
