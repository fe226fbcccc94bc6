-- the first words were pushed, and the rest will be
use Rattle.std.proofs.Common.{◌≡◌, ◌++◌, map, drop, string_bytes}
use Rattle.command_words.proofs.cut.push_all.Given as goal

abbrev pub invariant-loop-word : goal.invariant-loop-word
invariant-loop-word l =
    map (λ word. word.now) l.list ++ map string_bytes (drop l.word-index l.words) ≡ map (λ word. word.now) l.initial.list ++ map string_bytes l.words
