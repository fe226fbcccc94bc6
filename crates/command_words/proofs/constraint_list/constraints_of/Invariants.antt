-- the first texts were read, and the rest will be
use Rattle.std.proofs.Common.{◌≡◌, ◌++◌, map, drop, option_map}
use Rattle.command_words.specs.Words.{all_read, constraint}
use Rattle.command_words.proofs.constraint_list.constraints_of.Given as goal

abbrev pub invariant-loop-text : goal.invariant-loop-text
invariant-loop-text l =
    all_read constraint (map (λ text. text.now) l.text-items) ≡ option_map (λ rest. l.list ++ rest) (all_read constraint (map (λ text. text.now) (drop l.text-index l.text-items)))
