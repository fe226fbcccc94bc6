-- Only two words are a command and the word that it takes.
use Rattle.std.proofs.Common.{◌≡◌, ◌≢◌, ℕ, List, [], ◌∷◌, length, map, None, refl, Bor}
use Rattle.command_words.specs.Words.{Given, asked_by}

pub no_command : (words : List (Bor (List ℕ))) (options : List Given) → length words ≢ 2 → asked_by (map (λ word. word.now) words) options ≡ None
no_command [] options other = refl
no_command (command ∷ []) options other = refl
no_command (command ∷ word ∷ []) options other = absurd (other refl)
no_command (command ∷ word ∷ more ∷ words) options other = refl
