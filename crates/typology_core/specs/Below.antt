-- The cuts and the languages that extend a prefix, in lexicographic order.
use Rattle.std.specs.Prelude.{ℕ, zero, suc, List, [], ◌∷◌, flat_map, if◌then◌else◌}
use Rattle.ot_theory.specs.Problems.{Problem}
use Rattle.ot_theory.specs.Languages.{refuted}
use Rattle.search_deeds.specs.Deeds.{children}

-- with at most n classes more
unfoldable pub cuts_below : Problem → ℕ → List ℕ → List (List ℕ)
cuts_below problem zero prefix = if refuted problem prefix then prefix ∷ [] else []
cuts_below problem (suc n) prefix = if refuted problem prefix then prefix ∷ [] else flat_map (cuts_below problem n) (children problem prefix)

-- with n classes more
unfoldable pub languages_below : Problem → ℕ → List ℕ → List (List ℕ)
languages_below problem zero prefix = if refuted problem prefix then [] else prefix ∷ []
languages_below problem (suc n) prefix = if refuted problem prefix then [] else flat_map (languages_below problem n) (children problem prefix)
