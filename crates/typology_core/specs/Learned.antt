-- How often demotion judges a prefix in the search that opens the shorter prefixes first.
use Rattle.std.specs.Prelude.{ℕ, zero, suc, ◌+◌, ◌==◌, not, List, [], ◌∷◌, map, length, flat_map, slice_get, sum_by, if◌then◌else◌}
use Rattle.std.specs.List.{filter}
use Rattle.std.specs.Option.{option_map_or}
use Rattle.ot_theory.specs.Rankings.{numbers_below}
use Rattle.ot_theory.specs.Problems.{Problem}
use Rattle.ot_theory.specs.Languages.{refuted}
use Rattle.ot_theory.specs.Refutations.{certificate_named, certificates, cuts}
use Rattle.search_deeds.specs.Deeds.{children}

-- the prefixes of a length that the search comes to: the empty one, and the children of those that hold
unfoldable pub level : Problem → ℕ → List (List ℕ)
level problem zero = [] ∷ []
level problem (suc k) = flat_map (children problem) (filter (λ prefix. not (refuted problem prefix)) (level problem k))

-- those of them that hold under some ranking, and those that are refuted
abbrev pub held_at : Problem → ℕ → List (List ℕ)
held_at problem k = filter (λ prefix. not (refuted problem prefix)) (level problem k)

abbrev pub refuted_at : Problem → ℕ → List (List ℕ)
refuted_at problem k = filter (refuted problem) (level problem k)

-- the number of all prefixes that hold
abbrev pub held_count : Problem → ℕ
held_count problem = length (flat_map (held_at problem) (numbers_below (length problem.inputs + 1)))

-- the cuts that name a certificate
abbrev pub naming : List (List ℕ × ℕ) → ℕ → List (List ℕ × ℕ)
naming cuts certificate = filter (λ cut. cut.1 == certificate) cuts

-- the length of these, and their number
abbrev pub named_by : List (List ℕ × ℕ) → ℕ × ℕ
named_by cuts = (option_map_or (λ cut. length cut.0) (slice_get cuts 0) 0, length cuts)

-- the same with a cut of this length more
abbrev pub with_one : ℕ × ℕ → ℕ → ℕ × ℕ
with_one named length = if named.1 == 0 then (length, 1) else (named.0, named.1 + 1)

-- of each certificate
abbrev pub all_named : List (List ℕ × ℕ) → ℕ → List (ℕ × ℕ)
all_named cuts certificates = map (λ certificate. named_by (naming cuts certificate)) (numbers_below certificates)

-- those of one length
abbrev pub of_length : ℕ → List (ℕ × ℕ) → List (ℕ × ℕ)
of_length n named = filter (λ certificate. certificate.0 == n) named

-- how many cuts name these certificates
abbrev pub total_of : List (ℕ × ℕ) → ℕ
total_of named = sum_by (λ certificate. certificate.1) named

-- Certificates by the length of the cuts that name them, which is not past this one, and in the order of the list within a length:
-- so the search learns them.
abbrev pub by_length : ℕ → List (ℕ × ℕ) → List (ℕ × ℕ)
by_length longest named = flat_map (λ n. of_length n named) (numbers_below (longest + 1))

-- How often cuts are judged that name certificates so often: the first certificates, as many as there are places, are kept, and
-- judged once each; each other one is judged as often as cuts name it.
abbrev pub times_judged : ℕ → List ℕ → ℕ
times_judged places [] = 0
times_judged zero (times ∷ rest) = times + times_judged zero rest
times_judged (suc places) (times ∷ rest) = 1 + times_judged places rest

-- how often the cuts are judged, with so many places
abbrev pub cuts_judged : ℕ → ℕ → List (ℕ × ℕ) → ℕ
cuts_judged places longest named = times_judged places (map (λ certificate. certificate.1) (by_length longest named))

-- what the cuts of a problem name
abbrev pub named_in : Problem → List (ℕ × ℕ)
named_in problem = all_named (map (λ cut. (cut, certificate_named problem cut)) (cuts problem)) (length (certificates problem))
