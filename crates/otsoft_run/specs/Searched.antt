-- Which commands a search in threads answers, and what is told of it.
use Rattle.std.specs.Prelude.{◌≡◌, ⊤, ℕ, List, length, nat_lt, if◌then◌else◌, MatchOption, Option, Some, None, Result, Ok}
use Rattle.ot_theory.specs.Problems.{Problem}
use Rattle.demonstration_file.specs.Demonstration.{demonstration_file}
use Rattle.refutation.specs.Typologies.{certificates_of, cuts_of, found_of}
use Rattle.refutation.specs.declared.typology.Language.{Language}
use Rattle.refutation.specs.declared.typology.Typology.{Typology}
use Rattle.report_text.specs.Listings.{torder_report}
use Rattle.report_text.specs.Reports.{typology_report}
use Rattle.report_text.specs.Summary.{demo_report}
use Rattle.t_orders.specs.Implications.{choices_of, implications_by}
use Rattle.typology_workers.specs.FoundSearch.{IsFoundSearch}
use Rattle.typology_workers.specs.declared.found.Found.{Found}
use Rattle.command_words.specs.declared.settings.Settings.{Settings}
use Rattle.command_words.specs.declared.settings.Settings.TheVariants as asks
use Rattle.otsoft_run.specs.Answers.{Refusal}
use Rattle.otsoft_run.specs.declared.judging.Posed.{Posed}

-- how many workers and how many places a search in threads has, which several workers make
abbrev pub in_threads : ℕ → ℕ → Option (ℕ × ℕ)
in_threads workers places = if nat_lt 1 workers then Some (workers, places) else None

-- how many workers and how many places a search in threads has, where one answers the command
abbrev pub search_of : Settings → Option (ℕ × ℕ)
search_of (asks.Typology file workers places None given) = in_threads workers places
search_of (asks.Typology file workers places (Some number) given) = None
search_of (asks.Torder file workers places given) = in_threads workers places
search_of (asks.Rank file faith given) = None
search_of (asks.Bases file given) = None
search_of (asks.Hasse file given) = None
search_of (asks.Demo number workers places) = in_threads workers places

-- the report of a typology that was found
abbrev pub report_of : Posed → Typology → List ℕ
report_of posed typology = typology_report posed.tableau posed.problem (found_of typology.languages) (certificates_of typology.certificates) (cuts_of typology.cuts)

-- the report of the demonstration file of a number, in which this typology was found
abbrev pub summary_of : ℕ → Posed → Typology → List ℕ
summary_of number posed typology =
    demo_report number (length (demonstration_file number)) (length typology.languages) (length typology.certificates) (length typology.cuts) (length (report_of posed typology))

-- the report of the implications that languages which were found tell
abbrev pub listing_of : Posed → List Language → List ℕ
listing_of posed languages = torder_report posed.tableau posed.problem (implications_by posed.problem (choices_of languages))

-- The report of a command is made from a typology.
abbrev pub IsMadeFrom : Settings → Posed → Typology → List ℕ → Type 0
IsMadeFrom (asks.Typology file workers places schedule given) posed typology report = report ≡ report_of posed typology
IsMadeFrom (asks.Torder file workers places given) posed typology report = report ≡ listing_of posed typology.languages
IsMadeFrom (asks.Rank file faith given) posed typology report = ⊤
IsMadeFrom (asks.Bases file given) posed typology report = ⊤
IsMadeFrom (asks.Hasse file given) posed typology report = ⊤
IsMadeFrom (asks.Demo number workers places) posed typology report = report ≡ summary_of number posed typology

-- A found search of the problem with so many workers and places, of whose typology something is made.
pub record IsFoundFor (problem : Problem) (size : ℕ × ℕ) (made : Typology → Type 0) (search : Option Found) : Type 0 where
  pub found : Found
  pub is : search ≡ Some found
  pub right : IsFoundSearch problem size.0 size.1 found
  pub made_from : made found.typology

-- of a search in threads of so many workers, where they are several, what was found, and otherwise nothing
abbrev pub IsSearchBy : Problem → ℕ → ℕ → (Typology → Type 0) → Option Found → Type 0
IsSearchBy problem workers places made search = MatchOption (in_threads workers places) (search ≡ None) (λ size. IsFoundFor problem size made search)

-- where a search in threads answers the command, the search that was made, and otherwise none
abbrev pub IsSearch : Settings → Posed → List ℕ → Option Found → Type 0
IsSearch settings posed report search =
    MatchOption (search_of settings) (search ≡ None) (λ size. IsFoundFor posed.problem size (λ typology. IsMadeFrom settings posed typology report) search)

-- A search in threads answers the command.
abbrev pub Searches : Settings → Type 0
Searches settings = search_of settings ≡ None → ⊥

-- What the command judges is accepted, and something grew by the report that is made from the search.
pub record HasSearch (settings : Settings) (verdict : Result Posed Refusal) (search : Option Found) (grew : List ℕ → Type 0) : Type 0 where
  pub posed : Posed
  pub accepted : verdict ≡ Ok posed
  pub report : List ℕ
  pub search_is : IsSearch settings posed report search
  pub grew_by : grew report
