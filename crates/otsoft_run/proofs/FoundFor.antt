-- Whether a search in threads is told, by what the command asks for.
use Rattle.std.proofs.Common.{◌≡◌, ℕ, List, Option, Some, None, false, true, inl, inr, refl, sym, subst, ◌∙◌}
use Rattle.std.specs.Prelude.{◌⊎◌, IsTrue, MatchOption, Result, Ok}
use Rattle.ot_theory.specs.Problems.{Problem}
use Rattle.refutation.specs.declared.typology.Typology.{Typology}
use Rattle.typology_workers.specs.declared.found.Found.{Found}
use Rattle.command_words.specs.declared.settings.Settings.{Settings}
use Rattle.otsoft_run.specs.declared.judging.Posed.{Posed}
use Rattle.command_words.specs.declared.settings.Settings.TheVariants as asks
use Rattle.ot_base.specs.Outside.{FilesTold}
use Rattle.otsoft_run.specs.Answers.{Judges, Refusal, is_written, written_status}
use Rattle.otsoft_run.specs.declared.status.Status.{Status}
use Rattle.otsoft_run.specs.declared.status.Status.TheVariants.{Done, BadWords, ReadFault, WriteFault}
use Rattle.otsoft_run.specs.Searched.{HasSearch, IsFoundFor, IsSearch, Searches, search_of}

given : (problem : Problem) (made : Typology → Type 0) (search : Option Found) (size : Option (ℕ × ℕ)) → MatchOption size (search ≡ None) (λ s. IsFoundFor problem s made search) → (size ≡ None → ⊥) → search ≡ None → ⊥
given problem made search None none some is = some refl
given problem made search (Some s) found some is = let both = sym is ∙ found.is in cc

asked_for : (problem : Problem) (made : Typology → Type 0) (search : Option Found) (size : Option (ℕ × ℕ)) (found : Found) → MatchOption size (search ≡ None) (λ s. IsFoundFor problem s made search) → search ≡ Some found → size ≡ None → ⊥
asked_for problem made search None found none is same = let both = sym is ∙ none in cc
asked_for problem made search (Some s) found right is same = cc

-- Where a command searches, a search is told.
pub search_given : (settings : Settings) (posed : Posed) (report : List ℕ) (search : Option Found) → IsSearch settings posed report search → Searches settings → search ≡ None → ⊥
search_given settings posed report search is searches none = given posed.problem _ search (search_of settings) is searches none

-- Where a search is told, the command searches.
pub search_asked : (settings : Settings) (posed : Posed) (report : List ℕ) (search : Option Found) (found : Found) → IsSearch settings posed report search → search ≡ Some found → Searches settings
search_asked settings posed report search found is some = asked_for posed.problem _ search (search_of settings) found is some

-- Where a search answers the command, a run that wrote its report is done.
pub searches_done : (settings : Settings) (posed : Posed) → Searches settings → written_status settings posed ≡ Done
searches_done (asks.Typology file workers places schedule given) posed searches = refl
searches_done (asks.Torder file workers places given) posed searches = refl
searches_done (asks.Rank file faith given) posed searches = absurd (searches refl)
searches_done (asks.Bases file given) posed searches = absurd (searches refl)
searches_done (asks.Hasse file given) posed searches = absurd (searches refl)
searches_done (asks.Demo number workers places) posed searches = refl

-- A run that wrote its report, or could not, has no other status.
ends_so : (wrong status written : Status) → is_written wrong ≡ false → (WriteFault ≡ wrong → ⊥) → (status ≡ written) ⊎ (status ≡ WriteFault) → IsTrue (is_written written) → status ≡ wrong → ⊥
ends_so wrong status written unwritten other (inl same) true_is is =
    let wrong_is : is_written wrong ≡ true = subst (λ (s : Status). is_written s ≡ true) (sym same ∙ is) true_is in
    let never : false ≡ true = sym unwritten ∙ wrong_is in
    cc
ends_so wrong status written unwritten other (inr fault) true_is is = other (sym fault ∙ is)

pub no_read_fault : (status written : Status) → (status ≡ written) ⊎ (status ≡ WriteFault) → IsTrue (is_written written) → status ≡ ReadFault → ⊥
no_read_fault status written ends true_is is = ends_so ReadFault status written refl (λ same. cc) ends true_is is

pub no_bad_words : (status written : Status) → (status ≡ written) ⊎ (status ≡ WriteFault) → IsTrue (is_written written) → status ≡ BadWords → ⊥
no_bad_words status written ends true_is is = ends_so BadWords status written refl (λ same. cc) ends true_is is

-- What was judged was searched, by whatever words for it.
pub has_search : (settings own : Settings) (told : FilesTold) (verdict : Result Posed Refusal) (posed : Posed) (report : List ℕ) (search : Option Found) (grew : List ℕ → Type 0)
    → settings ≡ own → ((verdict : Result Posed Refusal) → Judges own told verdict → verdict ≡ Ok posed) → IsSearch own posed report search
    → Judges settings told verdict → grew report → HasSearch settings verdict search grew
has_search settings own told verdict posed report search grew same accepted is judges grew_by =
    subst (λ (s : Settings). Judges s told verdict → HasSearch s verdict search grew) (sym same)
    (λ j. record { posed = posed; accepted = accepted verdict j; report = report; search_is = is; grew_by = grew_by })
    judges
