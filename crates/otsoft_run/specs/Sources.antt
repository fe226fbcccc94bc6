-- The files that a command reads.
use Rattle.std.specs.Prelude.{ℕ, List, [], unwrap_or}
use Rattle.command_words.specs.Words.{file_of, given_of}
use Rattle.command_words.specs.declared.settings.Settings.{Settings}
use Rattle.otsoft_run.specs.declared.sources.Source.{Source}
use Rattle.otsoft_run.specs.declared.sources.Source.TheVariants as source
use Rattle.otsoft_run.specs.declared.sources.SourceRefusal.{SourceRefusal}
use Rattle.otsoft_run.specs.declared.sources.SourceRefusal.TheVariants as refused
use Rattle.otsoft_run.specs.Answers.{Refusal, given_refusal_of, refusal_of}

-- the name of a file, and no name where the command reads none
abbrev pub name_of : Settings → Source → List ℕ
name_of settings source.Tableau = file_of settings
name_of settings source.Given = unwrap_or (given_of settings) []

abbrev pub source_of : SourceRefusal → Source
source_of (refused.Tableau refusal) = source.Tableau
source_of (refused.Given refusal) = source.Given

-- the refusal of a file of a command, with its name
abbrev pub told_of : Settings → SourceRefusal → Refusal
told_of settings (refused.Tableau refusal) = refusal_of (name_of settings source.Tableau) refusal
told_of settings (refused.Given refusal) = given_refusal_of (name_of settings source.Given) refusal
