-- What a command judges, by the files that it reads or the one that it makes.
use Rattle.std.proofs.Common.{◌≡◌, ℕ, ◌+◌, List, drop, Option, Some, None, Result, Ok, Err, inl, inr, refl, sym, ap, subst, ◌∙◌, arith}
use Rattle.std.specs.Prelude.{◌⊎◌, [], IfOk, option_and_then, option_map, unwrap_or}
use Rattle.ot_base.specs.Outside.{FilesRose, FilesTold, KeepsFiles}
use Rattle.ot_base.specs.declared.tableau.Tableau.{Tableau}
use Rattle.tableau_file.specs.Given.{given_reading}
use Rattle.tableau_file.specs.Reading.{reading}
use Rattle.tableau_file.specs.declared.FileRefusal.{FileRefusal}
use Rattle.tableau_file.specs.declared.given.GivenRefusal.{GivenRefusal}
use Rattle.tableau_file.specs.declared.limits.TheConstants.{FILE_LIMIT}
use Rattle.command_words.specs.Words.{file_of, given_of, made_of}
use Rattle.command_words.specs.declared.settings.Settings.{Settings}
use Rattle.command_words.specs.declared.settings.Settings.TheVariants as asks
use Rattle.demonstration_file.specs.Demonstration.{demonstration_file}
use Rattle.otsoft_run.specs.declared.judging.Posed.{Posed}
use Rattle.otsoft_run.specs.Sources.{told_of}
use Rattle.otsoft_run.specs.declared.sources.SourceRefusal.TheVariants as refused
use Rattle.otsoft_run.specs.Answers.{Refusal, given_refusal_of, IsFileReadOut, IsReadOut, IsUntouched, Judges, Reads, ReadsNothing, judged, posed_alone, posed_by, posed_under, refusal_of, verdict_of}

-- ---- what is judged
then_some : {A B : Type 0} (told : Option A) (next : A → Option B) (answer : B) → option_and_then next told ≡ Some answer → (item : A) × (told ≡ Some item) × (next item ≡ Some answer)
then_some None next answer is = absurd (cc)
then_some (Some item) next answer is = (item, refl, is)

-- The bytes of the file are told, and the verdict is of their reading.
file_judged : (settings : Settings) (told : FilesTold) (verdict : Result Posed Refusal) → made_of settings ≡ None → Judges settings told verdict
    → (bytes : List ℕ) × (told.stored (file_of settings) ≡ Some bytes) × (verdict_of settings told (reading bytes) ≡ Some verdict)
unfolding judged
file_judged settings told verdict none judges =
    then_some (told.stored (file_of settings)) (λ bytes. verdict_of settings told (reading bytes)) verdict (rw none at judges)

by_reading : (settings : Settings) (told : FilesTold) (verdict : Result Posed Refusal) (read : Result Tableau FileRefusal) → made_of settings ≡ None
    → ((bytes : List ℕ) → told.stored (file_of settings) ≡ Some bytes → reading bytes ≡ read) → Judges settings told verdict → verdict_of settings told read ≡ Some verdict
by_reading settings told verdict read none right judges =
    let at = file_judged settings told verdict none judges in
    subst (λ (r : Result Tableau FileRefusal). verdict_of settings told r ≡ Some verdict) (right at.0 at.1) at.2

-- the file of the tableau is refused
pub refused_judged : (settings : Settings) (told : FilesTold) (fault : FileRefusal) → made_of settings ≡ None
    → ((bytes : List ℕ) → told.stored (file_of settings) ≡ Some bytes → reading bytes ≡ Err fault) → (verdict : Result Posed Refusal) → Judges settings told verdict
    → verdict ≡ Err (refusal_of (file_of settings) fault)
refused_judged settings told fault none right verdict judges =
    let is : Some (Err (refusal_of (file_of settings) fault)) ≡ Some verdict = by_reading settings told verdict (Err fault) none right judges in
    cc

-- it is accepted, and no pairs are given
pub alone_judged : (settings : Settings) (told : FilesTold) (posed : Posed) → made_of settings ≡ None → given_of settings ≡ None → posed ≡ posed_alone posed.tableau
    → ((bytes : List ℕ) → told.stored (file_of settings) ≡ Some bytes → reading bytes ≡ Ok posed.tableau) → (verdict : Result Posed Refusal) → Judges settings told verdict → verdict ≡ Ok posed
alone_judged settings told posed none none_given alone right verdict judges =
    let is : posed_by (given_of settings) told posed.tableau ≡ Some verdict = by_reading settings told verdict (Ok posed.tableau) none right judges in
    let same : Some (Ok (posed_alone posed.tableau)) ≡ Some verdict = subst (λ (g : Option (List ℕ)). posed_by g told posed.tableau ≡ Some verdict) none_given is in
    cc

-- it is accepted, and this is the answer under the given pairs of a file
pub given_judged : (settings : Settings) (told later : FilesTold) (name : List ℕ) (tableau : Tableau) (answer : Result Posed Refusal) → made_of settings ≡ None → given_of settings ≡ Some name
    → KeepsFiles told later → ((bytes : List ℕ) → told.stored (file_of settings) ≡ Some bytes → reading bytes ≡ Ok tableau)
    → ((bytes : List ℕ) → later.stored name ≡ Some bytes → posed_under tableau name (given_reading tableau bytes) ≡ answer) → (verdict : Result Posed Refusal) → Judges settings told verdict → verdict ≡ answer
given_judged settings told later name tableau answer none given keeps right under verdict judges =
    let is : posed_by (given_of settings) told tableau ≡ Some verdict = by_reading settings told verdict (Ok tableau) none right judges in
    under_given (told.stored name) (λ bytes stored. under bytes (keeps.same name ∙ stored)) (subst (λ (g : Option (List ℕ)). posed_by g told tableau ≡ Some verdict) given is)
  where
    under_given : (stored : Option (List ℕ)) → ((bytes : List ℕ) → stored ≡ Some bytes → posed_under tableau name (given_reading tableau bytes) ≡ answer)
        → option_map (λ bytes. posed_under tableau name (given_reading tableau bytes)) stored ≡ Some verdict → verdict ≡ answer
    under_given None under is = absurd (cc)
    under_given (Some bytes) under is = let both = under bytes refl in cc

-- a refusal of the given pairs names their file
pub given_name : (settings : Settings) (name : List ℕ) (fault : GivenRefusal) → given_of settings ≡ Some name → told_of settings (refused.Given fault) ≡ given_refusal_of name fault
given_name settings name fault given = ap (λ (g : Option (List ℕ)). given_refusal_of (unwrap_or g []) fault) given

-- ---- what was read out
-- A command judges this, and all of the file that it opened last was read.
pub read_out : (settings : Settings) (old new : FilesTold) (last : List ℕ) (answer : Result Posed Refusal) → made_of settings ≡ None → (last ≡ file_of settings) ⊎ (given_of settings ≡ Some last)
    → ((verdict : Result Posed Refusal) → Judges settings old verdict → verdict ≡ answer)
    → ((refusal : Refusal) → answer ≡ Err refusal → refusal.file ≡ last)
    → ((posed : Posed) → answer ≡ Ok posed → (name : List ℕ) → given_of settings ≡ Some name → name ≡ last)
    → ((bytes : List ℕ) → old.stored last ≡ Some bytes → new.left ≡ Some (drop (FILE_LIMIT + 1) bytes)) → IsReadOut settings old new
read_out settings old new last answer none reads judged_as refused given left =
    let read : IsFileReadOut settings old new = record {
      last = last;
      reads = (none, reads);
      refused = λ refusal judges. refused refusal (sym (judged_as (Err refusal) judges));
      given = λ posed judges. given posed (sym (judged_as (Ok posed) judges));
      left = left;
    } in
    rw none read

-- Where the tableau is refused, its file was opened last.
pub refused_read_out : (settings : Settings) (old new : FilesTold) (fault : FileRefusal) → made_of settings ≡ None
    → ((bytes : List ℕ) → old.stored (file_of settings) ≡ Some bytes → reading bytes ≡ Err fault)
    → ((bytes : List ℕ) → old.stored (file_of settings) ≡ Some bytes → new.left ≡ Some (drop (FILE_LIMIT + 1) bytes)) → IsReadOut settings old new
refused_read_out settings old new fault none right left =
    read_out settings old new (file_of settings) (Err (refusal_of (file_of settings) fault)) none (inl refl) (refused_judged settings old fault none right)
    (λ refusal is. let same : refusal_of (file_of settings) fault ≡ refusal = cc in ap (λ (r : Refusal). r.file) (sym same))
    (λ posed is. absurd (cc))
    left

-- So it was where no pairs are given.
pub alone_read_out : (settings : Settings) (old new : FilesTold) (posed : Posed) → made_of settings ≡ None → given_of settings ≡ None → posed ≡ posed_alone posed.tableau
    → ((bytes : List ℕ) → old.stored (file_of settings) ≡ Some bytes → reading bytes ≡ Ok posed.tableau)
    → ((bytes : List ℕ) → old.stored (file_of settings) ≡ Some bytes → new.left ≡ Some (drop (FILE_LIMIT + 1) bytes)) → IsReadOut settings old new
alone_read_out settings old new posed none none_given alone right left =
    read_out settings old new (file_of settings) (Ok posed) none (inl refl) (alone_judged settings old posed none none_given alone right)
    (λ refusal is. absurd (cc))
    (λ other is name given. let both = sym none_given ∙ given in absurd (cc))
    left

-- Where the tableau is accepted, the file of given pairs was opened last.
pub given_read_out : (settings : Settings) (old later new : FilesTold) (name : List ℕ) (tableau : Tableau) (answer : Result Posed Refusal) → made_of settings ≡ None → given_of settings ≡ Some name
    → KeepsFiles old later → ((bytes : List ℕ) → old.stored (file_of settings) ≡ Some bytes → reading bytes ≡ Ok tableau)
    → ((bytes : List ℕ) → later.stored name ≡ Some bytes → posed_under tableau name (given_reading tableau bytes) ≡ answer)
    → ((refusal : Refusal) → answer ≡ Err refusal → refusal.file ≡ name)
    → ((bytes : List ℕ) → later.stored name ≡ Some bytes → new.left ≡ Some (drop (FILE_LIMIT + 1) bytes)) → IsReadOut settings old new
given_read_out settings old later new name tableau answer none given keeps right under refused left =
    read_out settings old new name answer none (inr given) (given_judged settings old later name tableau answer none given keeps right under)
    refused
    (λ posed is other given_other. let both = sym given ∙ given_other in cc)
    (λ bytes stored. left bytes (keeps.same name ∙ stored))

pub reads_file : (settings : Settings) (old new : FilesTold) → made_of settings ≡ None → ReadsNothing settings → IsUntouched old new
reads_file settings old new none nothing = absurd (nothing (file_of settings) (none, inl refl))

-- a fault of a later call is one of both
pub rose_later : (name : List ℕ) (old later new : FilesTold) → KeepsFiles old later → FilesRose name later new → FilesRose name old new
rose_later name old later new keeps (inl opened) = let before = keeps.opens_counted name in inl (omega arith)
rose_later name old later new keeps (inr read) = let before = keeps.reads_counted in inr (omega arith)

pub keeps_later : (old later new : FilesTold) → KeepsFiles old later → KeepsFiles later new → KeepsFiles old new
keeps_later old later new first second = record {
  same = λ name. second.same name ∙ first.same name;
  opens_counted = λ name. let one = first.opens_counted name in let two = second.opens_counted name in omega arith;
  reads_counted = let one = first.reads_counted in let two = second.reads_counted in omega arith;
}

-- ---- a command that makes its file
pub made_judged : (settings : Settings) (told : FilesTold) (posed : Posed) (number : ℕ) → made_of settings ≡ Some number → posed ≡ posed_alone posed.tableau
    → reading (demonstration_file number) ≡ Ok posed.tableau → (verdict : Result Posed Refusal) → Judges settings told verdict → verdict ≡ Ok posed
unfolding judged
made_judged settings told posed number made alone right verdict judges =
    let is : verdict_of settings told (reading (demonstration_file number)) ≡ Some verdict = rw made at judges in
    let by : posed_by (given_of settings) told posed.tableau ≡ Some verdict = subst (λ (r : Result Tableau FileRefusal). verdict_of settings told r ≡ Some verdict) right is in
    let same : Some (Ok (posed_alone posed.tableau)) ≡ Some verdict = subst (λ (g : Option (List ℕ)). posed_by g told posed.tableau ≡ Some verdict) (made_alone settings number made) by in
    cc
  where
    made_alone : (settings : Settings) (number : ℕ) → made_of settings ≡ Some number → given_of settings ≡ None
    made_alone (asks.Typology file workers places schedule given) number made = absurd (cc)
    made_alone (asks.Torder file workers places given) number made = absurd (cc)
    made_alone (asks.Rank file faith given) number made = absurd (cc)
    made_alone (asks.Bases file given) number made = absurd (cc)
    made_alone (asks.Hasse file given) number made = absurd (cc)
    made_alone (asks.Demo n workers places) number made = refl

pub made_accepted : {E : Type 0} (settings : Settings) (told : FilesTold) (number : ℕ) (result : Result Posed E) → made_of settings ≡ Some number
    → IfOk result (λ posed. reading (demonstration_file number) ≡ Ok posed.tableau) → IfOk result (λ posed. posed ≡ posed_alone posed.tableau)
    → IfOk result (λ posed. (verdict : Result Posed Refusal) → Judges settings told verdict → verdict ≡ Ok posed)
made_accepted settings told number (Ok posed) made right alone = made_judged settings told posed number made alone right
made_accepted settings told number (Err error) made right alone = tt

-- It reads no file.
pub never_reads : {A : Type 0} (number workers places : ℕ) (settings : Settings) (name : List ℕ) → asks.Demo number workers places ≡ settings → Reads settings name → A
never_reads number workers places settings name same reads =
    let none : made_of (asks.Demo number workers places) ≡ None = subst (λ (s : Settings). made_of s ≡ None) (sym same) reads.0 in
    absurd (cc none)

pub made_read_out : (settings : Settings) (old new : FilesTold) (number : ℕ) → made_of settings ≡ Some number → IsUntouched old new → IsReadOut settings old new
made_read_out settings old new number made untouched = rw made untouched
