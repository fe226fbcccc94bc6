use Rattle.std.proofs.Common.{sym, subst, refl, inl, inr, ◌∙◌, List, ℕ, Ok}
use Rattle.std.specs.Io.KnownBytes.{Appends}
use Rattle.command_words.specs.declared.settings.Settings.{Settings}
use Rattle.command_words.specs.declared.settings.Settings.TheVariants as asks
use Rattle.otsoft_run.specs.Answers.{AppendsPart, Judges, ReadsNothing, ReadsRose, Says, SaysRefused, SaysUnread}
use Rattle.otsoft_run.specs.Sources.{name_of, told_of}
use Rattle.otsoft_run.specs.declared.sources.Source.TheVariants as source
use Rattle.otsoft_run.specs.Searched.{Searches}
use Rattle.otsoft_run.proofs.Asked.{same_settings}
use Rattle.otsoft_run.proofs.FoundFor.{has_search, no_bad_words, no_read_fault, search_asked, search_given, searches_done}
use Rattle.otsoft_run.proofs.Verdicts.{never_reads}
use Rattle.otsoft_run.proofs.top_call.run.Goals as goal

-- The line names the refusal that was judged, and that is the one of the stored bytes where they are told.
pub returns-in-Err-Refused-clause-err_refused : goal.returns-in-Err-Refused-clause-err_refused
returns-in-Err-Refused-clause-err_refused g c = λ is settings asked.
    let own = c.in-Ok.settings in
    subst
    (λ (s : Settings). SaysRefused s (g.F.Files.told c.args.files.now) (g.E.Sink.told c.args.err.now) (g.E.Sink.told c.refuse.new.err))
    (sym (same_settings _ settings _ c.in-Ok.ensures.given asked))
    (record {
      refusal = told_of own c.in-Err-Refused.refusal;
      file = c.in-Err-Refused.ensures.refused_file c.in-Err-Refused.refusal (cc);
      line = c.refuse.ensures.refused (sym c.unsearched-in-Err-Refused.ensures.status ∙ is);
      judges = c.in-Err-Refused.ensures.refused c.in-Err-Refused.refusal (cc);
    })

pub returns-in-Err-Refused-clause-accepted : goal.returns-in-Err-Refused-clause-accepted
returns-in-Err-Refused-clause-accepted g c = λ settings posed asked judges.
    let own = subst (λ (s : Settings). Judges s (g.F.Files.told c.args.files.now) (Ok posed)) (same_settings _ settings _ c.in-Ok.ensures.given asked) judges in
    let wrong = c.in-Err-Refused.ensures.refused c.in-Err-Refused.refusal (cc) (Ok posed) own in
    absurd (cc wrong)

pub returns-in-Err-Fault-Tableau-clause-read_fault : goal.returns-in-Err-Fault-Tableau-clause-read_fault
returns-in-Err-Fault-Tableau-clause-read_fault g c = λ is settings asked.
    subst
    (λ (s : Settings). SaysUnread s (g.F.Files.told c.args.files.now) (g.F.Files.told c.pose.new.files) (g.E.Sink.told c.args.err.now) (g.E.Sink.told c.say-in-Err-Fault-Tableau.new.err))
    (sym (same_settings _ settings _ c.in-Ok.ensures.given asked))
    (record {
      name = name_of c.in-Ok.settings source.Tableau;
      file = c.in-Err-Fault-Tableau.ensures.fault_file source.Tableau (cc (c.in-Err-Fault-Tableau.field-0-is, c.in-Err-Fault-Tableau.field-0-0-is));
      first = inl refl;
      rose = c.in-Err-Fault-Tableau.ensures.fault source.Tableau (cc (c.in-Err-Fault-Tableau.field-0-is, c.in-Err-Fault-Tableau.field-0-0-is));
      line = subst (λ (text : List ℕ). Says (g.E.Sink.told c.args.err.now) (g.E.Sink.told c.say-in-Err-Fault-Tableau.new.err) text) (c.as_slice.ensures.value ∙ c.in-Ok-of.ensures.tableau) c.say-in-Err-Fault-Tableau.ensures;
    })

pub returns-in-Err-Fault-Tableau-clause-accepted : goal.returns-in-Err-Fault-Tableau-clause-accepted
returns-in-Err-Fault-Tableau-clause-accepted g c = λ settings posed asked judges unrisen.
    absurd
    (unrisen
    (subst
    (λ (s : Settings). ReadsRose s (g.F.Files.told c.args.files.now) (g.F.Files.told c.pose.new.files))
    (sym (same_settings _ settings _ c.in-Ok.ensures.given asked))
    (name_of c.in-Ok.settings source.Tableau, c.in-Err-Fault-Tableau.ensures.fault_file source.Tableau (cc (c.in-Err-Fault-Tableau.field-0-is, c.in-Err-Fault-Tableau.field-0-0-is)), c.in-Err-Fault-Tableau.ensures.fault source.Tableau (cc (c.in-Err-Fault-Tableau.field-0-is, c.in-Err-Fault-Tableau.field-0-0-is)))))

pub returns-in-Err-Fault-Tableau-clause-demonstrated : goal.returns-in-Err-Fault-Tableau-clause-demonstrated
returns-in-Err-Fault-Tableau-clause-demonstrated g c = λ number workers places asked.
    never_reads number workers places c.in-Ok.settings (name_of c.in-Ok.settings source.Tableau) (same_settings _ (asks.Demo number workers places) _ c.in-Ok.ensures.given asked)
    (c.in-Err-Fault-Tableau.ensures.fault_file source.Tableau (cc (c.in-Err-Fault-Tableau.field-0-is, c.in-Err-Fault-Tableau.field-0-0-is)))

pub returns-in-Err-Fault-Given-clause-read_fault : goal.returns-in-Err-Fault-Given-clause-read_fault
returns-in-Err-Fault-Given-clause-read_fault g c = λ is settings asked.
    subst
    (λ (s : Settings). SaysUnread s (g.F.Files.told c.args.files.now) (g.F.Files.told c.pose.new.files) (g.E.Sink.told c.args.err.now) (g.E.Sink.told c.say-in-Err-Fault-Given.new.err))
    (sym (same_settings _ settings _ c.in-Ok.ensures.given asked))
    (record {
      name = name_of c.in-Ok.settings source.Given;
      file = c.in-Err-Fault-Given.ensures.fault_file source.Given (cc (c.in-Err-Fault-Given.field-0-is, c.in-Err-Fault-Given.field-0-0-is));
      first = inr (c.in-Err-Fault-Given.ensures.fault_first (cc (c.in-Err-Fault-Given.field-0-is, c.in-Err-Fault-Given.field-0-0-is)));
      rose = c.in-Err-Fault-Given.ensures.fault source.Given (cc (c.in-Err-Fault-Given.field-0-is, c.in-Err-Fault-Given.field-0-0-is));
      line = subst (λ (text : List ℕ). Says (g.E.Sink.told c.args.err.now) (g.E.Sink.told c.say-in-Err-Fault-Given.new.err) text) (c.as_slice-in-Err-Fault-Given.ensures.value ∙ c.in-Ok-of.ensures.given) c.say-in-Err-Fault-Given.ensures;
    })

pub returns-in-Err-Fault-Given-clause-accepted : goal.returns-in-Err-Fault-Given-clause-accepted
returns-in-Err-Fault-Given-clause-accepted g c = λ settings posed asked judges unrisen.
    absurd
    (unrisen
    (subst
    (λ (s : Settings). ReadsRose s (g.F.Files.told c.args.files.now) (g.F.Files.told c.pose.new.files))
    (sym (same_settings _ settings _ c.in-Ok.ensures.given asked))
    (name_of c.in-Ok.settings source.Given, c.in-Err-Fault-Given.ensures.fault_file source.Given (cc (c.in-Err-Fault-Given.field-0-is, c.in-Err-Fault-Given.field-0-0-is)), c.in-Err-Fault-Given.ensures.fault source.Given (cc (c.in-Err-Fault-Given.field-0-is, c.in-Err-Fault-Given.field-0-0-is)))))

pub returns-in-Err-Fault-Given-clause-demonstrated : goal.returns-in-Err-Fault-Given-clause-demonstrated
returns-in-Err-Fault-Given-clause-demonstrated g c = λ number workers places asked.
    never_reads number workers places c.in-Ok.settings (name_of c.in-Ok.settings source.Given) (same_settings _ (asks.Demo number workers places) _ c.in-Ok.ensures.given asked)
    (c.in-Err-Fault-Given.ensures.fault_file source.Given (cc (c.in-Err-Fault-Given.field-0-is, c.in-Err-Fault-Given.field-0-0-is)))

pub returns-in-Err-Fault-Given-clause-nothing_read : goal.returns-in-Err-Fault-Given-clause-nothing_read
returns-in-Err-Fault-Given-clause-nothing_read g c = λ settings asked nothing.
    c.pose.ensures.untouched (subst (λ (s : Settings). ReadsNothing s) (same_settings _ settings _ c.in-Ok.ensures.given asked) nothing)

pub returns-in-Err-Refused-clause-nothing_read : goal.returns-in-Err-Refused-clause-nothing_read
returns-in-Err-Refused-clause-nothing_read g c = λ settings asked nothing.
    c.pose.ensures.untouched (subst (λ (s : Settings). ReadsNothing s) (same_settings _ settings _ c.in-Ok.ensures.given asked) nothing)

pub returns-in-Err-NoMemory-pose-clause-nothing_read : goal.returns-in-Err-NoMemory-pose-clause-nothing_read
returns-in-Err-NoMemory-pose-clause-nothing_read g c = λ settings asked nothing.
    c.pose.ensures.untouched (subst (λ (s : Settings). ReadsNothing s) (same_settings _ settings _ c.in-Ok.ensures.given asked) nothing)

pub returns-in_default-answer_of-clause-nothing_read : goal.returns-in_default-answer_of-clause-nothing_read
returns-in_default-answer_of-clause-nothing_read g c = λ settings asked nothing.
    c.pose.ensures.untouched (subst (λ (s : Settings). ReadsNothing s) (same_settings _ settings _ c.in-Ok.ensures.given asked) nothing)

pub returns-clause-nothing_read : goal.returns-clause-nothing_read
returns-clause-nothing_read g c = λ settings asked nothing.
    c.pose.ensures.untouched (subst (λ (s : Settings). ReadsNothing s) (same_settings _ settings _ c.in-Ok.ensures.given asked) nothing)

pub returns-in-Err-Fault-Tableau-clause-nothing_read : goal.returns-in-Err-Fault-Tableau-clause-nothing_read
returns-in-Err-Fault-Tableau-clause-nothing_read g c = λ settings asked nothing.
    c.pose.ensures.untouched (subst (λ (s : Settings). ReadsNothing s) (same_settings _ settings _ c.in-Ok.ensures.given asked) nothing)

pub returns-clause-read_fault : goal.returns-clause-read_fault
returns-clause-read_fault g c = λ is settings asked.
    absurd (no_read_fault c.publish.result c.in-Ok-answer_of.answer.report.status c.publish.ensures.status c.in-Ok-answer_of.ensures.written is)

pub returns-clause-found_after : goal.returns-clause-found_after
returns-clause-found_after g c = λ found some.
    let answer = c.in-Ok-answer_of.answer in
    let searches = search_asked c.in-Ok.settings c.in-Ok-pose.posed answer.report.text answer.found found c.in-Ok-answer_of.ensures.search some in
    elim c.publish.ensures.status [
      | inl same ↦ inl (same ∙ c.in-Ok-answer_of.ensures.status ∙ searches_done c.in-Ok.settings c.in-Ok-pose.posed searches)
      | inr fault ↦ inr fault
    ]

pub returns-clause-found_searched : goal.returns-clause-found_searched
returns-clause-found_searched g c = λ found some settings asked.
    let answer = c.in-Ok-answer_of.answer in
    subst
    (λ (s : Settings). Searches s)
    (sym (same_settings _ settings _ c.in-Ok.ensures.given asked))
    (search_asked c.in-Ok.settings c.in-Ok-pose.posed answer.report.text answer.found found c.in-Ok-answer_of.ensures.search some)

pub returns-clause-found : goal.returns-clause-found
returns-clause-found g c = λ ends settings asked searches.
    let answer = c.in-Ok-answer_of.answer in
    search_given c.in-Ok.settings c.in-Ok-pose.posed answer.report.text answer.found c.in-Ok-answer_of.ensures.search
    (subst (λ (s : Settings). Searches s) (same_settings _ settings _ c.in-Ok.ensures.given asked) searches)

pub returns-clause-found_written : goal.returns-clause-found_written
returns-clause-found_written g c = λ is settings verdict asked judges.
    let answer = c.in-Ok-answer_of.answer in
    has_search settings c.in-Ok.settings (g.F.Files.told c.args.files.now) verdict c.in-Ok-pose.posed answer.report.text answer.found
    (Appends (g.O.Sink.told c.args.out.now).written (g.O.Sink.told c.publish.new.out).written)
    (same_settings _ settings _ c.in-Ok.ensures.given asked)
    c.in-Ok-pose.ensures.accepted
    c.in-Ok-answer_of.ensures.search
    judges
    (rw (← c.bytes.ensures) (c.publish.ensures.whole (rw is refl)))

pub returns-clause-found_cut : goal.returns-clause-found_cut
returns-clause-found_cut g c = λ is settings verdict asked judges.
    let answer = c.in-Ok-answer_of.answer in
    has_search settings c.in-Ok.settings (g.F.Files.told c.args.files.now) verdict c.in-Ok-pose.posed answer.report.text answer.found
    (AppendsPart (g.O.Sink.told c.args.out.now).written (g.O.Sink.told c.publish.new.out).written)
    (same_settings _ settings _ c.in-Ok.ensures.given asked)
    c.in-Ok-pose.ensures.accepted
    c.in-Ok-answer_of.ensures.search
    judges
    (rw (← c.bytes.ensures) (c.publish.ensures.cut is))

pub returns-clause-files_untouched : goal.returns-clause-files_untouched
returns-clause-files_untouched g c = λ is. absurd (no_bad_words c.publish.result c.in-Ok-answer_of.answer.report.status c.publish.ensures.status c.in-Ok-answer_of.ensures.written is)
