-- The tableau is refused, or poses a problem alone, or under the pairs of the given file, or that file is refused.
use Rattle.std.proofs.Common.{ap, sym, ◌∙◌, ◌≡◌, Ok, Err}
use Rattle.otsoft_run.specs.Answers.{Refusal, given_refusal_of}
use Rattle.otsoft_run.specs.Sources.{told_of}
use Rattle.otsoft_run.specs.declared.sources.SourceRefusal.{SourceRefusal}
use Rattle.otsoft_run.specs.declared.sources.SourceRefusal.TheVariants as refused
use Rattle.otsoft_run.proofs.Verdicts.{alone_judged, alone_read_out, given_judged, given_name, given_read_out, refused_judged, refused_read_out}
use Rattle.otsoft_run.proofs.posing.pose_read.Goals as goal

pub returns-in-Err-Refused-clause-refused : goal.returns-in-Err-Refused-clause-refused
returns-in-Err-Refused-clause-refused g c = λ refusal is verdict judges.
    let same : refused.Tableau c.in-Err-Refused.refusal ≡ refusal = cc (c.in-Err-Refused.refusal-is, is) in
    refused_judged c.args.settings.now (g.F.Files.told c.args.files.now) c.in-Err-Refused.refusal c.requires
    (λ bytes stored. c.in-Err-Refused.ensures.refused c.in-Err-Refused.refusal (cc c.in-Err-Refused.field-0-is) bytes (ap (g.F.Files.told c.args.files.now).stored c.file.ensures ∙ stored))
    verdict judges
    ∙ ap (λ (r : SourceRefusal). Err (told_of c.args.settings.now r)) same

pub returns-in-Err-Refused-clause-read_out : goal.returns-in-Err-Refused-clause-read_out
returns-in-Err-Refused-clause-read_out g c = λ through.
    refused_read_out c.args.settings.now (g.F.Files.told c.args.files.now) (g.F.Files.told c.read_tableau_file.new.files) c.in-Err-Refused.refusal c.requires
    (λ bytes stored. c.in-Err-Refused.ensures.refused c.in-Err-Refused.refusal (cc c.in-Err-Refused.field-0-is) bytes (ap (g.F.Files.told c.args.files.now).stored c.file.ensures ∙ stored))
    (λ bytes stored. (rw c.in-Err-Refused.field-0-is at c.in-Err-Refused.ensures.read_through) tt bytes (ap (g.F.Files.told c.args.files.now).stored c.file.ensures ∙ stored))

pub returns-in-None-clause-accepted : goal.returns-in-None-clause-accepted
returns-in-None-clause-accepted g c =
    alone_judged c.args.settings.now (g.F.Files.told c.args.files.now) c.in-Ok.posed c.requires (sym c.in-None.ensures) c.in-Ok.ensures.alone
    (λ bytes stored. c.in-Ok.ensures.accepted bytes (ap (g.F.Files.told c.args.files.now).stored c.file.ensures ∙ stored))

pub returns-in-None-clause-read_out : goal.returns-in-None-clause-read_out
returns-in-None-clause-read_out g c = λ through.
    alone_read_out c.args.settings.now (g.F.Files.told c.args.files.now) (g.F.Files.told c.read_tableau_file.new.files) c.in-Ok.posed c.requires (sym c.in-None.ensures) c.in-Ok.ensures.alone
    (λ bytes stored. c.in-Ok.ensures.accepted bytes (ap (g.F.Files.told c.args.files.now).stored c.file.ensures ∙ stored))
    (λ bytes stored. c.in-Ok.ensures.read_through tt bytes (ap (g.F.Files.told c.args.files.now).stored c.file.ensures ∙ stored))

pub returns-in-Ok-read_given_file-clause-accepted : goal.returns-in-Ok-read_given_file-clause-accepted
returns-in-Ok-read_given_file-clause-accepted g c =
    given_judged c.args.settings.now (g.F.Files.told c.args.files.now) (g.F.Files.told c.read_tableau_file.new.files) c.in-Some.name.now c.in-Ok.posed.tableau (Ok c.in-Ok-read_given_file.posed) c.requires (sym c.in-Some.ensures)
    c.read_tableau_file.ensures.keeps
    (λ bytes stored. c.in-Ok.ensures.accepted bytes (ap (g.F.Files.told c.args.files.now).stored c.file.ensures ∙ stored))
    c.in-Ok-read_given_file.ensures.accepted

pub returns-in-Ok-read_given_file-clause-read_out : goal.returns-in-Ok-read_given_file-clause-read_out
returns-in-Ok-read_given_file-clause-read_out g c = λ through.
    given_read_out c.args.settings.now (g.F.Files.told c.args.files.now) (g.F.Files.told c.read_tableau_file.new.files) (g.F.Files.told c.read_given_file.new.files) c.in-Some.name.now c.in-Ok.posed.tableau (Ok c.in-Ok-read_given_file.posed) c.requires (sym c.in-Some.ensures)
    c.read_tableau_file.ensures.keeps
    (λ bytes stored. c.in-Ok.ensures.accepted bytes (ap (g.F.Files.told c.args.files.now).stored c.file.ensures ∙ stored))
    c.in-Ok-read_given_file.ensures.accepted
    (λ refusal is. absurd (cc))
    (c.in-Ok-read_given_file.ensures.read_through tt)

pub returns-in-Err-Refused-read_given_file-clause-refused : goal.returns-in-Err-Refused-read_given_file-clause-refused
returns-in-Err-Refused-read_given_file-clause-refused g c = λ refusal is verdict judges.
    let same : refused.Given c.in-Err-Refused-read_given_file.refusal ≡ refusal = cc (c.in-Err-Refused-read_given_file.refusal-is, is) in
    let named : told_of c.args.settings.now (refused.Given c.in-Err-Refused-read_given_file.refusal) ≡ given_refusal_of c.in-Some.name.now c.in-Err-Refused-read_given_file.refusal =
    given_name c.args.settings.now c.in-Some.name.now c.in-Err-Refused-read_given_file.refusal (sym c.in-Some.ensures)
    in
    given_judged c.args.settings.now (g.F.Files.told c.args.files.now) (g.F.Files.told c.read_tableau_file.new.files) c.in-Some.name.now c.in-Ok.posed.tableau
    (Err (given_refusal_of c.in-Some.name.now c.in-Err-Refused-read_given_file.refusal)) c.requires (sym c.in-Some.ensures)
    c.read_tableau_file.ensures.keeps
    (λ bytes stored. c.in-Ok.ensures.accepted bytes (ap (g.F.Files.told c.args.files.now).stored c.file.ensures ∙ stored))
    (c.in-Err-Refused-read_given_file.ensures.refused c.in-Err-Refused-read_given_file.refusal (cc c.in-Err-Refused-read_given_file.field-0-is))
    verdict judges
    ∙ ap (λ (r : Refusal). Err r) (sym named)
    ∙ ap (λ (r : SourceRefusal). Err (told_of c.args.settings.now r)) same

pub returns-in-Err-Refused-read_given_file-clause-read_out : goal.returns-in-Err-Refused-read_given_file-clause-read_out
returns-in-Err-Refused-read_given_file-clause-read_out g c = λ through.
    given_read_out c.args.settings.now (g.F.Files.told c.args.files.now) (g.F.Files.told c.read_tableau_file.new.files) (g.F.Files.told c.read_given_file.new.files) c.in-Some.name.now c.in-Ok.posed.tableau
    (Err (given_refusal_of c.in-Some.name.now c.in-Err-Refused-read_given_file.refusal)) c.requires (sym c.in-Some.ensures)
    c.read_tableau_file.ensures.keeps
    (λ bytes stored. c.in-Ok.ensures.accepted bytes (ap (g.F.Files.told c.args.files.now).stored c.file.ensures ∙ stored))
    (c.in-Err-Refused-read_given_file.ensures.refused c.in-Err-Refused-read_given_file.refusal (cc c.in-Err-Refused-read_given_file.field-0-is))
    (λ refusal is. let same : given_refusal_of c.in-Some.name.now c.in-Err-Refused-read_given_file.refusal ≡ refusal = cc in ap (λ (r : Refusal). r.file) (sym same))
    ((rw c.in-Err-Refused-read_given_file.field-0-is at c.in-Err-Refused-read_given_file.ensures.read_through) tt)
