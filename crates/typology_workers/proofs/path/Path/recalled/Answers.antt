use Rattle.std.proofs.Common.{◌≡◌, ◌<◌, ◌≤◌, ◌∙◌, arith, length, refl}
use Rattle.std.specs.Prelude.{slice_index}
use Rattle.std.proofs.lemmas.List.{length-map}
use Rattle.ot_base.specs.declared.tableau.ClassId.{ClassId}
use Rattle.refutation.specs.Prefixes.{class_numbers}
use Rattle.search_machine.specs.Findings.{IsJudged}
use Rattle.refutation.specs.declared.judging.Finding.TheVariants.{Refuted}
use Rattle.typology_workers.specs.Paths.{before_of, prefix_of}
use Rattle.typology_workers.specs.declared.path.Path.{Path}
use Rattle.typology_workers.proofs.Remembering.{recalled}
use Rattle.typology_workers.proofs.path.Path.recalled.Goals as goal

pub returns-in_ok-copy-in-Some-of-clause-judged : goal.returns-in_ok-copy-in-Some-of-clause-judged
returns-in_ok-copy-in-Some-of-clause-judged c =
    let problem = c.args.p.now in
    let prefix = class_numbers c.args.prefix.now in
    let path : Path = c.keeps_before.new.self in
    let entry = c.in-Some-of.entry.now in
    let h = c.keeps_before.ensures.path in
    let there : prefix_of path ≡ prefix = rw c.keeps_before.ensures.steps c.requires.there in
    let shorter : length entry.front < length prefix = omega (arith, c.in-Some-of.ensures.shorter, length-map c.args.prefix.now (λ (class : ClassId). class.0)) in
    let behind : slice_index (before_of path) (length entry.front) ≤ c.in-Some.place = rw c.keeps_before.ensures.steps (c.in-Some.ensures.behind problem (length entry.front) c.requires.path c.in-Some-of.ensures.shorter) in
    let within : c.in-Some.place < length path.asked.terms.items = rw c.keeps_before.ensures.asked c.in-Some.ensures.within in
    let it : IsJudged problem prefix (Refuted entry.certificate) =
    recalled problem path prefix entry c.in-Some.place _ c.inputs.ensures.well_formed c.requires.prefix h there (c.in-Some-of.ensures.remembered problem h.remembered) shorter c.in-Some-of.ensures.front (c.in-Some-of.ensures.last ∙ c.index.ensures) behind within (c.if-not-keeps_before.ensures.kept refl) in
    rw c.in_ok-copy-in-Some-of.ensures it
