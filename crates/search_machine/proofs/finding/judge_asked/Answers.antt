-- Whether a ranking keeps what its classes ask decides whether a prefix is refuted.
use Rattle.std.proofs.Common.{◌≡◌, ◌∙◌, ℕ, List}
use Rattle.std.proofs.lemmas.Result.{IfOk-weaker}
use Rattle.ot_theory.specs.declared.Mark.{Mark}
use Rattle.ot_theory.specs.Hierarchies.{IsLeastHierarchy}
use Rattle.ot_theory.specs.Languages.{refuted, terms_of}
use Rattle.ot_theory.specs.Problems.{Problem}
use Rattle.ot_theory.specs.Refutations.{no_ranking_keeps}
use Rattle.violation_profiles.specs.WellFormed.{IsPrefix, IsWellFormed}
use Rattle.refutation.specs.Asked.{AreAsked}
use Rattle.refutation.specs.Findings.{AreJudged}
use Rattle.refutation.specs.Prefixes.{class_numbers}
use Rattle.refutation.specs.Terms.{terms_in}
use Rattle.refutation.specs.declared.judging.Finding.{Finding}
use Rattle.refutation.specs.declared.judging.Finding.TheVariants.{Holds, Refuted}
use Rattle.refutation.specs.declared.term.Term.{Term}
use Rattle.refutation.proofs.Asking.{asked-certificate, asked-genuine, asked-least, asked-one, asked-refuted}
use Rattle.refutation.proofs.TermsOfPrefixes.{certificate-refutes}
use Rattle.search_machine.specs.Findings.{IsJudged}
use Rattle.search_machine.proofs.finding.judge_asked.Goals as goal

-- what is found of the terms that the classes of a prefix ask is found of the prefix
judged-prefix : (problem : Problem) (prefix : List ℕ) (terms : List Term) (conditions : List (List Mark)) → IsWellFormed problem → IsPrefix problem prefix → AreAsked problem (terms_of problem prefix) terms conditions
    → (finding : Finding) → AreJudged problem (terms_in terms) finding → IsJudged problem prefix finding
judged-prefix problem prefix terms conditions well p h (Holds levels) judged =
    let held : no_ranking_keeps problem.constraints conditions ≡ _ = rw h.each judged.0 in
    let least : IsLeastHierarchy problem.constraints conditions levels = rw h.each judged.1 in
    (asked-refuted problem prefix terms conditions well p h ∙ held, asked-least problem prefix terms conditions levels h least)
judged-prefix problem prefix terms conditions well p h (Refuted core) judged =
    let hopeless : no_ranking_keeps problem.constraints conditions ≡ _ = rw h.each judged.0 in
    let gone : refuted problem prefix ≡ _ = asked-refuted problem prefix terms conditions well p h ∙ hopeless in
    let own = judged.1 ∙ asked-certificate problem prefix terms conditions well p h gone in
    (gone, own, judged.2, certificate-refutes problem prefix (terms_in core.terms) own)

pub judge_terms-requires-clause-genuine : goal.judge_terms-requires-clause-genuine
judge_terms-requires-clause-genuine c =
    rw c.as_slice.ensures.value (asked-genuine c.args.p.now (class_numbers c.args.prefix.now) c.args.asked.terms.items c.args.asked.conditions.items c.requires.prefix c.requires.asked)

pub judge_terms-requires-clause-one : goal.judge_terms-requires-clause-one
judge_terms-requires-clause-one c = rw c.as_slice.ensures.value (asked-one c.args.p.now (class_numbers c.args.prefix.now) c.args.asked.terms.items c.args.asked.conditions.items c.requires.asked)

pub returns : goal.returns
returns c =
    let problem = c.args.p.now in
    let prefix = class_numbers c.args.prefix.now in
    let terms = c.args.asked.terms.items in
    let judged = rw c.as_slice.ensures.value at c.judge_terms.ensures in
    IfOk-weaker c.judge_terms.result (AreJudged problem (terms_in terms)) (IsJudged problem prefix)
    (judged-prefix problem prefix terms c.args.asked.conditions.items c.inputs.ensures.well_formed c.requires.prefix c.requires.asked) judged
