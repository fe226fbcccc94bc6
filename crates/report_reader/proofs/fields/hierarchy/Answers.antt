use Rattle.std.proofs.Common.{ℕ, List, ap, ◌∙◌}
use Rattle.std.proofs.lemmas.List.{take-replicate}
use Rattle.erc_vectors.specs.declared.condition.TheConstants.{LIMIT}
use Rattle.report_reader.specs.Fields.{words, strata_of}
use Rattle.report_reader.proofs.fields.hierarchy.Goals as goal

pub returns : goal.returns
returns c = c.ranked.ensures ∙ ap (λ (levels : List ℕ). strata_of levels 1 0 (words c.args.field.now)) (take-replicate c.args.n LIMIT 0 c.requires)
