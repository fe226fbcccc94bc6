use Rattle.std.proofs.Common.{◌∙◌, sym}
use Rattle.std.specs.Prelude.{is_none}
use Rattle.tableau_file.specs.Faults.{fault}
use Rattle.tableau_file.specs.Given.{constraint_named}
use Rattle.tableau_file.specs.Rows.{is_empty}
use Rattle.tableau_file.specs.declared.given.GivenWhy.TheVariants.{MissingName, UnknownName}
use Rattle.tableau_file.proofs.FirstFault.{first-fault}
use Rattle.tableau_file.proofs.given.constraint_named.Goals as goal

pub returns-then-is_empty-clause-faults : goal.returns-then-is_empty-clause-faults
returns-then-is_empty-clause-faults c =
    let text = c.args.text.now in
    first-fault (is_empty text) MissingName (fault (is_none (constraint_named c.args.t.now text)) UnknownName) (sym c.is_empty.ensures ∙ c.if-is_empty.true)
