use Rattle.std.proofs.Common.{◌≡◌, ◌-◌, ap, subst, ◌∙◌}
use Rattle.tableau_file.specs.declared.Why.TheVariants.{TooManyConstraints}
use Rattle.tableau_file.specs.Rows.{texts_of}
use Rattle.tableau_file.specs.Faults.{columns_used, name_faults, IsFirst}
use Rattle.tableau_file.proofs.Names.{too_many}
use Rattle.tableau_file.proofs.header.read_names.Goals as goal

pub returns-then-n-gt-LIMIT-clause-fault : goal.returns-then-n-gt-LIMIT-clause-fault
returns-then-n-gt-LIMIT-clause-fault c why is =
    let texts = texts_of c.args.line.now in
    let n = c.saturating_sub-n.ensures ∙ ap (λ used. used - 3) c.columns_used.ensures in
    let same : TooManyConstraints ≡ why = cc in
    subst (λ why. IsFirst why (name_faults (columns_used texts - 3) texts)) same
    (subst (λ n. IsFirst TooManyConstraints (name_faults n texts)) n (too_many c.saturating_sub-n.result texts c.if-n-gt-LIMIT.true))
