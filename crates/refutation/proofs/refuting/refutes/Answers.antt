use Rattle.std.proofs.Common.{◌∙◌, sym}
use Rattle.std.proofs.lemmas.List.Folds.{list_all-map}
use Rattle.refutation.specs.Prefixes.{class_numbers, is_made}
use Rattle.refutation.specs.Terms.{term_of}
use Rattle.refutation.proofs.refuting.refutes.Goals as goal

pub returns : goal.returns
returns c = rw c.as_slice.ensures at c.makes_each.ensures ∙ sym (list_all-map (is_made (class_numbers c.args.prefix.now)) term_of c.args.c.now.terms)
