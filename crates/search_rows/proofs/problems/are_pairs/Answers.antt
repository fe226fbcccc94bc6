use Rattle.std.proofs.Common.{rules}
use Rattle.std.proofs.lemmas.List.Elements.{All-map}
use Rattle.ot_theory.specs.Problems.{IsPair}
use Rattle.ot_base.specs.Tableaus.{pair_of}
use Rattle.search_rows.proofs.problems.are_pairs.Goals as goal

pub returns : goal.returns
returns c = λ holds. All-map (IsPair c.args.width) pair_of c.args.pairs.now (search rules)
