use Rattle.std.proofs.Common.{◌∙◌}
use Rattle.tab_cells.proofs.PairedQuotes.{has_pair-found}
use Rattle.tab_cells.proofs.texts.has_pair.Goals as goal

pub returns : goal.returns
returns c = c.is_some.ensures ∙ has_pair-found c.args.text.now c.find.result c.find.ensures
