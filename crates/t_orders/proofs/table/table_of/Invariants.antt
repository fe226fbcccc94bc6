-- the table of the languages so far
use Rattle.std.proofs.Common.{length, take}
use Rattle.ot_theory.specs.Languages.{classes_at}
use Rattle.t_orders.specs.Implications.{choices_of}
use Rattle.t_orders.specs.Rows.{IsTableOf}
use Rattle.t_orders.proofs.table.table_of.Given as goal

abbrev pub invariant-loop-language : goal.invariant-loop-language
invariant-loop-language l = IsTableOf (take l.language-index (choices_of l.languages)) l.input.0 (length (classes_at l.p l.input.0)) (length l.p.inputs) l.table.items
