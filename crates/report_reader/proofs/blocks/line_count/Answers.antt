use Rattle.std.proofs.Common.{ℕ, ◌==◌, sym, arith, take_all}
use Rattle.std.proofs.lemmas.List.Splits.{length-slice_split}
use Rattle.report_reader.proofs.blocks.line_count.Goals as goal

pub returns-clause-count : goal.returns-clause-count
returns-clause-count c =
    let bytes = c.args.bytes.now in
    rw (c.loop-b.invariant.count, take_all c.loop-b.b-index bytes (omega arith)) (sym (length-slice_split (λ (b : ℕ). b == 10) bytes))
