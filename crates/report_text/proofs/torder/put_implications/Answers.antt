use Rattle.std.proofs.Common.{[], ◌∷◌, length, codes, decimal, flat_map, arith, append_assoc, take_all}
use Rattle.refutation.specs.declared.implication.Implication.{Implication}
use Rattle.report_text.specs.Listings.{implication_line}
use Rattle.report_text.specs.Spelling.{line}
use Rattle.report_text.proofs.Grown.{each_more}
use Rattle.report_text.proofs.torder.put_implications.Goals as goal

abbrev none : Implication
none = record { from_input = record { 0 = 0 }; from_class = record { 0 = 0 }; to_input = record { 0 = 0 }; to_class = record { 0 = 0 } }

pub loop-implication-preserved : goal.loop-implication-preserved
loop-implication-preserved c =
    rw (each_more implication_line c.args.implications.now c.loop-implication.implication-index none c.loop-implication-test.true, c.in_ok-put_implication.ensures, c.loop-implication.invariant)
    (append_assoc c.count_line.new.self _ _)

pub returns : goal.returns
returns c =
    let implications = c.args.implications.now in
    let all = take_all c.loop-implication.implication-index implications (omega (arith, c.loop-implication-test.false)) in
    rw (c.loop-implication.invariant, c.in_ok-count_line.ensures, all)
    (append_assoc c.args.text.now (line (codes "implications" ∷ decimal (length implications) ∷ [])) (flat_map implication_line implications))
