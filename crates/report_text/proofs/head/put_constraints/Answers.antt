use Rattle.std.proofs.Common.{◌∷◌, [], length, codes, decimal, flat_map, arith, append_assoc, take_all, ap}
use Rattle.std.specs.List.{zip, enumerate_from}
use Rattle.std.proofs.lemmas.Slice.Zip.{length-zip}
use Rattle.report_text.specs.Spelling.{line}
use Rattle.report_text.proofs.Grown.{numbered_pairs_more}
use Rattle.report_text.proofs.head.put_constraints.Invariants.{constraint_line}
use Rattle.report_text.proofs.head.put_constraints.Goals as goal

pub loop-k-preserved : goal.loop-k-preserved
loop-k-preserved c =
    let e = numbered_pairs_more constraint_line c.as_slice-abbreviations.result.now c.as_slice-names.result.now c.loop-k.k c.index-abbreviations-k.result c.index-names-k.result
    (omega arith) (omega arith) c.index-abbreviations-k.is c.index-names-k.is
    in
    rw (e, c.in_ok-put_constraint.ensures, c.loop-k.invariant) (simp append_assoc)

pub returns : goal.returns
returns c =
    let t = c.args.tableau.now in
    let pairs = zip t.abbrevs t.names in
    let all = take_all c.loop-k.k pairs (omega (arith, length-zip t.abbrevs t.names, ap length c.as_slice-abbreviations.ensures, ap length c.as_slice-names.ensures)) in
    rw (c.loop-k.invariant, c.in_ok-count_line.ensures, c.as_slice-abbreviations.ensures, c.as_slice-names.ensures, all)
    (append_assoc c.args.text.now (line (codes "constraints" ∷ decimal (length t.names) ∷ [])) (flat_map constraint_line (enumerate_from 1 pairs)))
