use Rattle.std.proofs.Common.{◌≡◌, [], ◌∷◌, length, codes, decimal, flat_map, get_or, arith, sym, append_assoc, take_all}
use Rattle.std.specs.List.{enumerate_from}
use Rattle.std.proofs.lemmas.List.{get_or-map, length-map}
use Rattle.ot_base.specs.Tableaus.{pair_of, pairs_in}
use Rattle.ot_base.specs.declared.tableau.Pair.{Pair}
use Rattle.report_text.specs.Spelling.{line}
use Rattle.report_text.proofs.Grown.{numbered_more}
use Rattle.report_text.proofs.head.put_pairs.Invariants.{pair_line}
use Rattle.report_text.proofs.head.put_pairs.Goals as goal

abbrev none : Pair
none = record { above = record { 0 = 0 }; below = record { 0 = 0 } }

pub loop-k-preserved : goal.loop-k-preserved
loop-k-preserved c =
    let pairs = c.args.pairs.now in
    let k = c.loop-k.k in
    let long = length-map pairs pair_of in
    let e = numbered_more pair_line (pairs_in pairs) k (pair_of (get_or pairs k none)) (pair_of none) (omega (arith, c.loop-k-test.true)) (sym (get_or-map pair_of pairs k none (pair_of none) c.loop-k-test.true)) in
    rw (e, c.in_ok-put_pair.ensures, c.loop-k.invariant) (append_assoc c.count_line.new.self _ _)

pub returns : goal.returns
returns c =
    let pairs = c.args.pairs.now in
    let long : length (pairs_in pairs) ≡ length pairs = length-map pairs pair_of in
    let all = take_all c.loop-k.k (pairs_in pairs) (omega (arith, c.loop-k-test.false)) in
    rw (c.loop-k.invariant, c.in_ok-count_line.ensures, all, long)
    (append_assoc c.args.text.now (line (codes "givens" ∷ decimal (length pairs) ∷ [])) (flat_map pair_line (enumerate_from 1 (pairs_in pairs))))
