use Rattle.std.proofs.Common.{◌∷◌, [], length, codes, decimal, flat_map, arith, append_assoc, take_all}
use Rattle.std.specs.List.{zip, enumerate_from}
use Rattle.std.proofs.lemmas.Slice.Zip.{length-zip}
use Rattle.report_text.specs.Spelling.{line}
use Rattle.report_text.proofs.Grown.{numbered_pairs_more}
use Rattle.report_text.proofs.bases.put_members.Invariants.{member_line}
use Rattle.report_text.proofs.bases.put_members.Goals as goal

pub loop-k-preserved : goal.loop-k-preserved
loop-k-preserved c =
    let e = numbered_pairs_more member_line c.args.informative.now c.args.skeletal.now c.loop-k.k c.index-informative-k.result c.index-skeletal-k.result
    (omega arith) (omega (arith, c.requires)) c.index-informative-k.is c.index-skeletal-k.is
    in
    rw (e, c.in_ok-put_member.ensures, c.loop-k.invariant) (simp append_assoc)

pub returns : goal.returns
returns c =
    let informative = c.args.informative.now in
    let pairs = zip informative c.args.skeletal.now in
    let all = take_all c.loop-k.k pairs (omega (arith, length-zip informative c.args.skeletal.now)) in
    rw (c.loop-k.invariant, c.in_ok-count_line.ensures, all)
    (append_assoc c.args.text.now (line (codes "members" ∷ decimal (length informative) ∷ [])) (flat_map member_line (enumerate_from 1 pairs)))
