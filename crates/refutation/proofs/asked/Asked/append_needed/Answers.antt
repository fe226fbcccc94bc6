use Rattle.std.proofs.Common.{◌<◌, arith, length}
use Rattle.std.proofs.lemmas.List.{get_or_read}
use Rattle.refutation.proofs.Implied.{asked-all, asked-needed, asked-spared, no_term, Begins-push}
use Rattle.refutation.proofs.asked.Asked.append_needed.Goals as goal
use Rattle.refutation.proofs.asked.Asked.append_needed.Goals.{then-not-is_implied+in_ok-keep, else-not-is_implied}

pub loop-k-preserved : goal.loop-k-preserved
loop-k-preserved c =
    let these = c.args.other.now.terms.items in
    let those = c.args.other.now.conditions.items in
    let k = c.loop-k.k in
    let below : k < length those = omega (arith, c.loop-k-test.true, c.min-k-end.ensures, c.len.ensures, c.len-2.ensures, c.args.other.now.conditions.ok.0) in
    let here = get_or_read those k c.index.result.now below c.index.ensures c.index.result.now in
    elim c.if-not-is_implied.branch [
      | then-not-is_implied+in_ok-keep w ↦
          let within : k < length these = omega (arith, c.loop-k-test.true, c.min-k-end.ensures, c.len.ensures, c.len-2.ensures, c.args.other.now.terms.ok.0) in
          let term = get_or_read these k w.index-then-not-is_implied.result.now within w.index-then-not-is_implied.ensures w.index-then-not-is_implied.result.now in
          rw w.self-is (record {
            asked = λ problem whole others asked other. asked-needed problem whole others these c.loop-k.self.terms.items w.keep.new.self.terms.items those c.loop-k.self.conditions.items w.keep.new.self.conditions.items k w.index-then-not-is_implied.result.now c.index.result.now
                other below term here w.in_ok-keep.ensures.terms w.in_ok-keep.ensures.conditions (c.loop-k.invariant.asked problem whole others asked other);
            terms = Begins-push _ _ _ _ c.loop-k.invariant.terms w.in_ok-keep.ensures.terms;
            conditions = Begins-push _ _ _ _ c.loop-k.invariant.conditions w.in_ok-keep.ensures.conditions;
          })
      | else-not-is_implied w ↦ rw w.self-is (record {
        asked = λ problem whole others asked other. asked-spared problem whole others these c.loop-k.self.terms.items those c.loop-k.self.conditions.items k no_term c.index.result.now
            other below here (rw c.as_slice.ensures.value at (c.is_implied.ensures w.if-not-is_implied.false)) (c.loop-k.invariant.asked problem whole others asked other);
        terms = c.loop-k.invariant.terms;
        conditions = c.loop-k.invariant.conditions;
      })
    ]

pub returns-clause-asked : goal.returns-clause-asked
returns-clause-asked c problem whole others asked other =
    asked-all problem whole others c.args.other.now.terms.items c.loop-k.self.terms.items c.args.other.now.conditions.items c.loop-k.self.conditions.items c.loop-k.k other
    (omega (arith, c.loop-k-test.false, c.min-k-end.ensures, c.len.ensures, c.len-2.ensures, c.args.other.now.terms.ok.0, c.args.other.now.conditions.ok.0)) (c.loop-k.invariant.asked problem whole others asked other)
