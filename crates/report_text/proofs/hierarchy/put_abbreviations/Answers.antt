use Rattle.std.proofs.Common.{◌≡◌, ℕ, List, [], ◌∷◌, get_or, arith, append_assoc, append-nil, ◌∙◌}
use Rattle.std.proofs.lemmas.List.{get_or_default}
use Rattle.std.specs.Prelude.{slice_index_or}
use Rattle.std.proofs.lemmas.Bool.{eq-eqb, ne_eqb}
use Rattle.report_text.proofs.Grown.{fields, fields-push}
use Rattle.report_text.proofs.Spaced.{stratum_below, stratum_below-push}
use Rattle.report_text.proofs.hierarchy.put_abbreviations.Goals as goal
use Rattle.report_text.proofs.hierarchy.put_abbreviations.Goals.{then-level+in_ok-field, else-level}

pub loop-c-preserved : goal.loop-c-preserved
loop-c-preserved c =
    let levels = c.args.strata.now in
    let s = c.args.level in
    let k = c.loop-c.c in
    let more = stratum_below-push levels s k in
    let field : ℕ → List ℕ = λ d. slice_index_or c.args.abbreviations.now d [] in
    elim c.if-level.branch [
      | then-level+in_ok-field w ↦
          let here : get_or levels k 0 ≡ s = cc in
          let text : w.bytes.result.now ≡ field k =
          w.bytes.ensures ∙ (w.index-abbreviations-c.is ∙ get_or_default c.args.abbreviations.now k w.index-abbreviations-c.result [] (omega (arith, c.requires)))
          in
          rw (more, eq-eqb (get_or levels k 0) s here, fields-push field (stratum_below levels s k) k, w.text-is, w.in_ok-field.ensures, c.loop-c.invariant, text) (append_assoc c.args.text.now (fields field (stratum_below levels s k)) (9 ∷ field k))
      | else-level w ↦
          let other : get_or levels k 0 ≡ s → ⊥ = rw c.level.ensures at w.if-level.false in
          rw (more, ne_eqb (get_or levels k 0) s other, append-nil, w.text-is) c.loop-c.invariant
    ]
