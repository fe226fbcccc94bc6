use Rattle.std.proofs.Common.{◌≡◌, ◌≤◌, ◌+◌, ◌++◌, ◌==◌, cond, ℕ, List, [], take, codes, arith, ap, sym, append_assoc, append-nil, ◌∙◌}
use Rattle.std.specs.List.{join_by, range_with_len}
use Rattle.report_text.specs.Spelling.{spaced, stratum}
use Rattle.report_text.proofs.Spaced.{strata_more}
use Rattle.report_text.proofs.hierarchy.put_hierarchy.Goals as goal
use Rattle.report_text.proofs.hierarchy.put_hierarchy.Goals.{then-end+in_ok-put, else-end}

pub loop-above-preserved : goal.loop-above-preserved
loop-above-preserved c =
    let above = c.loop-above.above in
    let one : ℕ → List ℕ = λ s. spaced (stratum c.args.strata.now s) in
    let bytes : List ℕ = c.loop-above.bytes in
    let written : List ℕ = join_by one (codes " | ") (range_with_len 1 above) in
    let room : c.if-end.end ≤ 256 = elim c.if-end.branch [
      | then-end+in_ok-put w ↦ rw w.end-is (omega arith)
      | else-end w ↦ rw w.end-is (omega (arith, w.if-end.false))
    ] in
    let so_far : c.if-end.text ++ take c.if-end.end bytes ≡ c.args.text.now ++ written = elim c.if-end.branch [
      | then-end+in_ok-put w ↦ rw (w.text-is, w.end-is) (append-nil w.put.new.self ∙ w.in_ok-put.ensures ∙ c.loop-above.invariant.2)
      | else-end w ↦ rw (w.text-is, w.end-is) c.loop-above.invariant.2
    ] in
    let bar : List ℕ = cond (above == 0) [] (codes " | ") in
    let last : List ℕ = one (above + 1) in (
      c.stratum_at-end.ensures.long ∙ c.bar_at-start.ensures.long ∙ c.loop-above.invariant.0,
      omega (arith, c.stratum_at-end.ensures.ends, c.bar_at-start.ensures.ends, room),
      ap (λ (l : List ℕ). c.if-end.text ++ l) (c.stratum_at-end.ensures.written ∙ ap (λ (l : List ℕ). l ++ last) c.bar_at-start.ensures.written ∙ append_assoc (take c.if-end.end bytes) bar last)
          ∙ sym (append_assoc c.if-end.text (take c.if-end.end bytes) (bar ++ last))
          ∙ ap (λ (l : List ℕ). l ++ (bar ++ last)) so_far
          ∙ append_assoc c.args.text.now written (bar ++ last)
          ∙ ap (λ (l : List ℕ). c.args.text.now ++ l) (sym (strata_more one (codes " | ") above)),
    )
