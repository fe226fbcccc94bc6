use Rattle.std.proofs.Common.{◌≡◌, ℕ, List, [], ◌++◌, take, flat_map, length, map, slice_index, arith, append_assoc, subst}
use Rattle.std.specs.List.{enumerate_from}
use Rattle.ot_theory.specs.Languages.{classes_at, profile_at}
use Rattle.report_text.proofs.Grown.{counted_more}
use Rattle.report_text.proofs.tableaux.put_rows.Invariants.{row_line}
use Rattle.report_text.proofs.tableaux.put_rows.Goals as goal

pub loop-a-preserved : goal.loop-a-preserved
loop-a-preserved c =
    let classes = classes_at c.args.problem.now c.args.i.0 in
    let row : List ℕ → ℕ × List ℕ → List ℕ = row_line c.args.order.now c.args.winner.0 in
    let winning = profile_at c.args.problem.now c.args.i.0 c.args.winner.0 in
    let profile = c.profile-profile.result.now in
    let a = c.loop-a.a in
    let written = flat_map (row winning) (enumerate_from 0 (take a classes)) in
    let won = c.in_order-winning.ensures in
    let same = subst (λ (w : List ℕ). take (length c.args.order.now) c.in_order-winning.result ≡ map (slice_index w) c.args.order.now) c.profile.ensures.value won in
    let step : c.put_row.new.text ≡ c.loop-a.text ++ row winning (a, profile) = c.in_ok-put_row.ensures winning (rw c.width.ensures.width same) in
    rw (counted_more (row winning) classes a profile [] (omega arith) c.profile-profile.ensures.value, step, c.loop-a.invariant) (append_assoc c.args.text.now written (row winning (a, profile)))
