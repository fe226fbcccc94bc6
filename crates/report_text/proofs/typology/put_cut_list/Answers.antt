use Rattle.std.proofs.Common.{◌≡◌, ℕ, ◌+◌, List, Some, ◌++◌, ap, sym, arith, length, take, min, ◌∙◌}
use Rattle.std.specs.Prelude.{slice_get}
use Rattle.std.proofs.lemmas.List.{take_min}
use Rattle.std.proofs.lemmas.Option.{get_or_from_slice_get, slice_get_within}
use Rattle.ot_base.specs.declared.tableau.ClassId.{ClassId}
use Rattle.refutation.specs.Prefixes.{class_numbers}
use Rattle.refutation.specs.declared.typology.Cut.{Cut}
use Rattle.cut_list.proofs.Steps.{before-more}
use Rattle.report_text.proofs.Kept.{written}
use Rattle.report_text.proofs.CutLines.{cut_line, line-more, shown}
use Rattle.report_text.proofs.typology.put_cut_list.Goals as goal
use Rattle.report_text.proofs.typology.put_cut_list.Goals.{In_ok-put_cut}

abbrev cut-of : In_ok-put_cut → Cut
cut-of c = record { prefix = class_numbers (take c.change-change.result.kept c.loop-k.prefix.items ++ c.change-change.result.own.now); certificate = c.change-change.result.certificate }

here : (c : In_ok-put_cut) → slice_get c.args.cuts.now c.loop-k.k ≡ Some (cut-of c)
here c = c.change-change.ensures c.loop-k.prefix.items c.loop-k.invariant.last

-- the classes that are kept of the cut before, and the others
classes : (c : In_ok-put_cut) → c.extend_from_slice.new.self.items ≡ take c.change-change.result.kept c.loop-k.prefix.items ++ c.change-change.result.own.now
classes c =
    let before = c.loop-k.prefix.items in
    let kept = c.change-change.result.kept in
    let long : c.len-in-loop-k.result ≡ length before = omega (arith, c.len-in-loop-k.ensures, c.loop-k.prefix.ok.0) in
    let front : c.min-front.result ≡ min kept (length before) = c.min-front.ensures ∙ ap (min kept) long in
    c.in_ok-extend_from_slice.ensures.items
    ∙ ap (λ (l : List ClassId). l ++ c.change-change.result.own.now) (c.truncate.ensures.items ∙ ap (λ (n : ℕ). take n before) front ∙ take_min kept before)

pub loop-k-preserved : goal.loop-k-preserved
loop-k-preserved c =
    let cuts = c.args.cuts.now in
    let k = c.loop-k.k in
    let line : c.put_cut.new.text ≡ c.loop-k.text ++ cut_line (k + 1, shown (cut-of c)) =
    c.in_ok-put_cut.ensures.written ∙ ap (λ (l : List ClassId). c.loop-k.text ++ cut_line (k + 1, (class_numbers l, (cut-of c).certificate))) (c.as_slice-in-loop-k.ensures.value ∙ classes c) in
    record {
      written = line-more c.count_line.new.self c.loop-k.text c.put_cut.new.text cuts k (cut-of c) (slice_get_within cuts k (cut-of c) (here c)) (sym (get_or_from_slice_get cuts k (cut-of c) (cut-of c) (here c))) c.loop-k.invariant.written line;
      kept = c.in_ok-put_cut.ensures.kept ∙ ap written c.as_slice-in-loop-k.ensures.value;
      last = ap class_numbers (classes c) ∙ sym (before-more cuts k (cut-of c) (here c));
    }
