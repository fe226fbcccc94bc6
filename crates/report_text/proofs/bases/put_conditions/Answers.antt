use Rattle.std.proofs.Common.{[], ◌∷◌, length, get_or, codes, decimal, flat_map, take_all, arith, append_assoc, sym}
use Rattle.std.specs.List.{enumerate_from}
use Rattle.std.proofs.lemmas.List.{length-map, get_or-map}
use Rattle.refutation.specs.declared.term.Term.{Term}
use Rattle.refutation.specs.declared.term.Term.TheVariants.{Loser}
use Rattle.refutation.specs.Terms.{term_of, terms_in}
use Rattle.report_text.specs.Spelling.{line}
use Rattle.report_text.proofs.Grown.{numbered_more}
use Rattle.report_text.proofs.bases.put_conditions.Invariants.{condition_line}
use Rattle.report_text.proofs.bases.put_conditions.Goals as goal

abbrev none : Term
none = Loser (record { 0 = 0 }) (record { 0 = 0 }) (record { 0 = 0 })

pub loop-k-preserved : goal.loop-k-preserved
loop-k-preserved c =
    let list = c.args.terms.now in
    let k = c.loop-k.k in
    let more = numbered_more (condition_line c.args.p.now) (terms_in list) k (term_of (get_or list k none)) (term_of none)
    (omega (arith, length-map list term_of, c.loop-k-test.true)) (sym (get_or-map term_of list k none (term_of none) c.loop-k-test.true))
    in
    rw (more, c.in_ok-put_condition.ensures, c.loop-k.invariant) (simp append_assoc)

pub returns : goal.returns
returns c =
    let list = c.args.terms.now in
    let long = length-map list term_of in
    let all = take_all c.loop-k.k (terms_in list) (omega (arith, long, c.loop-k-test.false)) in
    rw (c.loop-k.invariant, all, c.in_ok-count_line.ensures, long)
    (append_assoc c.args.text.now (line (codes "conditions" ∷ decimal (length list) ∷ [])) (flat_map (condition_line c.args.p.now) (enumerate_from 1 (terms_in list))))
