use Rattle.std.proofs.Common.{◌≡◌, ℕ, ◌+◌, ◌<◌, List, [], ◌∷◌, ◌++◌, length, get_or, take, cond, eqb, arith, append_assoc}
use Rattle.std.proofs.lemmas.List.{length-map, get_or-map}
use Rattle.refutation.specs.declared.term.Term.{Term}
use Rattle.refutation.specs.declared.term.Term.TheVariants.{Loser}
use Rattle.refutation.specs.Terms.{term_of, terms_in}
use Rattle.report_text.specs.Spelling.{term, terms}
use Rattle.report_text.proofs.Spaced.{joined_more}
use Rattle.report_text.proofs.terms.put_terms.Goals as goal

abbrev none : Term
none = Loser (record { 0 = 0 }) (record { 0 = 0 }) (record { 0 = 0 })

-- the terms that are written, and one more
next_term : (list : List Term) (k : ℕ) → k < length list → terms (take (k + 1) (terms_in list)) ≡ terms (take k (terms_in list)) ++ (cond (eqb k 0) [] (32 ∷ []) ++ term (term_of (get_or list k none)))
next_term list k below =
    let here : get_or (terms_in list) k (term_of none) ≡ term_of (get_or list k none) = get_or-map term_of list k none (term_of none) below in
    rw (← here) (joined_more 32 term (terms_in list) k (term_of none) (omega (arith, length-map list term_of)))

apart : (text before separator last : List ℕ) → ((text ++ before) ++ separator) ++ last ≡ text ++ (before ++ (separator ++ last))
apart text before separator last = simp append_assoc

pub loop-k-preserved : goal.loop-k-preserved
loop-k-preserved c =
    let list = c.args.terms.now in
    let k = c.loop-k.k in
    rw (next_term list k c.loop-k-test.true, c.in_ok-put_term.ensures, c.in_ok-separator.ensures, c.loop-k.invariant)
    (apart c.args.text.now (terms (take k (terms_in list))) (cond (eqb k 0) [] (32 ∷ [])) (term (term_of (get_or list k none))))
