use Rattle.std.proofs.Common.{◌≡◌, ℕ, ◌+◌, List, [], ◌∷◌, ◌++◌, length, take, take_all, map, flat_map, codes, decimal, arith, append_assoc, subst}
use Rattle.std.specs.List.{enumerate_from}
use Rattle.std.proofs.lemmas.List.{length-map}
use Rattle.ot_theory.specs.Languages as theory
use Rattle.refutation.specs.declared.contradiction.Contradiction.{Contradiction}
use Rattle.refutation.specs.declared.term.Term.{Term}
use Rattle.refutation.specs.Terms.{terms_in}
use Rattle.report_text.specs.Spelling.{line}
use Rattle.report_text.proofs.Grown.{numbered_parts_more}
use Rattle.report_text.proofs.typology.put_certificates.Invariants.{certificate_line}
use Rattle.report_text.proofs.typology.put_certificates.Goals as goal

abbrev shown : Contradiction → List theory.Term
shown certificate = terms_in certificate.terms

pub loop-k-preserved : goal.loop-k-preserved
loop-k-preserved c =
    let certificates = c.args.certificates.now in
    let k = c.loop-k.k in
    let certificate = c.index-certificates-k.result in
    let written : ℕ × List theory.Term → List ℕ = certificate_line c.args.p.now in
    let step : c.put_certificate.new.text ≡ c.loop-k.text ++ written (k + 1, shown certificate) =
    subst (λ (list : List Term). c.put_certificate.new.text ≡ c.loop-k.text ++ written (k + 1, terms_in list)) c.as_slice.ensures c.in_ok-put_certificate.ensures
    in
    rw (numbered_parts_more written shown certificates k certificate c.loop-k-test.true c.index-certificates-k.is, step, c.loop-k.invariant)
    (append_assoc c.count_line.new.self (flat_map written (enumerate_from 1 (take k (map shown certificates)))) (written (k + 1, shown certificate)))

pub returns : goal.returns
returns c =
    let certificates = c.args.certificates.now in
    let long = length-map certificates shown in
    let all = take_all c.loop-k.k (map shown certificates) (omega (arith, long, c.loop-k-test.false)) in
    rw (c.loop-k.invariant, all, c.in_ok-count_line.ensures, long)
    (append_assoc c.args.text.now (line (codes "certificates" ∷ decimal (length certificates) ∷ [])) (flat_map (certificate_line c.args.p.now) (enumerate_from 1 (map shown certificates))))
