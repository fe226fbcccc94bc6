use Rattle.std.proofs.Common.{◌∙◌, ap, arith, length}
use Rattle.refutation.specs.Typologies.{cuts_of, found_of}
use Rattle.typology_core.proofs.Holding.{certificates-long, languages-long, learns-told, named-listed}
use Rattle.typology_core.proofs.search.search_alone.Goals as goal

pub returns-clause-cuts : goal.returns-clause-cuts
returns-clause-cuts c = ap cuts_of c.in_ok-cuts.ensures ∙ c.in_ok-found.ensures.cuts

pub returns-clause-named : goal.returns-clause-named
returns-clause-named c = rw (c.in_ok-cuts.ensures) c.in_ok-found.ensures.named

pub learns-requires-clause-cuts : goal.learns-requires-clause-cuts
learns-requires-clause-cuts c = ap cuts_of (c.as_slice.ensures ∙ c.in_ok-cuts.ensures) ∙ c.in_ok-found.ensures.cuts

pub learns-requires-clause-certificates : goal.learns-requires-clause-certificates
learns-requires-clause-certificates c = c.len-2.ensures ∙ certificates-long c.args.p.now c.in_ok-found.found.certificates c.in_ok-found.ensures.certificates

pub learns-requires-clause-named : goal.learns-requires-clause-named
learns-requires-clause-named c = named-listed c.as_slice.result.now c.in_ok-found.found.cuts c.len-2.result (length c.in_ok-found.found.certificates) (c.as_slice.ensures ∙ c.in_ok-cuts.ensures) c.len-2.ensures c.in_ok-found.ensures.named

pub learns-requires-clause-few : goal.learns-requires-clause-few
learns-requires-clause-few c = let long = languages-long c.args.p.now c.in_ok-found.found.languages c.in_ok-found.ensures.languages in omega (arith, long, c.len.ensures, c.len.type_inv)

pub returns-clause-learns : goal.returns-clause-learns
returns-clause-learns c = learns-told c.args.p.now c.args.places c.in_ok-learns.learns (found_of c.in_ok-found.found.languages) c.inputs.ensures.well_formed c.in_ok-found.ensures.languages c.in_ok-learns.ensures
