use Rattle.refutation.specs.Typologies.{certificates_of, cuts_of, found_of}
use Rattle.search_deeds.specs.Gathered.{deeds_of}
use Rattle.search_deeds.proofs.FromDeeds.{gathered-certified, gathered-languages, gathered-refuted}
use Rattle.search_deeds.proofs.gathering.gather.Goals as goal

pub certified-requires-clause-prefixes : goal.certified-requires-clause-prefixes
certified-requires-clause-prefixes c = λ k d below.
    (gathered-refuted c.args.p.now (deeds_of c.args.all.now) c.in_ok-prefixes.prefixes.items c.inputs.ensures.well_formed c.requires.honest c.requires.balanced c.in_ok-prefixes.ensures.members c.in_ok-prefixes.ensures.sorted k d below).prefix

pub certified-requires-clause-refuted : goal.certified-requires-clause-refuted
certified-requires-clause-refuted c = λ k d below.
    (gathered-refuted c.args.p.now (deeds_of c.args.all.now) c.in_ok-prefixes.prefixes.items c.inputs.ensures.well_formed c.requires.honest c.requires.balanced c.in_ok-prefixes.ensures.members c.in_ok-prefixes.ensures.sorted k d below).hopeless

pub certified-requires-clause-shortest : goal.certified-requires-clause-shortest
certified-requires-clause-shortest c = λ k d below.
    (gathered-refuted c.args.p.now (deeds_of c.args.all.now) c.in_ok-prefixes.prefixes.items c.inputs.ensures.well_formed c.requires.honest c.requires.balanced c.in_ok-prefixes.ensures.members c.in_ok-prefixes.ensures.sorted k d below).shortest

pub returns-clause-languages : goal.returns-clause-languages
returns-clause-languages c =
    gathered-languages c.args.p.now (deeds_of c.args.all.now) (found_of c.in_ok-languages.languages) c.inputs.ensures.well_formed c.requires.honest c.requires.balanced c.in_ok-languages.ensures.members c.in_ok-languages.ensures.sorted

pub returns-clause-cuts : goal.returns-clause-cuts
returns-clause-cuts c =
    (gathered-certified c.args.p.now (deeds_of c.args.all.now) c.in_ok-prefixes.prefixes.items (cuts_of c.in_ok-cuts.cuts) (certificates_of c.in_ok-cuts.certificates)
    c.inputs.ensures.well_formed c.requires.honest c.requires.balanced c.in_ok-prefixes.ensures.members c.in_ok-prefixes.ensures.sorted c.in_ok-cuts.ensures.certified).cuts

pub returns-clause-certificates : goal.returns-clause-certificates
returns-clause-certificates c =
    (gathered-certified c.args.p.now (deeds_of c.args.all.now) c.in_ok-prefixes.prefixes.items (cuts_of c.in_ok-cuts.cuts) (certificates_of c.in_ok-cuts.certificates)
    c.inputs.ensures.well_formed c.requires.honest c.requires.balanced c.in_ok-prefixes.ensures.members c.in_ok-prefixes.ensures.sorted c.in_ok-cuts.ensures.certified).certificates
