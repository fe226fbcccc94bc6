-- The walk from the empty prefix finds all.
use Rattle.typology_core.proofs.Walking.{path-start}
use Rattle.typology_core.proofs.Whole.{IsWhole, walk-whole}
use Rattle.typology_core.proofs.search.typology_of.Goals as goal
use Rattle.typology_core.proofs.search.typology_of.Goals.{After-drop-ready-4}

pub walk-requires-clause-path : goal.walk-requires-clause-path
walk-requires-clause-path c = path-start c.args.p.now c.in_ok-path.path c.in_ok-path.ensures.classes c.in_ok-path.ensures.asked

whole : (c : After-drop-ready-4) → IsWhole c.args.p.now c.walk.new.found
whole c =
    walk-whole c.args.p.now c.in_ok-path.path.classes.items c.in_ok-found.found c.walk.new.found c.in_ok-path.ensures.classes c.in_ok-found.ensures.cuts c.in_ok-found.ensures.languages c.in_ok-walk.ensures.found c.in_ok-walk.ensures.more

pub returns-clause-languages : goal.returns-clause-languages
returns-clause-languages c = (whole c).typology

pub returns-clause-cuts : goal.returns-clause-cuts
returns-clause-cuts c = (whole c).certified.cuts

pub returns-clause-certificates : goal.returns-clause-certificates
returns-clause-certificates c = (whole c).certified.certificates

pub returns-clause-named : goal.returns-clause-named
returns-clause-named c = (whole c).named
