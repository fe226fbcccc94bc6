use Rattle.std.proofs.Common.{◌∙◌}
use Rattle.typology_core.proofs.Walking.{path-refuted, path-least, path-widths, some-weaker, none-weaker}
use Rattle.typology_core.proofs.walk.hierarchy_of.Goals as goal

pub least_hierarchy-requires-clause-widths : goal.least_hierarchy-requires-clause-widths
least_hierarchy-requires-clause-widths c = path-widths c.args.p.now c.args.path.now c.constraints.result c.as_slice.result.now c.requires c.constraints.ensures.value c.as_slice.ensures.value

pub returns : goal.returns
returns c = record {
  held = some-weaker c.least_hierarchy.result _ _ (λ levels h. path-refuted c.args.p.now c.args.path.now c.constraints.result c.as_slice.result.now c.constraints.ensures.well_formed c.requires c.constraints.ensures.value c.as_slice.ensures.value ∙ h.0) c.least_hierarchy.ensures.ranked;
  least = some-weaker c.least_hierarchy.result _ _ (λ levels h. path-least c.args.p.now c.args.path.now c.constraints.result c.as_slice.result.now levels c.requires c.constraints.ensures.value c.as_slice.ensures.value h.1) c.least_hierarchy.ensures.ranked;
  refuted = none-weaker c.least_hierarchy.result (λ h. path-refuted c.args.p.now c.args.path.now c.constraints.result c.as_slice.result.now c.constraints.ensures.well_formed c.requires c.constraints.ensures.value c.as_slice.ensures.value ∙ h) c.least_hierarchy.ensures.stuck;
}
