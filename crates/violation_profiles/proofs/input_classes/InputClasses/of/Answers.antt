use Rattle.std.proofs.Common.{arith, map, ap, length}
use Rattle.std.proofs.lemmas.List.{length-map}
use Rattle.ot_theory.proofs.Candidates.{length-classes_of}
use Rattle.violation_profiles.proofs.input_classes.InputClasses.of.Goals as goal

pub winner_of-winner-requires-clause-few : goal.winner_of-winner-requires-clause-few
winner_of-winner-requires-clause-few c =
    let rows = c.as_slice-candidates.result.now in
    let profiles = map (λ row. row.violations) rows in
    let items = c.in_ok-classes.classes.items in
    let candidates = ap length c.as_slice-candidates.ensures in
    let distinct = ap length c.in_ok-classes.ensures.classes.distinct in
    omega (arith, ap length c.as_slice.ensures.value, length-map items (λ class. class.profile), distinct, length-classes_of profiles, length-map rows (λ row. row.violations), candidates, c.requires.few)
