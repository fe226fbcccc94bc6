use Rattle.std.proofs.Common.{◌≡◌, map, [], sym, ◌∙◌}
use Rattle.std.proofs.lemmas.List.{get_or-map}
use Rattle.ot_theory.specs.Problems.{same_profile, winner_of}
use Rattle.ot_theory.proofs.Candidates.{winner_of-class}
use Rattle.violation_profiles.proofs.Found.{position-map}
use Rattle.violation_profiles.proofs.winner.winner_of.Goals as goal
use Rattle.violation_profiles.proofs.winner.winner_of.Goals.{After-class_of}

by_class : (c : After-class_of) → c.class_of.result ≡ winner_of (map (λ row. row.violations) c.args.candidates.now) (map (λ row. row.count) c.args.candidates.now)
by_class c =
    let rows = c.args.candidates.now in
    let row = c.index-candidates-k.result in
    let at = get_or-map (λ row. row.violations) rows c.in_ok-k.k row [] c.in_ok-k.ensures.within ∙ sym c.as_slice.ensures in
    let profiles = map (λ class. class.profile) c.args.classes.now in
    c.class_of.ensures.class
    ∙ sym (position-map (same_profile c.as_slice.result.now) (λ class. class.profile) c.args.classes.now)
    ∙ sym (winner_of-class (map (λ row. row.violations) rows) profiles (map (λ row. row.count) rows) c.as_slice.result.now c.in_ok-k.k (sym c.in_ok-k.ensures.winner) at c.requires.classes)

pub returns-in_err-class : goal.returns-in_err-class
returns-in_err-class c = c.from_residual-in_err-class.ensures ∙ sym c.in_err-class.was ∙ by_class (goal.at.returns-in_err-class c).After-class_of

pub returns : goal.returns
returns c = sym c.in_ok-class.was ∙ by_class (goal.at.returns c).After-class_of
