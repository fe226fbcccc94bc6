use Rattle.std.proofs.Common.{rules, ◌≡◌, ◌-◌, arith, length}
use Rattle.std.proofs.lemmas.List.{length-map}
use Rattle.ot_base.specs.declared.tableau.ClassId.{ClassId}
use Rattle.ot_theory.specs.Languages.{classes_at}
use Rattle.typology_core.specs.Walked.{IsDone, IsEntered, prefix_of}
use Rattle.typology_core.proofs.Walking.{back-from, below-children, done-more, entered-more, same-path, same-trans}
use Rattle.typology_core.proofs.walk.+visit.Goals as goal
use Rattle.typology_core.proofs.walk.+visit.Goals.{in-Some+in_ok-visit, in_default}

pub loop-a-preserved : goal.loop-a-preserved
loop-a-preserved t c =
    let problem = c.args.p.now in
    let start = c.args.path.now in
    let same = c.loop-a.invariant.path in
    let a = c.loop-a.a in
    elim c.match-branch-2.branch [
      | in-Some+in_ok-visit w ↦
          let entered : IsEntered problem a c.loop-a.path c.enter.new.path c.loop-a.found c.enter.new.found = search rules in
          rw (w.path-is, w.found-is, w.ready-is) (record {
            made = w.in_ok-visit.ensures.made;
            sound = w.in_ok-visit.ensures.found;
            path = back-from problem start c.loop-a.path c.enter.new.path w.visit.new.path w.leave.new.path c.len.result c.len-terms.result (same-path problem start c.loop-a.path c.requires.path same) same
                entered.classes entered.terms entered.conditions w.in_ok-visit.ensures.path (omega (arith, c.len.ensures, start.classes.ok.0)) (omega (arith, c.len-terms.ensures, c.loop-a.path.asked.terms.ok.0)) w.leave.ensures.classes w.leave.ensures.terms w.leave.ensures.conditions;
            grown = λ n count. entered-more problem n a start c.loop-a.path c.enter.new.path c.args.found.now c.loop-a.found c.enter.new.found w.visit.new.found same entered count w.in_ok-visit.ensures.more (c.loop-a.invariant.grown n count);
          })
      | in_default w ↦
          let done : IsDone problem a c.loop-a.path c.enter.new.path c.loop-a.found c.enter.new.found = search rules in
          rw (w.path-is, w.found-is, w.ready-is) (record {
            made = c.in_ok-lower.ensures.made;
            sound = done.sound;
            path = same-trans start c.loop-a.path c.enter.new.path same done.stays;
            grown = λ n count. done-more problem n a start c.loop-a.path c.enter.new.path c.args.found.now c.loop-a.found c.enter.new.found same done count (c.loop-a.invariant.grown n count);
          })
    ]

pub returns-clause-more : goal.returns-clause-more
returns-clause-more t c n count =
    let path = c.args.path.now in
    let long : length (prefix_of path) ≡ length path.classes.items = length-map path.classes.items (λ (d : ClassId). d.0) in
    let at : length (prefix_of path) ≡ c.len.result = omega (arith, long, c.len.ensures, path.classes.ok.0) in
    let all : c.loop-a.a ≡ length (classes_at c.args.p.now (length (prefix_of path))) = rw at (omega (arith, c.loop-a-test.false, c.loop-a.auto.a-end, c.classes-a-end.ensures.value)) in
    below-children c.args.p.now n (n - 1) c.loop-a.a (prefix_of path) c.args.found.now c.loop-a.found (omega (arith, count, c.requires.shorter)) c.requires.held all (c.loop-a.invariant.grown (n - 1) (omega (arith, count, c.requires.shorter)))
