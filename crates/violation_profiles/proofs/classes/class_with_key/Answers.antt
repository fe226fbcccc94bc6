use Rattle.std.proofs.Common.{sym, ◌∙◌, ap, arith}
use Rattle.std.specs.List.{list_any}
use Rattle.std.proofs.lemmas.List.{take_all}
use Rattle.ot_theory.specs.Problems.{same_profile}
use Rattle.violation_profiles.specs.declared.classes.Class.{Class}
use Rattle.violation_profiles.proofs.Keys.{position-at, position-none, none-more, other-key}
use Rattle.violation_profiles.proofs.classes.class_with_key.Goals as goal
use Rattle.violation_profiles.proofs.classes.class_with_key.Goals.{else-keys-a-via-then-keys-a+else-is_profile_of, else-keys-a-via-else-keys-a}

pub returns-then-is_profile_of-clause-class : goal.returns-then-is_profile_of-clause-class
returns-then-is_profile_of-clause-class c =
    sym (position-at (λ (class : Class). same_profile c.args.profile.now class.profile) c.args.classes.now c.loop-a.a c.index-classes-a.result c.loop-a.invariant (omega arith)
    (ap (λ (class : Class). same_profile c.args.profile.now class.profile) (sym c.index-classes-a.is) ∙ sym c.is_profile_of.ensures ∙ c.if-is_profile_of.true))

pub loop-a-preserved : goal.loop-a-preserved
loop-a-preserved c = elim c.else-keys-a.branch [
  | else-keys-a-via-then-keys-a+else-is_profile_of w ↦
      none-more (λ (class : Class). same_profile c.args.profile.now class.profile) c.args.classes.now c.loop-a.a w.index-classes-a.result c.loop-a.invariant (omega arith)
      (ap (λ (class : Class). same_profile c.args.profile.now class.profile) (sym w.index-classes-a.is) ∙ sym w.is_profile_of.ensures ∙ w.if-is_profile_of.false)
  | else-keys-a-via-else-keys-a w ↦
      other-key c.args.profile.now c.args.classes.now c.args.keys.now c.loop-a.a c.requires.keys (omega arith) (λ e. omega (arith, w.if-keys-a.false, e, c.requires.key)) c.loop-a.invariant
]

pub returns-clause-class : goal.returns-clause-class
returns-clause-class c =
    let passes = λ (class : Class). same_profile c.args.profile.now class.profile in
    sym (position-none passes c.args.classes.now (ap (list_any passes) (sym (take_all c.loop-a.a c.args.classes.now (omega arith))) ∙ c.loop-a.invariant))
