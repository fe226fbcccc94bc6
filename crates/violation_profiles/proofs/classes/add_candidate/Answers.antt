use Rattle.std.proofs.Common.{sym, ◌∙◌, ap, ◌∷◌, [], ◌++◌, refl, ℕ, map}
use Rattle.std.specs.Prelude.{position}
use Rattle.std.proofs.lemmas.Result.{on_ok_weaker}
use Rattle.ot_theory.specs.Problems.{same_profile}
use Rattle.violation_profiles.specs.declared.classes.Class.{Class}
use Rattle.violation_profiles.specs.Classes.{key_of}
use Rattle.violation_profiles.specs.Planes.{key_in}
use Rattle.std.proofs.Math.Seq.{map-set_same}
use Rattle.violation_profiles.proofs.Keys.{keys-new}
use Rattle.violation_profiles.proofs.Joined.{AreClassesOf-joined, AreClassesOf-new}
use Rattle.violation_profiles.proofs.classes.add_candidate.Goals as goal

pub returns-in-Some-clause-classes : goal.returns-in-Some-clause-classes
returns-in-Some-clause-classes c =
    on_ok_weaker c.push.result
    (λ pushed profiles long are.
    AreClassesOf-joined profiles c.args.profile.now c.args.classes.now.items c.in-Some.a c.index_mut.result.now _ are
    (ap (position (λ (class : Class). same_profile c.args.profile.now class.profile)) (sym c.as_slice.ensures.value) ∙ sym c.in-Some.ensures.class) c.index_mut.ensures.value refl
    (pushed ∙ ap (λ (k : ℕ). c.index_mut.result.now.members ++ k ∷ []) (sym long)))
    c.push.ensures.ok

pub returns-in_ok-push-in-None-clause-classes : goal.returns-in_ok-push-in-None-clause-classes
returns-in_ok-push-in-None-clause-classes c =
    on_ok_weaker c.add_class.result
    (λ added profiles long are.
    AreClassesOf-new profiles c.args.profile.now c.args.classes.now.items c.add_class.new.classes.items are
    (ap (position (λ (class : Class). same_profile c.args.profile.now class.profile)) (sym c.as_slice.ensures.value) ∙ sym c.in-None.ensures.class) added.0
    (added.1 ∙ ap (λ (k : ℕ). map (λ (class : Class). class.members) c.args.classes.now.items ++ (k ∷ []) ∷ []) (sym long)))
    c.add_class.ensures.class

pub returns-in-Some-clause-keys : goal.returns-in-Some-clause-keys
returns-in-Some-clause-keys c =
    let key = λ (class : Class). key_of class.profile in
    on_ok_weaker c.push.result
    (λ pushed. c.requires.keys ∙ sym (map-set_same key c.args.classes.now.items c.in-Some.a _ c.index_mut.result.now (ap key c.index_mut.ensures.value)))
    c.push.ensures.ok

pub returns-in_ok-push-in-None-clause-keys : goal.returns-in_ok-push-in-None-clause-keys
returns-in_ok-push-in-None-clause-keys c =
    on_ok_weaker c.add_class.result
    (λ added. c.in_ok-push-in-None.ensures.ok ∙ keys-new c.args.classes.now.items c.add_class.new.classes.items c.args.keys.now c.args.profile.now c.key-key.result c.requires.keys (c.key-key.ensures ∙ ap key_in c.of-planes.ensures) added.0)
    c.add_class.ensures.class
