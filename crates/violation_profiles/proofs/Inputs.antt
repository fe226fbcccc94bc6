-- What problems within the limits say of their inputs, and of prefixes of choices.
use Rattle.std.proofs.Common.{◌≡◌, ℕ, zero, suc, ◌<◌, List, [], ◌∷◌, arith, length, sym, ◌∙◌}
use Rattle.std.specs.Prelude.{All}
use Rattle.std.proofs.lemmas.List.Elements.{All-head, All-tail, All-weaker}
use Rattle.ot_theory.specs.Conditions.{condition}
use Rattle.ot_theory.specs.Languages.{classes_at, profile_at}
use Rattle.ot_theory.specs.Problems.{AreClasses, Input, Problem}
use Rattle.ot_theory.proofs.Optimal.{IsFitting, classes_in}
use Rattle.ot_theory.proofs.Classes.{AllClasses, AllFit-each}
use Rattle.violation_profiles.proofs.Masked.{length-condition}
use Rattle.violation_profiles.specs.WellFormed.{IsWellFormed, IsWellFormedInput, IsPrefix}

AllClasses-from_well_formed : (problem : Problem) → IsWellFormed problem → AllClasses problem.constraints problem.inputs
AllClasses-from_well_formed problem h =
    All-weaker (IsWellFormedInput problem.constraints) (λ (input : Input). AreClasses problem.constraints input.classes) (λ input i. i.classes) problem.inputs h.each

pub AreClasses-at : (n : ℕ) (inputs : List Input) (i : ℕ) → All (IsWellFormedInput n) inputs → i < length inputs → AreClasses n (classes_in inputs i)
AreClasses-at n [] i h below = absurd (omega arith)
AreClasses-at n (input ∷ inputs) zero h below = (All-head (IsWellFormedInput n) input inputs h).classes
AreClasses-at n (input ∷ inputs) (suc i) h below = AreClasses-at n inputs i (All-tail (IsWellFormedInput n) input inputs h) (omega arith)

pub width-at : (problem : Problem) (i a : ℕ) → IsWellFormed problem → i < length problem.inputs → a < length (classes_at problem i) → length (profile_at problem i a) ≡ problem.constraints
width-at problem i a h within below = (AreClasses-at problem.constraints problem.inputs i h.each within).width a below

pub length-condition_at : (problem : Problem) (i a b : ℕ) → IsWellFormed problem → i < length problem.inputs → a < length (classes_at problem i) → b < length (classes_at problem i)
    → length (condition (profile_at problem i a) (profile_at problem i b)) ≡ problem.constraints
length-condition_at problem i a b h within winner loser =
    let width = width-at problem i a h within winner in
    length-condition (profile_at problem i a) (profile_at problem i b) (width-at problem i b h within loser ∙ sym width) ∙ width

pub AllFit-prefix : (problem : Problem) (prefix : List ℕ) → IsWellFormed problem → IsPrefix problem prefix → IsFitting problem prefix
AllFit-prefix problem prefix h p = record { classes = AllFit-each problem.constraints problem.inputs prefix (AllClasses-from_well_formed problem h) p.short p.within; pairs = h.pairs }
