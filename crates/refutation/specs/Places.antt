-- Where the classes of a prefix stand.
use Rattle.std.specs.Prelude.{ℕ, ◌≤◌, List, take}
use Rattle.ot_base.specs.declared.tableau.ClassId.{ClassId}
use Rattle.refutation.specs.declared.prefix.Classes.{Classes}
use Rattle.refutation.specs.declared.prefix.Classes.TheVariants.{Few, Many}

-- the classes, in place or in a list
abbrev pub classes_in : Classes → List ClassId
classes_in (Few alloc count few) = take count few
classes_in (Many classes) = classes

-- no more stand in place than there is room for
abbrev pub AreWithin : ℕ → Classes → Type 0
AreWithin limit (Few alloc count few) = count ≤ limit
AreWithin limit (Many classes) = Unit
