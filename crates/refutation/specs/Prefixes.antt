-- Classes of inputs as the theory has them, and the terms whose choice of a winner a prefix makes.
use Rattle.std.specs.Prelude.{ℕ, List, map}
use Rattle.ot_base.specs.declared.tableau.ClassId.{ClassId}
pub use Rattle.ot_theory.specs.Refutations.{is_made}

abbrev pub class_numbers : List ClassId → List ℕ
class_numbers classes = map (λ class. class.0) classes
