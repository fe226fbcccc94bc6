-- The report of the demonstration file, which tells how much was found.
use Rattle.std.specs.Prelude.{ℕ, List, [], ◌∷◌, ◌++◌, decimal, codes}
use Rattle.report_text.specs.Spelling.{line}
use Rattle.report_text.specs.Reports.{title}

-- The number of the file, how many bytes it has, how many languages, certificates and cuts, and how many bytes the report of its
-- typology.
unfoldable pub demo_report : ℕ → ℕ → ℕ → ℕ → ℕ → ℕ → List ℕ
demo_report number bytes languages certificates cuts report =
    title (codes "demo")
    ++ line (codes "number" ∷ decimal number ∷ [])
    ++ line (codes "bytes" ∷ decimal bytes ∷ [])
    ++ line (codes "languages" ∷ decimal languages ∷ [])
    ++ line (codes "certificates" ∷ decimal certificates ∷ [])
    ++ line (codes "cuts" ∷ decimal cuts ∷ [])
    ++ line (codes "report" ∷ decimal report ∷ [])
    ++ line (codes "end" ∷ [])
