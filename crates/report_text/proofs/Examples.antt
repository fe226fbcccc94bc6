-- Worked reports: the definitions computed on small tableaux.
use Rattle.std.proofs.Common.{◌≡◌, ℕ, List, [], ◌∷◌, refl, zero, suc, ◌≤◌, ◌<◌, true, All, Contains, Ok, length, slice_index, codes, arith}
use Rattle.std.specs.Prelude.{Some, None}
use Rattle.std.specs.Fmt.{digits}
use Rattle.erc_vectors.specs.declared.cover.Cover.{Cover}
use Rattle.ot_base.specs.declared.tableau.CandidateRow.{CandidateRow}
use Rattle.ot_base.specs.declared.tableau.InputRows.{InputRows}
use Rattle.ot_base.specs.declared.tableau.Tableau.{Tableau}
use Rattle.ot_base.specs.Tableaus.{problem_of}
use Rattle.ot_theory.specs.declared.Mark.TheVariants.{W, L, E}
use Rattle.ot_theory.specs.Languages.{Term, Loser, Given, classes_at}
use Rattle.refutation.specs.declared.implication.Implication.{Implication}
use Rattle.report_text.specs.Reports.{head, rank_report, contradiction_report, cut_line, typology_report}
use Rattle.report_text.specs.Listings.{hasse_report, bases_report, torder_report}
use Rattle.std.proofs.lemmas.List.Elements.{All-nil, All-cons}
use Rattle.ot_base.specs.Acceptable.{IsAcceptable, AreRows, IsRow}
use Rattle.ot_base.specs.declared.limits.TheConstants.{VIOLATION_LIMIT}
use Rattle.ot_theory.specs.Problems.{Problem, with_given}
use Rattle.ot_theory.specs.Refutations.{is_term}
use Rattle.report_reader.specs.Grammar.{head_at, givens_at, input_at, languages_at, certificates_at, cuts_at, report_at}
use Rattle.report_text.specs.Printable.{is_plain, IsPlain, IsPlainInput, IsHierarchy, IsLanguage, IsCertificate, IsCut, IsPrintable}
use Rattle.violation_profiles.specs.WellFormed.{IsPrefix}
use Rattle.report_text.proofs.ReadBack.{report-read}

abbrev candidate : List ℕ → ℕ → List ℕ → CandidateRow
candidate text count violations = record { text = text; count = count; violations = violations; line = 3 }

abbrev named : List (List ℕ) → List InputRows → Tableau
named names inputs = record { names = names; abbrevs = names; inputs = inputs }

-- each constraint decides for one input
abbrev chain : Tableau
chain = named (codes "A" ∷ codes "B" ∷ codes "C" ∷ [])
    (record { text = codes "x"; candidates = candidate (codes "p") 1000000000 (0 ∷ 1 ∷ 0 ∷ []) ∷ candidate (codes "q") 0 (1 ∷ 0 ∷ 0 ∷ []) ∷ [] }
    ∷ record { text = codes "y"; candidates = candidate (codes "r") 1000000000 (0 ∷ 0 ∷ 1 ∷ []) ∷ candidate (codes "s") 0 (0 ∷ 1 ∷ 0 ∷ []) ∷ [] } ∷ [])

pub rank_of_chain : rank_report chain (problem_of chain) (1 ∷ 2 ∷ 3 ∷ []) None ≡ codes "otsoft report 1\trank\nconstraints\t3\nconstraint\t1\tA\tA\nconstraint\t2\tB\tB\nconstraint\t3\tC\tC\ninputs\t2\ninput\t1\tx\t2\nclass\t1.1\t0 1 0\tp\nclass\t1.2\t1 0 0\tq\ninput\t2\ty\t2\nclass\t2.1\t0 0 1\tr\nclass\t2.2\t0 1 0\ts\nwinner\t1\t1\nwinner\t2\t1\nstrata\t3\nstratum\t1\t1\tA\nstratum\t2\t2\tB\nstratum\t3\t3\tC\ntableau\t1\tx\norder\t1\t2\t3\nrow\t1\t>\t0\t1\t0\nrow\t2\t-\t1!\t0\t0\ntableau\t2\ty\norder\t1\t2\t3\nrow\t1\t>\t0\t0\t1\nrow\t2\t-\t0\t1!\t0\nend\n"
unfolding rank_report head digits
rank_of_chain = refl

-- one candidate, and abbreviations that are shorter than the names
abbrev alone : Tableau
alone = record {
  names = codes "NoCoda" ∷ codes "Max" ∷ codes "Dep" ∷ [];
  abbrevs = codes "NC" ∷ codes "Mx" ∷ codes "Dp" ∷ [];
  inputs = record { text = codes "x"; candidates = candidate (codes "x") 1000000000 (0 ∷ 0 ∷ 0 ∷ []) ∷ [] } ∷ [];
}

pub rank_of_alone : rank_report alone (problem_of alone) (1 ∷ 2 ∷ 2 ∷ []) (Some 2) ≡ codes "otsoft report 1\trank\nconstraints\t3\nconstraint\t1\tNC\tNoCoda\nconstraint\t2\tMx\tMax\nconstraint\t3\tDp\tDep\ninputs\t1\ninput\t1\tx\t1\nclass\t1.1\t0 0 0\tx\nwinner\t1\t1\nstrata\t2\nstratum\t1\t1\tNC\nstratum\t2\t2 3\tMx\tDp\nrmeasure\t2\ntableau\t1\tx\norder\t1\t2\t3\nrow\t1\t>\t0\t0\t0\nend\n"
unfolding rank_report head digits
rank_of_alone = refl

-- two counts alike, and an input without counts
abbrev uncounted : Tableau
uncounted = named (codes "A" ∷ codes "B" ∷ [])
    (record { text = codes "x"; candidates = candidate (codes "p") 500000000 (1 ∷ 0 ∷ []) ∷ candidate (codes "q") 500000000 (0 ∷ 1 ∷ []) ∷ [] }
    ∷ record { text = codes "y"; candidates = candidate (codes "r") 0 (0 ∷ 0 ∷ []) ∷ candidate (codes "s") 0 (0 ∷ 0 ∷ []) ∷ [] } ∷ [])

pub rank_of_uncounted : rank_report uncounted (problem_of uncounted) (2 ∷ 1 ∷ []) None ≡ codes "otsoft report 1\trank\nconstraints\t2\nconstraint\t1\tA\tA\nconstraint\t2\tB\tB\ninputs\t2\ninput\t1\tx\t2\nclass\t1.1\t1 0\tp\nclass\t1.2\t0 1\tq\ninput\t2\ty\t1\nclass\t2.1\t0 0\tr\ts\nwinner\t1\t1\nwinner\t2\tnone\nstrata\t2\nstratum\t1\t2\tB\nstratum\t2\t1\tA\ntableau\t1\tx\norder\t2\t1\nrow\t1\t>\t0\t1\nrow\t2\t-\t1!\t0\nend\n"
unfolding rank_report head digits
rank_of_uncounted = refl

-- two inputs that would be repaired in different ways
abbrev codas : Tableau
codas = named (codes "NoCoda" ∷ codes "Max" ∷ codes "Dep" ∷ [])
    (record { text = codes "pat"; candidates = candidate (codes "pat") 1000000000 (1 ∷ 0 ∷ 0 ∷ []) ∷ candidate (codes "pa") 0 (0 ∷ 1 ∷ 0 ∷ []) ∷ candidate (codes "pa.ti") 0 (0 ∷ 0 ∷ 1 ∷ []) ∷ [] }
    ∷ record { text = codes "tak"; candidates = candidate (codes "tak") 0 (1 ∷ 0 ∷ 0 ∷ []) ∷ candidate (codes "ta") 1000000000 (0 ∷ 1 ∷ 0 ∷ []) ∷ candidate (codes "ta.ki") 0 (0 ∷ 0 ∷ 1 ∷ []) ∷ [] } ∷ [])

abbrev against : ℕ → ℕ → ℕ → Term
against i a b = Loser i a b

pub contradiction_of_codas : contradiction_report (codes "rank") codas (problem_of codas) (against 0 0 1 ∷ against 1 1 0 ∷ []) ≡ codes "otsoft report 1\trank\nconstraints\t3\nconstraint\t1\tNoCoda\tNoCoda\nconstraint\t2\tMax\tMax\nconstraint\t3\tDep\tDep\ninputs\t2\ninput\t1\tpat\t3\nclass\t1.1\t1 0 0\tpat\nclass\t1.2\t0 1 0\tpa\nclass\t1.3\t0 0 1\tpa.ti\ninput\t2\ttak\t3\nclass\t2.1\t1 0 0\ttak\nclass\t2.2\t0 1 0\tta\nclass\t2.3\t0 0 1\tta.ki\nwinner\t1\t1\nwinner\t2\t2\ncontradiction\tLLe\t1:1>2 2:2>1\nend\n"
unfolding contradiction_report head digits
contradiction_of_codas = refl

-- each choice of two different classes is a cut of its own
pub typology_of_codas : typology_report codas (problem_of codas)
    ((0 ∷ 0 ∷ [], 2 ∷ 1 ∷ 1 ∷ []) ∷ (1 ∷ 1 ∷ [], 1 ∷ 2 ∷ 1 ∷ []) ∷ (2 ∷ 2 ∷ [], 1 ∷ 1 ∷ 2 ∷ []) ∷ [])
    ((against 0 0 1 ∷ against 1 1 0 ∷ []) ∷ (against 0 0 2 ∷ against 1 2 0 ∷ []) ∷ (against 0 1 0 ∷ against 1 0 1 ∷ [])
    ∷ (against 0 1 2 ∷ against 1 2 1 ∷ []) ∷ (against 0 2 0 ∷ against 1 0 2 ∷ []) ∷ (against 0 2 1 ∷ against 1 1 2 ∷ []) ∷ [])
    ((0 ∷ 1 ∷ [], 0) ∷ (0 ∷ 2 ∷ [], 1) ∷ (1 ∷ 0 ∷ [], 2) ∷ (1 ∷ 2 ∷ [], 3) ∷ (2 ∷ 0 ∷ [], 4) ∷ (2 ∷ 1 ∷ [], 5) ∷ [])
    ≡ codes "otsoft report 1\ttypology\nconstraints\t3\nconstraint\t1\tNoCoda\tNoCoda\nconstraint\t2\tMax\tMax\nconstraint\t3\tDep\tDep\ninputs\t2\ninput\t1\tpat\t3\nclass\t1.1\t1 0 0\tpat\nclass\t1.2\t0 1 0\tpa\nclass\t1.3\t0 0 1\tpa.ti\ninput\t2\ttak\t3\nclass\t2.1\t1 0 0\ttak\nclass\t2.2\t0 1 0\tta\nclass\t2.3\t0 0 1\tta.ki\nlanguages\t3\nlanguage\t1\t1 1\t2 3 | 1\nlanguage\t2\t2 2\t1 3 | 2\nlanguage\t3\t3 3\t1 2 | 3\ncertificates\t6\ncertificate\t1\tLLe\t1:1>2 2:2>1\ncertificate\t2\tLeL\t1:1>3 2:3>1\ncertificate\t3\tLLe\t1:2>1 2:1>2\ncertificate\t4\teLL\t1:2>3 2:3>2\ncertificate\t5\tLeL\t1:3>1 2:1>3\ncertificate\t6\teLL\t1:3>2 2:2>3\ncuts\t6\ncut\t1\t1 2\t1\ncut\t2\t1 3\t2\ncut\t3\t2 1\t3\ncut\t4\t2 3\t4\ncut\t5\t3 1\t5\ncut\t6\t3 2\t6\nend\n"
unfolding typology_report head digits
typology_of_codas = refl

-- a class that no ranking makes optimal, in three cuts with one certificate
abbrev shared : Tableau
shared = named (codes "NoCoda" ∷ codes "Max" ∷ codes "Dep" ∷ [])
    (record { text = codes "pat"; candidates = candidate (codes "pat") 1000000000 (1 ∷ 0 ∷ 0 ∷ []) ∷ candidate (codes "pa") 0 (0 ∷ 1 ∷ 0 ∷ []) ∷ candidate (codes "pa.ti") 0 (0 ∷ 0 ∷ 1 ∷ []) ∷ [] }
    ∷ record { text = codes "ku"; candidates = candidate (codes "ku") 1000000000 (0 ∷ 0 ∷ 0 ∷ []) ∷ candidate (codes "kut") 0 (1 ∷ 0 ∷ 0 ∷ []) ∷ [] } ∷ [])

pub typology_of_shared : typology_report shared (problem_of shared)
    ((0 ∷ 0 ∷ [], 2 ∷ 1 ∷ 1 ∷ []) ∷ (1 ∷ 0 ∷ [], 1 ∷ 2 ∷ 1 ∷ []) ∷ (2 ∷ 0 ∷ [], 1 ∷ 1 ∷ 2 ∷ []) ∷ [])
    ((against 1 1 0 ∷ []) ∷ [])
    ((0 ∷ 1 ∷ [], 0) ∷ (1 ∷ 1 ∷ [], 0) ∷ (2 ∷ 1 ∷ [], 0) ∷ [])
    ≡ codes "otsoft report 1\ttypology\nconstraints\t3\nconstraint\t1\tNoCoda\tNoCoda\nconstraint\t2\tMax\tMax\nconstraint\t3\tDep\tDep\ninputs\t2\ninput\t1\tpat\t3\nclass\t1.1\t1 0 0\tpat\nclass\t1.2\t0 1 0\tpa\nclass\t1.3\t0 0 1\tpa.ti\ninput\t2\tku\t2\nclass\t2.1\t0 0 0\tku\nclass\t2.2\t1 0 0\tkut\nlanguages\t3\nlanguage\t1\t1 1\t2 3 | 1\nlanguage\t2\t2 1\t1 3 | 2\nlanguage\t3\t3 1\t1 2 | 3\ncertificates\t1\ncertificate\t1\tLee\t2:2>1\ncuts\t3\ncut\t1\t1 2\t1\ncut\t2\t2 2\t1\ncut\t3\t3 2\t1\nend\n"
unfolding typology_report head digits
typology_of_shared = refl

-- without refuted choices there are no certificates and no cuts
pub languages_alone : typology_report alone (problem_of alone) ((0 ∷ [], 1 ∷ 1 ∷ 1 ∷ []) ∷ []) [] [] ≡ codes "otsoft report 1\ttypology\nconstraints\t3\nconstraint\t1\tNC\tNoCoda\nconstraint\t2\tMx\tMax\nconstraint\t3\tDp\tDep\ninputs\t1\ninput\t1\tx\t1\nclass\t1.1\t0 0 0\tx\nlanguages\t1\nlanguage\t1\t1\t1 2 3\ncertificates\t0\ncuts\t0\nend\n"
unfolding typology_report head digits
languages_alone = refl

-- two given pairs that form a cycle
pub cycle_of_alone : typology_report alone (with_given (problem_of alone) (record { above = 0; below = 1 } ∷ record { above = 1; below = 0 } ∷ [])) [] ((Given 0 ∷ Given 1 ∷ []) ∷ []) (([], 0) ∷ []) ≡ codes "otsoft report 1\ttypology\nconstraints\t3\nconstraint\t1\tNC\tNoCoda\nconstraint\t2\tMx\tMax\nconstraint\t3\tDp\tDep\ninputs\t1\ninput\t1\tx\t1\nclass\t1.1\t0 0 0\tx\ngivens\t2\ngiven\t1\t1\t2\ngiven\t2\t2\t1\nlanguages\t0\ncertificates\t1\ncertificate\t1\tLLe\tg1 g2\ncuts\t1\ncut\t1\t-\t1\nend\n"
unfolding typology_report head digits
cycle_of_alone = refl

-- pairs were given, and there are none
pub no_pairs_of_alone : typology_report alone (with_given (problem_of alone) []) ((0 ∷ [], 1 ∷ 1 ∷ 1 ∷ []) ∷ []) [] [] ≡ codes "otsoft report 1\ttypology\nconstraints\t3\nconstraint\t1\tNC\tNoCoda\nconstraint\t2\tMx\tMax\nconstraint\t3\tDp\tDep\ninputs\t1\ninput\t1\tx\t1\nclass\t1.1\t0 0 0\tx\ngivens\t0\nlanguages\t1\nlanguage\t1\t1\t1 2 3\ncertificates\t0\ncuts\t0\nend\n"
unfolding typology_report head digits
no_pairs_of_alone = refl

-- the dash of the empty prefix
pub cut_of_the_empty_prefix : cut_line 2 ([], 4) ≡ codes "cut\t2\t-\t5\n"
unfolding digits
cut_of_the_empty_prefix = refl

-- each constraint over the next one
abbrev cover : ℕ → ℕ → Cover
cover c d = record { above = record { 0 = c }; below = record { 0 = d } }

pub hasse_of_chain : hasse_report chain (problem_of chain) (cover 0 1 ∷ cover 1 2 ∷ []) ≡ codes "otsoft report 1\thasse\nconstraints\t3\nconstraint\t1\tA\tA\nconstraint\t2\tB\tB\nconstraint\t3\tC\tC\ninputs\t2\ninput\t1\tx\t2\nclass\t1.1\t0 1 0\tp\nclass\t1.2\t1 0 0\tq\ninput\t2\ty\t2\nclass\t2.1\t0 0 1\tr\nclass\t2.2\t0 1 0\ts\nwinner\t1\t1\nwinner\t2\t1\ncovers\t2\ncover\t1\t2\tA\tB\ncover\t2\t3\tB\tC\nend\n"
unfolding hasse_report head digits
hasse_of_chain = refl

pub bases_of_chain : bases_report chain (problem_of chain) ((W ∷ L ∷ L ∷ []) ∷ (E ∷ W ∷ L ∷ []) ∷ []) ((W ∷ L ∷ E ∷ []) ∷ (E ∷ W ∷ L ∷ []) ∷ []) ≡ codes "otsoft report 1\tbases\nconstraints\t3\nconstraint\t1\tA\tA\nconstraint\t2\tB\tB\nconstraint\t3\tC\tC\ninputs\t2\ninput\t1\tx\t2\nclass\t1.1\t0 1 0\tp\nclass\t1.2\t1 0 0\tq\ninput\t2\ty\t2\nclass\t2.1\t0 0 1\tr\nclass\t2.2\t0 1 0\ts\nwinner\t1\t1\nwinner\t2\t1\nconditions\t2\ncondition\t1\tWLe\t1:1>2\ncondition\t2\teWL\t2:1>2\nmembers\t2\nmember\t1\tWLL\tWLe\nmember\t2\teWL\teWL\nend\n"
unfolding bases_report head digits
bases_of_chain = refl

-- the condition over the last loser has no L
abbrev devoicing : Tableau
devoicing = named (codes "IdOns" ∷ codes "NVO" ∷ codes "IdV" ∷ [])
    (record { text = codes "bed"; candidates = candidate (codes "bed") 0 (0 ∷ 2 ∷ 0 ∷ []) ∷ candidate (codes "bet") 1000000000 (0 ∷ 1 ∷ 1 ∷ []) ∷ candidate (codes "pet") 0 (1 ∷ 0 ∷ 2 ∷ []) ∷ candidate (codes "ped") 0 (1 ∷ 1 ∷ 1 ∷ []) ∷ [] } ∷ [])

pub bases_of_devoicing : bases_report devoicing (problem_of devoicing) ((W ∷ L ∷ L ∷ []) ∷ (E ∷ W ∷ L ∷ []) ∷ []) ((W ∷ L ∷ E ∷ []) ∷ (E ∷ W ∷ L ∷ []) ∷ []) ≡ codes "otsoft report 1\tbases\nconstraints\t3\nconstraint\t1\tIdOns\tIdOns\nconstraint\t2\tNVO\tNVO\nconstraint\t3\tIdV\tIdV\ninputs\t1\ninput\t1\tbed\t4\nclass\t1.1\t0 2 0\tbed\nclass\t1.2\t0 1 1\tbet\nclass\t1.3\t1 0 2\tpet\nclass\t1.4\t1 1 1\tped\nwinner\t1\t2\nconditions\t2\ncondition\t1\teWL\t1:2>1\ncondition\t2\tWLW\t1:2>3\nmembers\t2\nmember\t1\tWLL\tWLe\nmember\t2\teWL\teWL\nend\n"
unfolding bases_report head digits
bases_of_devoicing = refl

-- each class of the one input implies the class of the other with the same profile
abbrev implies : ℕ → ℕ → ℕ → ℕ → Implication
implies i a j b = record { from_input = record { 0 = i }; from_class = record { 0 = a }; to_input = record { 0 = j }; to_class = record { 0 = b } }

pub torder_of_codas : torder_report codas (problem_of codas)
    (implies 0 0 1 0 ∷ implies 0 1 1 1 ∷ implies 0 2 1 2 ∷ implies 1 0 0 0 ∷ implies 1 1 0 1 ∷ implies 1 2 0 2 ∷ [])
    ≡ codes "otsoft report 1\ttorder\nconstraints\t3\nconstraint\t1\tNoCoda\tNoCoda\nconstraint\t2\tMax\tMax\nconstraint\t3\tDep\tDep\ninputs\t2\ninput\t1\tpat\t3\nclass\t1.1\t1 0 0\tpat\nclass\t1.2\t0 1 0\tpa\nclass\t1.3\t0 0 1\tpa.ti\ninput\t2\ttak\t3\nclass\t2.1\t1 0 0\ttak\nclass\t2.2\t0 1 0\tta\nclass\t2.3\t0 0 1\tta.ki\nimplications\t6\nimplication\t1.1\t2.1\nimplication\t1.2\t2.2\nimplication\t1.3\t2.3\nimplication\t2.1\t1.1\nimplication\t2.2\t1.2\nimplication\t2.3\t1.3\nend\n"
unfolding torder_report head digits
torder_of_codas = refl

-- ---- a typology that is printable, so that its report is read back by the law, and by computing too
-- each candidate has two violations of A and B, the last one those of both others
abbrev with_violations : List ℕ → List ℕ → CandidateRow
with_violations text violations = record { text = text; count = 0; violations = violations; line = 3 }

abbrev rows : InputRows
rows = record { text = codes "x"; candidates = with_violations (codes "p") (1 ∷ 0 ∷ []) ∷ with_violations (codes "q") (0 ∷ 1 ∷ []) ∷ with_violations (codes "r") (1 ∷ 1 ∷ []) ∷ [] }

abbrev bounded : Tableau
bounded = record { names = codes "A" ∷ codes "B" ∷ []; abbrevs = codes "A" ∷ codes "B" ∷ []; inputs = rows ∷ [] }

abbrev languages : List (List ℕ × List ℕ)
languages = (0 ∷ [], 2 ∷ 1 ∷ []) ∷ (1 ∷ [], 1 ∷ 2 ∷ []) ∷ []

-- the last candidate is harmonically bounded
abbrev term : Term
term = Loser 0 2 0

abbrev certificates : List (List Term)
certificates = (term ∷ []) ∷ []

abbrev cuts : List (List ℕ × ℕ)
cuts = (2 ∷ [], 0) ∷ []

one : {X : Type 0} (P : X → Type 0) (x : X) → P x → All P (x ∷ [])
one P x here = All-cons P x [] here (All-nil P)

two : {X : Type 0} (P : X → Type 0) (x y : X) → P x → P y → All P (x ∷ y ∷ [])
two P x y first second = All-cons P x (y ∷ []) first (one P y second)

three : {X : Type 0} (P : X → Type 0) (x y z : X) → P x → P y → P z → All P (x ∷ y ∷ z ∷ [])
three P x y z first second third = All-cons P x (y ∷ z ∷ []) first (two P y z second third)

row : (text : List ℕ) (a b : ℕ) → a ≤ VIOLATION_LIMIT → b ≤ VIOLATION_LIMIT → IsRow 2 (with_violations text (a ∷ b ∷ []))
row text a b low few = record { width = refl; bounded = two (λ v. v ≤ VIOLATION_LIMIT) a b low few }

abbrev p : CandidateRow
p = with_violations (codes "p") (1 ∷ 0 ∷ [])

abbrev q : CandidateRow
q = with_violations (codes "q") (0 ∷ 1 ∷ [])

abbrev r : CandidateRow
r = with_violations (codes "r") (1 ∷ 1 ∷ [])

fits : AreRows 2 rows
fits = record {
  some_candidate = omega arith;
  few_candidates = omega arith;
  widths = three (IsRow 2) p q r (row (codes "p") 1 0 (omega arith) (omega arith)) (row (codes "q") 0 1 (omega arith) (omega arith)) (row (codes "r") 1 1 (omega arith) (omega arith));
}

acceptable : IsAcceptable bounded
acceptable = record {
  some_name = omega arith;
  few_names = omega arith;
  abbreviated = refl;
  some_input = omega arith;
  few_inputs = omega arith;
  few_rows = omega arith;
  rows = one (AreRows 2) rows fits;
}

abbrev IsPlainText : List ℕ → Type 0
IsPlainText text = is_plain text ≡ true

abbrev HasPlainText : CandidateRow → Type 0
HasPlainText other = is_plain other.text ≡ true

names : All IsPlainText (codes "A" ∷ codes "B" ∷ [])
names = two IsPlainText (codes "A") (codes "B") refl refl

plain_rows : IsPlainInput rows
plain_rows = record { text = refl; candidates = three HasPlainText p q r refl refl refl }

plain : IsPlain bounded
plain = record { names = names; abbreviations = names; inputs = one IsPlainInput rows plain_rows }

prefix_of_one : (a : ℕ) → a < 3 → IsPrefix (problem_of bounded) (a ∷ [])
prefix_of_one a below = record { short = omega arith; within = λ i low. first i low }
  where
    first : (i : ℕ) → i < 1 → slice_index (a ∷ []) i < length (classes_at (problem_of bounded) i)
    first zero low = below
    first (suc i) low = absurd (omega arith)

at_most_two : (levels : List ℕ) → Contains levels 1 → Contains levels 2 → (s : ℕ) → 1 ≤ s → s ≤ 2 → Contains levels s
at_most_two levels first second zero from to = absurd (omega arith)
at_most_two levels first second (suc zero) from to = first
at_most_two levels first second (suc (suc zero)) from to = second
at_most_two levels first second (suc (suc (suc s))) from to = absurd (omega arith)

second_first : IsHierarchy 2 (2 ∷ 1 ∷ [])
second_first = record { width = refl; from_one = two (λ level. 1 ≤ level) 2 1 (omega arith) (omega arith); used = at_most_two (2 ∷ 1 ∷ []) (1, omega arith, refl) (0, omega arith, refl) }

first_first : IsHierarchy 2 (1 ∷ 2 ∷ [])
first_first = record { width = refl; from_one = two (λ level. 1 ≤ level) 1 2 (omega arith) (omega arith); used = at_most_two (1 ∷ 2 ∷ []) (0, omega arith, refl) (1, omega arith, refl) }

abbrev problem : Problem
problem = problem_of bounded

language_p : IsLanguage problem (0 ∷ [], 2 ∷ 1 ∷ [])
language_p = record { choice = record { full = refl; prefix = prefix_of_one 0 (omega arith) }; hierarchy = second_first }

language_q : IsLanguage problem (1 ∷ [], 1 ∷ 2 ∷ [])
language_q = record { choice = record { full = refl; prefix = prefix_of_one 1 (omega arith) }; hierarchy = first_first }

certificate : IsCertificate problem (term ∷ [])
certificate = record { some_term = omega arith; each = one (λ t. is_term problem t ≡ true) term refl }

cut : IsCut problem 1 (2 ∷ [], 0)
cut = record { prefix = prefix_of_one 2 (omega arith); named = omega arith }

printable : IsPrintable problem languages certificates cuts
printable = record {
  each_language = two (IsLanguage problem) (0 ∷ [], 2 ∷ 1 ∷ []) (1 ∷ [], 1 ∷ 2 ∷ []) language_p language_q;
  each_certificate = one (IsCertificate problem) (term ∷ []) certificate;
  each_cut = one (IsCut problem 1) (2 ∷ [], 0) cut;
}

-- by the law
pub read_by_law : length (typology_report bounded (problem_of bounded) languages certificates cuts) ≤ 268435456
    → report_at (typology_report bounded (problem_of bounded) languages certificates cuts) ≡ Ok (record { languages = languages; certificates = certificates; cuts = cuts })
read_by_law short = report-read bounded None languages certificates cuts acceptable plain tt printable short

-- by computing
pub read_by_computing : report_at (typology_report bounded (problem_of bounded) languages certificates cuts) ≡ Ok (record { languages = languages; certificates = certificates; cuts = cuts })
unfolding typology_report head report_at head_at givens_at input_at languages_at certificates_at cuts_at digits
read_by_computing = refl
