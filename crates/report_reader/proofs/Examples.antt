-- Worked reports that are read, and faulty ones with the number of lines from the first that does not fit.
use Rattle.std.proofs.Common.{◌≡◌, ℕ, [], ◌∷◌, refl}
use Rattle.std.specs.Prelude.{codes, Result, Ok, Err}
use Rattle.ot_theory.specs.Languages.{Term, Loser, Given}
use Rattle.report_reader.specs.Grammar.{Found, report_at, head_at, givens_at, input_at, languages_at, certificates_at, cuts_at}

abbrev against : ℕ → ℕ → ℕ → Term
against i a b = Loser i a b

abbrev read : Found → Result Found ℕ
read found = Ok found

-- one input, and no cut
pub alone : report_at (codes "otsoft report 1\ttypology\nconstraints\t3\nconstraint\t1\tNoCoda\tNoCoda\nconstraint\t2\tMax\tMax\nconstraint\t3\tDep\tDep\ninputs\t1\ninput\t1\tpat\t3\nclass\t1.1\t1 0 0\tpat\nclass\t1.2\t0 1 0\tpa\nclass\t1.3\t0 0 1\tpa.ti\nlanguages\t3\nlanguage\t1\t1\t2 3 | 1\nlanguage\t2\t2\t1 3 | 2\nlanguage\t3\t3\t1 2 | 3\ncertificates\t0\ncuts\t0\nend\n") ≡ read (record { languages = (0 ∷ [], 2 ∷ 1 ∷ 1 ∷ []) ∷ (1 ∷ [], 1 ∷ 2 ∷ 1 ∷ []) ∷ (2 ∷ [], 1 ∷ 1 ∷ 2 ∷ []) ∷ []; certificates = []; cuts = [] })
unfolding report_at head_at givens_at input_at languages_at certificates_at cuts_at
alone = refl

-- two inputs that are repaired alike
pub two_inputs : report_at (codes "otsoft report 1\ttypology\nconstraints\t3\nconstraint\t1\tNoCoda\tNoCoda\nconstraint\t2\tMax\tMax\nconstraint\t3\tDep\tDep\ninputs\t2\ninput\t1\tpat\t3\nclass\t1.1\t1 0 0\tpat\nclass\t1.2\t0 1 0\tpa\nclass\t1.3\t0 0 1\tpa.ti\ninput\t2\ttak\t3\nclass\t2.1\t1 0 0\ttak\nclass\t2.2\t0 1 0\tta\nclass\t2.3\t0 0 1\tta.ki\nlanguages\t3\nlanguage\t1\t1 1\t2 3 | 1\nlanguage\t2\t2 2\t1 3 | 2\nlanguage\t3\t3 3\t1 2 | 3\ncertificates\t6\ncertificate\t1\tLLe\t1:1>2 2:2>1\ncertificate\t2\tLeL\t1:1>3 2:3>1\ncertificate\t3\tLLe\t1:2>1 2:1>2\ncertificate\t4\teLL\t1:2>3 2:3>2\ncertificate\t5\tLeL\t1:3>1 2:1>3\ncertificate\t6\teLL\t1:3>2 2:2>3\ncuts\t6\ncut\t1\t1 2\t1\ncut\t2\t1 3\t2\ncut\t3\t2 1\t3\ncut\t4\t2 3\t4\ncut\t5\t3 1\t5\ncut\t6\t3 2\t6\nend\n") ≡ read (record { languages = (0 ∷ 0 ∷ [], 2 ∷ 1 ∷ 1 ∷ []) ∷ (1 ∷ 1 ∷ [], 1 ∷ 2 ∷ 1 ∷ []) ∷ (2 ∷ 2 ∷ [], 1 ∷ 1 ∷ 2 ∷ []) ∷ []; certificates = (against 0 0 1 ∷ against 1 1 0 ∷ []) ∷ (against 0 0 2 ∷ against 1 2 0 ∷ []) ∷ (against 0 1 0 ∷ against 1 0 1 ∷ []) ∷ (against 0 1 2 ∷ against 1 2 1 ∷ []) ∷ (against 0 2 0 ∷ against 1 0 2 ∷ []) ∷ (against 0 2 1 ∷ against 1 1 2 ∷ []) ∷ []; cuts = (0 ∷ 1 ∷ [], 0) ∷ (0 ∷ 2 ∷ [], 1) ∷ (1 ∷ 0 ∷ [], 2) ∷ (1 ∷ 2 ∷ [], 3) ∷ (2 ∷ 0 ∷ [], 4) ∷ (2 ∷ 1 ∷ [], 5) ∷ [] })
unfolding report_at head_at givens_at input_at languages_at certificates_at cuts_at
two_inputs = refl

-- a class that no ranking makes optimal, in three cuts with one certificate
pub bounded : report_at (codes "otsoft report 1\ttypology\nconstraints\t3\nconstraint\t1\tNoCoda\tNoCoda\nconstraint\t2\tMax\tMax\nconstraint\t3\tDep\tDep\ninputs\t2\ninput\t1\tpat\t3\nclass\t1.1\t1 0 0\tpat\nclass\t1.2\t0 1 0\tpa\nclass\t1.3\t0 0 1\tpa.ti\ninput\t2\tku\t2\nclass\t2.1\t0 0 0\tku\nclass\t2.2\t1 0 0\tkut\nlanguages\t3\nlanguage\t1\t1 1\t2 3 | 1\nlanguage\t2\t2 1\t1 3 | 2\nlanguage\t3\t3 1\t1 2 | 3\ncertificates\t1\ncertificate\t1\tLee\t2:2>1\ncuts\t3\ncut\t1\t1 2\t1\ncut\t2\t2 2\t1\ncut\t3\t3 2\t1\nend\n") ≡ read (record { languages = (0 ∷ 0 ∷ [], 2 ∷ 1 ∷ 1 ∷ []) ∷ (1 ∷ 0 ∷ [], 1 ∷ 2 ∷ 1 ∷ []) ∷ (2 ∷ 0 ∷ [], 1 ∷ 1 ∷ 2 ∷ []) ∷ []; certificates = (against 1 1 0 ∷ []) ∷ []; cuts = (0 ∷ 1 ∷ [], 0) ∷ (1 ∷ 1 ∷ [], 0) ∷ (2 ∷ 1 ∷ [], 0) ∷ [] })
unfolding report_at head_at givens_at input_at languages_at certificates_at cuts_at
bounded = refl

-- hierarchies of three strata
pub syllables : report_at (codes "otsoft report 1\ttypology\nconstraints\t4\nconstraint\t1\tOns\tOnset\nconstraint\t2\tNoC\tNoCoda\nconstraint\t3\tMax\tMax\nconstraint\t4\tDep\tDep\ninputs\t2\ninput\t1\ta\t3\nclass\t1.1\t1 0 0 0\t.a.\nclass\t1.2\t0 0 0 1\t.ta.\nclass\t1.3\t0 0 1 0\t<a>\ninput\t2\ttat\t3\nclass\t2.1\t0 1 0 0\t.tat.\nclass\t2.2\t0 0 0 1\t.ta.ta.\nclass\t2.3\t0 0 1 0\t.ta.\nlanguages\t7\nlanguage\t1\t1 1\t3 4 | 1 2\nlanguage\t2\t1 2\t2 3 | 4 | 1\nlanguage\t3\t1 3\t2 4 | 3 | 1\nlanguage\t4\t2 1\t1 3 | 4 | 2\nlanguage\t5\t2 2\t1 2 3 | 4\nlanguage\t6\t3 1\t1 4 | 3 | 2\nlanguage\t7\t3 3\t1 2 4 | 3\ncertificates\t2\ncertificate\t1\teeLL\t1:2>3 2:3>2\ncertificate\t2\teeLL\t1:3>2 2:2>3\ncuts\t2\ncut\t1\t2 3\t1\ncut\t2\t3 2\t2\nend\n") ≡ read (record { languages = (0 ∷ 0 ∷ [], 2 ∷ 2 ∷ 1 ∷ 1 ∷ []) ∷ (0 ∷ 1 ∷ [], 3 ∷ 1 ∷ 1 ∷ 2 ∷ []) ∷ (0 ∷ 2 ∷ [], 3 ∷ 1 ∷ 2 ∷ 1 ∷ []) ∷ (1 ∷ 0 ∷ [], 1 ∷ 3 ∷ 1 ∷ 2 ∷ []) ∷ (1 ∷ 1 ∷ [], 1 ∷ 1 ∷ 1 ∷ 2 ∷ []) ∷ (2 ∷ 0 ∷ [], 1 ∷ 3 ∷ 2 ∷ 1 ∷ []) ∷ (2 ∷ 2 ∷ [], 1 ∷ 1 ∷ 2 ∷ 1 ∷ []) ∷ []; certificates = (against 0 1 2 ∷ against 1 2 1 ∷ []) ∷ (against 0 2 1 ∷ against 1 1 2 ∷ []) ∷ []; cuts = (1 ∷ 2 ∷ [], 0) ∷ (2 ∷ 1 ∷ [], 1) ∷ [] })
unfolding report_at head_at givens_at input_at languages_at certificates_at cuts_at
syllables = refl

-- the last line has no LF
pub without_its_end : report_at (codes "otsoft report 1\ttypology\nconstraints\t3\nconstraint\t1\tNoCoda\tNoCoda\nconstraint\t2\tMax\tMax\nconstraint\t3\tDep\tDep\ninputs\t1\ninput\t1\tpat\t3\nclass\t1.1\t1 0 0\tpat\nclass\t1.2\t0 1 0\tpa\nclass\t1.3\t0 0 1\tpa.ti\nlanguages\t3\nlanguage\t1\t1\t2 3 | 1\nlanguage\t2\t2\t1 3 | 2\nlanguage\t3\t3\t1 2 | 3\ncertificates\t0\ncuts\t0\nend") ≡ Err 1
unfolding report_at head_at givens_at input_at languages_at certificates_at cuts_at
without_its_end = refl

-- an empty line stands behind the last
pub behind_the_end : report_at (codes "otsoft report 1\ttypology\nconstraints\t3\nconstraint\t1\tNoCoda\tNoCoda\nconstraint\t2\tMax\tMax\nconstraint\t3\tDep\tDep\ninputs\t1\ninput\t1\tpat\t3\nclass\t1.1\t1 0 0\tpat\nclass\t1.2\t0 1 0\tpa\nclass\t1.3\t0 0 1\tpa.ti\nlanguages\t3\nlanguage\t1\t1\t2 3 | 1\nlanguage\t2\t2\t1 3 | 2\nlanguage\t3\t3\t1 2 | 3\ncertificates\t0\ncuts\t0\nend\n\n") ≡ Err 2
unfolding report_at head_at givens_at input_at languages_at certificates_at cuts_at
behind_the_end = refl

-- a language more is called for
pub too_few_languages : report_at (codes "otsoft report 1\ttypology\nconstraints\t3\nconstraint\t1\tNoCoda\tNoCoda\nconstraint\t2\tMax\tMax\nconstraint\t3\tDep\tDep\ninputs\t1\ninput\t1\tpat\t3\nclass\t1.1\t1 0 0\tpat\nclass\t1.2\t0 1 0\tpa\nclass\t1.3\t0 0 1\tpa.ti\nlanguages\t4\nlanguage\t1\t1\t2 3 | 1\nlanguage\t2\t2\t1 3 | 2\nlanguage\t3\t3\t1 2 | 3\ncertificates\t0\ncuts\t0\nend\n") ≡ Err 4
unfolding report_at head_at givens_at input_at languages_at certificates_at cuts_at
too_few_languages = refl

-- the second stratum of the first language does not ascend
pub falling : report_at (codes "otsoft report 1\ttypology\nconstraints\t3\nconstraint\t1\tNoCoda\tNoCoda\nconstraint\t2\tMax\tMax\nconstraint\t3\tDep\tDep\ninputs\t1\ninput\t1\tpat\t3\nclass\t1.1\t1 0 0\tpat\nclass\t1.2\t0 1 0\tpa\nclass\t1.3\t0 0 1\tpa.ti\nlanguages\t3\nlanguage\t1\t1\t3 2 | 1\nlanguage\t2\t2\t1 3 | 2\nlanguage\t3\t3\t1 2 | 3\ncertificates\t0\ncuts\t0\nend\n") ≡ Err 7
unfolding report_at head_at givens_at input_at languages_at certificates_at cuts_at
falling = refl

-- the certificate has no term
pub without_terms : report_at (codes "otsoft report 1\ttypology\nconstraints\t3\nconstraint\t1\tNoCoda\tNoCoda\nconstraint\t2\tMax\tMax\nconstraint\t3\tDep\tDep\ninputs\t2\ninput\t1\tpat\t3\nclass\t1.1\t1 0 0\tpat\nclass\t1.2\t0 1 0\tpa\nclass\t1.3\t0 0 1\tpa.ti\ninput\t2\tku\t2\nclass\t2.1\t0 0 0\tku\nclass\t2.2\t1 0 0\tkut\nlanguages\t3\nlanguage\t1\t1 1\t2 3 | 1\nlanguage\t2\t2 1\t1 3 | 2\nlanguage\t3\t3 1\t1 2 | 3\ncertificates\t1\ncertificate\t1\tLee\t\ncuts\t3\ncut\t1\t1 2\t1\ncut\t2\t2 2\t1\ncut\t3\t3 2\t1\nend\n") ≡ Err 7
unfolding report_at head_at givens_at input_at languages_at certificates_at cuts_at
without_terms = refl

-- two given pairs that form a cycle
pub cycle : report_at (codes "otsoft report 1\ttypology\nconstraints\t3\nconstraint\t1\tNoCoda\tNoCoda\nconstraint\t2\tMax\tMax\nconstraint\t3\tDep\tDep\ninputs\t1\ninput\t1\tpat\t3\nclass\t1.1\t1 0 0\tpat\nclass\t1.2\t0 1 0\tpa\nclass\t1.3\t0 0 1\tpa.ti\ngivens\t2\ngiven\t1\t1\t2\ngiven\t2\t2\t1\nlanguages\t0\ncertificates\t1\ncertificate\t1\tLLe\tg1 g2\ncuts\t1\ncut\t1\t-\t1\nend\n") ≡ read (record { languages = []; certificates = (Given 0 ∷ Given 1 ∷ []) ∷ []; cuts = ([], 0) ∷ [] })
unfolding report_at head_at givens_at input_at languages_at certificates_at cuts_at
cycle = refl

-- a given pair whose constraints are the same
pub same_constraint : report_at (codes "otsoft report 1\ttypology\nconstraints\t3\nconstraint\t1\tNoCoda\tNoCoda\nconstraint\t2\tMax\tMax\nconstraint\t3\tDep\tDep\ninputs\t1\ninput\t1\tpat\t3\nclass\t1.1\t1 0 0\tpat\nclass\t1.2\t0 1 0\tpa\nclass\t1.3\t0 0 1\tpa.ti\ngivens\t1\ngiven\t1\t2\t2\nlanguages\t0\ncertificates\t0\ncuts\t0\nend\n") ≡ Err 6
unfolding report_at head_at givens_at input_at languages_at certificates_at cuts_at
same_constraint = refl

-- a term that is a given pair, where there are none
pub no_pairs : report_at (codes "otsoft report 1\ttypology\nconstraints\t3\nconstraint\t1\tNoCoda\tNoCoda\nconstraint\t2\tMax\tMax\nconstraint\t3\tDep\tDep\ninputs\t1\ninput\t1\tpat\t3\nclass\t1.1\t1 0 0\tpat\nclass\t1.2\t0 1 0\tpa\nclass\t1.3\t0 0 1\tpa.ti\nlanguages\t0\ncertificates\t1\ncertificate\t1\tLLe\tg1 g2\ncuts\t1\ncut\t1\t-\t1\nend\n") ≡ Err 5
unfolding report_at head_at givens_at input_at languages_at certificates_at cuts_at
no_pairs = refl
