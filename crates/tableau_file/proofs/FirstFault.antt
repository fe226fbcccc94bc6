-- Which fault of a line is its first.
use Rattle.std.proofs.Common.{◌≡◌, ℕ, true, false, Bool, List, [], ◌∷◌, ◌++◌, not, ap, sym, subst, refl, ◌∙◌}
use Rattle.std.specs.List.{list_all}
use Rattle.ot_base.specs.declared.tableau.InputRows.{InputRows}
use Rattle.tableau_file.specs.declared.Why.{Why}
use Rattle.tableau_file.specs.declared.Why.TheVariants.{BadCount, BadViolation, ExtraCell}
use Rattle.tableau_file.specs.Numbers.{is_count, is_violation}
use Rattle.tableau_file.specs.Rows.{cell, constraint_cells}
use Rattle.tableau_file.specs.Faults.{fault, has_extra, input_faults, candidate_faults, number_faults, row_faults, IsFirst}

pub first-fault : {X : Type 0} (test : Bool) (why : X) (more : List X) → test ≡ true → IsFirst why (fault test why ++ more)
first-fault {X} test why more e = (more, rw e refl)

pub first-append : {X : Type 0} (why : X) (faults more : List X) → IsFirst why faults → IsFirst why (faults ++ more)
first-append {X} why faults more first = (first.0 ++ more, ap (λ list. list ++ more) first.1)

pub input_first : (n : ℕ) (inputs : List InputRows) (texts : List (List ℕ)) (input : List ℕ) (why : Why) → input ≡ cell texts 0 → IsFirst why (input_faults inputs (input ∷ [])) → IsFirst why (row_faults n inputs texts)
input_first n inputs texts input why is first =
    first-append why (input_faults inputs texts ++ candidate_faults inputs texts) (number_faults n texts)
    (first-append why (input_faults inputs texts) (candidate_faults inputs texts) (subst (λ text. IsFirst why (input_faults inputs (text ∷ []))) is first))

pub candidate_first : (n : ℕ) (inputs : List InputRows) (texts : List (List ℕ)) (input text : List ℕ) (why : Why) → input ≡ cell texts 0 → text ≡ cell texts 1
    → input_faults inputs (input ∷ []) ≡ [] → IsFirst why (candidate_faults inputs (input ∷ text ∷ [])) → IsFirst why (row_faults n inputs texts)
candidate_first n inputs texts input text why input_is text_is none first =
    let before : input_faults inputs texts ≡ [] = ap (λ t. input_faults inputs (t ∷ [])) (sym input_is) ∙ none in
    let here : candidate_faults inputs texts ≡ candidate_faults inputs (input ∷ text ∷ []) = ap (λ t. candidate_faults inputs (cell texts 0 ∷ t ∷ [])) (sym text_is) ∙ ap (λ t. candidate_faults inputs (t ∷ text ∷ [])) (sym input_is) in
    let both : input_faults inputs texts ++ candidate_faults inputs texts ≡ why ∷ first.0 = ap (λ faults. faults ++ candidate_faults inputs texts) before ∙ here ∙ first.1 in
    first-append why (input_faults inputs texts ++ candidate_faults inputs texts) (number_faults n texts) (first.0, both)

-- Where the columns of the input and of the candidate have no fault, those of the numbers decide.
numbers_alone : (n : ℕ) (inputs : List InputRows) (texts : List (List ℕ)) (input text : List ℕ) → input ≡ cell texts 0 → text ≡ cell texts 1
    → input_faults inputs (input ∷ []) ≡ [] → candidate_faults inputs (input ∷ text ∷ []) ≡ [] → row_faults n inputs texts ≡ number_faults n texts
numbers_alone n inputs texts input text input_is text_is none sound =
    let before : input_faults inputs texts ≡ [] = ap (λ t. input_faults inputs (t ∷ [])) (sym input_is) ∙ none in
    let here : candidate_faults inputs texts ≡ [] = ap (λ t. candidate_faults inputs (cell texts 0 ∷ t ∷ [])) (sym text_is) ∙ ap (λ t. candidate_faults inputs (t ∷ text ∷ [])) (sym input_is) ∙ sound in
    ap (λ faults. faults ++ candidate_faults inputs texts ++ number_faults n texts) before ∙ ap (λ faults. faults ++ number_faults n texts) here

pub number_first : (n : ℕ) (inputs : List InputRows) (texts : List (List ℕ)) (input text : List ℕ) (why : Why) → input ≡ cell texts 0 → text ≡ cell texts 1
    → input_faults inputs (input ∷ []) ≡ [] → candidate_faults inputs (input ∷ text ∷ []) ≡ [] → IsFirst why (number_faults n texts) → IsFirst why (row_faults n inputs texts)
number_first n inputs texts input text why input_is text_is none sound first = (first.0, numbers_alone n inputs texts input text input_is text_is none sound ∙ first.1)

pub no_row_fault : (n : ℕ) (inputs : List InputRows) (texts : List (List ℕ)) (input text : List ℕ) → input ≡ cell texts 0 → text ≡ cell texts 1
    → input_faults inputs (input ∷ []) ≡ [] → candidate_faults inputs (input ∷ text ∷ []) ≡ [] → number_faults n texts ≡ [] → row_faults n inputs texts ≡ []
no_row_fault n inputs texts input text input_is text_is none sound numbers = numbers_alone n inputs texts input text input_is text_is none sound ∙ numbers

pub count_first : (n : ℕ) (texts : List (List ℕ)) → is_count (cell texts 2) ≡ false → IsFirst BadCount (number_faults n texts)
count_first n texts e = (fault (not (list_all is_violation (constraint_cells n texts))) BadViolation ++ fault (has_extra n texts) ExtraCell, rw e refl)

pub violation_first : (n : ℕ) (texts : List (List ℕ)) → is_count (cell texts 2) ≡ true → list_all is_violation (constraint_cells n texts) ≡ false → IsFirst BadViolation (number_faults n texts)
violation_first n texts count e = (fault (has_extra n texts) ExtraCell, rw (count, e) refl)

pub extra_first : (n : ℕ) (texts : List (List ℕ)) → is_count (cell texts 2) ≡ true → list_all is_violation (constraint_cells n texts) ≡ true → has_extra n texts ≡ true → IsFirst ExtraCell (number_faults n texts)
extra_first n texts count violations e = ([], rw (count, violations, e) refl)

pub no_number_fault : (n : ℕ) (texts : List (List ℕ)) → is_count (cell texts 2) ≡ true → list_all is_violation (constraint_cells n texts) ≡ true → has_extra n texts ≡ false → number_faults n texts ≡ []
no_number_fault n texts count violations e = rw (count, violations, e) refl
