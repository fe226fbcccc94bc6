-- Reading lines one after the other, as a loop does.
use Rattle.std.proofs.Common.{◌≡◌, ℕ, suc, ◌-◌, ◌+◌, ◌≤◌, ◌<◌, List, [], ◌∷◌, ◌++◌, Bool, Ok, Err, refl, sym, ap, ◌∙◌, append_assoc, arith}
use Rattle.std.specs.Prelude.{⊤}
use Rattle.std.proofs.lemmas.List.{append-nil}
use Rattle.report_reader.specs.declared.misread.Misread.{Misread}
use Rattle.report_reader.specs.declared.misread.Misread.TheVariants as misreads
use Rattle.report_reader.specs.Grammar.{◌>>=◌, Reading, Fails, test_at, tests_at, each_at}

-- what was read before, and what is still read
abbrev pub with_front : {A : Type 0} → List A → Reading (List A) → Reading (List A)
with_front front read = read >>= λ x. Ok (front ++ x.0, x.1)

regroup : {A : Type 0} (front : List A) (a : A) (read : Reading (List A)) → with_front front (read >>= λ x. Ok (a ∷ x.0, x.1)) ≡ with_front (front ++ a ∷ []) read
regroup front a (Ok x) = ap (λ (ns : List _). Ok (ns, x.1)) (simp append_assoc)
regroup front a (Err left) = refl

pub goes_on : {A : Type 0} (item : ℕ → List ℕ → Reading A) (front : List A) (count i : ℕ) (bytes : List ℕ) (a : A) (after : List ℕ) (total : Reading (List A)) → i < count → item (i + 1) bytes ≡ Ok (a, after)
    → with_front front (each_at item (i + 1) (count - i) bytes) ≡ total → with_front (front ++ a ∷ []) (each_at item (i + 1 + 1) (count - (i + 1)) after) ≡ total
goes_on item front count i bytes a after total lt h so_far =
    let k : count - i ≡ suc (count - (i + 1)) = omega arith in
    let one : with_front front (each_at item (i + 1) (count - i) bytes) ≡ with_front (front ++ a ∷ []) (each_at item (i + 1 + 1) (count - (i + 1)) after) = rw (k, h) (regroup front a (each_at item (i + 1 + 1) (count - (i + 1)) after)) in
    sym one ∙ so_far

pub ends : {A : Type 0} (e : Misread) (item : ℕ → List ℕ → Reading A) (front : List A) (count i : ℕ) (bytes : List ℕ) (total : Reading (List A)) → i < count → Fails e (item (i + 1) bytes)
    → with_front front (each_at item (i + 1) (count - i) bytes) ≡ total → Fails e total
ends misreads.NoMemory item front count i bytes total lt h so_far = tt
ends (misreads.Left left) item front count i bytes total lt h so_far =
    let k : count - i ≡ suc (count - (i + 1)) = omega arith in
    let one : with_front front (each_at item (i + 1) (count - i) bytes) ≡ Err left = rw (k, h) refl in
    sym so_far ∙ one

-- ---- lines without a value

pub tests_go_on : (test : ℕ → List ℕ → Bool) (count i : ℕ) (bytes after : List ℕ) (total : Reading ⊤) → i < count → test_at (test (i + 1)) bytes ≡ Ok (tt, after)
    → tests_at test (i + 1) (count - i) bytes ≡ total → tests_at test (i + 1 + 1) (count - (i + 1)) after ≡ total
tests_go_on test count i bytes after total lt h so_far =
    let k : count - i ≡ suc (count - (i + 1)) = omega arith in
    let one : tests_at test (i + 1) (count - i) bytes ≡ tests_at test (i + 1 + 1) (count - (i + 1)) after = rw (k, h) refl in
    sym one ∙ so_far

pub tests_end : (e : Misread) (test : ℕ → List ℕ → Bool) (count i : ℕ) (bytes : List ℕ) (total : Reading ⊤) → i < count → Fails e (test_at (test (i + 1)) bytes)
    → tests_at test (i + 1) (count - i) bytes ≡ total → Fails e total
tests_end misreads.NoMemory test count i bytes total lt h so_far = tt
tests_end (misreads.Left left) test count i bytes total lt h so_far =
    let k : count - i ≡ suc (count - (i + 1)) = omega arith in
    let one : tests_at test (i + 1) (count - i) bytes ≡ Err left = rw (k, h) refl in
    sym so_far ∙ one
