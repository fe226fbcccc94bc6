-- Two lists of classes that begin alike.
use Rattle.std.proofs.Common.{◌≡◌, ◌≤◌, ℕ, ◌+◌, List, ◌++◌, take, drop, sym, ap, subst, ◌∙◌}
use Rattle.std.proofs.Math.Seq.{take-add}
use Rattle.std.proofs.lemmas.List.{drop-take, take-take}
use Rattle.ot_base.specs.declared.tableau.ClassId.{ClassId}

-- both begin with some classes more
pub front-more : (front k m : ℕ) (xs ys : List ClassId) → m ≡ k → take front xs ≡ take front ys → take m (drop front xs) ≡ take m (drop front ys) → take (front + k) xs ≡ take (front + k) ys
front-more front k m xs ys e same more =
    take-add front k xs
    ∙ ap (λ (l : List ClassId). l ++ take k (drop front xs)) same
    ∙ ap (λ (l : List ClassId). take front ys ++ l) (subst (λ (j : ℕ). take j (drop front xs) ≡ take j (drop front ys)) e more)
    ∙ sym (take-add front k ys)

-- both begin with fewer classes too
pub front-fewer : (k n : ℕ) (xs ys : List ClassId) → k ≤ n → take n xs ≡ take n ys → take k xs ≡ take k ys
front-fewer k n xs ys fewer same = sym (take-take k n xs fewer) ∙ ap (λ (l : List ClassId). take k l) same ∙ take-take k n ys fewer

-- and then the classes behind a front are the same
pub front-behind : (front k m : ℕ) (xs ys : List ClassId) → m ≡ k → take (front + k) xs ≡ take (front + k) ys → take m (drop front xs) ≡ take m (drop front ys)
front-behind front k m xs ys e same =
    ap (λ (n : ℕ). take n (drop front xs)) e
    ∙ sym (drop-take front k xs)
    ∙ ap (λ (l : List ClassId). drop front l) same
    ∙ drop-take front k ys
    ∙ ap (λ (n : ℕ). take n (drop front ys)) (sym e)
