-- Each choice stands in one place.
use Rattle.std.proofs.Common.{◌≡◌, ℕ, zero, suc, ◌+◌, ◌<◌, List, [], ◌∷◌, ◌++◌, Bool, true, arith, refl, sym, ◌∙◌, ap, cond, length, map, flat_map, get_or, take, length-append, length-take}
use Rattle.std.specs.Prelude.{count_by, nat_lt}
use Rattle.std.specs.List.{range_with_len}
use Rattle.std.proofs.lemmas.Bool.{lt-ltb}
use Rattle.std.proofs.lemmas.List.{append-nil, take_more, take_all}
use Rattle.std.proofs.lemmas.List.Elements.{All-head, All-tail}
use Rattle.std.proofs.lemmas.List.Sums.{sum_by-append, sum_by-cons}
use Rattle.ot_theory.specs.Problems.{Problem}
use Rattle.ot_theory.specs.Languages.{classes_at}
use Rattle.search_deeds.specs.Deeds.{Deed, Fate, AreHonest, IsTrueOf, children, cut_by, cuts_in, language_by, languages_in, opened_by, opened_in, times}
use Rattle.search_deeds.specs.Deeds.Fate.{Opened, Language, Cut}
use Rattle.search_machine.specs.Kept.{IsKept, all_deeds}
use Rattle.search_machine.specs.Machine.{State}
use Rattle.search_machine.specs.Standing.{IsChoice, StandsOnce, is_below}
use Rattle.search_deeds.proofs.Counts.{same, times-cons}
use Rattle.search_machine.proofs.Finished.{kept-honest}
use Rattle.search_deeds.proofs.Reached.{children-all}

-- On prefixes of one length, standing below one is to begin with it.
below-range : (choice prefix : List ℕ) (s n : ℕ) → count_by (is_below choice) (map (λ a. prefix ++ a ∷ []) (range_with_len s n)) ≡ times (take (length prefix + 1) choice) (map (λ a. prefix ++ a ∷ []) (range_with_len s n))
below-range choice prefix s zero = refl
below-range choice prefix s (suc n) =
    let f : List ℕ → ℕ = λ x. cond (is_below choice x) 1 0 in
    let g : List ℕ → ℕ = λ x. cond (same (take (length prefix + 1) choice) x) 1 0 in
    let a = sum_by-cons f (prefix ++ s ∷ []) (map (λ a. prefix ++ a ∷ []) (range_with_len (s + 1) n)) in
    let b = sum_by-cons g (prefix ++ s ∷ []) (map (λ a. prefix ++ a ∷ []) (range_with_len (s + 1) n)) in
    let e : f (prefix ++ s ∷ []) ≡ g (prefix ++ s ∷ []) = ap (λ k. cond (same (take k choice) (prefix ++ s ∷ [])) 1 0) (length-append prefix (s ∷ [])) in
    let rest = below-range choice prefix (s + 1) n in
    omega arith

nothing-more : (n : ℕ) → n + 0 ≡ n
nothing-more n = omega arith

-- Below one of the children of a prefix stands each choice that stands below the prefix.
below-children : (problem : Problem) (choice prefix : List ℕ) → IsChoice problem choice → length prefix < length problem.inputs → count_by (is_below choice) (children problem prefix) ≡ cond (is_below choice prefix) 1 0
below-children problem choice prefix c short =
    let n : ℕ = length prefix in
    let within : n < length choice = omega (arith, c.1) in
    let class : ℕ = get_or choice n 0 in
    let front : List ℕ = take n choice in
    let long : length front ≡ n = omega (arith, length-take n choice) in
    let whole : take (n + 1) choice ≡ front ++ class ∷ [] = take_more choice n 0 within in
    let few : nat_lt class (length (classes_at problem (length front))) ≡ true = ap (λ k. nat_lt class (length (classes_at problem k))) long ∙ lt-ltb _ _ (c.0.within n within) in
    let one = children-all problem front class (prefix ∷ []) in
    below-range choice prefix 0 (length (classes_at problem n))
    ∙ ap (λ (l : List ℕ). times l (children problem prefix)) whole
    ∙ ap (times (front ++ class ∷ [])) (sym (append-nil (children problem prefix)))
    ∙ one
    ∙ ap (λ b. cond b (times front (prefix ∷ [])) 0) few
    ∙ times-cons front prefix []
    ∙ nothing-more (cond (same front prefix) 1 0)

-- Each deed: what stands below an opened prefix stands below its children, and below a full choice stands this choice alone.
below-deeds : (problem : Problem) (choice : List ℕ) (deeds : List Deed) → IsChoice problem choice → AreHonest problem deeds
    → count_by (is_below choice) (map (λ deed. deed.prefix) deeds)
    ≡ count_by (is_below choice) (flat_map (children problem) (opened_in deeds)) + (count_by (is_below choice) (cuts_in deeds) + times choice (map (λ language. language.0) (languages_in deeds)))
below-deeds problem choice [] c h = refl
below-deeds problem choice (deed ∷ deeds) c h =
    let f : List ℕ → ℕ = λ x. cond (is_below choice x) 1 0 in
    sum_by-cons f deed.prefix (map (λ (d : Deed). d.prefix) deeds)
    ∙ by deed.fate (All-head (λ (d : Deed). IsTrueOf problem d.prefix d.fate) deed deeds h) (below-deeds problem choice deeds c (All-tail (λ (d : Deed). IsTrueOf problem d.prefix d.fate) deed deeds h))
  where
    by : (fate : Fate) → IsTrueOf problem deed.prefix fate
        → count_by (is_below choice) (map (λ (d : Deed). d.prefix) deeds)
        ≡ count_by (is_below choice) (flat_map (children problem) (opened_in deeds)) + (count_by (is_below choice) (cuts_in deeds) + times choice (map (λ (l : List ℕ × List ℕ). l.0) (languages_in deeds)))
        → cond (is_below choice deed.prefix) 1 0 + count_by (is_below choice) (map (λ (d : Deed). d.prefix) deeds)
        ≡ count_by (is_below choice) (flat_map (children problem) (opened_by deed.prefix fate ++ opened_in deeds))
        + (count_by (is_below choice) (cut_by deed.prefix fate ++ cuts_in deeds) + times choice (map (λ (l : List ℕ × List ℕ). l.0) (language_by deed.prefix fate ++ languages_in deeds)))
    by Opened t rest =
        let a = sum_by-append (λ (x : List ℕ). cond (is_below choice x) 1 0) (children problem deed.prefix) (flat_map (children problem) (opened_in deeds)) in
        let b = below-children problem choice deed.prefix c t.1 in
        omega arith
    by (Language levels) t rest =
        let full : is_below choice deed.prefix ≡ same choice deed.prefix = ap (λ (l : List ℕ). same l deed.prefix) (ap (λ k. take k choice) (t.1 ∙ sym c.1) ∙ take_all (length choice) choice (omega arith)) in
        let a = times-cons choice deed.prefix (map (λ (l : List ℕ × List ℕ). l.0) (languages_in deeds)) in
        let b = ap {B = ℕ} (λ (x : Bool). cond x 1 0) full in
        omega (arith, rest, a, b)
    by (Cut terms) t rest =
        let a = sum_by-cons (λ (x : List ℕ). cond (is_below choice x) 1 0) deed.prefix (cuts_in deeds) in
        omega (arith, rest, a)

pub stands-once : (problem : Problem) (state : State) (choice : List ℕ) → IsKept problem state → IsChoice problem choice → StandsOnce state choice
stands-once problem state choice kept c =
    let e = kept.together (is_below choice) in
    let d = below-deeds problem choice (all_deeds state) c (kept-honest problem state kept) in
    let a = sum_by-cons (λ (x : List ℕ). cond (is_below choice x) 1 0) [] (flat_map (children problem) (opened_in (all_deeds state))) in
    omega (arith, e, d, a)
