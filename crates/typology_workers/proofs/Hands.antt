-- Prefixes that are put, or come back.
use Rattle.std.proofs.Common.{◌≡◌, ℕ, ◌+◌, List, [], ◌∷◌, ◌++◌, map, sym, ◌∙◌, ap, subst, arith}
use Rattle.ot_theory.specs.Rankings.{numbers_below}
use Rattle.ot_theory.proofs.Terms.{numbers_below-more}
use Rattle.std.proofs.lemmas.List.{map-append}
use Rattle.prefix_deques.specs.Lanes.{SeatView}
use Rattle.typology_workers.specs.Turns.{HasHanded}
use Rattle.typology_workers.proofs.Gains.{times-append}

pub handed-then : (ps qs : List (List ℕ)) (a b c : SeatView) (x y z : List (List ℕ)) → HasHanded ps a b x y → HasHanded qs b c y z → HasHanded (ps ++ qs) a c x z
handed-then ps qs a b c x y z f g = record {
  places = g.places;
  gets = g.gets ∙ f.gets;
  misses = g.misses ∙ f.misses;
  each = λ p. let e = f.each p in let h = g.each p in let t = times-append p ps qs in omega arith;
  back = λ p. let e = f.back p in let h = g.back p in omega arith;
  room = λ lt. let w = g.longer in let r = g.same in g.room lt ∙ f.room (omega arith);
  longer = (let v = f.longer in let w = g.longer in omega arith);
  same = g.same ∙ f.same;
}

abbrev pub children_to : List ℕ → ℕ → List (List ℕ)
children_to prefix n = map (λ a. prefix ++ a ∷ []) (numbers_below n)

pub handed-child : (prefix child : List ℕ) (n : ℕ) (a b c : SeatView) (x y z : List (List ℕ)) → HasHanded (children_to prefix n) a b x y → child ≡ prefix ++ n ∷ [] → HasHanded (child ∷ []) b c y z → HasHanded (children_to prefix (n + 1)) a c x z
handed-child prefix child n a b c x y z f e g =
    let more : children_to prefix (n + 1) ≡ children_to prefix n ++ child ∷ [] = ap (map (λ d. prefix ++ d ∷ [])) (numbers_below-more n) ∙ (map-append (λ d. prefix ++ d ∷ []) (numbers_below n) (n ∷ []) ∙ ap (λ (l : List ℕ). children_to prefix n ++ l ∷ []) (sym e)) in
    subst (λ (l : List (List ℕ)). HasHanded l a c x z) (sym more) (handed-then (children_to prefix n) (child ∷ []) a b c x y z f g)
