-- What stays of a seat and of a front over several calls.
use Rattle.std.proofs.Common.{ℕ, ◌<◌, ◌≤◌, List, [], ◌++◌, length, refl, sym, ◌∙◌, ap, arith, inl, inr, append_assoc}
use Rattle.std.proofs.lemmas.List.{append-nil}
use Rattle.std.proofs.lemmas.Bool.Decides.{leb_tells}
use Rattle.std.specs.Prelude.{◌⊎◌}
use Rattle.prefix_deques.specs.Lanes.{SeatView, gets_of}
use Rattle.refutation_store.specs.Fronts.{FrontView}
use Rattle.typology_workers.specs.Stays.{KeepsSeat, KeepsFront}
use Rattle.refutation.specs.Asked.{Begins}

-- which of two numbers is not above the other
pub side : (m n : ℕ) → (m < n) ⊎ (n ≤ m)
side m n = elim (leb_tells n m) [ inl h ↦ inr h.1 | inr h ↦ inl h.1 ]

pub begins-same : {A : Type 0} (xs : List A) → Begins xs xs
begins-same xs = record { rest = []; whole = sym (append-nil xs) }

pub begins-then : {A : Type 0} (xs ys zs : List A) → Begins xs ys → Begins ys zs → Begins xs zs
begins-then {A} xs ys zs a b = record { rest = a.rest ++ b.rest; whole = b.whole ∙ (ap (λ (l : List A). l ++ b.rest) a.whole ∙ append_assoc xs a.rest b.rest) }

pub seat-same : (s : SeatView) → KeepsSeat s s
seat-same s = record { number = refl; make = refl; room = refl; puts = begins-same s.puts; gets = λ v. begins-same (gets_of s v); back = begins-same s.back }

pub seat-then : (a b c : SeatView) → KeepsSeat a b → KeepsSeat b c → KeepsSeat a c
seat-then a b c f g = record {
  number = g.number ∙ f.number;
  make = g.make ∙ f.make;
  room = g.room ∙ f.room;
  puts = begins-then a.puts b.puts c.puts f.puts g.puts;
  gets = λ v. begins-then (gets_of a v) (gets_of b v) (gets_of c v) (f.gets v) (g.gets v);
  back = begins-then a.back b.back c.back f.back g.back;
}

pub front-same : (places : ℕ) (f : FrontView) → KeepsFront places f f
front-same places f = record { store = refl; values = begins-same f.values; misses = omega arith; within = λ h. absurd (omega arith) }

pub front-then : (places : ℕ) (a b c : FrontView) → KeepsFront places a b → KeepsFront places b c → KeepsFront places a c
front-then places a b c f g = record {
  store = g.store ∙ f.store;
  values = begins-then a.values b.values c.values f.values g.values;
  misses = (let x = f.misses in let y = g.misses in omega arith);
  within = λ h. inside h (f.within) (g.within);
}
  where
    inside : length a.values < length c.values → (length a.values < length b.values → length b.values ≤ places) → (length b.values < length c.values → length c.values ≤ places) → length c.values ≤ places
    inside h x y = elim (side (length b.values) (length c.values)) [ inl i ↦ y i | inr i ↦ let z = x (omega arith) in omega arith ]
