-- The seats of a new make have no misses.
use Rattle.std.proofs.Common.{◌≡◌, ℕ, suc, List, [], ◌∷◌, ◌++◌, length, refl, subst, Some, slice_get}
use Rattle.std.specs.Prelude.{All, Result, Ok, Err, IfOk}
use Rattle.std.proofs.lemmas.List.Elements.{All-cons, All-head, All-nil, All-replicate, All-tail}
use Rattle.erc_vectors.specs.declared.list.NoMemory.{NoMemory}
use Rattle.prefix_deques.specs.Lanes.{SeatView}
use Rattle.prefix_deques.specs.Made.{AreNew}

abbrev pub HasNoMisses : SeatView → Type 0
HasNoMisses seat = All (λ misses. misses ≡ 0) seat.misses

all-at : (xs : List SeatView) → ((k : ℕ) (x : SeatView) → slice_get xs k ≡ Some x → HasNoMisses x) → All HasNoMisses xs
all-at [] h = All-nil HasNoMisses
all-at (x ∷ xs) h = All-cons HasNoMisses x xs (h 0 x refl) (all-at xs (λ k y e. h (suc k) y e))

pub none-missed : (made : Result (List SeatView) NoMemory) (n : ℕ) → IfOk made (AreNew n) → IfOk made (All HasNoMisses)
none-missed (Ok seats) n h = all-at seats (λ k seat at. rw (h.each k seat at).misses (All-replicate (λ (misses : ℕ). misses ≡ 0) (length h.make) 0 refl))
none-missed (Err e) n h = tt

last-of : (rest : List SeatView) (seat : SeatView) → All HasNoMisses (rest ++ seat ∷ []) → HasNoMisses seat
last-of [] seat h = All-head HasNoMisses seat [] h
last-of (x ∷ xs) seat h = last-of xs seat (All-tail HasNoMisses x (xs ++ seat ∷ []) h)

pub none-missed-by-last : (seats rest : List SeatView) (seat : SeatView) → All HasNoMisses seats → seats ≡ rest ++ seat ∷ [] → HasNoMisses seat
none-missed-by-last seats rest seat h e = last-of rest seat (subst (All HasNoMisses) e h)
