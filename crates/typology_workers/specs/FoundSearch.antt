-- A found search of a problem: what its workers and its gatherer did, and that they come to the typology of the problem.
use Rattle.std.specs.Prelude.{◌≡◌, ℕ, ◌+◌, ◌*◌, ◌^◌, ◌<◌, ◌≤◌, ◌⊎◌, List, [], ◌++◌, length, map, flat_map, take, drop, sum, slice_get, slice_index_or, Some, All, AllPairs}
use Rattle.std.specs.List.{Any}
use Rattle.ot_theory.specs.Languages.{IsTypology}
use Rattle.ot_theory.specs.Problems.{Problem}
use Rattle.ot_theory.specs.Refutations.{certificate_named, certificates, cuts}
use Rattle.prefix_deques.specs.Booked.{BooksView, DequeAgrees, IsMake, all_later}
use Rattle.prefix_deques.specs.Lanes.{SeatView}
use Rattle.refutation.specs.Asked.{Begins}
use Rattle.refutation.specs.Typologies.{certificates_of, cuts_of, found_of}
use Rattle.refutation.specs.declared.typology.Typology.{Typology}
use Rattle.refutation_store.specs.Fronts.{FrontView}
use Rattle.search_deeds.specs.Deeds.{AreBalanced, AreHonest, children, opened_in, times}
use Rattle.search_deeds.specs.Gathered.{AreGenuine, AreNamed, deeds_in, deeds_of}
use Rattle.search_deeds.specs.declared.deed.Deed.{Deed}
use Rattle.typology_workers.specs.Consulted.{AreConsulted}
use Rattle.typology_workers.specs.Settled.{AreIdle, got, prefixes_of}
use Rattle.typology_workers.specs.Worked.{HasLooked}
use Rattle.typology_workers.specs.declared.found.Found.{Found}

-- The languages of the problem, each with its least hierarchy, its cuts, each beside the first certificate that refutes it, and
-- its certificates.
pub record IsTypologyOf (problem : Problem) (typology : Typology) : Type 0 where
  pub languages : IsTypology problem (found_of typology.languages)
  pub all_cuts : cuts_of typology.cuts ≡ map (λ cut. (cut, certificate_named problem cut)) (cuts problem)
  pub all_certificates : certificates_of typology.certificates ≡ certificates problem
  pub genuine : AreGenuine problem typology.certificates
  pub named : AreNamed (length typology.certificates) typology.cuts

-- There is a list of deeds for each worker, and last that of the gatherer. The deeds are honest and balanced, and the typology is
-- that of the problem.
pub record TellsAll (problem : Problem) (workers : ℕ) (found : Found) : Type 0 where
  pub lists : length found.deeds ≡ workers + 1
  pub honest : AreHonest problem (deeds_of found.deeds)
  pub balanced : AreBalanced problem (deeds_of found.deeds)
  pub typology : IsTypologyOf problem found.typology

-- The books are of one seat for each worker, in the order of their numbers, and of one make. The books of every deque agree, and
-- what is left is, of each deque, the prefixes at the places from which nobody got. The store has so many places, and there is a
-- front of it for each worker.
pub record HasBooks (workers places : ℕ) (found : Found) : Type 0 where
  pub seats : length found.books.seats ≡ workers
  pub order : (k : ℕ) (seat : SeatView) → slice_get found.books.seats k ≡ Some seat → seat.number ≡ k
  pub make : IsMake found.books.seats
  pub agree : All (DequeAgrees found.books.seats) found.books.seats
  pub left : found.books.left ≡ all_later found.books.seats found.books.seats
  pub store : length found.store ≡ places
  pub fronts : length found.fronts ≡ workers
  pub of_store : All (λ front. front.store ≡ found.store) found.fronts

-- Each deque has given nothing at least 4,096 times since the seat last got or put something, or its gets and its misses, of all
-- deques together, are at least 2^40.
abbrev pub HasEnded : SeatView → Type 0
HasEnded seat = AreIdle 4096 seat ⊎ (2 ^ 40 ≤ length (got seat) + sum seat.misses)

-- The deeds of a worker are of the prefixes that its seat got, each as often. It tried the deques to the end, looked into the store,
-- consulted it and added to it.
pub record IsWorkers (problem : Problem) (places : ℕ) (seat : SeatView) (front : FrontView) (deeds : List Deed) : Type 0 where
  pub each : (prefix : List ℕ) → times prefix (prefixes_of deeds) ≡ times prefix (got seat)
  pub ended : HasEnded seat
  pub consulted : AreConsulted problem places front.values deeds
  pub looked : HasLooked places front (length deeds)

-- the deeds of the worker k are its seat's and its front's
abbrev pub AreWorkers : Problem → ℕ → Found → Type 0
AreWorkers problem places found =
    (k : ℕ) (seat : SeatView) (front : FrontView) (deeds : List Deed) → slice_get found.books.seats k ≡ Some seat → slice_get found.fronts k ≡ Some front → slice_get found.deeds k ≡ Some deeds
    → IsWorkers problem places seat front deeds

-- the deeds of the gatherer, which stand behind those of so many workers
abbrev pub gatherers : ℕ → List (List Deed) → List Deed
gatherers workers lists = slice_index_or lists workers []

-- how many prefixes there are once these deeds are done: the empty one, and the children of each opened one
abbrev pub prefixes_after : Problem → List Deed → ℕ
prefixes_after problem deeds = 1 + length (flat_map (children problem) (opened_in (deeds_in deeds)))

-- After these deeds none of the prefixes waits, fewer than so many of them do, or at least so many. Each deed settles one.
abbrev pub NoneWaits : Problem → List Deed → Type 0
NoneWaits problem deeds = prefixes_after problem deeds ≡ length deeds

abbrev pub FewWait : ℕ → Problem → List Deed → Type 0
FewWait enough problem deeds = prefixes_after problem deeds < length deeds + enough

abbrev pub ManyWait : ℕ → Problem → List Deed → Type 0
ManyWait enough problem deeds = length deeds + enough ≤ prefixes_after problem deeds

-- Prefixes are settled breadth first, so that their lengths never fall, while any wait and as long as fewer than enough do.
pub record IsOpening (problem : Problem) (enough : ℕ) (deeds : List Deed) : Type 0 where
  pub breadth_first : AllPairs (λ earlier later. length earlier.prefix ≤ length later.prefix) deeds
  pub before : (j : ℕ) → j < length deeds → FewWait enough problem (take j deeds)
  pub after : NoneWaits problem deeds ⊎ ManyWait enough problem deeds

-- The gatherer opened prefixes until four times as many wait as there are workers, or none does, and dealt those that waited. These
-- are so many of its deeds, the first ones.
pub record HasDealt (problem : Problem) (workers : ℕ) (found : Found) : Type 0 where
  pub within : found.dealt ≤ length (gatherers workers found.deeds)
  pub opening : IsOpening problem (4 * workers) (take found.dealt (gatherers workers found.deeds))

-- what was left in the deques, or handed back to a seat
abbrev pub unsettled : BooksView → List (List ℕ)
unsettled books = books.left ++ flat_map (λ seat. seat.back) books.seats

-- the prefix extends or equals one of these
abbrev pub ExtendsOne : List (List ℕ) → List ℕ → Type 0
ExtendsOne prefixes prefix = Any (λ front. Begins front prefix) prefixes

-- After the deal the gatherer settled only what the workers left, and what extends that.
abbrev pub SettlesRest : ℕ → Found → Type 0
SettlesRest workers found = All (λ deed. ExtendsOne (unsettled found.books) deed.prefix) (drop found.dealt (gatherers workers found.deeds))

-- A found search of a problem, with so many workers and so many places for contradictions.
pub record IsFoundSearch (problem : Problem) (workers places : ℕ) (found : Found) : Type 0 where
  pub told : TellsAll problem workers found
  pub booked : HasBooks workers places found
  pub worked : AreWorkers problem places found
  pub dealt : HasDealt problem workers found
  pub rest : SettlesRest workers found
