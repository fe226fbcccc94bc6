-- A state is finished exactly where all queues, hands and outboxes are empty. Its deeds are then balanced.
use Rattle.std.proofs.Common.{◌≡◌, ◌↔◌, ℕ, zero, suc, ◌<◌, List, [], ◌∷◌, ◌++◌, Bool, true, false, not, ◌&&◌, ◌==◌, arith, refl, sym, ◌∙◌, ap, subst, inl, inr, length, map, flat_map, Option, Some, None}
use Rattle.std.specs.Prelude.{All, slice_get, is_none, nat_eq, count_by, nat_lt, IsTrue}
use Rattle.std.specs.Cmp.Lexicographic.{pointwise}
use Rattle.std.specs.List.{list_all}
use Rattle.std.specs.Option.{option_map_or}
use Rattle.std.proofs.lemmas.Bool.{and_parts, and_from}
use Rattle.std.proofs.lemmas.Bool.Decides.{eqb_tells}
use Rattle.std.proofs.lemmas.Option.{slice_get_within, slice_get-get_or}
use Rattle.std.proofs.lemmas.List.Elements.{All-append, All-head, All-tail, All-nil}
use Rattle.ot_theory.specs.Problems.{Problem}
use Rattle.search_deeds.specs.Deeds.{Deed, AreBalanced, AreHonest, IsTrueOf}
use Rattle.search_machine.specs.Machine.{Hand, State, IsFinished, is_empty, is_filled, is_holding, is_idle, is_unknown}
use Rattle.search_machine.specs.Kept.{IsKept, all_deeds, held, waiting}
use Rattle.search_deeds.specs.Gathered.{deeds_in, deeds_of}
use Rattle.search_machine.specs.Seen.{hands_seen}
use Rattle.search_deeds.specs.declared.deed.Deed as done
use Rattle.search_machine.specs.declared.hand.Hand as raw
use Rattle.search_machine.specs.declared.step.Step.TheVariants.{Take, Steal, Consult, Learn, Settle, Put}

-- what passes at each place passes at all, and the other way round
all-places : {X : Type 0} (test : X → Bool) (xs : List X) → ((k : ℕ) (x : X) → slice_get xs k ≡ Some x → test x ≡ true) → list_all test xs ≡ true
all-places test [] h = refl
all-places test (x ∷ xs) h = and_from (test x) (list_all test xs) (h 0 x refl) (all-places test xs (λ k y e. h (suc k) y e))

at-place : {X : Type 0} (test : X → Bool) (xs : List X) (k : ℕ) (x : X) → list_all test xs ≡ true → slice_get xs k ≡ Some x → test x ≡ true
at-place test [] k x h e = absurd (cc)
at-place test (y ∷ xs) zero x h e = let same : y ≡ x = cc in ap test (sym same) ∙ (and_parts (test y) (list_all test xs) h).0
at-place test (y ∷ xs) (suc k) x h e = at-place test xs k x (and_parts (test y) (list_all test xs) h).1 e

none-filled : (lists : List (List (List ℕ))) (k : ℕ) → list_all (λ list. length list == 0) lists ≡ true → is_filled lists k ≡ false
none-filled lists k h = by (slice_get lists k) refl
  where
    by : (slot : Option (List (List ℕ))) → slice_get lists k ≡ slot → option_map_or (λ (list : List (List ℕ)). not (length list == 0)) slot false ≡ false
    by None e = refl
    by (Some list) e = ap not (at-place (λ (l : List (List ℕ)). length l == 0) lists k list h e)

none-holds : (test : Hand → Bool) (hands : List (Option Hand)) (k : ℕ) → list_all (λ hand. is_none hand) hands ≡ true → is_holding test hands k ≡ false
none-holds test hands k h = by (slice_get hands k) refl
  where
    by : (slot : Option (Option Hand)) → slice_get hands k ≡ slot → option_map_or (λ hand. option_map_or test hand false) slot false ≡ false
    by None e = refl
    by (Some None) e = refl
    by (Some (Some hand)) e = absurd (let n : is_none (Some hand) ≡ true = at-place (λ (x : Option Hand). is_none x) hands k (Some hand) h e in cc)

and-false : (a : Bool) → (a && false) ≡ false
and-false true = refl
and-false false = refl

empty-finished : (state : State) → is_empty state ≡ true → IsFinished state
empty-finished state h =
    let a = and_parts (list_all (λ queue. length queue == 0) state.queues) (list_all (λ hand. is_none hand) state.hands && list_all (λ outbox. length outbox == 0) state.outboxes) h in
    let b = and_parts (list_all (λ hand. is_none hand) state.hands) (list_all (λ outbox. length outbox == 0) state.outboxes) a.1 in
    by a.0 b.0 b.1
  where
    by : list_all (λ queue. length queue == 0) state.queues ≡ true → list_all (λ hand. is_none hand) state.hands ≡ true → list_all (λ outbox. length outbox == 0) state.outboxes ≡ true → IsFinished state
    by q n o (Take w) = ap (λ b. is_idle state.hands w && b) (none-filled state.queues w q) ∙ and-false (is_idle state.hands w)
    by q n o (Steal w v) = ap (λ b. not (v == w) && (is_idle state.hands w && b)) (none-filled state.queues v q) ∙ ap (λ b. not (v == w) && b) (and-false (is_idle state.hands w)) ∙ and-false (not (v == w))
    by q n o (Consult w) = none-holds (λ hand. is_unknown hand.mark && nat_lt hand.cursor (length state.store)) state.hands w n
    by q n o (Learn w) = none-holds (λ hand. is_unknown hand.mark) state.hands w n
    by q n o (Settle w) = none-holds (λ hand. not (is_unknown hand.mark)) state.hands w n
    by q n o (Put w) = none-filled state.outboxes w o

suc-nonzero : (n : ℕ) → (suc n == 0) ≡ false
suc-nonzero n = elim (eqb_tells (suc n) 0) [ inl same ↦ absurd (omega (arith, same.1)) | inr other ↦ other.0 ]

empty-list : (list : List (List ℕ)) → not (length list == 0) ≡ false → (length list == 0) ≡ true
empty-list [] h = refl
empty-list (x ∷ list) h = absurd (let e : true ≡ false = sym (ap not (suc-nonzero (length list))) ∙ h in cc)

finished-empty : (state : State) → length state.queues ≡ length state.hands → IsFinished state → is_empty state ≡ true
finished-empty state many h =
    let none : list_all (λ hand. is_none hand) state.hands ≡ true = all-places (λ hand. is_none hand) state.hands (λ k hand e. no-hand k hand e) in
    and_from (list_all (λ queue. length queue == 0) state.queues) (list_all (λ hand. is_none hand) state.hands && list_all (λ outbox. length outbox == 0) state.outboxes)
    (all-places (λ queue. length queue == 0) state.queues (λ k queue e. no-queue k queue e none))
    (and_from (list_all (λ hand. is_none hand) state.hands) (list_all (λ outbox. length outbox == 0) state.outboxes) none
    (all-places (λ outbox. length outbox == 0) state.outboxes (λ k outbox e. empty-list outbox (ap (λ (slot : Option (List (List ℕ))). option_map_or (λ (list : List (List ℕ)). not (length list == 0)) slot false) (sym e) ∙ h (Put k)))))
  where
    no-hand : (k : ℕ) (hand : Option Hand) → slice_get state.hands k ≡ Some hand → is_none hand ≡ true
    no-hand k None e = refl
    no-hand k (Some hand) e =
        let a : is_unknown hand.mark ≡ false = ap (λ (slot : Option (Option Hand)). option_map_or (λ (x : Option Hand). option_map_or (λ (y : Hand). is_unknown y.mark) x false) slot false) (sym e) ∙ h (Learn k) in
        let b : not (is_unknown hand.mark) ≡ false = ap (λ (slot : Option (Option Hand)). option_map_or (λ (x : Option Hand). option_map_or (λ (y : Hand). not (is_unknown y.mark)) x false) slot false) (sym e) ∙ h (Settle k) in
        absurd (let d : true ≡ false = sym (ap not a) ∙ b in cc)

    no-queue : (k : ℕ) (queue : List (List ℕ)) → slice_get state.queues k ≡ Some queue → list_all (λ hand. is_none hand) state.hands ≡ true → (length queue == 0) ≡ true
    no-queue k queue e none =
        let within : k < length state.hands = omega (arith, slice_get_within state.queues k queue e, many) in
        let slot = slice_get-get_or state.hands k None within in
        let idle : is_idle state.hands k ≡ true = ap (λ (s : Option (Option Hand)). option_map_or (λ (x : Option Hand). is_none x) s false) slot ∙ at-place (λ (x : Option Hand). is_none x) state.hands k _ none slot in
        let filled : is_filled state.queues k ≡ not (length queue == 0) = ap (λ (s : Option (List (List ℕ))). option_map_or (λ (list : List (List ℕ)). not (length list == 0)) s false) e in
        empty-list queue (sym (ap (λ b. b && not (length queue == 0)) idle) ∙ ap (λ b. is_idle state.hands k && b) (sym filled) ∙ h (Take k))

pub finished : (state : State) → length state.queues ≡ length state.hands → IsFinished state ↔ is_empty state ≡ true
finished state many = (finished-empty state many, empty-finished state)

-- Nothing waits where all are empty.
none-in : (lists : List (List (List ℕ))) → list_all (λ list. length list == 0) lists ≡ true → flat_map (λ (list : List (List ℕ)). list) lists ≡ []
none-in [] h = refl
none-in ([] ∷ lists) h = none-in lists h
none-in ((x ∷ list) ∷ lists) h = absurd (let e : false ≡ true = sym (suc-nonzero (length list)) ∙ (and_parts (length (x ∷ list) == 0) (list_all (λ (l : List (List ℕ)). length l == 0) lists) h).0 in cc)

none-held : (hands : List (Option Hand)) → list_all (λ hand. is_none hand) hands ≡ true → flat_map held hands ≡ []
none-held [] h = refl
none-held (None ∷ hands) h = none-held hands h
none-held (Some x ∷ hands) h = absurd (let e : false ≡ true = h in cc)

none-waiting : (state : State) → is_empty state ≡ true → waiting state ≡ []
none-waiting state h =
    let a = and_parts (list_all (λ queue. length queue == 0) state.queues) (list_all (λ hand. is_none hand) state.hands && list_all (λ outbox. length outbox == 0) state.outboxes) h in
    let b = and_parts (list_all (λ hand. is_none hand) state.hands) (list_all (λ outbox. length outbox == 0) state.outboxes) a.1 in
    ap (λ (l : List (List ℕ)). l ++ (flat_map held state.hands ++ flat_map (λ outbox. outbox) state.outboxes)) (none-in state.queues a.0)
    ∙ ap (λ (l : List (List ℕ)). l ++ flat_map (λ outbox. outbox) state.outboxes) (none-held state.hands b.0)
    ∙ none-in state.outboxes b.1

all-honest : (problem : Problem) (lists : List (List Deed)) → All (AreHonest problem) lists → AreHonest problem (flat_map (λ (deeds : List Deed). deeds) lists)
all-honest problem [] h = All-nil (λ (d : Deed). IsTrueOf problem d.prefix d.fate)
all-honest problem (list ∷ lists) h =
    All-append (λ (d : Deed). IsTrueOf problem d.prefix d.fate) list (flat_map (λ (deeds : List Deed). deeds) lists) (All-head (AreHonest problem) list lists h) (all-honest problem lists (All-tail (AreHonest problem) list lists h))

pub kept-honest : (problem : Problem) (state : State) → IsKept problem state → AreHonest problem (all_deeds state)
kept-honest problem state kept = all-honest problem state.deeds kept.honest

pub kept-balanced : (problem : Problem) (state : State) → IsKept problem state → is_empty state ≡ true → AreBalanced problem (all_deeds state)
kept-balanced problem state kept empty prefix =
    let e = kept.together (pointwise nat_eq prefix) in
    let n = ap (count_by (pointwise nat_eq prefix)) (none-waiting state empty) in
    omega arith

-- the deeds of the program, as the machine has them
pub deeds-seen : (lists : List (List done.Deed)) → flat_map (λ (deeds : List Deed). deeds) (map deeds_in lists) ≡ deeds_of lists
deeds-seen [] = refl
deeds-seen (list ∷ lists) = ap (λ (l : List Deed). deeds_in list ++ l) (deeds-seen lists)

-- what the hands of the program hold
pub none-seen : (hands : List (Option raw.Hand)) → list_all (λ hand. is_none hand) hands ≡ list_all (λ hand. is_none hand) (hands_seen hands)
none-seen [] = refl
none-seen (None ∷ hands) = none-seen hands
none-seen (Some hand ∷ hands) = refl

pub told-finished : (state : State) (told : Bool) → length state.queues ≡ length state.hands → told ≡ is_empty state → IsTrue told ↔ IsFinished state
told-finished state told many e = let f = finished state many in (λ h. f.1 (sym e ∙ h), λ h. e ∙ f.0 h)

pub told-honest : (problem : Problem) (state : State) (lists told : List (List done.Deed)) → IsKept problem state → state.deeds ≡ map deeds_in lists → told ≡ lists → AreHonest problem (deeds_of told)
told-honest problem state lists told kept e same =
    subst (AreHonest problem) (ap (flat_map (λ (deeds : List Deed). deeds)) e ∙ deeds-seen lists ∙ ap deeds_of (sym same)) (kept-honest problem state kept)

pub told-balanced : (problem : Problem) (state : State) (lists told : List (List done.Deed)) → IsKept problem state → state.deeds ≡ map deeds_in lists → told ≡ lists → is_empty state ≡ true → AreBalanced problem (deeds_of told)
told-balanced problem state lists told kept e same empty =
    subst (AreBalanced problem) (ap (flat_map (λ (deeds : List Deed). deeds)) e ∙ deeds-seen lists ∙ ap deeds_of (sym same)) (kept-balanced problem state kept empty)

-- the program's test whether all are empty
pub spent : (state : State) (queues : List (List (List ℕ))) (hands : List (Option raw.Hand)) (outboxes queues' : List (List (List ℕ))) (hands' : List (Option raw.Hand)) (outboxes' : List (List (List ℕ))) (told : Bool)
    → queues' ≡ queues → hands' ≡ hands → outboxes' ≡ outboxes
    → told ≡ (list_all (λ queue. length queue == 0) queues' && (list_all (λ hand. is_none hand) hands' && list_all (λ outbox. length outbox == 0) outboxes'))
    → told ≡ is_empty (record state { queues = queues; hands = hands_seen hands; outboxes = outboxes })
spent state queues hands outboxes queues' hands' outboxes' told q h o e =
    e
    ∙ ap (λ (l : List (List (List ℕ))). list_all (λ queue. length queue == 0) l && (list_all (λ hand. is_none hand) hands' && list_all (λ outbox. length outbox == 0) outboxes')) q
    ∙ ap (λ (l : List (Option raw.Hand)). list_all (λ queue. length queue == 0) queues && (list_all (λ hand. is_none hand) l && list_all (λ outbox. length outbox == 0) outboxes')) h
    ∙ ap (λ b. list_all (λ queue. length queue == 0) queues && (b && list_all (λ outbox. length outbox == 0) outboxes')) (none-seen hands)
    ∙ ap (λ (l : List (List (List ℕ))). list_all (λ queue. length queue == 0) queues && (list_all (λ hand. is_none hand) (hands_seen hands) && list_all (λ outbox. length outbox == 0) l)) o
