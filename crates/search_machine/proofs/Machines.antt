-- The steps of the program are those of the machine, and keep what is true of its states.
use Rattle.std.proofs.Common.{◌≡◌, ℕ, zero, suc, ◌<◌, ◌≤◌, List, [], ◌∷◌, ◌++◌, Bool, true, false, not, ◌&&◌, arith, refl, sym, ◌∙◌, ap, subst, cond, length, map, flat_map, get_or, set, take, drop, replicate, Option, Some, None, Result, Ok, Err}
use Rattle.std.specs.Prelude.{All, IfSome, OnOk, OnErr, slice_get, nat_lt, option_map}
use Rattle.std.specs.Option.{option_map_or}
use Rattle.search_machine.specs.declared.step.Step.TheVariants.{Consult, Learn, Settle}
use Rattle.search_deeds.specs.declared.deed.Deed as done
use Rattle.refutation.specs.Typologies.{certificates_of}
use Rattle.refutation.specs.declared.contradiction.Contradiction.{Contradiction}
use Rattle.search_deeds.specs.Gathered.{deeds_in}
use Rattle.search_machine.specs.Held.{IsSettled}
use Rattle.std.proofs.lemmas.Bool.{and_parts, ltb-true}
use Rattle.std.proofs.lemmas.List.{map-set, set-get_or, length-map}
use Rattle.std.proofs.lemmas.List.Elements.{All-set}
use Rattle.std.proofs.lemmas.Option.{get_or_from_slice_get, slice_get_within, slice_get-get_or}
use Rattle.std.proofs.Math.ListN as listn
use Rattle.ot_theory.specs.Problems.{Problem}
use Rattle.ot_theory.specs.Languages.{Term}
use Rattle.ot_theory.specs.Refutations.{is_contradiction, refutes}
use Rattle.search_deeds.specs.Deeds.{Deed, Fate, children, opened_by}
use Rattle.search_machine.specs.Machine.{Hand, IsFate, IsFateOf, Mark, State, consulted, in_hand, is_enabled, is_filled, is_idle, is_unknown, judged, judging, learnt, passing, picked, posted, settled, start, store_with}
use Rattle.search_machine.specs.Machine.Mark.{Refuted}
use Rattle.search_machine.specs.Seen.{HasLeast, hand_seen, hands_seen}
use Rattle.search_machine.specs.Kept.{IsKept, IsTrueHand, IsTrueMark}
use Rattle.search_machine.specs.declared.hand.Hand as raw
use Rattle.search_machine.proofs.Slots.{All-at, Filled-from, Holds-from, idle-here}
use Rattle.search_machine.proofs.StepsKeep.{all-alike, kept-start, kept-marked, kept-picked, kept-posted, kept-settled, stored-entries, with_deed}

-- what a machine comes to by a step that may fail: the hands, the state, and how they answer to those before
pub record Comes {A B : Type 0} (problem : Problem) (hands : List (Option raw.Hand)) (before made after : State) (result : Result A B) : Type 0 where
  pub kept : IsKept problem after
  pub least : All (HasLeast problem) hands
  pub ok : OnOk result (after ≡ made)
  pub same : OnErr result (after ≡ before)

pub OnOk-map : {A B P Q : Type 0} (result : Result A B) → (P → Q) → OnOk result P → OnOk result Q
OnOk-map (Ok x) f h = f h
OnOk-map (Err e) f h = tt

-- Take and Steal.
pub record Picks (problem : Problem) (hands : List (Option raw.Hand)) (made after : State) : Type 0 where
  pub kept : IsKept problem after
  pub least : All (HasLeast problem) hands
  pub is : after ≡ made

abbrev pub state_with : List (List (List ℕ)) → List (Option raw.Hand) → List (List (List ℕ)) → List (List Deed) → List (List Term) → State
state_with queues hands outboxes deeds store = record { queues = queues; hands = hands_seen hands; outboxes = outboxes; deeds = deeds; store = store }

pub picks : (problem : Problem) (queues : List (List (List ℕ))) (hands : List (Option raw.Hand)) (outboxes : List (List (List ℕ))) (deeds : List (List Deed)) (store : List (List Term)) (w v : ℕ) (prefix : List ℕ) (old queue : List (List ℕ)) (hand : raw.Hand)
    → is_idle (hands_seen hands) w ≡ true → is_filled queues v ≡ true → old ≡ get_or queues v old → Some prefix ≡ slice_get old 0 → queue ≡ drop 1 old → hand_seen hand ≡ in_hand prefix → HasLeast problem (Some hand)
    → IsKept problem (state_with queues hands outboxes deeds store) → All (HasLeast problem) hands
    → Picks problem (set hands w (Some hand)) (picked (state_with queues hands outboxes deeds store) w v) (state_with (set queues v queue) (set hands w (Some hand)) outboxes deeds store)
picks problem queues hands outboxes deeds store w v prefix old queue hand idle filled value front rest seen least kept all =
    let f = Filled-from queues v filled in
    let h : slice_get (hands_seen hands) w ≡ Some None = idle-here (hands_seen hands) w idle in
    let o : old ≡ f.front ∷ f.rest = value ∙ get_or_from_slice_get queues v (f.front ∷ f.rest) old f.here in
    let first : prefix ≡ f.front = let e : Some prefix ≡ Some f.front = front ∙ ap (λ (l : List (List ℕ)). slice_get l 0) o in cc in
    let behind : queue ≡ f.rest = rest ∙ ap (drop 1) o in
    let before : State = state_with queues hands outboxes deeds store in
    let made : State = record before { queues = set queues v f.rest; hands = set (hands_seen hands) w (Some (in_hand f.front)) } in
    let hands_are : hands_seen (set hands w (Some hand)) ≡ set (hands_seen hands) w (Some (in_hand f.front)) = map-set (option_map hand_seen) hands w (Some hand) ∙ ap (λ (x : Hand). set (hands_seen hands) w (Some x)) (seen ∙ ap in_hand first) in
    let is_made : state_with (set queues v queue) (set hands w (Some hand)) outboxes deeds store ≡ made =
    ap (λ (q : List (List ℕ)). state_with (set queues v q) (set hands w (Some hand)) outboxes deeds store) behind
    ∙ ap (λ (l : List (Option Hand)). record before { queues = set queues v f.rest; hands = l }) hands_are in
    let is_picked : picked before w v ≡ made =
    ap (λ (q : List (List ℕ)). record before { queues = set queues v (drop 1 q); hands = set (hands_seen hands) w (option_map in_hand (slice_get q 0)) }) (get_or_from_slice_get queues v (f.front ∷ f.rest) [] f.here) in
    record {
      kept = subst (IsKept problem) (sym is_made) (kept-picked problem before w v f.front f.rest f.here h kept);
      least = All-set (HasLeast problem) hands w (Some hand) least all;
      is = is_made ∙ sym is_picked;
    }

-- The hand of a worker that holds something, as it is seen.
pub seen-here : (hands : List (Option raw.Hand)) (w : ℕ) (hand : Hand) (old : Option raw.Hand) → slice_get (hands_seen hands) w ≡ Some (Some hand) → old ≡ get_or hands w old → option_map hand_seen old ≡ Some hand
seen-here hands w hand old h value =
    ap (option_map hand_seen) value
    ∙ sym (listn.get_or-map (option_map hand_seen) hands w old)
    ∙ get_or_from_slice_get (hands_seen hands) w (Some hand) (option_map hand_seen old) h

-- what is put back changes nothing
same-hand : (hands : List (Option raw.Hand)) (w : ℕ) (old new : Option raw.Hand) → old ≡ get_or hands w old → new ≡ old → set hands w new ≡ hands
same-hand hands w old new value e = ap (set hands w) (e ∙ value) ∙ set-get_or hands w old

within-seen : (hands : List (Option raw.Hand)) (w : ℕ) (hand : Hand) → slice_get (hands_seen hands) w ≡ Some (Some hand) → w < length hands
within-seen hands w hand h = omega (arith, slice_get_within (hands_seen hands) w (Some hand) h, length-map hands (option_map hand_seen))

least-here : (problem : Problem) (hands : List (Option raw.Hand)) (w : ℕ) (old : Option raw.Hand) → w < length hands → old ≡ get_or hands w old → All (HasLeast problem) hands → HasLeast problem old
least-here problem hands w old within value all = subst (HasLeast problem) (sym value) (all w old within)

-- Consult.
pub passed-mark : (problem : Problem) (prefix : List ℕ) (mark : Mark) (entry : List Term) → is_contradiction problem entry ≡ true → IsTrueMark problem prefix mark → IsTrueMark problem prefix (cond (refutes entry prefix) (Refuted entry) mark)
passed-mark problem prefix mark entry genuine t = by (refutes entry prefix) refl
  where
    by : (b : Bool) → refutes entry prefix ≡ b → IsTrueMark problem prefix (cond b (Refuted entry) mark)
    by true e = (genuine, e)
    by false e = t

pub consults : {A B : Type 0} (problem : Problem) (queues : List (List (List ℕ))) (hands : List (Option raw.Hand)) (outboxes : List (List (List ℕ))) (deeds : List (List Deed)) (store : List (List Term)) (w : ℕ) (old new : Option raw.Hand) (result : Result A B)
    → is_enabled (state_with queues hands outboxes deeds store) (Consult w) ≡ true → old ≡ get_or hands w old
    → OnOk result (option_map hand_seen new ≡ option_map (λ held. passing (get_or store held.cursor []) held) (option_map hand_seen old)) → OnOk result ((p : Problem) → HasLeast p old → HasLeast p new) → OnErr result (new ≡ old)
    → IsKept problem (state_with queues hands outboxes deeds store) → All (HasLeast problem) hands
    → Comes problem (set hands w new) (state_with queues hands outboxes deeds store) (consulted (state_with queues hands outboxes deeds store) w) (state_with queues (set hands w new) outboxes deeds store) result
consults problem queues hands outboxes deeds store w old new (Err e) enabled value seen least same kept all =
    let back : set hands w new ≡ hands = same-hand hands w old new value same in
    let e : state_with queues (set hands w new) outboxes deeds store ≡ state_with queues hands outboxes deeds store = ap (λ (l : List (Option raw.Hand)). state_with queues l outboxes deeds store) back in
    record { kept = subst (IsKept problem) (sym e) kept; least = subst (All (HasLeast problem)) (sym back) all; ok = tt; same = e }
consults problem queues hands outboxes deeds store w old new (Ok x) enabled value seen least same kept all =
    let before : State = state_with queues hands outboxes deeds store in
    let h = Holds-from (λ hand. is_unknown hand.mark && nat_lt hand.cursor (length store)) (hands_seen hands) w enabled in
    let cursor : h.hand.cursor < length store = ltb-true _ _ (and_parts _ _ h.passes).1 in
    let entry : List Term = get_or store h.hand.cursor [] in
    let mine : IsTrueHand problem (Some h.hand) = All-at (IsTrueHand problem) (hands_seen hands) w (Some h.hand) kept.marks h.here in
    let now : option_map hand_seen new ≡ Some (passing entry h.hand) = seen ∙ ap (option_map (λ held. passing (get_or store held.cursor []) held)) (seen-here hands w h.hand old h.here value) in
    let e : state_with queues (set hands w new) outboxes deeds store ≡ record before { hands = set (hands_seen hands) w (Some (passing entry h.hand)) } =
    ap (λ (l : List (Option Hand)). record before { hands = l }) (map-set (option_map hand_seen) hands w new ∙ ap (set (hands_seen hands) w) now) in
    let there : get_or (hands_seen hands) w None ≡ Some h.hand = get_or_from_slice_get (hands_seen hands) w (Some h.hand) None h.here in
    record {
      kept = subst (IsKept problem) (sym e) (kept-marked problem before w h.hand (passing entry h.hand) store h.here refl (passed-mark problem h.hand.prefix h.hand.mark entry (kept.entries h.hand.cursor [] cursor) mine.1) kept.entries kept);
      least = All-set (HasLeast problem) hands w new (least problem (least-here problem hands w old (within-seen hands w h.hand h.here) value all)) all;
      ok = e ∙ sym (ap (λ (o : Option Hand). option_map_or (λ (hand : Hand). record before { hands = set (hands_seen hands) w (Some (passing (get_or store hand.cursor []) hand)) }) o before) there);
      same = tt;
    }

-- Put.
pub posts : {A B : Type 0} (problem : Problem) (queues : List (List (List ℕ))) (hands : List (Option raw.Hand)) (outboxes : List (List (List ℕ))) (deeds : List (List Deed)) (store : List (List Term)) (w : ℕ) (outbox left queue more : List (List ℕ)) (result : Result A B)
    → is_filled outboxes w ≡ true → outbox ≡ get_or outboxes w outbox → queue ≡ get_or queues w queue → OnOk result (left ≡ drop 1 outbox) → OnOk result (more ≡ queue ++ take 1 outbox) → OnErr result (left ≡ outbox) → OnErr result (more ≡ queue)
    → IsKept problem (state_with queues hands outboxes deeds store) → All (HasLeast problem) hands
    → Comes problem hands (state_with queues hands outboxes deeds store) (posted (state_with queues hands outboxes deeds store) w) (state_with (set queues w more) hands (set outboxes w left) deeds store) result
posts problem queues hands outboxes deeds store w outbox left queue more (Err x) filled o q a b c d kept all =
    let e : state_with (set queues w more) hands (set outboxes w left) deeds store ≡ state_with queues hands outboxes deeds store =
    ap (λ (l : List (List (List ℕ))). state_with l hands (set outboxes w left) deeds store) (ap (set queues w) (d ∙ q) ∙ set-get_or queues w queue)
    ∙ ap (λ (l : List (List (List ℕ))). state_with queues hands l deeds store) (ap (set outboxes w) (c ∙ o) ∙ set-get_or outboxes w outbox) in
    record { kept = subst (IsKept problem) (sym e) kept; least = all; ok = tt; same = e }
posts problem queues hands outboxes deeds store w outbox left queue more (Ok x) filled o q a b c d kept all =
    let before : State = state_with queues hands outboxes deeds store in
    let f = Filled-from outboxes w filled in
    let within : w < length queues = omega (arith, slice_get_within outboxes w (f.front ∷ f.rest) f.here, kept.as_many_queues, kept.as_many_outboxes) in
    let here : slice_get queues w ≡ Some queue = slice_get-get_or queues w queue within ∙ ap Some (sym q) in
    let box : outbox ≡ f.front ∷ f.rest = o ∙ get_or_from_slice_get outboxes w (f.front ∷ f.rest) outbox f.here in
    let made : State = record before { queues = set queues w (queue ++ f.front ∷ []); outboxes = set outboxes w f.rest } in
    let e : state_with (set queues w more) hands (set outboxes w left) deeds store ≡ made =
    ap (λ (l : List (List ℕ)). state_with (set queues w l) hands (set outboxes w left) deeds store) (b ∙ ap (λ (l : List (List ℕ)). queue ++ take 1 l) box)
    ∙ ap (λ (l : List (List ℕ)). state_with (set queues w (queue ++ f.front ∷ [])) hands (set outboxes w l) deeds store) (a ∙ ap (drop 1) box) in
    let is_posted : posted before w ≡ made =
    ap (λ (l : List (List ℕ)). record before { queues = set queues w (get_or queues w [] ++ take 1 l); outboxes = set outboxes w (drop 1 l) }) (get_or_from_slice_get outboxes w (f.front ∷ f.rest) [] f.here)
    ∙ ap (λ (l : List (List ℕ)). record before { queues = set queues w (l ++ f.front ∷ []); outboxes = set outboxes w f.rest }) (get_or_from_slice_get queues w queue [] here) in
    record { kept = subst (IsKept problem) (sym e) (kept-posted problem before w f.front f.rest queue f.here here kept); least = all; ok = e ∙ sym is_posted; same = tt }

-- Learn.
pub learns : (problem : Problem) (places : ℕ) (queues : List (List (List ℕ))) (hands : List (Option raw.Hand)) (outboxes : List (List (List ℕ))) (deeds : List (List Deed)) (store more : List (List Term)) (w : ℕ) (old new : Option raw.Hand)
    → is_enabled (state_with queues hands outboxes deeds store) (Learn w) ≡ true → old ≡ get_or hands w old → option_map hand_seen new ≡ option_map (judging problem) (option_map hand_seen old)
    → IfSome old (λ (held : raw.Hand). more ≡ store_with problem places store held.prefix) → IfSome old (λ (held : raw.Hand). IsTrueMark problem held.prefix (judged problem held.prefix)) → HasLeast problem new
    → IsKept problem (state_with queues hands outboxes deeds store) → All (HasLeast problem) hands
    → Picks problem (set hands w new) (learnt problem places (state_with queues hands outboxes deeds store) w) (state_with queues (set hands w new) outboxes deeds more)
learns problem places queues hands outboxes deeds store more w old new enabled value seen stored genuine least kept all =
    let h = Holds-from (λ hand. is_unknown hand.mark) (hands_seen hands) w enabled in
    by old (seen-here hands w h.hand old h.here value) seen stored genuine
  where
    by : (slot : Option raw.Hand) → option_map hand_seen slot ≡ Some (Holds-from (λ hand. is_unknown hand.mark) (hands_seen hands) w enabled).hand → option_map hand_seen new ≡ option_map (judging problem) (option_map hand_seen slot)
        → IfSome slot (λ (held : raw.Hand). more ≡ store_with problem places store held.prefix) → IfSome slot (λ (held : raw.Hand). IsTrueMark problem held.prefix (judged problem held.prefix))
        → Picks problem (set hands w new) (learnt problem places (state_with queues hands outboxes deeds store) w) (state_with queues (set hands w new) outboxes deeds more)
    by None e seen stored genuine = absurd (cc)
    by (Some held) e seen stored genuine =
        let before : State = state_with queues hands outboxes deeds store in
        let h = Holds-from (λ hand. is_unknown hand.mark) (hands_seen hands) w enabled in
        let hand : Hand = hand_seen held in
        let same : hand ≡ h.hand = cc in
        let here : slice_get (hands_seen hands) w ≡ Some (Some hand) = h.here ∙ ap (λ (x : Hand). Some (Some x)) (sym same) in
        let made : State = record before { hands = set (hands_seen hands) w (Some (judging problem hand)); store = store_with problem places store hand.prefix } in
        let e : state_with queues (set hands w new) outboxes deeds more ≡ made =
        ap (λ (l : List (Option Hand)). record before { hands = l; store = more }) (map-set (option_map hand_seen) hands w new ∙ ap (set (hands_seen hands) w) seen)
        ∙ ap (λ (l : List (List Term)). record before { hands = set (hands_seen hands) w (Some (judging problem hand)); store = l }) stored in
        let there : get_or (hands_seen hands) w None ≡ Some hand = get_or_from_slice_get (hands_seen hands) w (Some hand) None here in
        record {
          kept = subst (IsKept problem) (sym e) (kept-marked problem before w hand (judging problem hand) (store_with problem places store hand.prefix) here refl genuine (stored-entries problem places store hand.prefix genuine kept.entries) kept);
          least = All-set (HasLeast problem) hands w new least all;
          is = e ∙ sym (ap (λ (o : Option Hand). option_map_or (λ (x : Hand). record before { hands = set (hands_seen hands) w (Some (judging problem x)); store = store_with problem places store x.prefix }) o before) there);
        }

-- Settle.
pub record Settles {A B : Type 0} (problem : Problem) (hands : List (Option raw.Hand)) (before : State) (w : ℕ) (after : State) (result : Result A B) : Type 0 where
  pub kept : IsKept problem after
  pub least : All (HasLeast problem) hands
  pub ok : OnOk result ((fate : Fate) × IsFateOf problem before w fate × (after ≡ settled problem before w fate))
  pub same : OnErr result (after ≡ before)

pub settles : {A B : Type 0} (problem : Problem) (queues : List (List (List ℕ))) (hands : List (Option raw.Hand)) (outboxes : List (List (List ℕ))) (deeds : List (List done.Deed)) (store : List (List Term)) (w : ℕ) (old new : Option raw.Hand)
    (outbox outbox_after : List (List ℕ)) (mine mine_after : List done.Deed) (result : Result A B)
    → is_enabled (state_with queues hands outboxes (map deeds_in deeds) store) (Settle w) ≡ true → old ≡ get_or hands w old → outbox ≡ get_or outboxes w outbox → mine ≡ get_or deeds w mine
    → OnOk result (IfSome old (λ held. IsSettled problem (hand_seen held) outbox outbox_after (deeds_in mine) (deeds_in mine_after))) → OnOk result (new ≡ None)
    → OnErr result (new ≡ old) → OnErr result (outbox_after ≡ outbox) → OnErr result (mine_after ≡ mine)
    → IsKept problem (state_with queues hands outboxes (map deeds_in deeds) store) → All (HasLeast problem) hands
    → Settles problem (set hands w new) (state_with queues hands outboxes (map deeds_in deeds) store) w (state_with queues (set hands w new) (set outboxes w outbox_after) (map deeds_in (set deeds w mine_after)) store) result
settles problem queues hands outboxes deeds store w old new outbox outbox_after mine mine_after (Err x) enabled hv ov dv marked emptied a b c kept all =
    let back : set hands w new ≡ hands = same-hand hands w old new hv a in
    let e : state_with queues (set hands w new) (set outboxes w outbox_after) (map deeds_in (set deeds w mine_after)) store ≡ state_with queues hands outboxes (map deeds_in deeds) store =
    ap (λ (l : List (Option raw.Hand)). state_with queues l (set outboxes w outbox_after) (map deeds_in (set deeds w mine_after)) store) back
    ∙ ap (λ (l : List (List (List ℕ))). state_with queues hands l (map deeds_in (set deeds w mine_after)) store) (ap (set outboxes w) (b ∙ ov) ∙ set-get_or outboxes w outbox)
    ∙ ap (λ (l : List (List done.Deed)). state_with queues hands outboxes (map deeds_in l) store) (ap (set deeds w) (c ∙ dv) ∙ set-get_or deeds w mine) in
    record { kept = subst (IsKept problem) (sym e) kept; least = subst (All (HasLeast problem)) (sym back) all; ok = tt; same = e }
settles {A = A} {B = B} problem queues hands outboxes deeds store w old new outbox outbox_after mine mine_after (Ok x) enabled hv ov dv marked emptied a b c kept all =
    let h = Holds-from (λ hand. not (is_unknown hand.mark)) (hands_seen hands) w enabled in
    by old (seen-here hands w h.hand old h.here hv) marked
  where
    by : (slot : Option raw.Hand) → option_map hand_seen slot ≡ Some (Holds-from (λ hand. not (is_unknown hand.mark)) (hands_seen hands) w enabled).hand
        → IfSome slot (λ held. IsSettled problem (hand_seen held) outbox outbox_after (deeds_in mine) (deeds_in mine_after))
        → Settles problem (set hands w new) (state_with queues hands outboxes (map deeds_in deeds) store) w (state_with queues (set hands w new) (set outboxes w outbox_after) (map deeds_in (set deeds w mine_after)) store) (let answer : Result A B = Ok x in answer)
    by None e marked = absurd (cc)
    by (Some held) e marked =
        let before : State = state_with queues hands outboxes (map deeds_in deeds) store in
        let h = Holds-from (λ hand. not (is_unknown hand.mark)) (hands_seen hands) w enabled in
        let hand : Hand = hand_seen held in
        let same : hand ≡ h.hand = cc in
        let here : slice_get (hands_seen hands) w ≡ Some (Some hand) = h.here ∙ ap (λ (x : Hand). Some (Some x)) (sym same) in
        let within = slice_get_within (hands_seen hands) w (Some hand) here in
        let box : slice_get outboxes w ≡ Some outbox = slice_get-get_or outboxes w outbox (omega (arith, within, kept.as_many_outboxes)) ∙ ap Some (sym ov) in
        let list : slice_get (map deeds_in deeds) w ≡ Some (deeds_in mine) =
        slice_get-get_or (map deeds_in deeds) w (deeds_in mine) (omega (arith, within, kept.as_many_deeds)) ∙ ap Some (listn.get_or-map deeds_in deeds w mine ∙ ap deeds_in (sym dv)) in
        let deed : Deed = record { prefix = hand.prefix; fate = marked.fate } in
        let made : State = record before {
          hands = set (hands_seen hands) w None;
          outboxes = set outboxes w (outbox ++ flat_map (children problem) (opened_by hand.prefix marked.fate));
          deeds = set (map deeds_in deeds) w (deeds_in mine ++ deed ∷ []);
        } in
        let e : state_with queues (set hands w new) (set outboxes w outbox_after) (map deeds_in (set deeds w mine_after)) store ≡ made =
        ap (λ (l : List (Option Hand)). record before { hands = l; outboxes = set outboxes w outbox_after; deeds = map deeds_in (set deeds w mine_after) }) (map-set (option_map hand_seen) hands w new ∙ ap (λ (o : Option raw.Hand). set (hands_seen hands) w (option_map hand_seen o)) emptied)
        ∙ ap (λ (l : List (List ℕ)). record before { hands = set (hands_seen hands) w None; outboxes = set outboxes w l; deeds = map deeds_in (set deeds w mine_after) }) marked.children
        ∙ ap (λ (l : List (List Deed)). record before { hands = set (hands_seen hands) w None; outboxes = set outboxes w (outbox ++ flat_map (children problem) (opened_by hand.prefix marked.fate)); deeds = l })
        (map-set deeds_in deeds w mine_after ∙ ap (set (map deeds_in deeds) w) marked.deed) in
        let there : get_or (hands_seen hands) w None ≡ Some hand = get_or_from_slice_get (hands_seen hands) w (Some hand) None here in
        let is_settled : settled problem before w marked.fate ≡ made =
        ap (λ (o : Option Hand). option_map_or (λ (x : Hand). with_deed problem before w x marked.fate (get_or outboxes w []) (get_or (map deeds_in deeds) w [])) o before) there
        ∙ ap (λ (l : List (List ℕ)). with_deed problem before w hand marked.fate l (get_or (map deeds_in deeds) w [])) (get_or_from_slice_get outboxes w outbox [] box)
        ∙ ap (λ (l : List Deed). with_deed problem before w hand marked.fate outbox l) (get_or_from_slice_get (map deeds_in deeds) w (deeds_in mine) [] list) in
        record {
          kept = subst (IsKept problem) (sym e) (kept-settled problem before w hand marked.fate outbox (deeds_in mine) here box list marked.is_fate kept);
          least = All-set (HasLeast problem) hands w new (subst (HasLeast problem) (sym emptied) tt) all;
          ok = (marked.fate, λ other o. let i : Some (Some other) ≡ Some (Some hand) = sym o ∙ here in let j : hand ≡ other = cc in subst (λ (x : Hand). IsFate problem x.prefix x.mark marked.fate) j marked.is_fate, e ∙ sym is_settled);
          same = tt;
        }

-- The machine at the start.
nothing-seen : (n : ℕ) → hands_seen (replicate n None) ≡ replicate n None
nothing-seen zero = refl
nothing-seen (suc n) = ap (λ (l : List (Option Hand)). None ∷ l) (nothing-seen n)

no-deeds-in : (n : ℕ) → map deeds_in (replicate n []) ≡ replicate n []
no-deeds-in zero = refl
no-deeds-in (suc n) = ap (λ (l : List (List Deed)). [] ∷ l) (no-deeds-in n)

pub starts : (problem : Problem) (workers : ℕ) (queues : List (List (List ℕ))) (hands : List (Option raw.Hand)) (outboxes : List (List (List ℕ))) (deeds : List (List done.Deed)) (store : List Contradiction) → 1 ≤ workers
    → queues ≡ set (replicate workers []) 0 ([] ∷ []) → hands ≡ replicate workers None → outboxes ≡ replicate workers [] → deeds ≡ replicate workers [] → store ≡ []
    → Picks problem hands (start workers) (state_with queues hands outboxes (map deeds_in deeds) (certificates_of store))
starts problem workers queues hands outboxes deeds store some q h o d s =
    let e : state_with queues hands outboxes (map deeds_in deeds) (certificates_of store) ≡ start workers =
    ap (λ (l : List (List (List ℕ))). state_with l hands outboxes (map deeds_in deeds) (certificates_of store)) q
    ∙ ap (λ (l : List (Option Hand)). record { queues = set (replicate workers []) 0 ([] ∷ []); hands = l; outboxes = outboxes; deeds = map deeds_in deeds; store = certificates_of store }) (ap hands_seen h ∙ nothing-seen workers)
    ∙ ap (λ (l : List (List (List ℕ))). record (start workers) { outboxes = l; deeds = map deeds_in deeds; store = certificates_of store }) o
    ∙ ap (λ (l : List (List Deed)). record (start workers) { deeds = l; store = certificates_of store }) (ap (map deeds_in) d ∙ no-deeds-in workers)
    ∙ ap (λ (l : List Contradiction). record (start workers) { store = certificates_of l }) s in
    record { kept = subst (IsKept problem) (sym e) (kept-start problem workers (omega arith)); least = subst (All (HasLeast problem)) (sym h) (all-alike (HasLeast problem) workers None tt); is = e }
