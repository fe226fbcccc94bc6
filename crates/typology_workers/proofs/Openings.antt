-- The gatherer settles prefixes breadth first until enough wait.
use Rattle.std.proofs.Common.{◌≡◌, ℕ, ◌+◌, ◌<◌, ◌≤◌, ◌⊎◌, List, [], ◌∷◌, ◌++◌, arith, refl, sym, ◌∙◌, ap, inl, inr, subst, map, flat_map, length, take, get_or, append_assoc, length-append}
use Rattle.std.specs.Prelude.{All, AllPairs}
use Rattle.std.proofs.lemmas.Bool.{cases_lt}
use Rattle.std.proofs.lemmas.List.{append-nil, take-append-le, take_at}
use Rattle.std.proofs.lemmas.List.Elements.{All-append, All-head, All-map, All-nil, All-push, All-tail, All-weaker}
use Rattle.std.proofs.lemmas.List.Quantifiers.{all_pairs_push}
use Rattle.ot_theory.specs.Languages.{classes_at}
use Rattle.ot_theory.specs.Problems.{Problem}
use Rattle.ot_theory.specs.Rankings.{numbers_below}
use Rattle.search_deeds.specs.Deeds as theory
use Rattle.search_deeds.specs.Deeds.{children, opened_by, times}
use Rattle.search_deeds.specs.Deeds.Fate.{Opened, Language, Cut}
use Rattle.search_deeds.specs.Gathered.{fate_of}
use Rattle.search_deeds.specs.declared.deed.Deed.{Deed}
use Rattle.typology_workers.specs.FoundSearch.{ExtendsOne, FewWait, ManyWait, NoneWaits, prefixes_after}
use Rattle.typology_workers.specs.Gatherings.{IsOpened, SettlesOne, SettlesSome}
use Rattle.typology_workers.specs.declared.gatherer.Gatherer.{Gatherer}
use Rattle.typology_workers.proofs.Gathers.{settles-more, settles-none}
use Rattle.typology_workers.proofs.Tallies.{born, born-append, born-one}
use Rattle.violation_profiles.specs.WellFormed.{IsPrefix}

-- What waits are prefixes of one length, and then those that are longer by one class. No deed is of a longer one.
pub record IsBreadth (deeds : List Deed) (waiting : List (List ℕ)) : Type 0 where
  pub level : ℕ
  pub now : List (List ℕ)
  pub next : List (List ℕ)
  pub whole : waiting ≡ now ++ next
  pub all_now : All (λ (prefix : List ℕ). length prefix ≡ level) now
  pub all_next : All (λ (prefix : List ℕ). length prefix ≡ level + 1) next
  pub done : All (λ (deed : Deed). length deed.prefix ≤ level) deeds
  pub rising : AllPairs (λ (earlier later : Deed). length earlier.prefix ≤ length later.prefix) deeds

-- The first is settled, and its children wait behind the others.
breadth-now : (deeds : List Deed) (deed : Deed) (first : List ℕ) (rest opens now next : List (List ℕ)) (level : ℕ) → first ∷ rest ≡ now ++ next → 0 < length now
    → All (λ (prefix : List ℕ). length prefix ≡ level) now → All (λ (prefix : List ℕ). length prefix ≡ level + 1) next → All (λ (d : Deed). length d.prefix ≤ level) deeds
    → AllPairs (λ (earlier later : Deed). length earlier.prefix ≤ length later.prefix) deeds → deed.prefix ≡ first → All (λ (prefix : List ℕ). length prefix ≡ length first + 1) opens → IsBreadth (deeds ++ deed ∷ []) (rest ++ opens)
breadth-now deeds deed first rest opens [] next level e some all_now all_next done rising is children = absurd (omega arith)
breadth-now deeds deed first rest opens (x ∷ now) next level e some all_now all_next done rising is children =
    let same : first ≡ x = cc in
    let others : rest ≡ now ++ next = cc in
    let at : length x ≡ level = All-head (λ (prefix : List ℕ). length prefix ≡ level) x now all_now in
    let here : length deed.prefix ≡ level = ap length (is ∙ same) ∙ at in
    let long : length first ≡ level = ap length same ∙ at in
    record {
      level = level;
      now = now;
      next = next ++ opens;
      whole = ap (λ l. l ++ opens) others ∙ append_assoc now next opens;
      all_now = All-tail (λ (prefix : List ℕ). length prefix ≡ level) x now all_now;
      all_next = All-append (λ (prefix : List ℕ). length prefix ≡ level + 1) next opens all_next (All-weaker (λ (prefix : List ℕ). length prefix ≡ length first + 1) (λ (prefix : List ℕ). length prefix ≡ level + 1) (λ prefix h. omega arith) opens children);
      done = All-push (λ (d : Deed). length d.prefix ≤ level) deeds deed done (omega arith);
      rising = all_pairs_push (λ (earlier later : Deed). length earlier.prefix ≤ length later.prefix) deeds deed rising (λ k d lt. let h = done k d lt in omega arith);
    }

breadth-more : (deeds : List Deed) (deed : Deed) (first : List ℕ) (rest opens : List (List ℕ)) → IsBreadth deeds (first ∷ rest) → deed.prefix ≡ first → All (λ (prefix : List ℕ). length prefix ≡ length first + 1) opens → IsBreadth (deeds ++ deed ∷ []) (rest ++ opens)
breadth-more deeds deed first rest opens b is children = by b.now refl
  where
    by : (now : List (List ℕ)) → b.now ≡ now → IsBreadth (deeds ++ deed ∷ []) (rest ++ opens)
    by [] e =
        let whole : first ∷ rest ≡ b.next = b.whole ∙ ap (λ l. l ++ b.next) e in
        let some : 0 < length b.next = omega (arith, ap length whole) in
        breadth-now deeds deed first rest opens b.next [] (b.level + 1) (whole ∙ sym (append-nil b.next)) some b.all_next (All-nil (λ (prefix : List ℕ). length prefix ≡ b.level + 1 + 1))
        (All-weaker (λ (d : Deed). length d.prefix ≤ b.level) (λ (d : Deed). length d.prefix ≤ b.level + 1) (λ d h. omega arith) deeds b.done) b.rising is children
    by (x ∷ now) e = breadth-now deeds deed first rest opens b.now b.next b.level b.whole (omega (arith, ap length e)) b.all_now b.all_next b.done b.rising is children

children-longer : (prefix classes : List ℕ) → All (λ (child : List ℕ). length child ≡ length prefix + 1) (map (λ a. prefix ++ a ∷ []) classes)
children-longer prefix classes = All-map (λ (child : List ℕ). length child ≡ length prefix + 1) (λ a. prefix ++ a ∷ []) classes (λ k d lt. omega (arith, length-append prefix (get_or classes k d ∷ [])))

opened-longer : (problem : Problem) (prefix : List ℕ) (fate : theory.Fate) → All (λ (child : List ℕ). length child ≡ length prefix + 1) (flat_map (children problem) (opened_by prefix fate))
opened-longer problem prefix Opened = rw (append-nil (children problem prefix)) (children-longer prefix (numbers_below (length (classes_at problem (length prefix)))))
opened-longer problem prefix (Language levels) = All-nil (λ (child : List ℕ). length child ≡ length prefix + 1)
opened-longer problem prefix (Cut terms) = All-nil (λ (child : List ℕ). length child ≡ length prefix + 1)

-- The gatherer has settled some prefixes, before each of which fewer than enough waited.
pub record IsUnderWay (problem : Problem) (enough : ℕ) (gatherer : Gatherer) : Type 0 where
  pub settled : SettlesSome problem ([] ∷ []) gatherer.deeds gatherer.waiting.items
  pub breadth : IsBreadth gatherer.deeds gatherer.waiting.items
  pub before : (j : ℕ) → j < length gatherer.deeds → FewWait enough problem (take j gatherer.deeds)
  pub count : prefixes_after problem gatherer.deeds ≡ length gatherer.deeds + length gatherer.waiting.items

IsPrefix-none : (problem : Problem) → IsPrefix problem []
IsPrefix-none problem = record { short = omega arith; within = λ i h. absurd (omega arith) }

pub under-way-first : (problem : Problem) (enough : ℕ) (gatherer : Gatherer) → gatherer.deeds ≡ [] → gatherer.waiting.items ≡ [] ∷ [] → IsUnderWay problem enough gatherer
under-way-first problem enough gatherer d w = record {
  settled = rw (d, w) (settles-none problem ([] ∷ []) (All-push (IsPrefix problem) [] [] (All-nil (IsPrefix problem)) (IsPrefix-none problem)));
  breadth = rw (d, w) (record {
    level = 0;
    now = [] ∷ [];
    next = [];
    whole = refl;
    all_now = All-push (λ (prefix : List ℕ). length prefix ≡ 0) [] [] (All-nil (λ (prefix : List ℕ). length prefix ≡ 0)) refl;
    all_next = All-nil (λ (prefix : List ℕ). length prefix ≡ 1);
    done = All-nil (λ (deed : Deed). length deed.prefix ≤ 0);
    rising = λ i j x lt within. absurd (omega arith);
  });
  before = λ j lt. absurd (omega (arith, lt, ap length d));
  count = rw (d, w) refl;
}

pub under-way-more : (problem : Problem) (enough : ℕ) (now taken new : Gatherer) (first : List ℕ) → IsUnderWay problem enough now → taken.deeds ≡ now.deeds → now.waiting.items ≡ first ∷ taken.waiting.items → length now.waiting.items < enough
    → SettlesOne problem first taken new → IsUnderWay problem enough new
under-way-more problem enough now taken new first h kept w few s =
    let deed : Deed = record { prefix = first; fate = s.fate } in
    let opens : List (List ℕ) = flat_map (children problem) (opened_by first (fate_of s.fate)) in
    let deeds : new.deeds ≡ now.deeds ++ deed ∷ [] = s.deeds ∙ ap (λ l. l ++ deed ∷ []) kept in
    let births : length (born problem (now.deeds ++ deed ∷ [])) ≡ length (born problem now.deeds) + length opens =
    ap length (born-append problem now.deeds (deed ∷ [])) ∙ length-append (born problem now.deeds) (born problem (deed ∷ [])) ∙ ap (λ (l : List (List ℕ)). length (born problem now.deeds) + length l) (born-one problem deed) in
    record {
      settled = rw deeds (settles-more problem ([] ∷ []) now.deeds now.waiting.items first taken new s h.settled (λ p. ap (times p) w) (subst (All (IsPrefix problem)) w h.settled.prefixes) (subst (All (ExtendsOne ([] ∷ []))) w h.settled.waiting));
      breadth = rw (deeds, s.waiting) (breadth-more now.deeds deed first taken.waiting.items opens (subst (IsBreadth now.deeds) w h.breadth) refl (opened-longer problem first (fate_of s.fate)));
      before = λ j lt. subst (λ (l : List Deed). FewWait enough problem (take j l)) (sym deeds) (by j (omega (arith, lt, ap length deeds, length-append now.deeds (deed ∷ []))));
      count = rw (deeds, s.waiting) (omega (arith, births, h.count, ap length w, length-append now.deeds (deed ∷ []), length-append taken.waiting.items opens));
    }
  where
    by : (j : ℕ) → j < length now.deeds + 1 → FewWait enough problem (take j (now.deeds ++ (record { prefix = first; fate = s.fate }) ∷ []))
    by j lt = elim (cases_lt j (length now.deeds)) [
      | inl less ↦ rw (take-append-le j now.deeds ((record { prefix = first; fate = s.fate }) ∷ []) (omega arith)) (h.before j less)
      | inr most ↦ rw (take_at now.deeds ((record { prefix = first; fate = s.fate }) ∷ []) j (omega arith)) (omega (arith, h.count))
    ]

pub under-way-ends : (problem : Problem) (enough : ℕ) (now end : Gatherer) → IsUnderWay problem enough now → end.deeds ≡ now.deeds → end.waiting.items ≡ now.waiting.items → (now.waiting.items ≡ []) ⊎ (enough ≤ length now.waiting.items) → IsOpened problem enough end
under-way-ends problem enough now end h d w why = record {
  settled = rw (d, w) h.settled;
  opening = rw d (record {
    breadth_first = h.breadth.rising;
    before = h.before;
    after = by why;
  });
}
  where
    by : (now.waiting.items ≡ []) ⊎ (enough ≤ length now.waiting.items) → NoneWaits problem now.deeds ⊎ ManyWait enough problem now.deeds
    by (inl none) = inl (omega (arith, h.count, ap length none))
    by (inr many) = inr (omega (arith, h.count))
