-- A whole search: the deeds of the workers and of the gatherer are honest and balanced, and it is a found search.
use Rattle.std.proofs.Common.{◌≡◌, ℕ, ◌+◌, ◌*◌, List, [], ◌∷◌, ◌++◌, arith, sym, ◌∙◌, ap, subst, map, take, drop, length, length-append, get_or}
use Rattle.std.specs.Prelude.{All, Some, slice_get}
use Rattle.std.proofs.lemmas.List.{drop_at, get_or_push, map-append, take_at}
use Rattle.std.proofs.lemmas.List.Elements.{All-append, All-weaker}
use Rattle.ot_theory.specs.Problems.{Problem}
use Rattle.prefix_deques.specs.Booked.{DequeAgrees, all_later}
use Rattle.prefix_deques.specs.Lanes.{SeatView}
use Rattle.refutation_store.specs.Fronts.{FrontView}
use Rattle.search_deeds.specs.Deeds as theory
use Rattle.search_deeds.specs.Deeds.{AreBalanced, AreHonest, IsTrueOf, times}
use Rattle.search_deeds.specs.Gathered.{deed_of, deeds_in, deeds_of}
use Rattle.search_deeds.specs.declared.deed.Deed.{Deed}
use Rattle.search_deeds.proofs.Counts.{times-append, times-cons}
use Rattle.typology_workers.specs.FoundSearch.{ExtendsOne, IsFoundSearch, IsOpening, IsTypologyOf, IsWorkers, gatherers, unsettled}
use Rattle.typology_workers.specs.Gatherings.{IsOpened, SettlesAll}
use Rattle.typology_workers.specs.Packets.{HasRunAll, back_of}
use Rattle.typology_workers.specs.Settled.{prefixes_of}
use Rattle.typology_workers.specs.declared.found.Found.{Found}
use Rattle.typology_workers.specs.declared.gatherer.Gatherer.{Gatherer}
use Rattle.typology_workers.specs.declared.parting.Parts.{Parts}
use Rattle.typology_workers.proofs.Tallies.{born, times-born, times-prefixes}
use Rattle.typology_workers.proofs.Together.{born-of-append, born_of, deeds-many, deeds-of-push, extends-within, fronts-many, map-map, rest-fits, back-tally, run-fronts, run-honest, run-make, run-many, run-order, run-tally, run-workers}
use Rattle.violation_profiles.specs.WellFormed.{IsPrefix}

-- What was opened, run, settled up, and now waits for the gatherer.
pub record IsWhole (problem : Problem) (workers : ℕ) (store : List ℕ) (opened gatherer : Gatherer) (parts : Parts) (left : List (List ℕ)) : Type 0 where
  pub opening : IsOpened problem (4 * workers) opened
  pub run : HasRunAll problem workers store opened.waiting.items parts
  pub agree : All (DequeAgrees parts.seats) parts.seats
  pub rest : left ≡ all_later parts.seats parts.seats
  pub kept : gatherer.deeds ≡ opened.deeds
  pub waits : (p : List ℕ) → times p gatherer.waiting.items ≡ times p (parts.waiting.items ++ left)

waits-all : (problem : Problem) (workers : ℕ) (store : List ℕ) (opened gatherer : Gatherer) (parts : Parts) (left : List (List ℕ)) (w : IsWhole problem workers store opened gatherer parts left) (x : List ℕ)
    → times x gatherer.waiting.items ≡ times x (parts.waiting.items ++ all_later parts.seats parts.seats)
waits-all problem workers store opened gatherer parts left w x = w.waits x ∙ ap (λ (l : List (List ℕ)). times x (parts.waiting.items ++ l)) w.rest

pub whole-fits : (problem : Problem) (workers : ℕ) (store : List ℕ) (opened gatherer : Gatherer) (parts : Parts) (left : List (List ℕ)) → IsWhole problem workers store opened gatherer parts left → All (IsPrefix problem) gatherer.waiting.items
whole-fits problem workers store opened gatherer parts left w =
    rest-fits problem workers store opened.waiting.items parts w.run w.opening.settled.prefixes w.agree gatherer.waiting.items (waits-all problem workers store opened gatherer parts left w)

-- The deeds of the gatherer: those of the opening, and those of the rest.

last-is : (problem : Problem) (opened gatherer : Gatherer) (last : List Deed) (a : SettlesAll problem gatherer last) → gatherer.deeds ≡ opened.deeds → last ≡ opened.deeds ++ a.more
last-is problem opened gatherer last a kept = a.whole ∙ ap (λ l. l ++ a.more) kept

told-append : (x : List ℕ) (a b : List theory.Deed) → times x (map (λ (d : theory.Deed). d.prefix) (a ++ b)) ≡ times x (map (λ (d : theory.Deed). d.prefix) a) + times x (map (λ (d : theory.Deed). d.prefix) b)
told-append x a b = ap (times x) (map-append (λ (d : theory.Deed). d.prefix) a b) ∙ times-append x (map (λ (d : theory.Deed). d.prefix) a) (map (λ (d : theory.Deed). d.prefix) b)

told-lists : (x : List ℕ) (lists : List (List Deed)) (last first more : List Deed) → last ≡ first ++ more
    → times x (map (λ (d : theory.Deed). d.prefix) (deeds_of (lists ++ last ∷ []))) ≡ times x (map (λ (d : theory.Deed). d.prefix) (deeds_of lists)) + (times x (prefixes_of first) + times x (prefixes_of more))
told-lists x lists last first more e =
    omega (
      arith,
      ap (λ (l : List theory.Deed). times x (map (λ (d : theory.Deed). d.prefix) l)) (deeds-of-push lists last),
      told-append x (deeds_of lists) (deeds_in last),
      ap (times x) (map-map deed_of (λ (d : theory.Deed). d.prefix) last),
      ap (λ (l : List Deed). times x (prefixes_of l)) e,
      times-prefixes x first more,
    )

born-lists : (problem : Problem) (x : List ℕ) (lists : List (List Deed)) (last first more : List Deed) → last ≡ first ++ more
    → times x (born_of problem (deeds_of (lists ++ last ∷ []))) ≡ times x (born_of problem (deeds_of lists)) + (times x (born problem first) + times x (born problem more))
born-lists problem x lists last first more e =
    omega (
      arith,
      ap (λ (l : List theory.Deed). times x (born_of problem l)) (deeds-of-push lists last),
      born-of-append problem x (deeds_of lists) (deeds_in last),
      ap (λ (l : List Deed). times x (born problem l)) e,
      times-born problem x first more,
    )

pub whole-honest : (problem : Problem) (workers : ℕ) (store : List ℕ) (opened gatherer : Gatherer) (parts : Parts) (left : List (List ℕ)) (last : List Deed) → IsWhole problem workers store opened gatherer parts left → SettlesAll problem gatherer last
    → AreHonest problem (deeds_of (parts.deeds ++ last ∷ []))
whole-honest problem workers store opened gatherer parts left last w a =
    let P : theory.Deed → Type 0 = λ d. IsTrueOf problem d.prefix d.fate in
    let parted : deeds_in last ≡ deeds_in opened.deeds ++ deeds_in a.more = ap deeds_in (last-is problem opened gatherer last a w.kept) ∙ map-append deed_of opened.deeds a.more in
    let gathered : All P (deeds_in last) = subst (All P) (sym parted) (All-append P (deeds_in opened.deeds) (deeds_in a.more) w.opening.settled.honest a.settled.honest) in
    subst (All P) (sym (deeds-of-push parts.deeds last)) (All-append P (deeds_of parts.deeds) (deeds_in last) (run-honest problem workers store opened.waiting.items parts w.run w.opening.settled.prefixes w.agree) gathered)

pub whole-balanced : (problem : Problem) (workers : ℕ) (store : List ℕ) (opened gatherer : Gatherer) (parts : Parts) (left : List (List ℕ)) (last : List Deed) → IsWhole problem workers store opened gatherer parts left → SettlesAll problem gatherer last
    → AreBalanced problem (deeds_of (parts.deeds ++ last ∷ []))
whole-balanced problem workers store opened gatherer parts left last w a x =
    let e = last-is problem opened gatherer last a w.kept in
    omega (
      arith,
      told-lists x parts.deeds last opened.deeds a.more e,
      times-cons x [] (born_of problem (deeds_of (parts.deeds ++ last ∷ []))),
      born-lists problem x parts.deeds last opened.deeds a.more e,
      run-tally problem workers store opened.waiting.items parts w.run w.opening.settled.prefixes w.agree x,
      w.opening.settled.each x,
      times-append x (prefixes_of opened.deeds) opened.waiting.items,
      times-cons x [] (born problem opened.deeds),
      a.settled.each x,
      times-append x (prefixes_of a.more) [],
      times-append x gatherer.waiting.items (born problem a.more),
      waits-all problem workers store opened gatherer parts left w x,
    )

-- What the gatherer settles last extends what was left or handed back.
rest-extends : (problem : Problem) (workers : ℕ) (store : List ℕ) (opened gatherer : Gatherer) (parts : Parts) (left : List (List ℕ)) (last : List Deed) → IsWhole problem workers store opened gatherer parts left → (a : SettlesAll problem gatherer last)
    → All (λ (deed : Deed). ExtendsOne (left ++ back_of parts.seats) deed.prefix) a.more
rest-extends problem workers store opened gatherer parts left last w a =
    All-weaker (λ (deed : Deed). ExtendsOne gatherer.waiting.items deed.prefix) (λ (deed : Deed). ExtendsOne (left ++ back_of parts.seats) deed.prefix)
    (λ deed h. extends-within gatherer.waiting.items (left ++ back_of parts.seats) deed.prefix (λ x some. omega (arith, some, w.waits x, times-append x parts.waiting.items left, times-append x left (back_of parts.seats), back-tally problem workers store opened.waiting.items parts w.run x)) h)
    a.more a.settled.settled

pub whole-found : (problem : Problem) (workers places : ℕ) (store : List ℕ) (opened gatherer : Gatherer) (parts : Parts) (left : List (List ℕ)) (last : List Deed) (found : Found) → IsWhole problem workers store opened gatherer parts left → SettlesAll problem gatherer last
    → found.deeds ≡ parts.deeds ++ last ∷ [] → found.dealt ≡ length opened.deeds → found.books.seats ≡ parts.seats → found.books.left ≡ left → found.store ≡ store → found.fronts ≡ parts.fronts → length store ≡ places → IsTypologyOf problem found.typology
    → IsFoundSearch problem workers places found
whole-found problem workers places store opened gatherer parts left last found w a deeds dealt seats lefts stores fronts many typology =
    let run = w.run in
    let fit = w.opening.settled.prefixes in
    let lasts = last-is problem opened gatherer last a w.kept in
    let theirs : gatherers workers found.deeds ≡ last = ap (λ (l : List (List Deed)). get_or l workers []) deeds ∙ get_or_push parts.deeds last [] workers (deeds-many problem workers store opened.waiting.items parts run) in
    record {
      told = record {
        lists = omega (arith, ap length deeds, length-append parts.deeds (last ∷ []), deeds-many problem workers store opened.waiting.items parts run);
        honest = subst (λ (l : List (List Deed)). AreHonest problem (deeds_of l)) (sym deeds) (whole-honest problem workers store opened gatherer parts left last w a);
        balanced = subst (λ (l : List (List Deed)). AreBalanced problem (deeds_of l)) (sym deeds) (whole-balanced problem workers store opened gatherer parts left last w a);
        typology = typology;
      };
      booked = record {
        seats = ap length seats ∙ run-many problem workers store opened.waiting.items parts run;
        order = λ k seat at. run-order problem workers store opened.waiting.items parts run k seat (subst (λ (l : List SeatView). slice_get l k ≡ Some seat) seats at);
        make = rw seats (run-make problem workers store opened.waiting.items parts run);
        agree = subst (λ (l : List SeatView). All (DequeAgrees l) l) (sym seats) w.agree;
        left = lefts ∙ w.rest ∙ ap (λ (l : List SeatView). all_later l l) (sym seats);
        store = ap length stores ∙ many;
        fronts = ap length fronts ∙ fronts-many problem workers store opened.waiting.items parts run;
        of_store = subst (λ (s : List ℕ). All (λ (f : FrontView). f.store ≡ s) found.fronts) (sym stores) (subst (All (λ (f : FrontView). f.store ≡ store)) (sym fronts) (run-fronts problem workers store opened.waiting.items parts run));
      };
      worked = λ k seat front deed b c d.
          subst (λ (n : ℕ). IsWorkers problem n seat front deed) many
          (run-workers problem workers store opened.waiting.items parts run fit w.agree last k seat front deed (subst (λ (l : List SeatView). slice_get l k ≡ Some seat) seats b) (subst (λ (l : List FrontView). slice_get l k ≡ Some front) fronts c)
          (subst (λ (l : List (List Deed)). slice_get l k ≡ Some deed) deeds d));
      dealt = record {
        within = omega (arith, dealt, ap length (theirs ∙ lasts), length-append opened.deeds a.more);
        opening = subst (IsOpening problem (4 * workers)) (sym (ap (take found.dealt) (theirs ∙ lasts) ∙ take_at opened.deeds a.more found.dealt (sym dealt))) w.opening.opening;
      };
      rest =
          subst (All (λ (deed : Deed). ExtendsOne (unsettled found.books) deed.prefix)) (sym (ap (drop found.dealt) (theirs ∙ lasts) ∙ drop_at opened.deeds a.more found.dealt (sym dealt)))
          (subst (λ (l : List (List ℕ)). All (λ (deed : Deed). ExtendsOne l deed.prefix) a.more) (sym (ap (λ (l : List (List ℕ)). l ++ back_of found.books.seats) lefts ∙ ap (λ (l : List SeatView). left ++ back_of l) seats)) (rest-extends problem workers store opened gatherer parts left last w a));
    }
