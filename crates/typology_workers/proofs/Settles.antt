-- What was got, handed on and tried, over a turn.
use Rattle.std.proofs.Common.{◌≡◌, ℕ, List, [], ◌∷◌, ◌++◌, length, map, flat_map, refl, ◌∙◌, ap, arith}
use Rattle.std.proofs.lemmas.List.{append-nil, map_push}
use Rattle.std.proofs.lemmas.List.Concat.{flat_map-append}
use Rattle.std.proofs.lemmas.List.Elements.{All-push, All-nil}
use Rattle.ot_theory.specs.Problems.{Problem}
use Rattle.violation_profiles.specs.WellFormed.{IsPrefix}
use Rattle.search_deeds.specs.Deeds as theory
use Rattle.search_deeds.specs.Deeds.{children, opened_by, opened_in, times}
use Rattle.typology_workers.specs.Found.{opened}
use Rattle.search_deeds.specs.Gathered.{deed_of, deeds_in, fate_of}
use Rattle.search_deeds.specs.declared.deed.Deed.{Deed}
use Rattle.search_deeds.specs.declared.deed.Fate as fates
use Rattle.search_deeds.specs.declared.deed.Fate.TheVariants.{Opened, Language, Cut}
use Rattle.prefix_deques.specs.Books.{Entry}
use Rattle.prefix_deques.specs.Lanes.{SeatView}
use Rattle.typology_workers.specs.Settled.{AreSettled, AreHandedOn, got, prefixes_of}
use Rattle.typology_workers.specs.Turns.{HasGot, HasHanded}
use Rattle.typology_workers.proofs.Gains.{times-append}

pub settled-none : (problem : Problem) (s : SeatView) → AreSettled problem s s [] []
settled-none problem s = record { each = λ p. omega arith; prefixes = All-nil (IsPrefix problem); others = All-nil (λ prefix. ¬ IsPrefix problem prefix) }

same-gets : (a b : SeatView) (p : List ℕ) → b.gets ≡ a.gets → times p (got b) ≡ times p (got a)
same-gets a b p e = ap (λ (gets : List (List Entry)). times p (flat_map (map (λ (get : Entry). get.1)) gets)) e

pub settled-deed : (problem : Problem) (old a b c : SeatView) (deeds : List Deed) (strange : List (List ℕ)) (deed : Deed) → AreSettled problem old a deeds strange → HasGot a b deed.prefix → c.gets ≡ b.gets → IsPrefix problem deed.prefix
    → AreSettled problem old c (deeds ++ deed ∷ []) strange
settled-deed problem old a b c deeds strange deed h g e p =
    let more : prefixes_of (deeds ++ deed ∷ []) ≡ prefixes_of deeds ++ deed.prefix ∷ [] = map_push (λ (d : Deed). d.prefix) deeds deed in record {
      each = λ q.
          let i = h.each q in
          let j = g.each q in
          let k = same-gets b c q e in
          let l = ap (λ (xs : List (List ℕ)). times q (xs ++ strange)) more in
          let m = times-append q (prefixes_of deeds ++ deed.prefix ∷ []) strange in
          let n = times-append q (prefixes_of deeds) (deed.prefix ∷ []) in
          let o = times-append q (prefixes_of deeds) strange in
          omega arith;
      prefixes = rw more (All-push (IsPrefix problem) (prefixes_of deeds) deed.prefix h.prefixes p);
      others = h.others;
    }

pub settled-strange : (problem : Problem) (old a b : SeatView) (deeds : List Deed) (strange : List (List ℕ)) (prefix : List ℕ) → AreSettled problem old a deeds strange → HasGot a b prefix → ¬ IsPrefix problem prefix
    → AreSettled problem old b deeds (strange ++ prefix ∷ [])
settled-strange problem old a b deeds strange prefix h g p = record {
  each = λ q.
      let i = h.each q in
      let j = g.each q in
      let m = times-append q (prefixes_of deeds) (strange ++ prefix ∷ []) in
      let n = times-append q strange (prefix ∷ []) in
      let o = times-append q (prefixes_of deeds) strange in
      omega arith;
  prefixes = h.prefixes;
  others = All-push (λ x. ¬ IsPrefix problem x) strange prefix h.others p;
}

pub settled-same : (problem : Problem) (old a b : SeatView) (deeds : List Deed) (strange : List (List ℕ)) → AreSettled problem old a deeds strange → b.gets ≡ a.gets → AreSettled problem old b deeds strange
settled-same problem old a b deeds strange h e = record { each = λ q. same-gets a b q e ∙ h.each q; prefixes = h.prefixes; others = h.others }

pub handed-none-yet : (problem : Problem) (s : SeatView) → AreHandedOn problem s s [] []
handed-none-yet problem s = record { each = λ p. let a = times-append p s.puts [] in omega arith; back = λ p. let a = times-append p s.back [] in omega arith; room = λ _. refl }

opened-children : (problem : Problem) (prefix : List ℕ) (fate : fates.Fate) → flat_map (children problem) (opened_by prefix (fate_of fate)) ≡ opened problem prefix fate
opened-children problem prefix Opened = append-nil (children problem prefix)
opened-children problem prefix (Language levels) = refl
opened-children problem prefix (Cut found) = refl

opens : (problem : Problem) (deeds : List Deed) (deed : Deed) → flat_map (children problem) (opened_in (deeds_in (deeds ++ deed ∷ []))) ≡ flat_map (children problem) (opened_in (deeds_in deeds)) ++ opened problem deed.prefix deed.fate
opens problem deeds deed =
    let a : deeds_in (deeds ++ deed ∷ []) ≡ deeds_in deeds ++ deed_of deed ∷ [] = map_push deed_of deeds deed in
    let f : theory.Deed → List (List ℕ) = λ d. opened_by d.prefix d.fate in
    let b : opened_in (deeds_in deeds ++ deed_of deed ∷ []) ≡ opened_in (deeds_in deeds) ++ opened_by deed.prefix (fate_of deed.fate) =
    flat_map-append f (deeds_in deeds) (deed_of deed ∷ []) ∙ ap (λ (l : List (List ℕ)). opened_in (deeds_in deeds) ++ l) (append-nil (opened_by deed.prefix (fate_of deed.fate))) in
    ap (λ (l : List theory.Deed). flat_map (children problem) (opened_in l)) a
    ∙ (ap (flat_map (children problem)) b
    ∙ (flat_map-append (children problem) (opened_in (deeds_in deeds)) (opened_by deed.prefix (fate_of deed.fate))
    ∙ ap (λ (l : List (List ℕ)). flat_map (children problem) (opened_in (deeds_in deeds)) ++ l) (opened-children problem deed.prefix deed.fate)))

-- a seat with the same puts, room and list of what came back
pub handed-same : (problem : Problem) (old a b : SeatView) (deeds : List Deed) (outbox : List (List ℕ)) → AreHandedOn problem old a deeds outbox → b.puts ≡ a.puts → b.back ≡ a.back → b.room ≡ a.room → AreHandedOn problem old b deeds outbox
handed-same problem old a b deeds outbox h puts back room = record {
  each = λ p. ap (λ (l : List (List ℕ)). times p (l ++ outbox)) puts ∙ h.each p;
  back = λ p. ap (times p) back ∙ h.back p;
  room = λ lt. let n = ap (λ (l : List (List ℕ)). length l) puts in h.room (omega arith);
}

pub handed-deed : (problem : Problem) (old a b : SeatView) (deeds : List Deed) (outbox after : List (List ℕ)) (deed : Deed) → AreHandedOn problem old a deeds outbox → HasHanded (opened problem deed.prefix deed.fate) a b outbox after
    → AreHandedOn problem old b (deeds ++ deed ∷ []) after
handed-deed problem old a b deeds outbox after deed h g = record {
  each = λ p.
      let i = h.each p in
      let j = g.each p in
      let k = ap (times p) (opens problem deeds deed) in
      let l = times-append p (flat_map (children problem) (opened_in (deeds_in deeds))) (opened problem deed.prefix deed.fate) in
      omega arith;
  back = λ p.
      let i = h.back p in
      let j = g.back p in
      let k = times-append p old.back outbox in
      let l = times-append p old.back after in
      omega arith;
  room = λ lt. let w = g.longer in let r = g.same in g.room lt ∙ h.room (omega arith);
}
