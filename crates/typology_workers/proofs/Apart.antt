-- What workers leave, taken apart one after another.
use Rattle.std.proofs.Common.{◌≡◌, ℕ, ◌+◌, List, [], ◌∷◌, ◌++◌, arith, sym, ◌∙◌, ap, flat_map}
use Rattle.std.specs.List.{AllZip}
use Rattle.std.proofs.lemmas.List.{append-nil, map_push}
use Rattle.std.proofs.lemmas.List.Concat.{flat_map-append}
use Rattle.std.proofs.lemmas.List.Elements.{All-nil, All-push}
use Rattle.prefix_deques.specs.Lanes.{HasPlaces}
use Rattle.search_deeds.specs.Deeds.{times}
use Rattle.search_deeds.proofs.Counts.{times-append}
use Rattle.typology_workers.specs.Packets.{AddsParts, ArePartsOf}
use Rattle.typology_workers.specs.declared.halves.Ended.{Ended}
use Rattle.typology_workers.specs.declared.outcome.Work.{Work}
use Rattle.typology_workers.specs.declared.parting.Parts.{Parts}

zip-push : {A B : Type 0} (R : A → B → Type 0) (xs : List A) (ys : List B) (x : A) (y : B) → AllZip R xs ys → R x y → AllZip R (xs ++ x ∷ []) (ys ++ y ∷ [])
zip-push R [] [] x y h r = (r, tt)
zip-push R [] (b ∷ ys) x y h r = absurd h
zip-push R (a ∷ xs) [] x y h r = absurd h
zip-push R (a ∷ xs) (b ∷ ys) x y h r = (h.0, zip-push R xs ys x y h.1 r)

pub parts-first : (before : List (List ℕ)) (parts : Parts) → parts.seats ≡ [] → parts.fronts ≡ [] → parts.deeds ≡ [] → parts.waiting.items ≡ before → ArePartsOf before [] parts
parts-first before parts s f d w = record {
  works = [];
  done = tt;
  places = rw s (All-nil HasPlaces);
  seats = s;
  fronts = f;
  deeds = d;
  waiting = λ p. omega (arith, ap (times p) w);
}

times-outbox : (p : List ℕ) (works : List Work) (work : Work) → times p (flat_map (λ (w : Work). w.outbox) (works ++ work ∷ [])) ≡ times p (flat_map (λ (w : Work). w.outbox) works) + times p work.outbox
times-outbox p works work =
    ap (times p) (flat_map-append (λ (w : Work). w.outbox) works (work ∷ [])) ∙ times-append p (flat_map (λ (w : Work). w.outbox) works) (work.outbox ++ [])
    ∙ ap (λ l. times p (flat_map (λ (w : Work). w.outbox) works) + times p l) (append-nil work.outbox)

pub parts-more : (before : List (List ℕ)) (ended : List Ended) (one : Ended) (parts new : Parts) → ArePartsOf before ended parts → AddsParts parts one new → ArePartsOf before (ended ++ one ∷ []) new
parts-more before ended one parts new h a = record {
  works = h.works ++ a.work ∷ [];
  done = zip-push _ ended h.works one a.work h.done a.done;
  places = rw a.seats (All-push HasPlaces parts.seats one.packet.seat h.places a.places);
  seats = a.seats ∙ ap (λ l. l ++ one.packet.seat ∷ []) h.seats ∙ sym (map_push (λ (e : Ended). e.packet.seat) ended one);
  fronts = a.fronts ∙ ap (λ l. l ++ one.packet.front ∷ []) h.fronts ∙ sym (map_push (λ (e : Ended). e.packet.front) ended one);
  deeds = a.deeds ∙ ap (λ l. l ++ a.work.deeds ∷ []) h.deeds ∙ sym (map_push (λ (w : Work). w.deeds) h.works a.work);
  waiting = λ p. omega (arith, a.waiting p, times-append p parts.waiting.items a.work.outbox, h.waiting p, times-outbox p h.works a.work);
}
