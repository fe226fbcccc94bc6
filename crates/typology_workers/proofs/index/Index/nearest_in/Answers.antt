use Rattle.std.proofs.Common.{◌≡◌, ◌<◌, ◌≤◌, ◌∙◌, ℕ, List, [], length, arith, subst}
use Rattle.std.specs.Prelude.{slice_index_or}
use Rattle.refutation.specs.Prefixes.{class_numbers}
use Rattle.refutation.specs.Typologies.{certificates_of}
use Rattle.search_deeds.proofs.Sieving.{IsSieve-marks}
use Rattle.typology_workers.specs.Indexed.{Has, RefutesAt}
use Rattle.typology_workers.proofs.Indexing.{any-default, each-nearest}
use Rattle.typology_workers.proofs.index.Index.nearest_in.Goals as goal

pub nearest-requires-clause-sieve : goal.nearest-requires-clause-sieve
nearest-requires-clause-sieve c =
    let slots = c.args.self.now.slots.items in
    let marks = c.args.self.now.marks.items in
    let s = c.args.slot in
    let marked : s < length marks = (let l = c.requires.marked.long in let w = c.requires.slot in omega arith) in
    let place_list : c.as_slice-places.result.now ≡ slice_index_or slots s [] = c.as_slice-places.ensures ∙ (c.index.ensures ∙ any-default slots s c.index.result.now [] c.requires.slot) in
    let mark_list : c.as_slice-marks.result.now ≡ slice_index_or marks s [] = c.as_slice-marks.ensures ∙ (c.index-2.ensures ∙ any-default marks s c.index-2.result.now [] marked) in
    rw (place_list, mark_list) (IsSieve-marks (certificates_of c.args.front.now.values) (class_numbers c.args.prefix.now) (slice_index_or slots s []) (slice_index_or marks s []) c.args.bits (c.requires.marked.each s) c.requires.bits)

pub returns-clause-hit : goal.returns-clause-hit
returns-clause-hit c =
    let slots = c.args.self.now.slots.items in
    let place_list : c.as_slice-places.result.now ≡ slice_index_or slots c.args.slot [] = c.as_slice-places.ensures ∙ (c.index.ensures ∙ any-default slots c.args.slot c.index.result.now [] c.requires.slot) in
    subst (λ (places : List ℕ). c.nearest.result < c.args.best → Has places c.nearest.result × RefutesAt c.args.front.now.values (class_numbers c.args.prefix.now) c.nearest.result) place_list c.nearest.ensures.hit

pub returns-clause-all : goal.returns-clause-all
returns-clause-all c =
    let slots = c.args.self.now.slots.items in
    let place_list : c.as_slice-places.result.now ≡ slice_index_or slots c.args.slot [] = c.as_slice-places.ensures ∙ (c.index.ensures ∙ any-default slots c.args.slot c.index.result.now [] c.requires.slot) in
    subst (λ (places : List ℕ). (k : ℕ) → Has places k → RefutesAt c.args.front.now.values (class_numbers c.args.prefix.now) k → c.nearest.result ≤ k) place_list
    (each-nearest c.args.front.now.values (class_numbers c.args.prefix.now) c.as_slice-places.result.now c.nearest.result c.nearest.ensures.all)
