use Rattle.std.proofs.Common.{◌≡◌, ℕ, List, arith, length, ◌∙◌, ap, refl, subst, [], set}
use Rattle.std.specs.Prelude.{slice_index_or}
use Rattle.std.proofs.lemmas.List.{get_or_read}
use Rattle.std.proofs.lemmas.Result.{on_ok_weaker}
use Rattle.refutation.specs.Terms.{terms_in}
use Rattle.search_deeds.specs.declared.blocks.Block.{Block}
use Rattle.search_deeds.proofs.Admitting.{AreBlocked-push, IsAddedTo}
use Rattle.search_deeds.proofs.Choices.{IsIndex-push}
use Rattle.search_deeds.proofs.index.Index.add.Goals as goal

pub index-requires : goal.index-requires
index-requires c = omega (arith, c.bucket_of-bucket.ensures.within, c.args.self.now.places.ok.0)

pub index_mut-requires : goal.index_mut-requires
index_mut-requires c = omega (arith, c.bucket_of-bucket.ensures.within, c.requires.room.long, c.args.self.now.blocks.ok.0)

pub add-requires : goal.add-requires
add-requires c =
    let places = c.args.self.now.places.items in
    let blocks = c.args.self.now.blocks.items in
    let b = c.bucket_of-bucket.result in
    let within = c.bucket_of-bucket.ensures.within in
    let count_is : c.len-count.result ≡ length (slice_index_or places b []) = c.len-count.ensures ∙ ap (λ (l : List ℕ). length l) (get_or_read places _ c.index.result.now within c.index.ensures []) in
    let old_is : length c.index_mut.result.now ≡ length (slice_index_or blocks b []) = ap (λ (l : List Block). length l) (get_or_read blocks _ c.index_mut.result.now (omega (arith, within, c.requires.room.long)) c.index_mut.ensures.value []) in
    omega (arith, count_is, old_is, c.requires.room.each b)

pub index_mut-requires-2 : goal.index_mut-requires-2
index_mut-requires-2 c = omega (arith, c.bucket_of-bucket.ensures.within, c.args.self.now.places.ok.0)

pub returns-clause-places : goal.returns-clause-places
returns-clause-places c =
    let places = c.args.self.now.places.items in
    let b = c.bucket_of-bucket.result in
    let within = c.bucket_of-bucket.ensures.within in
    on_ok_weaker c.push.result (λ e certificates count index.
    IsIndex-push c.args.p.now certificates c.args.self.now.widest places _ (terms_in c.args.terms.now) b index c.bucket_of-bucket.ensures.bucket within
    (ap (set places b) (e ∙ rw (get_or_read places _ c.index_mut-2.result.now within c.index_mut-2.ensures.value [], count) refl))) c.push.ensures.ok

pub returns-clause-blocked : goal.returns-clause-blocked
returns-clause-blocked c =
    let terms = terms_in c.args.terms.now in
    let places = c.args.self.now.places.items in
    let blocks = c.args.self.now.blocks.items in
    let b = c.bucket_of-bucket.result in
    let within = c.bucket_of-bucket.ensures.within in
    let count_is : c.len-count.result ≡ length (slice_index_or places b []) = c.len-count.ensures ∙ ap (λ (l : List ℕ). length l) (get_or_read places _ c.index.result.now within c.index.ensures []) in
    let old_is : c.index_mut.result.now ≡ slice_index_or blocks b [] = get_or_read blocks _ c.index_mut.result.now (omega (arith, within, c.requires.room.long)) c.index_mut.ensures.value [] in
    let added : IsAddedTo terms c.len-count.result c.index_mut.result.now c.add.new.self = record { room = c.in_ok-add.ensures.room; own = c.in_ok-add.ensures.own; others = c.in_ok-add.ensures.others } in
    on_ok_weaker c.push.result (λ e certificates count index blocked.
    AreBlocked-push certificates terms places _ blocks _ b c.add.new.self index.within within
    (subst (λ (n : ℕ). IsAddedTo terms n (slice_index_or blocks b []) c.add.new.self) count_is (subst (λ (old : List Block). IsAddedTo terms c.len-count.result old c.add.new.self) old_is added))
    (ap (set places b) (e ∙ rw (get_or_read places _ c.index_mut-2.result.now within c.index_mut-2.ensures.value [], count) refl)) refl blocked) c.push.ensures.ok
