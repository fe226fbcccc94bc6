use Rattle.std.proofs.Common.{◌≡◌, [], arith, sym, ◌∙◌, subst}
use Rattle.std.specs.Prelude.{slice_index_or}
use Rattle.std.proofs.lemmas.List.{get_or_read}
use Rattle.refutation.specs.Prefixes.{class_numbers}
use Rattle.search_deeds.specs.Indexed.{HoldsRefuting}
use Rattle.search_deeds.proofs.index.Index.bucket_for.Goals as goal

pub index-requires : goal.index-requires
index-requires c = omega (arith, c.last_of-bucket.ensures.within, c.args.self.now.places.ok.0)

pub index-requires-2 : goal.index-requires-2
index-requires-2 c = omega (arith, c.last_of-bucket.ensures.within, c.requires.as_long, c.args.self.now.places.ok.0, c.args.self.now.blocks.ok.0)

pub returns-clause-refuting : goal.returns-clause-refuting
returns-clause-refuting c = λ certificates index genuine shortest.
    let places = c.args.self.now.places.items in
    let found : c.as_slice.result.now ≡ slice_index_or places c.last_of-bucket.result [] = c.as_slice.ensures ∙ get_or_read places _ c.index.result.now c.last_of-bucket.ensures.within c.index.ensures [] in
    subst (HoldsRefuting certificates (class_numbers c.args.prefix.now)) (sym found) (c.last_of-bucket.ensures.refuting certificates index genuine shortest)

pub returns-clause-blocked : goal.returns-clause-blocked
returns-clause-blocked c = λ certificates blocked.
    let places = c.args.self.now.places.items in
    let blocks = c.args.self.now.blocks.items in
    let at = c.last_of-bucket.result in
    let within = c.last_of-bucket.ensures.within in
    let place_list : c.as_slice.result.now ≡ slice_index_or places at [] = c.as_slice.ensures ∙ get_or_read places _ c.index.result.now within c.index.ensures [] in
    let block_list : c.as_slice-2.result.now ≡ slice_index_or blocks at [] = c.as_slice-2.ensures ∙ get_or_read blocks _ c.index-2.result.now (omega (arith, within, c.requires.as_long)) c.index-2.ensures [] in
    rw (place_list, block_list) (blocked.each at)
