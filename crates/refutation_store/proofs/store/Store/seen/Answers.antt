use Rattle.std.proofs.Common.{◌≡◌, ◌<◌, ℕ, length, map, sym, ap, ◌∙◌, arith, slice_get}
use Rattle.std.proofs.lemmas.List.{length-map}
use Rattle.once_cell.specs.Once.{cell_name}
use Rattle.note_sign.specs.declared.Sign.{Sign}
use Rattle.refutation.specs.declared.contradiction.Contradiction.{Contradiction}
use Rattle.refutation_store.specs.Fronts.{FrontView, cells_of}
use Rattle.refutation_store.proofs.Learnt.{cell_same, signs_within, seen_value, is_there, agreed}
use Rattle.refutation_store.proofs.store.Store.seen.Goals as goal

below : (f g : FrontView) (i : ℕ) → f ≡ g → i < length g.values → i < length f.values
below f g i e lt = let a = ap (λ (x : FrontView). length x.values) e in omega arith

pub tell-requires : goal.tell-requires
tell-requires c =
    let signs = c.f.inside.signs.items in
    let cells = c.self.inside.cells.items in
    let store : cells_of signs ≡ map cell_name cells = ap (λ (f : FrontView). f.store) c.f.view_is ∙ (c.requires.store ∙ sym c.self.view_is) in
    let lt = below _ _ c.args.place c.f.view_is c.requires.place in
    let w = signs_within signs c.f.inside.len (map cell_name cells) c.f.invariant store in
    let within : c.args.place < length cells = (let n = length-map cells cell_name in omega (arith, w.0)) in
    ap (λ (s : Sign Contradiction). s.cell) c.index-sign.ensures
    ∙ sym (c.note-note.ensures.0 ∙ cell_same signs cells c.args.place c.index-sign.result.now c.index-cell.result.now store within c.index-cell.ensures)

pub unreachable-requires : goal.unreachable-requires
unreachable-requires c =
    is_there c.f.inside.signs.items c.f.inside.len c.args.place c.index-sign.result.now c.tell.new.note.known c.f.invariant (below _ _ c.args.place c.f.view_is c.requires.place) c.index-sign.ensures c.tell.ensures.1 c.in-None.ensures.value.0

pub returns : goal.returns
returns c =
    let lt = below _ _ c.args.place c.f.view_is c.requires.place in
    let v = seen_value c.f.inside.signs.items c.f.inside.len c.args.place c.index-sign.result.now c.tell.new.note.known c.f.invariant lt c.index-sign.ensures c.tell.ensures.1 in
    let there = is_there c.f.inside.signs.items c.f.inside.len c.args.place c.index-sign.result.now c.tell.new.note.known c.f.invariant lt c.index-sign.ensures c.tell.ensures.1 in
    ap (λ (f : FrontView). slice_get f.values c.args.place) (sym c.f.view_is) ∙ agreed _ _ c.in-Some.value.now v there c.in-Some.ensures.value.1
