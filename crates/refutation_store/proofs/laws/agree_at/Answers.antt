use Rattle.std.proofs.Common.{sym, ap, ◌∙◌, slice_get, refl}
use Rattle.note_sign.specs.declared.Sign.{Sign}
use Rattle.refutation.specs.declared.contradiction.Contradiction.{Contradiction}
use Rattle.refutation_store.specs.Fronts.{FrontView}
use Rattle.refutation_store.proofs.Learnt.{cell_same, seen_value, is_there, both_known, within_cells}
use Rattle.refutation_store.proofs.laws.agree_at.Goals as goal

pub tell-requires : goal.tell-requires
tell-requires c =
    let w = within_cells _ _ c.f.inside.signs.items c.f.inside.len c.args.place c.store.inside.cells.items c.f.view_is refl refl c.f.invariant (c.requires.stores.0 ∙ sym c.store.view_is) c.requires.place.0 in
    ap (λ (s : Sign Contradiction). s.cell) c.index-one.ensures
    ∙ sym (c.note-note.ensures.0 ∙ cell_same c.f.inside.signs.items c.store.inside.cells.items c.args.place c.index-one.result.now c.index-cell.result.now w.2 w.1 c.index-cell.ensures)

pub tell-requires-2 : goal.tell-requires-2
tell-requires-2 c =
    let w = within_cells _ _ c.g.inside.signs.items c.g.inside.len c.args.place c.store.inside.cells.items c.g.view_is refl refl c.g.invariant (c.requires.stores.1 ∙ sym c.store.view_is) c.requires.place.1 in
    ap (λ (s : Sign Contradiction). s.cell) c.index-two.ensures
    ∙ sym (c.note-other.ensures.0 ∙ cell_same c.g.inside.signs.items c.store.inside.cells.items c.args.place c.index-two.result.now c.index-cell.result.now w.2 w.1 c.index-cell.ensures)

pub returns : goal.returns
returns c =
    let w = within_cells _ _ c.f.inside.signs.items c.f.inside.len c.args.place c.store.inside.cells.items c.f.view_is refl refl c.f.invariant (c.requires.stores.0 ∙ sym c.store.view_is) c.requires.place.0 in
    let u = within_cells _ _ c.g.inside.signs.items c.g.inside.len c.args.place c.store.inside.cells.items c.g.view_is refl refl c.g.invariant (c.requires.stores.1 ∙ sym c.store.view_is) c.requires.place.1 in
    let one = seen_value c.f.inside.signs.items c.f.inside.len c.args.place c.index-one.result.now c.tell.new.note.known c.f.invariant w.0 c.index-one.ensures c.tell.ensures.1 in
    let two = seen_value c.g.inside.signs.items c.g.inside.len c.args.place c.index-two.result.now c.tell-2.new.note.known c.g.invariant u.0 c.index-two.ensures c.tell-2.ensures.1 in
    let n = is_there c.f.inside.signs.items c.f.inside.len c.args.place c.index-one.result.now c.tell.new.note.known c.f.invariant w.0 c.index-one.ensures c.tell.ensures.1 in
    let m = is_there c.g.inside.signs.items c.g.inside.len c.args.place c.index-two.result.now c.tell-2.new.note.known c.g.invariant u.0 c.index-two.ensures c.tell-2.ensures.1 in
    ap (λ (f : FrontView). slice_get f.values c.args.place) (sym c.f.view_is)
    ∙ (both_known _ _ _ _ one two n m c.compare.ensures.1 ∙ ap (λ (f : FrontView). slice_get f.values c.args.place) c.g.view_is)
