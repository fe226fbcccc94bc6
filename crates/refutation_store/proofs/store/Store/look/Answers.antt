use Rattle.std.proofs.Common.{◌≡◌, ◌<◌, ◌≤◌, ◌∷◌, [], ◌++◌, ℕ, length, map, set, get_or, sym, ap, ◌∙◌, arith, length-append, List, Some}
use Rattle.std.proofs.lemmas.List.{length-map}
use Rattle.once_cell.specs.Once.{cell_name}
use Rattle.note_sign.specs.declared.Sign.{Sign}
use Rattle.refutation.specs.declared.contradiction.Contradiction.{Contradiction}
use Rattle.refutation_store.specs.Fronts.{FrontView, cells_of, known_of, knowns}
use Rattle.refutation_store.proofs.Learnt.{learns, learns_values, same_cells, cell_same, signs_within}
use Rattle.refutation_store.proofs.store.Store.look.Goals as goal

store_is : (c : goal.After-drop-note) → cells_of c.f.inside.signs.items ≡ map cell_name c.self.inside.cells.items
store_is c = ap (λ (f : FrontView). f.store) c.f.view_is ∙ (c.requires ∙ sym c.self.view_is)

below : (c : goal.After-drop-note) → c.f.inside.len < length c.f.inside.signs.items
below c =
    let w = signs_within c.f.inside.signs.items c.f.inside.len (map cell_name c.self.inside.cells.items) c.f.invariant (store_is c) in
    let n = length-map c.self.inside.cells.items cell_name in
    let t = c.if-f-len.false in omega (arith, w.1)

value_is : (c : goal.After-drop-note) → c.sign_of.result.known ≡ Some c.in-Some.value.now
value_is c = c.sign_of.ensures.2 ∙ c.in-Some.ensures.value.0

pub invariant_of-f : goal.invariant_of-f
invariant_of-f c = learns c.f.inside.signs.items c.f.inside.len c.sign_of.result c.in-Some.value.now c.f.invariant (below c) (value_is c)

pub returns-in-Some : goal.returns-in-Some
returns-in-Some c =
    let signs = c.f.inside.signs.items in
    let len = c.f.inside.len in
    let d : Sign Contradiction = c.sign_of.result in
    let cell : c.sign_of.result.cell ≡ (get_or signs len d).cell =
    c.sign_of.ensures.1 ∙ (c.in-Some.ensures.cell ∙ (c.note-note.ensures.0
    ∙ cell_same signs c.self.inside.cells.items len d c.index-next.result.now (store_is c) (let w = c.if-f-len.false in omega arith) c.index-next.ensures)) in
    let a : cells_of (set signs len d) ≡ c.args.f.now.store = same_cells signs len d d cell ∙ ap (λ (f : FrontView). f.store) c.f.view_is in
    let b : known_of (knowns (set signs len d)) ≡ c.args.f.now.values ++ c.in-Some.value.now ∷ [] =
    learns_values signs len d c.in-Some.value.now c.f.invariant (below c) (value_is c) ∙ ap (λ (f : FrontView). f.values ++ c.in-Some.value.now ∷ []) c.f.view_is in
    let within : length (known_of (knowns (set signs len d))) ≤ length c.args.self.now = (let e = ap length b in let v = ap (λ (f : FrontView). length f.values) c.f.view_is in let n = ap (λ (l : List ℕ). length l) c.self.view_is in let m = length-map c.self.inside.cells.items cell_name in let t = c.if-f-len.false in let k = c.f.invariant.count in omega (arith, length-append c.args.f.now.values (c.in-Some.value.now ∷ []))) in
    record { value = λ i. record { store = a i; values = b i; misses = ap (λ (f : FrontView). f.misses) c.f.view_is i }; within = within }
