use Rattle.std.proofs.Common.{◌≡◌, ◌<◌, ℕ, arith, refl, ap, ◌∙◌, sym, length, take}
use Rattle.std.specs.Prelude.{slice_index}
use Rattle.std.proofs.lemmas.List.{get_or-map}
use Rattle.typology_workers.specs.Paths.{before_of}
use Rattle.typology_workers.specs.declared.path.Step.{Step}
use Rattle.typology_workers.proofs.Going.{path-back, prefix-back}
use Rattle.typology_workers.proofs.path.Path.go_back.Goals as goal

pub returns-then-kept-len-clause-path : goal.returns-then-kept-len-clause-path
returns-then-kept-len-clause-path c problem h =
    let path = c.args.self.now in
    let below : c.args.kept < length path.steps.items = (let t = c.if-kept-len.true in let n = c.len.ensures in omega arith) in
    let end : c.index.result.now.before ≡ slice_index (before_of path) c.args.kept = ap (λ (s : Step). s.before) c.index.ensures ∙ sym (get_or-map (λ (s : Step). s.before) path.steps.items c.args.kept _ 0 below) in
    path-back problem path _ c.args.kept below c.truncate.ensures.items
    (c.forget.ensures.terms ∙ ap (λ (n : ℕ). take n path.asked.terms.items) end)
    (c.forget.ensures.conditions ∙ ap (λ (n : ℕ). take n path.asked.conditions.items) end) refl refl c.shorter-self.ensures.low (rw end at c.shorter-self.ensures.reach) h

pub returns-then-kept-len-clause-there : goal.returns-then-kept-len-clause-there
returns-then-kept-len-clause-there c = prefix-back c.args.self.now (record { steps = c.truncate.new.self; asked = c.forget.new.self; fronts = c.shorter-self.result; ready = c.args.self.now.ready; memo = c.args.self.now.memo }) c.args.kept c.truncate.ensures.items
