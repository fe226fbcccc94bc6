use Rattle.std.proofs.Common.{◌≡◌, ◌<◌, ◌%◌, ◌∙◌, ℕ, arith, ap, refl, slice_index, sym}
use Rattle.std.proofs.Math.Nat.{mod-lt}
use Rattle.std.proofs.lemmas.Option.{IfSome_then}
use Rattle.ot_base.specs.declared.tableau.InId.{InId}
use Rattle.search_deeds.proofs.Admitting.{AreGiven-more, AreGiven-none}
use Rattle.search_deeds.proofs.blocks.Row.admit.Goals as goal

pub loop-k-init : goal.loop-k-init
loop-k-init c = record { input = refl; given = AreGiven-none c.args.self.now.words c.winner_at-winner.result c.args.bit }

pub loop-k-preserved : goal.loop-k-preserved
loop-k-preserved c = record {
  input = c.loop-k.invariant.input;
  given = AreGiven-more c.args.self.now.words c.loop-k.self.words c.winner_at-winner.result c.args.bit c.loop-k.k c.with_bit.result (omega (arith, c.loop-k-test.true)) (λ b one. c.with_bit.ensures.kept b one) (λ taken. c.with_bit.ensures.set (c.takes_word.ensures taken)) c.loop-k.invariant.given;
}

pub returns-clause-own : goal.returns-clause-own
returns-clause-own c = λ prefix made. record {
  at = λ within.
      let a : ℕ = slice_index prefix c.loop-k.self.input.0 in
      let input : slice_index prefix c.loop-k.self.input.0 ≡ slice_index prefix c.args.self.now.input.0 = ap (λ (x : InId). slice_index prefix x.0) c.loop-k.invariant.input in
      let small : a % 8 < 8 = mod-lt a (omega arith) in
      c.loop-k.invariant.given.given (a % 8) (omega (arith, small, c.loop-k-test.false)) (IfSome_then c.winner_at-winner.result c.winner_at-winner.ensures (λ class h. ap (λ (x : ℕ). x % 8) (sym (input ∙ (h prefix made).1))));
}

pub returns-clause-others : goal.returns-clause-others
returns-clause-others c = λ prefix b h. record {
  at = λ within.
      let same = ap (λ (x : InId). x.0) c.loop-k.invariant.input in
      c.loop-k.invariant.given.kept (slice_index prefix c.loop-k.self.input.0 % 8) b (rw (← same) at (h.at (rw same at within)));
}
