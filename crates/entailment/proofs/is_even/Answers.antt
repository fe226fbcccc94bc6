use Rattle.std.proofs.Common.{◌≡◌, ◌≢◌, ℕ, ◌^◌, ◌<◌, List, [], ◌∷◌, Bool, true, false, not, ◌&&◌, ◌==◌, arith, refl, sym, ◌∙◌, ap}
use Rattle.std.specs.List.{list_all, list_any}
use Rattle.std.proofs.lemmas.Bool.{eq-eqb, ne_eqb}
use Rattle.ot_theory.specs.declared.Mark.{Mark}
use Rattle.ot_theory.specs.declared.Mark.TheVariants.{W, L, E}
use Rattle.ot_theory.specs.Conditions.{is_win, is_loss, is_even}
use Rattle.erc_vectors.specs.Masks.{IsMask}
use Rattle.erc_vectors.proofs.Bits.{any-mask}
use Rattle.entailment.proofs.is_even.Goals as goal

-- The marks are all e where none is W and none is L.
even-none : (marks : List Mark) → list_all is_even marks ≡ (not (list_any is_win marks) && not (list_any is_loss marks))
even-none [] = refl
even-none (W ∷ marks) = refl
even-none (L ∷ marks) = by (list_any is_win marks)
  where
    by : (b : Bool) → false ≡ (not b && false)
    by true = refl
    by false = refl
even-none (E ∷ marks) = even-none marks

even-masks : (marks : List Mark) (w l : ℕ) → w < 2 ^ 64 → l < 2 ^ 64 → IsMask is_win marks w → IsMask is_loss marks l → list_all is_even marks ≡ ((w == 0) && (l == 0))
even-masks marks w l small low p q = even-none marks ∙ rw (any-mask is_win marks w refl small p, any-mask is_loss marks l refl low q) (by (w == 0) (l == 0))
  where
    by : (a b : Bool) → (not (not a) && not (not b)) ≡ (a && b)
    by true true = refl
    by true false = refl
    by false b = refl

marked : (marks : List Mark) (w : ℕ) → w < 2 ^ 64 → IsMask is_win marks w → w ≢ 0 → list_all is_even marks ≡ false
marked marks w small p some = even-none marks ∙ rw (any-mask is_win marks w refl small p, ne_eqb w 0 some) refl

pub returns-then-w_mask-eq0 : goal.returns-then-w_mask-eq0
returns-then-w_mask-eq0 c =
    sym (even-masks c.args.c.now c.w_mask.result c.l_mask.result (omega arith) (omega arith) c.w_mask.ensures.mask c.l_mask.ensures.mask
    ∙ ap (λ (t : Bool). t && (c.l_mask.result == 0)) (eq-eqb c.w_mask.result 0 c.if-w_mask-eq0.true))

pub returns-else-w_mask-eq0 : goal.returns-else-w_mask-eq0
returns-else-w_mask-eq0 c = ne_eqb c.w_mask.result 0 c.if-w_mask-eq0.false ∙ sym (marked c.args.c.now c.w_mask.result (omega arith) c.w_mask.ensures.mask c.if-w_mask-eq0.false)
