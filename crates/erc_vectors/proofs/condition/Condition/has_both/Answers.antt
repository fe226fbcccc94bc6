use Rattle.std.proofs.Common.{◌≡◌, ◌≢◌, ◌==◌, ℕ, not, List, refl, arith}
use Rattle.std.specs.List.{list_any}
use Rattle.std.proofs.lemmas.Bool.{ne_eqb}
use Rattle.ot_theory.specs.declared.Mark.{Mark}
use Rattle.ot_theory.specs.Conditions.{is_win, is_loss, has_both}
use Rattle.erc_vectors.proofs.Bits.{any-mask}
use Rattle.erc_vectors.proofs.condition.Condition.has_both.Goals as goal

some_wins : (w l : ℕ) (marks : List Mark) → list_any is_win marks ≡ not (w == 0) → list_any is_loss marks ≡ not (l == 0) → w ≢ 0 → not (l == 0) ≡ has_both marks
some_wins w l marks p q some = rw (p, q, ne_eqb w 0 some) refl

no_wins : (w : ℕ) (marks : List Mark) → list_any is_win marks ≡ not (w == 0) → w ≡ 0 → not (w == 0) ≡ has_both marks
no_wins w marks p none = rw (p, none) refl

pub returns-then-w_mask-ne0 : goal.returns-then-w_mask-ne0
returns-then-w_mask-ne0 c =
    some_wins _ _ c.args.self.now (any-mask is_win c.args.self.now _ refl (omega arith) c.w_mask.ensures.mask) (any-mask is_loss c.args.self.now _ refl (omega arith) c.l_mask.ensures.mask) c.if-w_mask-ne0.true

pub returns-else-w_mask-ne0 : goal.returns-else-w_mask-ne0
returns-else-w_mask-ne0 c = no_wins _ c.args.self.now (any-mask is_win c.args.self.now _ refl (omega arith) c.w_mask.ensures.mask) c.if-w_mask-ne0.false
