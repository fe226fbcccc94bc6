use Rattle.std.proofs.Common.{◌∙◌, ◌∷◌, ◌++◌, sym, ap, List, ℕ}
use Rattle.std.proofs.lemmas.Fmt.{decimal_digit}
use Rattle.std.proofs.lemmas.Result.{on_ok_weaker}
use Rattle.report_text.proofs.text.Text.byte_and_number.Goals as goal

pub returns-then-n-lt10 : goal.returns-then-n-lt10
returns-then-n-lt10 c = on_ok_weaker c.two_bytes.result (λ e. e ∙ ap (λ (l : List ℕ). c.args.self.now ++ c.args.byte ∷ l) (sym (decimal_digit c.args.n c.if-n-lt10.true))) c.two_bytes.ensures
