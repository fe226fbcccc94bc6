use Rattle.std.proofs.Common.{◌≡◌, ◌∷◌, ◌<◌, length, drop, get_or, true, ◌+◌, ◌-◌, ◌*◌, [], sym, ap, ◌∙◌, arith}
use Rattle.std.specs.List.{prefix_len}
use Rattle.std.proofs.lemmas.Bool.{eqb-false}
use Rattle.std.proofs.lemmas.List.{take_rest, length-drop, drop-drop}
use Rattle.tab_cells.specs.Cells.{cells_of, is_digit, is_one_digit}
use Rattle.tab_cells.proofs.Digits.{last-left, first-left, prefix-more, drop-front, numbers-more}
use Rattle.tab_cells.proofs.pieces.cut_digits.Goals as goal
use Rattle.tab_cells.proofs.pieces.cut_digits.Goals.{else-left-gt1-via-then-left-gt1+else-left-ne9, else-left-gt1-via-else-left-gt1}

pub returns-then-left-eq1-clause-numbers : goal.returns-then-left-eq1-clause-numbers
returns-then-left-eq1-clause-numbers c =
    let left = drop (2 * c.loop-k.k) c.args.line.now in
    let whole = take_rest c.args.line.now (2 * c.loop-k.k) in
    let one : length left ≡ 1 = rw whole at c.if-left-eq1.true in
    let digit : is_digit (get_or left 0 0) ≡ true = rw whole at (sym c.is_digit.ensures ∙ c.if-not-is_digit.false) in
    let value : c.from.result ≡ get_or left 0 0 - 48 = rw whole at c.from.ensures in
    numbers-more c.loop-k.k (cells_of c.args.line.now) (get_or left 0 0 ∷ []) [] c.args.numbers.now c.loop-k.numbers c.from.result
    (c.loop-k.invariant.rest ∙ last-left left one digit) (omega arith) c.loop-k.invariant.numbers value

pub returns-then-left-eq1-clause-rest : goal.returns-then-left-eq1-clause-rest
returns-then-left-eq1-clause-rest c =
    let left = drop (2 * c.loop-k.k) c.args.line.now in
    let whole = take_rest c.args.line.now (2 * c.loop-k.k) in
    let one : length left ≡ 1 = rw whole at c.if-left-eq1.true in
    let digit : is_digit (get_or left 0 0) ≡ true = rw whole at (sym c.is_digit.ensures ∙ c.if-not-is_digit.false) in
    sym (drop-front c.loop-k.k (cells_of c.args.line.now) (get_or left 0 0 ∷ []) [] (c.loop-k.invariant.rest ∙ last-left left one digit))

pub loop-k-preserved : goal.loop-k-preserved
loop-k-preserved c = elim c.else-left-gt1.branch [
  | else-left-gt1-via-then-left-gt1+else-left-ne9 w ↦
      let k = c.loop-k.k in
      let line = c.args.line.now in
      let left = drop (2 * k) line in
      let whole = take_rest line (2 * k) in
      let long : 1 < length left = rw whole at w.if-left-gt1.true in
      let digit : is_digit (get_or left 0 0) ≡ true = rw whole at (sym c.is_digit.ensures ∙ c.if-not-is_digit.false) in
      let tab : get_or left 1 0 ≡ 9 = rw whole at w.if-left-ne9.false in
      let value : c.from.result ≡ get_or left 0 0 - 48 = rw whole at c.from.ensures in
      let first = first-left left long digit tab in
      let front = c.loop-k.invariant.rest ∙ first in
      let next : drop 2 left ≡ drop (2 * (k + 1)) line = drop-drop 2 (2 * k) line ∙ ap (λ j. drop j line) (omega arith) in
      let one : prefix_len is_one_digit (cells_of left) ≡ 1 + prefix_len is_one_digit (cells_of (drop (2 * (k + 1)) line)) =
      ap (prefix_len is_one_digit) first ∙ prefix-more (get_or left 0 0) (cells_of (drop 2 left)) digit ∙ ap (λ l. 1 + prefix_len is_one_digit (cells_of l)) next
      in
      record {
        within = omega (arith, long, length-drop (2 * k) line);
        rest = drop-front k (cells_of line) (get_or left 0 0 ∷ []) (cells_of (drop 2 left)) front ∙ ap cells_of next;
        passes = omega (arith, c.loop-k.invariant.passes, one);
        numbers = numbers-more k (cells_of line) (get_or left 0 0 ∷ []) (cells_of (drop 2 left)) c.args.numbers.now c.loop-k.numbers c.from.result front (omega arith) c.loop-k.invariant.numbers value;
      }
  | else-left-gt1-via-else-left-gt1 w ↦
      let some = eqb-false _ 0 (sym c.is_empty.ensures ∙ c.if-is_empty.false) in
      absurd (omega (arith, w.if-left-gt1.false, c.if-left-eq1.false, some))
]
