-- Numbers in a row, each behind a byte.
use Rattle.std.proofs.Common.{subst, ◌≡◌, ℕ, zero, suc, ◌+◌, ◌-◌, ◌<◌, ◌≤◌, List, [], ◌∷◌, ◌++◌, length, length-append, get_or, take, drop, set, map, ◌*◌, ◌/◌, ◌%◌, decimal, arith, refl, sym, ap, append_assoc, ◌∙◌}
use Rattle.std.proofs.lemmas.List.{append-nil, take_more, take_more_set, drop-set, length-drop, drop-drop, length-set, length-take-le, take_at, drop_at}
use Rattle.std.proofs.lemmas.List.Folds.{flat_map-map}
use Rattle.std.proofs.lemmas.List.Concat.{flat_map-append}
use Rattle.std.proofs.Math.Seq.{take-add, take-set-lt}
use Rattle.std.proofs.lemmas.Fmt.{decimal_digit, decimal_step}
use Rattle.report_text.specs.Spelling.{spaced, behind, led}
use Rattle.report_text.proofs.Spaced.{join-cons}

abbrev one : ℕ → ℕ → List ℕ
one byte n = byte ∷ decimal n

pub behind-append : (byte : ℕ) (xs ys : List ℕ) → behind byte (xs ++ ys) ≡ behind byte xs ++ behind byte ys
behind-append byte xs ys = flat_map-append (one byte) xs ys

-- with the same byte before all of them
pub led_same : (byte : ℕ) (xs : List ℕ) → led byte byte xs ≡ behind byte xs
led_same byte [] = refl
led_same byte (x ∷ xs) = refl

-- once some are written, the first byte plays no part any more
pub led-append : (first byte : ℕ) (xs ys : List ℕ) → 0 < length xs → led first byte (xs ++ ys) ≡ led first byte xs ++ led byte byte ys
led-append first byte [] ys some = absurd (omega (arith, some))
led-append first byte (x ∷ xs) ys some =
    rw (behind-append byte xs ys, led_same byte ys) (ap (λ (l : List ℕ). first ∷ l) (sym (append_assoc (decimal x) (behind byte xs) (behind byte ys))))

-- one number more
pub behind-more : (byte : ℕ) (xs : List ℕ) (k : ℕ) → k < length xs → behind byte (take (k + 1) xs) ≡ behind byte (take k xs) ++ byte ∷ decimal (get_or xs k 0)
behind-more byte xs k below =
    rw (take_more xs k 0 below, behind-append byte (take k xs) (get_or xs k 0 ∷ []), append-nil (byte ∷ decimal (get_or xs k 0))) refl

-- the same, of one digit
pub behind-digit : (byte : ℕ) (xs : List ℕ) (k : ℕ) → k < length xs → get_or xs k 0 < 10
    → behind byte (take (k + 1) xs) ≡ behind byte (take k xs) ++ byte ∷ (48 + get_or xs k 0) ∷ []
behind-digit byte xs k below small =
    let digit = decimal_digit (get_or xs k 0) small in
    rw (behind-more byte xs k below, digit) refl

-- the next of them, and those that are left
pub led-next : (first byte : ℕ) (xs : List ℕ) (k : ℕ) → k < length xs → led first byte (drop k xs) ≡ (first ∷ decimal (get_or xs k 0)) ++ led byte byte (drop (k + 1) xs)
led-next first byte [] k below = absurd (omega (arith, below))
led-next first byte (x ∷ xs) zero below = rw (led_same byte xs) refl
led-next first byte (x ∷ xs) (suc k) below =
    let next : suc (k + 1) ≡ suc k + 1 = omega arith in
    subst (λ (n : ℕ). led first byte (drop k xs) ≡ (first ∷ decimal (get_or xs k 0)) ++ led byte byte (drop n (x ∷ xs))) next (led-next first byte xs k (omega (arith, below)))

-- the first byte written over the byte that stood there
pub over_first : (first byte : ℕ) (xs bytes : List ℕ) → take (2 * length xs) bytes ≡ behind byte xs → take (2 * length xs) (set bytes 0 first) ≡ led first byte xs
over_first first byte [] bytes e = refl
over_first first byte (x ∷ xs) bytes e = rw (take-set-lt (2 * length (x ∷ xs)) bytes 0 first (omega arith), e) refl

-- two bytes written at a place
pub take-pair : (bytes : List ℕ) (i x y : ℕ) → i + 1 < length bytes → take (i + 2) (set (set bytes i x) (i + 1) y) ≡ take i bytes ++ x ∷ y ∷ []
take-pair bytes i x y within =
    let first : take (i + 1) (set bytes i x) ≡ take i bytes ++ x ∷ [] = take_more_set bytes i x (omega (arith, within)) in
    let second : take (i + 1 + 1) (set (set bytes i x) (i + 1) y) ≡ take (i + 1) (set bytes i x) ++ y ∷ [] = take_more_set (set bytes i x) (i + 1) y (rw length-set within) in
    let next : i + 2 ≡ i + 1 + 1 = omega arith in
    ap (λ (n : ℕ). take n (set (set bytes i x) (i + 1) y)) next ∙ second ∙ ap (λ (l : List ℕ). l ++ y ∷ []) first ∙ append_assoc (take i bytes) (x ∷ []) (y ∷ [])

-- a number of two digits
pub decimal-two : (n : ℕ) → 10 ≤ n → n < 100 → decimal n ≡ (48 + n / 10) ∷ (48 + n % 10) ∷ []
decimal-two n most less =
    decimal_step n most (omega (arith, less)) ∙ ap (λ (l : List ℕ). l ++ (48 + n % 10) ∷ []) (decimal_digit (n / 10) (omega (arith, less)))

-- two bytes written at the end of what is written
pub take-two : (bytes : List ℕ) (k x y : ℕ) → 2 * k + 1 < length bytes → take (2 * (k + 1)) (set (set bytes (2 * k) x) (2 * k + 1) y) ≡ take (2 * k) bytes ++ x ∷ y ∷ []
take-two bytes k x y within =
    let second : take (2 * k + 1 + 1) (set (set bytes (2 * k) x) (2 * k + 1) y) ≡ take (2 * k + 1) (set bytes (2 * k) x) ++ y ∷ [] =
    take_more_set (set bytes (2 * k) x) (2 * k + 1) y (rw length-set within)
    in
    let first : take (2 * k + 1) (set bytes (2 * k) x) ≡ take (2 * k) bytes ++ x ∷ [] = take_more_set bytes (2 * k) x (omega (arith, within)) in
    let next : 2 * (k + 1) ≡ 2 * k + 1 + 1 = omega arith in
    rw (next, second, first) (append_assoc (take (2 * k) bytes) (x ∷ []) (y ∷ []))

-- as a field with a space between each two
pub led_spaced : (xs : List ℕ) → 0 < length xs → led 9 32 xs ≡ 9 ∷ spaced xs
led_spaced [] some = absurd (omega (arith, some))
led_spaced (x ∷ xs) some = rw (join-cons 32 (decimal x) (map decimal xs), flat_map-map (λ (y : List ℕ). 32 ∷ y) decimal xs) refl

-- some of those that are left are written, and the others are left
pub put_some : (text new whole few more rest : List ℕ) (before byte : ℕ) → rest ≡ few ++ more → 0 < length few → new ≡ text ++ led before byte few → text ++ led before byte rest ≡ whole → new ++ led byte byte more ≡ whole
put_some text new whole few more rest before byte parts some written so_far =
    let split : led before byte rest ≡ led before byte few ++ led byte byte more = ap (led before byte) parts ∙ led-append before byte few more some in
    ap (λ (l : List ℕ). l ++ led byte byte more) written ∙ append_assoc text (led before byte few) (led byte byte more) ∙ ap (λ (l : List ℕ). text ++ l) (sym split) ∙ so_far

-- the next of those that are left is written
pub put_next : (text new whole xs : List ℕ) (k before byte : ℕ) → k < length xs → new ≡ text ++ before ∷ decimal (get_or xs k 0) → text ++ led before byte (drop k xs) ≡ whole → new ++ led byte byte (drop (k + 1) xs) ≡ whole
put_next text new whole xs k before byte below written so_far =
    let one : List ℕ = before ∷ decimal (get_or xs k 0) in
    let rest : List ℕ = led byte byte (drop (k + 1) xs) in
    ap (λ (l : List ℕ). l ++ rest) written ∙ append_assoc text one rest ∙ ap (λ (l : List ℕ). text ++ l) (sym (led-next before byte xs k below)) ∙ so_far

-- none is left
pub put_all : (text whole rest : List ℕ) (before byte : ℕ) → length rest ≡ 0 → text ++ led before byte rest ≡ whole → text ≡ whole
put_all text whole [] before byte none so_far = sym (append-nil text) ∙ so_far
put_all text whole (x ∷ rest) before byte none so_far = absurd (omega (arith, none))

-- the first of some bytes that are taken with others
pub take-front : (xs ys : List ℕ) (n m : ℕ) → n ≡ length xs → n ≤ m → take n (take m (xs ++ ys)) ≡ xs
take-front xs ys n m is within =
    let more : n + (m - n) ≡ m = omega (arith, within) in
    ap (λ (k : ℕ). take n (take k (xs ++ ys))) (sym more)
    ∙ ap (λ (l : List ℕ). take n l) (take-add n (m - n) (xs ++ ys))
    ∙ take_at (take n (xs ++ ys)) (take (m - n) (drop n (xs ++ ys))) n (omega (arith, ap (λ (l : List ℕ). length l) (take_at xs ys n (sym is)), is))
    ∙ take_at xs ys n (sym is)

-- a number among some bytes, before one byte and behind another that is set there, of which none is taken with them that is behind
pub number-between : (text new bytes number more : List ℕ) (start before after : ℕ) → start + length number ≡ 23 → 0 < start → drop start bytes ≡ number ++ after ∷ more
    → new ≡ text ++ take (25 - start) (take (start + 23 - (start - 1)) (drop (start - 1) (set bytes (start - 1) before))) → new ≡ text ++ before ∷ number ++ after ∷ []
number-between text new bytes number more start before after long some e put =
    let within : start ≤ length bytes = omega (arith, length-drop start bytes, ap (λ (l : List ℕ). length l) e, length-append number (after ∷ more)) in
    let next : start - 1 + 1 ≡ start = omega (arith, some) in
    let field : List ℕ = before ∷ (number ++ after ∷ []) in
    let whole : drop (start - 1) (set bytes (start - 1) before) ≡ field ++ more =
    drop-set bytes (start - 1) before (omega (arith, some, within)) ∙ ap (λ (k : ℕ). before ∷ drop k bytes) next ∙ ap (λ (l : List ℕ). before ∷ l) (e ∙ sym (append_assoc number (after ∷ []) more))
    in
    let wide : length field ≡ 25 - start = omega (arith, length-append number (after ∷ []), long, some) in
    put
    ∙ ap (λ (l : List ℕ). text ++ take (25 - start) (take (start + 23 - (start - 1)) l)) whole
    ∙ ap (λ (l : List ℕ). text ++ l) (take-front field more (25 - start) (start + 23 - (start - 1)) (sym wide) (omega (arith, some, wide, long, length-append number (after ∷ []))))
    ∙ sym (append_assoc text (before ∷ number) (after ∷ []))

-- a word before a number, each before a tab, of which the first is set there
pub line-number : (text new bytes word copied number more : List ℕ) (start first : ℕ) → copied ≡ word → start + length number ≡ 31 → 1 + length word ≤ start → first ≡ start - 1 - length word → drop start bytes ≡ number ++ 9 ∷ more
    → new ≡ text ++ take (32 - first) (take (first + 32 - first) (drop first (take first (set bytes (start - 1) 9) ++ (copied ++ drop (start - 1 - first) (drop first (set bytes (start - 1) 9))))))
    → new ≡ text ++ word ++ 9 ∷ number ++ 9 ∷ []
line-number text new bytes word copied number more start first same long some is e put =
    let within : start ≤ length bytes = omega (arith, length-drop start bytes, ap (λ (l : List ℕ). length l) e, length-append number (9 ∷ more)) in
    let next : start - 1 + 1 ≡ start = omega (arith, some) in
    let tabbed : List ℕ = set bytes (start - 1) 9 in
    let field : List ℕ = word ++ (9 ∷ (number ++ 9 ∷ [])) in
    let behind : drop (start - 1 - first) (drop first tabbed) ≡ 9 ∷ (number ++ 9 ∷ more) =
    drop-drop (start - 1 - first) first tabbed
    ∙ ap (λ (k : ℕ). drop k tabbed) (let back : first + (start - 1 - first) ≡ start - 1 = omega (arith, is, some) in back)
    ∙ drop-set bytes (start - 1) 9 (omega (arith, some, within)) ∙ ap (λ (k : ℕ). 9 ∷ drop k bytes) next ∙ ap (λ (l : List ℕ). 9 ∷ l) e
    in
    let whole : drop first (take first tabbed ++ (copied ++ drop (start - 1 - first) (drop first tabbed))) ≡ field ++ more =
    drop_at (take first tabbed) (copied ++ drop (start - 1 - first) (drop first tabbed)) first (length-take-le first tabbed (omega (arith, length-set bytes (start - 1) 9, is, within)))
    ∙ ap (λ (l : List ℕ). l ++ drop (start - 1 - first) (drop first tabbed)) same
    ∙ ap (λ (l : List ℕ). word ++ l) (behind ∙ ap (λ (l : List ℕ). 9 ∷ l) (sym (append_assoc number (9 ∷ []) more)))
    ∙ sym (append_assoc word (9 ∷ (number ++ 9 ∷ [])) more)
    in
    let wide : length field ≡ 32 - first = omega (arith, length-append word (9 ∷ (number ++ 9 ∷ [])), length-append number (9 ∷ []), long, some, is) in
    put
    ∙ ap (λ (l : List ℕ). text ++ take (32 - first) (take (first + 32 - first) l)) whole
    ∙ ap (λ (l : List ℕ). text ++ l) (take-front field more (32 - first) (first + 32 - first) (sym wide) (omega arith))
    ∙ sym (append_assoc text word (9 ∷ (number ++ 9 ∷ [])))
    ∙ sym (append_assoc (text ++ word) (9 ∷ number) (9 ∷ []))

-- three numbers with a byte between each two, of which none is taken with them that is behind
pub three-numbers : (text new bytes a b c more : List ℕ) (start : ℕ) → start + length a + (1 + length b) + (1 + length c) ≡ 24 → drop start bytes ≡ a ++ ((58 ∷ b) ++ ((62 ∷ c) ++ more))
    → new ≡ text ++ take (24 - start) (take (start + 24 - start) (drop start bytes)) → new ≡ text ++ ((((a ++ 58 ∷ []) ++ b) ++ 62 ∷ []) ++ c)
three-numbers text new bytes a b c more start long e put =
    let field : List ℕ = (((a ++ 58 ∷ []) ++ b) ++ 62 ∷ []) ++ c in
    let joined : a ++ ((58 ∷ b) ++ ((62 ∷ c) ++ more)) ≡ field ++ more = simp append_assoc in
    let wide : length field ≡ 24 - start = omega (
      arith,
      length-append (((a ++ 58 ∷ []) ++ b) ++ 62 ∷ []) c,
      length-append ((a ++ 58 ∷ []) ++ b) (62 ∷ []),
      length-append (a ++ 58 ∷ []) b,
      length-append a (58 ∷ []),
      long,
    ) in
    put
    ∙ ap (λ (l : List ℕ). text ++ take (24 - start) (take (start + 24 - start) l)) (e ∙ joined)
    ∙ ap (λ (l : List ℕ). text ++ l) (take-front field more (24 - start) (start + 24 - start) (sym wide) (omega arith))
