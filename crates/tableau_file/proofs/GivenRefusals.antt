-- The pairs of the lines so far, and what the lines that are left give behind them.
use Rattle.std.proofs.Common.{◌≡◌, ℕ, ◌+◌, ◌<◌, ◌≤◌, List, [], ◌∷◌, ◌++◌, Bool, true, false, not, Ok, Err, arith, refl, sym, ◌∙◌, ap, append_assoc, length, map}
use Rattle.std.specs.Prelude.{All, flat_map, drop, nat_eq, nat_le}
use Rattle.std.specs.List.{enumerate_from, list_any}
use Rattle.std.proofs.lemmas.Bool.{false_from_ne_true, le-leb, le-ltb, leb-true, lt-ltb}
use Rattle.tab_cells.specs.Lines.{lines_of}
use Rattle.tableau_file.specs.Reading.{is_utf16, table_of, without_mark}
use Rattle.std.proofs.lemmas.List.{append-nil, length_push, map-append}
use Rattle.std.proofs.lemmas.List.Elements.{All-nil, All-push}
use Rattle.ot_base.specs.declared.limits.TheConstants.{GIVEN_LIMIT}
use Rattle.ot_base.specs.declared.tableau.Pair.{Pair}
use Rattle.ot_base.specs.declared.tableau.Tableau.{Tableau}
use Rattle.ot_base.specs.Tableaus.{pair_of, pairs_in}
use Rattle.ot_theory.specs.Problems.{IsPair}
use Rattle.tableau_file.specs.Faults.{fault, IsFirst}
use Rattle.tableau_file.specs.Given.{given_reading, given_refusals, line_refusals, name_faults, number_of, pair_faults, pair_in, pairs_reading}
use Rattle.tableau_file.specs.Rows.{cell, is_blank, is_empty, rows_from, texts_of}
use Rattle.tableau_file.specs.declared.given.GivenRefusal.{GivenRefusal}
use Rattle.tableau_file.specs.declared.given.GivenWhy.{GivenWhy}
use Rattle.tableau_file.specs.declared.given.GivenWhy.TheVariants.{TooLong, Utf16, SameConstraint, ExtraCell, TooManyPairs}
use Rattle.tableau_file.specs.declared.limits.TheConstants.{FILE_LIMIT}
use Rattle.tableau_file.proofs.FirstFault.{first-append}
use Rattle.tableau_file.proofs.RowRefusals.{blank-row, first-row}

-- The lines that are left give, behind the pairs so far, the pairs and the refusals of all lines.
pub record Leaves (tableau : Tableau) (pairs : List Pair) (rows whole : List (ℕ × List (List ℕ))) : Type 0 where
  pub refusals : given_refusals tableau whole ≡ flat_map (line_refusals tableau) (enumerate_from (length pairs) rows)
  pub pairs_are : map (λ row. pair_in tableau row.1) whole ≡ pairs ++ map (λ row. pair_in tableau row.1) rows
  pub few : length pairs ≤ GIVEN_LIMIT
  pub sound : All (IsPair (length tableau.names)) (pairs_in pairs)

pub Leaves-start : (tableau : Tableau) (whole : List (ℕ × List (List ℕ))) → Leaves tableau [] whole whole
Leaves-start tableau whole = record { refusals = refl; pairs_are = refl; few = omega arith; sound = All-nil (IsPair (length tableau.names)) }

-- a blank line gives nothing
pub Leaves-blank : (tableau : Tableau) (pairs : List Pair) (number : ℕ) (line : List (List ℕ)) (lines : List (List (List ℕ))) (whole : List (ℕ × List (List ℕ))) → is_blank line ≡ true
    → Leaves tableau pairs (rows_from number (line ∷ lines)) whole → Leaves tableau pairs (rows_from (number + 1) lines) whole
Leaves-blank tableau pairs number line lines whole blank h = rw (blank-row number line lines blank) at h

-- a line without a fault gives its pair
pub Leaves-more : (tableau : Tableau) (pairs new : List Pair) (number : ℕ) (line : List (List ℕ)) (lines : List (List (List ℕ))) (whole : List (ℕ × List (List ℕ))) → is_blank line ≡ false
    → pair_faults tableau (length pairs) line ≡ [] → new ≡ pairs ++ pair_in tableau line ∷ [] → length pairs < GIVEN_LIMIT → IsPair (length tableau.names) (pair_of (pair_in tableau line))
    → Leaves tableau pairs (rows_from number (line ∷ lines)) whole → Leaves tableau new (rows_from (number + 1) lines) whole
Leaves-more tableau pairs new number line lines whole blank none pushed room pair h =
    let pair_here : Pair = pair_in tableau line in
    let long : length new ≡ length pairs + 1 = ap (λ (l : List Pair). length l) pushed ∙ length_push pairs pair_here in
    let here : Leaves tableau pairs ((number, line) ∷ rows_from (number + 1) lines) whole = rw (first-row number line lines blank) at h in
    record {
      refusals = here.refusals ∙ rw (none, long) refl;
      pairs_are = here.pairs_are ∙ rw pushed (sym (append_assoc pairs (pair_here ∷ []) (map (λ row. pair_in tableau row.1) (rows_from (number + 1) lines))));
      few = omega (arith, long, room);
      sound = rw (ap pairs_in pushed ∙ map-append pair_of pairs (pair_here ∷ [])) (All-push (IsPair (length tableau.names)) (pairs_in pairs) (pair_of pair_here) here.sound pair);
    }

-- the first fault of a line is the first refusal
pub Leaves-fault : (tableau : Tableau) (pairs : List Pair) (number : ℕ) (line : List (List ℕ)) (lines table : List (List (List ℕ))) (refusal : GivenRefusal) → is_blank line ≡ false → refusal.line ≡ number
    → IsFirst refusal.why (pair_faults tableau (length pairs) line) → Leaves tableau pairs (rows_from number (line ∷ lines)) (rows_from 1 table) → pairs_reading tableau table ≡ Err refusal
unfolding pairs_reading
Leaves-fault tableau pairs number line lines table refusal blank at first h =
    let here : Leaves tableau pairs ((number, line) ∷ rows_from (number + 1) lines) (rows_from 1 table) = rw (first-row number line lines blank) at h in
    rw (here.refusals, first.1, ← at) refl

-- Where no line is left and none had a fault, these are the pairs.
pub Leaves-end : (tableau : Tableau) (pairs : List Pair) (number : ℕ) (table : List (List (List ℕ))) → Leaves tableau pairs (rows_from number []) (rows_from 1 table) → pairs_reading tableau table ≡ Ok pairs
unfolding pairs_reading
Leaves-end tableau pairs number table h = rw (h.refusals, h.pairs_are, append-nil pairs) refl

-- which fault of a line is its first
pub upper-first : (tableau : Tableau) (k : ℕ) (cells : List (List ℕ)) (text : List ℕ) (why : GivenWhy) → text ≡ cell cells 0 → IsFirst why (name_faults tableau text) → IsFirst why (pair_faults tableau k cells)
upper-first tableau k cells text why at first =
    let here : IsFirst why (name_faults tableau (cell cells 0)) = rw at at first in
    first-append why _ _ (first-append why _ _ (first-append why _ _ (first-append why (name_faults tableau (cell cells 0)) (name_faults tableau (cell cells 1)) here)))

pub lower-first : (tableau : Tableau) (k : ℕ) (cells : List (List ℕ)) (text : List ℕ) (why : GivenWhy) → name_faults tableau (cell cells 0) ≡ [] → text ≡ cell cells 1 → IsFirst why (name_faults tableau text) → IsFirst why (pair_faults tableau k cells)
lower-first tableau k cells text why upper at first =
    let here : IsFirst why (name_faults tableau (cell cells 1)) = rw at at first in
    rw upper (first-append why _ _ (first-append why _ _ (first-append why (name_faults tableau (cell cells 1)) (fault (nat_eq (number_of tableau (cell cells 0)) (number_of tableau (cell cells 1))) SameConstraint) here)))

-- both columns of a line name a constraint
pub record AreNamed (tableau : Tableau) (cells : List (List ℕ)) (above below : ℕ) : Type 0 where
  upper_sound : name_faults tableau (cell cells 0) ≡ []
  lower_sound : name_faults tableau (cell cells 1) ≡ []
  above_is : above ≡ number_of tableau (cell cells 0)
  below_is : below ≡ number_of tableau (cell cells 1)

pub are_named : (tableau : Tableau) (cells : List (List ℕ)) (upper lower : List ℕ) (above below : ℕ) → upper ≡ cell cells 0 → lower ≡ cell cells 1
    → name_faults tableau upper ≡ [] → name_faults tableau lower ≡ [] → above ≡ number_of tableau upper → below ≡ number_of tableau lower → AreNamed tableau cells above below
are_named tableau cells upper lower above below upper_is lower_is upper_sound lower_sound above_is below_is = record {
  upper_sound = ap (λ text. name_faults tableau text) (sym upper_is) ∙ upper_sound;
  lower_sound = ap (λ text. name_faults tableau text) (sym lower_is) ∙ lower_sound;
  above_is = above_is ∙ ap (λ text. number_of tableau text) upper_is;
  below_is = below_is ∙ ap (λ text. number_of tableau text) lower_is;
}

-- the test of two numbers is that of the numbers of what the columns name
numbers-same : (tableau : Tableau) (cells : List (List ℕ)) (above below : ℕ) (test : Bool) → AreNamed tableau cells above below → nat_eq above below ≡ test
    → nat_eq (number_of tableau (cell cells 0)) (number_of tableau (cell cells 1)) ≡ test
numbers-same tableau cells above below test named is = ap (λ c. nat_eq c (number_of tableau (cell cells 1))) (sym named.above_is) ∙ ap (λ c. nat_eq above c) (sym named.below_is) ∙ is

pub same-first : (tableau : Tableau) (k : ℕ) (cells : List (List ℕ)) (above below : ℕ) → AreNamed tableau cells above below → nat_eq above below ≡ true → IsFirst SameConstraint (pair_faults tableau k cells)
same-first tableau k cells above below named is =
    let same = numbers-same tableau cells above below true named is in
    (fault (list_any (λ text. not (is_empty text)) (drop 2 cells)) ExtraCell ++ fault (nat_le GIVEN_LIMIT k) TooManyPairs, rw (named.upper_sound, named.lower_sound, same) refl)

pub extra-first : (tableau : Tableau) (k : ℕ) (cells : List (List ℕ)) (above below : ℕ) → AreNamed tableau cells above below → nat_eq above below ≡ false
    → list_any (λ text. not (is_empty text)) (drop 2 cells) ≡ true → IsFirst ExtraCell (pair_faults tableau k cells)
extra-first tableau k cells above below named is extra =
    let other = numbers-same tableau cells above below false named is in
    (fault (nat_le GIVEN_LIMIT k) TooManyPairs, rw (named.upper_sound, named.lower_sound, other, extra) refl)

pub many-first : (tableau : Tableau) (k : ℕ) (cells : List (List ℕ)) (above below : ℕ) → AreNamed tableau cells above below → nat_eq above below ≡ false
    → list_any (λ text. not (is_empty text)) (drop 2 cells) ≡ false → GIVEN_LIMIT ≤ k → IsFirst TooManyPairs (pair_faults tableau k cells)
many-first tableau k cells above below named is extra many =
    let other = numbers-same tableau cells above below false named is in
    ([], rw (named.upper_sound, named.lower_sound, other, extra, le-leb GIVEN_LIMIT k many) refl)

pub no-fault : (tableau : Tableau) (k : ℕ) (cells : List (List ℕ)) (above below : ℕ) → AreNamed tableau cells above below → nat_eq above below ≡ false
    → list_any (λ text. not (is_empty text)) (drop 2 cells) ≡ false → k < GIVEN_LIMIT → pair_faults tableau k cells ≡ []
no-fault tableau k cells above below named is extra few =
    let other = numbers-same tableau cells above below false named is in
    let room = false_from_ne_true (nat_le GIVEN_LIMIT k) (λ e. absurd (omega (arith, few, leb-true GIVEN_LIMIT k e))) in
    rw (named.upper_sound, named.lower_sound, other, extra, room) refl

-- a file that is too long, one in UTF-16, and one that is read by its lines
pub given-long : (tableau : Tableau) (bytes : List ℕ) → FILE_LIMIT < length bytes → given_reading tableau bytes ≡ Err (record { line = 1; why = TooLong })
unfolding given_reading
given-long tableau bytes h = rw (lt-ltb FILE_LIMIT (length bytes) h) refl

pub given-utf16 : (tableau : Tableau) (bytes : List ℕ) → length bytes ≤ FILE_LIMIT → is_utf16 bytes ≡ true → given_reading tableau bytes ≡ Err (record { line = 1; why = Utf16 })
unfolding given_reading
given-utf16 tableau bytes short mark = rw (le-ltb FILE_LIMIT (length bytes) short, mark) refl

pub given-table : (tableau : Tableau) (bytes : List ℕ) (lines : List (List ℕ)) → length bytes ≤ FILE_LIMIT → is_utf16 bytes ≡ false → lines ≡ lines_of (without_mark bytes) → given_reading tableau bytes ≡ pairs_reading tableau (map texts_of lines)
unfolding given_reading table_of
given-table tableau bytes lines short plain cut = rw (le-ltb FILE_LIMIT (length bytes) short, plain) (ap (λ (l : List (List ℕ)). pairs_reading tableau (map texts_of l)) (sym cut))
