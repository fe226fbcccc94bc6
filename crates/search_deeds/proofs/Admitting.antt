-- Blocks of certificates: what a new one adds, and what is admitted all the same.
use Rattle.std.proofs.Common.{◌≡◌, ℕ, ◌+◌, ◌-◌, ◌*◌, ◌/◌, ◌%◌, ◌^◌, ◌<◌, ◌≤◌, List, [], ◌∷◌, ◌++◌, Option, true, arith, refl, sym, ◌∙◌, ap, subst, inl, inr, length, set, get_or, slice_index, w64}
use Rattle.std.specs.Prelude.{All, IfSome, bit_or, slice_index_or}
use Rattle.std.specs.Int.{bit_at, trailing_zeros}
use Rattle.std.proofs.lemmas.Bool.{cases_eq, cases_lt}
use Rattle.std.proofs.lemmas.List.{get_or_append_left, get_or_at, get_or_default, get_or-set_same, get_or-set_other, length_push, length-map, length-set}
use Rattle.std.proofs.lemmas.List.Sums.{AllPass-from_list_all}
use Rattle.std.proofs.lemmas.Nat.{shr-shr}
use Rattle.std.proofs.lemmas.Nat.Bits.{bit_at-trailing_zeros, bit_at_above, bit_at_set_same, bit_at_set_other}
use Rattle.ot_theory.specs.Languages.{Term}
use Rattle.ot_theory.specs.Refutations.{refutes}
use Rattle.ot_base.specs.declared.tableau.ClassId.{ClassId}
use Rattle.refutation.specs.Asked.{Begins}
use Rattle.refutation.specs.Terms.{term_of, terms_in}
use Rattle.refutation.specs.declared.term.Term as rust
use Rattle.search_deeds.specs.declared.blocks.Block.{Block}
use Rattle.search_deeds.specs.declared.blocks.Row.{Row}
use Rattle.search_deeds.specs.Admitted.{AreBlocked, AreBlocks, HaveRoom, IsAdmitted, IsAdmittedAt, IsAdmittedBy}
use Rattle.search_deeds.proofs.Choices.{is_made, no_term, nothing, term-at}

-- ---- words of bits
pub bit-kept : (word bit b : ℕ) → bit < 64 → bit_at word b ≡ 1 → bit_at (bit_or word (1 * 2 ^ bit % 2 ^ 64)) b ≡ 1
bit-kept word bit b within h = elim (cases_eq b bit) [
  | inl same ↦ rw same (bit_at_set_same w64 word bit within)
  | inr other ↦ bit_at_set_other w64 word bit within b other ∙ h
]

pub bit-set : (word bit : ℕ) → bit < 64 → bit_at (bit_or word (1 * 2 ^ bit % 2 ^ 64)) bit ≡ 1
bit-set word bit within = bit_at_set_same w64 word bit within

-- the bits of a word without its lowest ones
shifted : (word s i : ℕ) → bit_at (word / 2 ^ s) i ≡ bit_at word (s + i)
shifted word s i = ap (λ x. x % 2) (shr-shr word s i)

-- ---- the winner that terms give to an input
pub term-made : (terms : List rust.Term) (k : ℕ) (prefix : List ℕ) → k < length terms → refutes (terms_in terms) prefix ≡ true → is_made prefix (term_of (get_or terms k no_term)) ≡ true
term-made terms k prefix within made =
    let one : is_made prefix (get_or (terms_in terms) k nothing) ≡ true = AllPass-from_list_all (is_made prefix) (terms_in terms) made k nothing (omega (arith, within, length-map terms term_of)) in
    rw (term-at terms k within) at one

-- ---- the words of a row: those that the winner takes have the bit, among the first ones
pub record AreGiven (old new : List ℕ) (winner : Option ClassId) (bit to : ℕ) : Type 0 where
  pub long : length new ≡ length old
  pub kept : (k b : ℕ) → bit_at (slice_index old k) b ≡ 1 → bit_at (slice_index new k) b ≡ 1
  pub given : (k : ℕ) → k < to → IfSome winner (λ class. class.0 % 8 ≡ k) → bit_at (slice_index new k) bit ≡ 1

pub AreGiven-none : (words : List ℕ) (winner : Option ClassId) (bit : ℕ) → AreGiven words words winner bit 0
AreGiven-none words winner bit = record { long = refl; kept = λ k b h. h; given = λ k below taken. absurd (omega arith) }

pub AreGiven-more : (old new : List ℕ) (winner : Option ClassId) (bit k word : ℕ) → k < length new → ((b : ℕ) → bit_at (slice_index new k) b ≡ 1 → bit_at word b ≡ 1) → (IfSome winner (λ class. class.0 % 8 ≡ k) → bit_at word bit ≡ 1)
    → AreGiven old new winner bit k → AreGiven old (set new k word) winner bit (k + 1)
AreGiven-more old new winner bit k word within kept given h =
    let here : slice_index (set new k word) k ≡ word = get_or-set_same new k word 0 within in
    record {
      long = length-set new k word ∙ h.long;
      kept = λ j b one. elim (cases_eq j k) [
        | inl same ↦ rw (same, here) (kept b (rw same at (h.kept j b one)))
        | inr other ↦ rw (get_or-set_other new k j word 0 other) (h.kept j b one)
      ];
      given = λ j below taken. elim (cases_eq j k) [
        | inl same ↦ rw (same, here) (given (rw same at taken))
        | inr other ↦ rw (get_or-set_other new k j word 0 other) (h.given j (omega (arith, below, other)) taken)
      ];
    }

-- ---- rows: the first ones admit what the terms refute, and none admits less than before
pub record AreAdmitting (terms : List Term) (bit : ℕ) (old new : List Row) (to : ℕ) : Type 0 where
  pub long : length new ≡ length old
  pub own : (j : ℕ) (d : Row) (prefix : List ℕ) → j < to → refutes terms prefix ≡ true → IsAdmittedBy (get_or new j d) prefix bit
  pub others : (j : ℕ) (d : Row) (prefix : List ℕ) (b : ℕ) → j < length new → IsAdmittedBy (get_or old j d) prefix b → IsAdmittedBy (get_or new j d) prefix b

pub AreAdmitting-none : (terms : List Term) (bit : ℕ) (rows : List Row) → AreAdmitting terms bit rows rows 0
AreAdmitting-none terms bit rows = record { long = refl; own = λ j d prefix below made. absurd (omega arith); others = λ j d prefix b within h. h }

pub AreAdmitting-more : (terms : List Term) (bit : ℕ) (old new : List Row) (k : ℕ) (before row : Row) → k < length new → before ≡ get_or new k before → ((prefix : List ℕ) → refutes terms prefix ≡ true → IsAdmittedBy row prefix bit)
    → ((prefix : List ℕ) (b : ℕ) → IsAdmittedBy before prefix b → IsAdmittedBy row prefix b) → AreAdmitting terms bit old new k → AreAdmitting terms bit old (set new k row) (k + 1)
AreAdmitting-more terms bit old new k before row within is own others h = record {
  long = length-set new k row ∙ h.long;
  own = λ j d prefix below made. elim (cases_eq j k) [
    | inl same ↦ rw (same, get_or-set_same new k row d within) (own prefix made)
    | inr other ↦ rw (get_or-set_other new k j row d other) (h.own j d prefix (omega (arith, below, other)) made)
  ];
  others = λ j d prefix b short one. elim (cases_eq j k) [
    | inl same ↦
        let here : IsAdmittedBy (get_or new k d) prefix b = rw same at (h.others j d prefix b (omega (arith, same, within)) one) in
        let at : get_or new k d ≡ before = get_or_default new k d before within ∙ sym is in
        rw (same, get_or-set_same new k row d within) (others prefix b (subst (λ (r : Row). IsAdmittedBy r prefix b) at here))
    | inr other ↦ rw (get_or-set_other new k j row d other) (h.others j d prefix b (omega (arith, short, length-set new k row)) one)
  ];
}

-- ---- a block that admits all that another one admits
pub record Widens (old new : Block) : Type 0 where
  pub each : (prefix : List ℕ) (b : ℕ) → IsAdmitted old prefix b → IsAdmitted new prefix b

pub Widens-same : (block : Block) → Widens block block
Widens-same block = record { each = λ prefix b h. h }

pub Widens-twice : (old middle new : Block) → Widens old middle → ((prefix : List ℕ) (b : ℕ) → IsAdmitted middle prefix b → IsAdmitted new prefix b) → Widens old new
Widens-twice old middle new h more = record { each = λ prefix b one. more prefix b (h.each prefix b one) }

-- ---- places in the blocks
IsAdmittedAt-append : (old new : List Block) (prefix : List ℕ) (k : ℕ) → k < length old * 64 → Begins old new → IsAdmittedAt old prefix k → IsAdmittedAt new prefix k
IsAdmittedAt-append old new prefix k within begins h = record {
  each = λ d. rw (begins.whole, get_or_append_left old begins.rest d (k / 64) (omega (arith, within))) (h.each d);
}

pub others-at : (old blocks : List Block) (prefix : List ℕ) (count k : ℕ) (before block : Block) → count ≤ length old * 64 → k < count → Begins old blocks → count / 64 < length blocks → before ≡ get_or blocks (count / 64) before
    → ((b : ℕ) → IsAdmitted before prefix b → IsAdmitted block prefix b) → IsAdmittedAt old prefix k → IsAdmittedAt (set blocks (count / 64) block) prefix k
others-at old blocks prefix count k before block room below begins within is more h =
    let now : IsAdmittedAt blocks prefix k = IsAdmittedAt-append old blocks prefix k (omega (arith, room, below)) begins h in
    record {
      each = λ d. elim (cases_eq (k / 64) (count / 64)) [
        | inl same ↦
            let here : IsAdmitted before prefix (k % 64) = subst (λ (x : Block). IsAdmitted x prefix (k % 64)) (ap (λ (j : ℕ). get_or blocks j before) same ∙ sym is) (now.each before) in
            rw (same, get_or-set_same blocks (count / 64) block d within) (more (k % 64) here)
        | inr other ↦ rw (get_or-set_other blocks (count / 64) (k / 64) block d other) (now.each d)
      ];
    }

pub own-at : (blocks : List Block) (prefix : List ℕ) (count : ℕ) (block : Block) → count / 64 < length blocks → IsAdmitted block prefix (count % 64) → IsAdmittedAt (set blocks (count / 64) block) prefix count
own-at blocks prefix count block within h = record { each = λ d. rw (get_or-set_same blocks (count / 64) block d within) h }

-- ---- the next place that is admitted
pub record ArePassed (blocks : List Block) (prefix : List ℕ) (from to : ℕ) : Type 0 where
  pub onward : from ≤ to
  pub none : (j : ℕ) → from ≤ j → j < to → IsAdmittedAt blocks prefix j → ⊥

pub ArePassed-none : (blocks : List Block) (prefix : List ℕ) (from : ℕ) → ArePassed blocks prefix from from
ArePassed-none blocks prefix from = record { onward = omega arith; none = λ j low high h. absurd (omega arith) }

-- a word of a block whose bits from a place on are not set before another place
pub ArePassed-more : (blocks : List Block) (prefix : List ℕ) (from k to : ℕ) (block : Block) (word : ℕ) → block ≡ get_or blocks (k / 64) block → ((b : ℕ) → IsAdmitted block prefix b → bit_at word b ≡ 1)
    → k ≤ to → to ≤ k / 64 * 64 + 64 → ((i : ℕ) → k + i < to → bit_at (word / 2 ^ (k % 64)) i ≡ 0) → ArePassed blocks prefix from k → ArePassed blocks prefix from to
ArePassed-more blocks prefix from k to block word is admitted onward near unset h = record {
  onward = omega (arith, h.onward, onward);
  none = λ j low high one. elim (cases_lt j k) [
    | inl before ↦ h.none j low before one
    | inr behind ↦
        let same : j / 64 ≡ k / 64 = omega (arith, behind, high, near) in
        let bit : k % 64 + (j - k) ≡ j % 64 = omega (arith, behind, high, near) in
        let here : IsAdmitted block prefix (j % 64) = subst (λ (x : Block). IsAdmitted x prefix (j % 64)) (ap (λ (m : ℕ). get_or blocks m block) same ∙ sym is) (one.each block) in
        let yes : bit_at word (j % 64) ≡ 1 = admitted (j % 64) here in
        let no : bit_at word (j % 64) ≡ 0 = ap (bit_at word) (sym bit) ∙ sym (shifted word (k % 64) (j - k)) ∙ unset (j - k) (omega (arith, behind, high)) in
        absurd (omega (arith, yes, no))
  ];
}

-- no bit is set below the lowest one, which lies within the word
pub lowest-near : (word s : ℕ) → word < 2 ^ 64 → s < 64 → 0 < word / 2 ^ s → word / 2 ^ s < 2 ^ 64 → s + trailing_zeros w64 (word / 2 ^ s) < 64
lowest-near word s small within some fits =
    let tz : ℕ = trailing_zeros w64 (word / 2 ^ s) in
    let set : bit_at word (s + tz) ≡ 1 = sym (shifted word s tz) ∙ (bit_at-trailing_zeros w64 (word / 2 ^ s) some fits).1 in
    elim (cases_lt (s + tz) 64) [
      | inl near ↦ near
      | inr far ↦ let none : bit_at word (s + tz) ≡ 0 = bit_at_above word 64 (s + tz) small far in absurd (omega (arith, set, none))
    ]

pub unset-below : (word s i : ℕ) → 0 < word / 2 ^ s → word / 2 ^ s < 2 ^ 64 → i < trailing_zeros w64 (word / 2 ^ s) → bit_at (word / 2 ^ s) i ≡ 0
unset-below word s i some fits below = (bit_at-trailing_zeros w64 (word / 2 ^ s) some fits).2 i below

-- ---- the blocks beside the places of certificates
pub AreBlocks-none : (certificates : List (List Term)) → AreBlocks certificates [] []
AreBlocks-none certificates = record { room = omega arith; each = λ k below. absurd (omega arith) }

pub AreBlocked-none : (places : List (List ℕ)) (blocks : List (List Block)) → length blocks ≡ length places → ((b : ℕ) → slice_index_or places b [] ≡ []) → ((b : ℕ) → slice_index_or blocks b [] ≡ []) → AreBlocked [] places blocks
AreBlocked-none places blocks long none empty = record { long = long; each = λ b. rw (none b, empty b) (AreBlocks-none []) }

pub HaveRoom-blocked : (certificates : List (List Term)) (places : List (List ℕ)) (blocks : List (List Block)) → AreBlocked certificates places blocks → HaveRoom places blocks
HaveRoom-blocked certificates places blocks h = record { long = h.long; each = λ b. (h.each b).room }

blocks-more : (certificates : List (List Term)) (terms : List Term) (places : List ℕ) (blocks : List Block) → All (λ place. place < length certificates) places → AreBlocks certificates places blocks → AreBlocks (certificates ++ terms ∷ []) places blocks
blocks-more certificates terms places blocks within h = record {
  room = h.room;
  each = λ k below. rw (get_or_append_left certificates (terms ∷ []) [] (slice_index places k) (within k 0 below)) (h.each k below);
}

-- a certificate behind the others of a bucket, and what its blocks then admit
pub record IsAddedTo (terms : List Term) (count : ℕ) (old new : List Block) : Type 0 where
  pub room : count + 1 ≤ length new * 64
  pub own : (prefix : List ℕ) → refutes terms prefix ≡ true → IsAdmittedAt new prefix count
  pub others : (k : ℕ) → k < count → (prefix : List ℕ) → IsAdmittedAt old prefix k → IsAdmittedAt new prefix k

blocks-push : (certificates : List (List Term)) (terms : List Term) (places : List ℕ) (old new : List Block) → All (λ place. place < length certificates) places → IsAddedTo terms (length places) old new → AreBlocks certificates places old
    → AreBlocks (certificates ++ terms ∷ []) (places ++ length certificates ∷ []) new
blocks-push certificates terms places old new within added h = record {
  room = omega (arith, added.room, length_push places (length certificates));
  each = λ k below. elim (cases_lt k (length places)) [
    | inl before ↦ rw (get_or_append_left places (length certificates ∷ []) 0 k before, get_or_append_left certificates (terms ∷ []) [] (slice_index places k) (within k 0 before)) (λ prefix made. added.others k before prefix (h.each k before prefix made))
    | inr behind ↦
        let same : k ≡ length places = omega (arith, length_push places (length certificates)) in
        rw (same, get_or_at places (length certificates) [] 0 (length places) refl, get_or_at certificates terms [] [] (length certificates) refl) added.own
  ];
}

pub AreBlocked-push : (certificates : List (List Term)) (terms : List Term) (places more_places : List (List ℕ)) (blocks more_blocks : List (List Block)) (b : ℕ) (new : List Block) → ((c : ℕ) → All (λ place. place < length certificates) (slice_index_or places c []))
    → b < length places → IsAddedTo terms (length (slice_index_or places b [])) (slice_index_or blocks b []) new → more_places ≡ set places b (slice_index_or places b [] ++ length certificates ∷ []) → more_blocks ≡ set blocks b new → AreBlocked certificates places blocks → AreBlocked (certificates ++ terms ∷ []) more_places more_blocks
AreBlocked-push certificates terms places more_places blocks more_blocks b new within below added e f h =
    let place_list : List ℕ = slice_index_or places b [] ++ length certificates ∷ [] in
    let places_here : slice_index_or more_places b [] ≡ place_list = rw e (get_or-set_same places b place_list [] below) in
    let blocks_here : slice_index_or more_blocks b [] ≡ new = rw f (get_or-set_same blocks b new [] (omega (arith, h.long))) in
    record {
      long = rw (e, f, length-set places b place_list, length-set blocks b new) h.long;
      each = λ c. elim (cases_eq c b) [
        | inl same ↦ rw (same, places_here, blocks_here) (blocks-push certificates terms (slice_index_or places b []) (slice_index_or blocks b []) new (within b) added (h.each b))
        | inr other ↦
            let place_others : slice_index_or more_places c [] ≡ slice_index_or places c [] = rw e (get_or-set_other places b c place_list [] other) in
            let block_others : slice_index_or more_blocks c [] ≡ slice_index_or blocks c [] = rw f (get_or-set_other blocks b c new [] other) in
            rw (place_others, block_others) (blocks-more certificates terms (slice_index_or places c []) (slice_index_or blocks c []) (within c) (h.each c))
      ];
    }
