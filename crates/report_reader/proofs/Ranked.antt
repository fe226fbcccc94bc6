-- A hierarchy whose constraints all have a stratum.
use Rattle.std.proofs.Common.{◌≡◌, ℕ, ◌<◌, ◌≤◌, List, length, true, arith, inl, inr}
use Rattle.std.specs.Prelude.{Option, Some, None, IfSome, IfNone, All, Contains, ◌⊎◌, nat_lt}
use Rattle.std.proofs.lemmas.List.Sums.{AllPass-from_list_all}
use Rattle.std.proofs.lemmas.List.Elements.{All-contains}
use Rattle.erc_vectors.specs.declared.condition.TheConstants.{LIMIT}
use Rattle.report_reader.specs.Fields.{are_placed, strata_of}

pub placed_strata : (old new : List ℕ) (words : List (List ℕ)) (strata : Option (List ℕ)) → Some new ≡ strata_of old 1 0 words → are_placed new ≡ true → length new ≤ LIMIT
    → IfSome strata (λ s. (s ≡ new) × (length new ≤ LIMIT) × All (λ level. 1 ≤ level) new) → IfNone strata ((LIMIT < length new) ⊎ Contains new 0) → strata ≡ strata_of old 1 0 words
placed_strata old new words (Some s) fits placed short some none = rw some.0 fits
placed_strata old new words None fits placed short some none =
    absurd (elim none [
      | inl long ↦ omega arith
      | inr zero ↦ cc (All-contains (λ (level : ℕ). nat_lt 0 level ≡ true) new 0 (AllPass-from_list_all (λ (level : ℕ). nat_lt 0 level) new placed) zero)
    ])
