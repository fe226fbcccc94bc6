-- What the deeds carry, over a turn: the front grows, and one deed more is done.
use Rattle.std.proofs.Common.{◌≡◌, ℕ, ◌<◌, ◌≤◌, List, [], ◌∷◌, ◌++◌, true, length, arith, Some, slice_get, inl, inr}
use Rattle.std.specs.Prelude.{◌⊎◌, All, slice_index_or}
use Rattle.std.proofs.lemmas.Option.{slice_get_within}
use Rattle.std.proofs.lemmas.List.Elements.{All-push}
use Rattle.std.proofs.lemmas.List.Quantifiers.{all_pairs_push}
use Rattle.ot_theory.specs.Problems.{Problem}
use Rattle.ot_theory.specs.Refutations.{refutes}
use Rattle.refutation.specs.Terms.{terms_in}
use Rattle.refutation.specs.declared.contradiction.Contradiction.{Contradiction}
use Rattle.search_deeds.specs.Deeds.{IsTrueOf}
use Rattle.search_deeds.specs.Gathered.{fate_of}
use Rattle.search_deeds.specs.declared.deed.Deed.{Deed}
use Rattle.search_deeds.specs.declared.deed.Fate as fates
use Rattle.search_deeds.specs.declared.deed.Fate.TheVariants.{Opened, Language, Cut}
use Rattle.refutation.specs.Asked.{Begins}
use Rattle.typology_workers.specs.Consulted.{AreConsulted, HoldsAll, IfCut, IsCarried, IsCertificate, IsConsulted, IsValue, StandsNoLater}
use Rattle.typology_workers.specs.Turned.{IsEarliest}
use Rattle.typology_workers.proofs.Staying.{side}
use Rattle.typology_workers.proofs.Fates.{before, no-shorter, still}

abbrev C : Type 0
C = Contradiction

abbrev pub IsTrueDeed : Problem → Deed → Type 0
IsTrueDeed problem deed = IsTrueOf problem deed.prefix (fate_of deed.fate)

-- the front grows
pub record Grows (places : ℕ) (old new : List C) : Type 0 where
  pub begins : Begins old new
  pub within : length old < length new → length new ≤ places

value-grows : (places : ℕ) (old new : List C) (x : C) → Grows places old new → IsValue old x → IsValue new x
value-grows places old new x g h = (h.0, still old new g.begins h.0 x h.1)

pub all-grows : (places : ℕ) (old new : List C) → Grows places old new → HoldsAll places old → HoldsAll places new
all-grows places old new g h = let n = no-shorter old new g.begins in let a : places ≤ length old = h in omega arith

carried-grows : (problem : Problem) (places : ℕ) (old new : List C) (deed : Deed) → Grows places old new → IsCarried problem places old deed → IsCarried problem places new deed
carried-grows problem places old new deed g h = by deed.fate h
  where
    by : (fate : fates.Fate) → IfCut fate (λ found. IsValue old found ⊎ (HoldsAll places old × IsCertificate problem deed.prefix found)) → IfCut fate (λ found. IsValue new found ⊎ (HoldsAll places new × IsCertificate problem deed.prefix found))
    by Opened h = tt
    by (Language levels) h = tt
    by (Cut found) (inl h) = inl (value-grows places old new found g h)
    by (Cut found) (inr h) = inr (all-grows places old new g h.0, h.1)

-- of what is carried: a place that shows it in the longer front has one before that shows it in the shorter, or is one of it
stands-grows : (places : ℕ) (old new : List C) (known found : C) → Grows places old new → IsValue old known ⊎ HoldsAll places old → StandsNoLater old known found → StandsNoLater new known found
stands-grows places old new known found g carried h place at = elim (side place (length old)) [
  | inl lt ↦ let r = h place (before old new g.begins place known lt at) in (r.0, r.1, still old new g.begins r.0 found r.2)
  | inr past ↦ behind past carried
]
  where
    behind : length old ≤ place → IsValue old known ⊎ HoldsAll places old → (first : ℕ) × (first ≤ place) × (slice_get new first ≡ Some found)
    behind past (inl v) =
        let r = h v.0 v.1 in
        let w = slice_get_within old v.0 known v.1 in (r.0, (let a = r.1 in omega arith), still old new g.begins r.0 found r.2)
    behind past (inr all) =
        let w = slice_get_within new place known at in
        let m = g.within (omega arith) in
        let a : places ≤ length old = all in absurd (omega arith)

weak : (A B D : Type 0) → A ⊎ (B × D) → A ⊎ B
weak A B D (inl h) = inl h
weak A B D (inr h) = inr h.0

pair-grows : (problem : Problem) (places : ℕ) (old new : List C) (first second : Deed) → Grows places old new → IsCarried problem places old first → IsConsulted old first second → IsConsulted new first second
pair-grows problem places old new first second g c h = by first.fate second.fate c h
  where
    by : (one two : fates.Fate) → IfCut one (λ found. IsValue old found ⊎ (HoldsAll places old × IsCertificate problem first.prefix found))
        → IfCut one (λ known. IfCut two (λ found. refutes (terms_in known.terms) second.prefix ≡ true → StandsNoLater old known found))
        → IfCut one (λ known. IfCut two (λ found. refutes (terms_in known.terms) second.prefix ≡ true → StandsNoLater new known found))
    by Opened two c h = tt
    by (Language levels) two c h = tt
    by (Cut known) Opened c h = tt
    by (Cut known) (Language levels) c h = tt
    by (Cut known) (Cut found) c h = λ refuting. stands-grows places old new known found g (weak _ _ _ c) (h refuting)

new-pair : (problem : Problem) (places : ℕ) (old new : List C) (first second : Deed) → IsTrueDeed problem first → IsCarried problem places old first → IfCut second.fate (IsEarliest problem places second.prefix old new) → IsConsulted new first second
new-pair problem places old new first second t c b = by first.fate second.fate t c b
  where
    by : (one two : fates.Fate) → IsTrueOf problem first.prefix (fate_of one) → IfCut one (λ found. IsValue old found ⊎ (HoldsAll places old × IsCertificate problem first.prefix found)) → IfCut two (IsEarliest problem places second.prefix old new)
        → IfCut one (λ known. IfCut two (λ found. refutes (terms_in known.terms) second.prefix ≡ true → StandsNoLater new known found))
    by Opened two t c b = tt
    by (Language levels) two t c b = tt
    by (Cut known) Opened t c b = tt
    by (Cut known) (Language levels) t c b = tt
    by (Cut known) (Cut found) t c b = λ refuting. b.best known t.0 refuting (weak _ _ _ c)

new-carried : (problem : Problem) (places : ℕ) (old new : List C) (deed : Deed) → IfCut deed.fate (IsEarliest problem places deed.prefix old new) → IsCarried problem places new deed
new-carried problem places old new deed b = by deed.fate b
  where
    by : (fate : fates.Fate) → IfCut fate (IsEarliest problem places deed.prefix old new) → IfCut fate (λ found. IsValue new found ⊎ (HoldsAll places new × IsCertificate problem deed.prefix found))
    by Opened b = tt
    by (Language levels) b = tt
    by (Cut found) b = b.carried

pub consulted-none : (problem : Problem) (places : ℕ) (values : List C) → AreConsulted problem places values []
consulted-none problem places values = record { carried = λ k d lt. absurd (omega arith); consulted = λ i j d lt below. absurd (omega arith) }

pub consulted-more : (problem : Problem) (places : ℕ) (old new : List C) (deeds : List Deed) (deed : Deed) → Grows places old new → All (IsTrueDeed problem) deeds → AreConsulted problem places old deeds
    → IfCut deed.fate (IsEarliest problem places deed.prefix old new) → AreConsulted problem places new (deeds ++ deed ∷ [])
consulted-more problem places old new deeds deed g honest a b = record {
  carried = All-push (IsCarried problem places new) deeds deed (λ k d lt. carried-grows problem places old new (slice_index_or deeds k d) g (a.carried k d lt)) (new-carried problem places old new deed b);
  consulted = all_pairs_push (IsConsulted new) deeds deed (λ i j d lt below. pair-grows problem places old new (slice_index_or deeds i d) (slice_index_or deeds j d) g (a.carried i d (omega arith)) (a.consulted i j d lt below))
      (λ k d lt. new-pair problem places old new (slice_index_or deeds k d) deed (honest k d lt) (a.carried k d lt) b);
}
