-- The first certificate that refutes a prefix, and the list of certificates with one prefix more.
use Rattle.std.proofs.Common.{◌≡◌, ℕ, ◌+◌, ◌<◌, ◌≤◌, List, [], ◌∷◌, ◌++◌, Bool, true, false, Option, Some, None, IfSome, IfNone, arith, refl, sym, ◌∙◌, ap, cond, length, map, get_or, ltb, not, length-append, subst}
use Rattle.std.specs.Prelude.{All}
use Rattle.std.specs.List.{list_any, position_or_len}
use Rattle.std.proofs.lemmas.Bool.{ltb-true, ltb-false, eq-eqb, ne_eqb}
use Rattle.std.proofs.lemmas.List.{length-map, map-append}
use Rattle.std.proofs.lemmas.List.Elements.{All-nil, All-cons, All-head, All-tail, All-push}
use Rattle.std.proofs.lemmas.List.Folds.{list_any_at, list_any_none, position_or_len_push}
use Rattle.std.proofs.lemmas.List.Sums.{fold_push, fails_before_first, passes_at_first}
use Rattle.ot_theory.specs.Problems.{Problem}
use Rattle.ot_theory.specs.Languages.{Term, terms_of}
use Rattle.ot_theory.specs.Refutations.{refutes, certificate_of, with_certificate}
use Rattle.refutation.specs.declared.contradiction.Contradiction.{Contradiction}
use Rattle.refutation.specs.declared.typology.Cut.{Cut}
use Rattle.refutation.specs.Terms.{terms_in}
use Rattle.refutation.specs.Typologies.{certificates_of, cuts_of}
use Rattle.search_deeds.specs.Gathered.{first_refuting, AreNamed, IsCertified}

pub position-map : {X Y : Type 0} (p : Y → Bool) (f : X → Y) (xs : List X) → position_or_len p (map f xs) ≡ position_or_len (λ x. p (f x)) xs
position-map p f [] = refl
position-map p f (x ∷ xs) = ap (λ n. cond (not (p (f x))) (1 + n) 0) (position-map p f xs)

-- a place as an option
pub placed : (r : Option ℕ) (p n : ℕ) → r ≡ cond (ltb p n) (Some p) None → p ≤ n → IfSome r (λ k. (k ≡ p) × (k < n)) × IfNone r (p ≡ n)
placed r p n e h = by (ltb p n) (ltb-true p n) (ltb-false p n) e
  where
    by : (b : Bool) → (b ≡ true → p < n) → (b ≡ false → n ≤ p) → r ≡ cond b (Some p) None → IfSome r (λ k. (k ≡ p) × (k < n)) × IfNone r (p ≡ n)
    by true below past e = let l : p < n = below refl in rw e ((refl, l), tt)
    by false below past e = let l : n ≤ p = past refl in let same : p ≡ n = omega arith in rw e (tt, same)

pub any-first : {X : Type 0} (p : X → Bool) (xs : List X) (d : X) → position_or_len p xs < length xs → list_any p xs ≡ true
any-first p xs d h = list_any_at p xs (position_or_len p xs) d h (passes_at_first p xs d h)

pub any-past : {X : Type 0} (p : X → Bool) (xs : List X) → position_or_len p xs ≡ length xs → list_any p xs ≡ false
any-past p xs h = list_any_none p xs (λ k d below. fails_before_first p xs k d (omega arith))

-- a prefix that some certificate refutes adds none
pub with-old : (problem : Problem) (certificates : List (List Term)) (cut : List ℕ) → first_refuting certificates cut < length certificates → with_certificate problem certificates cut ≡ certificates
with-old problem certificates cut h = ap (λ b. cond b certificates (certificates ++ certificate_of problem (terms_of problem cut) ∷ [])) (any-first (λ terms. refutes terms cut) certificates [] h)

-- a prefix that none refutes adds its own
pub with-new : (problem : Problem) (certificates : List (List Term)) (cut : List ℕ) → first_refuting certificates cut ≡ length certificates
    → with_certificate problem certificates cut ≡ certificates ++ certificate_of problem (terms_of problem cut) ∷ []
with-new problem certificates cut h = ap (λ b. cond b certificates (certificates ++ certificate_of problem (terms_of problem cut) ∷ [])) (any-past (λ terms. refutes terms cut) certificates h)

pub first-new : (certificates : List (List Term)) (terms : List Term) (cut : List ℕ) → first_refuting certificates cut ≡ length certificates → refutes terms cut ≡ true → first_refuting (certificates ++ terms ∷ []) cut ≡ length certificates
first-new certificates terms cut h r =
    position_or_len_push (λ t. refutes t cut) certificates terms
    ∙ ap (λ b. cond b (length certificates + cond (refutes terms cut) 0 1) (first_refuting certificates cut)) (eq-eqb _ _ h)
    ∙ ap (λ b. length certificates + cond b 0 1) r
    ∙ omega arith

-- what a certificate refuted first stays so with more of them
pub first-kept : (problem : Problem) (certificates : List (List Term)) (cut other : List ℕ) → first_refuting certificates other < length certificates
    → (first_refuting (with_certificate problem certificates cut) other ≡ first_refuting certificates other) × (length certificates ≤ length (with_certificate problem certificates cut))
first-kept problem certificates cut other h = by (list_any (λ terms. refutes terms cut) certificates) (certificate_of problem (terms_of problem cut))
  where
    by : (b : Bool) (terms : List Term) → (first_refuting (cond b certificates (certificates ++ terms ∷ [])) other ≡ first_refuting certificates other) × (length certificates ≤ length (cond b certificates (certificates ++ terms ∷ [])))
    by true terms = (refl, omega arith)
    by false terms = (
      position_or_len_push (λ t. refutes t other) certificates terms
          ∙ ap (λ b. cond b (length certificates + cond (refutes terms other) 0 1) (first_refuting certificates other)) (ne_eqb (first_refuting certificates other) (length certificates) (λ e. omega (arith, e))),
      omega (arith, length-append certificates (terms ∷ [])),
    )

map_same : {X Y : Type 0} (f g : X → Y) (xs : List X) → All (λ x. f x ≡ g x) xs → map f xs ≡ map g xs
map_same f g [] h = refl
map_same f g (x ∷ xs) h =
    let here : f x ≡ g x = All-head (λ y. f y ≡ g y) x xs h in
    let rest = map_same f g xs (All-tail (λ y. f y ≡ g y) x xs h) in cc

pub IsCertified-push : (problem : Problem) (prefixes : List (List ℕ)) (cuts : List (List ℕ × ℕ)) (old new : List (List Term)) (prefix : List ℕ) (place : ℕ) → IsCertified problem prefixes cuts old
    → new ≡ with_certificate problem old prefix → place ≡ first_refuting new prefix → place < length new → IsCertified problem (prefixes ++ prefix ∷ []) (cuts ++ (prefix, place) ∷ []) new
IsCertified-push problem prefixes cuts old new prefix place h listed first within = record {
  listed = listed ∙ ap (λ (o : List (List Term)). with_certificate problem o prefix) h.listed ∙ sym (fold_push (with_certificate problem) [] prefixes prefix);
  named = ap (λ (l : List (List ℕ × ℕ)). l ++ (prefix, place) ∷ []) (h.named ∙ map_same (λ q. (q, first_refuting old q)) (λ q. (q, first_refuting new q)) prefixes (λ k d below. ap (λ n. (get_or prefixes k d, n)) (sym (kept k d below))))
      ∙ ap (λ n. map (λ q. (q, first_refuting new q)) prefixes ++ (prefix, n) ∷ []) first
      ∙ sym (map-append (λ q. (q, first_refuting new q)) prefixes (prefix ∷ []));
  within = All-push (λ q. first_refuting new q < length new) prefixes prefix (λ k d below. omega (arith, kept k d below, longer k d below, h.within k d below)) (omega (arith, first));
}
  where
    kept : (k : ℕ) (d : List ℕ) → k < length prefixes → first_refuting new (get_or prefixes k d) ≡ first_refuting old (get_or prefixes k d)
    kept k d below = ap (λ (l : List (List Term)). first_refuting l (get_or prefixes k d)) listed ∙ (first-kept problem old prefix (get_or prefixes k d) (h.within k d below)).0

    longer : (k : ℕ) (d : List ℕ) → k < length prefixes → length old ≤ length new
    longer k d below = omega (arith, ap (λ (l : List (List Term)). length l) listed, (first-kept problem old prefix (get_or prefixes k d) (h.within k d below)).1)

-- A certificate refutes the prefix already.
pub listed-old : (problem : Problem) (certificates seen : List Contradiction) (prefix numbers : List ℕ) (place : ℕ) → seen ≡ certificates → numbers ≡ prefix → (place ≡ first_refuting (certificates_of seen) numbers) × (place < length seen)
    → certificates_of certificates ≡ with_certificate problem (certificates_of certificates) prefix
listed-old problem certificates seen prefix numbers place e f h =
    sym (with-old problem (certificates_of certificates) prefix
    (let here : place ≡ first_refuting (certificates_of certificates) prefix = rw (e, f) at h.0 in
    let below : place < length certificates = rw e at h.1 in
    omega (arith, length-map certificates (λ (c : Contradiction). terms_in c.terms))))

-- None does, and it has one of its own.
pub listed-new : (problem : Problem) (certificates seen new : List Contradiction) (core : Contradiction) (prefix numbers : List ℕ) → seen ≡ certificates → numbers ≡ prefix → first_refuting (certificates_of seen) numbers ≡ length seen
    → terms_in core.terms ≡ certificate_of problem (terms_of problem numbers) → new ≡ certificates ++ core ∷ [] → certificates_of new ≡ with_certificate problem (certificates_of certificates) prefix
listed-new problem certificates seen new core prefix numbers e f none own pushed =
    ap certificates_of pushed
    ∙ map-append (λ (c : Contradiction). terms_in c.terms) certificates (core ∷ [])
    ∙ ap (λ (terms : List Term). certificates_of certificates ++ terms ∷ []) (rw f at own)
    ∙ sym (with-new problem (certificates_of certificates) prefix
    (let past : first_refuting (certificates_of certificates) prefix ≡ length certificates = rw (e, f) at none in
    past ∙ sym (length-map certificates (λ (c : Contradiction). terms_in c.terms))))

-- one prefix more beside its certificate
pub certified-more : (problem : Problem) (prefixes : List (List ℕ)) (cuts next : List Cut) (old new : List Contradiction) (prefix : List ℕ) (place : ℕ) → IsCertified problem prefixes (cuts_of cuts) (certificates_of old)
    → certificates_of new ≡ with_certificate problem (certificates_of old) prefix → place ≡ first_refuting (certificates_of new) prefix → place < length new → next ≡ cuts ++ record { prefix = prefix; certificate = place } ∷ []
    → IsCertified problem (prefixes ++ prefix ∷ []) (cuts_of next) (certificates_of new)
certified-more problem prefixes cuts next old new prefix place h listed first within pushed =
    let e : cuts_of next ≡ cuts_of cuts ++ (prefix, place) ∷ [] = ap cuts_of pushed ∙ map-append (λ (c : Cut). (c.prefix, c.certificate)) cuts (record { prefix = prefix; certificate = place } ∷ []) in
    rw e (IsCertified-push problem prefixes (cuts_of cuts) (certificates_of old) (certificates_of new) prefix place h listed first (omega (arith, length-map new (λ (c : Contradiction). terms_in c.terms))))

all-named : (f : List ℕ → ℕ) (n : ℕ) (cuts : List Cut) (prefixes : List (List ℕ)) → cuts_of cuts ≡ map (λ prefix. (prefix, f prefix)) prefixes → All (λ prefix. f prefix < n) prefixes → AreNamed n cuts
all-named f n [] prefixes e h = All-nil (λ (cut : Cut). cut.certificate < n)
all-named f n (cut ∷ cuts) [] e h = absurd (cc)
all-named f n (cut ∷ cuts) (prefix ∷ prefixes) e h =
    let here : (cut.prefix, cut.certificate) ≡ (prefix, f prefix) = cc in
    let place : cut.certificate ≡ f prefix = ap (λ (pair : List ℕ × ℕ). pair.1) here in
    let rest : cuts_of cuts ≡ map (λ prefix. (prefix, f prefix)) prefixes = cc in
    All-cons (λ (cut : Cut). cut.certificate < n) cut cuts (omega (arith, place, All-head (λ p. f p < n) prefix prefixes h)) (all-named f n cuts prefixes rest (All-tail (λ p. f p < n) prefix prefixes h))

-- cuts beside the certificates that they name name some
pub cuts-named : (problem : Problem) (prefixes : List (List ℕ)) (cuts : List Cut) (certificates : List Contradiction) → IsCertified problem prefixes (cuts_of cuts) (certificates_of certificates) → AreNamed (length certificates) cuts
cuts-named problem prefixes cuts certificates c =
    subst (λ (n : ℕ). AreNamed n cuts) (length-map certificates (λ (certificate : Contradiction). terms_in certificate.terms)) (all-named (first_refuting (certificates_of certificates)) (length (certificates_of certificates)) cuts prefixes c.named c.within)

-- a certificate that is put behind the others, none of which refutes the prefix, is the first that does
pub first-added : (certificates new : List Contradiction) (certificate : Contradiction) (prefix : List ℕ) (place : ℕ) → place ≡ length certificates → first_refuting (certificates_of certificates) prefix ≡ length certificates
    → new ≡ certificates ++ certificate ∷ [] → refutes (terms_in certificate.terms) prefix ≡ true → place ≡ first_refuting (certificates_of new) prefix
first-added certificates new certificate prefix place e none pushed here =
    let long : length (certificates_of certificates) ≡ length certificates = length-map certificates (λ (d : Contradiction). terms_in d.terms) in
    let whole : certificates_of new ≡ certificates_of certificates ++ terms_in certificate.terms ∷ [] = ap certificates_of pushed ∙ map-append (λ (d : Contradiction). terms_in d.terms) certificates (certificate ∷ []) in
    e ∙ sym (ap (λ (l : List (List Term)). first_refuting l prefix) whole ∙ first-new (certificates_of certificates) (terms_in certificate.terms) prefix (none ∙ sym long) here ∙ long)
