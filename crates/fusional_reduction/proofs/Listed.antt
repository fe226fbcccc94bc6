-- The members of all kept nodes, found and put in order, are the two bases.
use Rattle.std.proofs.Common.{◌≡◌, ℕ, zero, suc, ◌<◌, List, [], ◌∷◌, true, false, length, get_or, map, arith, refl, sym, ap, subst, ◌∙◌, inl, inr}
use Rattle.std.specs.Prelude.{Result, Ok, Err, IfOk, All, Contains, Any, IsTrue, slice_index_or}
use Rattle.std.specs.List.{dedup}
use Rattle.std.specs.List.Sorted.{IsPermutation, IsSorted}
use Rattle.std.specs.Cmp.{IsTotalOrder}
use Rattle.std.specs.Ordering.{nat_cmp, is_lt, is_eq, eq_by_cmp}
use Rattle.std.specs.Cmp.Lexicographic.{slice_cmp}
use Rattle.std.specs.declared.cmp.Ordering.{Ordering}
use Rattle.std.specs.declared.cmp.Ordering.TheVariants.{Less, Equal, Greater}
use Rattle.std.proofs.lemmas.Bool.{cases_order, and_from, and_parts, eq-eqb, false_from_ne_true}
use Rattle.std.proofs.lemmas.Cmp.{nat_list_cmp_total, eq_by_cmp_equiv, tied_itself}
use Rattle.std.proofs.lemmas.List.FromFn.{length-map-range_with_len}
use Rattle.std.proofs.lemmas.List.{get_or-map, get_or_default, length-map}
use Rattle.std.proofs.lemmas.List.Sums.{list_all-from_AllPass}
use Rattle.std.proofs.lemmas.List.Sorted.{Contains-permutation, All-permutation}
use Rattle.std.proofs.lemmas.List.Kept.{Any-dedup, Contains-from_dedup, IsStrictlySortedBy-dedup}
use Rattle.std.proofs.lemmas.Map.Keys.{Less-from_sorted}
use Rattle.ot_theory.specs.declared.Mark.{Mark}
use Rattle.ot_theory.specs.declared.Mark.TheVariants.{W, L, E}
use Rattle.ot_theory.specs.Conditions.{keeps, fusion, has_both}
use Rattle.ot_theory.specs.Refutations.{no_ranking_keeps}
use Rattle.ot_theory.proofs.Sets.{IsPart}
use Rattle.fusional_reduction.specs.declared.member.Member.{Member}
use Rattle.fusional_reduction.specs.Nodes.{IsNode, is_kept, residue, stands_below, skeletal_form}
use Rattle.fusional_reduction.specs.Bases.{IsMember, AreBases, place_of, comes_before}
use Rattle.fusional_reduction.specs.Visits.{IsGiven, has_width, IsEnd, IsVisited, member_of, AreFound, AreListed}
use Rattle.fusional_reduction.proofs.Fusions.{loss_at, fusion-loss, loss-fusion, standing, it-any, part-filter, part-trans, not_both}
use Rattle.fusional_reduction.proofs.NodesWithin.{node-part, node-some, same-end, same-fusion}
use Rattle.fusional_reduction.proofs.KeptNodes.{own-loss, kept-own, given-part, length-fusion}
use Rattle.fusional_reduction.proofs.Walk.{part-nonempty}
use Rattle.fusional_reduction.specs.Laws.{HaveSameRankings, AreIndependent, AreDistinct}
use Rattle.ot_theory.proofs.Entailing.{entails-from}
use Rattle.fusional_reduction.proofs.SameRankings.{AreForms, IsForm, form-fusion, form-skeletal, same-rankings}
use Rattle.fusional_reduction.proofs.Independent.{independent, not-entailed, HaveWidth, FormOfOther}

-- ---- a kept node has a condition that leads to it
record Leading (n : ℕ) (node : List (List Mark)) : Type 0 where
  it : List Mark
  is_end : IsEnd n node it

leading : (n : ℕ) (node : List (List Mark)) → IsGiven n node → 0 < length node → is_kept n node ≡ true → Leading n node
unfolding residue
leading n node g some kept =
    let own = own-loss n node (sym (kept-own n node g some) ∙ kept) in
    let s = standing (loss_at own.at) node (fusion-loss n node own.at own.loss).loss in
    record {
      it = s.it;
      is_end = record {
        stands = s.stands;
        ends = false_from_ne_true _ (λ further.
            let behind : IsPart (s.it ∷ []) (residue n node) = part-filter (stands_below n node) (s.it ∷ []) node s.stands (and_from _ _ further refl) in
            not_both (loss-fusion n (residue n node) own.at own.below (it-any (loss_at own.at) s.it (residue n node) behind s.passes)) own.lacks);
      };
    }

pub found-visited : (n : ℕ) (set : List (List Mark)) (new : List Member) → IsGiven n set → IsVisited n set set [] new → AreFound n set new
found-visited n set new g v = record {
  members = subst (λ (l : List Member). All (λ (m : Member). IsMember n set m.informative m.skeletal) l) (sym v.grown) v.members;
  all = λ node is_node kept.
      let given = given-part n set node g (node-part n set node is_node) in
      let l = leading n node given (node-some n set node is_node) kept in
      let stands : IsPart (l.it ∷ []) set = part-trans (l.it ∷ []) node set l.is_end.stands (node-part n set node is_node) in
      let leads = v.leads l.it stands in
      let same : leads.end ≡ node = same-end n set leads.end node l.it leads.is_node is_node leads.is_end l.is_end in
      subst (λ (f : List Member). Contains f (member_of n node)) (sym v.grown)
      (subst (λ (e : List (List Mark)). Contains v.added (member_of n e)) same (leads.is_found (ap (is_kept n) same ∙ kept)));
}

pub found-none : (n : ℕ) (set : List (List Mark)) → length set ≡ 0 → AreFound n set []
found-none n set none = record {
  members = λ k d small. absurd (omega arith);
  all = λ node is_node kept. absurd (omega (arith, none-there set node is_node none));
}
  where
    none-there : (set node : List (List Mark)) → IsNode n set node → length set ≡ 0 → 0 < length set
    none-there set node is_node e = some-above set node is_node
      where
        some-above : (set node : List (List Mark)) → IsNode n set node → 0 < length set
        some-above set node is_node = part-nonempty node set (node-part n set node is_node) (node-some n set node is_node)

-- ---- the order
abbrev pub key : Member → List ℕ
key member = map place_of member.informative

abbrev pub by_key : Member → Member → Ordering
by_key x y = slice_cmp nat_cmp (key x) (key y)

by_key-total : IsTotalOrder by_key
by_key-total = record {
  antisymm = λ x y. nat_list_cmp_total.antisymm (key x) (key y);
  trans = λ x y z. nat_list_cmp_total.trans (key x) (key y) (key z);
  congr = λ x y z. nat_list_cmp_total.congr (key x) (key y) (key z);
}

same-marks : (a b : List Mark) → slice_cmp nat_cmp (map place_of a) (map place_of b) ≡ Equal → a ≡ b
same-marks [] [] h = refl
same-marks [] (y ∷ b) h = absurd (cc)
same-marks (x ∷ a) [] h = absurd (cc)
same-marks (W ∷ a) (W ∷ b) h = ap (λ (l : List Mark). W ∷ l) (same-marks a b h)
same-marks (E ∷ a) (E ∷ b) h = ap (λ (l : List Mark). E ∷ l) (same-marks a b h)
same-marks (L ∷ a) (L ∷ b) h = ap (λ (l : List Mark). L ∷ l) (same-marks a b h)
same-marks (W ∷ a) (E ∷ b) h = absurd (cc)
same-marks (W ∷ a) (L ∷ b) h = absurd (cc)
same-marks (E ∷ a) (W ∷ b) h = absurd (cc)
same-marks (E ∷ a) (L ∷ b) h = absurd (cc)
same-marks (L ∷ a) (W ∷ b) h = absurd (cc)
same-marks (L ∷ a) (E ∷ b) h = absurd (cc)

equal-order : (o : Ordering) → is_eq o ≡ true → o ≡ Equal
equal-order Less h = absurd (cc)
equal-order Equal h = refl
equal-order Greater h = absurd (cc)

less-order : (o : Ordering) → o ≡ Less → is_lt o ≡ true
less-order Less h = refl
less-order Equal h = absurd (cc)
less-order Greater h = absurd (cc)

-- what stands in a list has what all of it have
at-contained : (P : Member → Type 0) (xs : List Member) (x : Member) → All P xs → Contains xs x → P x
at-contained P xs x all c = subst P c.2 (all c.0 x c.1)

pub listed : (old sorted new : List Member) → IsPermutation old sorted → IsSorted by_key sorted → new ≡ dedup (eq_by_cmp by_key) sorted → (n : ℕ) (set : List (List Mark)) → AreFound n set old → AreListed n set new
listed old sorted new moved ordered is n set f = subst (AreListed n set) (sym is) (record {
  found = record {
    members = λ k d small. at-contained P sorted _ all (Contains-from_dedup (eq_by_cmp by_key) sorted _ (k, small, get_or_default kept k (get_or kept k d) d small));
    all = λ node is_node k. stands node is_node (Any-dedup (eq_by_cmp_equiv by_key-total) sorted (member_of n node) (Contains-permutation old sorted (member_of n node) moved (f.all node is_node k)));
  };
  in_order = λ i j d before small. less-order _ (Less-from_sorted by_key kept i j d (IsStrictlySortedBy-dedup by_key-total (λ x y. refl) sorted ordered) before small);
})
  where
    P : Member → Type 0
    P = λ m. IsMember n set m.informative m.skeletal

    kept : List Member
    kept = dedup (eq_by_cmp by_key) sorted

    all : All P sorted
    all = All-permutation P old sorted moved f.members

    stands : (node : List (List Mark)) → IsNode n set node → Any (λ y. eq_by_cmp by_key (member_of n node) y ≡ true) kept → Contains kept (member_of n node)
    stands node is_node a =
        let there : Contains kept a.1 = (a.0, a.2, a.3) in
        let m = at-contained P sorted a.1 all (Contains-from_dedup (eq_by_cmp by_key) sorted a.1 there) in
        let same : fusion n node ≡ a.1.informative = same-marks (fusion n node) a.1.informative (equal-order _ a.4) in
        let e : node ≡ m.node = same-fusion n set node m.node is_node m.is_node (same ∙ m.is_fusion) in
        let member : a.1 ≡ member_of n node = together a.1 node same (m.is_form ∙ ap (skeletal_form n) (sym e)) in
        subst (Contains kept) member there
      where
        together : (y : Member) (node : List (List Mark)) → fusion n node ≡ y.informative → y.skeletal ≡ skeletal_form n node → y ≡ member_of n node
        together y node p q = ap (λ (a : List Mark). pair a y.skeletal) (sym p) ∙ ap (λ (b : List Mark). pair (fusion n node) b) q
          where
            pair : List Mark → List Mark → Member
            pair a b = record { informative = a; skeletal = b }

-- ---- the two lists
abbrev pub informatives : List Member → List (List Mark)
informatives listed = map (λ (m : Member). m.informative) listed

abbrev pub skeletals : List Member → List (List Mark)
skeletals listed = map (λ (m : Member). m.skeletal) listed

pub bases-listed : (n : ℕ) (set : List (List Mark)) (listed : List Member) → AreListed n set listed → AreBases n set (informatives listed) (skeletals listed)
bases-listed n set listed h = record {
  same_length = length-map listed (λ m. m.skeletal) ∙ sym (length-map listed (λ m. m.informative));
  each = λ k small. each k (omega (arith, small, length-map listed (λ (m : Member). m.informative)));
  all = λ node is_node kept.
      let c = h.found.all node is_node kept in
      record {
        place = c.0;
        within = omega (arith, c.1, length-map listed (λ (m : Member). m.informative));
        is_fusion = get_or-map (λ (m : Member). m.informative) listed c.0 (member_of n node) [] c.1 ∙ ap (λ (m : Member). m.informative) c.2;
        is_form = get_or-map (λ (m : Member). m.skeletal) listed c.0 (member_of n node) [] c.1 ∙ ap (λ (m : Member). m.skeletal) c.2;
      };
  in_order = λ i j d before small. ordered i j d before (omega (arith, small, length-map listed (λ (m : Member). m.informative)));
}
  where
    each : (k : ℕ) → k < length listed → IsMember n set (slice_index_or (informatives listed) k []) (slice_index_or (skeletals listed) k [])
    each k small =
        let none : Member = record { informative = []; skeletal = [] } in
        let a = get_or-map (λ (m : Member). m.informative) listed k none [] small in
        let b = get_or-map (λ (m : Member). m.skeletal) listed k none [] small in
        subst (λ (x : List Mark). IsMember n set x (slice_index_or (skeletals listed) k [])) (sym a) (subst (λ (y : List Mark). IsMember n set (get_or listed k none).informative y) (sym b) (h.found.members k none small))

    ordered : (i j : ℕ) (d : List Mark) → i < j → j < length listed → comes_before (slice_index_or (informatives listed) i d) (slice_index_or (informatives listed) j d) ≡ true
    ordered i j d before small =
        let none : Member = record { informative = d; skeletal = d } in
        let a = get_or-map (λ (m : Member). m.informative) listed i none d (omega arith) in
        let b = get_or-map (λ (m : Member). m.informative) listed j none d small in
        ap (λ (x : List Mark). comes_before x (slice_index_or (informatives listed) j d)) a ∙ ap (λ (y : List Mark). comes_before (get_or listed i none).informative y) b ∙ h.in_order i j none before small

-- ---- both are forms of the kept nodes
not-before-itself : (marks : List Mark) → comes_before marks marks ≡ true → ⊥
not-before-itself marks h = let e = tied_itself nat_list_cmp_total (map place_of marks) in let no : is_lt Equal ≡ true = sym (ap is_lt e) ∙ h in let bad : false ≡ true = no in absurd (cc)

apart : (n : ℕ) (set a b : List (List Mark)) (h : AreBases n set a b) (i j : ℕ) (d : List Mark) → i < length a → j < length a → (i ≡ j → ⊥) → slice_index_or a i d ≡ slice_index_or a j d → ⊥
apart n set a b h i j d p q other e = elim (cases_order i j) [
  | inl same ↦ other same
  | inr later ↦ elim later [
    | inl less ↦ not-before-itself (slice_index_or a j d) (sym (ap (λ (x : List Mark). comes_before x (slice_index_or a j d)) e) ∙ h.in_order i j d less q)
    | inr more ↦ not-before-itself (slice_index_or a i d) (ap (λ (x : List Mark). comes_before x (slice_index_or a i d)) e ∙ h.in_order j i d more p)
  ]
]

differ-nodes : (n : ℕ) (set a b : List (List Mark)) (h : AreBases n set a b) (i j : ℕ) (p : i < length a) (q : j < length a) → (i ≡ j → ⊥) → (h.each i p).node ≡ (h.each j q).node → ⊥
differ-nodes n set a b h i j p q other e = apart n set a b h i j [] p q other ((h.each i p).is_fusion ∙ ap (fusion n) e ∙ sym (h.each j q).is_fusion)

pub forms-informative : (n : ℕ) (set a b : List (List Mark)) → AreBases n set a b → AreForms n set a
forms-informative n set a b h = record {
  each = λ k small. let m = h.each k small in record { node = m.node; is_node = m.is_node; kept = m.kept; form = subst (IsForm n m.node) (sym m.is_fusion) (form-fusion n m.node) };
  all = λ node is_node kept. let s = h.all node is_node kept in record { place = s.place; within = s.within; form = subst (IsForm n node) (sym s.is_fusion) (form-fusion n node) };
  differ = λ i j p q other e. differ-nodes n set a b h i j p q other e;
}

pub forms-skeletal : (n : ℕ) (set a b : List (List Mark)) → AreBases n set a b → AreForms n set b
forms-skeletal n set a b h = record {
  each = λ k small. let m = h.each k (subst (λ (x : ℕ). k < x) h.same_length small) in record { node = m.node; is_node = m.is_node; kept = m.kept; form = subst (IsForm n m.node) (sym m.is_form) (form-skeletal n m.node) };
  all = λ node is_node kept. let s = h.all node is_node kept in record { place = s.place; within = omega (arith, s.within, h.same_length); form = subst (IsForm n node) (sym s.is_form) (form-skeletal n node) };
  differ = λ i j p q other e. differ-nodes n set a b h i j (subst (λ (x : ℕ). i < x) h.same_length p) (subst (λ (x : ℕ). j < x) h.same_length q) other e;
}

length-skeletal : (n : ℕ) (node : List (List Mark)) → length (skeletal_form n node) ≡ n
unfolding skeletal_form
length-skeletal n node = length-map-range_with_len _ 0 n

width-informative : (n : ℕ) (set a b : List (List Mark)) → AreBases n set a b → HaveWidth n a
width-informative n set a b h k small = let m = h.each k small in ap length m.is_fusion ∙ length-fusion n m.node

width-skeletal : (n : ℕ) (set a b : List (List Mark)) → AreBases n set a b → HaveWidth n b
width-skeletal n set a b h k small = let m = h.each k (omega (arith, h.same_length)) in ap length m.is_form ∙ length-skeletal n m.node

distinct : (n : ℕ) (set basis : List (List Mark)) → IsGiven n set → AreForms n set basis → HaveWidth n basis → AreDistinct basis
distinct n set basis g forms widths i j d before small e =
    let within : i < length basis = omega arith in
    let first = forms.each i within in
    let second = forms.each j small in
    let same : slice_index_or basis i [] ≡ slice_index_or basis j [] = get_or_default basis i [] d within ∙ e ∙ get_or_default basis j d [] small in
    let none = not-entailed n set second.node (slice_index_or basis i [] ∷ []) (slice_index_or basis j []) g (widths j small) second.is_node second.kept second.form
    (λ k short. subst (λ (m : List Mark). FormOfOther n set second.node m) (only k short) (record { other = first.node; is_node = first.is_node; form = first.form; differs = forms.differ i j within small (λ (same : i ≡ j). absurd (omega arith)) })) in
    let some = entails-from n (slice_index_or basis i [] ∷ []) (slice_index_or basis j []) (λ order ranking kept. ap (keeps order) (sym same) ∙ (and_parts _ _ kept).0) in
    not_both some none
  where
    only : (k : ℕ) → k < 1 → slice_index_or basis i [] ≡ slice_index_or (slice_index_or basis i [] ∷ []) k []
    only zero short = refl
    only (suc k) short = absurd (omega arith)

-- all that is promised of the two bases
pub record ArePromised (n : ℕ) (set informative skeletal : List (List Mark)) : Type 0 where
  pub bases : AreBases n set informative skeletal
  pub informative_rankings : HaveSameRankings n set informative
  pub skeletal_rankings : HaveSameRankings n set skeletal
  pub informative_independent : AreIndependent n informative
  pub skeletal_independent : AreIndependent n skeletal
  pub informative_distinct : AreDistinct informative
  pub skeletal_distinct : AreDistinct skeletal
  pub informative_widths : All (λ marks. length marks ≡ n) informative
  pub skeletal_widths : All (λ marks. length marks ≡ n) skeletal

each-width : (n : ℕ) (basis : List (List Mark)) → HaveWidth n basis → All (λ marks. length marks ≡ n) basis
each-width n basis h k d small = ap length (get_or_default basis k d [] small) ∙ h k small

promised : (n : ℕ) (set a b : List (List Mark)) → IsGiven n set → AreBases n set a b → ArePromised n set a b
promised n set a b g h =
    let f = forms-informative n set a b h in
    let s = forms-skeletal n set a b h in
    let v = width-informative n set a b h in
    let w = width-skeletal n set a b h in
    record {
      bases = h;
      informative_rankings = same-rankings n set a g f;
      skeletal_rankings = same-rankings n set b g s;
      informative_independent = independent n set a g f v;
      skeletal_independent = independent n set b g s w;
      informative_distinct = distinct n set a g f v;
      skeletal_distinct = distinct n set b g s w;
      informative_widths = each-width n a v;
      skeletal_widths = each-width n b w;
    }

pub promised-listed : (n : ℕ) (set : List (List Mark)) (listed : List Member) (a b : List (List Mark)) → IsGiven n set → AreListed n set listed → a ≡ informatives listed → b ≡ skeletals listed → ArePromised n set a b
promised-listed n set listed a b g h p q =
    subst (λ (x : List (List Mark)). ArePromised n set x b) (sym p) (subst (λ (y : List (List Mark)). ArePromised n set (informatives listed) y) (sym q) (promised n set (informatives listed) (skeletals listed) g (bases-listed n set listed h)))

pub given-from : (n : ℕ) (set : List (List Mark)) → All (λ marks. length marks ≡ n) set → no_ranking_keeps n set ≡ false → All (λ marks. IsTrue (has_both marks)) set → IsGiven n set
given-from n set widths possible both = record {
  widths = list_all-from_AllPass (has_width n) set (λ k d small. eq-eqb _ _ (widths k d small));
  both = list_all-from_AllPass has_both set both;
  possible = possible;
}

-- what two clauses say together of an answer
pub both-ok : {T F : Type 0} (r : Result T F) (P Q R : T → Type 0) → ((x : T) → P x → Q x → R x) → IfOk r P → IfOk r Q → IfOk r R
both-ok (Ok x) P Q R f p q = f x p q
both-ok (Err e) P Q R f p q = tt
