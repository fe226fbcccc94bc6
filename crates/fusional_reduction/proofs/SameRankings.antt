-- The same rankings keep a set and its bases.
use Rattle.std.proofs.Common.{◌≡◌, ℕ, zero, suc, ◌+◌, ◌<◌, ◌≤◌, List, [], ◌∷◌, Bool, true, false, not, ◌&&◌, arith, refl, sym, ◌∙◌, ap, inl, inr, length}
use Rattle.std.specs.Prelude.{filter, slice_index_or}
use Rattle.std.specs.List.{list_all}
use Rattle.std.proofs.lemmas.Bool.{and_parts, and_from, cases_Bool, cases_lt, false_from_ne_true, not-true, eqb-true}
use Rattle.std.proofs.lemmas.List.{get_or_past, get_or_default}
use Rattle.std.proofs.lemmas.List.Sums.{AllPass-from_list_all, list_all-from_AllPass}
use Rattle.std.proofs.lemmas.List.FromFn.{get_or-map-range_with_len, length-map-range_with_len}
use Rattle.ot_theory.specs.declared.Mark.{Mark}
use Rattle.ot_theory.specs.declared.Mark.TheVariants.{W, L, E}
use Rattle.ot_theory.specs.Conditions.{keeps, mark_at, is_win, is_loss, is_even, fusion}
use Rattle.ot_theory.specs.Reductions.{IsStronger}
use Rattle.ot_theory.proofs.Strata.{mark_tells, any-range}
use Rattle.ot_theory.proofs.Sets.{IsPart, both_ways}
use Rattle.fusional_reduction.specs.Visits.{IsGiven, has_width}
use Rattle.fusional_reduction.specs.Nodes.{IsNode, is_even_at, even_part, stands_below, residue, is_kept, skeletal_mark, skeletal_form}
use Rattle.fusional_reduction.specs.Nodes.IsNode.{whole, below}
use Rattle.fusional_reduction.specs.Laws.{HaveSameRankings}
use Rattle.fusional_reduction.proofs.Fusions.{win_at, loss_at, fusion-win, fusion-loss, loss-fusion, fusion-past, fusion-even, even-fusion, even-all, all-even, all-none, part-trans, part-filter, standing, all-each, it-passes, it-any, neither, win-left, even-not-win, not_both}
use Rattle.fusional_reduction.proofs.NodesWithin.{node-part, node-some, residue-part, all-residue, below-at}
use Rattle.fusional_reduction.proofs.KeptNodes.{given-part, kept-own, has_own_loss, stronger-residue, stronger-kept}

-- ---- a form of a node's fusion: W where it has W, and L only where it has L, also wherever the residue's fusion lacks it
pub record IsForm (n : ℕ) (node : List (List Mark)) (marks : List Mark) : Type 0 where
  pub wins : (c : ℕ) → is_win (mark_at marks c) ≡ is_win (mark_at (fusion n node) c)
  pub losses : (c : ℕ) → is_loss (mark_at marks c) ≡ true → is_loss (mark_at (fusion n node) c) ≡ true
  pub own : (c : ℕ) → is_loss (mark_at (fusion n node) c) ≡ true → is_loss (mark_at (fusion n (residue n node)) c) ≡ false → is_loss (mark_at marks c) ≡ true

pub form-fusion : (n : ℕ) (node : List (List Mark)) → IsForm n node (fusion n node)
form-fusion n node = record { wins = λ c. refl; losses = λ c h. h; own = λ c h k. h }

pub skeletal-at : (n : ℕ) (node : List (List Mark)) (c : ℕ) → mark_at (skeletal_form n node) c ≡ skeletal_mark (mark_at (fusion n node) c) (mark_at (fusion n (residue n node)) c)
unfolding skeletal_form
skeletal-at n node c = elim (cases_lt c n) [
  | inl small ↦ get_or-map-range_with_len (λ c. skeletal_mark (mark_at (fusion n node) c) (mark_at (fusion n (residue n node)) c)) 0 n c c E (omega arith) (omega arith)
  | inr past ↦
      get_or_past (skeletal_form n node) c E (omega (arith, length-map-range_with_len (λ c. skeletal_mark (mark_at (fusion n node) c) (mark_at (fusion n (residue n node)) c)) 0 n))
      ∙ rw (fusion-past n node c past) refl
]

pub form-skeletal : (n : ℕ) (node : List (List Mark)) → IsForm n node (skeletal_form n node)
form-skeletal n node = record {
  wins = λ c. ap is_win (skeletal-at n node c) ∙ wins (mark_at (fusion n node) c) (mark_at (fusion n (residue n node)) c);
  losses = λ c h. losses (mark_at (fusion n node) c) (mark_at (fusion n (residue n node)) c) (sym (ap is_loss (skeletal-at n node c)) ∙ h);
  own = λ c h k. ap is_loss (skeletal-at n node c) ∙ own (mark_at (fusion n node) c) (mark_at (fusion n (residue n node)) c) h k;
}
  where
    wins : (f r : Mark) → is_win (skeletal_mark f r) ≡ is_win f
    wins W r = refl
    wins L W = refl
    wins L L = refl
    wins L E = refl
    wins E r = refl

    losses : (f r : Mark) → is_loss (skeletal_mark f r) ≡ true → is_loss f ≡ true
    losses W r h = h
    losses L r h = refl
    losses E r h = h

    own : (f r : Mark) → is_loss f ≡ true → is_loss r ≡ false → is_loss (skeletal_mark f r) ≡ true
    own W r h k = absurd (cc)
    own L W h k = refl
    own L L h k = absurd (cc)
    own L E h k = refl
    own E r h k = absurd (cc)

pub form-weaker : (n : ℕ) (node : List (List Mark)) (marks : List Mark) → IsForm n node marks → IsStronger (fusion n node) marks
form-weaker n node marks form = record { wins = λ c h. form.wins c ∙ h; losses = form.losses }

-- ---- rankings, a constraint at a time
keeps-past : (x : ℕ) (order : List ℕ) (marks : List Mark) → is_even (mark_at marks x) ≡ true → keeps (x ∷ order) marks ≡ keeps order marks
keeps-past x order marks even = rw even refl

keeps-win : (x : ℕ) (order : List ℕ) (marks : List Mark) → mark_at marks x ≡ W → keeps (x ∷ order) marks ≡ true
keeps-win x order marks win = rw win (ap is_win win)

keeps-loss : (x : ℕ) (order : List ℕ) (marks : List Mark) → is_loss (mark_at marks x) ≡ true → keeps (x ∷ order) marks ≡ false
keeps-loss x order marks loss = elim (mark_tells (mark_at marks x)) [
  | inl win ↦ let no : is_loss W ≡ true = rw win at loss in absurd (cc)
  | inr other ↦ elim other [
    | inl bad ↦ rw bad (ap is_win bad)
    | inr even ↦ let no : is_loss E ≡ true = rw even at loss in absurd (cc)
  ]
]

pub loss-within : (n : ℕ) (marks : List Mark) (c : ℕ) → length marks ≡ n → is_loss (mark_at marks c) ≡ true → c < n
loss-within n marks c e h = elim (cases_lt c n) [
  | inl small ↦ small
  | inr past ↦ let no : is_loss E ≡ true = sym (ap is_loss (get_or_past marks c E (omega arith))) ∙ h in absurd (cc)
]

even-somewhere : (n : ℕ) (set : List (List Mark)) (x : ℕ) → list_all (has_width n) set ≡ true → is_even (mark_at (fusion n set) x) ≡ true → list_all (is_even_at x) set ≡ true
even-somewhere n set x widths even = elim (cases_lt x n) [
  | inl small ↦ even-all x set (fusion-even n set x small even)
  | inr past ↦ all-each (is_even_at x) set (λ it stands. ap is_even (get_or_past it x E (omega (arith, eqb-true _ _ (it-passes (has_width n) it set stands widths)))))
]

-- What keeps each of a set keeps its fusion.
pub keeps-fusion : (n : ℕ) (order : List ℕ) (set : List (List Mark)) → list_all (has_width n) set ≡ true → list_all (keeps order) set ≡ true → keeps order (fusion n set) ≡ true
keeps-fusion n [] set widths h = refl
keeps-fusion n (x ∷ order) set widths h = elim (mark_tells (mark_at (fusion n set) x)) [
  | inl win ↦ keeps-win x order (fusion n set) win
  | inr other ↦ elim other [
    | inl loss ↦
        let s = standing (loss_at x) set (fusion-loss n set x (ap is_loss loss)).loss in
        absurd (not_both (it-passes (keeps (x ∷ order)) s.it set s.stands h) (keeps-loss x order s.it s.passes))
    | inr even ↦
        let all = even-somewhere n set x widths (ap is_even even) in
        keeps-past x order (fusion n set) (ap is_even even)
        ∙ keeps-fusion n order set widths (all-each (keeps order) set (λ it stands. sym (keeps-past x order it (it-passes (is_even_at x) it set stands all)) ∙ it-passes (keeps (x ∷ order)) it set stands h))
  ]
]

-- What keeps a form of a node's fusion and the fusion of the residue keeps the node's fusion.
keeps-from_form : (n : ℕ) (order : List ℕ) (node : List (List Mark)) (marks : List Mark) → IsForm n node marks → list_all (has_width n) node ≡ true → keeps order marks ≡ true → keeps order (fusion n (residue n node)) ≡ true → keeps order (fusion n node) ≡ true
keeps-from_form n [] node marks form widths s r = refl
keeps-from_form n (x ∷ order) node marks form widths s r = elim (mark_tells (mark_at (fusion n node) x)) [
  | inl win ↦ keeps-win x order (fusion n node) win
  | inr other ↦ elim other [
    | inl loss ↦ elim (cases_Bool (is_loss (mark_at (fusion n (residue n node)) x))) [
      | inl both ↦ absurd (not_both r (keeps-loss x order (fusion n (residue n node)) both))
      | inr lacks ↦ absurd (not_both s (keeps-loss x order marks (form.own x (ap is_loss loss) lacks)))
    ]
    | inr even ↦
        let all = even-somewhere n node x widths (ap is_even even) in
        let here : is_even (mark_at marks x) ≡ true = neither _ (false_from_ne_true _ (λ l. not_both (form.losses x l) (ap is_loss even))) (form.wins x ∙ ap is_win even) in
        let rest : is_even (mark_at (fusion n (residue n node)) x) ≡ true = even-fusion n (residue n node) x (all-even x (residue n node) (residue-part n node (is_even_at x) all)) in
        keeps-past x order (fusion n node) (ap is_even even)
        ∙ keeps-from_form n order node marks form widths (sym (keeps-past x order marks here) ∙ s) (sym (keeps-past x order (fusion n (residue n node)) rest) ∙ r)
  ]
]

-- ---- a node just below has fewer conditions
pub filter-long : (p : List Mark → Bool) (set : List (List Mark)) → length (filter p set) ≤ length set
filter-long p [] = omega arith
filter-long p (m ∷ set) = elim (cases_Bool (p m)) [
  | inl here ↦ rw here (omega (arith, filter-long p set))
  | inr out ↦ rw out (omega (arith, filter-long p set))
]

pub filter-shorter : (p : List Mark → Bool) (set : List (List Mark)) → list_all p set ≡ false → length (filter p set) < length set
filter-shorter p [] h = absurd (cc)
filter-shorter p (m ∷ set) h = elim (cases_Bool (p m)) [
  | inl here ↦ let k : list_all p set ≡ false = rw here at h in rw here (omega (arith, filter-shorter p set k))
  | inr out ↦ rw out (omega (arith, filter-long p set))
]

pub part-some : (it : List Mark) (set : List (List Mark)) → IsPart (it ∷ []) set → 0 < length set
part-some it [] stands = let no : list_all (λ m. false) (it ∷ []) ≡ true = stands (λ m. false) refl in absurd (cc)
part-some it (m ∷ set) stands = omega arith

pub even-shorter : (n k : ℕ) (node : List (List Mark)) → is_win (mark_at (fusion n node) k) ≡ true → length (even_part k node) < length node
even-shorter n k node win =
    let s = standing (win_at k) node (fusion-win n node k win).win in
    filter-shorter (is_even_at k) node (false_from_ne_true _ (λ all. not_both s.passes (even-not-win _ (it-passes (is_even_at k) s.it node s.stands all))))

-- a form of a node that a ranking keeps
pub record KeptForm (n : ℕ) (order : List ℕ) (node : List (List Mark)) : Type 0 where
  pub marks : List Mark
  pub form : IsForm n node marks
  pub kept : keeps order marks ≡ true

abbrev pub KeepsForms : ℕ → List ℕ → List (List Mark) → Type 0
KeepsForms n order set = (node : List (List Mark)) → IsNode n set node → is_kept n node ≡ true → KeptForm n order node

-- A condition of a node that stands in no node below it is weaker than the node's fusion.
pub end-weaker : (n : ℕ) (node : List (List Mark)) (marks : List Mark) → length marks ≡ n → IsPart (marks ∷ []) node → stands_below n node marks ≡ false → IsStronger (fusion n node) marks
end-weaker n node marks width stands ends = record {
  wins = λ c win. let w = fusion-win n node c win in
      win-left _ (not-true _ (it-passes (λ m. not (loss_at c m)) marks node stands (all-none (loss_at c) node w.no_loss)))
      (false_from_ne_true _ (λ even. not_both (below-at n node marks c w.below win even) ends));
  losses = λ c loss. loss-fusion n node c (loss-within n marks c width loss) (it-any (loss_at c) marks node stands loss);
}

-- each condition of each node just below is kept
abbrev KeepsBelow : ℕ → List ℕ → List (List Mark) → List (List Mark) → Type 0
KeepsBelow n order set node = (k : ℕ) → is_win (mark_at (fusion n node) k) ≡ true → IsNode n set (even_part k node) → list_all (keeps order) (even_part k node) ≡ true

keeps-below : (n : ℕ) (order : List ℕ) (set node : List (List Mark)) → IsNode n set node → KeepsBelow n order set node → (it : List Mark) → IsPart (it ∷ []) node → stands_below n node it ≡ true → keeps order it ≡ true
keeps-below n order set node is_node lower it stands further =
    let r = any-range (λ k. is_win (mark_at (fusion n node) k) && is_even_at k it) 0 n further in
    let parts = and_parts (is_win (mark_at (fusion n node) r.it)) (is_even_at r.it it) r.passes in
    let in_part : IsPart (it ∷ []) (even_part r.it node) = part-filter (is_even_at r.it) (it ∷ []) node stands (and_from _ _ parts.1 refl) in
    let sub : IsNode n set (even_part r.it node) = below node r.it is_node parts.0 (part-some it (even_part r.it node) in_part) in
    it-passes (keeps order) it (even_part r.it node) in_part (lower r.it parts.0 sub)

keeps-step : (n : ℕ) (order : List ℕ) (set node : List (List Mark)) → IsGiven n node → KeepsForms n order set → IsNode n set node → KeepsBelow n order set node → list_all (keeps order) node ≡ true
keeps-step n order set node given forms is_node lower = all-each (keeps order) node (λ it stands. elim (cases_Bool (stands_below n node it)) [
  | inl further ↦ keeps-below n order set node is_node lower it stands further
  | inr ends ↦ stronger-kept order (fusion n node) it (end-weaker n node it (eqb-true _ _ (it-passes (has_width n) it node stands given.widths)) stands ends) whole-kept
])
  where
    residue-kept : list_all (keeps order) (residue n node) ≡ true
    residue-kept = all-each (keeps order) (residue n node) (λ it stands. keeps-below n order set node is_node lower it (part-trans (it ∷ []) (residue n node) node stands (residue-part n node)) (it-passes (stands_below n node) it (residue n node) stands (all-residue n node)))

    whole-kept : keeps order (fusion n node) ≡ true
    whole-kept =
        let rest = keeps-fusion n order (residue n node) (residue-part n node (has_width n) given.widths) residue-kept in
        elim (cases_Bool (has_own_loss n node)) [
          | inl own ↦
              let f = forms node is_node (kept-own n node given (node-some n set node is_node) ∙ own) in
              keeps-from_form n order node f.marks f.form given.widths f.kept rest
          | inr none ↦ stronger-kept order (fusion n (residue n node)) (fusion n node) (stronger-residue n node none) rest
        ]

-- What keeps a form of each kept node keeps each condition of each node.
keeps-node : (n : ℕ) (order : List ℕ) (set : List (List Mark)) → IsGiven n set → KeepsForms n order set → (bound : ℕ) (node : List (List Mark)) → length node < bound → IsNode n set node → list_all (keeps order) node ≡ true
keeps-node n order set g forms zero node short is_node = absurd (omega arith)
keeps-node n order set g forms (suc bound) node short is_node = keeps-step n order set node (given-part n set node g (node-part n set node is_node)) forms is_node
    (λ k win sub. keeps-node n order set g forms bound (even_part k node) (omega (arith, even-shorter n k node win)) sub)

pub keeps-set : (n : ℕ) (order : List ℕ) (set : List (List Mark)) → IsGiven n set → KeepsForms n order set → list_all (keeps order) set ≡ true
keeps-set n order [] g forms = refl
keeps-set n order (m ∷ set) g forms = keeps-node n order (m ∷ set) g forms (length (m ∷ set) + 1) (m ∷ set) (omega arith) (whole (omega arith))

pub keeps-form : (n : ℕ) (order : List ℕ) (set node : List (List Mark)) (marks : List Mark) → IsGiven n set → IsNode n set node → IsForm n node marks → list_all (keeps order) set ≡ true → keeps order marks ≡ true
keeps-form n order set node marks g is_node form h =
    let within = node-part n set node is_node in
    stronger-kept order (fusion n node) marks (form-weaker n node marks form) (keeps-fusion n order node (within (has_width n) g.widths) (within (keeps order) h))

-- ---- a list of forms of the kept nodes
pub record FormOf (n : ℕ) (set : List (List Mark)) (marks : List Mark) : Type 0 where
  pub node : List (List Mark)
  pub is_node : IsNode n set node
  pub kept : is_kept n node ≡ true
  pub form : IsForm n node marks

pub record FormIn (n : ℕ) (node basis : List (List Mark)) : Type 0 where
  pub place : ℕ
  pub within : place < length basis
  pub form : IsForm n node (slice_index_or basis place [])

pub record AreForms (n : ℕ) (set basis : List (List Mark)) : Type 0 where
  pub each : (k : ℕ) → k < length basis → FormOf n set (slice_index_or basis k [])
  pub all : (node : List (List Mark)) → IsNode n set node → is_kept n node ≡ true → FormIn n node basis
  pub differ : (i j : ℕ) (a : i < length basis) (b : j < length basis) → (i ≡ j → ⊥) → (each i a).node ≡ (each j b).node → ⊥

pub same-rankings : (n : ℕ) (set basis : List (List Mark)) → IsGiven n set → AreForms n set basis → HaveSameRankings n set basis
same-rankings n set basis g forms order ranking = both_ways _ _ into out
  where
    into : list_all (keeps order) basis ≡ true → list_all (keeps order) set ≡ true
    into h = keeps-set n order set g (λ node is_node kept.
        let f = forms.all node is_node kept in
        record { marks = slice_index_or basis f.place []; form = f.form; kept = AllPass-from_list_all (keeps order) basis h f.place [] f.within })

    out : list_all (keeps order) set ≡ true → list_all (keeps order) basis ≡ true
    out h = list_all-from_AllPass (keeps order) basis (λ k d small. at k d small (forms.each k small))
      where
        at : (k : ℕ) (d : List Mark) (small : k < length basis) → FormOf n set (slice_index_or basis k []) → keeps order (slice_index_or basis k d) ≡ true
        at k d small f = rw (get_or_default basis k d [] small) (keeps-form n order set f.node (slice_index_or basis k []) g f.is_node f.form h)
