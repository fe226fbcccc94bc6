-- Workers that run in two halves have all run.
use Rattle.std.proofs.Common.{◌≡◌, ℕ, List, [], ◌∷◌, ◌++◌, sym, subst}
use Rattle.ot_theory.specs.Problems.{Problem}
use Rattle.typology_workers.specs.Packets.{AllRan}
use Rattle.typology_workers.specs.declared.halves.Ended.{Ended}
use Rattle.typology_workers.specs.declared.halves.Packet.{Packet}

ran-append : (problem : Problem) (store : List ℕ) (ps qs : List Packet) (ds es : List Ended) → AllRan problem store ps ds → AllRan problem store qs es → AllRan problem store (ps ++ qs) (ds ++ es)
ran-append problem store [] qs [] es a b = b
ran-append problem store [] qs (d ∷ ds) es a b = absurd a
ran-append problem store (p ∷ ps) qs [] es a b = absurd a
ran-append problem store (p ∷ ps) qs (d ∷ ds) es a b = (a.0, ran-append problem store ps qs ds es a.1 b)

pub both-ran : (problem : Problem) (store : List ℕ) (ps qs packets : List Packet) (ds es ended : List Ended) → AllRan problem store ps ds → AllRan problem store qs es → packets ≡ ps ++ qs → ended ≡ ds ++ es → AllRan problem store packets ended
both-ran problem store ps qs packets ds es ended a b p d =
    subst (λ (l : List Packet). AllRan problem store l ended) (sym p) (subst (λ (l : List Ended). AllRan problem store (ps ++ qs) l) (sym d) (ran-append problem store ps qs ds es a b))
