use Rattle.search_rows.proofs.Seated.{HasNoMisses, none-missed-by-last}
use Rattle.search_rows.proofs.workers.works.Goals as goal
use Rattle.search_rows.proofs.workers.works.Goals.{in-Some-other+in_ok-put_all-in-Some-other, in-None+in_ok-put_all-in-None}

pub work-requires-clause-seat : goal.work-requires-clause-seat
work-requires-clause-seat g c =
    let fresh : HasNoMisses c.in-Some.seat = none-missed-by-last c.in_ok-seats.seats c.pop.new.self c.in-Some.seat c.in_ok-seats.ensures c.in-Some.ensures in
    elim c.match-other.branch [
      | in-Some-other+in_ok-put_all-in-Some-other w ↦ rw w.seat-is (λ lifetimes live. fresh)
      | in-None+in_ok-put_all-in-None w ↦ rw (w.seat-is, w.put_all-in-None.ensures) (λ lifetimes live. fresh)
    ]
