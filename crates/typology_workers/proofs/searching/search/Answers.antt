-- The deeds of the workers and of the gatherer together are honest and balanced, and the rest follows from what each part gave.
use Rattle.std.proofs.Common.{◌∙◌, ap, length, refl}
use Rattle.typology_workers.proofs.Together.{run-make}
use Rattle.typology_workers.proofs.Searches.{whole-balanced, whole-fits, whole-found, whole-honest}
use Rattle.typology_workers.proofs.searching.search.Goals as goal

pub settle_up-requires : goal.settle_up-requires
settle_up-requires g c = run-make c.args.p.now c.args.workers c.in_ok-store.store c.in_ok-opened.opened.waiting.items c.in_ok-parts.parts c.in_ok-parts.ensures

pub settle_rest-requires : goal.settle_rest-requires
settle_rest-requires g c =
    whole-fits c.args.p.now c.args.workers c.in_ok-store.store c.in_ok-opened.opened (record { deeds = c.in_ok-opened.opened.deeds; waiting = c.add_prefixes.new.waiting }) c.in_ok-parts.parts c.in_ok-settled.settled.left (record {
      opening = c.in_ok-opened.ensures;
      run = c.in_ok-parts.ensures;
      agree = c.in_ok-settled.ensures.agree;
      rest = c.in_ok-settled.ensures.left;
      kept = refl;
      waits = c.in_ok-add_prefixes.ensures;
    })

pub gather-requires-clause-honest : goal.gather-requires-clause-honest
gather-requires-clause-honest g c =
    rw (c.as_slice.ensures ∙ c.in_ok-push.ensures.ok)
    (whole-honest c.args.p.now c.args.workers c.in_ok-store.store c.in_ok-opened.opened (record { deeds = c.in_ok-opened.opened.deeds; waiting = c.add_prefixes.new.waiting }) c.in_ok-parts.parts c.in_ok-settled.settled.left c.in_ok-last.last (record {
      opening = c.in_ok-opened.ensures;
      run = c.in_ok-parts.ensures;
      agree = c.in_ok-settled.ensures.agree;
      rest = c.in_ok-settled.ensures.left;
      kept = refl;
      waits = c.in_ok-add_prefixes.ensures;
    })
    c.in_ok-last.ensures)

pub gather-requires-clause-balanced : goal.gather-requires-clause-balanced
gather-requires-clause-balanced g c =
    rw (c.as_slice.ensures ∙ c.in_ok-push.ensures.ok)
    (whole-balanced c.args.p.now c.args.workers c.in_ok-store.store c.in_ok-opened.opened (record { deeds = c.in_ok-opened.opened.deeds; waiting = c.add_prefixes.new.waiting }) c.in_ok-parts.parts c.in_ok-settled.settled.left c.in_ok-last.last (record {
      opening = c.in_ok-opened.ensures;
      run = c.in_ok-parts.ensures;
      agree = c.in_ok-settled.ensures.agree;
      rest = c.in_ok-settled.ensures.left;
      kept = refl;
      waits = c.in_ok-add_prefixes.ensures;
    })
    c.in_ok-last.ensures)

pub returns : goal.returns
returns g c =
    whole-found c.args.p.now c.args.workers c.args.places c.in_ok-store.store c.in_ok-opened.opened (record { deeds = c.in_ok-opened.opened.deeds; waiting = c.add_prefixes.new.waiting }) c.in_ok-parts.parts c.in_ok-settled.settled.left c.in_ok-last.last
    (record {
      deeds = c.push.new.self;
      dealt = length c.as_slice-dealt.result.now;
      typology = c.in_ok-typology.typology;
      books = c.in_ok-settled.settled.books;
      store = c.in_ok-store.store;
      fronts = c.in_ok-parts.parts.fronts;
    })
    (record {
      opening = c.in_ok-opened.ensures;
      run = c.in_ok-parts.ensures;
      agree = c.in_ok-settled.ensures.agree;
      rest = c.in_ok-settled.ensures.left;
      kept = refl;
      waits = c.in_ok-add_prefixes.ensures;
    })
    c.in_ok-last.ensures c.in_ok-push.ensures.ok (ap length c.as_slice-dealt.ensures) c.in_ok-settled.ensures.shown.0 c.in_ok-settled.ensures.shown.1 refl refl c.in_ok-store.ensures (record {
      languages = c.in_ok-typology.ensures.languages;
      all_cuts = c.in_ok-typology.ensures.cuts;
      all_certificates = c.in_ok-typology.ensures.certificates;
      genuine = c.in_ok-typology.ensures.genuine;
      named = c.in_ok-typology.ensures.named;
    })
