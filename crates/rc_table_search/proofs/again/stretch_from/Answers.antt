use Rattle.std.proofs.Common.{rules, None, false, refl}
use Rattle.rc_table_search.proofs.SearchLemmas.{stands_first}
use Rattle.rc_table_search.proofs.MemoLemmas.{kept_same}
use Rattle.rc_table_search.proofs.again.stretch_from.Goals as goal

pub stretch-requires : goal.stretch-requires
stretch-requires g c κs within =
    let v = g.T.Transitions.view c.args.table.now false in
    let r = c.requires in (
      search rules,
      (
        search rules,
        (
          search rules,
          (
            stands_first _ v (g.met.T.Transitions.lawful c.args.table.now false) false _ c.args.request.now c.args.cache.now (record { row = c.args.row; noted = None }) r.cache r.row refl
                refl refl,
            (kept_same c.args.input.now, (r.low, (r.ordered, (r.until, (r.high, (r.fits, r.rests)))))),
          ),
        ),
      ),
    )
