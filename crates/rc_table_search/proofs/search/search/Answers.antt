use Rattle.std.proofs.Common.{rules, ◌≡◌, ◌≤◌, ◌<◌, ◌+◌, ◌^◌, length, refl, sym, subst, ap}
use Rattle.rc_text.specs.Text.{Keeps, Searched, slice_end}
use Rattle.rc_table_search.specs.Searches.{Origin}
use Rattle.rc_table_search.proofs.SpanLemmas.{kept_then}
use Rattle.rc_table_search.proofs.SearchLemmas.{over_run, stands_first}
use Rattle.rc_table_search.proofs.search.search.Goals as goal

pub go_on-requires : goal.go_on-requires
go_on-requires g c κs within =
    let v = g.T.Transitions.view c.args.table.now g.W.Way.BACKWARDS in
    let r = c.requires.1.1.1.1 in
    let b = c.in-Through.ensures.begun in
    let seen : g.origin.seen ≡ c.args.input.now = ap (λ (o : Origin _). o.seen) r.0 in (
      search rules,
      (
        search rules,
        (
          search rules,
          (
            search rules,
            (
              stands_first _ v (g.met.T.Transitions.lawful c.args.table.now g.W.Way.BACKWARDS) g.W.Way.BACKWARDS _ c.args.request.now c.begin.new.cache c.in-Through.stand
                  b.cache b.is_row refl refl b.unmet,
              (
                kept_then g.origin.seen c.byte_beside-beside.new.input c.begin.new.input
                    (subst (λ s. Keeps s c.byte_beside-beside.new.input) (sym seen) c.byte_beside-beside.ensures.keeps) c.in-Through.ensures.keeps,
                (
                  subst (λ (s : Searched). (s.slice.start ≤ c.args.request.now.from) × (s.slice.start ≤ c.args.request.now.end)) (sym seen) r.1.1.0,
                  (
                    r.1.1.1.0,
                    (
                      subst (λ s. (c.args.request.now.from ≤ slice_end s) × (c.args.request.now.end ≤ slice_end s)) (sym seen) r.1.1.1.1.0,
                      (subst (λ (s : Searched). length s.content + 1 < 2 ^ 64) (sym seen) c.content_fits.ensures, r.1.1.1.1.1),
                    ),
                  ),
                ),
              ),
            ),
          ),
        ),
      ),
    )

pub returns-clause-over : goal.returns-clause-over
returns-clause-over g c =
    over_run _ (g.T.Transitions.view c.args.table.now g.W.Way.BACKWARDS) (g.met.T.Transitions.lawful c.args.table.now g.W.Way.BACKWARDS) g.W.Way.BACKWARDS g.origin
    c.args.request.now c.begin.new.cache c.go_on.new.cache c.in-Through.stand c.go_on.result.read c.go_on.result.ended c.in-Through.ensures.begun c.go_on.ensures.over
