use Rattle.std.proofs.Common.{◌∙◌, ap, arith, length}
use Rattle.stream_search.specs.Searches.{IsOver}
use Rattle.stream_search.proofs.Kept.{begins_at, seen}
use Rattle.stream_search.proofs.search.input_from.Goals as goal

pub returns-clause-over : goal.returns-clause-over
returns-clause-over g c =
    let i = c.new-input.ensures in
    let set = c.set_start.ensures in
    let l = ap length i.content in
    let whole = i.whole in
    let over : IsOver c.new-input.result = record {
      end = omega (arith, l, whole);
      slice_start = i.slice_start;
      slice_end = i.slice_end;
      anchored = i.anchored;
      late = i.earliest;
    } in
    begins_at c.new-input.result c.set_start.new.self over set.keeps set.end set.slice

pub returns-clause-search : goal.returns-clause-search
returns-clause-search g c =
    let set = c.set_start.ensures in
    let content = set.keeps.content ∙ c.new-input.ensures.content in
    let l = ap length set.keeps.content in
    let fits = c.content_fits.ensures in
    λ q. seen q c.set_start.new.self (g.C.Cursor.content c.args.cursor) c.args.at (returns-clause-over g c) content (omega (arith, l, fits)) set.start
