use Rattle.std.proofs.Common.{arith, sym}
use Rattle.api_meta.specs.Views.{regex_kind, sought}
use Rattle.stream_search.specs.Searches.{seeks}
use Rattle.stream_search.proofs.Kept.{found_all, none_past}
use Rattle.stream_search.proofs.step.search_rest.Goals as goal

pub returns-then-at-total-clause-found : goal.returns-then-at-total-clause-found
returns-then-at-total-clause-found g c =
    let r = g.F.PartialFinder.searched_by c.args.finder.now in
    let content = g.C.Cursor.content c.args.cursor in
    let total = c.in-Some.ensures.total in
    let past = c.if-at-total.true in
    sym (none_past (regex_kind r) (seeks r) content c.args.at (omega (arith, total, past)))

pub returns-clause-found : goal.returns-clause-found
returns-clause-found g c =
    let r = g.F.PartialFinder.searched_by c.args.finder.now in
    let i = c.input_from-input in
    sym (found_all r i.result (g.C.Cursor.content c.args.cursor) c.args.at (i.ensures.search (sought r)) c.find.result i.ensures.over.late c.find.ensures.found_by)
