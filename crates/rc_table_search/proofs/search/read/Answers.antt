use Rattle.std.proofs.Common.{◌+◌, length, arith}
use Rattle.std.proofs.lemmas.Result.{IfErr-weaker, IfOk-weaker}
use Rattle.rc_table_search.specs.Searches.{EndsOn, HasRun, IsAt, ReadsOn}
use Rattle.rc_table_search.specs.Ways.{IsAhead}
use Rattle.rc_table_search.specs.declared.run.Stand.{Stand}
use Rattle.rc_table_search.proofs.ScalarLemmas.{piece_inside}
use Rattle.rc_table_search.proofs.SearchLemmas.{at_moved}
use Rattle.rc_table_search.proofs.search.read.Goals as goal
use Rattle.rc_table_search.proofs.search.read.Goals.{After-note_of-noted, Start}

-- where the run stopped
here : (g : _) (c : After-note_of-noted g) → IsAt (g.T.Transitions.view c.args.table.now g.W.Way.BACKWARDS) g.W.Way.BACKWARDS g.outset c.args.request.now
    c.run-place.new.cache (c.args.start + c.run-place.result.0) (record { row = c.run-place.result.1.row; noted = c.note_of-noted.result })
here g c =
    let v = g.T.Transitions.view c.args.table.now g.W.Way.BACKWARDS in
    let r = c.requires.1.1.1 in
    at_moved _ v (g.met.T.Transitions.lawful c.args.table.now g.W.Way.BACKWARDS) g.W.Way.BACKWARDS g.outset c.args.request.now c.args.cache.now c.run-place.new.cache
    c.args.piece.now c.args.start c.run-place.result.0 c.run-place.result.1.row c.args.stand c.run-place.result.1.noted c.note_of-noted.result
    r.0 r.1.0 r.1.1.0 r.1.1.1.0 r.1.1.1.1.0 (λ k. let fits = c.type_inv.piece k in omega (arith, fits)) c.run-place.ensures.within c.run-place.ensures.same c.run-place.ensures.row
    c.run-place.ensures.run c.note_of-noted.ensures

ahead : (g : _) (c : Start g) → IsAhead g.W.Way.BACKWARDS g.outset.seen c.args.request.now.end c.args.start c.args.piece.now
ahead g c =
    let r = c.requires.1.1.1 in
    let inside = piece_inside g.W.Way.BACKWARDS g.outset.seen c.args.request.now.from c.args.request.now.end c.args.start (length c.args.piece.now) r.1.1.0 r.1.0 r.0.on r.1.1.1.1.0 in
    record { is = r.1.1.1.0; low = inside.0; high = inside.1; inside = r.1.1.0; within = r.1.1.1.1.0 }

pub returns-then-needs_symbol-2-clause-at : goal.returns-then-needs_symbol-2-clause-at
returns-then-needs_symbol-2-clause-at g c =
    let k = goal.at.returns-then-needs_symbol-2-clause-at g c in
    let backwards = g.W.Way.BACKWARDS in
    let v = g.T.Transitions.view c.args.table.now backwards in
    let q = c.args.request.now in
    let new = c.read_symbols-then-needs_symbol-2.new.cache in
    let stand : Stand = record { row = c.run-place.result.1.row; noted = c.note_of-noted.result } in
    IfOk-weaker c.read_symbols-then-needs_symbol-2.result
    (λ there. ReadsOn v backwards q c.args.piece.now c.args.start c.run-place.new.cache c.run-place.result.0 stand new there.0 there.1)
    (λ there. IsAt v backwards g.outset q new (c.args.start + there.0) there.1)
    (λ there reads. reads g.outset (ahead g k.Start) (here g k.After-note_of-noted)) c.read_symbols-then-needs_symbol-2.ensures.at

pub returns-then-needs_symbol-2-clause-over : goal.returns-then-needs_symbol-2-clause-over
returns-then-needs_symbol-2-clause-over g c =
    let k = goal.at.returns-then-needs_symbol-2-clause-over g c in
    let backwards = g.W.Way.BACKWARDS in
    let v = g.T.Transitions.view c.args.table.now backwards in
    let q = c.args.request.now in
    let new = c.read_symbols-then-needs_symbol-2.new.cache in
    let stand : Stand = record { row = c.run-place.result.1.row; noted = c.note_of-noted.result } in
    IfErr-weaker c.read_symbols-then-needs_symbol-2.result
    (EndsOn v backwards q c.args.piece.now c.args.start c.run-place.new.cache c.run-place.result.0 stand new)
    (λ reading. HasRun v backwards g.outset q new reading.read reading.ended)
    (λ reading ends. ends g.outset (ahead g k.Start) (here g k.After-note_of-noted)) c.read_symbols-then-needs_symbol-2.ensures.over

pub returns-clause-at : goal.returns-clause-at
returns-clause-at g c = here g (goal.at.returns-clause-at g c).After-note_of-noted
