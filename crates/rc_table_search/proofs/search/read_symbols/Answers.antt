use Rattle.std.proofs.Common.{ℕ, ◌+◌, ◌-◌, ◌<◌, ◌≤◌, ◌∙◌, length, sym, subst, ap, arith}
use Rattle.rc_dfa.specs.declared.symbols.Tagged.{Tagged}
use Rattle.rc_dfa.specs.Symbols.{symbol_of}
use Rattle.rc_program.specs.Sought.{text_of}
use Rattle.rc_symbols.specs.Symbols.{IsSymbolAt}
use Rattle.rc_table_search.specs.Searches.{IsAt, Outset, ReadsOn}
use Rattle.rc_table_search.specs.Walks.{left_of, next_of}
use Rattle.rc_table_search.specs.Ways.{IsAhead, IsNext, offset_of}
use Rattle.rc_table_search.proofs.OverLemmas.{at_same, beside_here, slice_here}
use Rattle.rc_table_search.proofs.SpanLemmas.{next_here, place_next}
use Rattle.rc_table_search.proofs.RunLemmas.{fewer}
use Rattle.rc_table_search.proofs.ScalarLemmas.{symbol_found}
use Rattle.rc_table_search.proofs.search.read_symbols.Goals as goal
use Rattle.rc_table_search.proofs.search.read_symbols.Goals.{After-byte-byte, After-serve, After-tag-tagged}

-- where the run over symbols stopped
stopped : (g : _) (c : After-serve g) → ReadsOn (g.T.Transitions.view c.args.table.now g.W.Way.BACKWARDS) g.W.Way.BACKWARDS c.args.request.now c.args.piece.now
    c.args.start c.args.cache.now c.args.from c.args.begin c.serve.new.cache c.run_over-on.result.0 c.run_over-on.result.1
stopped g c = λ o ahead at.
    at_same _ (g.T.Transitions.view c.args.table.now g.W.Way.BACKWARDS) g.W.Way.BACKWARDS o c.args.request.now _ c.serve.new.cache
    (c.args.start + c.run_over-on.result.0) c.run_over-on.result.1 c.serve.ensures
    (c.run_over-on.ensures.across o c.args.request.now c.args.start ahead (c.loop-cache.invariant.here o ahead at))

some : (g : _) (c : After-byte-byte g) → 0 < left_of g.W.Way.BACKWARDS (length c.args.piece.now) c.run_over-on.result.0
some g c = omega (arith, c.left-rest.ensures, c.if-rest-eq0.false)

-- the byte after it
next : (g : _) (c : After-byte-byte g) (o : Outset g.row.T-Cache.Denot) → IsAhead g.W.Way.BACKWARDS o.seen c.args.request.now.end c.args.start c.args.piece.now →
    IsNext g.W.Way.BACKWARDS o.seen c.args.request.now.end (c.args.start + c.run_over-on.result.0) c.byte-byte.result
next g c o ahead =
    subst (IsNext g.W.Way.BACKWARDS o.seen c.args.request.now.end (c.args.start + c.run_over-on.result.0)) (sym c.byte-byte.ensures)
    (next_here g.W.Way.BACKWARDS o.seen c.args.request.now.end c.args.start c.run_over-on.result.0 c.args.piece.now ahead.inside ahead.is ahead.within
    c.run_over-on.ensures.within (some g c))

-- its symbol
symbol : (g : _) (c : After-tag-tagged g) (o : Outset g.row.T-Cache.Denot) → IsAhead g.W.Way.BACKWARDS o.seen c.args.request.now.end c.args.start c.args.piece.now →
    (terminator : ℕ) → IsSymbolAt (text_of terminator o.seen) (offset_of g.W.Way.BACKWARDS (c.args.start + c.run_over-on.result.0))
    (symbol_of (record { byte = c.byte-byte.result; tagged = c.tag-tagged.result }))
symbol g c o ahead terminator =
    let backwards = g.W.Way.BACKWARDS in
    let start = c.args.start in
    let place = c.run_over-on.result.0 in
    let piece = c.args.piece.now in
    let byte = c.byte-byte.result in
    let le = c.run_over-on.ensures.within in
    let some : 0 < left_of backwards (length piece) place = omega (arith, c.left-rest.ensures, c.if-rest-eq0.false) in
    subst (λ (t : Tagged). IsSymbolAt (text_of terminator o.seen) (offset_of backwards (start + place)) (symbol_of (record { byte = byte; tagged = t })))
    (sym c.tag-tagged.ensures)
    (symbol_found backwards terminator o.seen start place c.offset-here.result byte piece c.in-Some.scalar ahead.low ahead.high ahead.is le some
    (c.offset-here.ensures ∙ ap (λ k. offset_of k place) c.BACKWARDS.ensures) c.if-byte-lt128.false c.in-Some.ensures.whole c.in-Some.ensures.has
    (beside_here backwards o.seen start place byte piece ahead.is le some c.byte-byte.ensures))

-- the states that were added, with that for the byte after it
spent : (g : _) (c : After-byte-byte g) (new : g.row.T-Cache.Denot) (n : ℕ) →
    left_of g.W.Way.BACKWARDS (length c.args.piece.now) c.args.from ≤ n + left_of g.W.Way.BACKWARDS (length c.args.piece.now) (next_of g.W.Way.BACKWARDS c.run_over-on.result.0) →
    (g.T.Transitions.view c.args.table.now g.W.Way.BACKWARDS).Spends c.serve.new.cache new 1 →
    (g.T.Transitions.view c.args.table.now g.W.Way.BACKWARDS).Spends c.args.cache.now new n
spent g c new n le step =
    let backwards = g.W.Way.BACKWARDS in
    let laws = g.met.T.Transitions.lawful c.args.table.now backwards in
    let len = length c.args.piece.now in
    let before = left_of backwards len c.args.from - left_of backwards len c.loop-cache.place in
    let few = (fewer backwards len c.run_over-on.result.0 c.run_over-on.ensures.within (some g c)).1 in
    let on = c.loop-cache.invariant.on in
    laws.spends_within c.args.cache.now new (before + 1) n (omega (arith, few, on, c.run_over-on.ensures.on, le))
    (laws.spends_both c.args.cache.now c.serve.new.cache new before 1 (c.serve.ensures.spends c.args.cache.now before c.loop-cache.invariant.spends) step)

pub returns-in-Through-clause-at : goal.returns-in-Through-clause-at
returns-in-Through-clause-at g c = λ o ahead at.
    let backwards = g.W.Way.BACKWARDS in
    let k = goal.at.returns-in-Through-clause-at g c in
    let place = c.run_over-on.result.0 in
    let len = length c.args.piece.now in
    let left = some g k.After-byte-byte in
    subst (λ i. IsAt (g.T.Transitions.view c.args.table.now backwards) backwards o c.args.request.now c.step_alone.new.cache i c.in-Through.stand)
    (place_next backwards len c.args.start place left ∙ ap (λ i. c.args.start + i) (sym c.next.ensures))
    (c.in-Through.ensures.leg o (stopped g k.After-serve o ahead at)
    (slice_here backwards o.seen c.args.start place len ahead.low ahead.high c.run_over-on.ensures.within left) (next g k.After-byte-byte o ahead))

pub returns-in-Over-clause-over : goal.returns-in-Over-clause-over
returns-in-Over-clause-over g c = λ o ahead at.
    let k = goal.at.returns-in-Over-clause-over g c in
    c.in-Over.ensures.leg o (stopped g k.After-serve o ahead at)
    (slice_here g.W.Way.BACKWARDS o.seen c.args.start c.run_over-on.result.0 (length c.args.piece.now) ahead.low ahead.high c.run_over-on.ensures.within
    (some g k.After-byte-byte)) (next g k.After-byte-byte o ahead)

pub returns-in-Over-step_over-clause-over : goal.returns-in-Over-step_over-clause-over
returns-in-Over-step_over-clause-over g c = λ o ahead at.
    let k = goal.at.returns-in-Over-step_over-clause-over g c in
    c.in-Over-step_over.ensures.leg o (stopped g k.After-serve o ahead at) (symbol g k.After-tag-tagged o ahead) (next g k.After-byte-byte o ahead)

pub returns-in-Over-step_over-clause-spends : goal.returns-in-Over-step_over-clause-spends
returns-in-Over-step_over-clause-spends g c =
    let k = goal.at.returns-in-Over-step_over-clause-spends g c in
    spent g k.After-byte-byte c.step_over.new.cache (left_of g.W.Way.BACKWARDS (length c.args.piece.now) c.args.from) (omega arith) c.in-Over-step_over.ensures.spends

pub loop-cache-preserved : goal.loop-cache-preserved
loop-cache-preserved g c =
    let backwards = g.W.Way.BACKWARDS in
    let k = goal.at.loop-cache-preserved g c in
    let place = c.run_over-on.result.0 in
    let len = length c.args.piece.now in
    let left = some g k.After-byte-byte in
    let few = fewer backwards len place c.run_over-on.ensures.within left in
    let on = c.loop-cache.invariant.on in
    let at = ap (left_of backwards len) c.next-place.ensures in
    let less : left_of backwards len c.next-place.result ≤ left_of backwards len c.args.from = omega (arith, few.1, at, on, c.run_over-on.ensures.on) in
    record {
      within = omega (arith, few.0, c.next-place.ensures);
      on = less;
      spends = spent g k.After-byte-byte c.step_over.new.cache (left_of backwards len c.args.from - left_of backwards len c.next-place.result) (omega (arith, at, less))
          c.in-Through-step_over.ensures.spends;
      cache = c.in-Through-step_over.ensures.cache;
      is_row = c.in-Through-step_over.ensures.row;
      here = λ o ahead at.
          subst (λ i. IsAt (g.T.Transitions.view c.args.table.now backwards) backwards o c.args.request.now c.step_over.new.cache i c.in-Through-step_over.next)
          (place_next backwards len c.args.start place left ∙ ap (λ i. c.args.start + i) (sym c.next-place.ensures))
          (c.in-Through-step_over.ensures.leg o (stopped g k.After-serve o ahead at) (symbol g k.After-tag-tagged o ahead) (next g k.After-byte-byte o ahead));
    }
