use Rattle.std.proofs.Common.{None, false, ◌≡◌, ◌+◌, ◌-◌, ◌≤◌, ◌∙◌, length, refl, sym, subst, arith}
use Rattle.std.proofs.lemmas.Option.{IfSome_then}
use Rattle.rc_text.specs.Text.{Searched, slice_end}
use Rattle.rc_dfa.specs.Inside.{IsPieceOf}
use Rattle.rc_table_search.specs.Searches.{HasBegun, IsAt, Origin, Outset}
use Rattle.rc_table_search.proofs.InsideLemmas.{begins_inside, piece_ahead, rest_of_piece}
use Rattle.rc_table_search.proofs.SearchLemmas.{begin_dies, begin_goes, over_run, stands_first}
use Rattle.rc_table_search.proofs.inside.search_inside.Goals as goal
use Rattle.rc_table_search.proofs.inside.search_inside.Goals.{After-read_symbols-read, After-row_of-row}

pub returns-then-has_died-clause-over : goal.returns-then-has_died-clause-over
returns-then-has_died-clause-over g c = λ seen piece bound.
    let v = g.T.Transitions.view c.args.table.now false in
    begin_dies _ v (g.met.T.Transitions.lawful c.args.table.now false) false _ c.args.request.now c.start_inside.new.cache c.in_ok-cell.cell c.in_ok-cell.ensures.cache
    c.in_ok-cell.ensures.spends
    (begins_inside _ v c.start_inside.new.cache seen c.args.request.now c.args.start c.in_ok-cell.cell c.args.piece.now c.requires.begins.0 piece bound c.in_ok-cell.ensures.cell)
    c.if-cell.false (sym c.has_died.ensures ∙ c.if-has_died.true)

-- how the search begins
begun : (g : _) (c : After-row_of-row g) (seen : Searched) → IsPieceOf seen c.args.request.now.end c.args.start c.args.piece.now → c.args.request.now.end ≤ slice_end seen →
    HasBegun (g.T.Transitions.view c.args.table.now false) false (record { seen = seen; begun = c.args.cache.now }) c.args.request.now c.start_inside.new.cache
    (record { row = c.row_of-row.result; noted = None })
begun g c seen piece bound =
    let v = g.T.Transitions.view c.args.table.now false in
    let q = c.args.request.now in
    let origin : Origin g.row.T-Cache.Denot = record { seen = seen; begun = c.args.cache.now } in
    subst (λ k. HasBegun v false origin q c.start_inside.new.cache (record { row = k; noted = None })) (sym c.row_of-row.ensures)
    (begin_goes _ v (g.met.T.Transitions.lawful c.args.table.now false) false origin q c.start_inside.new.cache c.in_ok-cell.cell c.in_ok-cell.ensures.cache
    c.in_ok-cell.ensures.spends
    (begins_inside _ v c.start_inside.new.cache seen q c.args.start c.in_ok-cell.cell c.args.piece.now c.requires.begins.0 piece bound c.in_ok-cell.ensures.cell)
    c.if-cell.false (sym c.has_died.ensures ∙ c.if-has_died.false))

-- and where it stands then
first : (g : _) (c : After-row_of-row g) (seen : Searched) → IsPieceOf seen c.args.request.now.end c.args.start c.args.piece.now → c.args.request.now.end ≤ slice_end seen →
    IsAt (g.T.Transitions.view c.args.table.now false) false (record { seen = seen; begun = c.start_inside.new.cache; row = c.row_of-row.result }) c.args.request.now
    c.start_inside.new.cache c.args.request.now.from (record { row = c.row_of-row.result; noted = None })
first g c seen piece bound =
    let there = begun g c seen piece bound in
    stands_first _ (g.T.Transitions.view c.args.table.now false) (g.met.T.Transitions.lawful c.args.table.now false) false _ c.args.request.now
    c.start_inside.new.cache _ there.cache there.is_row refl refl refl

pub returns-then-needs_symbol-clause-over : goal.returns-then-needs_symbol-clause-over
returns-then-needs_symbol-clause-over g c = λ seen piece bound.
    let k = (goal.at.returns-then-needs_symbol-clause-over g c).After-row_of-row in
    let v = g.T.Transitions.view c.args.table.now false in
    let q = c.args.request.now in
    let origin : Origin g.row.T-Cache.Denot = record { seen = seen; begun = c.args.cache.now } in
    let outset : Outset g.row.T-Cache.Denot = record { seen = seen; begun = c.start_inside.new.cache; row = c.row_of-row.result } in
    let begins = c.requires.begins in
    let here : q.from ≡ c.args.start + (q.from - c.args.start) = omega (arith, begins.0) in
    over_run _ v (g.met.T.Transitions.lawful c.args.table.now false) false origin q c.start_inside.new.cache c.read_symbols-read.new.cache _ c.in-Err.reading.read
    c.in-Err.reading.ended (begun g k seen piece bound)
    (c.in-Err.ensures.over outset (piece_ahead seen q.end c.args.start c.args.piece.now piece bound)
    (subst (λ i. IsAt v false outset q c.start_inside.new.cache i (record { row = c.row_of-row.result; noted = None })) here (first g k seen piece bound)))

pub returns-clause-over : goal.returns-clause-over
returns-clause-over g c = λ seen piece bound.
    let k = (goal.at.returns-clause-over g c).After-row_of-row in
    let q = c.args.request.now in
    let begins = c.requires.begins in
    let origin : Origin g.row.T-Cache.Denot = record { seen = seen; begun = c.args.cache.now } in
    IfSome_then c.run_inside.result
    (c.run_inside.ensures.over (record { seen = seen; begun = c.start_inside.new.cache; row = c.row_of-row.result }) (first g k seen piece bound)
    (rest_of_piece seen q.end c.args.start q.from c.args.piece.now piece begins.0 begins.1) bound)
    (λ r run. over_run _ (g.T.Transitions.view c.args.table.now false) (g.met.T.Transitions.lawful c.args.table.now false) false origin q c.start_inside.new.cache
    c.run_inside.new.cache _ r.read r.ended (begun g k seen piece bound) run)

-- the states that were added where symbols were read
spent : (g : _) (c : After-read_symbols-read g) → (g.T.Transitions.view c.args.table.now false).Spends c.args.cache.now c.read_symbols-read.new.cache
    (c.args.start + length c.args.piece.now - c.args.request.now.from + 2)
spent g c =
    let laws = g.met.T.Transitions.lawful c.args.table.now false in
    let begins = c.requires.begins in
    let left = length c.args.piece.now - (c.args.request.now.from - c.args.start) in
    laws.spends_within c.args.cache.now c.read_symbols-read.new.cache (1 + left) _ (omega (arith, begins.0, begins.1))
    (laws.spends_both c.args.cache.now c.start_inside.new.cache c.read_symbols-read.new.cache 1 left c.in_ok-cell.ensures.spends c.read_symbols-read.ensures.spends)

pub returns-in_default-clause-spends : goal.returns-in_default-clause-spends
returns-in_default-clause-spends g c = spent g (goal.at.returns-in_default-clause-spends g c).After-read_symbols-read

pub returns-then-needs_symbol-clause-spends : goal.returns-then-needs_symbol-clause-spends
returns-then-needs_symbol-clause-spends g c = spent g (goal.at.returns-then-needs_symbol-clause-spends g c).After-read_symbols-read

pub returns-clause-spends : goal.returns-clause-spends
returns-clause-spends g c =
    let laws = g.met.T.Transitions.lawful c.args.table.now false in
    let both = laws.spends_both c.args.cache.now c.start_inside.new.cache c.run_inside.new.cache 1 1 c.in_ok-cell.ensures.spends c.run_inside.ensures.spends in
    laws.spends_within c.args.cache.now c.run_inside.new.cache 2 (c.args.start + length c.args.piece.now - c.args.request.now.from + 2) (omega arith) both
