use Rattle.std.proofs.Common.{◌∙◌, ◌<◌, ◌+◌, None, length, refl, arith}
use Rattle.rc_dfa.specs.Automata.{samples_of}
use Rattle.rc_dense_dfa.proofs.ModeLemmas.{start_of, start_more, mode_done}
use Rattle.rc_dense_dfa.specs.Tables.{mode_of}
use Rattle.rc_dense_dfa.proofs.maker.Maker.start_at_end.Goals as goal

pub returns-clause-starts : goal.returns-clause-starts
returns-clause-starts g c =
    let old = c.args.self.now.names in
    let new = c.start.new.self.names in
    let samples = samples_of c.args.automaton.now in
    let e = c.in_ok-cell.ensures in
    let wide : length samples < length samples + 1 = omega arith in
    mode_done g.m samples new.states (mode_of c.args.anchored.now) _
    (rw c.in_ok-push.ensures.items (start_more g.m samples old.states new.states (mode_of c.args.anchored.now) (length samples) c.in_ok-cell.cell c.args.starts.now.items
    e.grows.kept wide c.requires.1.1.1.1
    (start_of g.m samples new.states new.width (length samples) c.in_ok-cell.cell c.args.anchored.now None (e.grows.width ∙ c.requires.1.1.1.0) refl e.cell)))
