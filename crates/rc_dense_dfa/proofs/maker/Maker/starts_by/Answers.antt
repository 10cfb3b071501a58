use Rattle.std.proofs.Common.{◌∙◌, ◌<◌, ◌+◌, Some, length, ap, sym, arith, slice_index}
use Rattle.std.proofs.lemmas.Option.{slice_get-get_or}
use Rattle.std.proofs.lemmas.Result.{err_from_is_err_and}
use Rattle.rc_dfa.specs.Automata.{samples_of}
use Rattle.rc_dense_dfa.specs.Rows.{IsBeside}
use Rattle.rc_dense_dfa.proofs.FillLemmas.{refused_by, grows_on}
use Rattle.rc_dense_dfa.proofs.ModeLemmas.{start_of, start_more}
use Rattle.rc_dense_dfa.proofs.maker.Maker.starts_by.Goals as goal

pub returns-in_err-cell-clause-refused : goal.returns-in_err-cell-clause-refused
returns-in_err-cell-clause-refused g c =
    let p = err_from_is_err_and c.from_residual.result c.from_residual.ensures.1 in
    rw (p.1, p.2) (refused_by g.m c.args.self.now.names c.loop-byte.self.names _ c.loop-byte.invariant.grows c.in_err-cell.ensures.refused)

pub loop-byte-preserved : goal.loop-byte-preserved
loop-byte-preserved g c =
    let i = c.loop-byte.invariant in
    let old = c.loop-byte.self.names in
    let new = c.start.new.self.names in
    let samples = samples_of c.args.automaton.now in
    let e = c.in_ok-cell.ensures in
    let size = ap length c.samples-byte-items.ensures in
    let below : c.loop-byte.byte-index < length samples = omega (arith, size) in
    let wide : c.loop-byte.byte-index < length samples + 1 = omega (arith, size) in
    let at : IsBeside samples c.loop-byte.byte-index (Some (slice_index c.samples-byte-items.result.now c.loop-byte.byte-index)) =
    slice_get-get_or samples c.loop-byte.byte-index 0 below ∙ ap (λ xs. Some (slice_index xs c.loop-byte.byte-index)) (sym c.samples-byte-items.ensures) in
    record {
      maker = e.maker;
      grows = grows_on c.args.self.now.names old new i.grows e.grows;
      starts = rw c.in_ok-push.ensures.items (start_more g.m samples old.states new.states _ c.loop-byte.byte-index c.in_ok-cell.cell c.loop-byte.starts.items
          e.grows.kept wide i.starts
          (start_of g.m samples new.states new.width c.loop-byte.byte-index c.in_ok-cell.cell c.args.anchored.now (Some (slice_index c.samples-byte-items.result.now c.loop-byte.byte-index))
          (e.grows.width ∙ i.grows.width ∙ c.requires.1.1.1.0) at e.cell));
    }
