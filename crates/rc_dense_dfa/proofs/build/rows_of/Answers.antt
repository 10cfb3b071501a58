use Rattle.std.proofs.Common.{◌≡◌, ◌+◌, ◌<◌, ◌≤◌, length, sym, subst, arith}
use Rattle.std.proofs.lemmas.List.{length_push}
use Rattle.rc_dense_dfa.specs.Rows.{Grows, AreRows, AreEnds}
use Rattle.rc_dense_dfa.specs.declared.names.Names.{Names}
use Rattle.rc_dfa.specs.Automata.{samples_of}
use Rattle.rc_dense_dfa.proofs.FillLemmas.{grows_on, longer}
use Rattle.rc_dense_dfa.proofs.BuildLemmas.{end_more, ends_kept}
use Rattle.rc_dense_dfa.proofs.build.rows_of.Goals as goal

pub loop-number-preserved : goal.loop-number-preserved
loop-number-preserved g c =
    let i = c.loop-number.invariant in
    let row = c.in_ok-row.ensures in
    let end = c.in_ok-end.ensures in
    let before = c.args.maker.now.names in
    let old = c.loop-number.maker.names in
    let new = c.row.new.self.names in
    let last = c.end_of.new.maker.names in
    let same : new ≡ last = sym end.names in
    let ends = c.loop-number.ends.items in
    let inside : c.loop-number.number < length old.states = omega (arith, c.loop-number-test.true, c.len.ensures) in
    let more = longer old.states new.states row.grows.kept in
    let within : c.loop-number.number + 1 ≤ length new.states = omega (arith, inside, more) in
    let len = i.len in
    let few : length ends ≤ length old.states = omega (arith, len, inside) in
    let grown = length_push ends c.in_ok-end.end in
    record {
      maker = end.maker;
      grows = subst (Grows before) same (grows_on before old new i.grows row.grows);
      within = subst (λ (n : Names). c.loop-number.number + 1 ≤ length n.states) same within;
      rows = subst (λ (n : Names). AreRows g.m (samples_of c.args.automaton.now) n.states (c.loop-number.number + 1) 0 c.row.new.cells.items) same row.rows;
      ends = subst (λ (n : Names). AreEnds g.m n.states c.push.new.self.items) same
          (rw c.in_ok-push.ensures.items (end_more g.m new.states ends c.loop-number.number c.in_ok-end.end len
          (ends_kept g.m old.states new.states ends row.grows.kept few i.ends) end.end));
      len = rw c.in_ok-push.ensures.items (omega (arith, grown, len));
    }
