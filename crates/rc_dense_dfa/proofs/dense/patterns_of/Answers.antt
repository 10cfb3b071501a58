use Rattle.std.proofs.Common.{◌≡◌, length, arith}
use Rattle.rc_dfa.specs.declared.automaton.Direction.TheVariants.{Forwards}
use Rattle.rc_dfa.specs.Automata.{machine_of}
use Rattle.rc_dense_dfa.proofs.PatternLemmas.{all_patterns}
use Rattle.rc_dense_dfa.proofs.dense.patterns_of.Goals as goal

pub returns : goal.returns
returns c =
    let places = (machine_of c.args.automaton.now Forwards).setting.places in
    let so_far = c.loop-place.invariant.len in
    let all = c.places_len-place-end.ensures Forwards in
    let len : length c.loop-place.patterns.items ≡ length places = omega (arith, so_far, all) in
    all_patterns places c.loop-place.patterns.items len c.loop-place.invariant.first
