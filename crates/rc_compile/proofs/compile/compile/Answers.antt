use Rattle.std.proofs.Common.{◌≡◌, ◌≤◌, ◌+◌, ◌*◌, ap, arith, map, vec_len}
use Rattle.rc_pattern.specs.Meaning.{meaning}
use Rattle.rc_pattern.specs.WellFormed.{group_count}
use Rattle.rc_compile.specs.Shown.{shown_one}
use Rattle.rc_compile.proofs.CompileLemmas.{takes, pattern_fits, groups_fit, emits_pattern, emits_program}
use Rattle.rc_compile.proofs.compile.compile.Goals as goal

pub emit_pattern-requires-clause-fits : goal.emit_pattern-requires-clause-fits
emit_pattern-requires-clause-fits c =
    let all = takes c.args.groups (map meaning c.args.hirs.now) c.requires.well_formed c.requires.light in
    let h = pattern_fits c.args.groups c.args.hirs.now c.loop-i.i c.index-hirs-i.result c.loop-i.i c.loop-i.slots (vec_len c.loop-i.places) _
    c.loop-i-test.true c.index-hirs-i.is c.loop-i.invariant.emitted.long in
    omega (arith, h, all.0, c.new-places.ensures.len)

pub emit_pattern-requires-clause-slots_fit : goal.emit_pattern-requires-clause-slots_fit
emit_pattern-requires-clause-slots_fit c =
    let all = takes c.args.groups (map meaning c.args.hirs.now) c.requires.well_formed c.requires.light in
    omega (arith, all.1, c.loop-i.invariant.counted)

pub overflow_mul-slots-in-loop-i : goal.overflow_mul-slots-in-loop-i
overflow_mul-slots-in-loop-i c =
    let all = takes c.args.groups (map meaning c.args.hirs.now) c.requires.well_formed c.requires.light in
    let h = groups_fit c.args.groups c.args.hirs.now c.loop-i.i c.index-hirs-i.result c.loop-i-test.true c.index-hirs-i.is in
    let n : c.shown_groups.result ≤ group_count (shown_one c.args.groups (meaning c.index-hirs-i.result)) = omega (arith, c.shown_groups.ensures) in
    omega (arith, h, n, all.1, c.loop-i.invariant.counted)

pub overflow_add-slots : goal.overflow_add-slots
overflow_add-slots c =
    let all = takes c.args.groups (map meaning c.args.hirs.now) c.requires.well_formed c.requires.light in
    let h = groups_fit c.args.groups c.args.hirs.now c.loop-i.i c.index-hirs-i.result c.loop-i-test.true c.index-hirs-i.is in
    let n : c.shown_groups.result ≤ group_count (shown_one c.args.groups (meaning c.index-hirs-i.result)) = omega (arith, c.shown_groups.ensures) in
    omega (arith, h, n, all.1, c.loop-i.invariant.counted)

pub loop-i-preserved : goal.loop-i-preserved
loop-i-preserved c =
    let all = takes c.args.groups (map meaning c.args.hirs.now) c.requires.well_formed c.requires.light in
    let h = groups_fit c.args.groups c.args.hirs.now c.loop-i.i c.index-hirs-i.result c.loop-i-test.true c.index-hirs-i.is in
    let e : c.shown_groups.result ≡ group_count (shown_one c.args.groups (meaning c.index-hirs-i.result)) =
    omega (arith, h, all.1, c.loop-i.invariant.counted, c.shown_groups.ensures) in
    record {
      emitted = emits_pattern c.args.groups c.args.hirs.now c.loop-i.i c.index-hirs-i.result c.loop-i.slots (c.loop-i.slots + 2 * c.shown_groups.result)
          c.new-places.result _ c.loop-i.places c.emit_pattern.new.places c.loop-i-test.true c.index-hirs-i.is (ap (λ k. c.loop-i.slots + 2 * k) e)
          c.loop-i.invariant.emitted c.in_ok-emit_pattern.ensures.long c.in_ok-emit_pattern.ensures.more;
      counted = omega (arith, h, e, c.loop-i.invariant.counted);
    }

pub returns : goal.returns
returns c =
    emits_program c.args.groups c.args.hirs.now c.loop-i.i c.loop-i.slots c.new-places.result c.loop-i.places _
    c.requires.well_formed c.requires.light (omega (arith, c.loop-i-test.false)) c.new-places.ensures.items c.new-places.ensures.len
    c.loop-i.invariant.emitted c.in_ok-append.ensures.more
