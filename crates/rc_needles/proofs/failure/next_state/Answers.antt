use Rattle.std.proofs.Common.{◌≡◌, ◌<◌, arith, length, slice_index}
use Rattle.std.proofs.lemmas.Bool.Decides.{nat_tests}
use Rattle.rc_needles.proofs.FailureLemmas.{reached_first, reached_next, goes_on_by, goes_on_by_none}
use Rattle.rc_needles.proofs.failure.next_state.Goals as goal

pub loop-border-init : goal.loop-border-init
loop-border-init c = reached_first c.args.needle.now c.args.state c.args.byte

pub returns-then-failure-eq0 : goal.returns-then-failure-eq0
returns-then-failure-eq0 c =
    let needle = c.args.needle.now in
    let border = c.loop-border.border in
    let failure = slice_index c.args.failures.now border in
    let known : border < length c.args.failures.now = omega (arith, c.loop-border.invariant.within, c.requires.known) in
    let other = c.loop-border-test.true in
    let zero = c.if-failure-eq0.true in
    let none : failure ≡ 0 = grind (arith, nat_tests) in
    goes_on_by_none needle c.args.state c.args.byte border failure c.requires.within c.loop-border.invariant
    (λ (e : slice_index needle border ≡ c.args.byte). grind (arith, nat_tests)) (c.requires.are border known) none

pub loop-border-preserved : goal.loop-border-preserved
loop-border-preserved c =
    let needle = c.args.needle.now in
    let border = c.loop-border.border in
    let failure = slice_index c.args.failures.now border in
    let known : border < length c.args.failures.now = omega (arith, c.loop-border.invariant.within, c.requires.known) in
    let other = c.loop-border-test.true in
    let some = c.if-failure-eq0.false in
    let low : 0 < failure = grind (arith, nat_tests) in
    reached_next needle c.args.state c.args.byte border failure c.loop-border.invariant
    (λ (e : slice_index needle border ≡ c.args.byte). grind (arith, nat_tests)) (c.requires.are border known) low

pub returns : goal.returns
returns c =
    let needle = c.args.needle.now in
    let border = c.loop-border.border in
    let isnt = c.loop-border-test.false in
    let same : slice_index needle border ≡ c.args.byte = grind (arith, nat_tests) in
    goes_on_by needle c.args.state c.args.byte border c.requires.within c.loop-border.invariant same
