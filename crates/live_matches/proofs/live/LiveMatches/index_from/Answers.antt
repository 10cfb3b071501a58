use Rattle.std.proofs.Common.{◌≡◌, ◌+◌, ◌-◌, ◌/◌, ◌<◌, ◌∙◌, true, false, sym, ap, arith}
use Rattle.live_matches.specs.Live.{listed}
use Rattle.live_matches.specs.Reading.{begins_before}
use Rattle.live_matches.proofs.Cuts.{lower_left, upper_left}
use Rattle.live_matches.proofs.live.LiveMatches.index_from.Goals as goal

pub halves-preserved-then-begins_before : goal.halves-preserved-then-begins_before
halves-preserved-then-begins_before c =
    let ms = listed c.args.self.now in
    let low = c.halves.low in
    let high = c.halves.high in
    let i = c.halves.invariant in
    let k = low + (high - low) / 2 in
    let under : k < high = omega (arith, c.halves-test.true) in
    let begun : begins_before c.args.place _ ≡ true = sym (c.begins_before.ensures ∙ ap (begins_before c.args.place) c.get.ensures) ∙ c.if-begins_before.true in
    record {
      order = omega (arith, under);
      inside = i.inside;
      left = λ hi o. lower_left hi c.args.place ms low high k o (omega (arith, under, i.inside)) begun (i.left hi o);
    }

pub halves-preserved : goal.halves-preserved
halves-preserved c =
    let ms = listed c.args.self.now in
    let low = c.halves.low in
    let high = c.halves.high in
    let i = c.halves.invariant in
    let k = low + (high - low) / 2 in
    let under : k < high = omega (arith, c.halves-test.true) in
    let late : begins_before c.args.place _ ≡ false = sym (c.begins_before.ensures ∙ ap (begins_before c.args.place) c.get.ensures) ∙ c.if-begins_before.false in
    record {
      order = omega arith;
      inside = omega (arith, under, i.inside);
      left = λ hi o. upper_left hi c.args.place ms low high k o (omega (arith, under, i.inside)) late (i.left hi o);
    }

pub returns : goal.returns
returns c hi o =
    let i = c.halves.invariant in
    let left = i.left hi o in
    let same = c.halves-test.false in
    record {
      inside = omega (arith, i.order, i.inside);
      before = left.before;
      after = λ j m e h. left.after j m e (omega (arith, i.order, same, h));
    }
