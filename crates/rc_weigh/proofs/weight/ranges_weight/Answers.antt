use Rattle.std.proofs.Common.{rules, ◌≡◌, ◌≤◌, ◌-◌, Some, arith, length, map, slice_get, sym, ap, ◌∙◌}
use Rattle.std.proofs.lemmas.List.{length-map}
use Rattle.rc_pattern.specs.Meaning.{char_range}
use Rattle.rc_pattern.specs.Re.{Range}
use Rattle.rc_weigh.proofs.AsciiLemmas.{ascii_weight}
use Rattle.rc_weigh.proofs.CodeLemmas.{few, last_is}
use Rattle.rc_weigh.proofs.weight.ranges_weight.Goals as goal

pub returns-then-last-le127 : goal.returns-then-last-le127
returns-then-last-le127 c =
    let ranges = c.args.ranges.now in
    let here : slice_get ranges (length ranges - 1) ≡ Some c.in-Some.last.now = sym c.last.ensures.value ∙ search rules in
    let l = last_is ranges c.in-Some.last.now here in
    let low = c.if-last-le127.true in
    let end = ap (λ (r : Range). r.1) l.2 in
    let e = ascii_weight (map char_range ranges) l.0 (char_range c.in-Some.last.now) c.requires l.1 (omega (arith, low, end)) in
    let k = few ranges c.in-Some.last.now here c.requires in
    let long = length-map ranges char_range in
    omega (arith, e, k, long, low)

pub byte_program-requires : goal.byte_program-requires
byte_program-requires c =
    let ranges = c.args.ranges.now in
    let here : slice_get ranges (length ranges - 1) ≡ Some c.in-Some.last.now = sym c.last.ensures.value ∙ search rules in
    let k = few ranges c.in-Some.last.now here c.requires in
    let same = ap (λ xs. length (map char_range xs)) c.in_ok-from_slice.ensures.items in
    let scalar : c.in-Some.last.now.end ≤ 1114111 = search rules in
    omega (arith, k, same, scalar)
