-- Patterns have no more groups than weight.
use Rattle.std.proofs.Common.{ℕ, zero, suc, ◌+◌, ◌*◌, ◌≤◌, max, List, [], ◌∷◌, length, Option, Some, None, arith, length-append}
use Rattle.rc_pattern.specs.Re.{Re, empty, literal, byte_in, char_in, look, repeat, capture, cat, alt, none}
use Rattle.rc_pattern.specs.WellFormed.{group_count, group_numbers}
use Rattle.rc_pattern.specs.Weight.{copies_of, weight, sum_of_weights}
use Rattle.rc_program.specs.Laws.{all_groups}

times : (n w : ℕ) → 1 ≤ n → w ≤ n * w
times zero w l = absurd (omega arith)
times (suc n) w l = grind arith

some_copies : (min : ℕ) (max : Option ℕ) → 1 ≤ copies_of min max
some_copies min None = omega arith
some_copies min (Some most) = omega arith

pub group_light : (h : Re) → group_count h ≤ weight h
group_light empty = omega arith
group_light (literal bs) = omega arith
group_light (byte_in rs) = omega arith
group_light (char_in rs) = omega arith
group_light (look l) = omega arith
group_light (repeat min max greedy a) =
    let h = group_light a in let t = times (copies_of min max) (weight a + 2) (some_copies min max) in omega (arith, h, t)
group_light (capture n name a) = let h = group_light a in omega (arith, h)
group_light (cat a rest) =
    let h = group_light a in let r = group_light rest in omega (arith, h, r, length-append (group_numbers a) (group_numbers rest))
group_light (alt a rest) =
    let h = group_light a in let r = group_light rest in omega (arith, h, r, length-append (group_numbers a) (group_numbers rest))
group_light none = omega arith

-- with one more for each pattern
pub groups_light : (hs : List Re) → length hs + all_groups hs ≤ sum_of_weights hs
groups_light [] = omega arith
groups_light (h ∷ hs) = let l = group_light h in let r = groups_light hs in omega (arith, l, r)
