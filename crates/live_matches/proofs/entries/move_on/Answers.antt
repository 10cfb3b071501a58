use Rattle.std.proofs.Common.{◌≡◌, ◌∙◌, ◌++◌, ◌∷◌, [], length, sym, ap, subst, arith}
use Rattle.live_matches.specs.Entries.{AreBelow, Rise, TwoSides, counted_back, entries_of, mirror, reach_of}
use Rattle.live_matches.specs.Entry.{Entry}
use Rattle.live_matches.proofs.Gaps.{below, first_is, most_push, moved_on, rise_push}
use Rattle.live_matches.proofs.entries.move_on.Goals as goal

-- one more is before the gap
pub on-preserved : goal.on-preserved
on-preserved c =
    let len = c.args.len in
    let e = c.in-Some.entry in
    let k = c.kept_after-kept.result in
    let ks = c.on.sides.before in
    let first = first_is c.on.sides.after e c.in-Some.ensures in
    let now = c.move_on.ensures e first.0 first.1 in
    let made = c.kept_after-kept.ensures in
    let same : k.entry ≡ mirror len e = made.entry ∙ c.mirrored.ensures.entry in
    let ends = ap (λ (e : Entry). e.found.end) same in
    let reach = ap reach_of made.entry in
    let rise : Rise len 0 (ks ++ k ∷ []) = rise_push len 0 ks k c.on.invariant.rise (omega (arith, ends)) (omega (arith, made.most, c.most_of.ensures))
    (omega (arith, reach, made.reach)) in
    let most = most_push 0 ks k in
    record {
      rise = subst (λ (s : TwoSides). Rise len 0 s.before) (sym now) rise;
      below = subst (λ (s : TwoSides). AreBelow c.args.at (entries_of s.before)) (sym now)
          (below len 0 c.args.at (ks ++ k ∷ []) rise (omega (arith, most, c.if-kept-at.false)) c.requires.at);
      all = ap (λ (s : TwoSides). entries_of s.before ++ counted_back len s.after) now ∙ moved_on len ks k first.0 e same
          ∙ sym (ap (λ es. entries_of ks ++ counted_back len es) first.1) ∙ c.on.invariant.all;
    }

pub on-smaller : goal.on-smaller
on-smaller c =
    let e = c.in-Some.entry in
    let first = first_is c.on.sides.after e c.in-Some.ensures in
    let now = ap (λ (s : TwoSides). length s.after) (c.move_on.ensures e first.0 first.1) in
    let was = ap length first.1 in omega (arith, now, was)
