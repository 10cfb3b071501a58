use Rattle.std.proofs.Common.{◌∙◌, ◌++◌, ◌∷◌, sym, ap, subst, arith}
use Rattle.live_matches.specs.Entries.{Rise, TwoSides, counted_back, entries_of, most_of}
use Rattle.live_matches.proofs.Gaps.{below, most_push, moved_back, rise_pop}
use Rattle.live_matches.proofs.entries.move_back.Goals as goal

-- the last of them tells of all
pub returns-then-kept-at-clause-below : goal.returns-then-kept-at-clause-below
returns-then-kept-at-clause-below c =
    let last = c.in-Some.ensures in
    let most = ap (most_of 0) last.1 ∙ most_push 0 last.0 c.in-Some.kept in
    below c.args.len 0 c.args.at c.back.sides.before c.back.invariant.rise (omega (arith, most, c.if-kept-at.true)) c.requires.at

-- one more is after the gap
pub back-preserved : goal.back-preserved
back-preserved c =
    let len = c.args.len in
    let k = c.in-Some.kept in
    let last = c.in-Some.ensures in
    let after = c.back.sides.after in
    let now = c.move_back.ensures last.0 k last.1 in
    let r = rise_pop len 0 last.0 k (subst (Rise len 0) last.1 c.back.invariant.rise) in
    record {
      rise = subst (λ (s : TwoSides). Rise len 0 s.before) (sym now) r.0;
      all = ap (λ (s : TwoSides). entries_of s.before ++ counted_back len s.after) now
          ∙ ap (λ e. entries_of last.0 ++ counted_back len (e ∷ after)) c.mirrored.ensures.entry
          ∙ moved_back len last.0 k after c.mirrored.ensures.ordered r.1
          ∙ sym (ap (λ ks. entries_of ks ++ counted_back len after) last.1) ∙ c.back.invariant.all;
    }
