use Rattle.std.proofs.Common.{◌∙◌, ◌++◌, ◌∷◌, [], sym, ap, subst, append_assoc, arith}
use Rattle.live_matches.specs.Entries.{Rise, TwoSides, entries_of}
use Rattle.live_matches.specs.Stretches.{last_start}
use Rattle.live_matches.proofs.Gaps.{entries_push, rise_pop}
use Rattle.live_matches.proofs.Stretched.{start_push}
use Rattle.live_matches.proofs.entries.drop_back.Goals as goal

pub returns-then-start-at-clause-far : goal.returns-then-start-at-clause-far
returns-then-start-at-clause-far c =
    let k = c.in-Some.kept in
    let last = c.in-Some.ensures in
    let start = ap (λ xs. last_start 0 (entries_of xs)) last.1 ∙ ap (last_start 0) (entries_push last.0 k) ∙ start_push 0 (entries_of last.0) k.entry in
    omega (arith, start, c.if-start-at.true, c.start.ensures.value)

-- one more went
pub back-preserved : goal.back-preserved
back-preserved c =
    let k = c.in-Some.kept in
    let last = c.in-Some.ensures in
    let i = c.back.invariant in
    let now = c.drop_last.ensures last.0 k last.1 in
    record {
      rise = λ len h. subst (λ (s : TwoSides). Rise len 0 s.before) (sym now)
          (rise_pop len 0 last.0 k (subst (Rise len 0) last.1 (i.rise len h))).0;
      dropped = (
        k ∷ i.dropped.0,
        i.dropped.1 ∙ ap (λ xs. xs ++ i.dropped.0) last.1 ∙ append_assoc last.0 (k ∷ []) i.dropped.0
            ∙ sym (ap (λ (s : TwoSides). s.before ++ (k ∷ i.dropped.0)) now),
      );
      after = ap (λ (s : TwoSides). s.after) now ∙ i.after;
    }
