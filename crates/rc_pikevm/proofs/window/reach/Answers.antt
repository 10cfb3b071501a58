use Rattle.std.proofs.Common.{◌+◌, arith, inl, inr, ⊎_elim}
use Rattle.std.proofs.lemmas.Bool.{cases_lt}
use Rattle.rc_text.specs.Text.{slice_end}
use Rattle.rc_pikevm.proofs.window.reach.Goals as goal

pub returns-then-at-window-gt60-clause-around : goal.returns-then-at-window-gt60-clause-around
returns-then-at-window-gt60-clause-around g c =
    let e = c.open.ensures.window.end in
    record {
      above = omega (arith, e, c.requires.inside.1, c.open.ensures.near);
      four = ⊎_elim (λ l. inr (omega (arith, e, c.open.ensures.near, l))) (λ ge. inl (omega (arith, e, ge)))
          (cases_lt (c.open.result.start + 64) (slice_end c.args.input.now));
    }
