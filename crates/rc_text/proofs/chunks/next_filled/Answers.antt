use Rattle.std.proofs.Common.{◌≡◌, ◌<◌, ◌≤◌, length, get_or, drop, ap, ◌∙◌, sym, inl, inr, arith}
use Rattle.std.proofs.lemmas.Bool.{cases_lt, eqb-false}
use Rattle.std.proofs.lemmas.List.{drop_all}
use Rattle.rc_text.specs.Joined.{joined}
use Rattle.rc_text.proofs.Joins.{no_chunk, chunk_at-read}
use Rattle.rc_text.proofs.chunks.next_filled.Goals as goal

pub returns : goal.returns
returns c =
    let xs = c.args.chunks.now in
    let i = c.loop-index.index in
    let none : length xs ≤ i → length (joined (drop c.args.from xs)) ≡ 0 = λ h. ap length (sym c.loop-index.invariant.after ∙ ap joined (drop_all i xs h)) in
    let within : i < length xs = elim (cases_lt i (length xs)) [ inl h ↦ h | inr h ↦ absurd (omega (arith, none h, c.requires)) ] in
    record {
      within = within;
      some = rw (← chunk_at-read xs i within) (omega (arith, eqb-false (length (get_or xs i no_chunk).now) 0 (sym c.loop-index-test.ensures)));
      between = c.loop-index.invariant.before;
    }
