use Rattle.std.proofs.Common.{◌++◌, ◌∷◌, [], ◌∙◌, Some, sym, ap, append_assoc}
use Rattle.live_matches.specs.Entries.{Gapped}
use Rattle.live_matches.proofs.Gaps.{end_push}
use Rattle.live_matches.proofs.entries.Entries.skip_to.Goals as goal

-- one more is dropped
pub skip-preserved : goal.skip-preserved
skip-preserved c =
    let i = c.skip.invariant in
    let e = c.in-Some.entry in
    let rest = c.take_next.new.self.after in (
      i.0 ++ e ∷ [],
      record {
        split = i.1.split ∙ ap (λ es. i.0 ++ es) c.in-Some.ensures.0 ∙ sym (append_assoc i.0 (e ∷ []) rest);
        mark = ap Some c.end.ensures.value ∙ sym (end_push c.args.mark i.0 e);
        before = ap (λ (g : Gapped). g.before) c.in-Some.ensures.1 ∙ i.1.before;
        len = ap (λ (g : Gapped). g.len) c.in-Some.ensures.1 ∙ i.1.len;
      },
    )
