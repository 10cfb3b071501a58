use Rattle.std.proofs.Common.{◌++◌, ◌∷◌, [], ◌∙◌, Some, max, sym, ap, append_assoc}
use Rattle.live_matches.specs.Entries.{Gapped}
use Rattle.live_matches.specs.Lists.{place_of}
use Rattle.live_matches.proofs.Gaps.{end_push}
use Rattle.live_matches.proofs.entries.Entries.skip_over.Goals as goal

-- one more is dropped
pub over-preserved : goal.over-preserved
over-preserved c =
    let i = c.over.invariant in
    let e = c.in-Some.entry in
    let rest = c.take_next_by.new.self.after in (
      i.0 ++ e ∷ [],
      record {
        split = i.1.split ∙ ap (λ es. i.0 ++ es) c.in-Some.ensures.0 ∙ sym (append_assoc i.0 (e ∷ []) rest);
        mark = ap Some c.end.ensures.value ∙ sym (end_push c.args.mark i.0 e);
        before = ap (λ (g : Gapped). g.before) c.in-Some.ensures.1 ∙ i.1.before;
        len = ap (λ (g : Gapped). g.len) c.in-Some.ensures.1 ∙ i.1.len;
      },
    )

pub returns : goal.returns
returns c =
    let i = c.over.invariant in
    let same = c.in_default.ensures.1 in
    record {
      gone = record {
        dropped = i.0;
        split = i.1.split ∙ ap (λ (g : Gapped). i.0 ++ g.after) (sym same);
        before = ap (λ (g : Gapped). g.before) same ∙ i.1.before;
        len = ap (λ (g : Gapped). g.len) same ∙ i.1.len;
      };
      now_is = c.max.ensures ∙ ap (λ p. max p c.args.at) (c.place_of.ensures ∙ ap place_of i.1.mark);
      far = c.in_default.ensures.0;
    }
