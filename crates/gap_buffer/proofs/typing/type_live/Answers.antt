use Rattle.std.proofs.Common.{◌≡◌, ◌⊎◌, inr, sym, subst, ◌∙◌}
use Rattle.std.proofs.lemmas.Result.{IfErr-weaker}
use Rattle.live_matches.specs.Live.{IsEdited}
use Rattle.gap_buffer.proofs.typing.type_live.Goals as goal

-- the list was that of the text before
pub edit_within-requires-clause-was : goal.edit_within-requires-clause-was
edit_within-requires-clause-was c = record {
  old = c.args.text.now.content;
  live = c.requires.live;
  edited = subst (IsEdited c.in_ok-edit.edit c.args.text.now.content) (sym (c.whole_input-input.ensures.content ∙ c.cursor.ensures.content)) c.in_ok-edit.ensures.edited;
}

-- the text changed, and the list is stale
pub returns-clause-untyped : goal.returns-clause-untyped
returns-clause-untyped c = IfErr-weaker c.edit_within.result _ _ (λ e stale. inr (c.in_ok-edit.ensures.text, stale)) c.edit_within.ensures.stale
