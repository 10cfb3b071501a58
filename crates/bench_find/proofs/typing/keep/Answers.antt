use Rattle.std.proofs.Common.{subst, sym}
use Rattle.live_matches.specs.Live.{IsEdited}
use Rattle.bench_find.proofs.typing.keep.Goals as goal

-- the list was that of the text before the change
pub edit_within-requires-clause-was : goal.edit_within-requires-clause-was
edit_within-requires-clause-was c = record {
  old = c.args.text.now.content;
  live = c.requires.live;
  edited = subst (IsEdited c.in_ok-edit.edit c.args.text.now.content) (sym c.whole_of-input.ensures.content) c.in_ok-edit.ensures;
}
