use Rattle.std.proofs.Common.{◌≡◌, ◌+◌, false, length}
use Rattle.api_meta.specs.Left.{captures_left}
use Rattle.chunk_replace.specs.Template.{template_items}
use Rattle.chunk_replace.proofs.Rewriting.{Going}
use Rattle.chunk_replace.proofs.rewrite.put_replaced.Given as goal

-- the text was put with the matches so far replaced
abbrev pub invariant-loop-item : goal.invariant-loop-item
invariant-loop-item g l = record {
  content : g.T.Cursor.content l.text ≡ g.T.Cursor.content l.initial.text;
  going : Going (g.T.Cursor.content l.initial.text) (template_items l.template) l.initial.matches l.matches l.from (g.W.Sink.taken l.initial.out) (g.W.Sink.taken l.out);
  count : l.count + length (captures_left l.matches) ≡ length (captures_left l.initial.matches);
  sound : g.W.Sink.has_failed l.out ≡ false;
}

abbrev pub decreases-loop-item : goal.decreases-loop-item
decreases-loop-item g l = length (captures_left l.matches)
