use Rattle.std.proofs.Common.{◌≡◌, ◌-◌, ◌<◌, ◌≤◌, IfSome, false, length}
use Rattle.chunk_replace.specs.Template.{template_items}
use Rattle.rcsub.specs.Streamed.{IsReady}
use Rattle.rcsub.proofs.Coming.{Coming}
use Rattle.rcsub.proofs.replacer.Replacer.rewrite_stream.Given as goal

-- what was read was put, as far as it is settled
abbrev pub invariant-loop-page : goal.invariant-loop-page
invariant-loop-page g l = record {
  ready : IsReady l.streamed;
  close : l.streamed.stream.from - 4 ≤ l.streamed.written;
  regex : l.streamed.stream.regex ≡ l.self.over_bytes;
  coming : IfSome (g.R.Read.remaining l.initial.input) (λ text.
      Coming (template_items l.self.template) l.streamed text (g.R.Read.remaining l.input) (g.W.Sink.taken l.initial.out) (g.W.Sink.taken l.out));
  room : 0 < length l.page.items;
  sound : g.W.Sink.has_failed l.out ≡ false;
}
