use Rattle.std.proofs.Common.{◌≡◌, ℕ, List, Option, false}
use Rattle.rc_text.specs.Found.{Found}
use Rattle.chunk_replace.specs.Template.{template_items}
use Rattle.stream_search.specs.Searching.{left}
use Rattle.rcsub.specs.Streamed.{IsReady, Stands}
use Rattle.rcsub.proofs.streamed.Streamed.put_matches.Given as goal

-- the matches so far were put
abbrev pub invariant-loop-found : goal.invariant-loop-found
invariant-loop-found g l = record {
  ready : IsReady l.self;
  regex : l.self.stream.regex ≡ l.initial.self.stream.regex;
  finished : l.self.stream.is_finished ≡ l.initial.self.stream.is_finished;
  stands : (fed : List ℕ) (told : List Found) (old : Option (List ℕ)) →
      Stands (template_items l.template) fed told l.initial.self old (g.W.Sink.taken l.initial.out) →
      (more : List Found) × Stands (template_items l.template) fed more l.self old (g.W.Sink.taken l.out);
  sound : g.W.Sink.has_failed l.out ≡ false;
}

abbrev pub decreases-loop-found : goal.decreases-loop-found
decreases-loop-found g l = left l.self.stream
