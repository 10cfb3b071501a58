use Rattle.std.proofs.Common.{◌∙◌, ap, arith}
use Rattle.api_meta.specs.Views.{regex_kind}
use Rattle.chunk_replace.specs.Template.{template_items}
use Rattle.stream_search.specs.Searching.{Streaming}
use Rattle.rcsub.proofs.Standing.{end_ready, last_done}
use Rattle.rcsub.proofs.streamed.Streamed.put_last.Goals as goal

pub put_matches-requires-clause-ready : goal.put_matches-requires-clause-ready
put_matches-requires-clause-ready g c = end_ready c.args.self.now c.finish.new.self c.requires.ready c.finish.ensures.finished

pub put_matches-requires-clause-first : goal.put_matches-requires-clause-first
put_matches-requires-clause-first g c = ap (λ (x : Streaming). regex_kind x.regex) c.finish.ensures.finished ∙ c.requires.first

pub returns-clause-done : goal.returns-clause-done
returns-clause-done g c =
    let same = c.in_ok-put_matches.ensures.same in
    last_done (template_items c.args.template.now) c.args.self.now c.put_matches.new.self c.finish.new.self c.stream_len.result
    (g.W.Sink.taken c.args.out.now) (g.W.Sink.taken c.put_matches.new.out) (g.W.Sink.taken c.put_kept.new.out) c.requires.first
    c.finish.ensures.finished same.0 same.1 c.in_ok-put_matches.ensures.ready c.stream_len.ensures.value (omega arith)
    c.in_ok-put_kept.ensures.put c.finish.ensures.fed c.in_ok-put_matches.ensures.stands c.stream_len.ensures.fed
