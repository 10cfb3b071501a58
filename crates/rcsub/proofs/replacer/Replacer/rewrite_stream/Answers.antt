use Rattle.std.proofs.Common.{◌∙◌, ◌<◌, ℕ, List, ap, arith, length, subst, sym, take}
use Rattle.std.specs.Io.KnownBytes.{Consumes}
use Rattle.chunk_replace.specs.Template.{template_items}
use Rattle.rcsub.proofs.Coming.{coming_more, coming_none, stream_done}
use Rattle.rcsub.proofs.Pages.{page_is}
use Rattle.rcsub.proofs.replacer.Replacer.rewrite_stream.Goals as goal

pub loop-page-init : goal.loop-page-init
loop-page-init g c = record {
  ready = c.in_ok-streamed.ensures.ready;
  close = c.in_ok-streamed.ensures.close;
  regex = c.in_ok-streamed.ensures.regex;
  coming =
      coming_none (template_items c.args.self.now.template) c.in_ok-streamed.streamed (g.R.Read.remaining c.args.input.now) (g.W.Sink.taken c.args.out.now)
      (c.in_ok-streamed.ensures.stands (template_items c.args.self.now.template) (g.W.Sink.taken c.args.out.now));
  room = (let len = c.in_ok-page.ensures.len in let full = c.in_ok-page.page.ok.0 in omega (arith, len, full));
  sound = c.requires.sound;
}

pub loop-page-preserved : goal.loop-page-preserved
loop-page-preserved g c =
    let inv = c.loop-page.invariant in
    let fed = c.in_ok-feed.ensures in
    let put = c.in_ok-put_due.ensures in
    let page = c.read_page.new.page in
    let was = c.loop-page.page.items in
    let is = page_is c.loop-page.page.len page was (c.in_ok-count.ensures.long ∙ ap (λ (l : List ℕ). length l) c.deref_mut.ensures.value) c.loop-page.page.ok.0 in
    let room = inv.room in
    let long = c.in_ok-count.ensures.long ∙ ap (λ (l : List ℕ). length l) c.deref_mut.ensures.value in
    record {
      ready = put.ready;
      close = put.close;
      regex = put.same ∙ fed.same ∙ inv.regex;
      coming =
          coming_more (template_items c.args.self.now.template) c.loop-page.streamed c.feed.new.self c.put_due.new.self (take c.in_ok-count.count c.deref.result.now)
          (g.R.Read.remaining c.args.input.now) (g.R.Read.remaining c.loop-page.input) (g.R.Read.remaining c.read_page.new.input)
          (g.W.Sink.taken c.args.out.now) (g.W.Sink.taken c.loop-page.out) (g.W.Sink.taken c.put_due.new.out) inv.coming
          (subst (Consumes (g.R.Read.remaining c.loop-page.input) (g.R.Read.remaining c.read_page.new.input))
          (ap (take c.in_ok-count.count) (sym (c.deref.ensures.value ∙ is))) c.in_ok-count.ensures.read.0)
          (λ f told a b st. fed.stands (template_items c.args.self.now.template) f told a b st) (λ f told a st. put.stands f told a st);
      room = subst (λ (l : List ℕ). 0 < length l) (sym is) (omega (arith, room, long));
      sound = put.sound;
    }

pub returns-then-count-eq0-clause-put : goal.returns-then-count-eq0-clause-put
returns-then-count-eq0-clause-put g c =
    let inv = c.loop-page.invariant in
    stream_done c.put_last.result c.args.self.now c.loop-page.streamed (g.R.Read.remaining c.args.input.now) (g.R.Read.remaining c.loop-page.input)
    (g.R.Read.remaining c.read_page.new.input) (g.W.Sink.taken c.args.out.now) (g.W.Sink.taken c.loop-page.out) (g.W.Sink.taken c.put_last.new.out)
    (c.args.self.now.alike c.requires.filled) inv.regex inv.coming
    (subst (λ n. Consumes (g.R.Read.remaining c.loop-page.input) (g.R.Read.remaining c.read_page.new.input) (take n c.read_page.new.page)) c.if-count-eq0.true
    c.in_ok-count.ensures.read.0) (c.in_ok-count.ensures.read.1 c.if-count-eq0.true) c.put_last.ensures.done
