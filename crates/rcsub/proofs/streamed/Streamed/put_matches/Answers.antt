use Rattle.std.proofs.Common.{◌≡◌, ◌∙◌, ◌∷◌, ◌++◌, [], ap, arith, length, refl, subst}
use Rattle.chunk_replace.specs.Template.{template_items}
use Rattle.api_meta.specs.Views.{regex_kind}
use Rattle.stream_search.specs.Searches.{matches_of}
use Rattle.stream_search.specs.Searching.{Streaming}
use Rattle.rc_build.proofs.Matched.{keeps_is_for}
use Rattle.rcsub.proofs.Standing.{captures_kept, match_ready, match_stands, none_ready, none_stands}
use Rattle.rcsub.proofs.streamed.Streamed.put_matches.Goals as goal

pub loop-found-init : goal.loop-found-init
loop-found-init g c = record {
  ready = c.requires.ready;
  regex = refl;
  finished = refl;
  stands = λ fed told old st. (told, st);
  sound = c.requires.sound;
}

pub next_captures_with-requires-clause-for_regex : goal.next_captures_with-requires-clause-for_regex
next_captures_with-requires-clause-for_regex g c = keeps_is_for _ _ c.loop-found.invariant.ready.captures

pub put_match-requires-clause-kept : goal.put_match-requires-clause-kept
put_match-requires-clause-kept g c =
    let gone = ap (λ (x : Streaming). x.gone) c.next_captures_with.ensures.stays in omega (arith, gone, c.loop-found.invariant.ready.kept)

pub put_match-requires-clause-order : goal.put_match-requires-clause-order
put_match-requires-clause-order g c = omega (arith, c.loop-found.invariant.ready.ahead, c.in-Some.ensures.lies.0)

pub put_match-requires-clause-inside : goal.put_match-requires-clause-inside
put_match-requires-clause-inside g c =
    let gone = ap (λ (x : Streaming). x.gone) c.next_captures_with.ensures.stays in
    let long = ap (λ (x : Streaming). length x.kept) c.next_captures_with.ensures.stays in
    omega (arith, gone, long, c.in-Some.ensures.lies.1, c.in-Some.ensures.lies.2)

pub loop-found-preserved : goal.loop-found-preserved
loop-found-preserved g c =
    let s = c.loop-found.self in
    let inv = c.loop-found.invariant in
    let call = c.next_captures_with.ensures in
    let some = c.in-Some.ensures in
    let m = c.in-Some.found in
    let caps = c.next_captures_with.new.caps in
    let items = template_items c.args.template.now in
    let keeps = captures_kept _ _ caps inv.ready.captures call.still_made call.long in
    let first = ap regex_kind inv.regex ∙ c.requires.first in
    record {
      ready =
          match_ready items s _ c.next_captures_with.new.self call.stays inv.ready call.onward refl call.cache keeps m caps
          (g.W.Sink.taken c.loop-found.out) (g.W.Sink.taken c.put_match.new.out) first some.goes_on some.lies refl c.end-self.ensures.value refl;
      regex = ap (λ (x : Streaming). x.regex) call.stays ∙ inv.regex;
      finished = ap (λ (x : Streaming). x.is_finished) call.stays ∙ inv.finished;
      stands = λ fed told old st.
          let (more, x) = inv.stands fed told old st in (
            more ++ m ∷ [],
            match_stands items s _ c.next_captures_with.new.self call.stays inv.ready call.onward refl call.cache keeps m caps
                (g.W.Sink.taken c.loop-found.out) (g.W.Sink.taken c.put_match.new.out) first some.goes_on some.lies refl c.end-self.ensures.value refl
                some.told some.groups some.here c.in_ok-put_match.ensures.put fed more old x,
          );
      sound = c.in_ok-put_match.ensures.sound;
    }

pub returns-clause-ready : goal.returns-clause-ready
returns-clause-ready g c =
    let s = c.loop-found.self in
    let inv = c.loop-found.invariant in
    let call = c.next_captures_with.ensures in
    none_ready (template_items c.args.template.now) s _ c.next_captures_with.new.self call.stays inv.ready call.onward refl call.cache
    (captures_kept _ _ c.next_captures_with.new.caps inv.ready.captures call.still_made call.long) refl refl

pub returns-clause-same : goal.returns-clause-same
returns-clause-same g c =
    let inv = c.loop-found.invariant in
    let stays = c.next_captures_with.ensures.stays in
    (ap (λ (x : Streaming). x.regex) stays ∙ inv.regex, ap (λ (x : Streaming). x.is_finished) stays ∙ inv.finished)

pub returns-clause-stands : goal.returns-clause-stands
returns-clause-stands g c =
    let s = c.loop-found.self in
    let inv = c.loop-found.invariant in
    let call = c.next_captures_with.ensures in
    λ fed told old st.
    let (more, x) = inv.stands fed told old st in (
      more,
      none_stands (template_items c.args.template.now) s _ c.next_captures_with.new.self call.stays inv.ready call.onward refl call.cache
          (captures_kept _ _ c.next_captures_with.new.caps inv.ready.captures call.still_made call.long) refl refl
          (g.W.Sink.taken c.loop-found.out) c.in_default.ensures.told fed more old x,
      λ fin. subst (λ r. more ≡ matches_of r fed) inv.regex (c.in_default.ensures.all fed more x.was (inv.finished ∙ fin) refl),
    )
