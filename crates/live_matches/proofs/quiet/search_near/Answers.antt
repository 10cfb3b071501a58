use Rattle.std.proofs.Common.{◌+◌, ◌<◌, ◌≤◌, ◌∙◌, [], None, length, refl, sym, ap, subst, arith}
use Rattle.std.proofs.lemmas.List.{append-nil}
use Rattle.api_meta.specs.Views.{regex_kind}
use Rattle.live_matches.specs.Entries.{Gapped, last_end}
use Rattle.live_matches.specs.Lists.{AreEntries, IsEntry, Meets, next_after, place_of}
use Rattle.live_matches.specs.Live.{seeks}
use Rattle.live_matches.specs.Quiet.{BeginsBy}
use Rattle.live_matches.proofs.Listed.{all_append}
use Rattle.live_matches.proofs.Nexts.{ends_inside, left, left_falls, none_on, one_first, one_last, one_on}
use Rattle.live_matches.proofs.Quiets.{begins_on}
use Rattle.live_matches.proofs.Spans.{near_all}
use Rattle.live_matches.proofs.quiet.search_near.Goals as goal

pub near-init : goal.near-init
near-init g c =
    let r = c.args.regex.now in
    let f = c.args.entries.now in
    record {
      cache = c.requires.made;
      over = c.requires.over;
      goes = record { content = refl; end = refl; slice = refl; anchored = refl; earliest = refl };
      on = record { anew = []; gone = []; before = sym (append-nil f.before); after = refl; len = refl };
      inside = ends_inside (regex_kind r) (seeks r) c.args.input.now.content None f.before (omega arith) c.requires.first;
      first = c.requires.first;
      from = c.requires.from;
      rest = c.requires.rest;
    }

pub returns-in_default-clause-on : goal.returns-in_default-clause-on
returns-in_default-clause-on g c =
    let r = c.args.regex.now in
    none_on (regex_kind r) (seeks r) c.args.entries.now c.near.entries c.drop_after.new.self c.drop_after.ensures c.near.invariant.on

pub push-requires : goal.push-requires
push-requires g c =
    let r = c.args.regex.now in
    let content = c.args.input.now.content in
    let e = c.in-Some.entry in
    let i = c.near.invariant in
    let is = subst (λ x. IsEntry (regex_kind r) (seeks r) x c.last_end-last.result e) (c.is_met.ensures.goes.content ∙ i.goes.content) c.in-Some.ensures.next in
    let h = (left_falls (regex_kind r) (seeks r) content c.last_end-last.result e.found is.found).1 in
    omega (arith, h, i.on.len, c.requires.len)

pub near-smaller : goal.near-smaller
near-smaller g c =
    let r = c.args.regex.now in
    let content = c.args.input.now.content in
    let e = c.in-Some.entry in
    let i = c.near.invariant in
    let was = subst (λ x. IsEntry (regex_kind r) (seeks r) x c.last_end-last.result e) (c.is_met.ensures.goes.content ∙ i.goes.content) c.in-Some.ensures.next in
    let is = subst (λ l. IsEntry (regex_kind r) (seeks r) content l e) c.last_end-last.ensures was in
    subst (λ l. left (regex_kind r) (seeks r) (length content) l < left (regex_kind r) (seeks r) (length content) (last_end None c.near.entries.before))
    (sym (one_last (regex_kind r) (seeks r) content c.near.entries c.push.new.self c.skip_past-mark.new.entries e c.in_ok-push.ensures c.skip_past-mark.ensures.gone))
    (left_falls (regex_kind r) (seeks r) content (last_end None c.near.entries.before) e.found is.found).0

pub near-preserved : goal.near-preserved
near-preserved g c =
    let r = c.args.regex.now in
    let content = c.args.input.now.content in
    let e = c.in-Some.entry in
    let i = c.near.invariant in
    let was = c.in-Some.ensures in
    let met = c.is_met.ensures in
    let short = c.requires.short in
    let g = c.near.entries in
    let h = c.skip_past-mark.new.entries in
    let pushed = c.in_ok-push.ensures in
    let gone = c.skip_past-mark.ensures.gone in
    let there = subst (λ x. IsEntry (regex_kind r) (seeks r) x c.last_end-last.result e) (met.goes.content ∙ i.goes.content) was.next in
    let is = subst (λ l. IsEntry (regex_kind r) (seeks r) content l e) c.last_end-last.ensures there in
    let ends = one_last (regex_kind r) (seeks r) content g c.push.new.self h e pushed gone in
    record {
      cache = was.cache;
      over = was.over;
      goes = record {
        content = was.goes.content ∙ met.goes.content ∙ i.goes.content;
        end = was.goes.end ∙ met.goes.end ∙ i.goes.end;
        slice = was.goes.slice ∙ met.goes.slice ∙ i.goes.slice;
        anchored = was.goes.anchored ∙ met.goes.anchored ∙ i.goes.anchored;
        earliest = was.goes.earliest ∙ met.goes.earliest ∙ i.goes.earliest;
      };
      on = one_on (regex_kind r) (seeks r) content g c.push.new.self h e pushed gone c.args.entries.now i.on;
      inside = subst (λ l. place_of l ≤ length content) (sym ends)
          (left_falls (regex_kind r) (seeks r) content (last_end None g.before) e.found is.found).1;
      first = one_first (regex_kind r) (seeks r) content g c.push.new.self h e pushed gone (last_end None g.before) refl is i.first;
      from = record {
        begins = subst (λ l. BeginsBy c.args.from (next_after (regex_kind r) (seeks r) content l)) (sym ends)
            (begins_on (regex_kind r) (seeks r) short.leftmost refl (c.args.longest + 4) (near_all r c.args.longest short) content (last_end None g.before)
            c.args.from e.found i.from.begins is.found);
        room = i.from.room;
      };
      rest = c.skip_past-mark.ensures.meets (regex_kind r) (seeks r) content short.leftmost refl
          (subst (Meets (regex_kind r) (seeks r) content c.near.mark) (sym (ap (λ (x : Gapped). x.after) pushed)) i.rest);
    }

pub returns-clause-all : goal.returns-clause-all
returns-clause-all g c =
    let r = c.args.regex.now in
    let i = c.near.invariant in
    let content = c.args.input.now.content in
    all_append (regex_kind r) (seeks r) content None c.near.entries.before c.near.entries.after i.first
    (subst (λ x. AreEntries (regex_kind r) (seeks r) x (last_end None c.near.entries.before) c.near.entries.after) i.goes.content (c.near-test.ensures.met refl))
