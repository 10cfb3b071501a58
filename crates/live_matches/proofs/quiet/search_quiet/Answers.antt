use Rattle.std.proofs.Common.{◌<◌, ◌≤◌, ◌∙◌, [], None, length, refl, sym, ap, subst, arith}
use Rattle.std.proofs.lemmas.List.{append-nil}
use Rattle.api_meta.specs.Views.{regex_kind}
use Rattle.live_matches.specs.declared.stretches.Stretch.{Stretch}
use Rattle.live_matches.specs.Entries.{Gapped, all_of, last_end}
use Rattle.live_matches.specs.Lists.{IsEntry, Meets, place_of}
use Rattle.live_matches.specs.Live.{seeks}
use Rattle.live_matches.specs.Stretches.{AreStretches, IsQuiet}
use Rattle.live_matches.proofs.Listed.{all_append}
use Rattle.live_matches.proofs.Nexts.{ends_inside, left, left_falls, none_on, one_first, one_last, one_on}
use Rattle.live_matches.proofs.Searches.{goes_kept, goes_on, over_kept}
use Rattle.live_matches.proofs.Stretched.{quiet_here}
use Rattle.live_matches.proofs.quiet.search_quiet.Goals as goal

pub stretch_on-requires-clause-inside : goal.stretch_on-requires-clause-inside
stretch_on-requires-clause-inside g c =
    let r = c.args.regex.now in
    let content = c.args.input.now.content in
    let ends = ends_inside (regex_kind r) (seeks r) content None c.args.entries.now.before (omega arith) c.requires.first in
    let at = c.place_of.ensures ∙ ap place_of c.last_end.ensures in
    c.stretch_from-stretch.ensures.inside (regex_kind r) (seeks r) content (omega (arith, ends, at)) c.requires.are

pub stretch_on-requires-clause-quiet : goal.stretch_on-requires-clause-quiet
stretch_on-requires-clause-quiet g c =
    let r = c.args.regex.now in
    let content = c.args.input.now.content in
    let t = c.stretch_from-stretch.result in
    let from = c.stretch_from-stretch.ensures in
    subst (λ j. IsQuiet (regex_kind r) (seeks r) content t.reach j t.end) (sym from.start)
    (from.quiet (regex_kind r) (seeks r) content c.requires.leftmost refl c.requires.are)

pub quiet-init : goal.quiet-init
quiet-init g c =
    let r = c.args.regex.now in
    let content = c.args.input.now.content in
    let f = c.args.entries.now in
    let on = c.in_ok-stretch.ensures in
    record {
      cache = on.cache;
      over = over_kept c.args.input.now c.stretch_on.new.input on.keeps c.requires.over;
      goes = goes_kept c.args.input.now c.stretch_on.new.input on.keeps;
      on = record { anew = []; gone = []; before = sym (append-nil f.before); after = refl; len = refl };
      inside = ends_inside (regex_kind r) (seeks r) content None f.before (omega arith) c.requires.first;
      first = c.requires.first;
      rest = c.requires.rest;
      stretch_inside = on.inside;
      start = on.start ∙ c.stretch_from-stretch.ensures.start ∙ c.place_of.ensures ∙ ap place_of c.last_end.ensures;
      quiet = on.quiet;
      stretches_len = on.len;
      are = on.are;
    }

pub entry_behind-requires-clause-end : goal.entry_behind-requires-clause-end
entry_behind-requires-clause-end g c =
    let i = c.quiet.invariant in
    let same = ap length i.goes.content in
    omega (arith, i.stretch_inside, same)

pub returns-in_default-clause-on : goal.returns-in_default-clause-on
returns-in_default-clause-on g c =
    let r = c.args.regex.now in
    none_on (regex_kind r) (seeks r) c.args.entries.now c.quiet.entries c.drop_after.new.self c.drop_after.ensures c.quiet.invariant.on

pub push-requires : goal.push-requires
push-requires g c =
    let r = c.args.regex.now in
    let content = c.args.input.now.content in
    let e = c.in-Some.entry in
    let i = c.quiet.invariant in
    let is = subst (λ x. IsEntry (regex_kind r) (seeks r) x c.last_end-last.result e) i.goes.content c.in-Some.ensures.next in
    let h = (left_falls (regex_kind r) (seeks r) content c.last_end-last.result e.found is.found).1 in
    omega (arith, h, i.on.len, c.requires.len)

pub stretch_behind-requires-clause-inside : goal.stretch_behind-requires-clause-inside
stretch_behind-requires-clause-inside g c =
    let r = c.args.regex.now in
    let content = c.args.input.now.content in
    let e = c.in-Some.entry in
    let i = c.quiet.invariant in
    let is = subst (λ x. IsEntry (regex_kind r) (seeks r) x c.last_end-last.result e) i.goes.content c.in-Some.ensures.next in
    let h = (left_falls (regex_kind r) (seeks r) content c.last_end-last.result e.found is.found).1 in
    let end = ap (λ (t : Stretch). t.end) c.at-stretch.ensures in
    let same = ap length (c.in-Some.ensures.goes.content ∙ i.goes.content) in
    omega (arith, h, end, c.end-end.ensures.value, same)

pub stretch_behind-requires-clause-quiet : goal.stretch_behind-requires-clause-quiet
stretch_behind-requires-clause-quiet g c =
    let r = c.args.regex.now in
    let content = c.entry_behind.new.input.content in
    subst (λ (t : Stretch). IsQuiet (regex_kind r) (seeks r) content t.reach t.start t.end) (sym c.at-stretch.ensures)
    (quiet_here (regex_kind r) (seeks r) content c.end-end.result c.end-end.result)

pub quiet-smaller : goal.quiet-smaller
quiet-smaller g c =
    let r = c.args.regex.now in
    let content = c.args.input.now.content in
    let e = c.in-Some.entry in
    let i = c.quiet.invariant in
    let was = subst (λ x. IsEntry (regex_kind r) (seeks r) x c.last_end-last.result e) i.goes.content c.in-Some.ensures.next in
    let is = subst (λ l. IsEntry (regex_kind r) (seeks r) content l e) c.last_end-last.ensures was in
    subst (λ l. left (regex_kind r) (seeks r) (length content) l < left (regex_kind r) (seeks r) (length content) (last_end None c.quiet.entries.before))
    (sym (one_last (regex_kind r) (seeks r) content c.quiet.entries c.push.new.self c.skip_past-mark.new.entries e c.in_ok-push.ensures c.skip_past-mark.ensures.gone))
    (left_falls (regex_kind r) (seeks r) content (last_end None c.quiet.entries.before) e.found is.found).0

pub quiet-preserved : goal.quiet-preserved
quiet-preserved g c =
    let r = c.args.regex.now in
    let content = c.args.input.now.content in
    let e = c.in-Some.entry in
    let i = c.quiet.invariant in
    let was = c.in-Some.ensures in
    let g = c.quiet.entries in
    let h = c.skip_past-mark.new.entries in
    let pushed = c.in_ok-push.ensures in
    let gone = c.skip_past-mark.ensures.gone in
    let there = subst (λ x. IsEntry (regex_kind r) (seeks r) x c.last_end-last.result e) i.goes.content was.next in
    let is = subst (λ l. IsEntry (regex_kind r) (seeks r) content l e) c.last_end-last.ensures there in
    let ends = one_last (regex_kind r) (seeks r) content g c.push.new.self h e pushed gone in
    let on = c.in_ok-stretch-2.ensures in
    let t = c.in_ok-stretch-2.stretch in
    let from = c.entry_behind.new.input in
    let to = c.stretch_behind.new.input in
    let same = was.goes.content ∙ i.goes.content in
    let long = ap length same in
    record {
      cache = on.cache;
      over = over_kept from to on.keeps was.over;
      goes = goes_on c.args.input.now from to (goes_on c.args.input.now c.quiet.input from i.goes was.goes) (goes_kept from to on.keeps);
      on = one_on (regex_kind r) (seeks r) content g c.push.new.self h e pushed gone c.args.entries.now i.on;
      inside = subst (λ l. place_of l ≤ length content) (sym ends)
          (left_falls (regex_kind r) (seeks r) content (last_end None g.before) e.found is.found).1;
      first = one_first (regex_kind r) (seeks r) content g c.push.new.self h e pushed gone (last_end None g.before) refl is i.first;
      rest = c.skip_past-mark.ensures.meets (regex_kind r) (seeks r) content c.requires.leftmost refl
          (subst (Meets (regex_kind r) (seeks r) content c.quiet.mark) (sym (ap (λ (x : Gapped). x.after) pushed)) i.rest);
      stretch_inside = omega (arith, on.inside, long);
      start = on.start ∙ ap (λ (t : Stretch). t.start) c.at-stretch.ensures ∙ c.end-end.ensures.value ∙ sym (ap place_of ends);
      quiet = subst (λ x. IsQuiet (regex_kind r) (seeks r) x t.reach t.start t.end) same on.quiet;
      stretches_len = on.len ∙ long;
      are = subst (λ x. AreStretches (regex_kind r) (seeks r) x 0 (all_of c.stretch_behind.new.stretches.entries)) same on.are;
    }

pub returns-clause-all : goal.returns-clause-all
returns-clause-all g c =
    let r = c.args.regex.now in
    let i = c.quiet.invariant in
    let content = c.args.input.now.content in
    all_append (regex_kind r) (seeks r) content None c.quiet.entries.before c.quiet.entries.after i.first
    (c.quiet-test.ensures (regex_kind r) (seeks r) content c.requires.leftmost refl refl i.start i.quiet i.rest)
