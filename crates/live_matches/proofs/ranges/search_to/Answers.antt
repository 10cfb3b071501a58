use Rattle.std.proofs.Common.{◌∙◌, Some, refl, sym, ap, subst, arith}
use Rattle.api_meta.specs.Views.{regex_kind}
use Rattle.live_matches.specs.Entries.{all_of, is_before, last_end}
use Rattle.live_matches.specs.Lists.{AreFirst, IsEntry}
use Rattle.live_matches.specs.Live.{seeks}
use Rattle.live_matches.specs.Ranges.{AreUpTo}
use Rattle.live_matches.proofs.Joins.{far, met, more_first, more_last, more_len, more_rest, skipped_to}
use Rattle.live_matches.proofs.Nexts.{ends_inside, left_falls}
use Rattle.live_matches.proofs.ranges.search_to.Goals as goal

pub to-init : goal.to-init
to-init g c =
    let r = c.args.regex.now in
    let f = c.args.entries.now in
    let content = c.args.input.now.content in
    let skip = c.skip_to-mark.ensures in
    record {
      cache = c.requires.made;
      over = c.requires.over;
      goes = record { content = refl; end = refl; slice = refl; anchored = refl; earliest = refl };
      len = skip.len ∙ c.requires.len;
      last = c.last_after-last.ensures ∙ sym (ap (last_end c.args.start) skip.before);
      inside = rw c.last_after-last.ensures (ends_inside (regex_kind r) (seeks r) content c.args.start f.before c.requires.inside c.requires.first);
      first = subst (AreFirst (regex_kind r) (seeks r) content c.args.start) (sym skip.before) c.requires.first;
      rest = skipped_to (regex_kind r) (seeks r) content c.args.stop c.args.mark c.skip_to-mark.result f.after skip.dropped c.skip_to-mark.new.self.after
          c.requires.rest skip.split skip.mark_is;
    }

pub push-requires : goal.push-requires
push-requires g c =
    let r = c.args.regex.now in
    let content = c.args.input.now.content in
    let e = c.in-Some.entry in
    let is = subst (λ x. IsEntry (regex_kind r) (seeks r) x c.to.last e) c.to.invariant.goes.content c.in-Some.ensures.next in
    let h = (left_falls (regex_kind r) (seeks r) content c.to.last e.found is.found).1 in
    omega (arith, h, c.to.invariant.len)

pub to-smaller : goal.to-smaller
to-smaller g c =
    let r = c.args.regex.now in
    let content = c.args.input.now.content in
    let e = c.in-Some.entry in
    let is = subst (λ x. IsEntry (regex_kind r) (seeks r) x c.to.last e) c.to.invariant.goes.content c.in-Some.ensures.next in
    rw c.end-end.ensures.value (left_falls (regex_kind r) (seeks r) content c.to.last e.found is.found).0

pub to-preserved : goal.to-preserved
to-preserved g c =
    let r = c.args.regex.now in
    let content = c.args.input.now.content in
    let e = c.in-Some.entry in
    let i = c.to.invariant in
    let was = c.in-Some.ensures in
    let is = subst (λ x. IsEntry (regex_kind r) (seeks r) x c.to.last e) i.goes.content was.next in
    let h = left_falls (regex_kind r) (seeks r) content c.to.last e.found is.found in
    let same = c.end-end.ensures.value in
    record {
      cache = was.cache;
      over = was.over;
      goes = record {
        content = was.goes.content ∙ i.goes.content;
        end = was.goes.end ∙ i.goes.end;
        slice = was.goes.slice ∙ i.goes.slice;
        anchored = was.goes.anchored ∙ i.goes.anchored;
        earliest = was.goes.earliest ∙ i.goes.earliest;
      };
      len = more_len (regex_kind r) (seeks r) content c.args.stop c.args.start c.to.entries c.push.new.self c.skip_to-mark-in-to.new.self e c.to.mark
          c.skip_to-mark-in-to.result _ c.in_ok-push.ensures c.skip_to-mark-in-to.ensures ∙ i.len;
      last = ap Some same ∙ sym (more_last (regex_kind r) (seeks r) content c.args.stop c.args.start c.to.entries c.push.new.self c.skip_to-mark-in-to.new.self e c.to.mark
          c.skip_to-mark-in-to.result _ c.in_ok-push.ensures c.skip_to-mark-in-to.ensures);
      inside = omega (arith, h.1, same);
      first = more_first (regex_kind r) (seeks r) content c.args.stop c.args.start c.to.entries c.push.new.self c.skip_to-mark-in-to.new.self e c.to.mark
          c.skip_to-mark-in-to.result _ c.in_ok-push.ensures c.skip_to-mark-in-to.ensures c.to.last i.last is i.first;
      rest = more_rest (regex_kind r) (seeks r) content c.args.stop c.args.start c.to.entries c.push.new.self c.skip_to-mark-in-to.new.self e c.to.mark
          c.skip_to-mark-in-to.result _ c.in_ok-push.ensures c.skip_to-mark-in-to.ensures i.rest;
    }

pub returns-then-is_met-clause-all : goal.returns-then-is_met-clause-all
returns-then-is_met-clause-all g c =
    let r = c.args.regex.now in
    let i = c.to.invariant in
    let m = c.if-is_met.ensures refl in
    met (regex_kind r) (seeks r) c.args.input.now.content c.args.stop c.args.start c.to.mark c.to.entries.before c.to.entries.after m.0
    i.first m.1 (sym i.last ∙ m.2) i.rest

pub returns-clause-all : goal.returns-clause-all
returns-clause-all g c =
    let r = c.args.regex.now in
    let content = c.args.input.now.content in
    let i = c.to.invariant in
    subst (λ l. AreUpTo (regex_kind r) (seeks r) content c.args.stop c.args.start (all_of l)) (sym c.drop_after-2.ensures)
    (far (regex_kind r) (seeks r) content c.args.stop c.args.start c.to.entries.before i.first
    (ap (λ l. is_before l c.args.stop) (sym i.last) ∙ ap (is_before c.to.last) (omega arith) ∙ sym c.is_before.ensures ∙ c.to-test.false))
