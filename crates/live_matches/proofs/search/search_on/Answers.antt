use Rattle.std.proofs.Common.{◌∙◌, [], Some, None, refl, sym, ap, subst, arith}
use Rattle.std.proofs.lemmas.List.{append-nil}
use Rattle.api_meta.specs.Views.{regex_kind}
use Rattle.live_matches.specs.Lists.{IsEntry}
use Rattle.live_matches.specs.Live.{seeks}
use Rattle.live_matches.proofs.Nexts.{ends_inside, gone_by, left_falls, none_on, one_all, one_first, one_last, one_on, one_rest}
use Rattle.live_matches.proofs.search.search_on.Goals as goal

pub on-init : goal.on-init
on-init g c =
    let r = c.args.regex.now in
    let f = c.args.entries.now in
    record {
      cache = c.requires.made;
      over = c.requires.over;
      goes = record { content = refl; end = refl; slice = refl; anchored = refl; earliest = refl };
      on = record { anew = []; gone = []; before = sym (append-nil f.before); after = refl; len = refl };
      last = c.last_end-last.ensures;
      inside = rw c.last_end-last.ensures (ends_inside (regex_kind r) (seeks r) c.args.input.now.content None f.before (omega arith) c.requires.first);
      first = c.requires.first;
      rest = c.requires.rest;
    }

pub push-requires : goal.push-requires
push-requires g c =
    let r = c.args.regex.now in
    let content = c.args.input.now.content in
    let e = c.in-Some.entry in
    let is = subst (λ x. IsEntry (regex_kind r) (seeks r) x c.on.last e) c.on.invariant.goes.content c.in-Some.ensures.next in
    let h = (left_falls (regex_kind r) (seeks r) content c.on.last e.found is.found).1 in
    omega (arith, h, c.on.invariant.on.len, c.requires.len)

pub returns-then-is_at-clause-on : goal.returns-then-is_at-clause-on
returns-then-is_at-clause-on g c =
    let r = c.args.regex.now in
    one_on (regex_kind r) (seeks r) c.args.input.now.content c.on.entries c.push.new.self c.skip_to-mark.new.self c.in-Some.entry c.in_ok-push.ensures
    (gone_by c.on.mark _ c.push.new.self c.skip_to-mark.result c.skip_to-mark.new.self c.skip_to-mark.ensures) c.args.entries.now c.on.invariant.on

pub returns-then-is_at-clause-all : goal.returns-then-is_at-clause-all
returns-then-is_at-clause-all g c =
    let r = c.args.regex.now in
    let content = c.args.input.now.content in
    let e = c.in-Some.entry in
    let i = c.on.invariant in
    let is = subst (λ x. IsEntry (regex_kind r) (seeks r) x c.on.last e) i.goes.content c.in-Some.ensures.next in
    one_all (regex_kind r) (seeks r) content c.on.entries c.push.new.self c.skip_to-mark.new.self e c.in_ok-push.ensures
    (gone_by c.on.mark _ c.push.new.self c.skip_to-mark.result c.skip_to-mark.new.self c.skip_to-mark.ensures) c.on.mark c.skip_to-mark.result _
    c.skip_to-mark.ensures c.on.last i.last is i.first i.rest
    (c.if-is_at.ensures refl ∙ ap Some c.end-end.ensures.value)

pub on-smaller : goal.on-smaller
on-smaller g c =
    let r = c.args.regex.now in
    let content = c.args.input.now.content in
    let e = c.in-Some.entry in
    let is = subst (λ x. IsEntry (regex_kind r) (seeks r) x c.on.last e) c.on.invariant.goes.content c.in-Some.ensures.next in
    rw c.end-end.ensures.value (left_falls (regex_kind r) (seeks r) content c.on.last e.found is.found).0

pub on-preserved : goal.on-preserved
on-preserved g c =
    let r = c.args.regex.now in
    let content = c.args.input.now.content in
    let e = c.in-Some.entry in
    let i = c.on.invariant in
    let was = c.in-Some.ensures in
    let is = subst (λ x. IsEntry (regex_kind r) (seeks r) x c.on.last e) i.goes.content was.next in
    let h = left_falls (regex_kind r) (seeks r) content c.on.last e.found is.found in
    let same = c.end-end.ensures.value in
    let gone = gone_by c.on.mark _ c.push.new.self c.skip_to-mark.result c.skip_to-mark.new.self c.skip_to-mark.ensures in
    record {
      cache = was.cache;
      over = was.over;
      goes = record {
        content = was.goes.content ∙ i.goes.content;
        end = was.goes.end ∙ i.goes.end;
        slice = was.goes.slice ∙ i.goes.slice;
        anchored = was.goes.anchored ∙ i.goes.anchored;
        earliest = was.goes.earliest ∙ i.goes.earliest;
      };
      on = one_on (regex_kind r) (seeks r) content c.on.entries c.push.new.self c.skip_to-mark.new.self e c.in_ok-push.ensures gone
          c.args.entries.now i.on;
      last = ap Some same ∙ sym (one_last (regex_kind r) (seeks r) content c.on.entries c.push.new.self c.skip_to-mark.new.self e
          c.in_ok-push.ensures gone);
      inside = omega (arith, h.1, same);
      first = one_first (regex_kind r) (seeks r) content c.on.entries c.push.new.self c.skip_to-mark.new.self e c.in_ok-push.ensures gone
          c.on.last i.last is i.first;
      rest = one_rest (regex_kind r) (seeks r) content c.on.entries c.push.new.self c.skip_to-mark.new.self e c.in_ok-push.ensures gone
          c.on.mark c.skip_to-mark.result _ c.skip_to-mark.ensures i.rest;
    }

pub returns-clause-on : goal.returns-clause-on
returns-clause-on g c =
    let r = c.args.regex.now in
    none_on (regex_kind r) (seeks r) c.args.entries.now c.on.entries c.drop_after.new.self c.drop_after.ensures c.on.invariant.on
