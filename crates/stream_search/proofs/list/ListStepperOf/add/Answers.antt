use Rattle.std.proofs.Common.{◌∙◌, Some, false, ap, arith, length, refl, subst, sym}
use Rattle.stream_search.specs.Listing.{Listing}
use Rattle.stream_search.specs.Streams.{MayBecome}
use Rattle.stream_search.proofs.Listed.{no_more, one_more, stays_on, takes}
use Rattle.stream_search.proofs.list.ListStepperOf.add.Goals as goal

pub returns-in_err-push-clause-adds : goal.returns-in_err-push-clause-adds
returns-in_err-push-clause-adds g c =
    let i = c.told.invariant in
    λ content b.
    let here = subst (λ x. MayBecome false x content) (sym i.content) b in
    no_more (i.adds content b) c.push.new.self.items c.in_err-push.ensures.items (c.in-Some.ensures.told content here)

pub told-preserved : goal.told-preserved
told-preserved g c =
    let i = c.told.invariant in
    let found = c.in-Some.ensures in
    let taken = c.take.ensures.taken in
    let m = c.in-Some.found in
    let at = ap (λ (x : Listing). x.from) taken in
    let l = ap length i.content in
    let on = found.onward in
    let before = i.onward in
    record {
      over = c.take.ensures.over;
      content = c.take.ensures.content ∙ found.content ∙ i.content;
      start = c.take.ensures.start ∙ sym at;
      stays = stays_on c.args.self.now c.told.self c.seek.new.self c.take.new.self i.stays found.stays m.end (Some m.end) taken;
      onward = omega (arith, at, on, before, found.lies.0, found.lies.1);
      within = omega (arith, at, l, found.lies.2);
      adds = λ content b.
          let here = subst (λ x. MayBecome false x content) (sym i.content) b in
          one_more (i.adds content b) c.push.new.self.items m c.in_ok-push.ensures.items
          (λ told was. takes c.seek.new.self c.take.new.self content told m taken found.after (found.found content here) (found.told content here told was));
    }

pub returns-clause-adds : goal.returns-clause-adds
returns-clause-adds g c =
    let i = c.told.invariant in
    λ content b.
    let here = subst (λ x. MayBecome false x content) (sym i.content) b in
    no_more (i.adds content b) c.told.matches.items refl (c.in_default.ensures.told content here)
