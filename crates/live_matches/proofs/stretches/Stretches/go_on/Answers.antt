use Rattle.std.proofs.Common.{◌∙◌, length, refl, ap, subst, arith}
use Rattle.std.specs.Prelude.{IfSome}
use Rattle.api_meta.specs.Views.{regex_kind}
use Rattle.live_matches.specs.Entries.{all_of}
use Rattle.live_matches.specs.Live.{seeks}
use Rattle.live_matches.specs.Stretches.{AreStretches, IsStretch}
use Rattle.live_matches.proofs.stretches.Stretches.go_on.Goals as goal

-- one more step is told
pub steps-preserved : goal.steps-preserved
steps-preserved g c =
    let r = c.args.regex.now in
    let content = c.args.input.now.content in
    let i = c.steps.invariant in
    let on = c.in_ok-entry.ensures in
    let with = c.with-stretch.ensures in
    let same = i.keeps.content in
    let is = subst (λ x. IsStretch (regex_kind r) (seeks r) x c.in-Some.entry) same
    (subst (λ o. IfSome o (IsStretch (regex_kind r) (seeks r) c.steps.input.content)) c.in-Some.is on.next) in
    record {
      cache = on.cache;
      keeps = record {
        content = on.keeps.content ∙ i.keeps.content;
        span = on.keeps.span ∙ i.keeps.span;
        slice = on.keeps.slice ∙ i.keeps.slice;
        anchored = on.keeps.anchored ∙ i.keeps.anchored;
        earliest = on.keeps.earliest ∙ i.keeps.earliest;
      };
      len = on.len ∙ ap length same;
      are = subst (λ x. AreStretches (regex_kind r) (seeks r) x 0 (all_of c.step.new.self.entries)) same on.are;
      start = with.start ∙ i.start;
      order = omega (arith, i.order, with.on);
      inside = with.inside (length content) i.inside is.inside;
      quiet = with.quiet (regex_kind r) (seeks r) content c.requires.leftmost refl (omega (arith, i.start, i.order, c.requires.order)) i.quiet is;
    }
