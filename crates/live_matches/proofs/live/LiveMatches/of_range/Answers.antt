use Rattle.std.proofs.Common.{◌∙◌, length, refl, sym, ap, subst}
use Rattle.api_meta.specs.Views.{regex_kind}
use Rattle.live_matches.specs.Entries.{Gapped, all_of}
use Rattle.live_matches.specs.Live.{seeks}
use Rattle.live_matches.specs.Ranges.{AreUpTo, begin_of_range}
use Rattle.live_matches.proofs.Lives.{high_is, none_quiet}
use Rattle.live_matches.proofs.live.LiveMatches.of_range.Goals as goal

pub search_to-done-requires-clause-len : goal.search_to-done-requires-clause-len
search_to-done-requires-clause-len g c =
    ap (λ (l : Gapped). l.len) c.new-entries.ensures ∙ c.high-len.ensures.value
    ∙ high_is c.args.input.now c.requires.whole.over c.content_fits.ensures ∙ sym (ap length c.high-len.ensures.keeps.content)

pub returns-clause-range : goal.returns-clause-range
returns-clause-range g c =
    let r = c.args.regex.now in
    let content = c.args.input.now.content in
    let now = c.search_to-done.new.entries in
    let same = c.high-len.ensures.keeps.content in
    let on = c.in_ok-done.ensures in
    let none = none_quiet r content c.high-len.result c.new.result.entries
    (c.high-len.ensures.value ∙ high_is c.args.input.now c.requires.whole.over c.content_fits.ensures) c.new.ensures in
    record {
      settled = subst (λ x. AreUpTo (regex_kind r) (seeks r) x c.args.range.end (begin_of_range c.args.range) (all_of now)) same
          (subst (λ l. AreUpTo (regex_kind r) (seeks r) c.high-len.new.input.content c.args.range.end l (all_of now)) c.begin_of_range-start.ensures on.all);
      quiet = none.0;
      quiet_len = none.1;
      len = on.len ∙ ap length same;
      fresh = refl;
    }
