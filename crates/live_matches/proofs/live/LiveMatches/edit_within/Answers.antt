use Rattle.std.proofs.Common.{◌≡◌, ◌∙◌, None, length, sym, ap, subst}
use Rattle.api_meta.specs.Views.{regex_kind}
use Rattle.live_matches.specs.Entries.{all_of}
use Rattle.live_matches.specs.Lists.{AreEntries}
use Rattle.live_matches.specs.Live.{Listed, seeks}
use Rattle.live_matches.specs.Stretches.{AreStretches}
use Rattle.live_matches.proofs.Had.{four_ok}
use Rattle.live_matches.proofs.Lives.{is_live}
use Rattle.live_matches.proofs.live.LiveMatches.edit_within.Goals as goal

pub update-changed-requires-clause-stretches : goal.update-changed-requires-clause-stretches
update-changed-requires-clause-stretches g c =
    let r = c.args.regex.now in
    let was = c.requires.was in
    record {
      old = was.old;
      are = subst (λ (l : Listed). AreStretches (regex_kind r) (seeks r) was.old 0 (all_of l.quiets)) (sym c.self.view_is) was.live.quiet;
      len = ap (λ (l : Listed). l.quiets.len) c.self.view_is ∙ was.live.quiet_len;
      edited = was.edited;
    }

pub returns-else-is_err-clause-live : goal.returns-else-is_err-clause-live
returns-else-is_err-clause-live g c =
    let r = c.args.regex.now in
    let content = c.args.input.now.content in
    let now = c.update-changed.new.entries in
    let quiets = c.update-changed.new.stretches.entries in
    let on = c.update-changed.ensures in
    four_ok c.update-changed.result (AreEntries (regex_kind r) (seeks r) content None (all_of now)) (now.len ≡ length content)
    (AreStretches (regex_kind r) (seeks r) content 0 (all_of quiets)) (quiets.len ≡ length content) _
    on.all on.len on.are on.stretches_len
    (λ are len quiet quiet_len. is_live r content (record { entries = all_of now; quiets = quiets; len = now.len; is_stale = c.self.inside.is_stale })
    c.content_fits.ensures are quiet quiet_len len (ap (λ (l : Listed). l.is_stale) c.self.view_is ∙ c.requires.was.live.fresh))
