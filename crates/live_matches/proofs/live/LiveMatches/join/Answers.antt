use Rattle.std.proofs.Common.{◌≡◌, ◌∙◌, None, length, sym, ap, subst}
use Rattle.api_meta.specs.Views.{regex_kind}
use Rattle.live_matches.specs.Entries.{all_of}
use Rattle.live_matches.specs.Live.{Listed, seeks}
use Rattle.live_matches.specs.Ranges.{AreUpTo}
use Rattle.live_matches.specs.Stretches.{AreStretches}
use Rattle.live_matches.proofs.Had.{both_ok}
use Rattle.live_matches.proofs.Joins.{to_end}
use Rattle.live_matches.proofs.Lives.{is_live}
use Rattle.live_matches.proofs.live.LiveMatches.join.Goals as goal

pub returns-else-is_err-clause-live : goal.returns-else-is_err-clause-live
returns-else-is_err-clause-live g c =
    let r = c.args.regex.now in
    let content = c.args.input.now.content in
    let now = c.join-done.new.entries in
    both_ok c.join-done.result (AreUpTo (regex_kind r) (seeks r) content c.args.range.end None (all_of now)) (now.len ≡ length content) _
    c.join-done.ensures.all c.join-done.ensures.len
    (λ are len over. is_live r content (record { entries = all_of now; quiets = c.self.inside.stretches.entries; len = now.len; is_stale = c.self.inside.is_stale }) c.content_fits.ensures
    (to_end (regex_kind r) (seeks r) content c.args.range.end (all_of now) are over)
    (subst (λ (l : Listed). AreStretches (regex_kind r) (seeks r) content 0 (all_of l.quiets)) (sym c.self.view_is) c.requires.first.quiet)
    (ap (λ (l : Listed). l.quiets.len) c.self.view_is ∙ c.requires.first.quiet_len) len
    (ap (λ (l : Listed). l.is_stale) c.self.view_is ∙ c.requires.first.fresh))
