use Rattle.std.proofs.Common.{◌≡◌, ◌∙◌, false, None, length, refl, sym, ap, subst}
use Rattle.api_meta.specs.Views.{regex_kind}
use Rattle.live_matches.specs.Entries.{Gapped, all_of}
use Rattle.live_matches.specs.Lists.{AreEntries, IsSearchedOn}
use Rattle.live_matches.specs.Live.{seeks}
use Rattle.live_matches.specs.Stretches.{AreStretches}
use Rattle.live_matches.proofs.Had.{four_ok}
use Rattle.live_matches.proofs.Lives.{high_is, is_live, none_quiet}
use Rattle.live_matches.proofs.live.LiveMatches.rebuild.Goals as goal

pub search_all-done-requires-clause-len : goal.search_all-done-requires-clause-len
search_all-done-requires-clause-len g c =
    ap (λ (l : Gapped). l.len) c.clear.ensures ∙ c.high-len.ensures.value
    ∙ high_is c.args.input.now c.requires.whole.over c.content_fits.ensures ∙ sym (ap length c.high-len.ensures.keeps.content)

pub search_all-done-requires-clause-stretches_len : goal.search_all-done-requires-clause-stretches_len
search_all-done-requires-clause-stretches_len g c =
    ap (λ (l : Gapped). l.len) c.clear-2.ensures ∙ c.high-len.ensures.value
    ∙ high_is c.args.input.now c.requires.whole.over c.content_fits.ensures ∙ sym (ap length c.high-len.ensures.keeps.content)

pub search_all-done-requires-clause-are : goal.search_all-done-requires-clause-are
search_all-done-requires-clause-are g c =
    let none = none_quiet c.args.regex.now c.high-len.new.input.content c.high-len.result c.clear-2.new.self.entries
    (c.high-len.ensures.value ∙ high_is c.args.input.now c.requires.whole.over c.content_fits.ensures ∙ sym (ap length c.high-len.ensures.keeps.content))
    c.clear-2.ensures in
    none.0

pub returns-else-is_err-clause-live : goal.returns-else-is_err-clause-live
returns-else-is_err-clause-live g c =
    let r = c.args.regex.now in
    let content = c.args.input.now.content in
    let searched = c.high-len.new.input.content in
    let now = c.search_all-done.new.entries in
    let quiets = c.search_all-done.new.stretches.entries in
    let on = c.search_all-done.ensures in
    let same = c.high-len.ensures.keeps.content in
    four_ok c.search_all-done.result (IsSearchedOn c.clear.new.self now) (AreEntries (regex_kind r) (seeks r) searched None (all_of now))
    (AreStretches (regex_kind r) (seeks r) searched 0 (all_of quiets)) (quiets.len ≡ length searched) _
    on.on on.all on.are on.stretches_len
    (λ gone are quiet quiet_len. is_live r content (record { entries = all_of now; quiets = quiets; len = now.len; is_stale = false }) c.content_fits.ensures
    (subst (λ x. AreEntries (regex_kind r) (seeks r) x None (all_of now)) same are)
    (subst (λ x. AreStretches (regex_kind r) (seeks r) x 0 (all_of quiets)) same quiet) (quiet_len ∙ ap length same)
    (gone.len ∙ ap (λ (l : Gapped). l.len) c.clear.ensures ∙ c.high-len.ensures.value ∙ high_is c.args.input.now c.requires.whole.over c.content_fits.ensures) refl)
