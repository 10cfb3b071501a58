use Rattle.std.proofs.Common.{◌+◌, ◌∙◌, None, subst}
use Rattle.api_meta.specs.Views.{regex_kind}
use Rattle.live_matches.specs.Entries.{IsSkipped, last_end}
use Rattle.live_matches.specs.Lists.{IsSearchedOn}
use Rattle.live_matches.specs.Live.{seeks}
use Rattle.live_matches.proofs.Had.{both_ok}
use Rattle.live_matches.proofs.Nexts.{gone_by}
use Rattle.live_matches.proofs.Quiets.{skip_left}
use Rattle.live_matches.proofs.Updates.{carried, first_is, fits, is_behind, len_is, mark_fits, old_parts, rest_is}
use Rattle.live_matches.proofs.search.carry_over.Goals as goal

pub edit-requires-clause-edit : goal.edit-requires-clause-edit
edit-requires-clause-edit g c =
    let r = c.args.regex.now in
    let was = c.requires.were in
    let edit = c.args.edit in
    let g1 = c.args.entries.now in
    let g2 = c.skip_to-mark.new.self in
    let mark = c.skip_to-mark.result in
    let last = last_end None g1.before in
    let skip = subst (λ l. IsSkipped l (edit.replaced.end + 4) g1 mark g2) c.last_end-last.ensures c.skip_to-mark.ensures in
    let parts = old_parts (regex_kind r) (seeks r) was.old c.args.input.now.content edit was.edited g1 was.are in
    let gone = gone_by last (edit.replaced.end + 4) g1 mark g2 skip in
    let left = skip_left (regex_kind r) (seeks r) was.old last (edit.replaced.end + 4) g1 mark g2 skip parts.0 parts.1 in
    fits (regex_kind r) (seeks r) was.old c.args.input.now.content edit was.edited g1 g2 mark was.are was.len c.requires.below gone left c.content_fits.ensures

pub edit-requires-clause-after : goal.edit-requires-clause-after
edit-requires-clause-after g c =
    let r = c.args.regex.now in
    let was = c.requires.were in
    let edit = c.args.edit in
    let g1 = c.args.entries.now in
    let g2 = c.skip_to-mark.new.self in
    let mark = c.skip_to-mark.result in
    let last = last_end None g1.before in
    let skip = subst (λ l. IsSkipped l (edit.replaced.end + 4) g1 mark g2) c.last_end-last.ensures c.skip_to-mark.ensures in
    let parts = old_parts (regex_kind r) (seeks r) was.old c.args.input.now.content edit was.edited g1 was.are in
    let gone = gone_by last (edit.replaced.end + 4) g1 mark g2 skip in
    let left = skip_left (regex_kind r) (seeks r) was.old last (edit.replaced.end + 4) g1 mark g2 skip parts.0 parts.1 in
    is_behind (regex_kind r) (seeks r) was.old c.args.input.now.content edit was.edited g1 g2 mark was.are was.len c.requires.below gone left

pub mark_after-requires-clause-fits : goal.mark_after-requires-clause-fits
mark_after-requires-clause-fits g c =
    let r = c.args.regex.now in
    let was = c.requires.were in
    let edit = c.args.edit in
    let g1 = c.args.entries.now in
    let g2 = c.skip_to-mark.new.self in
    let mark = c.skip_to-mark.result in
    let last = last_end None g1.before in
    let skip = subst (λ l. IsSkipped l (edit.replaced.end + 4) g1 mark g2) c.last_end-last.ensures c.skip_to-mark.ensures in
    let parts = old_parts (regex_kind r) (seeks r) was.old c.args.input.now.content edit was.edited g1 was.are in
    let gone = gone_by last (edit.replaced.end + 4) g1 mark g2 skip in
    let left = skip_left (regex_kind r) (seeks r) was.old last (edit.replaced.end + 4) g1 mark g2 skip parts.0 parts.1 in
    mark_fits (regex_kind r) (seeks r) was.old c.args.input.now.content edit was.edited g1 g2 mark was.are was.len c.requires.below gone left c.content_fits.ensures

pub search_on-requires-clause-len : goal.search_on-requires-clause-len
search_on-requires-clause-len g c =
    let r = c.args.regex.now in
    let was = c.requires.were in
    let edit = c.args.edit in
    let g1 = c.args.entries.now in
    let g2 = c.skip_to-mark.new.self in
    let mark = c.skip_to-mark.result in
    let last = last_end None g1.before in
    let skip = subst (λ l. IsSkipped l (edit.replaced.end + 4) g1 mark g2) c.last_end-last.ensures c.skip_to-mark.ensures in
    let parts = old_parts (regex_kind r) (seeks r) was.old c.args.input.now.content edit was.edited g1 was.are in
    let gone = gone_by last (edit.replaced.end + 4) g1 mark g2 skip in
    let left = skip_left (regex_kind r) (seeks r) was.old last (edit.replaced.end + 4) g1 mark g2 skip parts.0 parts.1 in
    len_is (regex_kind r) (seeks r) was.old c.args.input.now.content edit was.edited g1 g2 mark was.are was.len c.requires.below gone left c.edit.new.self c.edit.ensures

pub search_on-requires-clause-first : goal.search_on-requires-clause-first
search_on-requires-clause-first g c =
    let r = c.args.regex.now in
    let was = c.requires.were in
    let edit = c.args.edit in
    let g1 = c.args.entries.now in
    let g2 = c.skip_to-mark.new.self in
    let mark = c.skip_to-mark.result in
    let last = last_end None g1.before in
    let skip = subst (λ l. IsSkipped l (edit.replaced.end + 4) g1 mark g2) c.last_end-last.ensures c.skip_to-mark.ensures in
    let parts = old_parts (regex_kind r) (seeks r) was.old c.args.input.now.content edit was.edited g1 was.are in
    let gone = gone_by last (edit.replaced.end + 4) g1 mark g2 skip in
    let left = skip_left (regex_kind r) (seeks r) was.old last (edit.replaced.end + 4) g1 mark g2 skip parts.0 parts.1 in
    first_is (regex_kind r) (seeks r) was.old c.args.input.now.content edit was.edited g1 g2 mark was.are was.len c.requires.below gone left c.edit.new.self c.edit.ensures

pub search_on-requires-clause-rest : goal.search_on-requires-clause-rest
search_on-requires-clause-rest g c =
    let r = c.args.regex.now in
    let was = c.requires.were in
    let edit = c.args.edit in
    let g1 = c.args.entries.now in
    let g2 = c.skip_to-mark.new.self in
    let mark = c.skip_to-mark.result in
    let last = last_end None g1.before in
    let skip = subst (λ l. IsSkipped l (edit.replaced.end + 4) g1 mark g2) c.last_end-last.ensures c.skip_to-mark.ensures in
    let parts = old_parts (regex_kind r) (seeks r) was.old c.args.input.now.content edit was.edited g1 was.are in
    let gone = gone_by last (edit.replaced.end + 4) g1 mark g2 skip in
    let left = skip_left (regex_kind r) (seeks r) was.old last (edit.replaced.end + 4) g1 mark g2 skip parts.0 parts.1 in
    rw c.mark_after.ensures (rest_is (regex_kind r) (seeks r) was.old c.args.input.now.content edit was.edited g1 g2 mark was.are was.len c.requires.below gone left c.edit.new.self c.edit.ensures)

pub returns-clause-carried : goal.returns-clause-carried
returns-clause-carried g c =
    let r = c.args.regex.now in
    let was = c.requires.were in
    let edit = c.args.edit in
    let g1 = c.args.entries.now in
    let g2 = c.skip_to-mark.new.self in
    let mark = c.skip_to-mark.result in
    let last = last_end None g1.before in
    let skip = subst (λ l. IsSkipped l (edit.replaced.end + 4) g1 mark g2) c.last_end-last.ensures c.skip_to-mark.ensures in
    let parts = old_parts (regex_kind r) (seeks r) was.old c.args.input.now.content edit was.edited g1 was.are in
    let gone = gone_by last (edit.replaced.end + 4) g1 mark g2 skip in
    let left = skip_left (regex_kind r) (seeks r) was.old last (edit.replaced.end + 4) g1 mark g2 skip parts.0 parts.1 in
    let on = IsSearchedOn c.edit.new.self c.search_on.new.entries in
    both_ok c.search_on.result on on _ c.search_on.ensures.on c.search_on.ensures.on
    (λ x y. carried (regex_kind r) (seeks r) was.old c.args.input.now.content edit was.edited g1 g2 mark was.are was.len c.requires.below gone left
    c.edit.new.self c.edit.ensures c.search_on.new.entries x)

pub returns-clause-len : goal.returns-clause-len
returns-clause-len g c =
    let r = c.args.regex.now in
    let was = c.requires.were in
    let edit = c.args.edit in
    let g1 = c.args.entries.now in
    let g2 = c.skip_to-mark.new.self in
    let mark = c.skip_to-mark.result in
    let last = last_end None g1.before in
    let skip = subst (λ l. IsSkipped l (edit.replaced.end + 4) g1 mark g2) c.last_end-last.ensures c.skip_to-mark.ensures in
    let parts = old_parts (regex_kind r) (seeks r) was.old c.args.input.now.content edit was.edited g1 was.are in
    let gone = gone_by last (edit.replaced.end + 4) g1 mark g2 skip in
    let left = skip_left (regex_kind r) (seeks r) was.old last (edit.replaced.end + 4) g1 mark g2 skip parts.0 parts.1 in
    let on = IsSearchedOn c.edit.new.self c.search_on.new.entries in
    both_ok c.search_on.result on on _ c.search_on.ensures.on c.search_on.ensures.on
    (λ x y. x.len ∙ len_is (regex_kind r) (seeks r) was.old c.args.input.now.content edit was.edited g1 g2 mark was.are was.len c.requires.below gone left
    c.edit.new.self c.edit.ensures)
