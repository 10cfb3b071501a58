use Rattle.std.proofs.Common.{◌≤◌, ◌∙◌, length, refl, sym, subst}
use Rattle.api_meta.specs.Views.{regex_kind}
use Rattle.live_matches.specs.Lists.{AreEntries, IsSearchedOn, place_of}
use Rattle.live_matches.specs.Live.{seeks}
use Rattle.live_matches.proofs.Had.{both_ok}
use Rattle.live_matches.proofs.Updates.{carried, first_is, fits, is_behind, len_is, mark_fits, old_parts, rest_is}
use Rattle.live_matches.proofs.quiet.carry_quiet.Goals as goal

pub edit-requires-clause-edit : goal.edit-requires-clause-edit
edit-requires-clause-edit g c =
    let r = c.args.regex.now in
    let was = c.requires.were in
    let edit = c.args.edit in
    let new = c.args.input.now.content in
    let g1 = c.args.entries.now in
    let g2 = c.skip_behind-mark.new.entries in
    let mark = c.skip_behind-mark.result in
    let parts = old_parts (regex_kind r) (seeks r) was.old new edit was.edited g1 was.are in
    let behind = c.skip_behind-mark.ensures in
    let left = behind.left (regex_kind r) (seeks r) was.old c.requires.leftmost refl (sym was.len)
    (subst (λ l. place_of l ≤ length was.old) (sym c.last_end-last.ensures) parts.0)
    (subst (λ l. AreEntries (regex_kind r) (seeks r) was.old l g1.after) (sym c.last_end-last.ensures) parts.1) in
    fits (regex_kind r) (seeks r) was.old new edit was.edited g1 g2 mark was.are was.len c.requires.below behind.gone left c.content_fits.ensures

pub edit-requires-clause-after : goal.edit-requires-clause-after
edit-requires-clause-after g c =
    let r = c.args.regex.now in
    let was = c.requires.were in
    let edit = c.args.edit in
    let new = c.args.input.now.content in
    let g1 = c.args.entries.now in
    let g2 = c.skip_behind-mark.new.entries in
    let mark = c.skip_behind-mark.result in
    let parts = old_parts (regex_kind r) (seeks r) was.old new edit was.edited g1 was.are in
    let behind = c.skip_behind-mark.ensures in
    let left = behind.left (regex_kind r) (seeks r) was.old c.requires.leftmost refl (sym was.len)
    (subst (λ l. place_of l ≤ length was.old) (sym c.last_end-last.ensures) parts.0)
    (subst (λ l. AreEntries (regex_kind r) (seeks r) was.old l g1.after) (sym c.last_end-last.ensures) parts.1) in
    is_behind (regex_kind r) (seeks r) was.old new edit was.edited g1 g2 mark was.are was.len c.requires.below behind.gone left

pub mark_after-mark-requires-clause-fits : goal.mark_after-mark-requires-clause-fits
mark_after-mark-requires-clause-fits g c =
    let r = c.args.regex.now in
    let was = c.requires.were in
    let edit = c.args.edit in
    let new = c.args.input.now.content in
    let g1 = c.args.entries.now in
    let g2 = c.skip_behind-mark.new.entries in
    let mark = c.skip_behind-mark.result in
    let parts = old_parts (regex_kind r) (seeks r) was.old new edit was.edited g1 was.are in
    let behind = c.skip_behind-mark.ensures in
    let left = behind.left (regex_kind r) (seeks r) was.old c.requires.leftmost refl (sym was.len)
    (subst (λ l. place_of l ≤ length was.old) (sym c.last_end-last.ensures) parts.0)
    (subst (λ l. AreEntries (regex_kind r) (seeks r) was.old l g1.after) (sym c.last_end-last.ensures) parts.1) in
    mark_fits (regex_kind r) (seeks r) was.old new edit was.edited g1 g2 mark was.are was.len c.requires.below behind.gone left c.content_fits.ensures

pub search_quiet-requires-clause-len : goal.search_quiet-requires-clause-len
search_quiet-requires-clause-len g c =
    let r = c.args.regex.now in
    let was = c.requires.were in
    let edit = c.args.edit in
    let new = c.args.input.now.content in
    let g1 = c.args.entries.now in
    let g2 = c.skip_behind-mark.new.entries in
    let mark = c.skip_behind-mark.result in
    let parts = old_parts (regex_kind r) (seeks r) was.old new edit was.edited g1 was.are in
    let behind = c.skip_behind-mark.ensures in
    let left = behind.left (regex_kind r) (seeks r) was.old c.requires.leftmost refl (sym was.len)
    (subst (λ l. place_of l ≤ length was.old) (sym c.last_end-last.ensures) parts.0)
    (subst (λ l. AreEntries (regex_kind r) (seeks r) was.old l g1.after) (sym c.last_end-last.ensures) parts.1) in
    len_is (regex_kind r) (seeks r) was.old new edit was.edited g1 g2 mark was.are was.len c.requires.below behind.gone left c.edit.new.self c.edit.ensures

pub search_quiet-requires-clause-first : goal.search_quiet-requires-clause-first
search_quiet-requires-clause-first g c =
    let r = c.args.regex.now in
    let was = c.requires.were in
    let edit = c.args.edit in
    let new = c.args.input.now.content in
    let g1 = c.args.entries.now in
    let g2 = c.skip_behind-mark.new.entries in
    let mark = c.skip_behind-mark.result in
    let parts = old_parts (regex_kind r) (seeks r) was.old new edit was.edited g1 was.are in
    let behind = c.skip_behind-mark.ensures in
    let left = behind.left (regex_kind r) (seeks r) was.old c.requires.leftmost refl (sym was.len)
    (subst (λ l. place_of l ≤ length was.old) (sym c.last_end-last.ensures) parts.0)
    (subst (λ l. AreEntries (regex_kind r) (seeks r) was.old l g1.after) (sym c.last_end-last.ensures) parts.1) in
    first_is (regex_kind r) (seeks r) was.old new edit was.edited g1 g2 mark was.are was.len c.requires.below behind.gone left c.edit.new.self c.edit.ensures

pub search_quiet-requires-clause-rest : goal.search_quiet-requires-clause-rest
search_quiet-requires-clause-rest g c =
    let r = c.args.regex.now in
    let was = c.requires.were in
    let edit = c.args.edit in
    let new = c.args.input.now.content in
    let g1 = c.args.entries.now in
    let g2 = c.skip_behind-mark.new.entries in
    let mark = c.skip_behind-mark.result in
    let parts = old_parts (regex_kind r) (seeks r) was.old new edit was.edited g1 was.are in
    let behind = c.skip_behind-mark.ensures in
    let left = behind.left (regex_kind r) (seeks r) was.old c.requires.leftmost refl (sym was.len)
    (subst (λ l. place_of l ≤ length was.old) (sym c.last_end-last.ensures) parts.0)
    (subst (λ l. AreEntries (regex_kind r) (seeks r) was.old l g1.after) (sym c.last_end-last.ensures) parts.1) in
    rw c.mark_after-mark.ensures (rest_is (regex_kind r) (seeks r) was.old new edit was.edited g1 g2 mark was.are was.len c.requires.below behind.gone left c.edit.new.self c.edit.ensures)

pub returns-clause-carried : goal.returns-clause-carried
returns-clause-carried g c =
    let r = c.args.regex.now in
    let was = c.requires.were in
    let edit = c.args.edit in
    let new = c.args.input.now.content in
    let g1 = c.args.entries.now in
    let g2 = c.skip_behind-mark.new.entries in
    let mark = c.skip_behind-mark.result in
    let parts = old_parts (regex_kind r) (seeks r) was.old new edit was.edited g1 was.are in
    let behind = c.skip_behind-mark.ensures in
    let left = behind.left (regex_kind r) (seeks r) was.old c.requires.leftmost refl (sym was.len)
    (subst (λ l. place_of l ≤ length was.old) (sym c.last_end-last.ensures) parts.0)
    (subst (λ l. AreEntries (regex_kind r) (seeks r) was.old l g1.after) (sym c.last_end-last.ensures) parts.1) in
    let on = IsSearchedOn c.edit.new.self c.search_quiet.new.entries in
    both_ok c.search_quiet.result on on _ c.search_quiet.ensures.on c.search_quiet.ensures.on
    (λ x y. carried (regex_kind r) (seeks r) was.old new edit was.edited g1 g2 mark was.are was.len c.requires.below behind.gone left
    c.edit.new.self c.edit.ensures c.search_quiet.new.entries x)

pub returns-clause-len : goal.returns-clause-len
returns-clause-len g c =
    let r = c.args.regex.now in
    let was = c.requires.were in
    let edit = c.args.edit in
    let new = c.args.input.now.content in
    let g1 = c.args.entries.now in
    let g2 = c.skip_behind-mark.new.entries in
    let mark = c.skip_behind-mark.result in
    let parts = old_parts (regex_kind r) (seeks r) was.old new edit was.edited g1 was.are in
    let behind = c.skip_behind-mark.ensures in
    let left = behind.left (regex_kind r) (seeks r) was.old c.requires.leftmost refl (sym was.len)
    (subst (λ l. place_of l ≤ length was.old) (sym c.last_end-last.ensures) parts.0)
    (subst (λ l. AreEntries (regex_kind r) (seeks r) was.old l g1.after) (sym c.last_end-last.ensures) parts.1) in
    let on = IsSearchedOn c.edit.new.self c.search_quiet.new.entries in
    both_ok c.search_quiet.result on on _ c.search_quiet.ensures.on c.search_quiet.ensures.on
    (λ x y. x.len ∙ len_is (regex_kind r) (seeks r) was.old new edit was.edited g1 g2 mark was.are was.len c.requires.below behind.gone left
    c.edit.new.self c.edit.ensures)
