use Rattle.std.proofs.Common.{◌∙◌, None, length, sym, ap, ap₂, ◌-◌, subst, arith}
use Rattle.api_meta.specs.Views.{regex_kind}
use Rattle.live_matches.specs.Drawn.{AreAhead}
use Rattle.live_matches.specs.Entries.{all_of, len_after}
use Rattle.live_matches.specs.Lists.{AreEntries}
use Rattle.live_matches.specs.Live.{seeks}
use Rattle.live_matches.proofs.Nexts.{sized}
use Rattle.live_matches.proofs.Stretched.{are_over, are_rising}
use Rattle.live_matches.proofs.Updates.{fewer, laid, split}
use Rattle.live_matches.proofs.search.update.Goals as goal

pub edit-requires-clause-fits : goal.edit-requires-clause-fits
edit-requires-clause-fits g c =
    let r = c.args.regex.now in
    let was = c.requires.stretches in
    let n = sized (regex_kind r) (seeks r) was.old c.args.input.now.content c.args.edit was.edited in
    record {
      order = was.edited.order;
      inside = omega (arith, was.edited.inside, was.len);
      fits = omega (arith, n, was.len, c.content_fits.ensures);
    }

pub edit-requires-clause-rising : goal.edit-requires-clause-rising
edit-requires-clause-rising g c =
    let r = c.args.regex.now in
    let was = c.requires.stretches in
    are_rising (regex_kind r) (seeks r) was.old 0 (all_of c.args.stretches.now.entries) was.are

pub carry-requires-clause-stretches_len : goal.carry-requires-clause-stretches_len
carry-requires-clause-stretches_len g c =
    let r = c.args.regex.now in
    let was = c.requires.stretches in
    c.edit.ensures.len ∙ ap (len_after c.args.edit) was.len
    ∙ sym (sized (regex_kind r) (seeks r) was.old c.args.input.now.content c.args.edit was.edited)

pub carry-requires-clause-are : goal.carry-requires-clause-are
carry-requires-clause-are g c =
    let r = c.args.regex.now in
    let was = c.requires.stretches in
    let by = was.edited in
    are_over (regex_kind r) (seeks r) was.old c.args.input.now.content c.args.edit by.order by.inside by.room by.back
    c.args.stretches.now.entries c.edit.new.self.entries by.front c.edit.ensures was.are

pub carry-requires-clause-were : goal.carry-requires-clause-were
carry-requires-clause-were g c =
    let r = c.args.regex.now in
    let was = c.requires.were in
    let settled = c.settle_to.ensures in
    record {
      old = was.old;
      are = subst (AreEntries (regex_kind r) (seeks r) was.old None) (sym settled.all) was.are;
      len = settled.len ∙ was.len;
      edited = was.edited;
    }

pub overflow_sub-dropped : goal.overflow_sub-dropped
overflow_sub-dropped g c =
    let r = c.args.regex.now in
    let was = c.requires.were in
    let few = fewer (regex_kind r) (seeks r) was.old c.args.input.now.content c.args.edit was.edited c.args.entries.now c.settle_to.new.self
    c.carry.new.entries c.settle_to.ensures c.in_ok-carry.ensures.carried in
    omega (arith, few, c.count_after-after.ensures, c.count_after.ensures)

pub returns-clause-changed : goal.returns-clause-changed
returns-clause-changed g c =
    let r = c.args.regex.now in
    let new = c.args.input.now.content in
    let was = c.requires.were in
    let edit = c.args.edit in
    let g0 = c.args.entries.now in
    let g1 = c.settle_to.new.self in
    let g4 = c.carry.new.entries in
    let settled = c.settle_to.ensures in
    let on = c.in_ok-carry.ensures in
    let raw = split (regex_kind r) (seeks r) was.old new edit was.edited g0 g1 g4 settled on.carried
    (record { first = c.count_before-first.result; dropped = c.count_after-after.result - c.count_after.result; added = length g4.before - c.count_before-first.result; span = edit.replaced })
    c.count_before-first.ensures (ap₂ (λ m n. m - n) c.count_after-after.ensures c.count_after.ensures) (ap (λ n. length g4.before - n) c.count_before-first.ensures) in
    let set = laid (regex_kind r) (seeks r) was.old new edit was.edited g0 g1 g4 settled on.carried was.are on.all on.len c.content_fits.ensures in
    let ahead = subst (λ k. AreAhead (all_of g0) k c.of-ahead.result) (sym c.count_before-first.ensures)
    (subst (λ es. AreAhead es (length g1.before) c.of-ahead.result) settled.all c.of-ahead.ensures) in
    c.change_of.ensures.changed (all_of g0) (length was.old) ahead raw set

pub returns-clause-drawn : goal.returns-clause-drawn
returns-clause-drawn g c =
    let r = c.args.regex.now in
    let new = c.args.input.now.content in
    let was = c.requires.were in
    let edit = c.args.edit in
    let g0 = c.args.entries.now in
    let g1 = c.settle_to.new.self in
    let g4 = c.carry.new.entries in
    let settled = c.settle_to.ensures in
    let on = c.in_ok-carry.ensures in
    let raw = split (regex_kind r) (seeks r) was.old new edit was.edited g0 g1 g4 settled on.carried
    (record { first = c.count_before-first.result; dropped = c.count_after-after.result - c.count_after.result; added = length g4.before - c.count_before-first.result; span = edit.replaced })
    c.count_before-first.ensures (ap₂ (λ m n. m - n) c.count_after-after.ensures c.count_after.ensures) (ap (λ n. length g4.before - n) c.count_before-first.ensures) in
    let set = laid (regex_kind r) (seeks r) was.old new edit was.edited g0 g1 g4 settled on.carried was.are on.all on.len c.content_fits.ensures in
    let ahead = subst (λ k. AreAhead (all_of g0) k c.of-ahead.result) (sym c.count_before-first.ensures)
    (subst (λ es. AreAhead es (length g1.before) c.of-ahead.result) settled.all c.of-ahead.ensures) in
    c.change_of.ensures.drawn (all_of g0) (length was.old) ahead raw set
