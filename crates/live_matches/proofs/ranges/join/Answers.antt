use Rattle.std.proofs.Common.{◌∙◌, None, Some, sym, ap, subst}
use Rattle.api_meta.specs.Views.{regex_kind}
use Rattle.live_matches.specs.Entries.{Gapped}
use Rattle.live_matches.specs.Lists.{AreFirst}
use Rattle.live_matches.specs.Live.{seeks}
use Rattle.live_matches.specs.Ranges.{AreUpTo}
use Rattle.live_matches.proofs.Joins.{all_after, all_before}
use Rattle.live_matches.proofs.ranges.join.Goals as goal

pub take_after-requires : goal.take_after-requires
take_after-requires g c = c.settle_to-2.ensures.len ∙ c.requires.next_len ∙ sym c.requires.len ∙ sym c.settle_to.ensures.len

pub search_to-requires-clause-len : goal.search_to-requires-clause-len
search_to-requires-clause-len g c =
    ap (λ (l : Gapped). l.len) c.in_ok-take_after.ensures ∙ c.settle_to.ensures.len ∙ c.requires.len

pub search_to-requires-clause-first : goal.search_to-requires-clause-first
search_to-requires-clause-first g c =
    let r = c.args.regex.now in
    let content = c.args.input.now.content in
    subst (AreFirst (regex_kind r) (seeks r) content None) (sym (ap (λ (l : Gapped). l.before) c.in_ok-take_after.ensures))
    (all_before (regex_kind r) (seeks r) content None _ c.args.entries.now c.settle_to.new.self c.requires.first c.settle_to.ensures)

pub search_to-requires-clause-rest : goal.search_to-requires-clause-rest
search_to-requires-clause-rest g c =
    let r = c.args.regex.now in
    let content = c.args.input.now.content in
    subst (AreUpTo (regex_kind r) (seeks r) content c.args.range.end (Some c.args.range.start)) (sym (ap (λ (l : Gapped). l.after) c.in_ok-take_after.ensures))
    (all_after (regex_kind r) (seeks r) content c.args.range.end c.args.range.start c.args.next c.settle_to-2.new.self c.requires.behind c.requires.next c.settle_to-2.ensures)
