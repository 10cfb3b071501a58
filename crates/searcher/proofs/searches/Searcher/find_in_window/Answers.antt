use Rattle.std.proofs.Common.{◌≡◌, ◌∙◌, IfOk, Some, ap, arith, inl, inr, length, rules, subst, sym, true≢false}
use Rattle.std.specs.Arc.{arc_value}
use Rattle.std.specs.Option.{option_map}
use Rattle.rc_text.specs.Joined.{joined}
use Rattle.rc_program.specs.Kinds.{answer_by}
use Rattle.rc_program.specs.Sought.{search_for}
use Rattle.rc_reach.specs.Edits.{match_further}
use Rattle.rc_reach.specs.Partial.{IsPartial, final, from_place}
use Rattle.api_meta.specs.Views.{regex_kind, sought}
use Rattle.api_meta.specs.declared.regex.Regex.{Regex}
use Rattle.searcher.specs.Searching.{Searching}
use Rattle.searcher.specs.Windows.{Finds, HasAfter, IsSearched, IsTold}
use Rattle.searcher.proofs.Windows.{answers_all, answers_final, answers_onward, final_fits, searched}
use Rattle.searcher.proofs.searches.Searcher.find_in_window.Goals as goal
use Rattle.searcher.proofs.searches.Searcher.find_in_window.Goals.{in-Final, in-From, in-None, in-Some, then-is_last-via-then-is_last, then-is_last-via-else-is_last+then-saturating_sub-ge-LOOKS_AHEAD}

pub returns-then-is_last-clause-told : goal.returns-then-is_last-clause-told
returns-then-is_last-clause-told c =
    let r = arc_value c.self.inside.regex in
    let w = c.args.window in
    let bytes = joined c.args.chunks.now in
    let i = c.in-Ok.input in
    let len : c.unwrap-len.result ≡ length bytes = search rules in
    let can : IsSearched w bytes c.args.from c.args.end =
    searched w bytes c.args.from c.args.end c.unwrap-len.result (omega (arith, c.if-from-end.false)) (omega (arith, c.if-saturating_sub-start.false, c.saturating_sub.ensures))
    c.in-Ok.ensures.served.inside len (omega (arith, c.if-start-len.false)) in
    let has : HasAfter w bytes c.args.end =
    elim c.then-is_last.branch [
      | then-is_last-via-then-is_last v ↦ inl v.if-is_last.true
      | then-is_last-via-else-is_last+then-saturating_sub-ge-LOOKS_AHEAD v ↦ inr (omega (arith, len, v.if-saturating_sub-ge-LOOKS_AHEAD.true, v.saturating_sub-else-is_last.ensures, can.order, can.before))
    ] in
    let finds = answers_all r w bytes c.args.from c.args.end can i c.in-Ok.ensures.in_range c.search.result has
    (c.search.ensures.found ∙ ap (λ (q : Regex). answer_by (regex_kind q) (search_for (sought q) i)) c.deref.ensures) in
    subst (λ (s : Searching). IfOk c.match-search.result (IsTold s.regex w bytes c.args.from c.args.end)) c.self.view_is
    (elim c.match-search.branch [
      | in-Some v ↦ rw v.result-is (can, subst (Finds r w bytes c.args.from c.args.end) (ap (option_map (match_further w.start)) v.in-Some.is ∙ ap Some (sym v.moved.ensures)) finds)
      | in-None v ↦ rw v.result-is (can, subst (Finds r w bytes c.args.from c.args.end) (ap (option_map (match_further w.start)) v.in-None.is) finds)
    ])

pub moved-requires-in-Final : goal.moved-requires-in-Final
moved-requires-in-Final c =
    let r = arc_value c.self.inside.regex in
    let w = c.args.window in
    let bytes = joined c.args.chunks.now in
    let i = c.in-Ok.input in
    let len : c.unwrap-len.result ≡ length bytes = search rules in
    let can : IsSearched w bytes c.args.from c.args.end =
    searched w bytes c.args.from c.args.end c.unwrap-len.result (omega (arith, c.if-from-end.false)) (omega (arith, c.if-saturating_sub-start.false, c.saturating_sub.ensures))
    c.in-Ok.ensures.served.inside len (omega (arith, c.if-start-len.false)) in
    final_fits r w bytes c.args.from c.args.end can i c.in-Ok.ensures.in_range c.in-Final.found
    (subst (λ (q : Regex). IsPartial (regex_kind q) (search_for (sought q) i) (final c.in-Final.found)) c.deref-2.ensures c.in-Final.ensures.told)

pub returns-clause-told : goal.returns-clause-told
returns-clause-told c =
    let r = arc_value c.self.inside.regex in
    let w = c.args.window in
    let bytes = joined c.args.chunks.now in
    let i = c.in-Ok.input in
    let len : c.unwrap-len.result ≡ length bytes = search rules in
    let can : IsSearched w bytes c.args.from c.args.end =
    searched w bytes c.args.from c.args.end c.unwrap-len.result (omega (arith, c.if-from-end.false)) (omega (arith, c.if-saturating_sub-start.false, c.saturating_sub.ensures))
    c.in-Ok.ensures.served.inside len (omega (arith, c.if-start-len.false)) in
    let more : ¬ HasAfter w bytes c.args.end = λ has. elim has [
      | inl last ↦ absurd (true≢false (sym last ∙ c.if-is_last.false))
      | inr past ↦ absurd (omega (arith, len, past, c.if-saturating_sub-ge-LOOKS_AHEAD.false, c.saturating_sub-else-is_last.ensures, can.order, can.before))
    ] in
    subst (λ (s : Searching). IfOk c.match-search_partial_with.result (IsTold s.regex w bytes c.args.from c.args.end)) c.self.view_is
    (elim c.match-search_partial_with.branch [
      | in-Final v ↦ rw v.result-is (
        can,
        subst (λ m. Finds r w bytes c.args.from c.args.end (Some m)) (sym v.moved-in-Final.ensures)
            (answers_final r w bytes c.args.from c.args.end can i c.in-Ok.ensures.in_range v.in-Final.found
            (subst (λ (q : Regex). IsPartial (regex_kind q) (search_for (sought q) i) (final v.in-Final.found)) c.deref-2.ensures v.in-Final.ensures.told)),
      )
      | in-From v ↦ rw v.result-is
          (answers_onward r w bytes c.args.from c.args.end can i c.in-Ok.ensures.in_range v.in-From.place
          more
          (subst (λ (q : Regex). IsPartial (regex_kind q) (search_for (sought q) i) (from_place v.in-From.place)) c.deref-2.ensures v.in-From.ensures.told)
          v.in-From.ensures.onward)
    ])
