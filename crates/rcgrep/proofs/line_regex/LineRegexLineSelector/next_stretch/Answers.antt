use Rattle.std.proofs.Common.{ℕ, Option, IfSome, not, ◌≡◌, ◌≤◌, ◌<◌, ◌∙◌, ap, arith, length, refl, subst, sym, take}
use Rattle.std.specs.List.{slice_range}
use Rattle.rc_program.specs.Kinds.{answer_by}
use Rattle.rc_program.specs.Sought.{search_for}
use Rattle.api_meta.specs.Views.{regex_kind, sought}
use Rattle.regex_cursor.specs.Output.{whole}
use Rattle.grep_lines.specs.Lines.{AreLinesOf}
use Rattle.grep_lines.specs.Selected.{IsTurn}
use Rattle.rc_needles.specs.Prefilters.{needles_of}
use Rattle.rcgrep.specs.Local.{IsLineEnd, start_or}
use Rattle.rcgrep.specs.Needed.{HoldsNeedle}
use Rattle.rcgrep.specs.Picked.{has_match, is_picked}
use Rattle.rcgrep.specs.Selecting.{Selecting}
use Rattle.rcgrep.proofs.LocalLemmas.{first_inside, picked_none, turn_of, unmatched}
use Rattle.rcgrep.proofs.NeededLemmas.{without_needle}
use Rattle.rcgrep.proofs.line_regex.LineRegexLineSelector.next_stretch.Goals as goal

-- no line before the one with the first needle has a match
pub returns-in-Some-clause-alike : goal.returns-in-Some-clause-alike
returns-in-Some-clause-alike c = λ start end order near are.
    let inner = c.self.inside in
    let r = inner.patterns.now.regex in
    let page = c.args.page.now in
    let piece = slice_range page start end in
    let told = c.needle_start.ensures in
    sym (ap (λ (s : Selecting). is_picked s.is_inverted (has_match s.regex piece)) c.self.view_is)
    ∙ ap (is_picked inner.is_inverted)
    (without_needle (needles_of c.in-Some.needles) page r start end order (subst (λ n. n ≤ length page) told.start told.within)
    (subst (λ n. end < n) told.start near)
    (subst (λ o. IfSome o (λ p. ∥ HoldsNeedle r (needles_of p) ∥₁)) c.in-Some.is inner.patterns.now.held))
    ∙ picked_none inner.is_inverted

-- it lies in the page
pub returns-clause-within : goal.returns-clause-within
returns-clause-within c =
    let inner = c.self.inside in
    let r = inner.patterns.now.regex in
    let page = c.args.page.now in
    let reach = c.reach_in-reach.result in
    let text = take reach page in
    let told = c.stretch_in.ensures.place
    ∙ sym (ap (λ (s : Selecting). start_or (length text) (answer_by (regex_kind s.regex) (search_for (sought s.regex) (whole text)))) c.self.view_is) in
    subst (λ n. n ≤ length page) (sym told)
    (first_inside r page reach (omega (arith, c.reach_in-reach.ensures)) c.reach_in-reach.type_inv (inner.patterns.now.local c.if-not-self.false))

-- no line that ends before the match of the part that was searched has a match
pub returns-clause-alike : goal.returns-clause-alike
returns-clause-alike c = λ start end order near are.
    let inner = c.self.inside in
    let r = inner.patterns.now.regex in
    let page = c.args.page.now in
    let reach = c.reach_in-reach.result in
    let text = take reach page in
    let piece = slice_range page start end in
    let told = c.stretch_in.ensures.place
    ∙ sym (ap (λ (s : Selecting). start_or (length text) (answer_by (regex_kind s.regex) (search_for (sought s.regex) (whole text)))) c.self.view_is) in
    sym (ap (λ (s : Selecting). is_picked s.is_inverted (has_match s.regex piece)) c.self.view_is)
    ∙ ap (is_picked inner.is_inverted)
    (unmatched r page reach (omega (arith, c.reach_in-reach.ensures)) c.reach_in-reach.type_inv (inner.patterns.now.local c.if-not-self.false) start end order
    (subst (λ t. AreLinesOf t page start end) c.if-terminator-ne10.false are)
    (subst (λ n. end < n) told near))
    ∙ picked_none inner.is_inverted
    ∙ ap (λ (s : Selecting). s.is_inverted) c.self.view_is ∙ sym c.stretch_in.ensures.selected

-- the line of the match has one
pub returns-clause-turn : goal.returns-clause-turn
returns-clause-turn c =
    let inner = c.self.inside in
    let r = inner.patterns.now.regex in
    let page = c.args.page.now in
    let reach = c.reach_in-reach.result in
    let text = take reach page in
    let found = answer_by (regex_kind r) (search_for (sought r) (whole text)) in
    let view = c.self.view_is in
    let ends : IfSome c.stretch_in.result.turn (IsLineEnd text found) =
    subst (λ (s : Selecting). IfSome c.stretch_in.result.turn (IsLineEnd text (answer_by (regex_kind s.regex) (search_for (sought s.regex) (whole text))))) (sym view)
    c.stretch_in.ensures.turn in
    let place : c.stretch_in.result.place ≡ start_or (length text) found =
    c.stretch_in.ensures.place ∙ sym (ap (λ (s : Selecting). start_or (length text) (answer_by (regex_kind s.regex) (search_for (sought s.regex) (whole text)))) view) in
    let turns = turn_of r page reach (omega (arith, c.reach_in-reach.ensures)) c.reach_in-reach.type_inv (inner.patterns.now.local c.if-not-self.false) inner.is_inverted found refl
    c.stretch_in.result.place place c.stretch_in.result.turn ends in
    let same : inner.is_inverted ≡ c.stretch_in.result.is_selected = ap (λ (s : Selecting). s.is_inverted) view ∙ sym c.stretch_in.ensures.selected in
    subst (λ (s : Selecting). IfSome c.stretch_in.result.turn
    (IsTurn c.args.terminator (λ line. is_picked s.is_inverted (has_match s.regex line)) c.stretch_in.result.is_selected page c.stretch_in.result.place)) view
    (subst (λ b. IfSome c.stretch_in.result.turn (IsTurn c.args.terminator (λ line. is_picked inner.is_inverted (has_match r line)) b page c.stretch_in.result.place)) same
    (subst (λ t. IfSome c.stretch_in.result.turn (IsTurn t (λ line. is_picked inner.is_inverted (has_match r line)) inner.is_inverted page c.stretch_in.result.place))
    (sym c.if-terminator-ne10.false) turns))
