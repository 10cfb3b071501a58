-- Only proofs use this file.
-- The matches of patterns that spell no newline lie in one line each.
use denote.Struct.Props.{props}
use Rattle.std.proofs.Common.{ℕ, zero, suc, ◌≡◌, ◌∙◌, ◌+◌, ◌-◌, Bool, true, false, List, Option, Some, None, All, ap, cond, map, refl, subst, sym, true≢false}
use Rattle.std.proofs.lemmas.List.Elements.{All-cons, All-nil, All-weaker}
use Rattle.std.proofs.lemmas.Option.{none-some}
use Rattle.std.proofs.Math.Logic.{∥∥₁_elim}
use Rattle.rc_text.specs.Found.{Found}
use Rattle.rc_text.specs.declared.types.MatchKind.TheVariants.{LeftmostFirst}
use Rattle.rc_pattern.specs.Re.{Re}
use Rattle.rc_pattern.specs.WellFormed.{HasBounds, IsWellFormed}
use Rattle.rc_program.specs.Answer.{Search}
use Rattle.rc_program.specs.Kinds.{answer_by_from, matches_by_kind}
use Rattle.rc_program.specs.Matches.{and_on, begin_of, end_of, from_on, is_again, matches_by, next_match, unless_again}
use Rattle.rc_program.specs.Program.{shown}
use Rattle.rc_program.specs.Sought.{search_for}
use Rattle.rc_program.specs.Text.{Text}
use Rattle.rc_literals.specs.Needs.{LeavesOut, is_stop}
use Rattle.rc_program.proofs.GreatestLemmas.{greatest_law}
use Rattle.rc_program.proofs.GroupLemmas.{group_law, shown_all, without_groups_bounded}
use Rattle.api_meta.specs.Views.{regex_kind, sought}
use Rattle.api_meta.specs.declared.regex.Regex.{Regex}
use Rattle.grep_output.specs.InLines.{LiesInLine}
use Rattle.rcgrep.specs.Kept.{KeepsToLines, SpellNoNewline}
use Rattle.rcgrep.specs.Picked.{span_of, text_matches}
use Rattle.regex_cursor.specs.Output.{whole}

module _ (r : Regex) (is : KeepsToLines r) (text : List ℕ) where
  abbrev s : Search
  s = search_for (sought r) (whole text)

  abbrev find : ℕ → Option Found
  find = answer_by_from (regex_kind r) s

  abbrev Lies : Found → Type 0
  Lies m = LiesInLine text (span_of m)

  found_in_line : (k : ℕ) (m : Found) → find k ≡ Some m → Lies m
  found_in_line k m e = λ j from to.
      let q = sought r in
      let spelled = greatest_law.answer_spelled (from_on s k) m (sym (ap (λ kind. answer_by_from kind s k) is.kind) ∙ e) in
      let bounds = shown_all HasBounds without_groups_bounded q.grouped q.patterns is.bounded in
      let parts = (greatest_law.by_program (shown q.grouped q.patterns) (from_on s k) m bounds refl).0 spelled in
      is.spelled s.text m.pattern m.start m.end j ((group_law.shown_spells s.text q.grouped 0 q.patterns m.pattern m.start m.end).0 parts.3) from to

  next_in_line : (k : ℕ) (last : Option ℕ) (m : Found) (o : Option Found) → find k ≡ o → unless_again begin_of end_of find k last o ≡ Some m → Lies m
  next_in_line k last m None e h = absurd (none-some m h)
  next_in_line k last m (Some n) e h = at (is_again begin_of end_of last n) h
    where
      at : (b : Bool) → cond b (find (k + 1)) (Some n) ≡ Some m → Lies m
      at true f = found_in_line (k + 1) m f
      at false f = found_in_line k m (e ∙ f)

  -- the next match, and those behind it
  more_in_line : (n k : ℕ) (last : Option ℕ) (o : Option Found) → next_match begin_of end_of find k last ≡ o →
      ((m : Found) → All (LiesInLine text) (map span_of (matches_by begin_of end_of find n m.end (Some m.end)))) →
      All (LiesInLine text) (map span_of (and_on begin_of end_of find (λ m. matches_by begin_of end_of find n m.end (Some m.end)) o))
  more_in_line n k last None e behind = All-nil (LiesInLine text)
  more_in_line n k last (Some m) e behind =
      All-cons (LiesInLine text) (span_of m) (map span_of (matches_by begin_of end_of find n m.end (Some m.end))) (next_in_line k last m (find k) refl e) (behind m)

  all_in_line : (n k : ℕ) (last : Option ℕ) → All (LiesInLine text) (map span_of (matches_by begin_of end_of find n k last))
  all_in_line zero k last = All-nil (LiesInLine text)
  all_in_line (suc n) k last = more_in_line n k last (next_match begin_of end_of find k last) refl (λ m. all_in_line n m.end (Some m.end))

  matches_in_line : All (LiesInLine text) (text_matches r text)
  unfolding matches_by_kind
  matches_in_line = all_in_line (s.hi + 1 - 0) 0 None

pub kept_lines : (r : Regex) → ∥ KeepsToLines r ∥₁ → (text : List ℕ) → All (LiesInLine text) (text_matches r text)
kept_lines r h text = ∥∥₁_elim h (hlevel props) (λ is. matches_in_line r is text)

-- the patterns read no newline
pub none_spelled : (hs : List Re) (stops : List Bool) → ((t : Text) → LeavesOut t hs stops) → is_stop stops 10 ≡ true → (t : Text) → SpellNoNewline t hs
none_spelled hs stops leaves stop t p i j k spelled from to e = true≢false (sym stop ∙ leaves t p i j k 10 spelled from to e)

-- the patterns were built of such ones
pub built_kept : (r : Regex) (hs : List Re) → regex_kind r ≡ LeftmostFirst → (sought r).patterns ≡ hs → All IsWellFormed hs → ((t : Text) → SpellNoNewline t hs) →
    KeepsToLines r
built_kept r hs kind same ok spelled = record {
  kind = kind;
  bounded = subst (All HasBounds) (sym same) (All-weaker IsWellFormed HasBounds (λ h f. f.bounded) hs ok);
  spelled = λ t. subst (SpellNoNewline t) (sym same) (spelled t);
}
