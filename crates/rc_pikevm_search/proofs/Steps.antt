-- Searches of an input whose span starts elsewhere.
use Rattle.std.proofs.Common.{◌≡◌, ◌∙◌, ◌+◌, ◌-◌, ◌≤◌, ℕ, zero, suc, max, Bool, false, All, List, [], ◌∷◌, length, Option, Some, None, IfSome, ap, sym, refl, arith}
use Rattle.std.specs.List.{AllByRecursion}
use Rattle.rc_text.specs.declared.types.Anchored.{Anchored}
use Rattle.rc_text.specs.declared.types.Span.{Span}
use Rattle.rc_text.specs.Found.{Found}
use Rattle.rc_text.specs.Text.{Searched, Keeps}
use Rattle.rc_program.specs.Program.{Place}
use Rattle.rc_text.specs.declared.types.MatchKind.{MatchKind}
use Rattle.rc_program.specs.Answer.{Search}
use Rattle.rc_program.specs.Sought.{search_over}
use Rattle.rc_program.specs.Kinds.{answer_by, answer_by_from, matches_by_kind}
use Rattle.rc_program.specs.Matches.{from_on, begin_of, end_of, next_match}
use Rattle.rc_program.proofs.GreatestLemmas.{spelled_within}
use Rattle.rc_program.proofs.KindLemmas.{kind_spelled, kinds_are, kinds_lie_within}
use Rattle.rc_program.proofs.MatchLemmas.{all_lie}
use Rattle.rc_pikevm_search.specs.Moved.{IsMoved}
use Rattle.rc_pikevm_search.proofs.Anywhere.{by_some, by_none, by_few}

-- the search of a content, from `start` to `end`, with this slice and anchoring
abbrev over : List Place → ℕ → Bool → List ℕ → ℕ → ℕ → Span → Anchored → Search
over places t b content start end slice anchored = search_over places t b (record {
  content = content;
  chunk = content;
  offset = 0;
  position = 0;
  span = record { start = start; end = end };
  slice = slice;
  anchored = anchored;
  earliest = false;
})

-- the search from where the span starts now
pub search_moved : (places : List Place) (t : ℕ) (b : Bool) (s u : Searched) → IsMoved s u →
    search_over places t b u ≡ from_on (search_over places t b s) u.span.start
search_moved places t b s u m =
    ap (λ x. over places t b x u.span.start u.span.end u.slice u.anchored) m.content
    ∙ ap (λ x. over places t b s.content u.span.start x u.slice u.anchored) m.end
    ∙ ap (λ x. over places t b s.content u.span.start s.span.end x u.anchored) m.slice
    ∙ ap (λ x. over places t b s.content u.span.start s.span.end s.slice x) m.anchored

-- the same where nothing but the chunk and the position changed
pub search_kept : (places : List Place) (t : ℕ) (b : Bool) (s u : Searched) → Keeps s u →
    search_over places t b u ≡ search_over places t b s
search_kept places t b s u k =
    ap (λ x. over places t b x u.span.start u.span.end u.slice u.anchored) k.content
    ∙ ap (λ (x : Span). over places t b s.content x.start x.end u.slice u.anchored) k.span
    ∙ ap (λ x. over places t b s.content s.span.start s.span.end x u.anchored) k.slice
    ∙ ap (λ x. over places t b s.content s.span.start s.span.end s.slice x) k.anchored

pub kept_is_moved : (s u : Searched) → Keeps s u → IsMoved s u
kept_is_moved s u k = record {
  content = k.content;
  end = ap (λ (x : Span). x.end) k.span;
  slice = k.slice;
  anchored = k.anchored;
  earliest = k.earliest;
}

-- the match of a kind lies within the bounds
pub answer_lies : (kind : MatchKind) (s : Search) (o : Option Found) → o ≡ answer_by kind s →
    IfSome o (λ m. (s.lo ≤ m.start) × (m.start ≤ m.end) × (m.end ≤ s.hi))
answer_lies kind s None e = tt
answer_lies kind s (Some m) e = spelled_within s m (kind_spelled kind s m (sym e))

-- where the search starts doesn't matter to a list from elsewhere on
pub left_from : (kind : MatchKind) (s : Search) (j k : ℕ) (last : Option ℕ) → matches_by_kind kind (from_on s j) k last ≡ matches_by_kind kind s k last
unfolding matches_by_kind
left_from kind s j k last = refl

-- the next match, and those after it
pub step_some : (kind : MatchKind) (s : Search) (k : ℕ) (last : Option ℕ) (m : Found) →
    Some m ≡ next_match begin_of end_of (answer_by_from kind s) k last →
    matches_by_kind kind s k last ≡ m ∷ matches_by_kind kind s m.end (Some m.end)
unfolding matches_by_kind
step_some kind s k last m f = by_some begin_of end_of (answer_by_from kind s) s.text.slice_start s.hi (kinds_lie_within kind s) k last m (sym f)

pub step_none : (kind : MatchKind) (s : Search) (k : ℕ) (last : Option ℕ) →
    None ≡ next_match begin_of end_of (answer_by_from kind s) k last → matches_by_kind kind s k last ≡ []
unfolding matches_by_kind
step_none kind s k last f =
    by_none begin_of end_of (answer_by_from kind s) s.text.slice_start s.hi (kinds_lie_within kind s) (s.hi + 1 - k) k last (sym f)

-- no more are left than positions
pub left_short : (kind : MatchKind) (s : Search) (k : ℕ) (last : Option ℕ) → length (matches_by_kind kind s k last) ≤ s.hi + 1 - k
unfolding matches_by_kind
left_short kind s k last =
    by_few begin_of end_of (answer_by_from kind s) s.text.slice_start s.hi (kinds_lie_within kind s) (s.hi + 1 - k) k last

-- each match of the list lies within the bounds
all_within : (s : Search) (k : ℕ) (ms : List Found) →
    AllByRecursion (λ (m : Found). (k ≤ m.start) × (s.text.slice_start ≤ m.start) × (m.start ≤ m.end) × (m.end ≤ s.hi)) ms →
    All (λ (m : Found). (max k s.text.slice_start ≤ m.start) × (m.start ≤ m.end) × (m.end ≤ s.hi)) ms
all_within s k [] all i d l = absurd (omega (arith, l))
all_within s k (m ∷ ms) all zero d l = let h = all.0 in (omega (arith, h.0, h.1), h.2, h.3)
all_within s k (m ∷ ms) all (suc i) d l = all_within s k ms all.1 i d (omega (arith, l))

pub list_within : (kind : MatchKind) (s : Search) (k : ℕ) →
    All (λ (m : Found). (max k s.text.slice_start ≤ m.start) × (m.start ≤ m.end) × (m.end ≤ s.hi)) (matches_by_kind kind s k None)
list_within kind s k =
    all_within s k (matches_by_kind kind s k None)
    (all_lie begin_of end_of (answer_by_from kind s) s.text.slice_start s.hi (kinds_lie_within kind s) k None (kinds_are kind s k None tt) tt)
