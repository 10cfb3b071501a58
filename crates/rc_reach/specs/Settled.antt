-- Settled answers: which bytes an answer depends on.
use Rattle.std.specs.Prelude.{◌≡◌, ℕ, ◌≤◌, length, take}
use Rattle.rc_text.specs.declared.types.MatchKind.{MatchKind}
use Rattle.rc_text.specs.declared.types.MatchKind.TheVariants.{LeftmostFirst as leftmost_first, LeftmostLongest as leftmost_longest, All as all_matches}
use Rattle.rc_program.specs.Answer.{Search, chosen}
use Rattle.rc_program.specs.Kinds.{answer_by}
use Rattle.rc_program.specs.Longest.{longest_chosen}

-- The bounds of the search are in the slice, and the slice ends in the content.
pub record IsInside (s : Search) : Type 0 where
  pub lo : s.text.slice_start ≤ s.lo
  pub hi : s.hi ≤ s.text.slice_end
  pub slice_end : s.text.slice_end ≤ length s.text.content

-- Below r the two searches are the same. They have one program, one start and one anchoring, and
-- they see the same bytes before r: up to `hi`, of which walks read; up to the end of the slice,
-- which assertions see; and in the whole content, which has the boundaries. If one of these three
-- ends before r, it ends there in both searches.
pub record AgreesBelow (r : ℕ) (s t : Search) : Type 0 where
  pub places : t.places ≡ s.places
  pub terminator : t.text.terminator ≡ s.text.terminator
  pub slice_start : t.text.slice_start ≡ s.text.slice_start
  pub lo : t.lo ≡ s.lo
  pub anchoring : t.anchoring ≡ s.anchoring
  pub passes_over : t.passes_over ≡ s.passes_over
  pub read : take r (take t.hi t.text.content) ≡ take r (take s.hi s.text.content)
  pub seen : take r (take t.text.slice_end t.text.content)
      ≡ take r (take s.text.slice_end s.text.content)
  pub content : take r t.text.content ≡ take r s.text.content

-- The bytes before r settle the answer: each search that is the same below r has it too.
abbrev pub IsSettled : MatchKind → ℕ → Search → Type 0
IsSettled kind r s = (t : Search) → IsInside t → AgreesBelow r s t →
    answer_by kind t ≡ answer_by kind s

-- They settle its walk too, and so its groups. A greatest match has none, so its span counts.
abbrev pub IsWalkSettled : MatchKind → ℕ → Search → Type 0
IsWalkSettled leftmost_first r s =
    (t : Search) → IsInside t → AgreesBelow r s t → chosen t ≡ chosen s
IsWalkSettled leftmost_longest r s =
    (t : Search) → IsInside t → AgreesBelow r s t → longest_chosen t ≡ longest_chosen s
IsWalkSettled all_matches r s = IsSettled all_matches r s
