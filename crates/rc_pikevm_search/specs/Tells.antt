-- Captures: what they hold after a search.
use Rattle.std.specs.Prelude.{◌≡◌, ℕ, ◌+◌, ◌*◌, List, [], ◌∷◌, length, Option, Some, None, nat_eq, if◌then◌else◌}
use Rattle.rc_text.specs.Found.{Found}
use Rattle.rc_text.specs.declared.types.MatchKind.{MatchKind}
use Rattle.rc_text.specs.declared.types.MatchKind.TheVariants.{All as all_matches, LeftmostFirst as leftmost_first, LeftmostLongest as leftmost_longest}
use Rattle.rc_captures.specs.Captures.{captures_names, captures_pattern, captures_slots, HasMatch}
use Rattle.rc_captures.specs.Names.{Names, slot_len}
use Rattle.rc_captures.specs.declared.captures.Captures.{Captures}
use Rattle.rc_program.specs.Greatest.{greatest}
use Rattle.rc_program.specs.Longest.{longest_chosen}
use Rattle.rc_program.specs.Answer.{Search, Chosen, chosen, pattern_of, slot_of}

-- The captures are of patterns with these names, and keep all their groups.
pub record KeepsAll (names : Names) (caps : Captures) : Type 0 where
  pub named : captures_names caps ≡ names
  pub sized : length (captures_slots caps) ≡ slot_len names

-- The match that a chosen walk is, with the position in each of its pattern's slots.
abbrev pub TellsOf : Search → Option Chosen → Captures → Type 0
TellsOf s None caps = captures_pattern caps ≡ None
TellsOf s (Some c) caps = HasMatch caps (pattern_of s c) (slot_of s c)

-- The match of a search, with its groups; no match if the search has no answer.
abbrev pub Tells : Search → Captures → Type 0
Tells s caps = TellsOf s (chosen s) caps

-- Slot k of a match whose span alone is known.
abbrev pub span_slot : Found → ℕ → Option ℕ
span_slot m k = if nat_eq k (2 * m.pattern) then Some m.start else if nat_eq k (2 * m.pattern + 1) then Some m.end else None

-- The match, and no group of it.
abbrev pub TellsSpan : Option Found → Captures → Type 0
TellsSpan None caps = captures_pattern caps ≡ None
TellsSpan (Some m) caps = HasMatch caps m.pattern (span_slot m)

-- The match of a kind, with its groups if it is a walk.
abbrev pub TellsBy : MatchKind → Search → Captures → Type 0
TellsBy all_matches s caps = TellsSpan (greatest s) caps
TellsBy leftmost_first s caps = Tells s caps
TellsBy leftmost_longest s caps = TellsOf s (longest_chosen s) caps

-- Each of the captures holds the match of one of the walks, in order.
abbrev pub AllTell : Search → List Chosen → List Captures → Type 0
AllTell s [] [] = Unit {0}
AllTell s (c ∷ cs) (x ∷ xs) = TellsOf s (Some c) x × AllTell s cs xs
AllTell s [] (x ∷ xs) = ⊥
AllTell s (c ∷ cs) [] = ⊥
