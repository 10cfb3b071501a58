-- Look-around: what a step needs to know of the two sides of a position, as facts about each.
use Rattle.std.specs.Prelude.{◌≡◌, ◌↔◌, ℕ, Bool, true, false, not, ◌&&◌, ◌||◌, ◌<◌, List, [], ◌∷◌, map, Option, Some, None, nat_le, nat_lt, if◌then◌else◌, IsTrue}
use Rattle.rc_pattern.specs.Re.{Range}
use Rattle.rc_program.specs.Program.{Place, byte, branch, guard, Way, ways_out, place_at}
use Rattle.rc_determinize.specs.declared.sides.Seen.{Seen}
use Rattle.rc_determinize.specs.declared.sides.Facts.{Facts}
use Rattle.rc_determinize.specs.declared.sides.Asked.{Asked}
use Rattle.rc_determinize.specs.declared.sides.Sides.{Sides}
use Rattle.rc_determinize.specs.Steps.{out_by}
use Rattle.rc_pattern.specs.declared.hir.Look.{Look}
use Rattle.rc_pattern.specs.declared.hir.Look.TheVariants.{Start, End, StartLF, EndLF, StartCRLF, EndCRLF, WordAscii, WordAsciiNegate, WordUnicode, WordUnicodeNegate, WordStartAscii, WordEndAscii, WordStartUnicode, WordEndUnicode, WordStartHalfAscii, WordEndHalfAscii, WordStartHalfUnicode, WordEndHalfUnicode}
use Rattle.rc_program.specs.Looks.{Side, nothing, stands, differ, is_edge, has_byte, is_ascii_word, is_unicode_word, is_broken, holds_between}

-- The facts about a side: that there is no byte, or that it is a line terminator, an LF, a CR, or a
-- word byte of ASCII; that a word character of Unicode stands there, or bytes that are no scalar.
abbrev pub seen_by : ℕ → Side → Seen
seen_by terminator side = record {
  edge = is_edge side;
  terminator = has_byte terminator side;
  line_feed = has_byte 10 side;
  carriage_return = has_byte 13 side;
  word = is_ascii_word side;
  letter = is_unicode_word side;
  broken = is_broken side;
}

-- A byte as a side, or the end. A byte of ASCII is a scalar of its own.
abbrev pub side_of : Option ℕ → Side
side_of None = nothing
side_of (Some b) = stands b (if nat_lt b 128 then Some b else None)

-- The facts about a byte, or about the end.
abbrev pub seen_of : ℕ → Option ℕ → Seen
seen_of terminator b = seen_by terminator (side_of b)

-- The assertion holds, by the facts about the two sides.
abbrev pub holds_by : Seen → Seen → Look → Bool
holds_by before after Start = before.edge
holds_by before after End = after.edge
holds_by before after StartLF = before.edge || before.terminator
holds_by before after EndLF = after.edge || after.terminator
holds_by before after StartCRLF = before.edge || before.line_feed || (before.carriage_return && not after.line_feed)
holds_by before after EndCRLF = after.edge || after.carriage_return || (after.line_feed && not before.carriage_return)
holds_by before after WordAscii = differ before.word after.word
holds_by before after WordAsciiNegate = not (differ before.word after.word)
holds_by before after WordUnicode = differ before.letter after.letter
holds_by before after WordUnicodeNegate = not before.broken && not after.broken && not (differ before.letter after.letter)
holds_by before after WordStartAscii = not before.word && after.word
holds_by before after WordEndAscii = before.word && not after.word
holds_by before after WordStartUnicode = not before.letter && after.letter
holds_by before after WordEndUnicode = before.letter && not after.letter
holds_by before after WordStartHalfAscii = not before.word
holds_by before after WordEndHalfAscii = not after.word
holds_by before after WordStartHalfUnicode = not before.broken && not before.letter
holds_by before after WordEndHalfUnicode = not after.broken && not after.letter

-- The facts about the two sides decide each assertion, whatever bytes stand there.
abbrev pub HoldsLaw : Type 0
HoldsLaw = (terminator : ℕ) (before after : Side) (look : Look) →
    holds_by (seen_by terminator before) (seen_by terminator after) look ≡ holds_between terminator before after look

-- The assertion depends on Unicode's words.
abbrev pub is_unicode : Look → Bool
is_unicode WordUnicode = true
is_unicode WordUnicodeNegate = true
is_unicode WordStartUnicode = true
is_unicode WordEndUnicode = true
is_unicode WordStartHalfUnicode = true
is_unicode WordEndHalfUnicode = true
is_unicode _ = false

-- There is no byte, or an ASCII byte with its scalar.
abbrev pub IsPlain : Side → Type 0
IsPlain nothing = Unit {0}
IsPlain (stands b c) = (b < 128) × (c ≡ Some b)

-- The facts that some assertions ask for; all others are false.
abbrev pub asked : Asked → Seen → Seen
asked needs seen = record {
  edge = needs.facts.edge && seen.edge;
  terminator = needs.facts.terminator && seen.terminator;
  line_feed = needs.facts.line_feed && seen.line_feed;
  carriage_return = needs.facts.carriage_return && seen.carriage_return;
  word = needs.facts.word && seen.word;
  letter = needs.unicode && seen.letter;
  broken = needs.unicode && seen.broken;
}

-- The facts about a byte that the assertion asks for are needed.
abbrev pub asks : Look → Facts → Type 0
asks Start needs = IsTrue needs.edge
asks End needs = IsTrue needs.edge
asks StartLF needs = IsTrue needs.edge × IsTrue needs.terminator
asks EndLF needs = IsTrue needs.edge × IsTrue needs.terminator
asks StartCRLF needs = IsTrue needs.edge × IsTrue needs.line_feed × IsTrue needs.carriage_return
asks EndCRLF needs = IsTrue needs.edge × IsTrue needs.line_feed × IsTrue needs.carriage_return
asks WordAscii needs = IsTrue needs.word
asks WordAsciiNegate needs = IsTrue needs.word
asks WordStartAscii needs = IsTrue needs.word
asks WordEndAscii needs = IsTrue needs.word
asks WordStartHalfAscii needs = IsTrue needs.word
asks WordEndHalfAscii needs = IsTrue needs.word
asks _ needs = Unit {0}

-- The byte of the side, if there is one.
abbrev pub byte_of : Side → Option ℕ
byte_of nothing = None
byte_of (stands b c) = Some b

-- The assertion is that of the place.
abbrev pub HasLook : Look → Place → Type 0
HasLook l (guard k n) = k ≡ l
HasLook l _ = ⊥

-- The assertions of the program ask for no more.
pub record Covers (needs : Asked) (places : List Place) : Type 0 where
  pub facts : (q : ℕ) (l : Look) → HasLook l (place_at places q) → asks l needs.facts
  pub unicode : (q : ℕ) (l : Look) → HasLook l (place_at places q) → IsTrue (is_unicode l) → IsTrue needs.unicode

-- The second asks for all that the first asks for.
pub record AsksNoMore (fewer more : Asked) : Type 0 where
  pub edge : IsTrue fewer.facts.edge → IsTrue more.facts.edge
  pub terminator : IsTrue fewer.facts.terminator → IsTrue more.facts.terminator
  pub line_feed : IsTrue fewer.facts.line_feed → IsTrue more.facts.line_feed
  pub carriage_return : IsTrue fewer.facts.carriage_return → IsTrue more.facts.carriage_return
  pub word : IsTrue fewer.facts.word → IsTrue more.facts.word
  pub unicode : IsTrue fewer.unicode → IsTrue more.unicode

-- Exactly what the assertions of the program ask for.
pub record AreAsked (needs : Asked) (places : List Place) : Type 0 where
  pub covers : Covers needs places
  pub least : (other : Asked) → Covers other places → AsksNoMore needs other

-- The assertion of the place, if it has one.
abbrev pub guarded : Place → Option Look
guarded (guard l n) = Some l
guarded _ = None

-- The needs, with what the assertion asks for.
abbrev pub asking : Look → Asked → Asked
asking Start needs = record needs { facts = record needs.facts { edge = true } }
asking End needs = record needs { facts = record needs.facts { edge = true } }
asking StartLF needs = record needs { facts = record needs.facts { edge = true; terminator = true } }
asking EndLF needs = record needs { facts = record needs.facts { edge = true; terminator = true } }
asking StartCRLF needs = record needs { facts = record needs.facts { edge = true; line_feed = true; carriage_return = true } }
asking EndCRLF needs = record needs { facts = record needs.facts { edge = true; line_feed = true; carriage_return = true } }
asking WordAscii needs = record needs { facts = record needs.facts { word = true } }
asking WordAsciiNegate needs = record needs { facts = record needs.facts { word = true } }
asking WordStartAscii needs = record needs { facts = record needs.facts { word = true } }
asking WordEndAscii needs = record needs { facts = record needs.facts { word = true } }
asking WordStartHalfAscii needs = record needs { facts = record needs.facts { word = true } }
asking WordEndHalfAscii needs = record needs { facts = record needs.facts { word = true } }
asking _ needs = record needs { unicode = true }

-- The facts about a side, as far as the program asks.
abbrev pub told_side : Asked → ℕ → Side → Seen
told_side needs terminator side = asked needs (seen_by terminator side)

-- The facts about a byte, or about the end, as far as the program asks.
abbrev pub told : Asked → ℕ → Option ℕ → Seen
told needs terminator b = told_side needs terminator (side_of b)

-- What a step is told that knows this byte alone, or the end: the same of both its sides.
abbrev pub sides_of : Asked → ℕ → Option ℕ → Sides
sides_of needs terminator b = record { byte = b; near = told needs terminator b; far = told needs terminator b }

-- What a step is told that knows all of the side on which the byte stands: that side, and this of
-- the one on which the byte stands for the new state.
abbrev pub sides_near : Asked → ℕ → Side → Seen → Sides
sides_near needs terminator near far = record { byte = byte_of near; near = told_side needs terminator near; far = far }

-- The ways out of a place, by these facts about the side before, and what is told ahead.
abbrev pub out_over : List Place → Seen → Sides → ℕ → List Way
out_over places behind sides = out_by places (holds_by behind sides.near) sides.byte

-- The same, if the byte ahead is known alone, or none is there.
abbrev pub out_seen : List Place → Asked → ℕ → Seen → Option ℕ → ℕ → List Way
out_seen places needs terminator behind after = out_over places behind (sides_of needs terminator after)

-- The byte is ASCII; or no assertion depends on Unicode's words.
abbrev pub IsReadable : Asked → Option ℕ → Type 0
IsReadable needs None = Unit {0}
IsReadable needs (Some b) = IsTrue needs.unicode → b < 128

-- No step can tell the bytes apart, and both may be read or none.
pub record AreAlike (places : List Place) (needs : Asked) (terminator b c : ℕ) : Type 0 where
  pub told_same : told needs terminator (Some b) ≡ told needs terminator (Some c)
  pub read_same : (q : ℕ) (test : Look → Bool) → ways_out test (b ∷ []) (place_at places q) ≡ ways_out test (c ∷ []) (place_at places q)
  pub readable : IsReadable needs (Some b) ↔ IsReadable needs (Some c)

-- The ranges of bytes that a place reads.
abbrev pub ranges_of : Place → List Range
ranges_of (byte rs n) = rs
ranges_of (branch ts) = map (λ (t : Range × ℕ). t.0) ts
ranges_of _ = []

-- The range contains both bytes, or none of them.
abbrev pub holds_both : ℕ → ℕ → Range → Type 0
holds_both b c r = (nat_le r.0 b && nat_le b r.1) ≡ (nat_le r.0 c && nat_le c r.1)
