-- Columns: what a step is told of a symbol, and which symbols share a column of a DFA's table.
use Rattle.std.specs.Prelude.{◌≡◌, ℕ, ◌<◌, ◌≤◌, ◌==◌, false, ◌&&◌, Some, None, is_none}
use Rattle.std.specs.Option.{unwrap_or}
use Rattle.rc_program.specs.Looks.{is_word_byte}
use Rattle.rc_program.specs.Text.{Text}
use Rattle.rc_symbols.specs.Symbols.{Tag, Symbol, IsSymbolAt}
use Rattle.rc_determinize.specs.declared.sides.Seen.{Seen}
use Rattle.rc_determinize.specs.declared.sides.Asked.{Asked}
use Rattle.rc_determinize.specs.declared.sides.Sides.{Sides}
use Rattle.rc_determinize.specs.Sides.{asked, sides_of, AreAlike}
use Rattle.rc_determinize.specs.States.{Setting, State, sides_ahead, sides_behind}
use Rattle.rc_dfa.specs.Machine.{Machine, LeadsOver}

-- The facts about a side on which this byte stands, of a scalar of this tag or of none.
abbrev pub seen_tagged : ℕ → ℕ → Tag → Seen
seen_tagged terminator b tag = record {
  edge = false;
  terminator = b == terminator;
  line_feed = b == 10;
  carriage_return = b == 13;
  word = is_word_byte b;
  letter = unwrap_or tag false;
  broken = is_none tag;
}

-- The same, as far as the program asks.
abbrev pub told_tagged : Asked → ℕ → ℕ → Tag → Seen
told_tagged needs terminator b tag = asked needs (seen_tagged terminator b tag)

-- What a step over the byte is told, by the tags on the side on which it stands and on the other.
abbrev pub sides_tagged : Asked → ℕ → ℕ → Tag → Tag → Sides
sides_tagged needs terminator b near far = record { byte = Some b; near = told_tagged needs terminator b near; far = told_tagged needs terminator b far }

-- The facts, with those about Unicode's words as a scalar of this tag has them.
abbrev pub retagged : Asked → Tag → Seen → Seen
retagged needs tag seen = record seen { letter = needs.unicode && unwrap_or tag false; broken = needs.unicode && is_none tag }

-- The state, as if a scalar of this tag had ended with the byte before.
abbrev pub turned : Asked → Tag → State → State
turned needs tag s = record s { beside = retagged needs tag s.beside }

-- The law of columns: those of the classes of bytes, and past ASCII one more of each class for each
-- pair of tags.
pub record ColumnLaw : Type 0 where
  -- What a step is told of a byte of the slice, its symbol tells, forwards and backwards.
  pub ahead : (g : Setting) (t : Text) (i : ℕ) (y : Symbol) → IsSymbolAt t i y →
      sides_ahead g t i ≡ sides_tagged g.needs g.terminator y.byte y.opens y.shuts
  pub behind : (g : Setting) (t : Text) (i : ℕ) (y : Symbol) → IsSymbolAt t i y →
      sides_behind g t i ≡ sides_tagged g.needs g.terminator y.byte y.shuts y.opens
  -- A byte that is known alone is a scalar of its own, or one past ASCII that has none.
  pub ascii : (needs : Asked) (terminator b : ℕ) → b < 128 →
      sides_of needs terminator (Some b) ≡ sides_tagged needs terminator b (Some (is_word_byte b)) (Some (is_word_byte b))
  pub other : (needs : Asked) (terminator b : ℕ) → 128 ≤ b → sides_of needs terminator (Some b) ≡ sides_tagged needs terminator b None None
  -- Past ASCII, bytes that are alike lead alike, each with the same tags.
  pub alike : (m : Machine) (b c : ℕ) (near far : Tag) (s next : State) → AreAlike m.setting.places m.setting.needs m.setting.terminator b c → 128 ≤ b →
      128 ≤ c → LeadsOver m s (sides_tagged m.setting.needs m.setting.terminator b near far) next →
      LeadsOver m s (sides_tagged m.setting.needs m.setting.terminator c near far) next
  -- What ends with the byte is left to a turn, which goes by that tag alone.
  pub turns : (m : Machine) (b : ℕ) (near far : Tag) (s next : State) →
      LeadsOver m s (sides_tagged m.setting.needs m.setting.terminator b near None) next →
      LeadsOver m s (sides_tagged m.setting.needs m.setting.terminator b near far) (turned m.setting.needs far next)
