-- What captures hold of the preferred match of plain patterns.
use Rattle.std.specs.Prelude.{◌≡◌, ℕ, ◌<◌, ◌≤◌, length, MatchOption}
use Rattle.std.specs.Option.{option_map}
use Rattle.rc_text.specs.Text.{Searched}
use Rattle.rc_text.specs.declared.types.Span.{Span}
use Rattle.rc_captures.specs.Captures.{captures_names, captures_slots, group_span, match_of}
use Rattle.rc_captures.specs.Names.{group_len, slot_len}
use Rattle.rc_captures.specs.declared.captures.Captures.{Captures}
use Rattle.rc_program.specs.Sought.{Sought}
use Rattle.rc_parses.specs.Parses.{Parse, group_of}
use Rattle.rc_parses.specs.Preference.{MayBegin, IsPassedBy, IsPreferred, match_by}

-- the captures keep group n of pattern p, beside the whole match
pub record KeepsGroup (caps : Captures) (p n : ℕ) : Type 0 where
  pub explicit : 1 ≤ n
  pub named : n < group_len (captures_names caps) p
  pub sized : length (captures_slots caps) ≡ slot_len (captures_names caps)

abbrev pub span_between : ℕ × ℕ → Span
span_between r = record { start = r.0; end = r.1 }

-- the groups that are kept are those of the parse
abbrev pub HoldsGroups : Captures → Parse → Type 0
HoldsGroups caps p = (n : ℕ) → KeepsGroup caps p.pattern n → group_span caps n ≡ option_map span_between (group_of n p.tree)

-- the captures hold the preferred match with its groups, and none where no start gives one
abbrev pub HoldsPreferred : Sought → Searched → Captures → Type 0
HoldsPreferred q s caps = MatchOption (match_of caps)
    ((x : ℕ) → MayBegin s x → IsPassedBy q s x)
    (λ m. (p : Parse) × IsPreferred q s m.start p × (m ≡ match_by m.start p) × HoldsGroups caps p)
