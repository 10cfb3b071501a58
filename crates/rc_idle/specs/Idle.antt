-- Idle states: where a run forwards rests, no walk that began earlier is under way.
use Rattle.std.specs.Prelude.{◌≡◌, ℕ, ◌<◌, ◌≤◌, Bool, List, [], ◌∷◌, All}
use Rattle.rc_text.specs.declared.types.Anchored.TheVariants.{No}
use Rattle.rc_text.specs.declared.types.MatchKind.TheVariants.{LeftmostFirst as leftmost_first}
use Rattle.rc_pattern.specs.Re.{Re}
use Rattle.rc_walks.specs.Walks.{HasNoWalk}
use Rattle.rc_program.specs.Laws.{targets}
use Rattle.rc_program.specs.Program.{Place, program, ways}
use Rattle.rc_program.specs.Text.{Text}
use Rattle.rc_utf8.specs.Bytes.{bytes_of}
use Rattle.rc_determinize.specs.States.{IsInside, Stops}
use Rattle.rc_dfa.specs.Machine.{Machine, IsMachine, forwards}
use Rattle.rc_dfa.specs.Runs.{SearchEnds, idle_at}

-- No place leads to the one at which the program is entered.
abbrev pub LeadOn : List Place → Type 0
LeadOn places = All (λ q. All (λ n. 0 < n) (targets q)) places

pub record IdleLaw : Type 0 where
  -- Each program leads on.
  pub leads_on : (hs : List Re) → LeadOn (bytes_of (program hs))
  -- No walk ends that begins before the position at which a run rests, whatever comes after it.
  pub none_before : (m : Machine) (t : Text) (hi from i : ℕ) (earliest : Bool) → IsMachine m →
      m.direction ≡ forwards leftmost_first → m.setting.terminator ≡ t.terminator →
      IsInside t from hi → LeadOn m.setting.places →
      SearchEnds m t hi from No earliest (idle_at i) → (z : ℕ) → from ≤ z → z < i →
      HasNoWalk (ways m.setting.places t hi) (Stops m.setting.places) [] ((0, z) ∷ [])
