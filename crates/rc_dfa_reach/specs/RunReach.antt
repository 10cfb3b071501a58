-- Reading: what a DFA search looks at of a text, whatever holds its states.
use Rattle.std.specs.Prelude.{◌≡◌, ℕ, ◌+◌, ◌<◌, ◌≤◌, Bool, Option, Some}
use Rattle.rc_text.specs.declared.types.Anchored.{Anchored}
use Rattle.rc_program.specs.Answer.{Search}
use Rattle.rc_program.specs.Looks.{Side}
use Rattle.rc_program.specs.Text.{Text, before_at, after_at}
use Rattle.rc_determinize.specs.Sides.{byte_of}
use Rattle.rc_determinize.specs.States.{State}
use Rattle.rc_dfa.specs.Machine.{Alphabet, bytes, symbols, Machine}
use Rattle.rc_dfa.specs.Reads.{SearchEndsBelow}
use Rattle.rc_dfa.specs.Runs.{Runs, RunEnd, met_last, SearchEnds, SearchEndsDown}
use Rattle.rc_reach.specs.Settled.{AgreesBelow, IsInside}

-- What is read there is the same.
abbrev pub ReadsSame : Alphabet → Side → Side → Type 0
ReadsSame bytes x y = byte_of x ≡ byte_of y
ReadsSame symbols x y = x ≡ y

-- The bytes before this position decide what is read before r. A symbol depends on at most three
-- bytes after its own.
abbrev pub seen_to : Alphabet → ℕ → ℕ
seen_to bytes r = r
seen_to symbols r = r + 3

-- Before r the same is read in both texts, and so is their upper bound: if it is before r, it is
-- the same in both.
pub record LookSame (a : Alphabet) (r : ℕ) (t : Text) (hi : ℕ) (u : Text) (other_hi : ℕ) : Type 0 where
  pub ahead : (p : ℕ) → p < r → ReadsSame a (after_at u p) (after_at t p)
  pub behind : (p : ℕ) → p ≤ r → ReadsSame a (before_at u p) (before_at t p)
  pub far : r ≤ hi → r ≤ other_hi
  pub near : hi < r → other_hi ≡ hi

-- A search ends so in each text in which the same is read as far as it looked.
pub record RunReachLaw : Type 0 where
  -- It is a search that ended so.
  pub ends : (m : Machine) (t : Text) (hi from : ℕ) (anchored : Anchored) (earliest : Bool)
      (e : RunEnd) (r : ℕ) →
      SearchEndsBelow m t hi from anchored earliest e r → SearchEnds m t hi from anchored earliest e
  pub same : (m : Machine) (t : Text) (hi from : ℕ) (anchored : Anchored) (earliest : Bool)
      (e : RunEnd) (r : ℕ) (u : Text) (other_hi : ℕ) →
      from ≤ hi → SearchEndsBelow m t hi from anchored earliest e r →
      LookSame m.alphabet r t hi u other_hi → SearchEnds m u other_hi from anchored earliest e
  -- It looked up to its start at least, and at what is read from its upper bound on at one byte at
  -- most.
  pub onward : (m : Machine) (t : Text) (hi from : ℕ) (anchored : Anchored) (earliest : Bool)
      (e : RunEnd) (r : ℕ) →
      from ≤ hi → SearchEndsBelow m t hi from anchored earliest e r →
      (from ≤ r) × (r ≤ hi + 1)
  -- A run under a bound is one under a later bound, so it can be made in slices.
  pub longer : (m : Machine) (t : Text) (hi from : ℕ) (first : State) (i : ℕ) (s : State)
      (met : Option (ℕ × ℕ)) (more : ℕ) →
      hi ≤ more → Runs m t hi from first i s met → Runs m t more from first i s met
  -- What it found ends before a byte at which it looked.
  pub met_before : (m : Machine) (t : Text) (hi from : ℕ) (anchored : Anchored) (earliest : Bool)
      (q e r : ℕ) →
      SearchEndsBelow m t hi from anchored earliest (met_last (Some (q, e))) r → e < r
  -- A search backwards looks at what is read where it begins, and at the bytes before.
  pub down : (m : Machine) (t : Text) (hi lo end : ℕ) (anchored : Anchored) (earliest : Bool)
      (e : RunEnd) (r : ℕ) (u : Text) (other_hi : ℕ) →
      end < r → SearchEndsDown m t lo end anchored earliest e →
      LookSame m.alphabet r t hi u other_hi → SearchEndsDown m u lo end anchored earliest e

-- The same of searches that agree in the bytes that decide what one read.
abbrev pub TableReachLaw : Type 0
TableReachLaw = (m : Machine) (s t : Search) (from : ℕ) (anchored : Anchored) (earliest : Bool)
    (e : RunEnd) (r : ℕ) → IsInside s → IsInside t → from ≤ s.hi →
    SearchEndsBelow m s.text s.hi from anchored earliest e r →
    AgreesBelow (seen_to m.alphabet r) s t → SearchEnds m t.text t.hi from anchored earliest e
