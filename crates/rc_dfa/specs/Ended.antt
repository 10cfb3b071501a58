-- Only proofs use this file.
-- Search results: how a search ended, by either DFA.
use Rattle.std.specs.Prelude.{◌≡◌, ℕ, ◌≤◌, Bool, Option, Some, None, IsTrue, slice_get}
use Rattle.rc_text.specs.declared.types.Anchored.{Anchored}
use Rattle.rc_program.specs.Text.{Text}
use Rattle.rc_program.specs.Program.{place_at}
use Rattle.rc_program.specs.Answer.{pattern_at}
use Rattle.rc_dfa.specs.Machine.{Machine}
use Rattle.rc_dfa.specs.Runs.{met_last, stopped_at, idle_at, SearchEnds, SearchEndsDown}
use Rattle.rc_dfa.specs.declared.ended.Ended.{Ended}
use Rattle.rc_dfa.specs.declared.ended.Ended.TheVariants.{Found, Idle, Quit, GaveUp}

-- A search forwards may end so. If it found something, the last find is at a match place of the
-- pattern. The search rests only if it may. If it gave up, the result has nothing but a position.
abbrev pub HasEnded : Machine → Text → ℕ → ℕ → Anchored → Bool → Bool → Ended → Type 0
HasEnded m t hi from anchored earliest may_rest (Found None) = SearchEnds m t hi from anchored earliest (met_last None)
HasEnded m t hi from anchored earliest may_rest (Found (Some h)) =
    (q : ℕ) × (pattern_at (place_at m.setting.places q) ≡ h.pattern) × SearchEnds m t hi from anchored earliest (met_last (Some (q, h.at)))
HasEnded m t hi from anchored earliest may_rest (Idle i) = IsTrue may_rest × SearchEnds m t hi from anchored earliest (idle_at i)
HasEnded m t hi from anchored earliest may_rest (Quit b p) = (slice_get t.content p ≡ Some b) × SearchEnds m t hi from anchored earliest (stopped_at p)
HasEnded m t hi from anchored earliest may_rest (GaveUp p memory) = (from ≤ p) × (p ≤ hi)

-- A search backwards may end so. If it found something, the last find is at the entry of the
-- pattern. It never rests.
abbrev pub HasEndedDown : Machine → Text → ℕ → ℕ → Anchored → Bool → Ended → Type 0
HasEndedDown m t lo end anchored earliest (Found None) = SearchEndsDown m t lo end anchored earliest (met_last None)
HasEndedDown m t lo end anchored earliest (Found (Some h)) = SearchEndsDown m t lo end anchored earliest (met_last (Some (h.at, h.pattern)))
HasEndedDown m t lo end anchored earliest (Idle i) = ⊥
HasEndedDown m t lo end anchored earliest (Quit b p) = (slice_get t.content p ≡ Some b) × SearchEndsDown m t lo end anchored earliest (stopped_at p)
HasEndedDown m t lo end anchored earliest (GaveUp p memory) = (lo ≤ p) × (p ≤ end)

-- Whether memory was refused to the search that gave up.
abbrev pub gave_up : Ended → Option Bool
gave_up (GaveUp p memory) = Some memory
gave_up e = None
