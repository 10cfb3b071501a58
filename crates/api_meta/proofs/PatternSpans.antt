-- Which patterns of a regex have a match.
use denote.Struct.Props.{props}
use Rattle.std.proofs.Common.{◌∙◌, ◌+◌, ◌<◌, ℕ, Bool, List, [], ◌∷◌, length, map, inl, inr, subst, arith}
use Rattle.std.specs.Prelude.{All}
use Rattle.std.proofs.Math.Logic.{∥∥₁_elim}
use Rattle.std.proofs.lemmas.List.{length-map}
use Rattle.rc_pattern.specs.Meaning.{meaning}
use Rattle.rc_pattern.specs.Re.{Re}
use Rattle.rc_pattern.specs.WellFormed.{IsWellFormed}
use Rattle.rc_text.specs.Text.{Searched}
use Rattle.rc_program.specs.Places.{places_of}
use Rattle.rc_program.specs.Program.{shown}
use Rattle.rc_program.specs.Sought.{search_for}
use Rattle.rc_program.specs.Spells.{SpelledBy}
use Rattle.rc_program.specs.Text.{Text}
use Rattle.rc_program.proofs.GreatestLemmas.{greatest_law}
use Rattle.rc_program.proofs.GroupLemmas.{length-shown}
use Rattle.rc_pikevm_search.specs.Engine.{engine_search}
use Rattle.rc_pikevm.specs.PatternSpans.{AddsSpelled, AreOfFirst}
use Rattle.rc_settings.specs.Settings.{settings_of, program_settings}
use Rattle.rc_settings.specs.Thompson.{which_captures_of}
use Rattle.rc_settings.specs.Which.{is_grouped}
use Rattle.rc_build.proofs.Fitted.{fits_search}
use Rattle.rc_build.proofs.Runnable.{bounded}
use Rattle.api_meta.specs.Views.{sought}
use Rattle.api_meta.specs.declared.regex.Regex.{Regex}

-- a pattern of the list has a number of the list
numbered : (t : Text) (n : ℕ) (hs : List Re) (p i j : ℕ) → SpelledBy t n hs p i j → p < n + length hs
numbered t n [] p i j h = absurd h
numbered t n (r ∷ hs) p i j (inl own) = omega (arith, own.0)
numbered t n (r ∷ hs) p i j (inr later) = let h = numbered t (n + 1) hs p i j later in omega (arith, h)

-- the walks of a regex's program are of its patterns
pub are_own : (r : Regex) → AreOfFirst (length r.hirs.items) (places_of r.engines.engine.program.places.items)
are_own r s m here h = ∥∥₁_elim r.well_formed (hlevel props) below
  where
    below : All IsWellFormed (map meaning r.hirs.items) → m.pattern < length r.hirs.items
    below ok =
        let grouped : Bool = is_grouped (which_captures_of (program_settings (settings_of r.config))) in
        let hs : List Re = map meaning r.hirs.items in
        let spelled = (greatest_law.by_program (shown grouped hs) s m (bounded grouped hs ok) (here ∙ r.fits.placed)).0 h in
        let low = numbered s.text 0 (shown grouped hs) m.pattern m.start m.end spelled.3 in
        omega (arith, low, length-shown grouped hs, length-map r.hirs.items meaning)

-- what is added is what the regex seeks
pub adds_for : (r : Regex) (i : Searched) (set0 set : List Bool) → AddsSpelled (engine_search r.engines.engine i) set0 set →
    AddsSpelled (search_for (sought r) i) set0 set
adds_for r i set0 set h = subst (λ s. AddsSpelled s set0 set) (fits_search r.fits i) h
