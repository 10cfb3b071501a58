-- What a status tells of a search in a window.
use Rattle.std.specs.Prelude.{◌≡◌, ◌⊎◌, ℕ, List}
use Rattle.api_meta.specs.declared.regex.Regex.{Regex}
use Rattle.searcher.specs.Flags.{is_on}
use Rattle.searcher.specs.Places.{found_at}
use Rattle.searcher.specs.Windows.{IsTold, IsWindowFault}
use Rattle.searcher.specs.declared.answers.Fault.TheVariants.{Outside, TooLong}
use Rattle.searcher.specs.declared.answers.MatchAt.{MatchAt}
use Rattle.searcher.specs.declared.answers.Window.{Window}
use Rattle.searcher.specs.declared.answers.WindowAnswer.TheVariants.{Final, MoreAfter, MoreBefore, NoMatch}
use Rattle.zorfelith_c.specs.Statuses.{done, found, more_after, more_before, outside, too_long}
use Rattle.zorfelith_c.specs.declared.window.WindowAt.{WindowAt}

-- the window as a searcher has it
abbrev pub window_of : WindowAt → Window
window_of w = record { start = w.start; is_last = is_on w.is_last }

-- one of these, whose status it is
abbrev pub TellsWindow : Regex → Window → List ℕ → (from end status : ℕ) → MatchAt → (place : ℕ) → Type 0
TellsWindow r w bytes from end status m place =
    ((status ≡ found) × IsTold r w bytes from end (Final (found_at m))) ⊎ ((status ≡ done) × IsTold r w bytes from end NoMatch)
    ⊎ ((status ≡ more_after) × IsTold r w bytes from end (MoreAfter place)) ⊎ ((status ≡ more_before) × IsTold r w bytes from end MoreBefore)
    ⊎ ((status ≡ outside) × IsWindowFault w bytes from end Outside) ⊎ ((status ≡ too_long) × IsWindowFault w bytes from end TooLong)
