-- How refusals are told.
use Rattle.std.specs.Prelude.{◌≡◌, ◌⊎◌, ℕ, List, MatchOption, Option}
use Rattle.std.specs.Borrow.{Bor}
use Rattle.rc_pattern.specs.declared.syntax.Error.TheVariants.{Memory as no_memory, Syntax as fault_at}
use Rattle.rc_settings.specs.declared.error.BuildError.TheVariants.{CacheTooSmall, DfaSizeLimit, IllFormed, PlaceLimit, SizeLimit, Memory as none_left, Syntax as unread}
use Rattle.searcher.specs.Answers.{IsRefused, IsShare}
use Rattle.searcher.specs.Searching.{Searching}
use Rattle.searcher.specs.declared.answers.Refusal.{Refusal}
use Rattle.searcher.specs.declared.answers.Refusal.TheVariants.{Build, Memory, NoKind, NotUtf8, TooMany}
use Rattle.searcher.specs.declared.settings.Settings.{Settings}
use Rattle.zorfelith_c.specs.Options.{IsKnown, settings_in}
use Rattle.zorfelith_c.specs.Statuses.{done, memory, no_kind, not_utf8, syntax, too_large, unknown}
use Rattle.zorfelith_c.specs.declared.build.Refused.{Refused}

-- a status alone
abbrev pub only : ℕ → Refused
only status = record { status = status; pattern = 0; at = 0 }

-- the status of a refusal, and where it was met
abbrev pub told_refusal : Refusal → Refused
told_refusal NoKind = only no_kind
told_refusal TooMany = only too_large
told_refusal (NotUtf8 p) = record { status = not_utf8; pattern = p; at = 0 }
told_refusal (Build (unread p (fault_at at))) = record { status = syntax; pattern = p; at = at }
told_refusal (Build (unread p no_memory)) = only memory
told_refusal (Build none_left) = only memory
told_refusal (Build (IllFormed p)) = only too_large
told_refusal (Build (SizeLimit n)) = only too_large
told_refusal (Build PlaceLimit) = only too_large
told_refusal (Build (DfaSizeLimit n)) = only too_large
told_refusal (Build (CacheTooSmall m n)) = only too_large
told_refusal Memory = only memory

-- a refusal that applies is told so
pub record IsToldRefusal (settings : Settings) (patterns : List (Bor (List ℕ))) (status : ℕ) (refused : Refused) : Type 0 where
  pub refusal : Refusal
  pub applies : IsRefused settings patterns refusal
  pub told : refused ≡ told_refusal refusal
  pub coded : status ≡ refused.status

-- the settings have a byte that is on behind those that are known, and that is told
pub record IsToldUnknown (settings : List ℕ) (status : ℕ) (refused : Refused) : Type 0 where
  pub applies : ¬ IsKnown settings
  pub told : refused ≡ only unknown
  pub coded : status ≡ unknown

-- Settings that aren't known are told before all else.
abbrev pub IsToldBuild : List ℕ → List (Bor (List ℕ)) → ℕ → Refused → Type 0
IsToldBuild settings patterns status refused =
    IsToldUnknown settings status refused ⊎ (IsKnown settings × IsToldRefusal (settings_in settings) patterns status refused)

-- A second handle is of the same patterns; or memory was refused, and it is empty.
abbrev pub IsShared : Searching → ℕ → Option Searching → Type 0
IsShared s status t = MatchOption t (status ≡ memory) (λ u. (status ≡ done) × IsShare s u)
