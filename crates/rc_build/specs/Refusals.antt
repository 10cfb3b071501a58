-- Which refusals of a build apply to a list of patterns under a limit on their size.
use Rattle.std.specs.Prelude.{◌≡◌, ℕ, ◌*◌, ◌<◌, ◌≤◌, All, List, take, Option, Some, None, slice_get}
use Rattle.rc_pattern.specs.Limits.{greatest_weight}
use Rattle.rc_pattern.specs.Re.{Re}
use Rattle.rc_pattern.specs.Weight.{list_weight}
use Rattle.rc_pattern.specs.WellFormed.{IsWellFormed}
use Rattle.rc_parser.specs.Settings.{Settings}
use Rattle.rc_parser.specs.declared.config.Grammar.{Grammar}
use Rattle.rc_parser.specs.declared.config.Grammar.TheVariants.{Stated, Full}
use Rattle.rc_weigh.specs.Weight.{laid_list_weight}
use Rattle.rc_settings.specs.declared.error.BuildError.{BuildError}
use Rattle.rc_settings.specs.declared.error.BuildError.TheVariants.{Syntax, IllFormed, SizeLimit, PlaceLimit, Memory, DfaSizeLimit, CacheTooSmall}
use Rattle.rc_build.specs.declared.limit.Limit.{Limit}

-- how heavy the patterns are by a grammar: by the full one what is laid out for them counts
abbrev pub weight_by : Grammar → List Re → ℕ
weight_by Stated hs = list_weight hs
weight_by Full hs = laid_list_weight hs

-- how much 32 times the weight of the patterns is: the size that a limit is on
abbrev pub size_of : Grammar → List Re → ℕ
size_of grammar hs = 32 * weight_by grammar hs

-- a limit of so many bytes by the grammar; `None` limits nothing
abbrev pub limit_of : Option ℕ → Grammar → Limit
limit_of bytes grammar = record { bytes = bytes; grammar = grammar }

-- and by the grammar that is set
abbrev pub limit_by : Option ℕ → Settings → Limit
limit_by bytes syntax = limit_of bytes syntax.grammar

-- the size is within the limit; `None` limits nothing
abbrev pub IsWithin : Option ℕ → ℕ → Type 0
IsWithin None size = Unit {0}
IsWithin (Some limit) size = size ≤ limit

-- p is the least number of a pattern that isn't well-formed
pub record IsFirstIllFormed (hs : List Re) (p : ℕ) : Type 0 where
  pub before : All IsWellFormed (take p hs)
  pub here : (h : Re) × (slice_get hs p ≡ Some h) × ¬ IsWellFormed h

-- the patterns are well-formed, and their size is above the limit
pub record IsTooLarge (limit : Limit) (hs : List Re) (n : ℕ) : Type 0 where
  pub well_formed : All IsWellFormed hs
  pub limited : limit.bytes ≡ Some n
  pub large : n < size_of limit.grammar hs

-- the patterns are well-formed and within the limit, and too heavy for a program
pub record IsTooHeavy (limit : Limit) (hs : List Re) : Type 0 where
  pub well_formed : All IsWellFormed hs
  pub within : IsWithin limit.bytes (size_of limit.grammar hs)
  pub heavy : greatest_weight < list_weight hs

-- The refusal is the first one that applies to the patterns. Want of memory may come at any time.
abbrev pub IsRefusal : Limit → List Re → BuildError → Type 0
IsRefusal limit hs (IllFormed p) = IsFirstIllFormed hs p
IsRefusal limit hs (SizeLimit n) = IsTooLarge limit hs n
IsRefusal limit hs PlaceLimit = IsTooHeavy limit hs
IsRefusal limit hs Memory = Unit {0}
IsRefusal limit hs (Syntax p e) = ⊥
IsRefusal limit hs (DfaSizeLimit n) = ⊥
IsRefusal limit hs (CacheTooSmall m n) = ⊥

-- no refusal but want of memory applies to the patterns
pub record IsBuildable (limit : Limit) (hs : List Re) : Type 0 where
  pub well_formed : All IsWellFormed hs
  pub within : IsWithin limit.bytes (size_of limit.grammar hs)
  pub placed : list_weight hs ≤ greatest_weight
