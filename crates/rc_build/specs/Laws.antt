-- What holds of patterns that can be built, and of refusals.
use Rattle.std.specs.Prelude.{◌≡◌, ◌≢◌, All, Bool, List}
use Rattle.rc_pattern.specs.Re.{Re}
use Rattle.rc_pattern.specs.WellFormed.{HasBounds}
use Rattle.rc_captures.specs.Names.{slot_len}
use Rattle.rc_program.specs.Program.{program, shown}
use Rattle.rc_program.specs.Laws.{IsNumbered, slot_count}
use Rattle.rc_program.specs.Sought.{IsRunnable}
use Rattle.rc_settings.specs.declared.error.BuildError.{BuildError}
use Rattle.rc_settings.specs.declared.error.BuildError.TheVariants.{Memory}
use Rattle.rc_build.specs.Names.{names_shown}
use Rattle.rc_build.specs.Refusals.{IsBuildable, IsRefusal}
use Rattle.rc_build.specs.declared.limit.Limit.{Limit}

-- what holds of each list of patterns that can be built, whether their groups are kept or not
pub record BuiltLaw : Type 0 where
  -- engines may run over their program
  pub runnable : (limit : Limit) (grouped : Bool) (hs : List Re) → IsBuildable limit hs → IsRunnable (program (shown grouped hs))
  pub numbered : (limit : Limit) (grouped : Bool) (hs : List Re) → IsBuildable limit hs → All IsNumbered (shown grouped hs)
  pub bounded : (limit : Limit) (grouped : Bool) (hs : List Re) → IsBuildable limit hs → All HasBounds (shown grouped hs)
  -- the groups that are kept have as many slots as the program
  pub slots : (grouped : Bool) (hs : List Re) → slot_len (names_shown grouped hs) ≡ slot_count (shown grouped hs)

-- of refusals other than want of memory
pub record RefusalLaw : Type 0 where
  -- none applies to patterns that can be built
  pub none : (limit : Limit) (hs : List Re) (e : BuildError) → IsRefusal limit hs e → e ≢ Memory → ¬ IsBuildable limit hs
  -- no two are answered for the same patterns
  pub one : (limit : Limit) (hs : List Re) (e f : BuildError) → IsRefusal limit hs e → IsRefusal limit hs f → e ≢ Memory → f ≢ Memory → e ≡ f
