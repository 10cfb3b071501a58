-- What is told of patterns whose build is refused for their size.
use Rattle.std.specs.Prelude.{◌≡◌, ℕ, ◌*◌, ◌^◌, ◌-◌, nat_lt, ◌++◌, if◌then◌else◌, codes, min, List, Option, Some}
use Rattle.std.specs.Fmt.{decimal}
use Rattle.rc_pattern.specs.Re.{Re}
use Rattle.rc_settings.specs.declared.error.BuildError.TheVariants.{SizeLimit}
use Rattle.rc_build.specs.Refusals.{IsRefusal, weight_by}
use Rattle.rc_build.specs.declared.limit.Limit.{Limit}
use Rattle.rc_build.specs.declared.oversize.Oversize.{Oversize}

-- a build of the patterns under the limit isn't refused for their size
abbrev pub IsUnrefused : Limit → List Re → Type 0
IsUnrefused limit hs = (n : ℕ) → ¬ IsRefusal limit hs (SizeLimit n)

-- A build of the patterns under the limit is refused for their size. The limit is told, and the weight by its grammar, up to 2 to the power of 64.
pub record IsOversize (limit : Limit) (hs : List Re) (o : Oversize) : Type 0 where
  pub refused : IsRefusal limit hs (SizeLimit o.limit)
  pub weighed : o.weight ≡ min (weight_by limit.grammar hs) (2 ^ 64)

-- what stands before a size that may be more
abbrev pub bound_of : ℕ → List ℕ
bound_of weight = if nat_lt weight (2 ^ 64) then codes "" else codes "at least "

-- what `{}` writes: the size, the weight and the limit
abbrev pub oversize_line : Oversize → Option (List ℕ)
oversize_line o = Some (codes "the patterns take " ++ bound_of o.weight ++ decimal (min (o.weight * 32) (2 ^ 128 - 1))
    ++ codes " bytes, 32 for each of their weight of " ++ decimal o.weight ++ codes ", more than the limit of " ++ decimal o.limit)
