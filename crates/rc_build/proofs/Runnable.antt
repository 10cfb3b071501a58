-- What engines ask of a program, of patterns that can be built.
use Rattle.std.proofs.Common.{◌≤◌, List, [], ◌∷◌, length, Bool, refl, arith}
use Rattle.std.specs.Prelude.{All}
use Rattle.std.proofs.lemmas.List.Elements.{All-weaker}
use Rattle.rc_pattern.specs.Re.{Re}
use Rattle.rc_pattern.specs.WellFormed.{IsWellFormed, HasBounds}
use Rattle.rc_pattern.specs.Weight.{sum_of_weights}
use Rattle.rc_program.specs.Program.{program, shown, without_groups}
use Rattle.rc_program.specs.Laws.{IsNumbered}
use Rattle.rc_program.specs.Sought.{IsRunnable}
use Rattle.rc_program.proofs.PlaceLemmas.{program_some, program_is_closed, accept_below}
use Rattle.rc_program.proofs.GroupLemmas.{shown_all, length-shown, without_groups_bounded, group_numbers-without_groups}
use Rattle.rc_build.specs.Refusals.{IsBuildable}
use Rattle.rc_build.specs.declared.limit.Limit.{Limit}

few_patterns : (hs : List Re) → length hs ≤ sum_of_weights hs
few_patterns [] = omega arith
few_patterns (h ∷ hs) = let k = few_patterns hs in omega (arith, k)

-- engines may run over the program of patterns that can be built
pub runnable : (limit : Limit) (grouped : Bool) (hs : List Re) → IsBuildable limit hs → IsRunnable (program (shown grouped hs))
runnable limit grouped hs ok = record {
  rooted = program_some (shown grouped hs);
  closed = program_is_closed (shown grouped hs);
  numbered = λ n p here.
      let below = accept_below (shown grouped hs) n p here in
      let few = few_patterns hs in
      let same = length-shown grouped hs in
      omega (arith, below, few, same, ok.placed);
}

-- the groups that are kept are numbered in the order of their opening
pub numbered : (grouped : Bool) (hs : List Re) → All IsWellFormed hs → All IsNumbered (shown grouped hs)
numbered grouped hs ok =
    shown_all IsNumbered (λ h _. bare_numbered h) grouped hs (All-weaker IsWellFormed IsNumbered (λ h f. f.numbered) hs ok)
  where
    bare_numbered : (h : Re) → IsNumbered (without_groups h)
    bare_numbered h = rw (group_numbers-without_groups h) refl

-- the bounds of what is shown are in order
pub bounded : (grouped : Bool) (hs : List Re) → All IsWellFormed hs → All HasBounds (shown grouped hs)
bounded grouped hs ok =
    shown_all HasBounds without_groups_bounded grouped hs (All-weaker IsWellFormed HasBounds (λ h f. f.bounded) hs ok)
