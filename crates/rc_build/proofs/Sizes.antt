-- There are no more places than the weight of the patterns.
use Rattle.std.proofs.Common.{◌≡◌, ◌≤◌, List, length, Bool, ap, arith, subst, sym}
use Rattle.std.proofs.lemmas.List.{length-map}
use Rattle.rc_text.specs.declared.types.MatchKind.{MatchKind}
use Rattle.rc_pattern.specs.Re.{Re}
use Rattle.rc_pattern.specs.Weight.{list_weight}
use Rattle.rc_program.specs.Program.{program, shown}
use Rattle.rc_program.proofs.GroupLemmas.{shown_lighter}
use Rattle.rc_program.proofs.WeightLemmas.{program_small}
use Rattle.rc_program.specs.Places.{place_of, places_of}
use Rattle.rc_program.specs.declared.place.Place as code
use Rattle.rc_build.specs.Refusals.{IsBuildable}
use Rattle.rc_build.specs.declared.limit.Limit.{Limit}
use Rattle.rc_build.proofs.Runnable.{bounded}
use Rattle.rc_captures.specs.Groups.{names_of}
use Rattle.rc_captures.specs.declared.groups.GroupInfo.{GroupInfo}
use Rattle.rc_program.specs.Sought.{passes_over}
use Rattle.rc_pikevm_search.specs.declared.engine.Engine.{Engine}
use Rattle.rc_settings.specs.Which.{is_grouped}
use Rattle.rc_build.specs.Names.{names_shown}
use Rattle.rc_build.specs.Fits.{Fits, sought_by}
use Rattle.rc_settings.specs.Thompson.{Settings, which_captures_of, line_terminator_of}

pub program_light : (limit : Limit) (grouped : Bool) (hs : List Re) → IsBuildable limit hs → length (program (shown grouped hs)) ≤ list_weight hs
program_light limit grouped hs ok =
    let small = program_small (shown grouped hs) (bounded grouped hs ok.well_formed) in
    let lighter = shown_lighter grouped hs in
    omega (arith, small, lighter)

-- as many places in code as in the program
pub as_long : (ps : List code.Place) (grouped : Bool) (hs : List Re) → places_of ps ≡ program (shown grouped hs) →
    length ps ≡ length (program (shown grouped hs))
as_long ps grouped hs e = let many = length-map ps place_of in let same = ap length e in omega (arith, many, same)

pub places_light : (ps : List code.Place) (limit : Limit) (grouped : Bool) (hs : List Re) → places_of ps ≡ program (shown grouped hs) →
    IsBuildable limit hs → length ps ≤ list_weight hs
places_light ps limit grouped hs e ok =
    let long = as_long ps grouped hs e in let light = program_light limit grouped hs ok in omega (arith, long, light)

-- what fits the patterns fits the same patterns
pub fitted : {s : Settings} {kind : MatchKind} {hs ks : List Re} {e : Engine} {info : GroupInfo} (limit : Limit) → ks ≡ hs → IsBuildable limit hs →
    places_of e.program.places.items ≡ program (shown (is_grouped (which_captures_of s)) hs) → e.program.terminator ≡ line_terminator_of s →
    e.program.passes_over ≡ passes_over (sought_by s hs) → e.kind ≡ kind → names_of info ≡ names_shown (is_grouped (which_captures_of s)) hs → Fits s kind ks e info
fitted {s} {kind} {hs} {ks} {e} {info} limit same ok placed ended passing kinded named = subst (λ x. Fits s kind x e info) (sym same) (record {
  light = ok.placed;
  small = places_light e.program.places.items limit (is_grouped (which_captures_of s)) hs placed ok;
  placed = placed;
  ended = ended;
  passing = passing;
  kinded = kinded;
  named = named;
})
