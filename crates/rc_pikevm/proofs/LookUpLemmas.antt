-- The moves over a byte and over a scalar.
use Rattle.std.proofs.Common.{◌≡◌, ℕ, ◌+◌, ◌-◌, ◌≤◌, ◌<◌, List, [], ◌∷◌, length, drop, map, slice_range, sym, ap, ◌∙◌, refl, arith, true, false, Option, Some, None, length-take, get_or, if◌then◌else◌}
use Rattle.std.proofs.lemmas.List.{get_or-map}
use Rattle.rc_program.specs.Columns.{column_at}
use Rattle.rc_program.specs.Program.{choice, scalar, place_at, ways_out, pair_at, in_ranges, is_match_place, over_scalar, stays, reads}
use Rattle.rc_program.specs.Scalars.{scalar_at}
use Rattle.rc_program.specs.Text.{holds, ahead}
use Rattle.rc_program.specs.Answer.{only}
use Rattle.rc_pikevm.specs.Sights.{Sight, next_of}
use Rattle.rc_program.proofs.WayLemmas.{scalar_at_short}
use Rattle.rc_program.specs.Places.{place_of, places_of}
use Rattle.rc_program.specs.declared.place.Place as code
use Rattle.rc_pikevm.specs.Trace.{note_at}
use Rattle.rc_pikevm.specs.Moves.{IsPlain, IsMove, reading, ended_by}
use Rattle.rc_pikevm.specs.declared.moves.Move.TheVariants.{Reads}
use Rattle.rc_pikevm.proofs.EntranceLemmas.{choice_on, ways_by}

-- the place that was read is that of the program
pub placed : (ps : List code.Place) (p : ℕ) (q : code.Place) → p < length ps → q ≡ get_or ps p q → place_at (places_of ps) p ≡ place_of q
placed ps p q h e = get_or-map place_of ps p q (choice []) h ∙ ap place_of (sym e)

no_end : (pattern : Option ℕ) (rs : List (ℕ × ℕ)) (n : ℕ) → is_match_place pattern (scalar rs n) ≡ false
no_end None rs n = refl
no_end (Some p) rs n = refl

-- a scalar that stands ahead has one to four bytes, and ends by hi
pub scalar_size : (content : List ℕ) (at hi c count : ℕ) → scalar_at (slice_range content at hi) ≡ Some (c, count) →
    (1 ≤ count) × (count ≤ 4) × (at + count ≤ hi)
scalar_size content at hi c count e =
    let r = (scalar_at_short (slice_range content at hi)).takes (c, count) e in
    let l = length-take (hi - at) (drop at content) in
    (r.0, r.2, omega (arith, r.0, r.1, l))

pub scalar_move : (s : Sight) (p at c count n : ℕ) (rs : List (ℕ × ℕ)) → place_at s.places p ≡ scalar rs n →
    scalar_at (ahead s.text s.hi at) ≡ Some (c, count) → in_ranges rs c ≡ true → IsMove s (p, at) (Reads n (at + count))
scalar_move s p at c count n rs is here inside =
    let r = scalar_size s.text.content at s.hi c count here in (
      ap (λ q. map (pair_at at) (ways_out (λ l. holds s.text l at) (ahead s.text s.hi at) q)) is
          ∙ ap (λ o. map (pair_at at) (over_scalar rs n o)) here
          ∙ ap (λ b. map (pair_at at) (if b then reads count n ∷ [] else [])) inside,
      record {
        silent = λ h. ap (λ q. note_at (column_at s.places p) q h at) is;
        on = ap (is_match_place (only s.anchoring)) is ∙ no_end (only s.anchoring) rs n;
      },
      omega (arith, r),
      omega (arith, r),
      r.2,
    )

-- at a choice a thread goes on at each of its places, and nothing is noted
pub choice_moves : (s : Sight) (p at : ℕ) (ns : List ℕ) → place_at s.places p ≡ choice ns →
    (next_of s (p, at) ≡ map (pair_at at) (map stays ns)) × IsPlain s (p, at)
choice_moves s p at ns is = (
  ways_by s at p (choice ns) is,
  record { silent = λ h. ap (λ q. note_at (column_at s.places p) q h at) is; on = (ap (is_match_place (only s.anchoring)) is ∙ choice_on (only s.anchoring) ns) },
)

-- no walk ends by reading
pub none_ended : (n : ℕ) (to : Option ℕ) → None ≡ ended_by (reading n to)
none_ended n None = refl
none_ended n (Some q) = refl
