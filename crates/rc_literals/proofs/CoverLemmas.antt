-- What a list that covers patterns is good for.
use Rattle.std.proofs.Common.{◌≡◌, ℕ, ◌+◌, List, [], ◌∷◌, ◌++◌, length, Bool, IsTrue, Some, None, All, ap, subst, ◌∙◌, refl, arith, ⊎_elim, slice_get}
use Rattle.std.proofs.lemmas.Option.{get_or_from_slice_get, slice_get_within}
use Rattle.std.proofs.lemmas.List.{length-append}
use Rattle.rc_walks.specs.Walks.{Pair}
use Rattle.rc_pattern.specs.Re.{Re}
use Rattle.rc_pattern.specs.WellFormed.{HasBounds}
use Rattle.rc_program.specs.Text.{Text}
use Rattle.rc_program.specs.Spells.{Stands}
use Rattle.rc_program.specs.Program.{place_at, is_match_place, program, shown}
use Rattle.rc_program.specs.Answer.{only, ends, next_of, last_of, pattern_at}
use Rattle.rc_program.specs.Sought.{search_over}
use Rattle.rc_program.specs.Laws.{IsWalkOf}
use Rattle.rc_program.proofs.AnswerLemmas.{walk_ends, walk_within, match_place_is}
use Rattle.rc_program.proofs.GreatestLemmas.{other_ends}
use Rattle.rc_program.proofs.GroupLemmas.{group_law, shown_all}
use Rattle.rc_program.proofs.WholeLemmas.{program_law}
use Rattle.rc_literals.specs.Literals.{Covers}
use Rattle.rc_needles.specs.Guards.{Guards}
use Rattle.rc_literals.specs.Prefixes.{BeginsWithOne, EachBegins, CoverLaw}

-- It guards the program.

covers_shown : (t : Text) (hs : List Re) (grouped : Bool) (needles : List (List ℕ)) → Covers t hs needles → Covers t (shown grouped hs) needles
covers_shown t hs grouped needles covers p i j s = covers p i j ((group_law.shown_spells t grouped 0 hs p i j).0 s)

covers_guard : (hs : List Re) (grouped : Bool) (terminator : ℕ) (needles : List (List ℕ)) → All HasBounds hs →
    ((t : Text) → Covers t hs needles) → Guards (program (shown grouped hs)) terminator needles
covers_guard hs grouped terminator needles bounded covers over s x le none v walk =
    let S = search_over (program (shown grouped hs)) terminator over s in
    let prog = program (shown grouped hs) in
    let place = place_at prog (last_of v).0 in
    let is = match_place_is (only S.anchoring) place (walk_ends (next_of S) (λ n. IsTrue (ends S n)) walk) in
    let free = other_ends (next_of S) (λ n. IsTrue (ends S n)) (λ n. IsTrue (is_match_place None (place_at prog n.0))) walk
    (ap (is_match_place None) is) in
    let within = walk_within prog S.text S.hi (λ n. IsTrue (ends S n)) x walk
    (λ n i. ⊎_elim (λ q. let e : x ≡ n.1 = ap (λ (k : Pair). k.1) q in (omega (arith, e), omega (arith, e, le))) (λ never. absurd never) i) in
    let of : IsWalkOf (shown grouped hs) S.text S.hi (pattern_at place) x (last_of v).1 v = record { is_walk = free; pattern = is; position = refl } in
    let spelled = (program_law (shown grouped hs) S.text S.hi (pattern_at place) x (last_of v).1
    (shown_all HasBounds group_law.bounded grouped hs bounded) within.2).0 (v, of) in
    let c = covers_shown S.text hs grouped needles (covers S.text) (pattern_at place) x (last_of v).1 spelled in
    none c.0 c.1 c.2 (omega (arith, c.4, within.2), c.3)

-- Its members' beginnings cover too.

pub all_get : (P : List ℕ → Type 0) (ws : List (List ℕ)) (k : ℕ) (w : List ℕ) → All P ws → slice_get ws k ≡ Some w → P w
all_get P ws k w all e = subst P (get_or_from_slice_get ws k w [] e) (all k [] (slice_get_within ws k w e))

pub stands_first : (content needle rest : List ℕ) (i j : ℕ) → Stands content (needle ++ rest) i j → Stands content needle i (i + length needle)
stands_first content [] rest i j s = omega arith
stands_first content (b ∷ bs) rest i j s =
    let e : i + 1 + length bs ≡ i + length (b ∷ bs) = omega arith in
    (s.0, subst (Stands content bs (i + 1)) e (stands_first content bs rest (i + 1) j s.1))

covers_by_beginnings : (t : Text) (hs : List Re) (prefixes needles : List (List ℕ)) → EachBegins prefixes needles →
    Covers t hs prefixes → Covers t hs needles
covers_by_beginnings t hs prefixes needles each covers p i j s =
    let c = covers p i j s in
    let b = all_get (BeginsWithOne needles) prefixes c.0 c.1 each c.2 in
    let is : c.1 ≡ b.1 ++ b.3.0 = b.3.1 in
    let long : length c.1 ≡ length b.1 + length b.3.0 = ap length is ∙ length-append b.1 b.3.0 in (
      b.0,
      b.1,
      b.2,
      stands_first t.content b.1 b.3.0 i (i + length c.1) (subst (λ w. Stands t.content w i (i + length c.1)) is c.3),
      omega (arith, long, c.4),
    )

pub cover_law : CoverLaw
cover_law = record {
  guards = covers_guard;
  shown_too = λ t hs grouped needles covers. covers_shown t hs grouped needles covers;
  by_beginnings = covers_by_beginnings;
}
