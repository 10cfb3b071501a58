-- How many bytes settle what searches find that go from needle to needle.
use Rattle.std.proofs.Common.{◌≡◌, ℕ, ◌+◌, ◌-◌, ◌<◌, ◌≤◌, Bool, true, false, not, ◌&&◌, true≢false, IsTrue, slice_index_or, List, [], ◌∷◌, length, Option, Some, None, Result, Ok, IfOk, max, min, sym, subst, ap, ◌∙◌, refl, arith, inr, ⊎_elim, take, take-take, length-take, slice_range}
use Rattle.std.specs.Prelude.{slice_index}
use Rattle.std.proofs.lemmas.List.{get_or-take, length-take-le, take_all}
use Rattle.std.specs.Prelude.{is_some}
use Rattle.std.proofs.lemmas.Option.{same_Some, none-some, slice_get-get_or}
use Rattle.rc_text.proofs.Ranges.{slice_get-slice_range}
use Rattle.std.specs.List.{slice_get}
use Rattle.std.specs.Option.{option_map}
use Rattle.rc_text.specs.Found.{Found}
use Rattle.rc_text.specs.Text.{Searched, Keeps, low, high, slice_end}
use Rattle.rc_text.specs.declared.types.Span.{Span}
use Rattle.rc_text.specs.Plain.{is_anchored as anchors}
use Rattle.rc_text.specs.declared.types.Anchored.{Anchored}
use Rattle.rc_text.specs.declared.types.Anchored.TheVariants.{No, Yes}
use Rattle.rc_text.specs.declared.types.MatchKind.{MatchKind}
use Rattle.rc_text.specs.declared.types.MatchError as error
use Rattle.rc_text.specs.declared.types.MatchError.{MatchError}
use Rattle.rc_pattern.specs.Re.{Re}
use Rattle.rc_walks.specs.Walks.{Pair}
use Rattle.rc_program.specs.Answer.{Search, Anchoring, HasNoWalkFrom, ends, only}
use Rattle.rc_program.specs.Kinds.{IsAnswerBy, answer_by}
use Rattle.rc_program.specs.Program.{Place, place_at, program}
use Rattle.rc_program.specs.Sought.{anchoring_of, text_of}
use Rattle.rc_program.specs.Spells.{Stands}
use Rattle.rc_program.specs.Text.{Text}
use Rattle.rc_program.proofs.AnswerLemmas.{match_place_is}
use Rattle.rc_program.proofs.HeadsLemmas.{none_goes_on}
use Rattle.rc_needles.specs.ByteSets.{AreInside}
use Rattle.rc_needles.specs.Needles.{NoneAt, find_needle, longest}
use Rattle.rc_needles.specs.Guards.{Guards}
use Rattle.rc_needles.specs.declared.hit.Hit.{Hit}
use Rattle.rc_needles.proofs.StartLemmas.{needle_law}
use Rattle.rc_literals.specs.Guard.{BeginsFor, IsGuard, guard_needles}
use Rattle.rc_literals.specs.declared.guard.Guard.{Guard}
use Rattle.rc_literals.specs.declared.guard.Guard.TheVariants.{Begins, Holds}
use Rattle.rc_literals.specs.declared.guard.Start.{Start}
use Rattle.rc_utf8.specs.Laws.{by_bytes}
use Rattle.rc_determinize.specs.Laws.{may_end_at}
use Rattle.rc_reach.specs.Settled.{AgreesBelow, IsInside}
use Rattle.rc_reach.proofs.AgreeLemmas.{get_below, same_bound}
use Rattle.rc_dfa.specs.Machine.{Machine, IsAsked}
use Rattle.rc_dfa.specs.Reads.{HasEndedBelow, SearchEndsBelow}
use Rattle.rc_dfa.specs.Runs.{idle_at, met_last, SearchEndsDown}
use Rattle.rc_dfa.specs.declared.ended.Ended.{Ended}
use Rattle.rc_dfa.specs.declared.ended.Ended.TheVariants.{Found as found_last, Idle, Quit, GaveUp}
use Rattle.rc_dfa.specs.declared.ended.Met.{Met}
use Rattle.rc_dfa_reach.specs.RunReach.{seen_to}
use Rattle.rc_dfa_reach.proofs.RunReachLemmas.{run_reach_law}
use Rattle.rc_dfa_reach.proofs.TableReachLemmas.{look_same, table_reach_law}
use Rattle.rc_dfa_search.specs.declared.search.Aim.{Aim}
use Rattle.rc_dfa_search.specs.declared.needles.Leg.{Leg}
use Rattle.rc_dfa_search.specs.declared.needles.Leg.TheVariants as legs
use Rattle.rc_dfa_search.specs.Aims.{AreHalvesOf, is_early, search_for}
use Rattle.rc_dfa_search.specs.Ends.{HasMetDown, told_of}
use Rattle.rc_dfa_search.specs.Firsts.{TellsOthers, starting_at}
use Rattle.rc_dfa_search.specs.Leftmost.{IsRaisedBy}
use Rattle.rc_dfa_search.specs.Legs.{GoesByNeedles, HasRun, IsGiven, leg_of}
use Rattle.rc_dfa_search.specs.Machines.{IsCase}
use Rattle.rc_dfa_search.specs.Reaches.{GivesBelow, HasRunBelow, IsAnswerBelow, IsGivenBelow, NoneBeginBelow, TellsReach, found_from}
use Rattle.rc_dfa_search.specs.Rests.{GivesToo, HasNoWalkBetween}
use Rattle.rc_dfa_search.proofs.CaseLemmas.{same_reading}
use Rattle.rc_dfa_search.proofs.BeginLemmas.{case_here, found_here, may as may_here, not_begun}
use Rattle.rc_dfa_search.proofs.LeftmostLemmas.{leftmost_law}
use Rattle.rc_dfa_search.proofs.JumpLemmas.{not_early}
use Rattle.rc_dfa_search.proofs.LegLemmas.{free_case}
use Rattle.rc_dfa_search.proofs.ReachLemmas.{is_no, itself, none_below, same_case, some_held}
use Rattle.rc_dfa_search.proofs.RestLemmas.{given_law, rest_law, rests_between}
use Rattle.rc_dfa_search.proofs.SeenLemmas.{seen_past}
use Rattle.rc_dfa_search.proofs.ToldLemmas.{kept_same, kept_text}

-- what agrees below q agrees below r
take_less : (xs ys : List ℕ) (r q : ℕ) → r ≤ q → take q xs ≡ take q ys →
    take r xs ≡ take r ys
take_less xs ys r q h e =
    sym (take-take r q xs h) ∙ ap (take r) e ∙ take-take r q ys h

pub agrees_less : (s t : Search) (r q : ℕ) → r ≤ q → AgreesBelow q s t → AgreesBelow r s t
agrees_less s t r q h a = record {
  places = a.places;
  terminator = a.terminator;
  slice_start = a.slice_start;
  lo = a.lo;
  anchoring = a.anchoring;
  passes_over = a.passes_over;
  read = take_less (take t.hi t.text.content) (take s.hi s.text.content) r q h a.read;
  seen = take_less (take t.text.slice_end t.text.content) (take s.text.slice_end s.text.content) r q h a.seen;
  content = take_less t.text.content s.text.content r q h a.content;
}

-- NEEDLES

stands_too : (xs ys : List ℕ) (r : ℕ) → ((p : ℕ) → p < r → slice_get ys p ≡ slice_get xs p) → (w : List ℕ) (i j : ℕ) → i + length w ≤ r →
    Stands xs w i j → Stands ys w i j
stands_too xs ys r same [] i j le h = h
stands_too xs ys r same (b ∷ w) i j le h =
    (same i (omega (arith, le)) ∙ h.0, stands_too xs ys r same w (i + 1) j (omega (arith, le)) h.1)

longest_at : (needles : List (List ℕ)) (k : ℕ) (w : List ℕ) → slice_get needles k ≡ Some w → length w ≤ longest needles
longest_at [] k w e = absurd (none-some w e)
longest_at (n ∷ needles) Rattle.std.specs.Prelude.zero w e =
    let same = ap length (same_Some n w e) in omega (arith, same)
longest_at (n ∷ needles) (Rattle.std.specs.Prelude.suc k) w e = let le = longest_at needles k w e in omega (arith, le)

pub hit_of : (needle : ℕ) (o : Option Hit) → Some needle ≡ option_map (λ (h : Hit). h.start) o → (h : Hit) × (o ≡ Some h) × (h.start ≡ needle)
hit_of needle None e = absurd (none-some needle (sym e))
hit_of needle (Some h) e = (h, refl, sym (same_Some needle h.start e))

-- SEARCHES THAT ARE THE SAME BELOW A POSITION

pub inside_of : (aim : Aim) (hs : List Re) (terminator : ℕ) (s : Searched) → IsInside (search_for aim hs terminator s)
inside_of aim hs terminator s = record { lo = omega arith; hi = omega arith; slice_end = omega arith }

same_parts : (t : Search) (places : List Place) (terminator stop lo hi : ℕ) (anchoring : Anchoring) (over : Bool) → places ≡ t.places →
    terminator ≡ t.text.terminator → stop ≡ t.text.slice_end → lo ≡ t.lo → hi ≡ t.hi → anchoring ≡ t.anchoring → over ≡ t.passes_over →
    (let q : Search = record {
      places = places;
      text = record { content = t.text.content; slice_start = t.text.slice_start; slice_end = stop; terminator = terminator };
      lo = lo;
      hi = hi;
      anchoring = anchoring;
      passes_over = over;
    } in q) ≡ t
same_parts t places terminator stop lo hi anchoring over a b c d e f g = rw (a, b, c, d, e, f, g) refl

module _ (aim : Aim) (hs : List Re) (terminator : ℕ) (s : Searched) (t : Search) (in2 : IsInside t) (r : ℕ)
    (agrees : AgreesBelow r (search_for aim hs terminator s) t) where
  abbrev S : Search
  S = search_for aim hs terminator s

  -- it is that of an input
  abbrev other : Searched
  other = record {
    content = t.text.content;
    chunk = [];
    offset = 0;
    position = 0;
    span = (let p : Span = record { start = t.lo; end = t.hi } in p);
    slice = (let p : Span = record { start = t.text.slice_start; end = t.text.slice_end } in p);
    anchored = s.anchored;
    earliest = s.earliest;
  }

  other_high : high other ≡ t.hi
  other_high = let b = in2.hi in let c = in2.slice_end in omega (arith, b, c)

  other_low : low other ≡ t.lo
  other_low = let a = in2.lo in omega (arith, a)

  is_other : search_for aim hs terminator other ≡ t
  is_other =
      let c = in2.slice_end in
      same_parts t (program hs) terminator (slice_end other) (low other) (high other) (anchoring_of s.anchored) aim.passes_over (sym agrees.places) (sym agrees.terminator)
      (omega (arith, c)) other_low other_high (sym agrees.anchoring) (sym agrees.passes_over)

  same_byte : (p : ℕ) → p < r → slice_get s.content p ≡ slice_get t.text.content p
  same_byte p lt =
      sym (get_below s.content r p lt) ∙ ap (λ xs. slice_get xs p) (sym agrees.content) ∙ get_below t.text.content r p lt

  pub within_too : (x : ℕ) → x ≤ high s → x ≤ r → x ≤ t.hi
  within_too x le far =
      let bound = same_bound S t r (inside_of aim hs terminator s) in2 agrees in omega (arith, bound, le, far)

  module _ (guard : Guard) (at : ℕ) (start : Start) (first : Some start.needle ≡ option_map (λ (h : Hit). h.start) (find_needle (guard_needles guard) s.content at (high s)))
      (begins : BeginsFor guard s.content at start) (low_from : at ≤ start.from) (low_needle : start.from ≤ start.needle) (high_needle : start.needle < high s)
      (far : min (start.needle + longest (guard_needles guard)) (high s + 1) ≤ r) where
    none_before : (i : ℕ) → at ≤ i → i < start.needle → NoneAt (guard_needles guard) s.content (high s) i
    none_before i above lt =
        let h = hit_of start.needle (find_needle (guard_needles guard) s.content at (high s)) first in
        let same = h.2 in
        ((needle_law.found (guard_needles guard) s.content at (high s) h.0).0 h.1).none_before i above (omega (arith, same, lt))

    none_too : (i : ℕ) → at ≤ i → i < start.needle → NoneAt (guard_needles guard) other.content (high other) i
    none_too i above lt k w is stands =
        let len = longest_at (guard_needles guard) k w is in
        let bound = same_bound S t r (inside_of aim hs terminator s) in2 agrees in
        let ends = stands.0 in
        let so = other_high in
        let near : i + length w ≤ r = omega (arith, len, bound, ends, so, lt, far) in
        none_before i above lt k w is (
          omega (arith, bound, ends, so, near),
          stands_too t.text.content s.content r same_byte w i (i + length w) near stands.1,
        )

    below_other : (z : ℕ) → z < start.from → z ≤ high other
    below_other z lt =
        let so = other_high in
        let le = within_too z (omega (arith, lt, low_needle, high_needle)) (omega (arith, lt, low_needle, high_needle, far)) in omega (arith, so, le)

    none_by : (g : Guard) → IsGuard (program hs) terminator g → BeginsFor g s.content at start →
        ((i : ℕ) → at ≤ i → i < start.needle → NoneAt (guard_needles g) other.content (high other) i) →
        (z : ℕ) → at ≤ z → z < start.from → HasNoWalkFrom (search_for aim hs terminator other) z
    none_by (Begins p) guards here none z above lt =
        guards aim.passes_over other z (below_other z lt) (none z above (omega (arith, lt, low_needle)))
    none_by (Holds n) guards here none z above lt =
        guards aim.passes_over other z start.from lt (below_other z lt) (λ y a b. none y (omega (arith, above, a)) (omega (arith, b, low_needle)))
        (⊎_elim (λ e. absurd (omega (arith, e, above, lt)))
        (λ b. inr (b.0, sym (same_byte (start.from - 1) (omega (arith, lt, low_needle, high_needle, far))) ∙ b.1, b.2)) here.least)

    -- no walk begins before the start for the first needle
    pub none_begin : IsGuard (program hs) terminator guard → HasNoWalkBetween t at start.from
    none_begin guards z above lt = subst (λ (q : Search). HasNoWalkFrom q z) is_other (none_by guard guards begins none_too z above lt)

  -- no walk begins where no needle does, if each that begins there would end below r
  pub none_until : (needles : List (List ℕ)) → Guards (program hs) terminator needles → (at stop : ℕ) → stop ≤ high s → stop + longest needles ≤ r + 1 →
      ((i : ℕ) → at ≤ i → i < stop → NoneAt needles s.content (high s) i) → HasNoWalkBetween t at stop
  none_until needles guards at stop inside near none z above lt =
      let so = other_high in
      let le = within_too z (omega (arith, lt, inside)) (omega (arith, lt, near)) in
      subst (λ (q : Search). HasNoWalkFrom q z) is_other
      (guards aim.passes_over other z (omega (arith, so, le))
      (λ k w is stands.
      let len = longest_at needles k w is in
      let bound = same_bound S t r (inside_of aim hs terminator s) in2 agrees in
      let ends = stands.0 in
      let fit : z + length w ≤ r = omega (arith, len, lt, near) in
      none z above lt k w is (
        omega (arith, bound, ends, so, fit),
        stands_too t.text.content s.content r same_byte w z (z + length w) fit stands.1,
      )))

  -- a match that begins where the first may
  module _ (goes : GoesByNeedles aim s.anchored) (from : ℕ) (above : low s ≤ from) (none : HasNoWalkBetween t t.lo from) where
    pub found_too : (m : Found) → answer_by aim.kind (starting_at from t) ≡ Some m → answer_by aim.kind t ≡ Some m
    found_too m h =
        let keeps : Keeps other other = record { content = refl; span = refl; slice = refl; anchored = refl; earliest = refl } in
        let lo = agrees.lo in
        let so = other_low in
        sym (subst (λ q. Some m ≡ answer_by aim.kind q) is_other
        (found_here aim hs terminator other other keeps goes (low other) (high other) refl refl from (omega (arith, lo, so, above))
        (λ x low lt. subst (λ (q : Search). HasNoWalkFrom q x) (sym is_other) (none x (omega (arith, so, low)) lt)) other keeps m
        (sym h ∙ ap (λ q. answer_by aim.kind (starting_at from q)) (sym is_other))))

-- THE FIRST NEEDLE

moved_inside : (from : ℕ) (s t : Search) (r : ℕ) → IsInside s → s.lo ≤ from → AgreesBelow r s t → IsInside t → IsInside (starting_at from t)
moved_inside from s t r in1 above agrees in2 =
    let lo = in1.lo in let start = agrees.slice_start in
    record { lo = omega (arith, lo, start, above); hi = in2.hi; slice_end = in2.slice_end }

moved_agrees : (from : ℕ) (s t : Search) (r : ℕ) → AgreesBelow r s t → AgreesBelow r (starting_at from s) (starting_at from t)
moved_agrees from s t r a = record {
  places = a.places;
  terminator = a.terminator;
  slice_start = a.slice_start;
  lo = refl;
  anchoring = refl;
  passes_over = a.passes_over;
  read = a.read;
  seen = a.seen;
  content = a.content;
}

-- the match that begins at the first start is the match
pub first_settles : (aim : Aim) (hs : List Re) (terminator : ℕ) (s : Searched) (goes : GoesByNeedles aim s.anchored) (from : ℕ) → low s ≤ from →
    (p q r : ℕ) → p ≤ r → q ≤ r → NoneBeginBelow (search_for aim hs terminator s) p from → (m : Found) →
    IsAnswerBelow aim.kind (starting_at from (search_for aim hs terminator s)) q (Some m) → IsAnswerBelow aim.kind (search_for aim hs terminator s) r (Some m)
first_settles aim hs terminator s goes from above p q r le_p le_q none m here t in2 agrees =
    let S = search_for aim hs terminator s in
    found_too aim hs terminator s t in2 r agrees goes from above (none t in2 (agrees_less S t p r le_p agrees)) m
    (here (starting_at from t) (moved_inside from S t r (inside_of aim hs terminator s) above agrees in2) (moved_agrees from S t q (agrees_less S t q r le_q agrees)))

pub first_settles_some : (aim : Aim) (hs : List Re) (terminator : ℕ) (s : Searched) (goes : GoesByNeedles aim s.anchored) (from : ℕ) → low s ≤ from →
    (p q r : ℕ) → p ≤ r → q ≤ r → NoneBeginBelow (search_for aim hs terminator s) p from → (o : Option Found) → is_some o ≡ true →
    IsAnswerBelow aim.kind (starting_at from (search_for aim hs terminator s)) q o → IsAnswerBelow aim.kind (search_for aim hs terminator s) r o
first_settles_some aim hs terminator s goes from above p q r le_p le_q none None so here = absurd (true≢false (sym so))
first_settles_some aim hs terminator s goes from above p q r le_p le_q none (Some m) so here =
    first_settles aim hs terminator s goes from above p q r le_p le_q none m here

-- what is settled there is the answer there
pub settled_here : (aim : Aim) (hs : List Re) (terminator : ℕ) (s : Searched) (from : ℕ) → low s ≤ from → (r : ℕ) (o : Option Found) →
    IsAnswerBelow aim.kind (starting_at from (search_for aim hs terminator s)) r o → o ≡ answer_by aim.kind (starting_at from (search_for aim hs terminator s))
settled_here aim hs terminator s from above r o h =
    let q = search_for aim hs terminator s in
    let inside = inside_of aim hs terminator s in
    sym (h (starting_at from q) (moved_inside from q q 0 inside above (itself q 0) inside) (itself (starting_at from q) r))

-- no match begins before the start for the first needle
pub none_first : (aim : Aim) (hs : List Re) (terminator : ℕ) (s : Searched) (guard : Guard) (start : Start) →
    Some start.needle ≡ option_map (λ (h : Hit). h.start) (find_needle (guard_needles guard) s.content (low s) (high s)) →
    BeginsFor guard s.content (low s) start → (low s ≤ start.from) × (start.from ≤ start.needle) × (start.needle < high s) → (r : ℕ) →
    min (start.needle + longest (guard_needles guard)) (high s + 1) ≤ r → IsGuard (program hs) terminator guard →
    NoneBeginBelow (search_for aim hs terminator s) r start.from
none_first aim hs terminator s guard start first begins within r far guards t in2 agrees z above lt =
    let lo = agrees.lo in
    none_begin aim hs terminator s t in2 r agrees guard (low s) start first begins within.0 within.1 within.2 far guards z (omega (arith, lo, above)) lt

-- THE FIRST BYTE

-- no walk begins over a byte that has a flag
none_over : (s : Search) (x b : ℕ) (flags : List Bool) → TellsOthers s.places 0 flags → IsTrue (slice_index_or flags b false) →
    slice_get (slice_range s.text.content x s.hi) 0 ≡ Some b → HasNoWalkFrom s x
none_over s x b flags tells set ahead_is =
    none_goes_on s.places s.text s.hi 0 x b (λ n. IsTrue (ends s n)) []
    (λ (n : Pair) h. (_, match_place_is (only s.anchoring) (place_at s.places n.0) h)) ahead_is (tells b set)

-- none begins over such bytes of a piece, in each content that is the same there
pub others_skipped : (aim : Aim) (hs : List Re) (terminator : ℕ) (s : Searched) (flags : List Bool) → TellsOthers (program hs) 0 flags →
    (piece : List ℕ) (at near passed : ℕ) → piece ≡ slice_range s.content at (at + length piece) → at + length piece ≤ high s → near ≤ length piece →
    passed ≤ length (take near piece) → AreInside flags (take near piece) passed → (r : ℕ) → at + passed ≤ r → (t : Search) → IsInside t →
    AgreesBelow r (search_for aim hs terminator s) t → HasNoWalkBetween t at (at + passed)
others_skipped aim hs terminator s flags tells piece at near passed is within least passes inside r far t in2 agrees z above lt =
    let all = length-take-le near piece least in
    let k : ℕ = z - at in
    let in_passed : k < passed = omega (arith, above, lt) in
    let in_near : k < near = omega (arith, in_passed, passes, all) in
    let in_piece : k < length piece = omega (arith, in_near, least) in
    let b : ℕ = slice_index piece k in
    let set : IsTrue (slice_index_or flags b false) = subst (λ c. IsTrue (slice_index_or flags c false)) (get_or-take near piece k 0 in_near) (inside k in_passed) in
    let there : at + k ≡ z = omega (arith, above) in
    let stands : slice_get s.content z ≡ Some b =
    subst (λ y. slice_get s.content y ≡ Some b) there
    (sym (slice_get-slice_range s.content at (at + length piece) k (omega (arith, in_piece))) ∙ ap (λ bs. slice_get bs k) (sym is) ∙ slice_get-get_or piece k 0 in_piece) in
    let up = within_too aim hs terminator s t in2 r agrees (z + 1) (omega (arith, lt, passes, all, least, within)) (omega (arith, lt, far)) in
    none_over t z b flags (subst (λ ps. TellsOthers ps 0 flags) (sym agrees.places) tells) set
    (slice_get-slice_range t.text.content z t.hi 0 (omega (arith, up)) ∙ ap (slice_get t.text.content) (omega arith)
    ∙ sym (same_byte aim hs terminator s t in2 r agrees z (omega (arith, lt, far))) ∙ stands)

-- where these bytes settle that no match begins, no walk does
pub none_there : (aim : Aim) (hs : List Re) (terminator : ℕ) (s : Searched) (goes : GoesByNeedles aim s.anchored) (from : ℕ) → low s ≤ from → from ≤ high s →
    (q r : ℕ) → q ≤ r → from ≤ r → (o : Option Found) → is_some o ≡ false →
    IsAnswerBelow aim.kind (starting_at from (search_for aim hs terminator s)) q o →
    (t : Search) → IsInside t → AgreesBelow r (search_for aim hs terminator s) t → HasNoWalkFrom t from
none_there aim hs terminator s goes from above below q r le far (Some m) e here t in2 agrees = absurd (true≢false e)
none_there aim hs terminator s goes from above below q r le far None e here t in2 agrees =
    let S = search_for aim hs terminator s in
    let z = other aim hs terminator s t in2 r agrees in
    let so = other_high aim hs terminator s t in2 r agrees in
    let up = within_too aim hs terminator s t in2 r agrees from below far in
    let same = is_other aim hs terminator s t in2 r agrees in
    let less = agrees_less S t q r le agrees in
    subst (λ (q : Search). HasNoWalkFrom q from) same
    (not_begun aim hs terminator z z (kept_same z) goes (low z) (high z) refl refl z (kept_same z) from (omega (arith, so, up))
    (sym (here (starting_at from t) (moved_inside from S t q (inside_of aim hs terminator s) above less in2) (moved_agrees from S t q less))
    ∙ ap (λ q. answer_by aim.kind (starting_at from q)) (sym same)))

-- what an anchored run met, and how many bytes settle it
abbrev pub IsMetBelow : MatchKind → Search → ℕ → ℕ → Option Met → Type 0
IsMetBelow kind s from r None = IsAnswerBelow kind (starting_at from s) r None
IsMetBelow kind s from r (Some met) = (from ≤ met.at) × (met.at ≤ s.hi)
    × IsAnswerBelow kind (starting_at from s) r (Some (let f : Found = record { pattern = met.pattern; start = from; end = met.at } in f))

module _ (AreOf : Machine → Machine → Type 0) (aim : Aim) (hs : List Re) (terminator : ℕ) (of : AreHalvesOf AreOf aim hs terminator) (s : Searched)
    (goes : GoesByNeedles aim s.anchored) (from : ℕ) (above : low s ≤ from) (below : from ≤ high s) where
  abbrev Q : Search
  Q = search_for aim hs terminator s

  inside_here : IsInside (starting_at from Q)
  inside_here = moved_inside from Q Q 0 (inside_of aim hs terminator s) above (itself Q 0) (inside_of aim hs terminator s)

  here : IsCase hs aim.kind of.ahead of.back Yes (starting_at from Q)
  here = case_here AreOf aim hs terminator of s goes from above below

  met_here : (e : Ended) (r : ℕ) → HasEndedBelow of.ahead (text_of terminator s) (high s) from Yes false false e r →
      IfOk (told_of e) (IsMetBelow aim.kind Q from (seen_to of.ahead.alphabet r))
  met_here (found_last None) r h = none_below hs aim.kind goes.kind of.ahead of.back Yes (starting_at from Q) here inside_here goes.all r h
  met_here (found_last (Some met)) r h =
      let w = leftmost_law.at_start hs aim.kind of.ahead of.back Yes (starting_at from Q) from h.0 met.at goes.kind here
      (leftmost_law.begins hs aim.kind of.ahead of.back Yes (starting_at from Q) here)
      (run_reach_law.ends of.ahead (text_of terminator s) (high s) from Yes false (met_last (Some (h.0, met.at))) r h.2)
      (may_here AreOf aim hs terminator of s goes from above below met.at) refl in (
        w.0,
        w.1,
        subst (λ p. IsAnswerBelow aim.kind (starting_at from Q) (seen_to of.ahead.alphabet r) (Some (let f : Found = record { pattern = p; start = from; end = met.at } in f))) h.1
            (some_held hs aim.kind goes.kind of.ahead of.back Yes (starting_at from Q) here inside_here goes.all r h.0 met.at h.2 refl),
      )
  met_here (Idle i) r h = absurd (true≢false (sym h.0))
  met_here (Quit b p) r h = tt
  met_here (GaveUp p memory) r h = tt

  -- in code
  pub here_below : (e : Ended) (r : ℕ) →
      ((m n : Machine) → AreOf m n → IsAsked m Yes → HasEndedBelow m (text_of m.setting.terminator s) (high s) from Yes false false e r) →
      IfOk (told_of e) (IsMetBelow aim.kind Q from (seen_to of.ahead.alphabet r))
  here_below e r ends =
      let ms = of.machines in
      met_here e r (subst (λ x. HasEndedBelow of.ahead (text_of x s) (high s) from Yes false false e r) (ap (λ (m : Machine). m.setting.terminator) ms.ahead)
      (ends of.ahead of.back of.are_of tt))

pub met_below_so : (kind : MatchKind) (s : Search) (from r bound : ℕ) (told : Result (Option Met) MatchError) (found : Option Found) → bound ≡ s.hi →
    IfOk told (IsMetBelow kind s from r) → (met : Option Met) × (told ≡ Ok met) × (found ≡ found_from from bound met) →
    IsAnswerBelow kind (starting_at from s) r found
met_below_so kind s from r bound told found end is (None, same, was) =
    subst (IsAnswerBelow kind (starting_at from s) r) (sym was) (subst (λ t. IfOk t (IsMetBelow kind s from r)) same is)
met_below_so kind s from r bound told found end is (Some met, same, was) =
    let h = subst (λ t. IfOk t (IsMetBelow kind s from r)) same is in
    let a = h.0 in
    let b = h.1 in
    let there : met.at ≡ min (max met.at from) bound = omega (arith, end, a, b) in
    subst (IsAnswerBelow kind (starting_at from s) r) (sym was)
    (subst (λ e. IsAnswerBelow kind (starting_at from s) r (Some (let f : Found = record { pattern = met.pattern; start = from; end = e } in f))) there h.2)

-- ONE RUN

leg_looks : (m : Machine) (t : Text) (hi from : ℕ) (earliest : Bool) (e : Ended) (r : ℕ) → HasEndedBelow m t hi from No earliest true e r →
    IfOk (leg_of e from hi) (HasRunBelow m t hi from earliest r)
leg_looks m t hi from earliest (found_last None) r h = h
leg_looks m t hi from earliest (found_last (Some met)) r h = h
leg_looks m t hi from earliest (Idle i) r h =
    let b = rests_between m t hi from No earliest (idle_at i) i (run_reach_law.ends m t hi from No earliest (idle_at i) r h.1) refl in
    let low = b.0 in
    let high = b.1 in
    let same : min (max i from) hi ≡ i = omega (arith, low, high) in
    subst (λ k. SearchEndsBelow m t hi from No earliest (idle_at k) r) (sym same) h.1
leg_looks m t hi from earliest (Quit b p) r h = tt
leg_looks m t hi from earliest (GaveUp p memory) r h = tt

-- in code
pub leg_below : (AreOf : Machine → Machine → Type 0) (aim : Aim) (hs : List Re) (terminator : ℕ) (of : AreHalvesOf AreOf aim hs terminator) (s : Searched)
    (e : Ended) (r from bound : ℕ) (earliest : Bool) (leg : Result Leg error.MatchError) → leg ≡ leg_of e from bound → bound ≡ high s →
    ((m n : Machine) → AreOf m n → IsAsked m No → HasEndedBelow m (text_of m.setting.terminator s) (high s) from No earliest true e r) →
    IfOk leg (HasRunBelow of.ahead (text_of terminator s) (high s) from earliest r)
leg_below AreOf aim hs terminator of s e r from bound earliest leg is at_bound ends =
    let ms = of.machines in
    subst (λ o. IfOk o (HasRunBelow of.ahead (text_of terminator s) (high s) from earliest r)) (sym (is ∙ ap (leg_of e from) at_bound))
    (leg_looks of.ahead (text_of terminator s) (high s) from earliest e r
    (subst (λ x. HasEndedBelow of.ahead (text_of x s) (high s) from No earliest true e r) (ap (λ (m : Machine). m.setting.terminator) ms.ahead)
    (ends of.ahead of.back of.are_of tt)))

-- FROM NEEDLE TO NEEDLE

module _ (AreOf : Machine → Machine → Type 0) (aim : Aim) (hs : List Re) (terminator : ℕ) (of : AreHalvesOf AreOf aim hs terminator) (s : Searched)
    (goes : GoesByNeedles aim s.anchored) (ordered : low s ≤ high s) where
  abbrev Z : Search
  Z = search_for aim hs terminator s

  within : IsInside Z
  within = inside_of aim hs terminator s

  case : IsCase hs aim.kind of.ahead of.back No Z
  case = free_case AreOf aim hs terminator s of ordered goes.free

  module _ (t : Search) (in2 : IsInside t) (r : ℕ) (agrees : AgreesBelow r Z t) (far : low s ≤ r) where
    case_too : IsCase hs aim.kind of.ahead of.back No t
    case_too = same_case hs aim.kind goes.kind of.ahead of.back No Z case within goes.all r t in2 agrees far

    above_too : (x : ℕ) → low s ≤ x → t.lo ≤ x
    above_too x le = let lo = agrees.lo in omega (arith, lo, le)

    run_too : (from q : ℕ) (earliest : Bool) → from ≤ high s → seen_to of.ahead.alphabet q ≤ r → (leg : Leg) → HasRunBelow of.ahead Z.text Z.hi from earliest q leg →
        HasRun of.ahead t.text t.hi from earliest leg
    run_too from q earliest below le (legs.Ended None) h =
        table_reach_law of.ahead Z t from No earliest (met_last None) q within in2 below h (agrees_less Z t (seen_to of.ahead.alphabet q) r le agrees)
    run_too from q earliest below le (legs.Ended (Some met)) h =
        (h.0, h.1, table_reach_law of.ahead Z t from No earliest (met_last (Some (h.0, met.at))) q within in2 below h.2 (agrees_less Z t (seen_to of.ahead.alphabet q) r le agrees))
    run_too from q earliest below le (legs.Rested i) h =
        table_reach_law of.ahead Z t from No earliest (idle_at i) q within in2 below h (agrees_less Z t (seen_to of.ahead.alphabet q) r le agrees)

    jumped_too : (at from : ℕ) → GivesToo aim.kind of.ahead t at t.lo → at ≤ from → from ≤ t.hi → HasNoWalkBetween t at from → GivesToo aim.kind of.ahead t from t.lo
    jumped_too at from carried le high none o g = carried o (rest_law.jumps hs aim.kind of.ahead of.back t at from goes.kind case_too le high none o g)

    rested_too : (from i q : ℕ) (earliest : Bool) → low s ≤ from → from ≤ high s → seen_to of.ahead.alphabet q ≤ r → GivesToo aim.kind of.ahead t from t.lo →
        HasRunBelow of.ahead Z.text Z.hi from earliest q (legs.Rested i) → GivesToo aim.kind of.ahead t i t.lo
    rested_too from i q earliest above below le carried h o g =
        carried o ((rest_law.rests hs aim.kind of.ahead of.back t from i earliest goes.kind case_too (above_too from above) (run_too from q earliest below le (legs.Rested i) h)).2 o g)

    nothing_too : (from q : ℕ) (earliest : Bool) → low s ≤ from → from ≤ high s → seen_to of.ahead.alphabet q ≤ r → GivesToo aim.kind of.ahead t from t.lo →
        HasRunBelow of.ahead Z.text Z.hi from earliest q (legs.Ended None) → IsGiven aim.kind of.ahead t None
    nothing_too from q earliest above below le carried h =
        carried None (rest_law.met hs aim.kind of.ahead of.back t from None goes.kind case_too (above_too from above)
        (not_early of.ahead t.text t.hi from earliest (met_last None) refl (run_too from q earliest below le (legs.Ended None) h)))

    given_too : (from q : ℕ) → low s ≤ from → from ≤ high s → seen_to of.ahead.alphabet q ≤ r → GivesToo aim.kind of.ahead t from t.lo → (met : Met) →
        HasRunBelow of.ahead Z.text Z.hi from false q (legs.Ended (Some met)) → IsGiven aim.kind of.ahead t (Some met)
    unfolding run_too
    given_too from q above below le carried met h = (
      h.0,
      h.1,
      carried (Some (h.0, met.at)) (rest_law.met hs aim.kind of.ahead of.back t from (Some (h.0, met.at)) goes.kind case_too (above_too from above)
          (run_too from q false below le (legs.Ended (Some met)) h).2),
    )

  -- at first
  pub all_below : (reach at : ℕ) → low s ≤ at → at ≤ high s → at ≤ reach → NoneBeginBelow Z reach at → GivesBelow aim.kind of.ahead Z reach at
  all_below reach at above below far none t in2 agrees =
      jumped_too t in2 reach agrees (omega (arith, above, far)) t.lo at (λ o g. g) (above_too t in2 reach agrees (omega (arith, above, far)) at above)
      (within_too aim hs terminator s t in2 reach agrees at below far) (none t in2 agrees)

  -- after a jump
  module _ (guard : Guard) (guards : IsGuard (program hs) terminator guard) (at : ℕ) (start : Start)
      (first : Some start.needle ≡ option_map (λ (h : Hit). h.start) (find_needle (guard_needles guard) s.content at (high s)))
      (begins : BeginsFor guard s.content at start) (above : low s ≤ at) (low_from : at ≤ start.from) (low_needle : start.from ≤ start.needle)
      (high_needle : start.needle < high s) (reach r : ℕ) (more : reach ≤ r) (far : min (start.needle + longest (guard_needles guard)) (high s + 1) ≤ r)
      (carried : GivesBelow aim.kind of.ahead Z reach at) where
    after_jump : GivesBelow aim.kind of.ahead Z r start.from
    after_jump t in2 agrees =
        jumped_too t in2 r agrees (omega (arith, above, low_from, low_needle, high_needle, far)) at start.from (carried t in2 (agrees_less Z t reach r more agrees)) low_from
        (within_too aim hs terminator s t in2 r agrees start.from (omega (arith, low_needle, high_needle)) (omega (arith, low_needle, high_needle, far)))
        (none_begin aim hs terminator s t in2 r agrees guard at start first begins low_from low_needle high_needle far guards)

    -- all give what the starts from there on give
    pub gives_from : GivesToo aim.kind of.ahead Z start.from Z.lo
    gives_from = after_jump Z within (itself Z r)

    module _ (q : ℕ) (read : seen_to of.ahead.alphabet q ≤ r) where
      pub rested_below : (earliest : Bool) (i : ℕ) → HasRunBelow of.ahead Z.text Z.hi start.from earliest q (legs.Rested i) → GivesBelow aim.kind of.ahead Z r i
      rested_below earliest i h t in2 agrees =
          rested_too t in2 r agrees (omega (arith, above, low_from, low_needle, high_needle, far)) start.from i q earliest (omega (arith, above, low_from))
          (omega (arith, low_needle, high_needle)) read (after_jump t in2 agrees) h

      pub given_below : (met : Met) → HasRunBelow of.ahead Z.text Z.hi start.from false q (legs.Ended (Some met)) → (met.at < q) × IsGivenBelow aim.kind of.ahead Z r met
      given_below met h = (
        run_reach_law.met_before of.ahead Z.text Z.hi start.from No false h.0 met.at q h.2,
        λ t in2 agrees.
            given_too t in2 r agrees (omega (arith, above, low_from, low_needle, high_needle, far)) start.from q (omega (arith, above, low_from)) (omega (arith, low_needle, high_needle)) read
            (after_jump t in2 agrees) met h,
      )

      pub none_given : (earliest : Bool) → HasRunBelow of.ahead Z.text Z.hi start.from earliest q (legs.Ended None) → IsGiven aim.kind of.ahead Z None
      none_given earliest h =
          nothing_too Z within r (itself Z r) (omega (arith, above, low_from, low_needle, high_needle, far)) start.from q earliest (omega (arith, above, low_from))
          (omega (arith, low_needle, high_needle)) read gives_from h

  -- THE MATCH

  raised : (t : Search) → IsCase hs aim.kind of.ahead of.back No t → IsRaisedBy aim.kind (by_bytes t) t.lo
  raised t c = leftmost_law.begins hs aim.kind of.ahead of.back No t c

  may : (t : Search) → t.passes_over ≡ false → (e : ℕ) → may_end_at t e ≡ true
  may t all e = rw all refl

  module _ (met : Met) (reach : ℕ) (past : met.at < reach) (given : IsGivenBelow aim.kind of.ahead Z (seen_to of.ahead.alphabet reach) met) where
    met_within : (low s ≤ met.at) × (met.at ≤ high s)
    met_within =
        let g = given Z within (itself Z (seen_to of.ahead.alphabet reach)) in
        let w = given_law.ends hs aim.kind of.ahead of.back Z Z.lo g.0 met.at goes.kind case (raised Z case) g.2 (may Z goes.all met.at) in
        let a = w.1 in let b = w.2 in (omega (arith, a, b), w.3)

    pub end_so : (end : ℕ) → end ≡ min (max met.at (low s)) (high s) → end ≡ met.at
    end_so end is = let a = met_within.0 in let b = met_within.1 in omega (arith, is, a, b)

    pub some_first : SearchEndsDown of.back Z.text (low s) met.at No false (met_last None) → ⊥
    some_first d =
        let g = given Z within (itself Z (seen_to of.ahead.alphabet reach)) in
        given_law.some_start hs aim.kind of.ahead of.back Z Z.lo g.0 met.at goes.kind case (raised Z case) g.2 (may Z goes.all met.at) d

    pub match_below : (first : Met) → SearchEndsDown of.back Z.text (low s) met.at No false (met_last (Some (first.at, first.pattern))) →
        (pattern start end : ℕ) → pattern ≡ met.pattern → end ≡ met.at → start ≡ min (max first.at (low s)) end →
        IsAnswerBelow aim.kind Z (seen_to of.ahead.alphabet reach) (Some (let f : Found = record { pattern = pattern; start = start; end = end } in f))
    match_below first d pattern start end is is_end is_start t in2 agrees =
        let above = met_within.0 in
        let on = seen_past of.ahead.alphabet reach in
        let far : low s ≤ seen_to of.ahead.alphabet reach = omega (arith, above, past, on) in
        let c = case_too t in2 (seen_to of.ahead.alphabet reach) agrees far in
        let g = given t in2 agrees in
        let back = subst (λ x. SearchEndsDown of.back t.text x met.at No false (met_last (Some (first.at, first.pattern)))) (sym agrees.lo)
        (run_reach_law.down of.back Z.text Z.hi Z.lo met.at No false (met_last (Some (first.at, first.pattern))) reach t.text t.hi past d
        (look_same of.back.alphabet Z t reach within in2 (subst (λ a. AgreesBelow (seen_to a reach) Z t) (same_reading case) agrees))) in
        let w = given_law.starts hs aim.kind of.ahead of.back t t.lo g.0 met.at first.at first.pattern goes.kind c (raised t c) g.2
        (may t (agrees.passes_over ∙ goes.all) met.at) back in
        let a = w.0 in
        let b = w.1 in
        let lo = agrees.lo in
        let at : start ≡ first.at = omega (arith, is_start, is_end, a, b, lo) in
        w.3 ∙ ap Some (cc (at, is, is_end, g.1))

    -- in code
    pub down_so : (cur : Searched) → Keeps s cur → (lo end : ℕ) → lo ≡ low s → end ≡ met.at → (o : Option Met) →
        HasMetDown of.back (text_of terminator cur) lo end cur.anchored (is_early aim) o → HasMetDown of.back Z.text (low s) met.at No false o
    down_so cur keeps lo end is_lo is_end o h =
        let early : is_early aim ≡ false = ap (λ b. b && not aim.passes_over) goes.late in
        subst (λ b. HasMetDown of.back Z.text (low s) met.at No b o) early
        (subst (λ a. HasMetDown of.back Z.text (low s) met.at a (is_early aim) o) (keeps.anchored ∙ goes.free)
        (subst (λ e. HasMetDown of.back Z.text (low s) e cur.anchored (is_early aim) o) is_end
        (subst (λ x. HasMetDown of.back Z.text x end cur.anchored (is_early aim) o) is_lo
        (subst (λ (x : Text). HasMetDown of.back x lo end cur.anchored (is_early aim) o) (kept_text terminator s cur keeps) h))))

-- a search that isn't anchored and tells its reach
pub goes_free : (aim : Aim) (anchored given : Anchored) (b : Bool) → TellsReach aim → given ≡ anchored → b ≡ anchors given → b ≡ false → GoesByNeedles aim anchored
goes_free aim anchored given b tells same is free = record {
  kind = tells.kind;
  late = tells.late;
  all = tells.all;
  free = is_no anchored (sym (ap anchors same) ∙ sym is ∙ free);
}

-- a search that agrees past the end of the content is the same
whole_parts : (t : Search) (places : List Place) (content : List ℕ) (start stop terminator lo hi : ℕ) (anchoring : Anchoring) (over : Bool) → places ≡ t.places →
    content ≡ t.text.content → start ≡ t.text.slice_start → stop ≡ t.text.slice_end → terminator ≡ t.text.terminator → lo ≡ t.lo → hi ≡ t.hi →
    anchoring ≡ t.anchoring → over ≡ t.passes_over →
    (let q : Search = record {
      places = places;
      text = record { content = content; slice_start = start; slice_end = stop; terminator = terminator };
      lo = lo;
      hi = hi;
      anchoring = anchoring;
      passes_over = over;
    } in q) ≡ t
whole_parts t places content start stop terminator lo hi anchoring over a b c d e f g h i = rw (a, b, c, d, e, f, g, h, i) refl

far_same : (s t : Search) (r : ℕ) → IsInside s → IsInside t → AgreesBelow r s t → length s.text.content + 1 ≤ r → s ≡ t
far_same s t r in1 in2 agrees far =
    let xs = s.text.content in
    let ys = t.text.content in
    let all = ap length agrees.content in
    let a = length-take r xs in
    let b = length-take r ys in
    let short : length ys + 1 ≤ r = omega (arith, all, a, b, far) in
    let seen = ap length agrees.seen in
    let c = length-take r (take s.text.slice_end xs) in
    let d = length-take r (take t.text.slice_end ys) in
    let e = length-take s.text.slice_end xs in
    let f = length-take t.text.slice_end ys in
    let bound = same_bound s t r in1 in2 agrees in
    let h1 = in1.hi in
    let h2 = in2.hi in
    let e1 = in1.slice_end in
    let e2 = in2.slice_end in
    whole_parts t s.places xs s.text.slice_start s.text.slice_end s.text.terminator s.lo s.hi s.anchoring s.passes_over (sym agrees.places)
    (sym (take_all r xs (omega (arith, far))) ∙ sym agrees.content ∙ take_all r ys (omega (arith, short))) (sym agrees.slice_start)
    (omega (arith, seen, c, d, e, f, e1, e2, far, short)) (sym agrees.terminator) (sym agrees.lo)
    (omega (arith, bound, h1, h2, e1, e2, far, short)) (sym agrees.anchoring) (sym agrees.passes_over)

-- what is known of the search is known of all that agree so far
pub none_far : (aim : Aim) (hs : List Re) (terminator : ℕ) (s : Searched) (r from : ℕ) → length s.content + 1 ≤ r →
    ((x : ℕ) → low s ≤ x → x < from → HasNoWalkFrom (search_for aim hs terminator s) x) → NoneBeginBelow (search_for aim hs terminator s) r from
none_far aim hs terminator s r from far none t in2 agrees z above lt =
    let lo = agrees.lo in
    subst (λ q. HasNoWalkFrom q z) (far_same (search_for aim hs terminator s) t r (inside_of aim hs terminator s) in2 agrees far) (none z (omega (arith, above, lo)) lt)

-- no match begins before the search does
pub none_yet : (s : Search) (r at : ℕ) → at ≤ s.lo → NoneBeginBelow s r at
none_yet s r at first t in2 agrees z above lt = let lo = agrees.lo in absurd (omega (arith, above, lt, lo, first))

-- what these bytes settle is the answer
pub settled_so : (aim : Aim) (hs : List Re) (terminator : ℕ) (s : Searched) → GoesByNeedles aim s.anchored → (r : ℕ) (found : Option Found) →
    IsAnswerBelow aim.kind (search_for aim hs terminator s) r found → IsAnswerBy aim.kind aim.earliest (search_for aim hs terminator s) found
settled_so aim hs terminator s goes r found h =
    let q = search_for aim hs terminator s in
    subst (λ e. IsAnswerBy aim.kind e q found) (sym goes.late) (sym (h q (inside_of aim hs terminator s) (itself q r)))
