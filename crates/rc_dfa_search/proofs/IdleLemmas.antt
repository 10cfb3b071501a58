-- How many bytes tell that no match begins before a position: those before it, where a run rests.
use Rattle.std.proofs.Common.{◌≡◌, ℕ, ◌+◌, ◌*◌, ◌<◌, ◌≤◌, false, List, [], ◌∷◌, length, Option, Some, None, IsTrue, ⊎_elim, sym, subst, ap, ◌∙◌, refl, arith}
use Rattle.std.proofs.lemmas.Bool.{cases_lt}
use Rattle.std.proofs.lemmas.Option.{none-some, same_Some}
use Rattle.rc_text.specs.Text.{Keeps, Searched, low, high}
use Rattle.rc_text.specs.declared.types.Anchored.TheVariants.{No}
use Rattle.rc_text.specs.declared.types.MatchKind.{MatchKind}
use Rattle.rc_text.specs.declared.types.MatchKind.TheVariants.{LeftmostFirst as leftmost_first}
use Rattle.rc_pattern.specs.Re.{Re}
use Rattle.rc_walks.specs.Walks.{Pair, HasNoWalk}
use Rattle.rc_walks.specs.Tries.{walk_by}
use Rattle.rc_walks.proofs.TryLemmas.{walk_by_finds}
use Rattle.rc_program.specs.Text.{Text}
use Rattle.rc_program.specs.Program.{place_at, program, ways, is_match_place}
use Rattle.rc_program.specs.Answer.{Search, HasNoWalkFrom, next_of, ends}
use Rattle.rc_program.specs.Laws.{IsClosed}
use Rattle.rc_program.proofs.WayLemmas.{same_pair}
use Rattle.rc_program.proofs.AnswerLemmas.{last_pair, is_bounded}
use Rattle.rc_needles.specs.Guards.{Guards}
use Rattle.rc_needles.specs.Needles.{NoneAt, longest}
use Rattle.rc_utf8.specs.Bytes.{bytes_of}
use Rattle.rc_utf8.specs.Laws.{by_bytes}
use Rattle.rc_utf8.proofs.AnswerLemmas.{same_from}
use Rattle.rc_determinize.specs.States.{State, Stops}
use Rattle.rc_reach.specs.Settled.{AgreesBelow, IsInside}
use Rattle.rc_reach.proofs.AgreeLemmas.{same_bound}
use Rattle.rc_dfa.specs.Machine.{Machine, forwards}
use Rattle.rc_dfa.specs.Reads as reads
use Rattle.rc_dfa.specs.Reads.{EndsBelow, SearchEndsBelow}
use Rattle.rc_dfa.specs.Runs.{RunEnd, met_last, stopped_at, idle_at}
use Rattle.rc_dfa_reach.specs.RunReach.{seen_to}
use Rattle.rc_dfa_reach.proofs.TableReachLemmas.{table_reach_law}
use Rattle.rc_idle.specs.Idle.{LeadOn}
use Rattle.rc_idle.proofs.IdleLemmas.{idle_law}
use Rattle.rc_dfa_search.specs.declared.search.Aim.{Aim}
use Rattle.rc_dfa_search.specs.declared.needles.Leg.TheVariants as legs
use Rattle.rc_dfa_search.specs.Aims.{AreHalvesOf, search_for}
use Rattle.rc_dfa_search.specs.Machines.{IsCase}
use Rattle.rc_dfa_search.specs.Reaches.{HasRunBelow, NoneBeginBelow}
use Rattle.rc_dfa_search.specs.Legs.{GoesByNeedles}
use Rattle.rc_dfa_search.proofs.CaseLemmas.{ahead_direction, ahead_machine, ahead_places, ahead_terminator, case_closed, only_is}
use Rattle.rc_dfa_search.proofs.FirstLemmas.{inside_from}
use Rattle.rc_dfa_search.proofs.LegLemmas.{free_case}
use Rattle.rc_dfa_search.proofs.ReachLemmas.{same_case}
use Rattle.rc_dfa_search.proofs.RestLemmas.{same_none}
use Rattle.rc_dfa_search.proofs.SeenLemmas.{seen_more, seen_past}
use Rattle.rc_dfa_search.proofs.SettledLemmas.{agrees_less, inside_of, none_until}
use Rattle.rc_program.proofs.PlaceLemmas.{program_some}

-- A run that rests looked at the bytes before that position.

abbrev rest_of : RunEnd → Option ℕ
rest_of (met_last met) = None
rest_of (stopped_at p) = None
rest_of (idle_at i) = Some i

read_here : (m : Machine) (t : Text) (hi from : ℕ) (first : State) (e : RunEnd) (r i : ℕ) → EndsBelow m t hi from first false e r →
    rest_of e ≡ Some i → r ≡ i
read_here m t hi from first e r i (reads.at_bound s next runs may step) is = absurd (none-some i is)
read_here m t hi from first e r i (reads.dead k s runs d) is = absurd (none-some i is)
read_here m t hi from first e r i (reads.early k s so runs) is = absurd (none-some i is)
read_here m t hi from first e r i (reads.quit k s runs le may) is = absurd (none-some i is)
read_here m t hi from first e r i (reads.rests k s runs le idle) is = same_Some k i is

read_before : (m : Machine) (t : Text) (hi from : ℕ) (e : RunEnd) (r i : ℕ) → SearchEndsBelow m t hi from No false e r →
    rest_of e ≡ Some i → r ≡ i
read_before m t hi from e r i (reads.ran first may begins so) is = read_here m t hi from first e r i so is
read_before m t hi from e r i (reads.unread p q may) is = absurd (none-some i is)

-- where no walk of the byte program begins, none of the program does
none_under : (s : Search) → IsClosed s.places → 0 < length s.places → (x : ℕ) → x ≤ s.hi → HasNoWalkFrom (by_bytes s) x → HasNoWalkFrom s x
none_under s closed some x le none =
    let B = by_bytes s in
    same_none (next_of s) (next_of B) (λ n. IsTrue (ends s n)) (λ n. IsTrue (ends B n)) ((0, x) ∷ [])
    (walk_by (next_of s) (ends s) (length s.places * (s.hi + 1)) [] (0, x))
    (walk_by (next_of B) (ends B) (length (bytes_of s.places) * (s.hi + 1)) [] (0, x))
    (walk_by_finds (next_of s) (ends s) same_pair (last_pair s) (length s.places) (s.hi + 1) (is_bounded s)
    (length s.places * (s.hi + 1)) [] (0, x) (omega arith) tt tt (omega (arith, le)))
    (walk_by_finds (next_of B) (ends B) same_pair (last_pair B) (length (bytes_of s.places)) (s.hi + 1) (is_bounded B)
    (length (bytes_of s.places) * (s.hi + 1)) [] (0, x) (omega arith) tt tt (omega (arith, le)))
    (sym (same_from s closed 0 x some le)) none

module _ (hs : List Re) (kind : MatchKind) (m n : Machine) (t : Search) (c : IsCase hs kind m n No t) where
  none_there : (x : ℕ) → x ≤ t.hi → HasNoWalk (ways m.setting.places t.text t.hi) (Stops m.setting.places) [] ((0, x) ∷ []) → HasNoWalkFrom t x
  none_there x le none =
      let some : 0 < length t.places = subst (λ ps. 0 < length ps) (sym c.places) (program_some hs) in
      none_under t (case_closed c) some x le
      (subst (λ o. HasNoWalk (ways (bytes_of t.places) t.text t.hi) (λ (p : Pair). IsTrue (is_match_place o (place_at (bytes_of t.places) p.0))) [] ((0, x) ∷ []))
      (sym (only_is c))
      (subst (λ ps. HasNoWalk (ways ps t.text t.hi) (Stops ps) [] ((0, x) ∷ [])) (ahead_places c) none))

  leads_on : LeadOn m.setting.places
  leads_on = subst LeadOn (sym (ahead_places c)) (subst (λ ps. LeadOn (bytes_of ps)) (sym c.places) (idle_law.leads_on hs))

-- FROM REST TO REST

module _ (AreOf : Machine → Machine → Type 0) (aim : Aim) (hs : List Re) (terminator : ℕ) (of : AreHalvesOf AreOf aim hs terminator) (s : Searched)
    (goes : GoesByNeedles aim s.anchored) (preferred : aim.kind ≡ leftmost_first) (ordered : low s ≤ high s) where
  abbrev Z : Search
  Z = search_for aim hs terminator s

  -- how many bytes of a content are the same in those that may follow
  abbrev R : ℕ
  R = seen_to of.ahead.alphabet (high s)

  pub idle_first : NoneBeginBelow Z R (low s)
  idle_first t in2 agrees z above lt = let lo = agrees.lo in absurd (omega (arith, above, lt, lo))

  pub idle_next : (at i q : ℕ) → low s ≤ at → at ≤ high s → at ≤ i → i ≤ high s → NoneBeginBelow Z R at → HasRunBelow of.ahead Z.text Z.hi at false q (legs.Rested i) →
      NoneBeginBelow Z R i
  idle_next at i q above below on far none h t in2 agrees z low lt =
      ⊎_elim
      (λ before. none t in2 agrees z low before)
      (λ after.
      let is : q ≡ i = read_before of.ahead Z.text Z.hi at (idle_at i) q i h refl in
      let run = table_reach_law of.ahead Z t at No false (idle_at i) q (inside_of aim hs terminator s) in2 below h
      (agrees_less Z t (seen_to of.ahead.alphabet q) R (seen_more of.ahead.alphabet q (high s) (omega (arith, is, far))) agrees) in
      let past = seen_past of.ahead.alphabet (high s) in
      let c = same_case hs aim.kind goes.kind of.ahead of.back No Z (free_case AreOf aim hs terminator s of ordered goes.free) (inside_of aim hs terminator s) goes.all R t in2
      agrees (omega (arith, ordered, past)) in
      let lo = agrees.lo in
      none_there hs aim.kind of.ahead of.back t c z (bound t in2 agrees z lt)
      (idle_law.none_before of.ahead t.text t.hi at i false (ahead_machine c) (ahead_direction c ∙ ap forwards preferred) (ahead_terminator c)
      (inside_from c.inside (omega (arith, lo, above))) (leads_on hs aim.kind of.ahead of.back t c) run z after lt))
      (cases_lt z at)
    where
      bound : (t : Search) → IsInside t → AgreesBelow R Z t → (z : ℕ) → z < i → z ≤ t.hi
      bound t in2 agrees z lt = let b = same_bound Z t R (inside_of aim hs terminator s) in2 agrees in let past = seen_past of.ahead.alphabet (high s) in
          omega (arith, b, lt, far, past)

  -- from needle to needle, in code
  pub needle_next : (needles : List (List ℕ)) → Guards (program hs) terminator needles → (cur : Searched) → Keeps s cur → (len hi at from : ℕ) → len ≡ longest needles →
      hi ≡ high s → from ≤ hi → ((i : ℕ) → at ≤ i → i < from → NoneAt needles cur.content hi i) → (at < from → from + len ≤ hi + 1) → NoneBeginBelow Z R at →
      NoneBeginBelow Z R from
  needle_next needles guards cur keeps len hi at from is_len is_hi inside here near none t in2 agrees z low lt =
      ⊎_elim
      (λ before. none t in2 agrees z low before)
      (λ after.
      let fit = near (omega (arith, after, lt)) in
      let past = seen_past of.ahead.alphabet (high s) in
      none_until aim hs terminator s t in2 R agrees needles guards at from (omega (arith, inside, is_hi)) (omega (arith, fit, is_len, is_hi, past))
      (λ i a b. subst (λ h. NoneAt needles s.content h i) is_hi (subst (λ bytes. NoneAt needles bytes hi i) keeps.content (here i a b))) z after lt)
      (cases_lt z at)
