-- From what the two halves met to the match.
use Rattle.std.proofs.Common.{◌≡◌, ℕ, ◌≤◌, ◌⊎◌, Bool, true, false, true≢false, List, Option, Some, None, max, min, inl, inr, sym, subst, ap, ◌∙◌, refl, arith}
use Rattle.rc_text.specs.Found.{Found}
use Rattle.rc_text.specs.Plain.{is_anchored as anchors}
use Rattle.rc_text.specs.declared.types.MatchKind.{MatchKind}
use Rattle.rc_text.specs.declared.types.MatchKind.TheVariants.{All as all_matches, LeftmostFirst as leftmost_first, LeftmostLongest as leftmost_longest}
use Rattle.rc_text.specs.declared.types.Anchored.{Anchored}
use Rattle.rc_text.specs.declared.types.Anchored.TheVariants.{No, Yes, Pattern}
use Rattle.rc_pattern.specs.Re.{Re}
use Rattle.rc_program.specs.Answer.{Search, is_anchored}
use Rattle.rc_program.specs.Greatest.{IsSpelledIn}
use Rattle.rc_utf8.specs.Laws.{by_bytes}
use Rattle.rc_determinize.specs.Laws.{may_end_at}
use Rattle.rc_program.specs.Kinds.{answer_by, IsAnswerWhere}
use Rattle.rc_program.proofs.GreatestLemmas.{spelled_within, greatest_some}
use Rattle.rc_dfa.specs.Machine.{Machine}
use Rattle.rc_dfa.specs.Runs.{met_last, SearchEnds, SearchEndsDown}
use Rattle.rc_dfa.specs.declared.ended.Met.{Met}
use Rattle.rc_dfa_search.specs.declared.search.End.{End}
use Rattle.rc_dfa_search.specs.Leftmost.{IsLeftmost}
use Rattle.rc_dfa_search.specs.Laws.{pattern_met, met_from}
use Rattle.rc_dfa_search.specs.Halves.{IsToldWith}
use Rattle.rc_dfa_search.specs.Ends.{HasMetDown, IsEnd, begins_there, keeps_pattern, match_by, start_by}
use Rattle.rc_dfa_search.proofs.CaseLemmas.{is_anchored_so}
use Rattle.rc_dfa_search.proofs.LeftmostLemmas.{leftmost_law, start_of}
use Rattle.rc_dfa_search.proofs.MetLemmas.{met_law}
use Rattle.rc_dfa_search.proofs.LastLemmas.{last_law}
use Rattle.rc_dfa_search.proofs.SeekLemmas.{from_low}

abbrev span : ℕ → ℕ → ℕ → Found
span p x e = record { pattern = p; start = x; end = e }

same_span : (p q x y e f : ℕ) → p ≡ q → x ≡ y → e ≡ f → span p x e ≡ span q y f
same_span p q x y e f a b c = cc

is_no : (anchored : Anchored) → anchors anchored ≡ false → anchored ≡ No
is_no No e = refl
is_no Yes e = absurd (true≢false e)
is_no (Pattern p) e = absurd (true≢false e)

-- where matches may begin anywhere, the match of the least start begins at the least one that a run backwards meets
free_none : (hs : List Re) (kind : MatchKind) → IsLeftmost kind → (m n : Machine) (s : Search) (end : End) → IsEnd hs kind false m n No s end → may_end_at s end.at ≡ true →
    ¬ HasMetDown n s.text end.from end.at No false None
free_none hs kind left m n s end h may down =
    let st = h.stands in leftmost_law.some_start hs kind m n s end.from h.place end.at left st.case st.raised h.ends may down

abbrev IsFirst : MatchKind → Search → End → Met → Type 0
IsFirst kind s end met = (end.from ≤ met.at) × (met.at ≤ end.at) × (answer_by kind s ≡ Some (span end.pattern met.at end.at))

free_start : (hs : List Re) (kind : MatchKind) → IsLeftmost kind → (m n : Machine) (s : Search) (end : End) (met : Met) → IsEnd hs kind false m n No s end →
    may_end_at s end.at ≡ true → HasMetDown n s.text end.from end.at No false (Some met) → IsFirst kind s end met
free_start hs kind left m n s end met h may down =
    let st = h.stands in
    let e = leftmost_law.starts hs kind m n s end.from h.place end.at met.at met.pattern left st.case st.raised h.ends may down in
    (e.0, e.1, e.3 ∙ ap (λ p. Some (span p met.at end.at)) h.pattern)

module _ (hs : List Re) (m n : Machine) (anchored : Anchored) (s : Search) (end : End) where
  abbrev IsMetEnd : MatchKind → Bool → Type 0
  IsMetEnd kind early = IsEnd hs kind early m n anchored s end

  ends_low : (kind : MatchKind) (early : Bool) → IsMetEnd kind early → end.from ≡ s.lo → (place : ℕ) × (pattern_met m place ≡ end.pattern)
      × SearchEnds m s.text s.hi s.lo anchored early (met_last (Some (place, end.at)))
  ends_low kind early h low = (h.place, h.pattern, from_low m s end.from anchored early (Some (h.place, end.at)) low h.ends)

  -- some walk of the pattern that was met leads to the end
  pub spelled : (kind : MatchKind) (early : Bool) (h : IsMetEnd kind early) → end.from ≡ s.lo →
      (x : ℕ) × IsSpelledIn s (span end.pattern x end.at) × (anchors anchored ≡ true → x ≡ s.lo)
  spelled kind early h low =
      let l = ends_low kind early h low in
      let st = h.stands in
      let e = met_law.ends hs kind m n anchored s early l.0 end.at st.case l.2 in
      (e.0, subst (λ p. IsSpelledIn s (span p e.0 end.at)) l.1 e.1, e.2)

  -- FORWARDS ALONE

  abbrev HasHalf : MatchKind → Bool → Type 0
  HasHalf kind early = (f : Found) × IsAnswerWhere early kind s (Some f) × (end.at ≡ f.end) × IsToldWith kind s f end.pattern

  pub forward_half : (kind : MatchKind) (early : Bool) → IsMetEnd kind early → HasHalf kind early
  forward_half leftmost_first false h =
      let st = h.stands in
      let e = leftmost_law.ends hs leftmost_first m n anchored s end.from h.place end.at tt st.case st.raised h.ends h.allowed in
      (met_from m h.place e.0 end.at, sym e.4, refl, sym h.pattern)
  forward_half leftmost_longest false h =
      let st = h.stands in
      let e = leftmost_law.ends hs leftmost_longest m n anchored s end.from h.place end.at tt st.case st.raised h.ends h.allowed in
      (met_from m h.place e.0 end.at, sym e.4, refl, sym h.pattern)
  forward_half leftmost_first true h =
      let st = h.stands in let e = spelled leftmost_first true h (st.alone (inr refl)) in (span end.pattern e.0 end.at, e.1, refl, refl)
  forward_half leftmost_longest true h =
      let st = h.stands in let e = spelled leftmost_longest true h (st.alone (inr refl)) in (span end.pattern e.0 end.at, e.1, refl, refl)
  forward_half all_matches true h =
      let st = h.stands in let e = spelled all_matches true h (st.alone (inl refl)) in (span end.pattern e.0 end.at, e.1, refl, (e.0, e.1))
  forward_half all_matches false h =
      let st = h.stands in
      let low = st.alone (inl refl) in
      let l = ends_low all_matches false h low in
      let e = last_law.ends hs m n anchored s l.0 end.at st.case l.2 in
      let x = spelled all_matches false h low in
      (e.0, sym e.1, sym e.2, (x.0, subst (λ k. IsSpelledIn s (span end.pattern x.0 k)) (sym e.2) x.1))

  -- A KNOWN START

  known_leftmost : (kind : MatchKind) → IsLeftmost kind → IsMetEnd kind false → may_end_at s end.at ≡ true → anchors anchored ≡ true →
      IsAnswerWhere false kind s (Some (span end.pattern end.from end.at))
  known_leftmost kind left h may so =
      let st = h.stands in
      let c = st.case in
      let start = start_of kind left (by_bytes s) end.from st.raised in
      let low : end.from ≡ s.lo = start.2 (ap is_anchored c.anchoring ∙ is_anchored_so anchored ∙ so) in
      let e = leftmost_law.at_start hs kind m n anchored s end.from h.place end.at left c st.raised h.ends may so in
      ap Some (same_span end.pattern (pattern_met m h.place) end.from s.lo end.at end.at (sym h.pattern) low refl) ∙ sym e.2

  known_early : (kind : MatchKind) → IsMetEnd kind true → anchors anchored ≡ true → IsSpelledIn s (span end.pattern end.from end.at)
  known_early kind h so =
      let st = h.stands in
      let low = st.alone (inr refl) in
      let e = spelled kind true h low in
      subst (λ x. IsSpelledIn s (span end.pattern x end.at)) (e.2 so ∙ sym low) e.1

  pub known_start : (kind : MatchKind) (early : Bool) → IsMetEnd kind early → begins_there kind early (anchors anchored) ≡ true →
      IsAnswerWhere early kind s (Some (span end.pattern end.from end.at))
  known_start leftmost_first false h so = known_leftmost leftmost_first tt h h.allowed so
  known_start leftmost_longest false h so = known_leftmost leftmost_longest tt h h.allowed so
  known_start leftmost_first true h so = known_early leftmost_first h so
  known_start leftmost_longest true h so = known_early leftmost_longest h so
  known_start all_matches true h so = known_early all_matches h so
  known_start all_matches false h so = absurd (true≢false (sym so))

  -- an empty match begins where it ends
  empty_leftmost : (kind : MatchKind) → IsLeftmost kind → IsMetEnd kind false → may_end_at s end.at ≡ true → end.at ≡ end.from →
      IsAnswerWhere false kind s (Some (span end.pattern end.at end.at))
  empty_leftmost kind left h may empty =
      let st = h.stands in
      let e = leftmost_law.ends hs kind m n anchored s end.from h.place end.at left st.case st.raised h.ends may in
      let low = e.1 in
      let high = e.2 in
      ap Some (same_span end.pattern (pattern_met m h.place) end.at e.0 end.at end.at (sym h.pattern) (omega (arith, low, high, empty)) refl) ∙ sym e.4

  pub empty_start : (kind : MatchKind) (early : Bool) → IsMetEnd kind early → keeps_pattern kind early ≡ true → end.at ≡ end.from →
      IsAnswerWhere early kind s (Some (span end.pattern end.at end.at))
  empty_start leftmost_first false h keeps empty = empty_leftmost leftmost_first tt h h.allowed empty
  empty_start leftmost_longest false h keeps empty = empty_leftmost leftmost_longest tt h h.allowed empty
  empty_start leftmost_first true h keeps empty = absurd (true≢false (sym keeps))
  empty_start leftmost_longest true h keeps empty = absurd (true≢false (sym keeps))
  empty_start all_matches early h keeps empty = absurd (true≢false (sym keeps))

  -- AND BACKWARDS

  abbrev MetBack : Bool → Option Met → Type 0
  MetBack early o = HasMetDown n s.text end.from end.at anchored early o

  back_low : (early : Bool) (o : Option (ℕ × ℕ)) → end.from ≡ s.lo → SearchEndsDown n s.text end.from end.at anchored early (met_last o) →
      SearchEndsDown n s.text s.lo end.at anchored early (met_last o)
  back_low early o low h = subst (λ x. SearchEndsDown n s.text x end.at anchored early (met_last o)) low h

  -- a start is met
  none_low : (kind : MatchKind) (early : Bool) → IsMetEnd kind early → (kind ≡ all_matches) ⊎ (early ≡ true) → ¬ MetBack early None
  none_low kind early h alone down =
      let st = h.stands in
      let low = st.alone alone in
      let l = ends_low kind early h low in
      met_law.some_start hs kind m n anchored s early early l.0 end.at st.case l.2 (back_low early None low down)

  some_leftmost : (kind : MatchKind) → IsLeftmost kind → IsMetEnd kind false → may_end_at s end.at ≡ true → anchors anchored ≡ false → ¬ MetBack false None
  some_leftmost kind left h may free down =
      subst (λ a. IsEnd hs kind false m n a s end → ¬ HasMetDown n s.text end.from end.at a false None) (sym (is_no anchored free))
      (λ k d. free_none hs kind left m n s end k may d) h down

  pub some_start : (kind : MatchKind) (early : Bool) → IsMetEnd kind early → begins_there kind early (anchors anchored) ≡ false → ¬ MetBack early None
  some_start leftmost_first false h free down = some_leftmost leftmost_first tt h h.allowed free down
  some_start leftmost_longest false h free down = some_leftmost leftmost_longest tt h h.allowed free down
  some_start leftmost_first true h free down = none_low leftmost_first true h (inr refl) down
  some_start leftmost_longest true h free down = none_low leftmost_longest true h (inr refl) down
  some_start all_matches early h free down = none_low all_matches early h (inl refl) down

  -- and what is met is the start of the match
  clamped : (x : ℕ) → end.from ≤ x → x ≤ end.at → x ≡ min (max x end.from) end.at
  clamped x low high = omega arith

  start_early : (kind : MatchKind) → IsMetEnd kind true → anchors anchored ≡ false → (met : Met) → MetBack true (Some met) →
      IsSpelledIn s (span met.pattern (min (max met.at end.from) end.at) end.at)
  start_early kind h free met down =
      let st = h.stands in
      let low = st.alone (inr refl) in
      let l = ends_low kind true h low in
      let e = met_law.starts hs kind m n anchored s true true l.0 end.at met.at met.pattern st.case free l.2 (back_low true (Some (met.at, met.pattern)) low down) in
      let w = spelled_within s (span met.pattern met.at end.at) e in
      let above = w.0 in
      subst (λ x. IsSpelledIn s (span met.pattern x end.at)) (clamped met.at (omega (arith, above, low)) w.1) e

  met_leftmost : (kind : MatchKind) → IsLeftmost kind → IsMetEnd kind false → may_end_at s end.at ≡ true → anchors anchored ≡ false → (met : Met) →
      MetBack false (Some met) → IsAnswerWhere false kind s (Some (span end.pattern (min (max met.at end.from) end.at) end.at))
  met_leftmost kind left h may free met down =
      let e = subst (λ a. IsEnd hs kind false m n a s end → HasMetDown n s.text end.from end.at a false (Some met) → IsFirst kind s end met) (sym (is_no anchored free))
      (λ k d. free_start hs kind left m n s end met k may d) h down in
      ap (λ x. Some (span end.pattern x end.at)) (sym (clamped met.at e.0 e.1)) ∙ sym e.2

  pub met_start : (kind : MatchKind) (early : Bool) → IsMetEnd kind early → begins_there kind early (anchors anchored) ≡ false → (met : Met) → MetBack early (Some met) →
      IsAnswerWhere early kind s (Some (match_by end (start_by kind early end met)))
  met_start leftmost_first false h free met down = met_leftmost leftmost_first tt h h.allowed free met down
  met_start leftmost_longest false h free met down = met_leftmost leftmost_longest tt h h.allowed free met down
  met_start leftmost_first true h free met down = start_early leftmost_first h free met down
  met_start leftmost_longest true h free met down = start_early leftmost_longest h free met down
  met_start all_matches true h free met down = start_early all_matches h free met down
  met_start all_matches false h free met down =
      let st = h.stands in
      let low = st.alone (inl refl) in
      let l = ends_low all_matches false h low in
      let e = last_law.starts hs m n anchored s l.0 end.at met.at met.pattern st.case l.2 (back_low false (Some (met.at, met.pattern)) low down) in
      let g = (greatest_some s (span met.pattern met.at end.at)).0 e in
      let w = spelled_within s (span met.pattern met.at end.at) g.is_spelled in
      let above = w.0 in
      ap (λ x. Some (span met.pattern x end.at)) (sym (clamped met.at (omega (arith, above, low)) w.1)) ∙ sym e
