-- The match of the least start, the preferred one or the longest: where a search forwards ends, and where one backwards begins.
use Rattle.std.proofs.Common.{◌≡◌, ℕ, ◌+◌, ◌<◌, ◌≤◌, ◌⊎◌, true, false, true≢false, List, [], ◌∷◌, length, Option, Some, None, inl, inr, ⊎_elim, sym, subst, ap, ◌∙◌, refl, arith}
use Rattle.rc_text.specs.declared.types.MatchKind.{MatchKind}
use Rattle.rc_text.specs.declared.types.MatchKind.TheVariants.{All as all_matches, LeftmostFirst as leftmost_first, LeftmostLongest as leftmost_longest}
use Rattle.rc_program.specs.Kinds.{answer_by}
use Rattle.rc_text.specs.declared.types.Anchored.{Anchored}
use Rattle.rc_text.specs.declared.types.Anchored.TheVariants.{No, Yes, Pattern}
use Rattle.rc_text.specs.Plain.{only_pattern, is_anchored as anchors}
use Rattle.rc_pattern.specs.Re.{Re}
use Rattle.rc_walks.specs.Walks.{Pair}
use Rattle.rc_program.specs.Text.{Text}
use Rattle.rc_program.specs.Program.{ways, program}
use Rattle.rc_program.specs.Answer.{Search, is_anchored, IsStart}
use Rattle.rc_program.proofs.GreatestLemmas.{spelled_within}
use Rattle.rc_program.proofs.KindLemmas.{kind_spelled}
use Rattle.rc_program.proofs.PlaceLemmas.{program_some}
use Rattle.rc_utf8.specs.Bytes.{bytes_of}
use Rattle.rc_utf8.specs.Laws.{by_bytes}
use Rattle.rc_determinize.specs.Steps.{IsByBytes}
use Rattle.rc_determinize.specs.States.{Setting, Stops, IsInside, all_starts}
use Rattle.rc_determinize.specs.Backward.{IsLeastSoFar}
use Rattle.rc_determinize.specs.Laws.{may_end_at}
use Rattle.rc_dfa.specs.Machine.{Machine, forwards, IsMachine}
use Rattle.rc_dfa.specs.Laws.{starts_of}
use Rattle.rc_dfa.specs.Runs.{met_last, SearchEnds, SearchEndsDown}
use Rattle.rc_dfa.proofs.RunLemmas.{run_law}
use Rattle.rc_dfa_search.specs.Leftmost.{IsLeftmost, GivesBy, IsRaisedBy}
use Rattle.rc_dfa_search.specs.Machines.{entries_of, IsCase}
use Rattle.rc_dfa_search.specs.Laws.{met_from, LeftmostLaw}
use Rattle.rc_dfa_search.proofs.CaseLemmas.{ahead_machine, back_machine, ahead_direction, back_direction, same_setting, back_entries, ahead_places, ahead_terminator, back_terminator, case_closed, anchored_is, starts_are, ahead_setting, least_none, least_some}
use Rattle.rc_dfa_search.proofs.FirstLemmas as first
use Rattle.rc_dfa_search.proofs.FirstLemmas.{inside_from}
use Rattle.rc_dfa_search.proofs.LongestLemmas as longest

-- BY KIND

pub start_of : (kind : MatchKind) → IsLeftmost kind → (s : Search) (from : ℕ) → IsRaisedBy kind s from → IsStart s from
start_of all_matches left s from r = absurd left
start_of leftmost_first left s from r = r.start
start_of leftmost_longest left s from r = r.start

begins : (kind : MatchKind) (s : Search) → s.lo ≤ s.hi → IsRaisedBy kind s s.lo
begins all_matches s le = tt
begins leftmost_first s le = record { start = (omega arith, le, λ t. refl); passed = λ y st lt. let low = st.0 in absurd (omega (arith, low, lt)) }
begins leftmost_longest s le = record { start = (omega arith, le, λ t. refl); passed = λ y st lt. let low = st.0 in absurd (omega (arith, low, lt)) }

-- what a run meets
pub run_gives : (kind : MatchKind) → IsLeftmost kind → (m : Machine) (t : Text) (hi from : ℕ) (anchored : Anchored) (r : Option Pair) → IsMachine m →
    m.direction ≡ forwards kind → m.setting.terminator ≡ t.terminator → IsInside t from hi → SearchEnds m t hi from anchored false (met_last r) →
    GivesBy kind (ways m.setting.places t hi) (Stops m.setting.places) (starts_of m anchored from hi) r
run_gives all_matches left m t hi from anchored r k d e inside h = absurd left
run_gives leftmost_first left m t hi from anchored r k d e inside h = run_law.first m t hi from anchored r k d e inside h
run_gives leftmost_longest left m t hi from anchored r k d e inside h = run_law.longest m t hi from anchored r k d e inside h

least_of : (kind : MatchKind) → IsLeftmost kind → (g : Setting) → IsByBytes g.places → (t : Text) (hi from : ℕ) (x : Search) (e : Pair) →
    GivesBy kind (ways g.places t hi) (Stops g.places) (all_starts (is_anchored x.anchoring) 0 from hi) (Some e) →
    (y : ℕ) × IsLeastSoFar g t hi e.1 (0 ∷ []) from (Some (y, 0))
least_of all_matches left g by_one t hi from x e h = absurd left
least_of leftmost_first left g by_one t hi from x e h = first.least_of g by_one t hi from (is_anchored x.anchoring) e h
least_of leftmost_longest left g by_one t hi from x e h = longest.longest_least g by_one t hi from (is_anchored x.anchoring) e h

module _ (hs : List Re) (m n : Machine) (anchored : Anchored) (s : Search) (from : ℕ) where
  -- what the starts give from where the search stands
  abbrev pub Given : MatchKind → Option Pair → Type 0
  Given kind r = GivesBy kind (ways m.setting.places s.text s.hi) (Stops m.setting.places) (all_starts (is_anchored s.anchoring) 0 from s.hi) r

  some_place : {kind : MatchKind} → IsCase hs kind m n anchored s → 0 < length s.places
  some_place c = subst (λ ps. 0 < length ps) (sym c.places) (program_some hs)

  -- from the least start
  answered_by : (kind : MatchKind) → IsLeftmost kind → IsCase hs kind m n anchored s → IsRaisedBy kind (by_bytes s) from → only_pattern anchored ≡ None →
      (q e x : ℕ) → Given kind (Some (q, e)) → may_end_at s e ≡ true → IsLeastSoFar m.setting s.text s.hi e (0 ∷ []) from (Some (x, 0)) →
      answer_by kind s ≡ Some (met_from m q x e)
  answered_by all_matches left c raised any q e x h may least = absurd left
  answered_by leftmost_first left c raised any q e x h may least =
      first.answered s (case_closed c) m.setting (ahead_setting c any) from raised q e x h may least
  answered_by leftmost_longest left c raised any q e x h may least =
      longest.answered s (case_closed c) (some_place c) m.setting (ahead_setting c any) from raised q e x h may least

  raises_by : (kind : MatchKind) → IsLeftmost kind → IsCase hs kind m n anchored s → IsRaisedBy kind (by_bytes s) from → only_pattern anchored ≡ None →
      (q e : ℕ) → Given kind (Some (q, e)) → may_end_at s e ≡ false →
      (from < s.hi → is_anchored s.anchoring ≡ false → IsRaisedBy kind (by_bytes s) (from + 1))
      × ((s.hi ≤ from) ⊎ (is_anchored s.anchoring ≡ true) → answer_by kind s ≡ None)
  raises_by all_matches left c raised any q e h off = absurd left
  raises_by leftmost_first left c raised any q e h off = first.raises_on s (case_closed c) m.setting (ahead_setting c any) from raised q e h off
  raises_by leftmost_longest left c raised any q e h off =
      longest.raises_on s (case_closed c) (some_place c) m.setting (ahead_setting c any) from raised q e h off

  none_by : (kind : MatchKind) → IsLeftmost kind → IsCase hs kind m n anchored s → IsRaisedBy kind (by_bytes s) from → only_pattern anchored ≡ None →
      Given kind None → answer_by kind s ≡ None
  none_by all_matches left c raised any h = absurd left
  none_by leftmost_first left c raised any h = first.none_given s (case_closed c) m.setting (ahead_setting c any) from raised h
  none_by leftmost_longest left c raised any h = longest.none_given s (case_closed c) (some_place c) m.setting (ahead_setting c any) from raised h

-- of one pattern alone
module _ (hs : List Re) (m n : Machine) (p : ℕ) (s : Search) where
  abbrev Ends : Option Pair → Type 0
  Ends r = SearchEnds m s.text s.hi s.lo (Pattern p) false (met_last r)

  ends_one : (kind : MatchKind) → IsLeftmost kind → IsCase hs kind m n (Pattern p) s → (q e : ℕ) → Ends (Some (q, e)) → may_end_at s e ≡ true →
      answer_by kind s ≡ Some (met_from m q s.lo e)
  ends_one all_matches left c q e h may = absurd left
  ends_one leftmost_first left c q e h may = first.ends_one hs m n p s c q e h may
  ends_one leftmost_longest left c q e h may = longest.ends_one hs m n p s c q e h may

  raises_one : (kind : MatchKind) → IsLeftmost kind → IsCase hs kind m n (Pattern p) s → (q e : ℕ) → Ends (Some (q, e)) → may_end_at s e ≡ false →
      answer_by kind s ≡ None
  raises_one all_matches left c q e h off = absurd left
  raises_one leftmost_first left c q e h off = first.raises_one hs m n p s c q e h off
  raises_one leftmost_longest left c q e h off = longest.raises_one hs m n p s c q e h off

  none_one : (kind : MatchKind) → IsLeftmost kind → IsCase hs kind m n (Pattern p) s → Ends None → answer_by kind s ≡ None
  none_one all_matches left c h = absurd left
  none_one leftmost_first left c h = first.none_one hs m n p s c h
  none_one leftmost_longest left c h = longest.none_one hs m n p s c h

-- OF BOTH KINDS

module _ (hs : List Re) (kind : MatchKind) (left : IsLeftmost kind) (m n : Machine) (anchored : Anchored) (s : Search) (from : ℕ)
    (c : IsCase hs kind m n anchored s) (raised : IsRaisedBy kind (by_bytes s) from) where
  inside : IsInside s.text from s.hi
  inside = let st = start_of kind left (by_bytes s) from raised in inside_from c.inside st.0

  -- the match lies behind where the search stands
  found_within : (q x e : ℕ) → from ≤ x → answer_by kind s ≡ Some (met_from m q x e) →
      (from ≤ x) × (x ≤ e) × (e ≤ s.hi) × (answer_by kind s ≡ Some (met_from m q x e))
  found_within q x e low so =
      let w = spelled_within s (met_from m q x e) (kind_spelled kind s (met_from m q x e) so) in (low, w.1, w.2, so)

  module _ (any : only_pattern anchored ≡ None) where
    pub gives : (r : Option Pair) → SearchEnds m s.text s.hi from anchored false (met_last r) → Given hs m n anchored s from kind r
    gives r h =
        subst (λ o. GivesBy kind (ways m.setting.places s.text s.hi) (Stops m.setting.places) o r) (starts_are c any from s.hi)
        (run_gives kind left m s.text s.hi from anchored r (ahead_machine c) (ahead_direction c) (ahead_terminator c) inside h)

    least_here : (q e : ℕ) → Given hs m n anchored s from kind (Some (q, e)) → (x : ℕ) × IsLeastSoFar m.setting s.text s.hi e (0 ∷ []) from (Some (x, 0))
    least_here q e h = let k = ahead_machine c in let g = k.setting in least_of kind left m.setting g.by_bytes s.text s.hi from s (q, e) h

    answered : (q e x : ℕ) → Given hs m n anchored s from kind (Some (q, e)) → may_end_at s e ≡ true →
        IsLeastSoFar m.setting s.text s.hi e (0 ∷ []) from (Some (x, 0)) →
        (from ≤ x) × (x ≤ e) × (e ≤ s.hi) × (answer_by kind s ≡ Some (met_from m q x e))
    answered q e x h may least = found_within q x e least.0 (answered_by hs m n anchored s from kind left c raised any q e x h may least)

    pub ends_free : (q e : ℕ) → Given hs m n anchored s from kind (Some (q, e)) → may_end_at s e ≡ true →
        (x : ℕ) × (from ≤ x) × (x ≤ e) × (e ≤ s.hi) × (answer_by kind s ≡ Some (met_from m q x e))
    ends_free q e h may =
        let l = least_here q e h in let a = answered q e l.0 h may l.1 in (l.0, a.0, a.1, a.2, a.3)

    pub raises_free : (q e : ℕ) → Given hs m n anchored s from kind (Some (q, e)) → may_end_at s e ≡ false →
        (from < s.hi → anchors anchored ≡ false → IsRaisedBy kind (by_bytes s) (from + 1))
        × ((s.hi ≤ from) ⊎ (anchors anchored ≡ true) → answer_by kind s ≡ None)
    raises_free q e h off =
        let r = raises_by hs m n anchored s from kind left c raised any q e h off in
        ((λ lt free. r.0 lt (anchored_is c ∙ free)), λ done. r.1 (⊎_elim (λ le. inl le) (λ so. inr (anchored_is c ∙ so)) done))

    pub none_free : Given hs m n anchored s from kind None → answer_by kind s ≡ None
    none_free h = none_by hs m n anchored s from kind left c raised any h

  -- anchored, the start is the search's
  start_known : (q e x : ℕ) → anchors anchored ≡ true → answer_by kind s ≡ Some (met_from m q x e) → x ≡ s.lo
  start_known q e x once is =
      let sp = kind_spelled kind s (met_from m q x e) is in let st = sp.is_start in st.2 (anchored_is c ∙ once)

-- WHERE ONE PATTERN IS ASKED FOR

module _ (hs : List Re) (kind : MatchKind) (left : IsLeftmost kind) (m n : Machine) (p : ℕ) (s : Search) (from : ℕ) (c : IsCase hs kind m n (Pattern p) s)
    (raised : IsRaisedBy kind (by_bytes s) from) where
  at_low : from ≡ s.lo
  at_low = let st = start_of kind left (by_bytes s) from raised in st.2 (anchored_is c)

  run_low : (r : Option Pair) → SearchEnds m s.text s.hi from (Pattern p) false (met_last r) → SearchEnds m s.text s.hi s.lo (Pattern p) false (met_last r)
  run_low r h = subst (λ x. SearchEnds m s.text s.hi x (Pattern p) false (met_last r)) at_low h

  ends_low : (q e : ℕ) → SearchEnds m s.text s.hi from (Pattern p) false (met_last (Some (q, e))) → may_end_at s e ≡ true →
      (x : ℕ) × (from ≤ x) × (x ≤ e) × (e ≤ s.hi) × (answer_by kind s ≡ Some (met_from m q x e))
  ends_low q e h may =
      let low = at_low in
      let w = found_within hs kind left m n (Pattern p) s from c raised q s.lo e (omega (arith, low))
      (ends_one hs m n p s kind left c q e (run_low (Some (q, e)) h) may) in
      (s.lo, w.0, w.1, w.2, w.3)

-- BOTH

ends : (hs : List Re) (kind : MatchKind) (m n : Machine) (anchored : Anchored) (s : Search) (from q e : ℕ) → IsLeftmost kind → IsCase hs kind m n anchored s →
    IsRaisedBy kind (by_bytes s) from → SearchEnds m s.text s.hi from anchored false (met_last (Some (q, e))) → may_end_at s e ≡ true →
    (x : ℕ) × (from ≤ x) × (x ≤ e) × (e ≤ s.hi) × (answer_by kind s ≡ Some (met_from m q x e))
ends hs kind m n No s from q e left c raised h may =
    ends_free hs kind left m n No s from c raised refl q e (gives hs kind left m n No s from c raised refl (Some (q, e)) h) may
ends hs kind m n Yes s from q e left c raised h may =
    ends_free hs kind left m n Yes s from c raised refl q e (gives hs kind left m n Yes s from c raised refl (Some (q, e)) h) may
ends hs kind m n (Pattern p) s from q e left c raised h may = ends_low hs kind left m n p s from c raised q e h may

at_start : (hs : List Re) (kind : MatchKind) (m n : Machine) (anchored : Anchored) (s : Search) (from q e : ℕ) → IsLeftmost kind → IsCase hs kind m n anchored s →
    IsRaisedBy kind (by_bytes s) from → SearchEnds m s.text s.hi from anchored false (met_last (Some (q, e))) → may_end_at s e ≡ true → anchors anchored ≡ true →
    (s.lo ≤ e) × (e ≤ s.hi) × (answer_by kind s ≡ Some (met_from m q s.lo e))
at_start hs kind m n anchored s from q e left c raised h may once =
    let r = ends hs kind m n anchored s from q e left c raised h may in
    let low = start_known hs kind left m n anchored s from c raised q e r.0 once r.4 in
    let le = r.2 in
    (omega (arith, low, le), r.3, r.4 ∙ ap (λ x. Some (met_from m q x e)) low)

-- backwards from the end
module _ (hs : List Re) (kind : MatchKind) (left : IsLeftmost kind) (m n : Machine) (s : Search) (from q e : ℕ) (c : IsCase hs kind m n No s)
    (raised : IsRaisedBy kind (by_bytes s) from) (h : Given hs m n No s from kind (Some (q, e))) (may : may_end_at s e ≡ true) where
  least_down : (r : Option (ℕ × ℕ)) → SearchEndsDown n s.text from e No false (met_last r) →
      IsLeastSoFar m.setting s.text s.hi e (entries_of hs) from r
  least_down r d =
      let high = (ends_free hs kind left m n No s from c raised refl q e h may).3 in
      let l = run_law.of_any n.setting s.text s.hi e n.entries from r
      (run_law.least n s.text s.hi from e No r (back_machine c) (back_direction c) (back_terminator c) (inside hs kind left m n No s from c raised) high d) in
      subst (λ g. IsLeastSoFar g s.text s.hi e (entries_of hs) from r) (sym (same_setting c))
      (subst (λ es. IsLeastSoFar n.setting s.text s.hi e es from r) (back_entries c) l)

  over : m.setting.places ≡ bytes_of (program hs)
  over = ahead_places c ∙ ap bytes_of c.places

  pub starts_so : (x k : ℕ) → SearchEndsDown n s.text from e No false (met_last (Some (x, k))) →
      (from ≤ x) × (x ≤ e) × (e ≤ s.hi) × (answer_by kind s ≡ Some (met_from m q x e))
  starts_so x k d =
      answered hs kind left m n No s from c raised refl q e x h may
      (least_some hs m.setting over s.text s.hi e from x k (least_down (Some (x, k)) d))

  pub some_start_so : ¬ SearchEndsDown n s.text from e No false (met_last None)
  some_start_so d =
      let l = least_here hs kind left m n No s from c raised refl q e h in
      let none = least_none hs m.setting over s.text s.hi e from (least_down None d) in
      let here = l.1 in
      (none l.0 here.0 here.1).0 here.2

raises : (hs : List Re) (kind : MatchKind) (m n : Machine) (anchored : Anchored) (s : Search) (from q e : ℕ) → IsLeftmost kind → IsCase hs kind m n anchored s →
    IsRaisedBy kind (by_bytes s) from → SearchEnds m s.text s.hi from anchored false (met_last (Some (q, e))) → may_end_at s e ≡ false →
    (from < s.hi → anchors anchored ≡ false → IsRaisedBy kind (by_bytes s) (from + 1)) × ((s.hi ≤ from) ⊎ (anchors anchored ≡ true) → answer_by kind s ≡ None)
raises hs kind m n No s from q e left c raised h off =
    raises_free hs kind left m n No s from c raised refl q e (gives hs kind left m n No s from c raised refl (Some (q, e)) h) off
raises hs kind m n Yes s from q e left c raised h off =
    raises_free hs kind left m n Yes s from c raised refl q e (gives hs kind left m n Yes s from c raised refl (Some (q, e)) h) off
raises hs kind m n (Pattern p) s from q e left c raised h off = (
  (λ lt free. absurd (true≢false free)),
  λ done. raises_one hs m n p s kind left c q e (run_low hs kind left m n p s from c raised (Some (q, e)) h) off,
)

none : (hs : List Re) (kind : MatchKind) (m n : Machine) (anchored : Anchored) (s : Search) (from : ℕ) → IsLeftmost kind → IsCase hs kind m n anchored s →
    IsRaisedBy kind (by_bytes s) from → SearchEnds m s.text s.hi from anchored false (met_last None) → answer_by kind s ≡ None
none hs kind m n No s from left c raised h = none_free hs kind left m n No s from c raised refl (gives hs kind left m n No s from c raised refl None h)
none hs kind m n Yes s from left c raised h = none_free hs kind left m n Yes s from c raised refl (gives hs kind left m n Yes s from c raised refl None h)
none hs kind m n (Pattern p) s from left c raised h = none_one hs m n p s kind left c (run_low hs kind left m n p s from c raised None h)

pub leftmost_law : LeftmostLaw
leftmost_law = record {
  begins = λ hs kind m n anchored s c. begins kind (by_bytes s) c.ordered;
  ends = ends;
  at_start = at_start;
  starts = λ hs kind m n s from q e x k left c raised h may d.
      starts_so hs kind left m n s from q e c raised (gives hs kind left m n No s from c raised refl (Some (q, e)) h) may x k d;
  some_start = λ hs kind m n s from q e left c raised h may d.
      some_start_so hs kind left m n s from q e c raised (gives hs kind left m n No s from c raised refl (Some (q, e)) h) may d;
  raises = raises;
  none = none;
}
