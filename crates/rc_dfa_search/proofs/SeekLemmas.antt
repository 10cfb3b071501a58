-- From what the two halves met to the match.
use Rattle.std.proofs.Common.{◌≡◌, ℕ, ◌+◌, ◌<◌, ◌≤◌, ◌⊎◌, Bool, true, false, not, ◌&&◌, ◌||◌, true≢false, IsTrue, List, length, Option, Some, None, max, min, inl, inr, ⊎_elim, sym, subst, ap, ◌∙◌, refl, arith}
use Rattle.std.proofs.lemmas.Bool.{eqb-true}
use Rattle.rc_text.specs.Found.{Found}
use Rattle.rc_text.specs.Text.{Searched, Keeps, high, is_boundary}
use Rattle.rc_text.specs.Plain.{is_anchored as anchors}
use Rattle.rc_text.specs.declared.types.MatchKind.{MatchKind}
use Rattle.rc_text.specs.declared.types.MatchKind.TheVariants.{All as all_matches, LeftmostFirst as leftmost_first, LeftmostLongest as leftmost_longest}
use Rattle.rc_text.specs.declared.types.Anchored.{Anchored}
use Rattle.rc_text.specs.declared.types.Anchored.TheVariants.{No, Yes, Pattern}
use Rattle.rc_pattern.specs.Re.{Re}
use Rattle.rc_walks.specs.Walks.{Pair, IsIn, IsWalk, stops, goes}
use Rattle.rc_program.specs.Text.{Text}
use Rattle.rc_program.specs.Program.{Place, accept, place_at, ways, is_match_place, program}
use Rattle.rc_program.specs.Answer.{Search, ends, last_of, next_of, only}
use Rattle.rc_program.specs.Greatest.{IsSpelledIn, HasNoSpan}
use Rattle.rc_program.specs.Kinds.{answer_by, IsAnswerWhere}
use Rattle.rc_program.specs.Sought.{anchoring_of, text_of}
use Rattle.rc_program.proofs.PlaceLemmas.{accept_below}
use Rattle.rc_program.proofs.AnswerLemmas.{answer_law, last_of_more, walk_ends, walk_within}
use Rattle.rc_program.proofs.WayLemmas.{ways_onward}
use Rattle.rc_program.proofs.GreatestLemmas.{spelled_within, greatest_none, no_span_no_answer}
use Rattle.rc_determinize.specs.Laws.{may_end_at}
use Rattle.rc_determinize.specs.Spans.{IsSpelled}
use Rattle.rc_dfa.specs.Machine.{Machine}
use Rattle.rc_dfa.specs.Runs.{met_last, SearchEnds}
use Rattle.rc_dfa.specs.declared.ended.Met.{Met}
use Rattle.rc_dfa_search.specs.declared.search.End.{End}
use Rattle.rc_dfa_search.specs.Leftmost.{IsLeftmost}
use Rattle.rc_dfa_search.specs.Machines.{IsCase}
use Rattle.rc_dfa_search.specs.Laws.{met_from}
use Rattle.rc_dfa_search.specs.Reverse.{HasNoStart}
use Rattle.rc_dfa_search.specs.declared.search.Aim.{Aim}
use Rattle.rc_dfa_search.specs.Aims.{AreHalvesOf, is_early, search_from}
use Rattle.rc_dfa_search.specs.Ends.{Asks, HasMet, Stands, IsEnd, may_end}
use Rattle.rc_dfa_search.proofs.ToldLemmas.{kept_text, kept_high}
use Rattle.rc_dfa_search.proofs.LeftmostLemmas.{leftmost_law}
use Rattle.rc_dfa_search.proofs.LongestLemmas.{no_span_no_longest}
use Rattle.rc_dfa_search.proofs.MetLemmas.{met_law}

-- WHERE NOTHING IS FOUND

pub no_answer : (kind : MatchKind) (early : Bool) (s : Search) → answer_by kind s ≡ None → IsAnswerWhere early kind s None
no_answer kind true s e = e
no_answer kind false s e = sym e

no_match : (kind : MatchKind) (s : Search) → HasNoSpan s → answer_by kind s ≡ None
no_match all_matches s none = (greatest_none s).1 none
no_match leftmost_first s none = (answer_law.answer_none s).1 (no_span_no_answer s none)
no_match leftmost_longest s none = no_span_no_longest s none

walk_of : (s : Search) (m : Found) → IsSpelledIn s m → IsSpelled s m.pattern m.start m.end
walk_of s m h = (h.walk, h.is_walk, h.pattern, h.position)

-- a walk ends no later than the search
walk_ordered : (s : Search) (p x e : ℕ) → x ≤ s.hi → IsSpelled s p x e → (x ≤ e) × (e ≤ s.hi)
walk_ordered s p x e le h =
    let w = walk_within s.places s.text s.hi (λ n. IsTrue (ends s n)) x h.1
    (λ n i. ⊎_elim (λ q. let at : x ≡ n.1 = ap (λ m. m.1) q in (omega (arith, at), omega (arith, at, le))) (λ never. absurd never) i) in
    let at = h.3 in let low = w.1 in let high = w.2 in (omega (arith, low, at), omega (arith, high, at))

only_asked : (hs : List Re) (anchored : Anchored) (q p : ℕ) → place_at (program hs) q ≡ accept p → is_match_place (only (anchoring_of anchored)) (accept p) ≡ true →
    Asks (length hs) anchored
only_asked hs No q p at is = tt
only_asked hs Yes q p at is = tt
only_asked hs (Pattern k) q p at is = let below = accept_below hs q p at in let same = eqb-true p k is in omega (arith, below, same)

-- a walk is one of a pattern that is asked for, and there is
walk_asked : (hs : List Re) (anchored : Anchored) (s : Search) (p x e : ℕ) → s.places ≡ program hs → s.anchoring ≡ anchoring_of anchored → IsSpelled s p x e →
    Asks (length hs) anchored
walk_asked hs anchored s p x e places anchoring h =
    let q = (last_of h.0).0 in
    only_asked hs anchored q p (subst (λ ps. place_at ps q ≡ accept p) places h.2)
    (subst (λ a. is_match_place (only a) (accept p) ≡ true) anchoring
    (subst (λ place. is_match_place (only s.anchoring) place ≡ true) h.2 (walk_ends (next_of s) (λ n. IsTrue (ends s n)) h.1)))

-- The search can have no match: it has no position, or asks for a pattern that is none.
abbrev pub IsVoid : ℕ → Anchored → Search → Type 0
IsVoid patterns anchored s = (s.hi < s.lo) ⊎ (¬ Asks patterns anchored)

void_walk : (hs : List Re) (patterns : ℕ) (anchored : Anchored) (s : Search) (p x e : ℕ) → s.places ≡ program hs → s.anchoring ≡ anchoring_of anchored →
    patterns ≡ length hs → IsVoid patterns anchored s → s.lo ≤ x → x ≤ s.hi → ¬ IsSpelled s p x e
void_walk hs patterns anchored s p x e places anchoring counted void low high h =
    ⊎_elim (λ l. omega (arith, l, low, high)) (λ n. n (subst (λ k. Asks k anchored) (sym counted) (walk_asked hs anchored s p x e places anchoring h))) void

pub void_answer : (hs : List Re) (patterns : ℕ) (kind : MatchKind) (early : Bool) (anchored : Anchored) (s : Search) → s.places ≡ program hs →
    s.anchoring ≡ anchoring_of anchored → patterns ≡ length hs → IsVoid patterns anchored s → IsAnswerWhere early kind s None
void_answer hs patterns kind early anchored s places anchoring counted void =
    no_answer kind early s (no_match kind s (λ m h.
    let w = spelled_within s m h in
    let low = w.0 in let more = w.1 in let high = w.2 in
    void_walk hs patterns anchored s m.pattern m.start m.end places anchoring counted void low (omega (arith, more, high)) (walk_of s m h)))

-- a walk never goes back
walk_onward : (places : List Place) (t : Text) (hi : ℕ) (Ends : Pair → Type 0) (x : ℕ) {p f w : List Pair} → IsWalk (ways places t hi) Ends p f w →
    ((n : Pair) → IsIn n f → x ≤ n.1) → x ≤ (last_of w).1
walk_onward places t hi Ends x (stops k here fresh stop) from = from k here
walk_onward places t hi Ends x (goes {w = w} k here fresh rest) from =
    let a = from k here in
    subst (λ (q : Pair). x ≤ q.1) (sym (last_of_more (ways places t hi) Ends k rest))
    (walk_onward places t hi Ends x rest (λ n i. let on = ways_onward places t hi k n i in omega (arith, a, on)))

pub void_start : (hs : List Re) (patterns : ℕ) (anchored : Anchored) (s : Search) → s.places ≡ program hs → s.anchoring ≡ anchoring_of anchored →
    patterns ≡ length hs → IsVoid patterns anchored s → HasNoStart s
void_start hs patterns anchored s places anchoring counted void x p low h =
    let on = walk_onward s.places s.text s.hi (λ n. IsTrue (ends s n)) x h.1
    (λ n i. ⊎_elim (λ q. let at : x ≡ n.1 = ap (λ m. m.1) q in omega (arith, at)) (λ never. absurd never) i) in
    let at = h.3 in
    void_walk hs patterns anchored s p x s.hi places anchoring counted void low (omega (arith, on, at)) h

-- FORWARDS

pub stands_first : (hs : List Re) (kind : MatchKind) (early : Bool) (m n : Machine) (anchored : Anchored) (s : Search) → IsCase hs kind m n anchored s →
    Stands hs kind early m n anchored s s.lo
stands_first hs kind early m n anchored s c = record {
  case = c;
  bounded = (omega arith, c.ordered);
  raised = leftmost_law.begins hs kind m n anchored s c;
  alone = λ _. refl;
}

pub from_low : (m : Machine) (s : Search) (from : ℕ) (anchored : Anchored) (early : Bool) (o : Option (ℕ × ℕ)) → from ≡ s.lo →
    SearchEnds m s.text s.hi from anchored early (met_last o) → SearchEnds m s.text s.hi s.lo anchored early (met_last o)
from_low m s from anchored early o e h = subst (λ x. SearchEnds m s.text s.hi x anchored early (met_last o)) e h

none_early : (hs : List Re) (kind : MatchKind) (m n : Machine) (anchored : Anchored) (s : Search) (from : ℕ) →
    Stands hs kind true m n anchored s from → HasMet m s.text s.hi from anchored true None → IsAnswerWhere true kind s None
none_early hs kind m n anchored s from st h =
    no_match kind s (met_law.none hs kind m n anchored s true st.case (from_low m s from anchored true None (st.alone (inr refl)) h)).0

pub none_met : (hs : List Re) (kind : MatchKind) (early : Bool) (m n : Machine) (anchored : Anchored) (s : Search) (from : ℕ) →
    Stands hs kind early m n anchored s from → HasMet m s.text s.hi from anchored early None → IsAnswerWhere early kind s None
none_met hs leftmost_first false m n anchored s from st h = sym (leftmost_law.none hs leftmost_first m n anchored s from tt st.case st.raised h)
none_met hs leftmost_longest false m n anchored s from st h = sym (leftmost_law.none hs leftmost_longest m n anchored s from tt st.case st.raised h)
none_met hs leftmost_first true m n anchored s from st h = none_early hs leftmost_first m n anchored s from st h
none_met hs leftmost_longest true m n anchored s from st h = none_early hs leftmost_longest m n anchored s from st h
none_met hs all_matches early m n anchored s from st h =
    no_answer all_matches early s
    (met_law.none hs all_matches m n anchored s early st.case (from_low m s from anchored early None (st.alone (inl refl)) h)).2

pub end_met : (hs : List Re) (kind : MatchKind) (early : Bool) (m n : Machine) (anchored : Anchored) (s : Search) (from : ℕ) (met : Met) →
    Stands hs kind early m n anchored s from → HasMet m s.text s.hi from anchored early (Some met) →
    may_end kind s.passes_over s.text.content met.at ≡ true → IsEnd hs kind early m n anchored s (record { from = from; pattern = met.pattern; at = met.at })
end_met hs kind early m n anchored s from met st h ok = record {
  stands = st;
  place = h.0;
  pattern = h.1;
  ends = h.2;
  allowed = ok;
}

not_alone : (kind : MatchKind) → IsLeftmost kind → (kind ≡ all_matches) ⊎ (false ≡ true) → ⊥
not_alone all_matches left e = absurd left
not_alone leftmost_first left e = ⊎_elim (λ e. cc) (λ e. cc) e
not_alone leftmost_longest left e = ⊎_elim (λ e. cc) (λ e. cc) e

-- an end that is passed over
raised_on : (hs : List Re) (kind : MatchKind) → IsLeftmost kind → (m n : Machine) (anchored : Anchored) (s : Search) (from : ℕ) (met : Met) →
    Stands hs kind false m n anchored s from → HasMet m s.text s.hi from anchored false (Some met) → may_end_at s met.at ≡ false →
    (from < s.hi → anchors anchored ≡ false → Stands hs kind false m n anchored s (from + 1))
    × ((anchors anchored ≡ true) ⊎ (s.hi ≤ from) → IsAnswerWhere false kind s None)
raised_on hs kind left m n anchored s from met st h passed =
    let r = leftmost_law.raises hs kind m n anchored s from h.0 met.at left st.case st.raised h.2 passed in
    let b = st.bounded in (
      (λ lt free. record {
        case = st.case;
        bounded = (let low = b.0 in omega (arith, low), omega (arith, lt));
        raised = r.0 lt free;
        alone = λ e. absurd (not_alone kind left e);
      }),
      ⊎_elim (λ is. sym (r.1 (inr is))) (λ le. sym (r.1 (inl le))),
    )

pub raised : (hs : List Re) (kind : MatchKind) (early : Bool) (m n : Machine) (anchored : Anchored) (s : Search) (from : ℕ) (met : Met) →
    Stands hs kind early m n anchored s from → HasMet m s.text s.hi from anchored early (Some met) →
    may_end kind s.passes_over s.text.content met.at ≡ false → (early ≡ true → s.passes_over ≡ false) →
    (from < s.hi → anchors anchored ≡ false → Stands hs kind early m n anchored s (from + 1))
    × ((anchors anchored ≡ true) ⊎ (s.hi ≤ from) → IsAnswerWhere early kind s None)
raised hs all_matches early m n anchored s from met st h passed none = absurd (true≢false passed)
raised hs leftmost_first true m n anchored s from met st h passed none =
    absurd (true≢false (sym (ap (λ over. not over || is_boundary s.text.content met.at) (none refl)) ∙ passed))
raised hs leftmost_longest true m n anchored s from met st h passed none =
    absurd (true≢false (sym (ap (λ over. not over || is_boundary s.text.content met.at) (none refl)) ∙ passed))
raised hs leftmost_first false m n anchored s from met st h passed none = raised_on hs leftmost_first tt m n anchored s from met st h passed
raised hs leftmost_longest false m n anchored s from met st h passed none = raised_on hs leftmost_longest tt m n anchored s from met st h passed

met_within : (hs : List Re) (kind : MatchKind) (early : Bool) (m n : Machine) (anchored : Anchored) (s : Search) (end : End) →
    IsEnd hs kind early m n anchored s end → (kind ≡ all_matches) ⊎ (early ≡ true) → (end.from ≤ end.at) × (end.at ≤ s.hi)
met_within hs kind early m n anchored s end h alone =
    let st = h.stands in
    let at_low = st.alone alone in
    let e = met_law.ends hs kind m n anchored s early h.place end.at st.case (from_low m s end.from anchored early (Some (h.place, end.at)) at_low h.ends) in
    let w = spelled_within s (met_from m h.place e.0 end.at) e.1 in
    let a = w.0 in let b = w.1 in (omega (arith, a, b, at_low), w.2)

-- where the end lies
pub end_within : (hs : List Re) (kind : MatchKind) (early : Bool) (m n : Machine) (anchored : Anchored) (s : Search) (end : End) →
    IsEnd hs kind early m n anchored s end → (end.from ≤ end.at) × (end.at ≤ s.hi)
end_within hs leftmost_first false m n anchored s end h =
    let st = h.stands in
    let e = leftmost_law.ends hs leftmost_first m n anchored s end.from h.place end.at tt st.case st.raised h.ends h.allowed in
    let a = e.1 in let b = e.2 in (omega (arith, a, b), e.3)
end_within hs leftmost_longest false m n anchored s end h =
    let st = h.stands in
    let e = leftmost_law.ends hs leftmost_longest m n anchored s end.from h.place end.at tt st.case st.raised h.ends h.allowed in
    let a = e.1 in let b = e.2 in (omega (arith, a, b), e.3)
end_within hs leftmost_longest true m n anchored s end h = met_within hs leftmost_longest true m n anchored s end h (inr refl)
end_within hs leftmost_first true m n anchored s end h = met_within hs leftmost_first true m n anchored s end h (inr refl)
end_within hs all_matches early m n anchored s end h = met_within hs all_matches early m n anchored s end h (inl refl)

-- IN CODE

early_free : (a b : Bool) → (a && not b) ≡ true → b ≡ false
early_free a false e = refl
early_free true true e = cc
early_free false true e = cc

module _ (AreOf : Machine → Machine → Type 0) (aim : Aim) (hs : List Re) (terminator : ℕ) (of : AreHalvesOf AreOf aim hs terminator) (s b : Searched)
    (kept : Keeps s b) (lo from : ℕ)
    (stands : Stands hs aim.kind (is_early aim) of.ahead of.back s.anchored (search_from aim hs terminator s lo) from) (o : Option Met)
    (met_there : HasMet of.ahead (text_of terminator b) (high b) from b.anchored (is_early aim) o) where
  met_so : (p : Option Met) → o ≡ p → HasMet of.ahead (text_of terminator s) (high s) from s.anchored (is_early aim) p
  met_so p is =
      subst (λ q. HasMet of.ahead (text_of terminator s) (high s) from s.anchored (is_early aim) q) is
      (subst (λ t. HasMet of.ahead t (high s) from s.anchored (is_early aim) o) (kept_text terminator s b kept)
      (subst (λ x. HasMet of.ahead (text_of terminator b) x from s.anchored (is_early aim) o) (kept_high s b kept)
      (subst (λ a. HasMet of.ahead (text_of terminator b) (high b) from a (is_early aim) o) kept.anchored met_there)))

  pub run_none : o ≡ None → IsAnswerWhere (is_early aim) aim.kind (search_from aim hs terminator s lo) None
  run_none is = none_met hs aim.kind (is_early aim) of.ahead of.back s.anchored (search_from aim hs terminator s lo) from stands (met_so None is)

  pub run_end : (met : Met) (at : ℕ) → o ≡ Some met → may_end aim.kind aim.passes_over s.content met.at ≡ true → at ≡ min (max met.at from) (high s) →
      IsEnd hs aim.kind (is_early aim) of.ahead of.back s.anchored (search_from aim hs terminator s lo) (record { from = from; pattern = met.pattern; at = at })
  run_end met at is ok clamped =
      let h = end_met hs aim.kind (is_early aim) of.ahead of.back s.anchored (search_from aim hs terminator s lo) from met stands (met_so (Some met) is) ok in
      let w = end_within hs aim.kind (is_early aim) of.ahead of.back s.anchored (search_from aim hs terminator s lo) (record { from = from; pattern = met.pattern; at = met.at }) h in
      let low = w.0 in
      let high = w.1 in
      let e : met.at ≡ at = omega (arith, low, high, clamped) in
      subst (λ x. IsEnd hs aim.kind (is_early aim) of.ahead of.back s.anchored (search_from aim hs terminator s lo) (record { from = from; pattern = met.pattern; at = x })) e h

  pub run_raised : (met : Met) → o ≡ Some met → may_end aim.kind aim.passes_over s.content met.at ≡ false →
      (from < high s → anchors s.anchored ≡ false → Stands hs aim.kind (is_early aim) of.ahead of.back s.anchored (search_from aim hs terminator s lo) (from + 1))
      × ((anchors s.anchored ≡ true) ⊎ (high s ≤ from) → IsAnswerWhere (is_early aim) aim.kind (search_from aim hs terminator s lo) None)
  run_raised met is passed =
      raised hs aim.kind (is_early aim) of.ahead of.back s.anchored (search_from aim hs terminator s lo) from met stands (met_so (Some met) is) passed
      (early_free aim.earliest aim.passes_over)
