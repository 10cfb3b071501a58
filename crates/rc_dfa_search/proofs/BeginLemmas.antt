-- Searches that ask first whether a match begins where the first one may.
use Rattle.std.proofs.Common.{◌≡◌, ◌↔◌, ◌∙◌, ℕ, ◌<◌, ◌≤◌, Bool, true, false, not, ◌||◌, true≢false, List, Option, Some, None, Result, Ok, Err, IfOk, sym, subst, ap, ap₂, refl, arith, inl, inr, ⊎_elim}
use Rattle.std.proofs.lemmas.Bool.{cases_lt}
use Rattle.rc_text.specs.Found.{Found}
use Rattle.rc_walks.specs.Walks.{Pair}
use Rattle.rc_text.specs.Text.{Searched, Keeps, is_boundary, low, high}
use Rattle.rc_text.specs.declared.types.MatchError.{MatchError}
use Rattle.rc_text.specs.declared.types.Anchored.{Anchored}
use Rattle.rc_text.specs.declared.types.Anchored.TheVariants.{Yes}
use Rattle.rc_pattern.specs.Re.{Re}
use Rattle.rc_program.specs.Text.{Text}
use Rattle.rc_program.specs.Program.{Place, program}
use Rattle.rc_program.specs.Answer.{Search, Chosen, HasNoWalkFrom, IsFirstFrom, anywhere, answer, at_start, found}
use Rattle.rc_program.specs.Longest.{HasNoAnswerOf, IsAnswerOf, IsLongestFrom, IsPassedOf, longest}
use Rattle.rc_program.specs.Sought.{anchoring_of, search_over, text_of}
use Rattle.rc_program.proofs.AnswerLemmas.{answer_law}
use Rattle.rc_program.proofs.ReachLemmas.{longest_law}
use Rattle.rc_determinize.specs.Laws.{may_end_at}
use Rattle.rc_program.specs.Kinds.{IsAnswerBy, answer_by}
use Rattle.rc_text.specs.declared.types.MatchKind.{MatchKind}
use Rattle.rc_text.specs.declared.types.MatchKind.TheVariants.{All as all_matches, LeftmostFirst as leftmost_first, LeftmostLongest as leftmost_longest}
use Rattle.rc_dfa.specs.Machine.{Machine}
use Rattle.rc_dfa_search.specs.declared.search.Aim.{Aim}
use Rattle.rc_dfa_search.specs.Aims.{AreHalvesOf, search_for}
use Rattle.rc_dfa_search.specs.Leftmost.{IsLeftmost}
use Rattle.rc_dfa_search.specs.Machines.{IsCase}
use Rattle.rc_dfa_search.proofs.LegLemmas.{free_case}
use Rattle.rc_dfa_search.proofs.ToldLemmas.{kept_search}
use Rattle.rc_dfa_search.specs.Firsts.{starting_at}
use Rattle.rc_dfa_search.specs.Legs.{GoesByNeedles}

-- WHERE NO WALK BEGINS BEFORE

-- the match is told exactly where it is that of a walk that counts
abbrev pub IsTold : Option Found → Search → (ℕ → List Pair → Type 0) → Found → Type 0
IsTold o s Counts m = (o ≡ Some m) ↔ ((c : Chosen) × IsAnswerOf s Counts c × (found s c ≡ m))

pub first_told : (s : Search) (m : Found) → IsTold (answer s) s (IsFirstFrom s) m
first_told s m = (
  λ e. let r = (answer_law.answer_some s m).0 e in (r.0, (longest_law.first_is s r.0).1 r.1, r.2),
  λ r. (answer_law.answer_some s m).1 (r.0, (longest_law.first_is s r.0).0 r.1, r.2),
)

module _ (places : List Place) (text : Text) (lo hi : ℕ) where
  -- the search from x on
  abbrev pub Any : ℕ → Search
  Any x = record { places = places; text = text; lo = x; hi = hi; anchoring = anywhere; passes_over = false }

  -- that for a match that begins at x
  abbrev pub Here : ℕ → Search
  Here x = record { places = places; text = text; lo = x; hi = hi; anchoring = at_start; passes_over = false }

  -- Whichever walk of a start counts.
  module _ (Counts : ℕ → List Pair → Type 0) (gives : Search → Option Found)
      (any_some : (x : ℕ) (m : Found) → IsTold (gives (Any x)) (Any x) Counts m)
      (any_none : (x : ℕ) → (gives (Any x) ≡ None) ↔ HasNoAnswerOf (Any x) Counts)
      (here_some : (x : ℕ) (m : Found) → IsTold (gives (Here x)) (Here x) Counts m) where
    none_of : ((x : ℕ) → lo ≤ x → x ≤ hi → HasNoWalkFrom (Any lo) x) → None ≡ gives (Any lo)
    none_of none = sym ((any_none lo).1 (λ y is. inl (none y is.0 is.1)))

    module _ (from : ℕ) (above : lo ≤ from) (none : (x : ℕ) → lo ≤ x → x < from → HasNoWalkFrom (Any lo) x) where
      here_of : (m : Found) → Some m ≡ gives (Here from) → Some m ≡ gives (Any lo)
      here_of m e =
          let r = (here_some from m).0 (sym e) in
          let a = r.1 in
          let start : r.0.start ≡ from = a.is_start.2 refl in
          sym ((any_some lo m).1 (
            r.0,
            record {
              is_start = (omega (arith, above, start), a.is_start.1, λ t. absurd (true≢false (sym t)));
              counts = a.counts;
              allowed = a.allowed;
              none_before = λ y is lt. inl (none y is.0 (omega (arith, lt, start)));
            },
            r.2,
          ))

      later_of : (o : Option Found) → o ≡ gives (Any from) → o ≡ gives (Any lo)
      later_of None e =
          let r = (any_none from).0 (sym e) in
          sym ((any_none lo).1 (λ y is. elim (cases_lt y from) [
            | inl h ↦ inl (none y is.0 h)
            | inr h ↦ r y (h, is.1, λ t. absurd (true≢false (sym t)))
          ]))
      later_of (Some m) e =
          let r = (any_some from m).0 (sym e) in
          let a = r.1 in
          let first = a.is_start.0 in
          sym ((any_some lo m).1 (
            r.0,
            record {
              is_start = (omega (arith, above, first), a.is_start.1, λ t. absurd (true≢false (sym t)));
              counts = a.counts;
              allowed = a.allowed;
              none_before = λ y is lt. elim (cases_lt y from) [
                | inl h ↦ inl (none y is.0 h)
                | inr h ↦ a.none_before y (h, is.1, λ t. absurd (true≢false (sym t))) lt
              ];
            },
            r.2,
          ))

  -- by the kind
  pub none_anywhere : (kind : MatchKind) → IsLeftmost kind → ((x : ℕ) → lo ≤ x → x ≤ hi → HasNoWalkFrom (Any lo) x) → None ≡ answer_by kind (Any lo)
  none_anywhere all_matches l = absurd l
  none_anywhere leftmost_first l =
      none_of (IsFirstFrom (Any lo)) answer (λ x. first_told (Any x)) (λ x. answer_law.answer_none (Any x)) (λ x. first_told (Here x))
  none_anywhere leftmost_longest l =
      none_of (IsLongestFrom (Any lo)) longest (λ x. longest_law.answer_some (Any x)) (λ x. longest_law.answer_none (Any x))
      (λ x. longest_law.answer_some (Here x))

  module _ (from : ℕ) (above : lo ≤ from) (none : (x : ℕ) → lo ≤ x → x < from → HasNoWalkFrom (Any lo) x) where
    pub here_first : (kind : MatchKind) → IsLeftmost kind → (m : Found) → Some m ≡ answer_by kind (Here from) → Some m ≡ answer_by kind (Any lo)
    here_first all_matches l = absurd l
    here_first leftmost_first l =
        here_of (IsFirstFrom (Any lo)) answer (λ x. first_told (Any x)) (λ x. answer_law.answer_none (Any x)) (λ x. first_told (Here x)) from above none
    here_first leftmost_longest l =
        here_of (IsLongestFrom (Any lo)) longest (λ x. longest_law.answer_some (Any x)) (λ x. longest_law.answer_none (Any x))
        (λ x. longest_law.answer_some (Here x)) from above none

    pub later_first : (kind : MatchKind) → IsLeftmost kind → (o : Option Found) → o ≡ answer_by kind (Any from) → o ≡ answer_by kind (Any lo)
    later_first all_matches l = absurd l
    later_first leftmost_first l =
        later_of (IsFirstFrom (Any lo)) answer (λ x. first_told (Any x)) (λ x. answer_law.answer_none (Any x)) (λ x. first_told (Here x)) from above none
    later_first leftmost_longest l =
        later_of (IsLongestFrom (Any lo)) longest (λ x. longest_law.answer_some (Any x)) (λ x. longest_law.answer_none (Any x))
        (λ x. longest_law.answer_some (Here x)) from above none

  -- no match begins at a position, so no walk does
  none_passed : (Counts : ℕ → List Pair → Type 0) (from : ℕ) → IsPassedOf (Here from) Counts from → HasNoWalkFrom (Any lo) from
  none_passed Counts from passed = ⊎_elim (λ none. none) (λ r. absurd (true≢false r.2)) passed

  pub not_here : (kind : MatchKind) → IsLeftmost kind → (from : ℕ) → from ≤ hi → None ≡ answer_by kind (Here from) → HasNoWalkFrom (Any lo) from
  not_here all_matches l = absurd l
  not_here leftmost_first l = λ from le e. none_passed (IsFirstFrom (Any lo)) from
      ((answer_law.answer_none (Here from)).0 (sym e) from (omega arith, le, λ t. refl))
  not_here leftmost_longest l = λ from le e. none_passed (IsLongestFrom (Any lo)) from
      ((longest_law.answer_none (Here from)).0 (sym e) from (omega arith, le, λ t. refl))

-- in the terms of an input
pub as_any : (aim : Aim) (hs : List Re) (terminator : ℕ) (s : Searched) → GoesByNeedles aim s.anchored →
    search_for aim hs terminator s ≡ Any (program hs) (text_of terminator s) (low s) (high s) (low s)
as_any aim hs terminator s goes =
    ap₂ (λ (over : Bool) (a : Anchored). let q : Search = record {
      places = program hs;
      text = text_of terminator s;
      lo = low s;
      hi = high s;
      anchoring = anchoring_of a;
      passes_over = over;
    } in q) goes.all goes.free

-- ONE RUN

module _ (AreOf : Machine → Machine → Type 0) (aim : Aim) (hs : List Re) (terminator : ℕ) (of : AreHalvesOf AreOf aim hs terminator) (s : Searched)
    (goes : GoesByNeedles aim s.anchored) (from : ℕ) (above : low s ≤ from) (below : from ≤ high s) where
  abbrev S : Search
  S = search_for aim hs terminator s

  pub case_here : IsCase hs aim.kind of.ahead of.back Yes (starting_at from S)
  case_here =
      let c = free_case AreOf aim hs terminator s of (omega (arith, above, below)) goes.free in
      let in_slice = c.inside in
      record {
        alphabet = c.alphabet;
        machines = c.machines;
        places = c.places;
        anchoring = refl;
        inside = record { low = omega (arith, above); high = in_slice.high; bounded = in_slice.bounded };
        ordered = below;
        asked = tt;
      }

  pub may : (at : ℕ) → may_end_at (starting_at from S) at ≡ true
  may at = ap (λ b. not b || is_boundary s.content at) goes.all

-- IN CODE

pub over_kept : (places : List Place) (terminator : ℕ) (over : Bool) (a b : Searched) → Keeps a b → search_over places terminator over b ≡ search_over places terminator over a
over_kept places terminator over a b k = rw (k.content, k.span, k.slice, k.anchored) refl

-- no walk begins up to a position, nor from there on
pub none_on : (places : List Place) (terminator : ℕ) (over : Bool) (s cur : Searched) → Keeps s cur → (from at to : ℕ) →
    ((x : ℕ) → from ≤ x → x < at → HasNoWalkFrom (search_over places terminator over s) x) →
    ((x : ℕ) → at ≤ x → x < to → HasNoWalkFrom (search_over places terminator over cur) x) →
    (x : ℕ) → from ≤ x → x < to → HasNoWalkFrom (search_over places terminator over s) x
none_on places terminator over s cur keeps from at to first beyond x low lt = elim (cases_lt x at) [
  | inl h ↦ first x low h
  | inr h ↦ subst (λ (q : Search). HasNoWalkFrom q x) (over_kept places terminator over s cur keeps) (beyond x h lt)
]

module _ (aim : Aim) (hs : List Re) (terminator : ℕ) (s t : Searched) (keeps : Keeps s t) (goes : GoesByNeedles aim s.anchored) (lo hi : ℕ)
    (is_lo : lo ≡ low s) (is_hi : hi ≡ high s) where
  abbrev T : ℕ → Search
  T x = Any (program hs) (text_of terminator s) (low s) (high s) x

  same : search_for aim hs terminator s ≡ T (low s)
  same = as_any aim hs terminator s goes

  moved : (x : ℕ) → HasNoWalkFrom (search_for aim hs terminator t) x → HasNoWalkFrom (T (low s)) x
  moved x h = subst (λ (q : Search). HasNoWalkFrom q x) (kept_search aim hs terminator s t keeps ∙ same) h

  pub no_first : ((x : ℕ) → lo ≤ x → x ≤ hi → HasNoWalkFrom (search_for aim hs terminator t) x) → None ≡ answer_by aim.kind (search_for aim hs terminator s)
  no_first none =
      none_anywhere (program hs) (text_of terminator s) (low s) (high s) aim.kind goes.kind (λ x low le. moved x (none x (omega (arith, low, is_lo)) (omega (arith, le, is_hi))))
      ∙ sym (ap (answer_by aim.kind) same)

  pub not_begun : (u : Searched) → Keeps s u → (from : ℕ) → from ≤ hi →
      None ≡ answer_by aim.kind (starting_at from (search_for aim hs terminator u)) → HasNoWalkFrom (search_for aim hs terminator s) from
  not_begun u kept from le h =
      subst (λ (q : Search). HasNoWalkFrom q from) (sym same)
      (not_here (program hs) (text_of terminator s) (low s) (high s) aim.kind goes.kind from (omega (arith, le, is_hi))
      (h ∙ ap (λ q. answer_by aim.kind (starting_at from q)) (kept_search aim hs terminator s u kept ∙ same)))

  module _ (from : ℕ) (above : lo ≤ from) (none : (x : ℕ) → lo ≤ x → x < from → HasNoWalkFrom (search_for aim hs terminator t) x) where
    passed : (x : ℕ) → low s ≤ x → x < from → HasNoWalkFrom (T (low s)) x
    passed x low lt = moved x (none x (omega (arith, low, is_lo)) lt)

    module _ (u : Searched) (kept : Keeps s u) where
      pub found_here : (m : Found) → Some m ≡ answer_by aim.kind (starting_at from (search_for aim hs terminator u)) → Some m ≡ answer_by aim.kind (search_for aim hs terminator s)
      found_here m h =
          here_first (program hs) (text_of terminator s) (low s) (high s) from (omega (arith, above, is_lo)) passed aim.kind goes.kind m
          (h ∙ ap (λ q. answer_by aim.kind (starting_at from q)) (kept_search aim hs terminator s u kept ∙ same))
          ∙ sym (ap (answer_by aim.kind) same)

      pub found_later : (r : Result (Option Found) MatchError) → IfOk r (IsAnswerBy aim.kind aim.earliest (record (search_for aim hs terminator u) { lo = from })) →
          IfOk r (λ o. o ≡ answer_by aim.kind (search_for aim hs terminator s))
      found_later (Err e) h = tt
      found_later (Ok o) h =
          later_first (program hs) (text_of terminator s) (low s) (high s) from (omega (arith, above, is_lo)) passed aim.kind goes.kind o
          (plain o (record (search_for aim hs terminator u) { lo = from }) h ∙ ap (λ (q : Search). answer_by aim.kind (record q { lo = from })) (kept_search aim hs terminator s u kept ∙ same))
          ∙ sym (ap (answer_by aim.kind) same)
        where
          plain : (o : Option Found) (q : Search) → IsAnswerBy aim.kind aim.earliest q o → o ≡ answer_by aim.kind q
          plain o q h = subst (λ e. IsAnswerBy aim.kind e q o) goes.late h
