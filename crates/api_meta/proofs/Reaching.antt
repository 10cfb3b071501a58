-- How many bytes settle what a search finds.
use Rattle.std.proofs.Common.{◌≡◌, ◌≢◌, ◌∙◌, ℕ, ◌+◌, ◌-◌, ◌^◌, ◌<◌, ◌≤◌, true, IsTrue, List, [], ◌∷◌, max, min, Option, Some, None, IfSome, inl, inr, ⊎_elim, ap, ap₂, subst, sym, refl, arith, true≢false}
use Rattle.std.specs.Prelude.{All, if◌then◌else◌}
use Rattle.std.proofs.Math.Logic.{∥∥₁_elim}
use denote.Struct.Props.{props}
use Rattle.std.proofs.lemmas.Bool.{cases_Bool, cases_lt}
use Rattle.std.proofs.lemmas.Option.{none-some, same_Some}
use Rattle.std.proofs.lemmas.List.Elements.{All-weaker}
use Rattle.rc_text.specs.Bounds.{IsWithinBounds}
use Rattle.rc_text.specs.Found.{Found}
use Rattle.rc_text.specs.Plain as plain
use Rattle.rc_text.specs.Text.{Keeps, Searched, low, slice_end}
use Rattle.rc_text.specs.declared.types.Anchored.{Anchored}
use Rattle.rc_text.specs.declared.types.Anchored.TheVariants.{No, Yes, Pattern}
use Rattle.rc_text.specs.declared.types.MatchKind.{MatchKind}
use Rattle.rc_text.specs.declared.types.MatchKind.TheVariants.{LeftmostFirst as leftmost_first, LeftmostLongest as leftmost_longest, All as all_matches}
use Rattle.rc_pattern.specs.Re.{Re}
use Rattle.rc_pattern.specs.Properties.{both, maximum_len}
use Rattle.rc_pattern.specs.WellFormed.{HasBounds, IsWellFormed}
use Rattle.rc_captures.specs.declared.captures.Captures.{Captures}
use Rattle.rc_program.specs.Answer.{Search, Chosen, chosen, is_anchored}
use Rattle.rc_program.specs.Kinds.{answer_by}
use Rattle.rc_program.specs.Longest.{longest_chosen}
use Rattle.rc_program.specs.Sought.{Sought, anchoring_of, search_for}
use Rattle.rc_pikevm_search.specs.Tells.{TellsBy, TellsOf, TellsSpan}
use Rattle.rc_reach.specs.Laws.{greatest_len}
use Rattle.rc_reach.specs.Settled.{IsInside, IsSettled, IsWalkSettled}
use Rattle.rc_reach.proofs.BoundLemmas.{length_law}
use Rattle.rc_reach.proofs.SliceLemmas.{slice_law}
use Rattle.rc_pikevm_search.specs.Engine.{engine_search}
use Rattle.rc_dfa_search.specs.Reaches.{IsAnswerBelow}
use Rattle.rc_dfa_search.specs.declared.reach.Settled.{Settled}
use Rattle.rc_dfa_search.proofs.ReachLemmas.{itself}
use Rattle.rc_build.proofs.Fitted.{fits_search}
use Rattle.api_meta.specs.Reached.{IsNear, IsNearStart, TellsBelow}
use Rattle.api_meta.specs.Reaching.{EndsSettled, anchored_start, last_start, longest_after, reach_after}
use Rattle.api_meta.specs.Views.{regex_kind, regex_patterns, sought}
use Rattle.api_meta.specs.declared.regex.Regex.{Regex}
use Rattle.api_meta.proofs.Preferred.{bounds_prop}

pub search_inside : (q : Sought) (i : Searched) → IsInside (search_for q i)
search_inside q i = record { lo = omega arith; hi = omega arith; slice_end = omega arith }

-- an anchored input makes an anchored search
anchored_search : (a : Anchored) → plain.is_anchored a ≡ true → IsTrue (is_anchored (anchoring_of a))
anchored_search No e = absurd (true≢false (sym e))
anchored_search Yes e = refl
anchored_search (Pattern p) e = refl

starts_at : (i : Searched) (k : ℕ) → anchored_start i ≡ Some k → (plain.is_anchored i.anchored ≡ true) × (low i ≡ k)
starts_at i k e =
    ⊎_elim (λ t. (t, same_Some (low i) k (rw t at e))) (λ f. absurd (none-some k (rw f at e))) (cases_Bool (plain.is_anchored i.anchored))

module _ (q : Sought) (kind : MatchKind) (i : Searched) (o : Option Found) (ok : All HasBounds q.patterns) (fits : slice_end i + 1 < 2 ^ 64)
    (is : o ≡ answer_by kind (search_for q i)) (bounds : IfSome o (IsWithinBounds i)) where
  abbrev s : Search
  s = search_for q i

  abbrev over : ℕ
  over = slice_end i + 1

  ends_in_slice : (p : Option Found) → IfSome p (IsWithinBounds i) → IfSome p (λ m. m.end ≤ over)
  ends_in_slice None b = b
  ends_in_slice (Some m) b = let l = b.2 in omega (arith, l)

  ends_below : (p : Option Found) (r : ℕ) → IfSome p (IsWithinBounds i) → IfSome p (λ m. m.end ≤ r) → IfSome p (λ m. m.end ≤ min r over)
  ends_below None r b e = e
  ends_below (Some m) r b e = let l = b.2 in omega (arith, l, e)

  -- the whole slice
  whole : EndsSettled kind s o over
  whole = record { settled = slice_law kind s (search_inside q i); past = ends_in_slice o bounds }

  -- at most the whole slice
  at_most : (r : ℕ) → IsWalkSettled kind r s → IfSome o (λ m. m.end ≤ r) → EndsSettled kind s o (min r over)
  at_most r settled past = record {
    settled = ⊎_elim (λ l. let e : r ≡ min r over = omega (arith, l) in subst (λ k. IsWalkSettled kind k s) e settled)
        (λ g. let e : over ≡ min r over = omega (arith, g) in subst (λ k. IsWalkSettled kind k s) e (slice_law kind s (search_inside q i)))
        (cases_lt r over);
    past = ends_below o r bounds past;
  }

  further : (p : Option Found) (k n : ℕ) → ((m : Found) → p ≡ Some m → m.end ≤ k + n) → IfSome p (λ m. m.end ≤ k + n + 4)
  further None k n f = tt
  further (Some m) k n f = let l = f m refl in omega (arith, l)

  anchored_settles : (k n : ℕ) → greatest_len q.patterns ≡ Some n → anchored_start i ≡ Some k →
      IsWalkSettled kind (k + n + 4) s × IfSome o (λ m. m.end ≤ k + n + 4)
  anchored_settles k n len e =
      let a = starts_at i k e in
      let l = length_law.anchored kind s q.grouped q.patterns n (search_inside q i) refl ok len (anchored_search i.anchored a.0) in (
        subst (λ x. IsWalkSettled kind (x + n + 4) s) a.1 l.0,
        further o k n (λ m f. subst (λ x. m.end ≤ x + n) a.1 (l.1 m (sym is ∙ f))),
      )

  found_settles : (m : Found) (n : ℕ) → kind ≢ all_matches → greatest_len q.patterns ≡ Some n → o ≡ Some m →
      IsWalkSettled kind (m.start + n + 4) s × IfSome o (λ x. x.end ≤ m.start + n + 4)
  found_settles m n other len e =
      let l = length_law.found kind s q.grouped q.patterns m n (search_inside q i) refl ok len other (sym is ∙ e) in (
        l.0,
        subst (λ p. IfSome p (λ x. x.end ≤ m.start + n + 4)) (sym e) (let z = l.1 in omega (arith, z)),
      )

  -- by what tells the last start
  by_start : (start longest : Option ℕ) → greatest_len q.patterns ≡ longest →
      ((k n : ℕ) → start ≡ Some k → greatest_len q.patterns ≡ Some n → IsWalkSettled kind (k + n + 4) s × IfSome o (λ m. m.end ≤ k + n + 4)) →
      EndsSettled kind s o (min (reach_after start longest) over)
  by_start None longest len f = let e : over ≡ min (2 ^ 64 - 1) over = omega (arith, fits) in subst (EndsSettled kind s o) e whole
  by_start (Some k) None len f = let e : over ≡ min (2 ^ 64 - 1) over = omega (arith, fits) in subst (EndsSettled kind s o) e whole
  by_start (Some k) (Some n) len f =
      let both = f k n refl len in
      let e : min (k + n + 4) over ≡ min (min (k + n + 4) (2 ^ 64 - 1)) over = omega (arith, fits) in
      subst (EndsSettled kind s o) e (at_most (k + n + 4) both.0 both.1)

pub settles : (q : Sought) (kind : MatchKind) (i : Searched) (o : Option Found) → All HasBounds q.patterns → slice_end i + 1 < 2 ^ 64 →
    o ≡ answer_by kind (search_for q i) → IfSome o (IsWithinBounds i) →
    EndsSettled kind (search_for q i) o (min (reach_after (last_start kind i o) (greatest_len q.patterns)) (slice_end i + 1))
settles q all_matches i o ok fits is bounds =
    by_start q all_matches i o ok fits is bounds (anchored_start i) (greatest_len q.patterns) refl
    (λ k n e len. anchored_settles q all_matches i o ok fits is bounds k n len e)
settles q leftmost_first i None ok fits is bounds =
    by_start q leftmost_first i None ok fits is bounds (anchored_start i) (greatest_len q.patterns) refl
    (λ k n e len. anchored_settles q leftmost_first i None ok fits is bounds k n len e)
settles q leftmost_longest i None ok fits is bounds =
    by_start q leftmost_longest i None ok fits is bounds (anchored_start i) (greatest_len q.patterns) refl
    (λ k n e len. anchored_settles q leftmost_longest i None ok fits is bounds k n len e)
settles q leftmost_first i (Some m) ok fits is bounds =
    by_start q leftmost_first i (Some m) ok fits is bounds (Some m.start) (greatest_len q.patterns) refl
    (λ k n e len. subst (λ x. IsWalkSettled leftmost_first (x + n + 4) (search_for q i) × IfSome (Some m) (λ y. y.end ≤ x + n + 4)) (same_Some m.start k e)
    (found_settles q leftmost_first i (Some m) ok fits is bounds m n (λ same. first_not_all same) len refl))
  where
    first_not_all : leftmost_first ≡ all_matches → ⊥
    first_not_all e = cc
settles q leftmost_longest i (Some m) ok fits is bounds =
    by_start q leftmost_longest i (Some m) ok fits is bounds (Some m.start) (greatest_len q.patterns) refl
    (λ k n e len. subst (λ x. IsWalkSettled leftmost_longest (x + n + 4) (search_for q i) × IfSome (Some m) (λ y. y.end ≤ x + n + 4)) (same_Some m.start k e)
    (found_settles q leftmost_longest i (Some m) ok fits is bounds m n (λ same. longest_not_all same) len refl))
  where
    longest_not_all : leftmost_longest ≡ all_matches → ⊥
    longest_not_all e = cc

-- the reach is near the match
pub is_near : (hs : List Re) (kind : MatchKind) (i : Searched) (o : Option Found) (most : ℕ) →
    IsNear kind hs o (min (reach_after (last_start kind i o) (greatest_len hs)) most)
is_near hs all_matches i o most = λ other. absurd (other refl)
is_near hs leftmost_first i None most = λ other. tt
is_near hs leftmost_longest i None most = λ other. tt
is_near hs leftmost_first i (Some m) most = λ other n e. rw e (omega arith)
is_near hs leftmost_longest i (Some m) most = λ other n e. rw e (omega arith)

-- the greatest length, with the patterns that come first counted in
after_is : (o : Option ℕ) (hs : List Re) → longest_after o hs ≡ both (λ m n. Some (max m n)) o (greatest_len hs)
after_is None [] = refl
after_is (Some m) [] = ap Some (omega arith)
after_is o (h ∷ hs) = after_is (both (λ m n. Some (max m n)) o (maximum_len h)) hs ∙ assoc o (maximum_len h) (greatest_len hs)
  where
    assoc : (a b c : Option ℕ) → both (λ m n. Some (max m n)) (both (λ m n. Some (max m n)) a b) c
        ≡ both (λ m n. Some (max m n)) a (both (λ m n. Some (max m n)) b c)
    assoc None b c = refl
    assoc (Some k) None c = refl
    assoc (Some k) (Some l) None = refl
    assoc (Some k) (Some l) (Some m) = ap Some (omega arith)

pub longest_is : (hs : List Re) → longest_after (Some 0) hs ≡ greatest_len hs
longest_is hs = after_is (Some 0) hs ∙ none_more (greatest_len hs)
  where
    none_more : (o : Option ℕ) → both (λ m n. Some (max m n)) (Some 0) o ≡ o
    none_more None = refl
    none_more (Some n) = ap Some (omega arith)

-- a regex is built of patterns with bounds
pub regex_bounded : (r : Regex) → All HasBounds (regex_patterns r)
regex_bounded r = ∥∥₁_elim r.well_formed (hlevel (props, bounds_prop)) (All-weaker IsWellFormed HasBounds (λ h f. f.bounded) (regex_patterns r))

-- by what the code tells
pub by_values : (r : Regex) (i : Searched) (o : Option Found) (start : Option ℕ) (most reach : ℕ) → slice_end i + 1 < 2 ^ 64 →
    o ≡ answer_by (regex_kind r) (search_for (sought r) i) → IfSome o (IsWithinBounds i) → start ≡ last_start (regex_kind r) i o →
    most ≡ reach_after start r.longest → reach ≡ min most (slice_end i + 1) →
    EndsSettled (regex_kind r) (search_for (sought r) i) o reach × IsNear (regex_kind r) (regex_patterns r) o reach
by_values r i o start most reach fits is bounds starts mosts reaches =
    let hs = regex_patterns r in
    let longest : r.longest ≡ greatest_len hs = r.measured ∙ longest_is hs in
    let all : most ≡ reach_after (last_start (regex_kind r) i o) (greatest_len hs) = mosts ∙ ap₂ reach_after starts longest in
    let e : min (reach_after (last_start (regex_kind r) i o) (greatest_len hs)) (slice_end i + 1) ≡ reach =
    sym (reaches ∙ ap (λ k. min k (slice_end i + 1)) all) in (
      subst (EndsSettled (regex_kind r) (search_for (sought r) i) o) e (settles (sought r) (regex_kind r) i o (regex_bounded r) fits is bounds),
      subst (IsNear (regex_kind r) hs o) e (is_near hs (regex_kind r) i o (slice_end i + 1)),
    )

-- what an anchored search that finds nothing reaches
pub near_start : (r : Regex) (i : Searched) (o : Option Found) (start : Option ℕ) (most reach : ℕ) → start ≡ last_start (regex_kind r) i o →
    most ≡ reach_after start r.longest → reach ≡ min most (slice_end i + 1) → IsNearStart (regex_patterns r) i o reach
near_start r i o start most reach starts mosts reaches anchored none n greatest =
    let longest : r.longest ≡ Some n = r.measured ∙ longest_is (regex_patterns r) ∙ greatest in
    let here : start ≡ Some (low i) =
    starts ∙ ap (last_start (regex_kind r) i) none ∙ unfound (regex_kind r) ∙ ap (λ b. if b then Some (low i) else None) anchored in
    let after : most ≡ min (low i + n + 4) (2 ^ 64 - 1) = mosts ∙ ap₂ reach_after here longest in
    omega (arith, reaches, after)
  where
    unfound : (kind : MatchKind) → last_start kind i None ≡ anchored_start i
    unfound all_matches = refl
    unfound leftmost_first = refl
    unfound leftmost_longest = refl

-- and of an input that is kept
pub near_start_kept : (hs : List Re) (i j : Searched) (o : Option Found) (k most : ℕ) → Keeps i j → k ≤ most → IsNearStart hs j o most → IsNearStart hs i o k
near_start_kept hs i j o k most keeps le near anchored none n greatest =
    let far = near (ap plain.is_anchored keeps.anchored ∙ anchored) none n greatest in
    let same : low j ≡ low i = ap (λ x. low (record j { span = x })) keeps.span ∙ ap (λ x. low (record j { span = i.span; slice = x })) keeps.slice in
    omega (arith, le, far, same)

-- an input that is kept is searched alike
pub kept : (q : Sought) (i j : Searched) → Keeps i j → search_for q j ≡ search_for q i
kept q i j k =
    ap (λ x. search_for q (record j { content = x })) k.content ∙ ap (λ x. search_for q (record j { content = i.content; span = x })) k.span
    ∙ ap (λ x. search_for q (record j { content = i.content; span = i.span; slice = x })) k.slice
    ∙ ap (λ x. search_for q (record j { content = i.content; span = i.span; slice = i.slice; anchored = x })) k.anchored

-- captures tell the match of each search that is the same
tells_same : (s t : Search) (o : Option Chosen) (caps : Captures) → t.places ≡ s.places → TellsOf s o caps → TellsOf t o caps
tells_same s t None caps e told = told
tells_same s t (Some c) caps e told =
    subst (λ places. TellsOf (record s { places = places }) (Some c) caps) (sym e) told

pub tells_below : (kind : MatchKind) (s : Search) (r : ℕ) (caps : Captures) → IsWalkSettled kind r s → TellsBy kind s caps → TellsBelow kind r s caps
tells_below all_matches s r caps settled told = λ t inside agrees. subst (λ o. TellsSpan o caps) (sym (settled t inside agrees)) told
tells_below leftmost_first s r caps settled told =
    λ t inside agrees. subst (λ o. TellsOf t o caps) (sym (settled t inside agrees)) (tells_same s t (chosen s) caps agrees.places told)
tells_below leftmost_longest s r caps settled told =
    λ t inside agrees. subst (λ o. TellsOf t o caps) (sym (settled t inside agrees)) (tells_same s t (longest_chosen s) caps agrees.places told)

-- WHAT THE ENGINES TELL

pub below : (r : Regex) (i : Searched) (o : Settled) → IsAnswerBelow r.engines.engine.kind (engine_search r.engines.engine i) o.reach o.found →
    IsAnswerBelow (regex_kind r) (search_for (sought r) i) o.reach o.found
below r i o h =
    subst (λ k. IsAnswerBelow k (search_for (sought r) i) o.reach o.found) r.fits.kinded
    (subst (λ s. IsAnswerBelow r.engines.engine.kind s o.reach o.found) (fits_search r.fits i) h)

pub settled_answer : (r : Regex) (i : Searched) (o : Settled) → IsAnswerBelow r.engines.engine.kind (engine_search r.engines.engine i) o.reach o.found →
    answer_by (regex_kind r) (search_for (sought r) i) ≡ o.found
settled_answer r i o h = below r i o h (search_for (sought r) i) (search_inside (sought r) i) (itself (search_for (sought r) i) o.reach)

-- the lesser of two counts that settle an answer settles it
least : (kind : MatchKind) (s : Search) (m n : ℕ) → IsSettled kind m s → IsSettled kind n s → IsSettled kind (min m n) s
least kind s m n x y = elim (cases_lt m n) [
  | inl h ↦ let e : m ≡ min m n = omega (arith, h) in subst (λ k. IsSettled kind k s) e x
  | inr h ↦ let e : n ≡ min m n = omega (arith, h) in subst (λ k. IsSettled kind k s) e y
]

pub least_settled : (r : Regex) (i : Searched) (o : Settled) (m : ℕ) → IsAnswerBelow r.engines.engine.kind (engine_search r.engines.engine i) o.reach o.found →
    IsSettled (regex_kind r) m (search_for (sought r) i) → IsSettled (regex_kind r) (min m o.reach) (search_for (sought r) i)
least_settled r i o m h x =
    least (regex_kind r) (search_for (sought r) i) m o.reach x (λ t in2 agrees. below r i o h t in2 agrees ∙ sym (settled_answer r i o h))

-- so it is of walks
pub walk_least : (r : Regex) (i : Searched) (m n : ℕ) → IsWalkSettled (regex_kind r) m (search_for (sought r) i) →
    IsWalkSettled r.engines.engine.kind n (engine_search r.engines.engine i) → IsWalkSettled (regex_kind r) (min m n) (search_for (sought r) i)
walk_least r i m n x y =
    let kind = regex_kind r in
    let s = search_for (sought r) i in
    let told : IsWalkSettled kind n s =
    subst (λ k. IsWalkSettled k n s) r.fits.kinded (subst (IsWalkSettled r.engines.engine.kind n) (fits_search r.fits i) y) in
    elim (cases_lt m n) [
      | inl h ↦ let e : m ≡ min m n = omega (arith, h) in subst (λ k. IsWalkSettled kind k s) e x
      | inr h ↦ let e : n ≡ min m n = omega (arith, h) in subst (λ k. IsWalkSettled kind k s) e told
    ]

pub near_more : (hs : List Re) (kind : MatchKind) (o : Option Found) (m n : ℕ) → n ≤ m → IsNear kind hs o m → IsNear kind hs o n
near_more hs kind None m n h near = λ other. tt
near_more hs kind (Some f) m n h near = λ other k e. let l = near other k e in omega (arith, l, h)

pub past_least : (o : Option Found) (m n : ℕ) → IfSome o (λ f. f.end ≤ m) → IfSome o (λ f. f.end ≤ n) → IfSome o (λ f. f.end ≤ min m n)
past_least None m n x y = tt
past_least (Some f) m n x y = omega (arith, x, y)

pub same_slice : (i j : Searched) → Keeps i j → slice_end j ≡ slice_end i
same_slice i j k = rw (k.content, k.slice) refl

pub same_bounds : (i j : Searched) → Keeps i j → (o : Option Found) → IfSome o (IsWithinBounds i) → IfSome o (IsWithinBounds j)
same_bounds i j k None w = tt
same_bounds i j k (Some m) w = rw (k.content, k.span, k.slice) w
