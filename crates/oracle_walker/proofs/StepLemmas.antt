-- The steps of the walker: what its stack of frames shows.
use Rattle.std.proofs.Common.{◌≡◌, ℕ, zero, suc, ◌+◌, ◌-◌, ◌*◌, ◌<◌, ◌≤◌, List, [], ◌∷◌, ◌++◌, length, map, drop, reverse, inl, inr, sym, subst, ap, ◌∙◌, refl, arith, Bool, true, false, Option, Some, None, if◌then◌else◌, slice_get, slice_index_or, add-one, append_assoc}
use Rattle.std.proofs.lemmas.List.{reverse-append, length-map, reverse-reverse, map-append}
use Rattle.std.proofs.lemmas.Option.{none-some, same_Some, slice_get_within}
use Rattle.rc_pattern.specs.declared.hir.Look.{Look}
use Rattle.rc_pattern.specs.Meaning.{byte_range, char_range}
use Rattle.rc_text.specs.Text.{Searched, Keeps}
use Rattle.rc_walks.specs.Walks.{Pair, IsIn, IsFirstWalk, HasNoWalk}
use Rattle.rc_walks.proofs.StackLemmas.{untried, Awaits, unwind, goes_back, skips_way, goes_on, arrives_at, same_ways, no_ways}
use Rattle.rc_walks.proofs.CountLemmas.{AreApart, AreBelow, length_below, steps_left, falls_back, falls_skipping, falls_on}
use Rattle.rc_program.specs.Answer.{last_of}
use Rattle.rc_program.specs.Text.{Text, holds, ahead}
use Rattle.rc_program.specs.Program.{Place, choice, Way, stays, over_byte, over_scalar, reads, in_ranges, place_at, ways, ways_out, pair_at}
use Rattle.rc_program.proofs.WayLemmas.{same_pair, no_way_from, ways_onward}
use Rattle.rc_program.specs.Scalars.{scalar_at}
use Rattle.rc_program.specs.Sought.{text_of}
use Rattle.rc_program.specs.Places.{place_of}
use Rattle.oracle_walker.proofs.TextLemmas.{same_text}
use Rattle.rc_program.specs.declared.place.Place as code
use Rattle.rc_program.specs.declared.place.Place.TheVariants as code_variants
use Rattle.oracle_walker.specs.Frames.{pair_of, Ends, fresh_frame}
use Rattle.oracle_walker.specs.declared.frames.Frame.{Frame}

drop-get : {X : Type 0} (xs : List X) (k : ℕ) (x : X) → slice_get xs k ≡ Some x → drop k xs ≡ x ∷ drop (suc k) xs
drop-get [] k x e = absurd (none-some x e)
drop-get (y ∷ ys) zero x e = cc
drop-get (y ∷ ys) (suc k) x e = drop-get ys k x e

drop-none : {X : Type 0} (xs : List X) (k : ℕ) → slice_get xs k ≡ None → drop k xs ≡ []
drop-none [] zero e = refl
drop-none [] (suc k) e = refl
drop-none (y ∷ ys) zero e = absurd (none-some y (sym e))
drop-none (y ∷ ys) (suc k) e = drop-none ys k e

reverse-first : {X : Type 0} (x : X) (xs : List X) → reverse (x ∷ xs) ≡ reverse xs ++ x ∷ []
reverse-first x xs = reverse-append (x ∷ []) xs

pub reverse-push : {X : Type 0} (xs : List X) (x : X) → reverse (xs ++ x ∷ []) ≡ x ∷ reverse xs
reverse-push xs x = reverse-append xs (x ∷ [])

abbrev pub again : Frame → Frame
again f = record { place = f.place; position = f.position; tried = f.tried + 1; before = f.before }

-- no frame stands past the position
abbrev pub AreUpTo : ℕ → List Frame → Type 0
AreUpTo at [] = Unit {0}
AreUpTo at (f ∷ fs) = (f.position ≤ at) × AreUpTo at fs

-- the frames, the uppermost first, stand from `low` on, and no position falls along the stack
abbrev pub Rise : ℕ → List Frame → Type 0
Rise low [] = Unit {0}
Rise low (f ∷ fs) = (low ≤ f.position) × AreUpTo f.position fs × Rise low fs

-- frames up to a position are up to each later one
pub later_up_to : (at later : ℕ) (fs : List Frame) → at ≤ later → AreUpTo at fs → AreUpTo later fs
later_up_to at later [] h a = tt
later_up_to at later (f ∷ fs) h a = (omega (arith, a.0), later_up_to at later fs h a.1)

pub in_from_get : (xs : List Pair) (k : ℕ) (n : Pair) → slice_get xs k ≡ Some n → IsIn n xs
in_from_get [] k n e = absurd (none-some n e)
in_from_get (m ∷ ms) zero n e = inl cc
in_from_get (m ∷ ms) (suc k) n e = inr (in_from_get ms k n e)

module _ (places : List Place) (t : Text) (hi start : ℕ) (only : Option ℕ) where
  abbrev pub W : Pair → List Pair
  W = ways places t hi

  abbrev pub tried_of : Frame → ℕ
  tried_of f = f.tried

  abbrev pub left_over : List Frame → List Pair
  left_over = untried W (Ends only places) (0, start) Frame pair_of tried_of

  -- the frames, the uppermost first, are a walk under way
  pub record IsWalking (fs : List Frame) : Type 0 where
    pub awaits : Awaits W (Ends only places) (0, start) Frame pair_of tried_of fs (left_over fs)
    pub below : AreBelow (length places) (suc hi) (map pair_of fs)
    pub rising : Rise start fs

  pub ends_last : (n m : Pair) → Ends only places n → ¬ IsIn m (W n)
  ends_last n m e = no_way_from only (λ l. holds t l n.1) (ahead t hi n.1) (place_at places n.0) n.1 m e

  pub begins : (before : Option ℕ) → ¬ Ends only places (0, start) → 0 < length places → start ≤ hi → IsWalking (fresh_frame 0 start before ∷ [])
  begins before on some inside = record {
    awaits = (on, (λ h. h), same_ways W (Ends only places) _ _, same_ways W (Ends only places) _ _);
    below = ((some, omega arith), tt);
    rising = (omega arith, tt, tt);
  }

  pub steps_back : (f : Frame) (fs : List Frame) → slice_get (W (pair_of f)) f.tried ≡ None → IsWalking (f ∷ fs) → IsWalking fs
  steps_back f fs e w = record {
    awaits = goes_back W (Ends only places) (0, start) Frame pair_of tried_of f fs (drop-none (W (pair_of f)) f.tried e) w.awaits;
    below = w.below.1;
    rising = w.rising.2;
  }

  -- with one more way tried
  rest_of : Frame → List Pair
  rest_of f = drop (f.tried + 1) (W (pair_of f))

  next_ways : (f : Frame) (n : Pair) → slice_get (W (pair_of f)) f.tried ≡ Some n → drop f.tried (W (pair_of f)) ≡ n ∷ rest_of f
  unfolding rest_of
  next_ways f n e = rw add-one (drop-get (W (pair_of f)) f.tried n e)

  moved : (f : Frame) (fs : List Frame) (n : Pair) → slice_get (W (pair_of f)) f.tried ≡ Some n → IsWalking (f ∷ fs) →
      Awaits W (Ends only places) (0, start) Frame pair_of tried_of (f ∷ fs) (n ∷ rest_of f)
  moved f fs n e w =
      subst (λ x. Awaits W (Ends only places) (0, start) Frame pair_of tried_of (f ∷ fs) x) (next_ways f n e) w.awaits

  pub steps_over : (f : Frame) (fs : List Frame) (n : Pair) → slice_get (W (pair_of f)) f.tried ≡ Some n →
      IsIn n (pair_of f ∷ map pair_of fs) → IsWalking (f ∷ fs) → IsWalking (again f ∷ fs)
  unfolding rest_of
  steps_over f fs n e seen w = record {
    awaits = skips_way W (Ends only places) (0, start) Frame pair_of tried_of f fs n (rest_of f) (moved f fs n e w) seen;
    below = w.below;
    rising = w.rising;
  }

  pub steps_on : (f : Frame) (fs : List Frame) (place position : ℕ) (before : Option ℕ) →
      slice_get (W (pair_of f)) f.tried ≡ Some (place, position) → ¬ IsIn (place, position) (pair_of f ∷ map pair_of fs) →
      ¬ Ends only places (place, position) → place < length places → position ≤ hi → IsWalking (f ∷ fs) →
      IsWalking (fresh_frame place position before ∷ again f ∷ fs)
  unfolding rest_of
  steps_on f fs place position before e new on inside within w =
      let h : f.position ≤ position = ways_onward places t hi (pair_of f) (place, position) (in_from_get (W (pair_of f)) f.tried (place, position) e) in record {
        awaits = goes_on W (Ends only places) (0, start) Frame pair_of tried_of (again f) (fresh_frame place position before) fs
            (moved f fs (place, position) e w) on new refl;
        below = ((inside, omega arith), w.below);
        rising = (omega (arith, h, w.rising.0), (h, later_up_to f.position position fs h w.rising.1), w.rising);
      }

  unwinds : (fs : List Frame) (w : List Pair) → unwind W (Ends only places) (0, start) Frame pair_of tried_of fs w ≡ map pair_of (reverse fs) ++ w
  unwinds [] w = refl
  unwinds (f ∷ fs) w =
      unwinds fs (pair_of f ∷ w)
      ∙ sym (ap (λ x. map pair_of x ++ w) (reverse-first f fs) ∙ ap (λ x. x ++ w) (map-append pair_of (reverse fs) (f ∷ []))
      ∙ append_assoc (map pair_of (reverse fs)) (pair_of f ∷ []) w)

  pub arrives_on : (f : Frame) (fs : List Frame) (place position : ℕ) →
      slice_get (W (pair_of f)) f.tried ≡ Some (place, position) → ¬ IsIn (place, position) (pair_of f ∷ map pair_of fs) →
      Ends only places (place, position) → IsWalking (f ∷ fs) →
      IsFirstWalk W (Ends only places) [] ((0, start) ∷ []) (map pair_of (reverse (f ∷ fs)) ++ (place, position) ∷ [])
  arrives_on f fs place position e new ends w =
      subst (λ x. IsFirstWalk W (Ends only places) [] ((0, start) ∷ []) x) (unwinds (f ∷ fs) ((place, position) ∷ []))
      (arrives_at W (Ends only places) (0, start) Frame pair_of tried_of same_pair ends_last f fs (place, position) (rest_of f)
      (moved f fs (place, position) e w) ends new)

  pub gives_up : IsWalking [] → HasNoWalk W (Ends only places) [] ((0, start) ∷ [])
  gives_up w = w.awaits.none (λ v. no_ways W (Ends only places))

  apart_of : (fs : List Frame) (cur : List Pair) → Awaits W (Ends only places) (0, start) Frame pair_of tried_of fs cur → AreApart (map pair_of fs)
  apart_of [] cur a = tt
  apart_of (f ∷ fs) cur a = (a.1, apart_of fs _ a.3)

  pub length_of_walk : (fs : List Frame) → IsWalking fs → length fs ≤ length places * (hi + 1)
  length_of_walk fs w =
      let e : length (map pair_of fs) ≡ length fs = simp length-map in
      let h = length_below (length places) (suc hi) (map pair_of fs) w.below (apart_of fs _ w.awaits) in
      rw add-one (rw e at h)

  -- the ways that are untried
  abbrev pub rem : Frame → ℕ
  rem f = length (W (pair_of f)) - f.tried

  -- the steps that are left at most
  abbrev pub work : List Frame → ℕ
  work fs = steps_left 2 (map rem fs) (length places * (hi + 1) - length fs)

  one_less : (r n k : ℕ) → suc n ≤ r → r - n ≡ suc (r - suc n)
  one_less r n k h = omega arith

  pub back_falls : (f : Frame) (fs : List Frame) → IsWalking (f ∷ fs) → work fs < work (f ∷ fs)
  back_falls f fs w =
      let long = length_of_walk (f ∷ fs) w in
      let e : length places * (hi + 1) - length fs ≡ suc (length places * (hi + 1) - suc (length fs)) = omega (arith, long) in
      rw e (falls_back 2 (rem f) (map rem fs) (length places * (hi + 1) - suc (length fs)))

  one_way_less : (f : Frame) (n : Pair) → slice_get (W (pair_of f)) f.tried ≡ Some n → rem f ≡ suc (rem (again f))
  one_way_less f n e = let h = slice_get_within (W (pair_of f)) f.tried n e in omega (arith, h)

  pub over_falls : (f : Frame) (fs : List Frame) (n : Pair) → slice_get (W (pair_of f)) f.tried ≡ Some n →
      work (again f ∷ fs) < work (f ∷ fs)
  over_falls f fs n e =
      let k = length places * (hi + 1) - suc (length fs) in
      subst (λ r. steps_left 2 (rem (again f) ∷ map rem fs) k < steps_left 2 (r ∷ map rem fs) k) (sym (one_way_less f n e))
      (falls_skipping 2 (rem (again f)) (map rem fs) k)

  pub on_falls : (f g : Frame) (fs : List Frame) (n : Pair) → slice_get (W (pair_of f)) f.tried ≡ Some n →
      IsWalking (g ∷ again f ∷ fs) → rem g ≤ 2 → work (g ∷ again f ∷ fs) < work (f ∷ fs)
  on_falls f g fs n e w few =
      let long = length_of_walk (g ∷ again f ∷ fs) w in
      let k = length places * (hi + 1) - suc (suc (length fs)) in
      let d : length places * (hi + 1) - suc (length fs) ≡ suc k = omega (arith, long) in
      subst (λ j. steps_left 2 (rem g ∷ rem (again f) ∷ map rem fs) k < steps_left 2 (rem f ∷ map rem fs) j) (sym d)
      (subst (λ r. steps_left 2 (rem g ∷ rem (again f) ∷ map rem fs) k < steps_left 2 (r ∷ map rem fs) (suc k)) (sym (one_way_less f n e))
      (falls_on 2 (rem (again f)) (rem g) (map rem fs) k few))

at_each : (P : Place → Type 0) → P (choice []) → ((q : code.Place) → P (place_of q)) → (xs : List code.Place) (p : ℕ) →
    P (slice_index_or (map place_of xs) p (choice []))
at_each P none each [] p = none
at_each P none each (x ∷ xs) zero = each x
at_each P none each (x ∷ xs) (suc p) = at_each P none each xs p

few_if : (b : Bool) (w : Way) (i : ℕ) → length (map (pair_at i) (if b then w ∷ [] else [])) ≤ 2
few_if true w i = omega arith
few_if false w i = omega arith

few_byte : (rs : List (ℕ × ℕ)) (n i : ℕ) (bytes : List ℕ) →
    length (map (pair_at i) (over_byte (λ b. if in_ranges rs b then reads 1 n ∷ [] else []) bytes)) ≤ 2
few_byte rs n i [] = omega arith
few_byte rs n i (b ∷ bs) = few_if (in_ranges rs b) (reads 1 n) i

few_scalar : (rs : List (ℕ × ℕ)) (n i : ℕ) (o : Option (ℕ × ℕ)) → length (map (pair_at i) (over_scalar rs n o)) ≤ 2
few_scalar rs n i None = omega arith
few_scalar rs n i (Some s) = few_if (in_ranges rs s.0) (reads s.1 n) i

few_of : (test : Look → Bool) (bytes : List ℕ) (i : ℕ) (q : code.Place) → length (map (pair_at i) (ways_out test bytes (place_of q))) ≤ 2
few_of test bytes i (code_variants.Choice a b) = omega arith
few_of test bytes i (code_variants.Pass n) = omega arith
few_of test bytes i code_variants.Dead = omega arith
few_of test bytes i (code_variants.Byte b n) = few_byte ((b, b) ∷ []) n i bytes
few_of test bytes i (code_variants.Bytes rs n) = few_byte (map byte_range rs.items) n i bytes
few_of test bytes i (code_variants.Scalar rs n) = few_scalar (map char_range rs.items) n i (scalar_at bytes)
few_of test bytes i (code_variants.Guard l n) = few_if (test l) (stays n) i
few_of test bytes i (code_variants.Slot s n) = omega arith
few_of test bytes i (code_variants.Accept p) = omega arith

-- a place in code has at most two ways out
pub few_ways : (xs : List code.Place) (t : Text) (hi : ℕ) (n : Pair) → length (ways (map place_of xs) t hi n) ≤ 2
few_ways xs t hi n =
    at_each (λ q. length (map (pair_at n.1) (ways_out (λ l. holds t l n.1) (ahead t hi n.1) q)) ≤ 2) (omega arith)
    (few_of (λ l. holds t l n.1) (ahead t hi n.1) n.1) xs n.0

pub on_top : (items rest : List Frame) (f : Frame) → items ≡ rest ++ f ∷ [] → reverse items ≡ f ∷ reverse rest
on_top items rest f e = ap reverse e ∙ reverse-push rest f

pub empty_of_length : (fs : List Frame) → length fs ≡ 0 → fs ≡ []
empty_of_length [] h = refl
empty_of_length (f ∷ fs) h = absurd (omega arith)

pub walk_of_frames : (xs : List Frame) (f : Frame) (p q : ℕ) (before : Option ℕ) →
    map pair_of (reverse (f ∷ reverse xs)) ++ (p, q) ∷ [] ≡ map pair_of ((xs ++ again f ∷ []) ++ fresh_frame p q before ∷ [])
walk_of_frames xs f p q before =
    let e : reverse (f ∷ reverse xs) ≡ xs ++ f ∷ [] = reverse-first f (reverse xs) ∙ ap (λ y. y ++ f ∷ []) (reverse-reverse xs) in
    ap (λ y. map pair_of y ++ (p, q) ∷ []) e
    ∙ ap (λ y. y ++ (p, q) ∷ []) (map-append pair_of xs (f ∷ []))
    ∙ sym (map-append pair_of (xs ++ again f ∷ []) (fresh_frame p q before ∷ [])
    ∙ ap (λ y. y ++ (p, q) ∷ []) (map-append pair_of xs (again f ∷ [])))

-- where a walk of frames ends
pub last_of_frames : (fs : List Frame) (f : Frame) → slice_get fs (length fs - 1) ≡ Some f → pair_of f ≡ last_of (map pair_of fs)
last_of_frames [] f e = absurd (none-some f e)
last_of_frames (g ∷ []) f e = ap pair_of (sym (same_Some g f e))
last_of_frames (g ∷ h ∷ fs) f e = last_of_frames (h ∷ fs) f (let n : length (g ∷ h ∷ fs) - 1 ≡ suc (length (h ∷ fs) - 1) = omega arith in rw n at e)

-- the way out in the text of an input is that in the text where the search began
pub same_way : (places : List Place) (s t : Searched) (terminator hi : ℕ) (n : Pair) (k : ℕ) (o : Option Pair) → Keeps s t →
    o ≡ slice_get (ways places (text_of terminator t) hi n) k → slice_get (ways places (text_of terminator s) hi n) k ≡ o
same_way places s t terminator hi n k o keeps e =
    ap (λ (x : Text). slice_get (ways places x hi n) k) (sym (same_text s t terminator keeps)) ∙ sym e

-- the uppermost frame is the last of the stack
pub top_walking : (places : List Place) (t : Text) (hi start : ℕ) (only : Option ℕ) (items rest : List Frame) (f : Frame) → items ≡ rest ++ f ∷ [] →
    IsWalking places t hi start only (reverse items) → IsWalking places t hi start only (f ∷ reverse rest)
top_walking places t hi start only items rest f e w = subst (λ fs. IsWalking places t hi start only fs) (on_top items rest f e) w
