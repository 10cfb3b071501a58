-- Where bytes aren't read.
use Rattle.std.proofs.Common.{◌≡◌, ℕ, zero, suc, ◌+◌, ◌-◌, ◌*◌, ◌<◌, ◌≤◌, ◌⊎◌, Bool, true, false, true≢false, IsTrue, List, [], ◌∷◌, length, take, drop, Option, Some, None, inl, inr, ⊎_elim, sym, subst, ap, ◌∙◌, refl, arith, eq-eqb}
use Rattle.std.specs.List.{AllByRecursion}
use Rattle.std.proofs.lemmas.Bool.{cases_lt, cases_eq, cases_Bool, or_left, or_right}
use Rattle.rc_pattern.specs.declared.hir.Look.{Look}
use Rattle.rc_pattern.specs.Properties.{look_number, has_look}
use Rattle.rc_pattern.specs.Re.{Re, Range, empty, literal, byte_in, char_in, look, repeat, capture, cat, alt, none}
use Rattle.rc_pattern.specs.WellFormed.{group_count}
use Rattle.rc_text.specs.declared.types.MatchKind.{MatchKind}
use Rattle.rc_text.specs.declared.types.Anchored.{Anchored}
use Rattle.rc_program.specs.Program.{Place, choice, byte, branch, scalar, guard, slot, accept, place_at, Part, one, pass, then_part, either, optional, plus, body_or_out, copies, up_to, at_least, repeated, bytes_in_order, literal_part, part, pattern_part, choice_of_patterns, program}
use Rattle.rc_program.specs.Answer.{Search}
use Rattle.rc_program.specs.Looks.{side_before}
use Rattle.rc_program.specs.Text.{Text}
use Rattle.rc_program.proofs.PlaceLemmas.{each_append, each_weaker}
use Rattle.rc_utf8.specs.Bytes.{block, byte_place, byte_places, blocks, bytes_of}
use Rattle.rc_utf8.proofs.SizeLemmas.{IsBranching, blocks_branching}
use Rattle.rc_determinize.specs.declared.sides.Asked.{Asked}
use Rattle.rc_determinize.specs.Sides.{HasLook, is_unicode, Covers, AreAsked, byte_of}
use Rattle.rc_determinize.specs.States.{State, IsInside}
use Rattle.rc_determinize.proofs.TextLemmas.{get_some, byte_ahead, byte_behind}
use Rattle.rc_dfa.specs.Machine.{Alphabet, bytes, symbols, Machine}
use Rattle.rc_dfa.specs.Runs.{RunEnd, met_last, stopped_at, idle_at, ahead_at, behind_at, MayRead}
use Rattle.rc_dfa.specs.Runs as runs
use Rattle.rc_dfa.proofs.StartLemmas.{stop_no_met}
use Rattle.rc_dfa.proofs.MetLemmas.{end_met}
use Rattle.rc_dfa.proofs.StopLemmas.{reads_all_down}
use Rattle.rc_dfa_search.specs.Machines.{IsCase}
use Rattle.rc_dfa_search.specs.Faults.{SpeaksOfUnicode, speaks_at, speaks_of_unicode}
use Rattle.rc_dfa_search.specs.Laws.{UnreadLaw}

-- ASSERTIONS

-- What follows from each assertion at the place that speaks of Unicode's words.
abbrev Tells : Type 0 → Place → Type 0
Tells Goal place = (l : Look) → HasLook l place → IsTrue (is_unicode l) → Goal

module _ (Goal : Type 0) where
  abbrev Each : Part → Type 0
  Each a = (slots start next : ℕ) → AllByRecursion (Tells Goal) (a.places slots start next)

  body_or_out_each : (greedy : Bool) (body out : ℕ) → Tells Goal (body_or_out greedy body out)
  body_or_out_each greedy body out l h u = absurd h

  then_each : (a b : Part) → Each a → Each b → Each (then_part a b)
  then_each a b x y slots start next =
      each_append (Tells Goal) (a.places slots start (start + a.size)) (b.places slots (start + a.size) next)
      (x slots start (start + a.size)) (y slots (start + a.size) next)

  either_each : (a b : Part) → Each a → Each b → Each (either a b)
  either_each a b x y slots start next = (
    λ l h u. absurd h,
    each_append (Tells Goal) (a.places slots (start + 1) next) (b.places slots (start + 1 + a.size) next)
        (x slots (start + 1) next) (y slots (start + 1 + a.size) next),
  )

  optional_each : (greedy : Bool) (a : Part) → Each a → Each (optional greedy a)
  optional_each greedy a x slots start next = (body_or_out_each greedy (start + 1) next, x slots (start + 1) next)

  plus_each : (greedy : Bool) (a : Part) → Each a → Each (plus greedy a)
  plus_each greedy a x slots start next =
      each_append (Tells Goal) (a.places slots start (start + a.size)) (body_or_out greedy start next ∷ [])
      (x slots start (start + a.size)) (body_or_out_each greedy start next, tt)

  copies_each : (n : ℕ) (a b : Part) → Each a → Each b → Each (copies n a b)
  copies_each zero a b x y = y
  copies_each (suc n) a b x y = then_each a (copies n a b) x (copies_each n a b x y)

  pass_each : Each pass
  pass_each slots start next = (λ l h u. absurd h, tt)

  up_to_each : (greedy : Bool) (n : ℕ) (a : Part) → Each a → Each (up_to greedy n a)
  up_to_each greedy zero a x = pass_each
  up_to_each greedy (suc n) a x = optional_each greedy (then_part a (up_to greedy n a)) (then_each a (up_to greedy n a) x (up_to_each greedy n a x))

  at_least_each : (min : ℕ) (greedy : Bool) (a : Part) → Each a → Each (at_least min greedy a)
  at_least_each zero greedy a x = optional_each greedy (plus greedy a) (plus_each greedy a x)
  at_least_each (suc n) greedy a x = copies_each n a (plus greedy a) x (plus_each greedy a x)

  repeated_each : (min : ℕ) (max : Option ℕ) (greedy : Bool) (a : Part) → Each a → Each (repeated min max greedy a)
  repeated_each min None greedy a x = at_least_each min greedy a x
  repeated_each min (Some max) greedy a x = copies_each min a (up_to greedy (max - min) a) x (up_to_each greedy (max - min) a x)

  byte_each : (rs : List Range) → Each (one (λ s. byte rs))
  byte_each rs slots start next = (λ l h u. absurd h, tt)

  bytes_each : (b : ℕ) (bs : List ℕ) → Each (bytes_in_order b bs)
  bytes_each b [] = byte_each ((b, b) ∷ [])
  bytes_each b (c ∷ bs) = then_each (one (λ s. byte ((b, b) ∷ []))) (bytes_in_order c bs) (byte_each ((b, b) ∷ [])) (bytes_each c bs)

  literal_each : (bs : List ℕ) → Each (literal_part bs)
  literal_each [] = pass_each
  literal_each (b ∷ bs) = bytes_each b bs

  -- the assertions in the part of a pattern are the pattern's
  part_each : (h : Re) → ((l : Look) → IsTrue (has_look h l) → IsTrue (is_unicode l) → Goal) → Each (part h)
  part_each empty f = pass_each
  part_each (literal bs) f = literal_each bs
  part_each (byte_in rs) f = byte_each rs
  part_each (char_in rs) f = λ slots start next. (λ l h u. absurd h, tt)
  part_each (look k) f = λ slots start next. (
    λ l h u. f l (eq-eqb (look_number k) (look_number l) (ap look_number h)) u,
    tt,
  )
  part_each (repeat min max greedy a) f = repeated_each min max greedy (part a) (part_each a f)
  part_each (capture n name a) f =
      then_each (one (λ s. slot (s + 2 * (n - 1)))) (then_part (part a) (one (λ s. slot (s + 2 * (n - 1) + 1))))
      (λ slots start next. (λ l h u. absurd h, tt))
      (then_each (part a) (one (λ s. slot (s + 2 * (n - 1) + 1))) (part_each a f) (λ slots start next. (λ l h u. absurd h, tt)))
  part_each (cat a rest) f =
      then_each (part a) (part rest) (part_each a (λ l h u. f l (or_left (has_look a l) (has_look rest l) h) u))
      (part_each rest (λ l h u. f l (or_right (has_look a l) (has_look rest l) h) u))
  part_each (alt a rest) f =
      either_each (part a) (part rest) (part_each a (λ l h u. f l (or_left (has_look a l) (has_look rest l) h) u))
      (part_each rest (λ l h u. f l (or_right (has_look a l) (has_look rest l) h) u))
  part_each none f = λ slots start next. (λ l h u. absurd h, tt)

  pattern_each : (p s : ℕ) (h : Re) → Each (part h) → Each (pattern_part p s h)
  pattern_each p s h x slots start next =
      each_append (Tells Goal) ((part h).places s start (start + (part h).size)) (accept p ∷ [])
      (x s start (start + (part h).size)) (λ l h u. absurd h, tt)

  -- those of the program are its patterns'
  choice_each : (p s : ℕ) (hs : List Re) → (SpeaksOfUnicode hs → Goal) → Each (choice_of_patterns p s hs)
  choice_each p s [] f slots start next = (λ l h u. absurd h, tt)
  choice_each p s (h ∷ hs) f slots start next =
      either_each (pattern_part p s h) (choice_of_patterns (p + 1) (s + 2 * group_count h) hs)
      (pattern_each p s h (part_each h (λ l t u. f (inl (l, u, t)))))
      (choice_each (p + 1) (s + 2 * group_count h) hs (λ t. f (inr t))) slots start next

  -- those of the byte program are the program's
  byte_place_each : (b : ℕ) (q : Place) → Tells Goal q → Tells Goal (byte_place b q)
  byte_place_each b (choice ns) t = t
  byte_place_each b (byte rs n) t = t
  byte_place_each b (branch ts) t = t
  byte_place_each b (scalar rs n) t = λ l h u. absurd h
  byte_place_each b (guard l n) t = t
  byte_place_each b (slot k n) t = t
  byte_place_each b (accept p) t = t

  byte_places_each : (b : ℕ) (qs : List Place) → AllByRecursion (Tells Goal) qs → AllByRecursion (Tells Goal) (byte_places b qs)
  byte_places_each b [] each = tt
  byte_places_each b (q ∷ qs) each = (byte_place_each b q each.0, byte_places_each (b + length (block b q)) qs each.1)

  branch_tells : (q : Place) → IsBranching q → Tells Goal q
  branch_tells q h = subst (Tells Goal) (sym h.1) (λ l h u. absurd h)

  bytes_of_each : (qs : List Place) → AllByRecursion (Tells Goal) qs → AllByRecursion (Tells Goal) (bytes_of qs)
  bytes_of_each qs each =
      each_append (Tells Goal) (byte_places (length qs) qs) (blocks (length qs) qs) (byte_places_each (length qs) qs each)
      (each_weaker IsBranching (Tells Goal) branch_tells (blocks (length qs) qs) (blocks_branching (length qs) qs))

  -- either it follows, or no place speaks of Unicode's words
  or_silent : (q : Place) → Tells Goal q → Goal ⊎ ((l : Look) → HasLook l q → ¬ IsTrue (is_unicode l))
  or_silent (choice ns) t = inr (λ l h u. h)
  or_silent (byte rs n) t = inr (λ l h u. h)
  or_silent (branch ts) t = inr (λ l h u. h)
  or_silent (scalar rs n) t = inr (λ l h u. h)
  or_silent (guard k n) t =
      ⊎_elim (λ u. inl (t k refl u)) (λ f. inr (λ l h u. true≢false (sym u ∙ ap is_unicode (sym h) ∙ f))) (cases_Bool (is_unicode k))
  or_silent (slot k n) t = inr (λ l h u. h)
  or_silent (accept p) t = inr (λ l h u. h)

  all_silent : (qs : List Place) → AllByRecursion (Tells Goal) qs → Goal ⊎ ((q : ℕ) (l : Look) → HasLook l (place_at qs q) → ¬ IsTrue (is_unicode l))
  all_silent [] each = inr nowhere
    where
      nowhere : (q : ℕ) (l : Look) → HasLook l (place_at [] q) → ¬ IsTrue (is_unicode l)
      nowhere zero l h u = h
      nowhere (suc q) l h u = h
  all_silent (p ∷ ps) each =
      ⊎_elim (λ g. inl g) (λ here. ⊎_elim (λ g. inl g) (λ rest. inr (λ q. both q here rest)) (all_silent ps each.1)) (or_silent p each.0)
    where
      both : (q : ℕ) → ((l : Look) → HasLook l p → ¬ IsTrue (is_unicode l)) → ((q : ℕ) (l : Look) → HasLook l (place_at ps q) → ¬ IsTrue (is_unicode l)) →
          (l : Look) → HasLook l (place_at (p ∷ ps) q) → ¬ IsTrue (is_unicode l)
      both zero here rest l h = here l h
      both (suc q) here rest l h = rest q l h

-- what follows from each assertion of the program that speaks of Unicode's words, follows where they are asked for
asked_for : (Goal : Type 0) (qs : List Place) (needs : Asked) → AreAsked needs (bytes_of qs) → needs.unicode ≡ true → AllByRecursion (Tells Goal) qs → Goal
asked_for Goal qs needs are is each =
    ⊎_elim (λ g. g)
    (λ silent. let c = are.covers in
    let less : Covers (record needs { unicode = false }) (bytes_of qs) =
    record { facts = c.facts; unicode = λ q l h u. absurd (silent q l h u) } in
    let l = are.least (record needs { unicode = false }) less in
    absurd (true≢false (sym (l.unicode is))))
    (all_silent Goal (bytes_of qs) (bytes_of_each Goal qs each))

-- what asks for Unicode's words, has an assertion that does
needs_unicode : (hs : List Re) (needs : Asked) → AreAsked needs (bytes_of (program hs)) → needs.unicode ≡ true → SpeaksOfUnicode hs
needs_unicode hs needs are is =
    asked_for (SpeaksOfUnicode hs) (program hs) needs are is (choice_each (SpeaksOfUnicode hs) 0 (2 * length hs) hs (λ t. t) 0 0 0)

speaks_here : (q : Place) (l : Look) → HasLook l q → IsTrue (is_unicode l) → IsTrue (speaks_at q)
speaks_here (choice ns) l h u = absurd h
speaks_here (byte rs n) l h u = absurd h
speaks_here (branch ts) l h u = absurd h
speaks_here (scalar rs n) l h u = absurd h
speaks_here (guard k n) l h u = ap is_unicode h ∙ u
speaks_here (slot k n) l h u = absurd h
speaks_here (accept p) l h u = absurd h

each_speaks : (Goal : Type 0) (qs : List Place) → (IsTrue (speaks_of_unicode qs) → Goal) → AllByRecursion (Tells Goal) qs
each_speaks Goal [] f = tt
each_speaks Goal (q ∷ qs) f = (
  λ l h u. f (or_left (speaks_at q) (speaks_of_unicode qs) (speaks_here q l h u)),
  each_speaks Goal qs (λ t. f (or_right (speaks_at q) (speaks_of_unicode qs) t)),
)

-- and it stands at a place of the program
needs_placed : (qs : List Place) (needs : Asked) → AreAsked needs (bytes_of qs) → needs.unicode ≡ true → IsTrue (speaks_of_unicode qs)
needs_placed qs needs are is =
    asked_for (IsTrue (speaks_of_unicode qs)) qs needs are is (each_speaks (IsTrue (speaks_of_unicode qs)) qs (λ t. t))

module _ (hs : List Re) (kind : MatchKind) (m n : Machine) (anchored : Anchored) (s : Search) (c : IsCase hs kind m n anchored s) (is : m.setting.needs.unicode ≡ true) where
  needed : c.machines.needs.unicode ≡ true
  needed = let k = c.machines in sym (ap (λ (x : Machine). x.setting.needs.unicode) k.ahead) ∙ is

  pub patterns_speak : SpeaksOfUnicode hs
  patterns_speak = let k = c.machines in needs_unicode hs k.needs k.are_needs needed

  pub places_speak : IsTrue (speaks_of_unicode s.places)
  places_speak =
      let k = c.machines in
      subst (λ qs. IsTrue (speaks_of_unicode qs)) (sym c.places) (needs_placed (program hs) k.needs k.are_needs needed)

-- BYTES

-- a byte that was read ahead may be read behind
behind_read : (m : Machine) (t : Text) (p : ℕ) → p < t.slice_end → t.slice_end ≤ length t.content → MayRead m (ahead_at t p) → MayRead m (behind_at t (p + 1))
behind_read m t p below bounded may =
    ⊎_elim
    (λ lt. let e : p + 1 - t.slice_start ≡ 0 = omega (arith, lt) in
    subst (λ k. MayRead m (byte_of (side_before (take k (drop t.slice_start t.content))))) (sym e) tt)
    (λ ge. let b = get_some t.content p (omega (arith, below, bounded)) in
    subst (λ o. MayRead m o) (sym (byte_behind t p b.0 ge b.1)) (subst (λ o. MayRead m o) (byte_ahead t p b.0 below b.1) may))
    (cases_lt p t.slice_start)

-- FORWARDS

-- each byte on the way was read
ahead_read : (m : Machine) (t : Text) (hi from : ℕ) (first : State) {i : ℕ} {s : State} {met : Option (ℕ × ℕ)} → runs.RunsOver bytes m t hi from first i s met →
    (y : ℕ) → from ≤ y → y < i → MayRead m (ahead_at t y)
ahead_read m t hi from first runs.begun y low lt = absurd (omega (arith, low, lt))
ahead_read m t hi from first (runs.goes_on i s next r below may step) y low lt =
    ⊎_elim (λ e. subst (λ k. MayRead m (ahead_at t k)) (sym e) may) (λ ne. ahead_read m t hi from first r y low (omega (arith, lt, ne))) (cases_eq y i)

-- Up to the end that was met all is read: ahead of it, and before each position from the first on.
record AreRead (m : Machine) (t : Text) (hi from e : ℕ) : Type 0 where
  within : e ≤ hi
  ahead : MayRead m (ahead_at t e)
  behind : (y : ℕ) → from ≤ y + 1 → y < e → MayRead m (behind_at t (y + 1))

are_read : (m : Machine) (t : Text) (hi from q e : ℕ) (anchored : Anchored) (earliest : Bool) (o : RunEnd) → hi ≤ t.slice_end → t.slice_end ≤ length t.content →
    runs.SearchEndsOver bytes m t hi from anchored earliest o → o ≡ met_last (Some (q, e)) → AreRead m t hi from e
are_read m t hi from q e anchored earliest o high bounded (runs.unread p one h) is = absurd (stop_no_met is)
are_read m t hi from q e anchored earliest o high bounded (runs.ran first may begins ends) is =
    let w = end_met m t hi from first earliest o (q, e) ends is in
    let le = w.within in
    record {
      within = le;
      ahead = w.may;
      behind = λ y low lt.
          ⊎_elim (λ at. let one : from ≡ y + 1 = omega (arith, low, at) in subst (λ k. MayRead m (behind_at t k)) one may)
          (λ ge. behind_read m t y (omega (arith, lt, le, high)) bounded (ahead_read m t hi from first w.run y ge lt))
          (cases_lt y from);
    }

-- BACKWARDS

abbrev has_stopped : RunEnd → Bool
has_stopped (met_last met) = false
has_stopped (stopped_at p) = true
has_stopped (idle_at i) = false

no_stop : {p : ℕ} {x : Option (ℕ × ℕ)} → met_last x ≡ stopped_at p → ⊥
no_stop e = true≢false (sym (ap has_stopped e))

below_end : (m : Machine) (t : Text) (lo end : ℕ) (first : State) {i : ℕ} {s : State} {least : Option (ℕ × ℕ)} → runs.RunsDownOver bytes m t lo end first i s least → i ≤ end
below_end m t lo end first runs.begun = omega arith
below_end m t lo end first (runs.goes_down i s next r le may step) = let below = below_end m t lo end first r in omega (arith, below)

-- a run down over what was read doesn't stop
module _ (m n : Machine) (same : n.setting ≡ m.setting) (t : Text) (hi from end : ℕ) (read : AreRead m t hi from end) where
  may_so : (o : Option ℕ) → MayRead m o → MayRead n o
  may_so o may = subst (λ g. MayRead (record n { setting = g }) o) (sym same) may

  no_end_stop : (first : State) (early : Bool) (o : RunEnd) (p : ℕ) → runs.EndsDownOver bytes n t from end first early o → o ≡ stopped_at p → ⊥
  no_end_stop first early o p (runs.at_bound s next r may step) is = no_stop is
  no_end_stop first early o p (runs.dead i s r d) is = no_stop is
  no_end_stop first early o p (runs.early i s t2 r) is = no_stop is
  no_end_stop first early o p (runs.quit k s r le h) is =
      let below = below_end n t from end first r in h (may_so (behind_at t (k + 1)) (read.behind k le (omega (arith, below))))

  no_search_stop : (back : Anchored) (early : Bool) (o : RunEnd) (p : ℕ) → runs.SearchEndsDownOver bytes n t from end back early o → o ≡ stopped_at p → ⊥
  no_search_stop back early o p (runs.ran first may begins ends) is = no_end_stop first early o p ends is
  no_search_stop back early o p (runs.unread h) is = h (may_so (ahead_at t end) read.ahead)

-- nor does one over symbols
never_stops : (a : Alphabet) (m n : Machine) (s : Search) (from q e p : ℕ) (anchored back : Anchored) (earliest early : Bool) → n.setting ≡ m.setting →
    IsInside s.text s.lo s.hi → runs.SearchEndsOver a m s.text s.hi from anchored earliest (met_last (Some (q, e))) →
    ¬ runs.SearchEndsDownOver a n s.text from e back early (stopped_at p)
never_stops bytes m n s from q e p anchored back earliest early same inside ahead down =
    no_search_stop m n same s.text s.hi from e
    (are_read m s.text s.hi from q e anchored earliest (met_last (Some (q, e))) inside.high inside.bounded ahead refl) back early (stopped_at p) p down refl
never_stops symbols m n s from q e p anchored back earliest early same inside ahead down =
    reads_all_down n s.text from e back early (stopped_at p) p down refl

pub unread_law : UnreadLaw
unread_law = record {
  unicode = patterns_speak;
  placed = places_speak;
  read = λ m n s from q e p anchored back earliest early same alike inside ahead down.
      never_stops m.alphabet m n s from q e p anchored back earliest early same inside ahead
      (subst (λ a. runs.SearchEndsDownOver a n s.text from e back early (stopped_at p)) alike down);
}
