-- The ways at a position of a text are those that the bytes on its two sides give.
use Rattle.std.proofs.Common.{◌≡◌, ℕ, zero, suc, ◌+◌, ◌-◌, ◌<◌, ◌≤◌, ◌⊎◌, List, [], ◌∷◌, ◌++◌, map, length, take, drop, Option, Some, None, Bool, true, false, IsTrue, nat_le, ◌&&◌, if◌then◌else◌, slice_get, slice_range, slice_index, inl, inr, sym, subst, ap, ap₂, ◌∙◌, refl, arith}
use Rattle.std.specs.List.{AllByRecursion}
use Rattle.std.proofs.lemmas.Option.{none-some, same_Some}
use Rattle.rc_walks.specs.Walks.{Pair, IsIn}
use Rattle.rc_text.proofs.Ranges.{slice_range-add_one}
use Rattle.rc_pattern.specs.declared.hir.Look.{Look}
use Rattle.rc_program.specs.Text.{Text, holds, ahead, before_at, after_at, behind, beyond}
use Rattle.rc_program.specs.Looks.{Side, side_before, side_after}
use Rattle.rc_program.specs.Program.{Place, choice, byte, branch, scalar, guard, slot, accept, Way, stays, reads, in_ranges, branch_ways, ways_out, pair_at, place_at, ways, is_match_place}
use Rattle.rc_program.proofs.WayLemmas.{in_map, no_way_from}
use Rattle.rc_utf8.specs.Laws.{IsBytePlace}
use Rattle.rc_determinize.specs.Steps.{still, IsByBytes, ahead_of, out_by}
use Rattle.rc_determinize.specs.declared.sides.Asked.{Asked}
use Rattle.rc_determinize.specs.declared.sides.Seen.{Seen}
use Rattle.rc_determinize.specs.declared.sides.Sides.{Sides}
use Rattle.rc_determinize.specs.States.{Setting, IsInside, sides_ahead, sides_behind}
use Rattle.rc_determinize.specs.Sides.{seen_by, holds_by, byte_of, HasLook, told, told_side, sides_of, sides_near, Covers, IsReadable}
use Rattle.rc_determinize.proofs.SidesLemmas.{holds_law, asked_enough, told_byte, plain_after, plain_before, same_ways_out, one_byte, still_are}

pub get_some : (xs : List ℕ) (k : ℕ) → k < length xs → (x : ℕ) × (slice_get xs k ≡ Some x)
get_some [] k h = absurd (omega (arith, h))
get_some (x ∷ xs) zero h = (x, refl)
get_some (x ∷ xs) (suc k) h = get_some xs k (omega (arith, h))

cons_of : (xs : List ℕ) (k n b : ℕ) → slice_get xs k ≡ Some b → (rest : List ℕ) × (take (suc n) (drop k xs) ≡ b ∷ rest)
cons_of [] zero n b e = absurd (none-some b e)
cons_of [] (suc k) n b e = absurd (none-some b e)
cons_of (x ∷ xs) zero n b e = (take n xs, ap (λ y. y ∷ take n xs) (same_Some x b e))
cons_of (x ∷ xs) (suc k) n b e = cons_of xs k n b e

pub begins_with : (xs : List ℕ) (i p b : ℕ) → i < p → slice_get xs i ≡ Some b → (rest : List ℕ) × (slice_range xs i p ≡ b ∷ rest)
begins_with xs i p b lt e =
    let r = cons_of xs i (p - i - 1) b e in
    let e : suc (p - i - 1) ≡ p - i = omega (arith, lt) in
    (r.0, subst (λ n. take n (drop i xs) ≡ b ∷ r.0) e r.1)

pub empty_range : (xs : List ℕ) (i : ℕ) → slice_range xs i i ≡ []
empty_range xs i = let e : 0 ≡ i - i = omega arith in subst (λ n. take n (drop i xs) ≡ []) e refl

last_added : (x : ℕ) (xs : List ℕ) (b : ℕ) → slice_index (x ∷ (xs ++ b ∷ [])) (length (xs ++ b ∷ [])) ≡ b
last_added x [] b = refl
last_added x (y ∷ xs) b = last_added y xs b

added_last : (xs : List ℕ) (b : ℕ) → byte_of (side_before (xs ++ b ∷ [])) ≡ Some b
added_last [] b = refl
added_last (x ∷ xs) b = ap (λ y. Some y) (last_added x xs b)

-- the byte at i stands behind i + 1, and ahead of i
pub byte_behind : (t : Text) (i b : ℕ) → t.slice_start ≤ i → slice_get t.content i ≡ Some b → byte_of (before_at t (i + 1)) ≡ Some b
byte_behind t i b low e =
    ap (λ xs. byte_of (side_before xs)) (slice_range-add_one t.content t.slice_start i b low e) ∙ added_last (behind t i) b

pub byte_ahead : (t : Text) (i b : ℕ) → i < t.slice_end → slice_get t.content i ≡ Some b → byte_of (after_at t i) ≡ Some b
byte_ahead t i b lt e = ap (λ xs. byte_of (side_after xs)) (begins_with t.content i t.slice_end b lt e).1

-- at the slice's bounds nothing stands
pub none_behind : (t : Text) → byte_of (before_at t t.slice_start) ≡ None
none_behind t = ap (λ xs. byte_of (side_before xs)) (empty_range t.content t.slice_start)

pub none_ahead : (t : Text) → byte_of (after_at t t.slice_end) ≡ None
none_ahead t = ap (λ xs. byte_of (side_after xs)) (empty_range t.content t.slice_end)

below : (needs : Asked) (o : Option ℕ) → IsReadable needs o → IsTrue needs.unicode → (b : ℕ) → o ≡ Some b → b < 128
below needs o r u b e = subst (λ (x : Option ℕ). IsReadable needs x) e r u

module _ (places : List Place) (needs : Asked) (by_bytes : IsByBytes places) (covers : Covers needs places) (t : Text) (i : ℕ) where
  abbrev test_here : Look → Bool
  test_here = holds_by (told_side needs t.terminator (before_at t i)) (told_side needs t.terminator (after_at t i))

  -- the ways out, by what is told of both sides
  abbrev pub out_here : ℕ → List Way
  out_here = out_by places test_here (byte_of (after_at t i))

  pub held : (q : ℕ) (l : Look) → HasLook l (place_at places q) → holds t l i ≡ test_here l
  held q l h =
      sym (holds_law t.terminator (before_at t i) (after_at t i) l)
      ∙ sym (asked_enough needs (seen_by t.terminator (before_at t i)) (seen_by t.terminator (after_at t i)) l (covers.facts q l h) (covers.unicode q l h))

  same_test : (q : ℕ) (bytes : List ℕ) → ways_out (λ l. holds t l i) bytes (place_at places q) ≡ ways_out test_here bytes (place_at places q)
  same_test q bytes = same_ways_out (λ l. holds t l i) _ bytes (place_at places q) (held q)

  -- below the bound
  pub same_below : (hi : ℕ) → i < hi → hi ≤ t.slice_end → t.slice_end ≤ length t.content →
      (q : ℕ) → ways places t hi (q, i) ≡ map (pair_at i) (out_here q)
  same_below hi lt inside bounded q =
      let some = get_some t.content i (omega (arith, lt, inside, bounded)) in
      let first = begins_with t.content i hi some.0 lt some.1 in
      let here = byte_ahead t i some.0 (omega (arith, lt, inside)) some.1 in
      ap (λ ws. map (pair_at i) ws)
      (same_test q (ahead t hi i)
      ∙ ap (λ bs. ways_out test_here bs (place_at places q)) first.1
      ∙ one_byte _ some.0 first.0 (place_at places q) (by_bytes q)
      ∙ ap (λ o. ways_out test_here (ahead_of o) (place_at places q)) (sym here))

  -- where the byte is beyond the bound
  pub same_at_end : (q : ℕ) → ways places t i (q, i) ≡ map (pair_at i) (still (out_here q))
  same_at_end q =
      ap (λ ws. map (pair_at i) ws)
      (same_test q (ahead t i i)
      ∙ ap (λ bs. ways_out test_here bs (place_at places q)) (empty_range t.content i)
      ∙ still_are _ (byte_of (after_at t i)) (place_at places q) (by_bytes q))

-- BYTES ALONE

pub told_before : (needs : Asked) (terminator : ℕ) (t : Text) (i : ℕ) → IsReadable needs (byte_of (before_at t i)) →
    told needs terminator (byte_of (before_at t i)) ≡ told_side needs terminator (before_at t i)
told_before needs terminator t i r = sym (told_byte needs terminator (before_at t i) (λ u. plain_before (behind t i) (below needs _ r u)))

pub told_after : (needs : Asked) (terminator : ℕ) (t : Text) (i : ℕ) → IsReadable needs (byte_of (after_at t i)) →
    told needs terminator (byte_of (after_at t i)) ≡ told_side needs terminator (after_at t i)
told_after needs terminator t i r = sym (told_byte needs terminator (after_at t i) (λ u. plain_after (beyond t i) (below needs _ r u)))

-- a byte that may be read tells all of the side on which it stands
pub near_told : (needs : Asked) (terminator : ℕ) (near : Side) (far : Seen) → told needs terminator (byte_of near) ≡ told_side needs terminator near →
    told needs terminator (byte_of near) ≡ far → sides_of needs terminator (byte_of near) ≡ sides_near needs terminator near far
near_told needs terminator near far here there = ap₂ (λ x y. told_sides (byte_of near) x y) here there
  where
    told_sides : Option ℕ → Seen → Seen → Sides
    told_sides b x y = record { byte = b; near = x; far = y }

-- and so of both
module _ (g : Setting) (t : Text) (hi i : ℕ) (lt : i < hi) (inside : IsInside t i hi) where
  same_byte : byte_of (after_at t i) ≡ byte_of (before_at t (i + 1))
  same_byte =
      let high = inside.high in let bounded = inside.bounded in
      let byte = get_some t.content i (omega (arith, lt, high, bounded)) in
      byte_ahead t i byte.0 (omega (arith, lt, high)) byte.1 ∙ sym (byte_behind t i byte.0 inside.low byte.1)

  pub ahead_told : IsReadable g.needs (byte_of (after_at t i)) → sides_of g.needs g.terminator (byte_of (after_at t i)) ≡ sides_ahead g t i
  ahead_told r =
      near_told g.needs g.terminator (after_at t i) _ (told_after g.needs g.terminator t i r)
      (ap (λ o. told g.needs g.terminator o) same_byte
      ∙ told_before g.needs g.terminator t (i + 1) (subst (λ o. IsReadable g.needs o) same_byte r))

  pub behind_told : IsReadable g.needs (byte_of (before_at t (i + 1))) → sides_of g.needs g.terminator (byte_of (before_at t (i + 1))) ≡ sides_behind g t i
  behind_told r =
      near_told g.needs g.terminator (before_at t (i + 1)) _ (told_before g.needs g.terminator t (i + 1) r)
      (ap (λ o. told g.needs g.terminator o) (sym same_byte)
      ∙ told_after g.needs g.terminator t i (subst (λ o. IsReadable g.needs o) (sym same_byte) r))

-- a way reads one byte at most

abbrev IsShort : Way → Type 0
IsShort (stays q) = Unit {0}
IsShort (reads n q) = n ≡ 1

short_choice : (ns : List ℕ) → AllByRecursion IsShort (map stays ns)
short_choice [] = tt
short_choice (n ∷ ns) = (tt, short_choice ns)

short_if : (v : Bool) (w : Way) (ws : List Way) → IsShort w → AllByRecursion IsShort ws → AllByRecursion IsShort (if v then w ∷ ws else ws)
short_if true w ws h k = (h, k)
short_if false w ws h k = k

short_branch : (b : ℕ) (ts : List ((ℕ × ℕ) × ℕ)) → AllByRecursion IsShort (branch_ways b ts)
short_branch b [] = tt
short_branch b (t ∷ ts) = short_if (nat_le t.0.0 b && nat_le b t.0.1) (reads 1 t.1) (branch_ways b ts) refl (short_branch b ts)

short_ways : (test : Look → Bool) (bytes : List ℕ) (place : Place) → IsBytePlace place → AllByRecursion IsShort (ways_out test bytes place)
short_ways test bytes (choice ns) h = short_choice ns
short_ways test [] (byte rs n) h = tt
short_ways test (b ∷ bs) (byte rs n) h = short_if (in_ranges rs b) (reads 1 n) [] refl tt
short_ways test [] (branch ts) h = tt
short_ways test (b ∷ bs) (branch ts) h = short_branch b ts
short_ways test bytes (scalar rs n) h = absurd h
short_ways test bytes (guard l n) h = short_if (test l) (stays n) [] tt tt
short_ways test bytes (slot s n) h = (tt, tt)
short_ways test bytes (accept p) h = tt

leads_near : (i : ℕ) (w : Way) → IsShort w → ((pair_at i w).1 ≡ i) ⊎ ((pair_at i w).1 ≡ i + 1)
leads_near i (stays q) h = inl refl
leads_near i (reads n q) h = inr (ap (λ k. i + k) h)

-- so it leads to the same position or to the next
pub near : (places : List Place) (t : Text) (hi : ℕ) → IsByBytes places → (n m : Pair) → IsIn m (ways places t hi n) →
    (m.1 ≡ n.1) ⊎ (m.1 ≡ n.1 + 1)
near places t hi by_bytes n m h =
    let r = in_map IsShort (ways_out (λ l. holds t l n.1) (ahead t hi n.1) (place_at places n.0)) n.1 m
    (short_ways (λ l. holds t l n.1) (ahead t hi n.1) (place_at places n.0) (by_bytes n.0)) h in
    subst (λ (k : Pair). (k.1 ≡ n.1) ⊎ (k.1 ≡ n.1 + 1)) r.2 (leads_near n.1 r.0 r.1)

-- a match place has no way out
pub last : (places : List Place) (t : Text) (hi : ℕ) (only : Option ℕ) (n m : Pair) → IsTrue (is_match_place only (place_at places n.0)) →
    ¬ IsIn m (ways places t hi n)
last places t hi only n m e = no_way_from only (λ l. holds t l n.1) (ahead t hi n.1) (place_at places n.0) n.1 m e
