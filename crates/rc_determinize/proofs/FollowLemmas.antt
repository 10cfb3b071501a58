-- The loop of a step forwards: the machine goes on from what is left.
use Rattle.std.proofs.Common.{◌≡◌, ℕ, zero, suc, ◌+◌, ◌-◌, ◌*◌, ◌<◌, ◌≤◌, ◌⊎◌, List, [], ◌∷◌, ◌++◌, map, length, reverse, Option, Some, None, Bool, true, false, true≢false, nat_eq, nat_le, ◌&&◌, if◌then◌else◌, inl, inr, ⊎_elim, sym, subst, ap, ◌∙◌, refl, arith}
use Rattle.std.specs.List.{list_any, AllByRecursion}
use Rattle.std.proofs.lemmas.Bool.{cases_lt, cases_Bool}
use Rattle.std.proofs.lemmas.List.{map-append, reverse-append, reverse-reverse, length-append, length-reverse, length-map}
use Rattle.std.proofs.lemmas.List.Elements.{recursion_from_All}
use Rattle.rc_pattern.specs.declared.hir.Look.{Look}
use Rattle.rc_program.specs.Program.{Place, choice, byte, branch, scalar, guard, slot, accept, place_at, is_match_place, Way, stays, reads, ways_out, in_ranges, branch_ways}
use Rattle.rc_program.specs.Laws.{IsClosed, targets}
use Rattle.rc_pattern.specs.Meaning.{byte_range}
use Rattle.rc_program.proofs.WayLemmas.{past_places}
use Rattle.rc_program.proofs.PlaceLemmas.{ways_out_to, goal_of}
use Rattle.rc_utf8.specs.declared.place.BytePlace as code
use Rattle.rc_utf8.specs.declared.place.BytePlace.TheVariants as code_variants
use Rattle.rc_utf8.specs.Places.{way_of, place_of, places_of}
use Rattle.rc_determinize.specs.Sparse.{Members}
use Rattle.rc_utf8.specs.Laws.{IsBytePlace}
use Rattle.rc_determinize.specs.Steps.{HasPlace, AreBelow, IsStep, ahead_of, out_by}
use Rattle.rc_determinize.specs.States.{is_match}
use Rattle.rc_determinize.specs.Machine.{stay_places, read_places, add_one, add_all, Runs, done, adds, repeats, leaps, matches, opens, Finishes}
use Rattle.rc_determinize.proofs.MachineLemmas.{makes_step, has_parts, has_left, has_right}
use Rattle.rc_determinize.proofs.OpenLemmas.{any_has, has_any, no_stays}

-- ways that read nothing stand before those that read, and there are none of the one kind
abbrev pub IsPlain : List Way → Type 0
IsPlain ws = ((ws ≡ map stays (stay_places ws)) × (read_places ws ≡ [])) ⊎ ((stay_places ws ≡ []) × (ws ≡ map (reads 1) (read_places ws)))

all_stay : (ns : List ℕ) → (map stays ns ≡ map stays (stay_places (map stays ns))) × (read_places (map stays ns) ≡ [])
all_stay [] = (refl, refl)
all_stay (n ∷ ns) = let r = all_stay ns in (ap (λ x. stays n ∷ x) r.0, r.1)

branch_reads : (b : ℕ) (ts : List ((ℕ × ℕ) × ℕ)) → branch_ways b ts ≡ map (reads 1) (read_places (branch_ways b ts))
branch_reads b [] = refl
branch_reads b (t ∷ ts) = both (nat_le t.0.0 b && nat_le b t.0.1) (branch_reads b ts)
  where
    both : (v : Bool) → branch_ways b ts ≡ map (reads 1) (read_places (branch_ways b ts)) →
        (if v then reads 1 t.1 ∷ branch_ways b ts else branch_ways b ts) ≡ map (reads 1) (read_places (if v then reads 1 t.1 ∷ branch_ways b ts else branch_ways b ts))
    both true h = ap (λ x. reads 1 t.1 ∷ x) h
    both false h = h

pub plain : (test : Look → Bool) (after : Option ℕ) (place : Place) → IsBytePlace place → IsPlain (ways_out test (ahead_of after) place)
plain test after (choice ns) p = inl (all_stay ns)
plain test None (byte rs n) p = inl (refl, refl)
plain test (Some b) (byte rs n) p = both (in_ranges rs b)
  where
    both : (v : Bool) → IsPlain (if v then reads 1 n ∷ [] else [])
    both true = inr (refl, refl)
    both false = inl (refl, refl)
plain test None (branch ts) p = inl (refl, refl)
plain test (Some b) (branch ts) p = inr (no_stays b ts, branch_reads b ts)
plain test after (scalar rs n) p = absurd p
plain test after (guard l n) p = both (test l)
  where
    both : (v : Bool) → IsPlain (if v then stays n ∷ [] else [])
    both true = inl (refl, refl)
    both false = inl (refl, refl)
plain test after (slot s n) p = inl (refl, refl)
plain test after (accept q) p = inl (refl, refl)

-- places of the code are byte places
by_byte : (p : code.BytePlace) → IsBytePlace (place_of p)
by_byte (code_variants.Choice first second) = tt
by_byte (code_variants.Pass next) = tt
by_byte code_variants.Dead = tt
by_byte (code_variants.Byte b next) = tt
by_byte (code_variants.Bytes rs next) = tt
by_byte (code_variants.Branch ws) = tt
by_byte (code_variants.Guard l next) = tt
by_byte (code_variants.Slot k next) = tt
by_byte (code_variants.Accept p) = tt

pub by_bytes : (ps : List code.BytePlace) (q : ℕ) → IsBytePlace (place_at (places_of ps) q)
by_bytes [] q = tt
by_bytes (p ∷ ps) zero = by_byte p
by_bytes (p ∷ ps) (suc q) = by_bytes ps q

-- at most two ways read nothing
one_or_none : (v : Bool) (n : ℕ) → length (stay_places (if v then stays n ∷ [] else [])) ≤ 2
one_or_none true n = omega arith
one_or_none false n = omega arith

none_of : (v : Bool) (n : ℕ) → length (stay_places (if v then reads 1 n ∷ [] else [])) ≤ 2
none_of true n = omega arith
none_of false n = omega arith

two_at_most : (test : Look → Bool) (after : Option ℕ) (p : code.BytePlace) → length (stay_places (ways_out test (ahead_of after) (place_of p))) ≤ 2
two_at_most test after (code_variants.Choice first second) = omega arith
two_at_most test after (code_variants.Pass next) = omega arith
two_at_most test after code_variants.Dead = omega arith
two_at_most test None (code_variants.Byte b next) = omega arith
two_at_most test (Some c) (code_variants.Byte b next) = none_of (in_ranges ((b, b) ∷ []) c) next
two_at_most test None (code_variants.Bytes rs next) = omega arith
two_at_most test (Some c) (code_variants.Bytes rs next) = none_of (in_ranges (map byte_range rs.items) c) next
two_at_most test None (code_variants.Branch ws) = omega arith
two_at_most test (Some c) (code_variants.Branch ws) = rw (no_stays c (map way_of ws.items)) (omega arith)
two_at_most test after (code_variants.Guard l next) = one_or_none (test l) next
two_at_most test after (code_variants.Slot k next) = omega arith
two_at_most test after (code_variants.Accept p) = omega arith

pub two : (ps : List code.BytePlace) (test : Look → Bool) (after : Option ℕ) (q : ℕ) →
    length (stay_places (out_by (places_of ps) test after q)) ≤ 2
two [] test after q = omega arith
two (p ∷ ps) test after zero = two_at_most test after p
two (p ∷ ps) test after (suc q) = two ps test after q

-- a match place has no way out
pub no_ways : (test : Look → Bool) (bytes : List ℕ) (place : Place) → is_match_place None place ≡ true → ways_out test bytes place ≡ []
no_ways test bytes (accept p) e = refl
no_ways test bytes (choice ns) e = absurd (true≢false (sym e))
no_ways test bytes (byte rs n) e = absurd (true≢false (sym e))
no_ways test bytes (branch ts) e = absurd (true≢false (sym e))
no_ways test bytes (scalar rs n) e = absurd (true≢false (sym e))
no_ways test bytes (guard l n) e = absurd (true≢false (sym e))
no_ways test bytes (slot s n) e = absurd (true≢false (sym e))

-- what closed places lead to

in_all : (n : ℕ) (qs : List ℕ) → AllByRecursion (λ k. k < n) qs → AreBelow n qs
in_all n [] h q i = absurd i
in_all n (p ∷ ps) h q i = ⊎_elim (λ e. subst (λ x. x < n) e h.0) (λ z. in_all n ps h.1 q z) i

pub targets_below : (places : List Place) → IsClosed places → (q : ℕ) → AreBelow (length places) (targets (place_at places q))
targets_below places closed q =
    ⊎_elim (λ lt. in_all (length places) (targets (place_at places q)) (recursion_from_All (λ k. k < length places) (targets (place_at places q)) (closed q (choice []) lt)))
    (λ ge. subst (λ p. AreBelow (length places) (targets p)) (sym (past_places places q ge)) (λ k i. absurd i))
    (cases_lt q (length places))

all_below : (n : ℕ) (qs : List ℕ) → AreBelow n qs → AllByRecursion (λ k. k < n) qs
all_below n [] h = tt
all_below n (p ∷ ps) h = (h p (inl refl), all_below n ps (λ q i. h q (inr i)))

stays_below : (n : ℕ) (ws : List Way) → AllByRecursion (λ w. goal_of w < n) ws → AreBelow n (stay_places ws)
stays_below n [] h k i = absurd i
stays_below n (stays q ∷ ws) h k i = ⊎_elim (λ e. subst (λ x. x < n) e h.0) (λ z. stays_below n ws h.1 k z) i
stays_below n (reads count q ∷ ws) h k i = stays_below n ws h.1 k i

pub out_below : (places : List Place) → IsClosed places → (test : Look → Bool) (after : Option ℕ) (q : ℕ) →
    AreBelow (length places) (stay_places (out_by places test after q))
out_below places closed test after q =
    stays_below (length places) (out_by places test after q)
    (ways_out_to (λ k. k < length places) test (ahead_of after) (place_at places q) (all_below (length places) _ (targets_below places closed q)))

pub below_reverse : (n : ℕ) (xs : List ℕ) → AreBelow n xs → AreBelow n (reverse xs)
below_reverse n xs h q i = h q (subst (λ l. HasPlace q l) (reverse-reverse xs) (has_reverse q (reverse xs) i))
  where
    has_reverse : (q : ℕ) (ys : List ℕ) → HasPlace q ys → HasPlace q (reverse ys)
    has_reverse q [] z = z
    has_reverse q (y ∷ ys) z =
        subst (λ l. HasPlace q l) (sym (reverse-append (y ∷ []) ys))
        (⊎_elim (λ e. has_right q (reverse ys) (y ∷ []) (inl e)) (λ t. has_left q (reverse ys) (y ∷ []) (has_reverse q ys t)) z)

module _ (out : ℕ → List Way) (ends : ℕ → Bool) where
  reads_on : (k : ℕ) (entered : List ℕ) (rest : List Way) (n : ℕ) (next new : List ℕ) (matched : Option ℕ) →
      Runs out ends k entered rest (add_one next n) new matched → Runs out ends (suc k) entered (reads 1 n ∷ rest) next new matched
  reads_on k entered rest n next new matched r =
      ⊎_elim
      (λ t. repeats n (any_has n next t) (rw t at r))
      (λ f. adds n (λ h. true≢false (sym (has_any n next h) ∙ f)) (rw f at r))
      (cases_Bool (list_any (λ q. nat_eq q n) next))

  reads_all : (k : ℕ) (entered : List ℕ) (rest : List Way) (ns next new : List ℕ) (matched : Option ℕ) →
      Runs out ends k entered rest (add_all next ns) new matched → Finishes out ends entered (map (reads 1) ns ++ rest) next new matched
  reads_all k entered rest [] next new matched r = (k, r)
  reads_all k entered rest (n ∷ ns) next new matched r =
      let w = reads_all k entered rest ns (add_one next n) new matched r in
      (suc w.0, reads_on w.0 entered (map (reads 1) ns ++ rest) n next new matched w.1)

  open_ways : (k : ℕ) (entered : List ℕ) (ws rest : List Way) (next new : List ℕ) (matched : Option ℕ) → IsPlain ws →
      Runs out ends k entered (map stays (stay_places ws) ++ rest) (add_all next (read_places ws)) new matched →
      Finishes out ends entered (ws ++ rest) next new matched
  open_ways k entered ws rest next new matched is_plain r =
      ⊎_elim
      (λ p. (
        k,
        subst (λ x. Runs out ends k entered (x ++ rest) next new matched) (sym p.0)
            (subst (λ x. Runs out ends k entered (map stays (stay_places ws) ++ rest) (add_all next x) new matched) p.1 r),
      ))
      (λ p. subst (λ x. Finishes out ends entered (x ++ rest) next new matched) (sym p.1)
      (reads_all k entered rest (read_places ws) next new matched
      (subst (λ x. Runs out ends k entered (map stays x ++ rest) (add_all next (read_places ws)) new matched) p.0 r)))
      is_plain

module _ (ps : List code.BytePlace) (test : Look → Bool) (after : Option ℕ) (list : List ℕ) where
  abbrev out : ℕ → List Way
  out = out_by (places_of ps) test after

  abbrev ends : ℕ → Bool
  ends = is_match (places_of ps)

  -- Between two turns of the loop.
  pub record IsFollowing (entered listed : Members) (stack : List ℕ) : Type 0 where
    pub entered_size : entered.capacity ≡ length ps
    pub listed_size : listed.capacity ≡ length ps
    pub few : length entered.items ≤ length ps
    pub below : AreBelow (length ps) stack
    pub goes : (new : List ℕ) (matched : Option ℕ) → Finishes out ends entered.items (map stays (reverse stack)) listed.items new matched → IsStep out ends list new matched

  pub sets_out : (entered listed : Members) (stack : List ℕ) → list ≡ reverse stack → AreBelow (length ps) (reverse stack) →
      entered ≡ record { capacity = length ps; items = [] } → listed ≡ record { capacity = length ps; items = [] } → IsFollowing entered listed stack
  sets_out entered listed stack is below e f = record {
    entered_size = ap (λ (m : Members). m.capacity) e;
    listed_size = ap (λ (m : Members). m.capacity) f;
    few = let z : length entered.items ≡ 0 = ap (λ (m : Members). length m.items) e in omega (arith, z);
    below = subst (λ l. AreBelow (length ps) l) (reverse-reverse stack) (below_reverse (length ps) (reverse stack) below);
    goes = λ new matched r. makes_step out ends list new matched
        (subst (λ (m : Members). Finishes out ends m.items (map stays list) [] new matched) e
        (subst (λ (m : Members). Finishes out ends entered.items (map stays list) m.items new matched) f
        (subst (λ l. Finishes out ends entered.items (map stays l) listed.items new matched) (sym is) r)));
  }

  -- how much is left to do
  abbrev pub left : Members → List ℕ → ℕ
  left entered stack = 3 * (length ps - length entered.items) + length stack

  pub top_below : (old popped : List ℕ) (q : ℕ) → old ≡ popped ++ q ∷ [] → AreBelow (length ps) old → q < length ps
  top_below old popped q e h = h q (subst (λ l. HasPlace q l) (sym e) (has_right q popped (q ∷ []) (inl refl)))

  rest_below : (old popped : List ℕ) (q : ℕ) → old ≡ popped ++ q ∷ [] → AreBelow (length ps) old → AreBelow (length ps) popped
  rest_below old popped q e h k i = h k (subst (λ l. HasPlace k l) (sym e) (has_left k popped (q ∷ []) i))

  turned : (old popped : List ℕ) (q : ℕ) → old ≡ popped ++ q ∷ [] → reverse old ≡ q ∷ reverse popped
  turned old popped q e = ap (λ x. reverse x) e ∙ reverse-append popped (q ∷ [])

  -- a place that was entered is passed by
  pub passes_by : (entered entered2 listed : Members) (old popped : List ℕ) (q : ℕ) → old ≡ popped ++ q ∷ [] → HasPlace q entered.items → entered2 ≡ entered →
      IsFollowing entered listed old → IsFollowing entered2 listed popped × (left entered2 popped < left entered old)
  passes_by entered entered2 listed old popped q e has same v =
      let lengths : length old ≡ length popped + 1 = ap (λ x. length x) e ∙ length-append popped (q ∷ []) in
      let count : length entered2.items ≡ length entered.items = ap (λ (m : Members). length m.items) same in (
        rw same (record {
          entered_size = v.entered_size;
          listed_size = v.listed_size;
          few = v.few;
          below = rest_below old popped q e v.below;
          goes = λ new matched r. v.goes new matched (suc r.0, rw (turned old popped q e) (leaps q has r.1));
        }),
        omega (arith, lengths, count),
      )

  -- a match place ends the loop
  pub meets : (entered listed : Members) (old popped : List ℕ) (q : ℕ) → old ≡ popped ++ q ∷ [] → ¬ HasPlace q entered.items → ends q ≡ true →
      IsFollowing entered listed old → IsStep out ends list listed.items (Some q)
  meets entered listed old popped q e fresh is v =
      v.goes listed.items (Some q) (0, rw (turned old popped q e) (matches q fresh is))

  -- from another place the search goes on
  pub enters : IsClosed (places_of ps) → (entered entered2 listed listed2 : Members) (old popped stack2 : List ℕ) (q : ℕ) → old ≡ popped ++ q ∷ [] →
      ¬ HasPlace q entered.items → ends q ≡ false → entered2 ≡ record entered { items = entered.items ++ q ∷ [] } → length entered2.items ≤ entered2.capacity →
      stack2 ≡ popped ++ reverse (stay_places (out q)) → listed2 ≡ record listed { items = add_all listed.items (read_places (out q)) } →
      IsFollowing entered listed old → IsFollowing entered2 listed2 stack2 × (left entered2 stack2 < left entered old)
  enters closed entered entered2 listed listed2 old popped stack2 q e fresh is grown few pushed more v =
      let inside : q < length ps = top_below old popped q e v.below in
      let size : entered2.capacity ≡ length ps = ap (λ (m : Members). m.capacity) grown ∙ v.entered_size in
      let items : entered2.items ≡ entered.items ++ q ∷ [] = ap (λ (m : Members). m.items) grown in
      let count : length entered2.items ≡ length entered.items + 1 = ap (λ x. length x) items ∙ length-append entered.items (q ∷ []) in
      let lengths : length old ≡ length popped + 1 = ap (λ x. length x) e ∙ length-append popped (q ∷ []) in
      let longer : length stack2 ≡ length popped + length (stay_places (out q)) =
      ap (λ x. length x) pushed ∙ length-append popped _ ∙ ap (λ x. length popped + x) (length-reverse (stay_places (out q))) in
      let most : length (stay_places (out q)) ≤ 2 = two ps test after q in
      let fits : length entered2.items ≤ length ps = subst (λ x. length entered2.items ≤ x) size few in
      let stay : AreBelow (length ps) (stay_places (out q)) =
      subst (λ n. AreBelow n (stay_places (out q))) (length-map ps place_of) (out_below (places_of ps) closed test after q) in (
        record {
          entered_size = size;
          listed_size = ap (λ (m : Members). m.capacity) more ∙ v.listed_size;
          few = fits;
          below = λ k i. ⊎_elim (rest_below old popped q e v.below k) (below_reverse (length ps) (stay_places (out q)) stay k)
              (has_parts k popped _ (subst (λ l. HasPlace k l) pushed i));
          goes = λ new matched r. v.goes new matched (opened new matched r);
        },
        omega (arith, count, lengths, longer, most, fits),
      )
    where
      order : reverse (popped ++ reverse (stay_places (out q))) ≡ stay_places (out q) ++ reverse popped
      order = reverse-append popped (reverse (stay_places (out q))) ∙ ap (λ x. x ++ reverse popped) (reverse-reverse (stay_places (out q)))

      line : map stays (reverse stack2) ≡ map stays (stay_places (out q)) ++ map stays (reverse popped)
      line = ap (λ x. map stays (reverse x)) pushed ∙ ap (λ x. map stays x) order ∙ map-append stays (stay_places (out q)) (reverse popped)

      opened : (new : List ℕ) (matched : Option ℕ) → Finishes out ends entered2.items (map stays (reverse stack2)) listed2.items new matched →
          Finishes out ends entered.items (map stays (reverse old)) listed.items new matched
      opened new matched r =
          let a : Runs out ends r.0 (entered.items ++ q ∷ []) (map stays (stay_places (out q)) ++ map stays (reverse popped)) (add_all listed.items (read_places (out q))) new matched =
          subst (λ x. Runs out ends r.0 x (map stays (stay_places (out q)) ++ map stays (reverse popped)) (add_all listed.items (read_places (out q))) new matched)
          (ap (λ (m : Members). m.items) grown)
          (subst (λ x. Runs out ends r.0 entered2.items x (add_all listed.items (read_places (out q))) new matched) line
          (subst (λ (m : Members). Runs out ends r.0 entered2.items (map stays (reverse stack2)) m.items new matched) more r.1)) in
          let w = open_ways out ends r.0 (entered.items ++ q ∷ []) (out q) (map stays (reverse popped)) listed.items new matched
          (plain test after (place_at (places_of ps) q) (by_bytes ps q)) a in
          (suc w.0, rw (turned old popped q e) (opens q fresh (λ t. true≢false (sym t ∙ is)) w.1))

  pub all_entered : (entered listed : Members) (stack : List ℕ) → stack ≡ [] → IsFollowing entered listed stack → IsStep out ends list listed.items None
  all_entered entered listed stack e v = v.goes listed.items None (rw e (0, done))
