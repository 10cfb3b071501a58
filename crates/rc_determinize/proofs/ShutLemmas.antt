-- The loop that closes over one group, and the loop over the groups.
use Rattle.std.proofs.Common.{◌≡◌, ℕ, zero, suc, ◌+◌, ◌-◌, ◌*◌, ◌<◌, ◌≤◌, List, [], ◌∷◌, ◌++◌, map, length, reverse, Option, Some, None, Bool, true, false, true≢false, nat_eq, inl, ⊎_elim, sym, subst, ap, ◌∙◌, refl, arith}
use Rattle.std.specs.List.{list_any}
use Rattle.std.specs.Option.{option_or}
use Rattle.std.proofs.lemmas.Bool.{cases_Bool}
use Rattle.std.proofs.lemmas.List.{append-nil, map-append, reverse-append, reverse-reverse, length-append, length-reverse, length-map}
use Rattle.rc_pattern.specs.declared.hir.Look.{Look}
use Rattle.rc_program.specs.Program.{place_at, Way, stays, reads}
use Rattle.rc_program.specs.Laws.{IsClosed}
use Rattle.rc_utf8.specs.declared.place.BytePlace as code
use Rattle.rc_utf8.specs.Places.{place_of, places_of}
use Rattle.rc_determinize.specs.Sparse.{Members}
use Rattle.rc_determinize.specs.Steps.{HasPlace, AreBelow, Adds, all_added, adds_one, leaves_out, ahead_of, out_by}
use Rattle.rc_determinize.specs.States.{is_match}
use Rattle.rc_determinize.specs.Longest.{Closes, out_of_ways, hands_on, skips, arrives, comes_back}
use Rattle.rc_determinize.specs.Machine.{stay_places, read_places, add_one, add_all, first_with, HaveSame, IsShut}
use Rattle.rc_determinize.proofs.MachineLemmas.{adds_then, mark, has_parts, has_left, has_right}
use Rattle.rc_determinize.proofs.OpenLemmas.{any_has, has_any}
use Rattle.rc_determinize.proofs.FollowLemmas.{IsPlain, plain, by_bytes, two, out_below, below_reverse, no_ways}

-- `Shuts steps entered from next new stop entered2`: so many steps close over all
pub data Shuts (out : ℕ → List Way) (ends : ℕ → Bool) : ℕ → List ℕ → List Way → List ℕ → List ℕ → Option ℕ → List ℕ → Type 0 where
  done : {entered next : List ℕ} → Shuts out ends 0 entered [] next next None entered
  adds : {k : ℕ} {entered entered2 : List ℕ} {from : List Way} {next new : List ℕ} {matched : Option ℕ} (q : ℕ) → ¬ HasPlace q next →
      Shuts out ends k entered from (next ++ q ∷ []) new matched entered2 → Shuts out ends (suc k) entered (reads 1 q ∷ from) next new matched entered2
  repeats : {k : ℕ} {entered entered2 : List ℕ} {from : List Way} {next new : List ℕ} {matched : Option ℕ} (q : ℕ) → HasPlace q next →
      Shuts out ends k entered from next new matched entered2 → Shuts out ends (suc k) entered (reads 1 q ∷ from) next new matched entered2
  leaps : {k : ℕ} {entered entered2 : List ℕ} {from : List Way} {next new : List ℕ} {matched : Option ℕ} (q : ℕ) → HasPlace q entered →
      Shuts out ends k entered from next new matched entered2 → Shuts out ends (suc k) entered (stays q ∷ from) next new matched entered2
  meets : {k : ℕ} {entered entered2 : List ℕ} {from : List Way} {next new : List ℕ} {matched : Option ℕ} (q : ℕ) → ¬ HasPlace q entered → ends q ≡ true →
      Shuts out ends k (entered ++ q ∷ []) from next new matched entered2 → Shuts out ends (suc k) entered (stays q ∷ from) next new (Some q) entered2
  opens : {k : ℕ} {entered entered2 : List ℕ} {from : List Way} {next new : List ℕ} {matched : Option ℕ} (q : ℕ) → ¬ HasPlace q entered → ends q ≡ false →
      Shuts out ends k (entered ++ q ∷ []) (out q ++ from) next new matched entered2 → Shuts out ends (suc k) entered (stays q ∷ from) next new matched entered2

or_assoc : (a b c : Option ℕ) → option_or a (option_or b c) ≡ option_or (option_or a b) c
or_assoc None b c = refl
or_assoc (Some x) b c = refl

module _ (out : ℕ → List Way) (ends : ℕ → Bool) where
  -- the first part was closed over
  record Worked (k : ℕ) (visited : List ℕ) (first second : List Way) (next new : List ℕ) (matched : Option ℕ) (entered2 : List ℕ) : Type 0 where
    pub left : ℕ
    pub fewer : left ≤ k
    pub marks2 : List ℕ
    pub visited2 : List ℕ
    pub onward : List ℕ
    pub next2 : List ℕ
    pub stop1 : Option ℕ
    pub stop2 : Option ℕ
    pub closes : Closes out ends visited first onward stop1 visited2
    pub marked : HaveSame visited2 marks2
    pub added : Adds next onward next2
    pub more : Shuts out ends left marks2 second next2 new stop2 entered2
    pub stops : matched ≡ option_or stop1 stop2

  not_visited : (visited marks : List ℕ) (q : ℕ) → HaveSame visited marks → ¬ HasPlace q marks → ¬ HasPlace q visited
  not_visited visited marks q m e h = e ((m q).0 h)

  split : (n k : ℕ) → k < n → (marks visited : List ℕ) (first second : List Way) (next new : List ℕ) (matched : Option ℕ) (entered2 : List ℕ) →
      HaveSame visited marks → Shuts out ends k marks (first ++ second) next new matched entered2 → Worked k visited first second next new matched entered2
  split zero k less marks visited first second next new matched entered2 m r = absurd (omega (arith, less))
  split (suc n) k less marks visited [] second next new matched entered2 m r = record {
    left = k;
    fewer = omega arith;
    marks2 = marks;
    visited2 = visited;
    onward = [];
    next2 = next;
    stop1 = None;
    stop2 = matched;
    closes = out_of_ways;
    marked = m;
    added = all_added;
    more = r;
    stops = refl;
  }
  split (suc n) zero less marks visited (reads count q ∷ first) second next new matched entered2 m r = elim r [ ]
  split (suc n) (suc k) less marks visited (reads count q ∷ first) second next new matched entered2 m (adds _ fresh r) =
      let w = split n k (omega (arith, less)) marks visited first second (next ++ q ∷ []) new matched entered2 m r in
      let f = w.fewer in
      record {
        left = w.left;
        fewer = omega (arith, f);
        marks2 = w.marks2;
        visited2 = w.visited2;
        onward = q ∷ w.onward;
        next2 = w.next2;
        stop1 = w.stop1;
        stop2 = w.stop2;
        closes = hands_on q w.closes;
        marked = w.marked;
        added = adds_one q fresh w.added;
        more = w.more;
        stops = w.stops;
      }
  split (suc n) (suc k) less marks visited (reads count q ∷ first) second next new matched entered2 m (repeats _ old r) =
      let w = split n k (omega (arith, less)) marks visited first second next new matched entered2 m r in
      let f = w.fewer in
      record {
        left = w.left;
        fewer = omega (arith, f);
        marks2 = w.marks2;
        visited2 = w.visited2;
        onward = q ∷ w.onward;
        next2 = w.next2;
        stop1 = w.stop1;
        stop2 = w.stop2;
        closes = hands_on q w.closes;
        marked = w.marked;
        added = leaves_out q old w.added;
        more = w.more;
        stops = w.stops;
      }
  split (suc n) zero less marks visited (stays q ∷ first) second next new matched entered2 m r = elim r [ ]
  split (suc n) (suc k) less marks visited (stays q ∷ first) second next new matched entered2 m (leaps _ seen r) =
      let w = split n k (omega (arith, less)) marks visited first second next new matched entered2 m r in
      let f = w.fewer in
      record {
        left = w.left;
        fewer = omega (arith, f);
        marks2 = w.marks2;
        visited2 = w.visited2;
        onward = w.onward;
        next2 = w.next2;
        stop1 = w.stop1;
        stop2 = w.stop2;
        closes = skips q ((m q).1 seen) w.closes;
        marked = w.marked;
        added = w.added;
        more = w.more;
        stops = w.stops;
      }
  split (suc n) (suc k) less marks visited (stays q ∷ first) second next new matched entered2 m (meets {matched = later} _ fresh met r) =
      let w = split n k (omega (arith, less)) (marks ++ q ∷ []) (q ∷ visited) first second next new later entered2 (mark visited marks q m) r in
      let f = w.fewer in
      record {
        left = w.left;
        fewer = omega (arith, f);
        marks2 = w.marks2;
        visited2 = w.visited2;
        onward = w.onward;
        next2 = w.next2;
        stop1 = Some q;
        stop2 = w.stop2;
        closes = arrives q (not_visited visited marks q m fresh) met w.closes;
        marked = w.marked;
        added = w.added;
        more = w.more;
        stops = refl;
      }
  split (suc n) (suc k) less marks visited (stays q ∷ first) second next new matched entered2 m (opens _ fresh on r) =
      let u = split n k (omega (arith, less)) (marks ++ q ∷ []) (q ∷ visited) (out q) (first ++ second) next new matched entered2 (mark visited marks q m) r in
      let f = u.fewer in
      let w = split n u.left (omega (arith, less, f)) u.marks2 u.visited2 first second u.next2 new u.stop2 entered2 u.marked u.more in
      let g = w.fewer in
      record {
        left = w.left;
        fewer = omega (arith, f, g);
        marks2 = w.marks2;
        visited2 = w.visited2;
        onward = u.onward ++ w.onward;
        next2 = w.next2;
        stop1 = option_or u.stop1 w.stop1;
        stop2 = w.stop2;
        closes = comes_back q (not_visited visited marks q m fresh) (λ t. true≢false (sym t ∙ on)) u.closes w.closes;
        marked = w.marked;
        added = adds_then u.added w.added;
        more = w.more;
        stops = u.stops ∙ ap (λ z. option_or u.stop1 z) w.stops ∙ or_assoc u.stop1 w.stop1 w.stop2;
      }

  record Ended (next new : List ℕ) (matched : Option ℕ) (marks entered2 : List ℕ) : Type 0 where
    pub same_list : next ≡ new
    pub no_stop : matched ≡ None
    pub same_marks : marks ≡ entered2

  ended : {k : ℕ} {marks entered2 next new : List ℕ} {matched : Option ℕ} → Shuts out ends k marks [] next new matched entered2 → Ended next new matched marks entered2
  ended done = record { same_list = refl; no_stop = refl; same_marks = refl }

  or_none : (a : Option ℕ) → option_or a None ≡ a
  or_none None = refl
  or_none (Some x) = refl

  -- the machine that begins with the list closes over it
  makes_shut : (list entered entered2 listed listed2 : List ℕ) (matched : Option ℕ) (k : ℕ) →
      Shuts out ends k entered (map stays list) listed listed2 matched entered2 → IsShut out ends list entered entered2 listed listed2 matched
  makes_shut list entered entered2 listed listed2 matched k r visited same =
      let w = split (suc k) k (omega arith) entered visited (map stays list) [] listed listed2 matched entered2 same
      (subst (λ x. Shuts out ends k entered x listed listed2 matched entered2) (sym (append-nil (map stays list))) r) in
      let e = ended w.more in
      let stop_is : w.stop1 ≡ matched = sym (or_none w.stop1) ∙ ap (λ z. option_or w.stop1 z) (sym e.no_stop) ∙ sym w.stops in (
        w.onward,
        w.visited2,
        subst (λ x. Closes out ends visited (map stays list) w.onward x w.visited2) stop_is w.closes,
        subst (λ x. HaveSame w.visited2 x) e.same_marks w.marked,
        subst (λ x. Adds listed w.onward x) e.same_list w.added,
      )

  abbrev Finish : List ℕ → List Way → List ℕ → List ℕ → Option ℕ → List ℕ → Type 0
  Finish entered from next new matched entered2 = (k : ℕ) × Shuts out ends k entered from next new matched entered2

  reads_on : (k : ℕ) (entered entered2 : List ℕ) (rest : List Way) (n : ℕ) (next new : List ℕ) (matched : Option ℕ) →
      Shuts out ends k entered rest (add_one next n) new matched entered2 → Shuts out ends (suc k) entered (reads 1 n ∷ rest) next new matched entered2
  reads_on k entered entered2 rest n next new matched r =
      ⊎_elim
      (λ t. repeats n (any_has n next t) (rw t at r))
      (λ f. adds n (λ h. true≢false (sym (has_any n next h) ∙ f)) (rw f at r))
      (cases_Bool (list_any (λ q. nat_eq q n) next))

  reads_all : (k : ℕ) (entered entered2 : List ℕ) (rest : List Way) (ns next new : List ℕ) (matched : Option ℕ) →
      Shuts out ends k entered rest (add_all next ns) new matched entered2 → Finish entered (map (reads 1) ns ++ rest) next new matched entered2
  reads_all k entered entered2 rest [] next new matched r = (k, r)
  reads_all k entered entered2 rest (n ∷ ns) next new matched r =
      let w = reads_all k entered entered2 rest ns (add_one next n) new matched r in
      (suc w.0, reads_on w.0 entered entered2 (map (reads 1) ns ++ rest) n next new matched w.1)

  open_ways : (k : ℕ) (entered entered2 : List ℕ) (ws rest : List Way) (next new : List ℕ) (matched : Option ℕ) → IsPlain ws →
      Shuts out ends k entered (map stays (stay_places ws) ++ rest) (add_all next (read_places ws)) new matched entered2 →
      Finish entered (ws ++ rest) next new matched entered2
  open_ways k entered entered2 ws rest next new matched is_plain r =
      ⊎_elim
      (λ p. (
        k,
        subst (λ x. Shuts out ends k entered (x ++ rest) next new matched entered2) (sym p.0)
            (subst (λ x. Shuts out ends k entered (map stays (stay_places ws) ++ rest) (add_all next x) new matched entered2) p.1 r),
      ))
      (λ p. subst (λ x. Finish entered (x ++ rest) next new matched entered2) (sym p.1)
      (reads_all k entered entered2 rest (read_places ws) next new matched
      (subst (λ x. Shuts out ends k entered (map stays x ++ rest) (add_all next (read_places ws)) new matched entered2) p.0 r)))
      is_plain

module _ (ps : List code.BytePlace) (test : Look → Bool) (after : Option ℕ) (list entered0 listed0 : List ℕ) where
  abbrev out : ℕ → List Way
  out = out_by (places_of ps) test after

  abbrev ends : ℕ → Bool
  ends = is_match (places_of ps)

  -- Between two turns of the loop.
  pub record IsShutting (entered listed : Members) (stack : List ℕ) (first : Option ℕ) : Type 0 where
    pub entered_size : entered.capacity ≡ length ps
    pub listed_size : listed.capacity ≡ length ps
    pub few : length entered.items ≤ length ps
    pub below : AreBelow (length ps) stack
    pub goes : (new : List ℕ) (matched : Option ℕ) (entered2 : List ℕ) (k : ℕ) → Shuts out ends k entered.items (map stays (reverse stack)) listed.items new matched entered2 →
        IsShut out ends list entered0 entered2 listed0 new (option_or first matched)

  pub sets_out : (entered listed : Members) (stack : List ℕ) → list ≡ reverse stack → AreBelow (length ps) (reverse stack) →
      entered.capacity ≡ length ps → entered.items ≡ entered0 → length entered.items ≤ entered.capacity → listed.capacity ≡ length ps → listed.items ≡ listed0 →
      IsShutting entered listed stack None
  sets_out entered listed stack is below size e few size2 f = record {
    entered_size = size;
    listed_size = size2;
    few = omega (arith, few, size);
    below = subst (λ l. AreBelow (length ps) l) (reverse-reverse stack) (below_reverse (length ps) (reverse stack) below);
    goes = λ new matched entered2 k r. makes_shut out ends list entered0 entered2 listed0 new matched k
        (subst (λ x. Shuts out ends k x (map stays list) listed0 new matched entered2) e
        (subst (λ x. Shuts out ends k entered.items (map stays list) x new matched entered2) f
        (subst (λ l. Shuts out ends k entered.items (map stays l) listed.items new matched entered2) (sym is) r)));
  }

  -- how much is left to do
  abbrev pub left : Members → List ℕ → ℕ
  left entered stack = 3 * (length ps - length entered.items) + length stack

  pub top_below : (old popped : List ℕ) (q : ℕ) → old ≡ popped ++ q ∷ [] → AreBelow (length ps) old → q < length ps
  top_below old popped q e h = h q (subst (λ l. HasPlace q l) (sym e) (has_right q popped (q ∷ []) (inl refl)))

  rest_below : (old popped : List ℕ) (q : ℕ) → old ≡ popped ++ q ∷ [] → AreBelow (length ps) old → AreBelow (length ps) popped
  rest_below old popped q e h k i = h k (subst (λ l. HasPlace k l) (sym e) (has_left k popped (q ∷ []) i))

  turned : (old popped : List ℕ) (q : ℕ) → old ≡ popped ++ q ∷ [] → reverse old ≡ q ∷ reverse popped
  turned old popped q e = ap (λ x. reverse x) e ∙ reverse-append popped (q ∷ [])

  -- a place that was entered is passed by
  pub passes_by : (entered entered2 listed : Members) (old popped : List ℕ) (first : Option ℕ) (q : ℕ) → old ≡ popped ++ q ∷ [] → HasPlace q entered.items → entered2 ≡ entered →
      IsShutting entered listed old first → IsShutting entered2 listed popped first × (left entered2 popped < left entered old)
  passes_by entered entered2 listed old popped first q e has same v =
      let lengths : length old ≡ length popped + 1 = ap (λ x. length x) e ∙ length-append popped (q ∷ []) in
      let count : length entered2.items ≡ length entered.items = ap (λ (m : Members). length m.items) same in (
        rw same (record {
          entered_size = v.entered_size;
          listed_size = v.listed_size;
          few = v.few;
          below = rest_below old popped q e v.below;
          goes = λ new matched entered2 k r. v.goes new matched entered2 (suc k) (rw (turned old popped q e) (leaps q has r));
        }),
        omega (arith, lengths, count),
      )

  -- what was met first
  firsts : (first matched : Option ℕ) (q : ℕ) → option_or first (Some q) ≡ option_or (first_with true first q) matched
  firsts None matched q = refl
  firsts (Some p) matched q = refl

  not_first : (first : Option ℕ) (q : ℕ) → first ≡ first_with false first q
  not_first None q = refl
  not_first (Some p) q = refl

  -- from another place the search goes on
  pub enters : IsClosed (places_of ps) → (entered entered2 listed listed2 : Members) (old popped stack2 : List ℕ) (first : Option ℕ) (q : ℕ) → old ≡ popped ++ q ∷ [] →
      ¬ HasPlace q entered.items → entered2 ≡ record entered { items = entered.items ++ q ∷ [] } → length entered2.items ≤ entered2.capacity →
      stack2 ≡ popped ++ reverse (stay_places (out q)) → listed2 ≡ record listed { items = add_all listed.items (read_places (out q)) } →
      IsShutting entered listed old first → IsShutting entered2 listed2 stack2 (first_with (ends q) first q) × (left entered2 stack2 < left entered old)
  enters closed entered entered2 listed listed2 old popped stack2 first q e fresh grown few pushed more v =
      let inside : q < length ps = top_below old popped q e v.below in
      let size : entered2.capacity ≡ length ps = ap (λ (m : Members). m.capacity) grown ∙ v.entered_size in
      let items : entered2.items ≡ entered.items ++ q ∷ [] = ap (λ (m : Members). m.items) grown in
      let count : length entered2.items ≡ length entered.items + 1 = ap (λ x. length x) items ∙ length-append entered.items (q ∷ []) in
      let lengths : length old ≡ length popped + 1 = ap (λ x. length x) e ∙ length-append popped (q ∷ []) in
      let longer : length stack2 ≡ length popped + length (stay_places (out q)) =
      ap (λ x. length x) pushed ∙ length-append popped _ ∙ ap (λ x. length popped + x) (length-reverse (stay_places (out q))) in
      let most : length (stay_places (out q)) ≤ 2 = two ps test after q in
      let fits : length entered2.items ≤ length ps = subst (λ x. length entered2.items ≤ x) size few in
      let stay : AreBelow (length ps) (stay_places (out q)) =
      subst (λ n. AreBelow n (stay_places (out q))) (length-map ps place_of) (out_below (places_of ps) closed test after q) in (
        record {
          entered_size = size;
          listed_size = ap (λ (m : Members). m.capacity) more ∙ v.listed_size;
          few = fits;
          below = λ k i. ⊎_elim (rest_below old popped q e v.below k) (below_reverse (length ps) (stay_places (out q)) stay k)
              (has_parts k popped _ (subst (λ l. HasPlace k l) pushed i));
          goes = λ new matched entered3 k r. ⊎_elim (λ met. met_goes new matched entered3 k met r) (λ on. on_goes new matched entered3 k on r) (cases_Bool (ends q));
        },
        omega (arith, count, lengths, longer, most, fits),
      )
    where
      order : reverse (popped ++ reverse (stay_places (out q))) ≡ stay_places (out q) ++ reverse popped
      order = reverse-append popped (reverse (stay_places (out q))) ∙ ap (λ x. x ++ reverse popped) (reverse-reverse (stay_places (out q)))

      line : map stays (reverse stack2) ≡ map stays (stay_places (out q)) ++ map stays (reverse popped)
      line = ap (λ x. map stays (reverse x)) pushed ∙ ap (λ x. map stays x) order ∙ map-append stays (stay_places (out q)) (reverse popped)

      laid : (new : List ℕ) (matched : Option ℕ) (entered3 : List ℕ) (k : ℕ) → Shuts out ends k entered2.items (map stays (reverse stack2)) listed2.items new matched entered3 →
          Shuts out ends k (entered.items ++ q ∷ []) (map stays (stay_places (out q)) ++ map stays (reverse popped)) (add_all listed.items (read_places (out q))) new matched entered3
      laid new matched entered3 k r =
          subst (λ x. Shuts out ends k x (map stays (stay_places (out q)) ++ map stays (reverse popped)) (add_all listed.items (read_places (out q))) new matched entered3)
          (ap (λ (m : Members). m.items) grown)
          (subst (λ x. Shuts out ends k entered2.items x (add_all listed.items (read_places (out q))) new matched entered3) line
          (subst (λ (m : Members). Shuts out ends k entered2.items (map stays (reverse stack2)) m.items new matched entered3) more r))

      met_goes : (new : List ℕ) (matched : Option ℕ) (entered3 : List ℕ) (k : ℕ) → ends q ≡ true →
          Shuts out ends k entered2.items (map stays (reverse stack2)) listed2.items new matched entered3 →
          IsShut out ends list entered0 entered3 listed0 new (option_or (first_with (ends q) first q) matched)
      met_goes new matched entered3 k met r =
          let none : out q ≡ [] = no_ways test (ahead_of after) (place_at (places_of ps) q) met in
          let a : Shuts out ends k (entered.items ++ q ∷ []) (map stays (reverse popped)) listed.items new matched entered3 =
          subst (λ ws. Shuts out ends k (entered.items ++ q ∷ []) (map stays (stay_places ws) ++ map stays (reverse popped)) (add_all listed.items (read_places ws)) new matched entered3)
          none (laid new matched entered3 k r) in
          rw met (subst (λ z. IsShut out ends list entered0 entered3 listed0 new z) (firsts first matched q)
          (v.goes new (Some q) entered3 (suc k) (rw (turned old popped q e) (meets q fresh met a))))

      on_goes : (new : List ℕ) (matched : Option ℕ) (entered3 : List ℕ) (k : ℕ) → ends q ≡ false →
          Shuts out ends k entered2.items (map stays (reverse stack2)) listed2.items new matched entered3 →
          IsShut out ends list entered0 entered3 listed0 new (option_or (first_with (ends q) first q) matched)
      on_goes new matched entered3 k on r =
          let w = open_ways out ends k (entered.items ++ q ∷ []) entered3 (out q) (map stays (reverse popped)) listed.items new matched
          (plain test after (place_at (places_of ps) q) (by_bytes ps q)) (laid new matched entered3 k r) in
          rw on (subst (λ z. IsShut out ends list entered0 entered3 listed0 new (option_or z matched)) (not_first first q)
          (v.goes new matched entered3 (suc w.0) (rw (turned old popped q e) (opens q fresh on w.1))))

  pub all_entered : (entered listed : Members) (stack : List ℕ) (first : Option ℕ) → stack ≡ [] → IsShutting entered listed stack first →
      IsShut out ends list entered0 entered.items listed0 listed.items first
  all_entered entered listed stack first e v =
      subst (λ z. IsShut out ends list entered0 entered.items listed0 listed.items z) (or_none out ends first) (v.goes listed.items None entered.items 0 (rw e done))
