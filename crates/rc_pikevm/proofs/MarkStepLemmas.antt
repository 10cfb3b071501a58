-- The threads of one position, and all positions, of a pass that marks patterns.
use Rattle.std.proofs.Common.{◌≡◌, ◌↔◌, ℕ, zero, suc, ◌+◌, ◌-◌, ◌*◌, ◌<◌, ◌≤◌, ◌⊎◌, Bool, true, List, [], ◌∷◌, ◌++◌, length, map, drop, min, inl, inr, ⊎_elim, sym, subst, ap, ◌∙◌, refl, arith, Some, slice_get, IsTrue}
use Rattle.std.proofs.Math.Nat.{mul-le-mul_left}
use Rattle.std.proofs.lemmas.Bool.{cases_lt}
use Rattle.std.proofs.lemmas.Option.{slice_get_within}
use Rattle.rc_text.specs.Found.{Found}
use Rattle.rc_pattern_set.specs.Sets.{Has}
use Rattle.rc_walks.specs.Walks.{Pair, IsWalk}
use Rattle.rc_walks.proofs.CutLemmas.{loosen}
use Rattle.rc_program.specs.Program.{accept, is_match_place}
use Rattle.rc_program.specs.Answer.{Search, IsStart, only, next_of, ends, last_of}
use Rattle.rc_program.specs.Greatest.{IsSpelledIn}
use Rattle.rc_program.proofs.AnswerLemmas.{last_start_of, start_within_last, start_to_last, walk_ends}
use Rattle.rc_program.proofs.GreatestLemmas.{spelled_within}
use Rattle.rc_pikevm.specs.Marking.{SomeLeads, Owed, AreSame, HasNoneBefore, KeepsMarks, HasAll, going, entries, entering, IsMarkingOn, IsMarkingFrom, MarksFrom}
use Rattle.rc_pikevm.specs.Passing.{AllIn, count_from, IsGrown, IsLined, pairs}
use Rattle.rc_pikevm.specs.PatternSpans.{HasSpan, AddsSpelled, AreOfFirst}
use Rattle.rc_pikevm.specs.Sights as sights
use Rattle.rc_pikevm.specs.Sights.{HasNoWalkFrom, Sight, sight_of}
use Rattle.rc_pikevm.specs.Sparse.{Members}
use Rattle.rc_pikevm.specs.Threads.{Thread, ThreadList}
use Rattle.rc_pikevm.specs.Waiting.{still}
use Rattle.rc_pikevm.specs.Readers.{reader_count}
use Rattle.rc_pikevm.proofs.LineLemmas.{no_line}
use Rattle.rc_pikevm.proofs.MarkLemmas.{AllLater}
use Rattle.rc_pikevm.proofs.MarkMoveLemmas.{same_then, later_waits, low_in, middle}
use Rattle.rc_pikevm.proofs.StepLemmas.{gone_begins, gone_closes, gone_waits, next_left, waits_here}

pub entries_later : (s : Sight) (p at x count : ℕ) → at < x → AllLater s p at (entries x count)
entries_later s p at x zero h = tt
entries_later s p at x (suc count) h = (h, entries_later s p at (x + 1) count (omega (arith, h)))

pub entering_next : (at last : ℕ) → at ≤ last → entering at last ≡ (0, at) ∷ entering (at + 1) last
entering_next at last h = let n : last + 1 - at ≡ suc (last + 1 - (at + 1)) = omega (arith, h) in ap (entries at) n

pub entering_over : (at last : ℕ) → last < at → entering at last ≡ []
entering_over at last h = let e : last + 1 - at ≡ 0 = omega (arith, h) in ap (entries at) e

-- a start that has no walk leads to nothing
quiet_start : (s : Sight) (p at : ℕ) (v ts : List Pair) → HasNoWalkFrom s at → SomeLeads s v ((0, at) ∷ ts) p ↔ SomeLeads s v ts p
quiet_start s p at v ts none = (
  λ h. ⊎_elim (λ a. absurd (none a.walk (loosen (sights.next_of s) (λ k. IsTrue (sights.ends s k)) a.is_walk [] (λ k i. λ z. z)))) (λ b. b) h,
  λ h. inr h,
)

-- where it has none, no thread need set out
pub sets_out_none : (s : Sight) (p at last : ℕ) (rest : List Thread) (items : List ℕ) (marks : List Bool) → HasNoWalkFrom s at →
    Owed s at rest items (entering at last) marks p ↔ Owed s at rest items (entering (at + 1) last) marks p
sets_out_none s p at last rest items marks none =
    ⊎_elim
    (λ past. subst (λ ns. Owed s at rest items (entering at last) marks p ↔ Owed s at rest items ns marks p)
    (entering_over at last past ∙ sym (entering_over (at + 1) last (omega (arith, past)))) (λ h. h, λ h. h))
    (λ ge. subst (λ ns. Owed s at rest items ns marks p ↔ Owed s at rest items (entering (at + 1) last) marks p) (sym (entering_next at last ge))
    (middle (quiet_start s p at (pairs at items) (entering (at + 1) last) none)))
    (cases_lt last at)

-- where so many have none, they may be skipped
starts_skipped : (s : Sight) (p count at last : ℕ) → ((y : ℕ) → at ≤ y → y < at + count → HasNoWalkFrom s y) →
    SomeLeads s [] (entering at last) p ↔ SomeLeads s [] (entering (at + count) last) p
starts_skipped s p zero at last none =
    let e : at + 0 ≡ at = omega arith in
    subst (λ z. SomeLeads s [] (entering at last) p ↔ SomeLeads s [] (entering z last) p) (sym e) (λ h. h, λ h. h)
starts_skipped s p (suc count) at last none =
    ⊎_elim
    (λ past. subst (λ ns. SomeLeads s [] (entering at last) p ↔ SomeLeads s [] ns p)
    (entering_over at last past ∙ sym (entering_over (at + suc count) last (omega (arith, past)))) (λ h. h, λ h. h))
    (λ ge. let e : at + 1 + count ≡ at + suc count = omega arith in
    subst (λ ns. SomeLeads s [] ns p ↔ SomeLeads s [] (entering (at + suc count) last) p) (sym (entering_next at last ge))
    (same_then (quiet_start s p at [] (entering (at + 1) last) (none at (omega arith) (omega arith)))
    (subst (λ z. SomeLeads s [] (entering (at + 1) last) p ↔ SomeLeads s [] (entering z last) p) e
    (starts_skipped s p count (at + 1) last (λ y l u. none y (omega (arith, l)) (omega (arith, u)))))))
    (cases_lt last at)

module _ {s : Sight} {n hi at : ℕ} {all : List Thread} {threads0 : ThreadList} {set0 : List Bool} where
  pub marking_begins : {entered : Members} → threads0.items ≡ [] → entered.items ≡ [] → entered.capacity ≡ n → still s at (at + 1) [] < threads0.room →
      IsMarkingOn s n hi at all all threads0 set0 threads0 entered set0
  marking_begins no_threads no_places capacity room = record {
    same = λ below p low. rw (no_threads, no_places) (λ h. h, λ h. h);
    long = refl;
    more = λ p h. h;
    gone = gone_begins no_threads no_places capacity room;
  }

  module _ {threads : ThreadList} {entered : Members} {set : List Bool} (index : ℕ) {t : Thread} (item : slice_get all index ≡ Some t)
      (inside : AllIn n at (min hi (at + 3)) all) (so_far : IsMarkingOn s n hi at all (drop index all) threads0 set0 threads entered set) where
    -- a thread that goes on later waits
    pub marking_waits : {threads2 : ThreadList} → at < t.at → count_from (at + 1) all + still s at (at + 1) [] < threads0.room →
        threads2 ≡ record threads { items = threads.items ++ t ∷ [] } →
        IsMarkingOn s n hi at all (drop (index + 1) all) threads0 set0 threads2 entered set
    marking_waits later room e = rw e (record {
      same = λ below p low.
          same_then (so_far.same below p low)
          (subst (λ ts. Owed s at threads.items entered.items (map going ts ++ below) set p
          ↔ Owed s at (threads.items ++ t ∷ []) entered.items (map going (drop (index + 1) all) ++ below) set p) (sym (next_left index item inside so_far.gone))
          (later_waits s p at set threads.items entered.items t (map going (drop (index + 1) all) ++ below) later));
      long = so_far.long;
      more = so_far.more;
      gone = gone_waits index item inside so_far.gone later room;
    })

    -- a thread goes on here
    pub marking_closes : {threads2 : ThreadList} {entered2 : Members} {set2 : List Bool} → t.at ≤ at →
        ((below : List Pair) → AreSame (length set) (Owed s at threads.items entered.items ((t.place, at) ∷ below) set)
        (Owed s at threads2.items entered2.items below set2)) →
        length set2 ≡ length set → KeepsMarks set set2 → IsGrown s n hi t.start at threads entered threads2 entered2 →
        IsMarkingOn s n hi at all (drop (index + 1) all) threads0 set0 threads2 entered2 set2
    marking_closes {threads2 = threads2} {entered2 = entered2} {set2 = set2} now closing long more grown = record {
      same = λ below p low.
          same_then (so_far.same below p low)
          (subst (λ ts. Owed s at threads.items entered.items (map going ts ++ below) set p
          ↔ Owed s at threads2.items entered2.items (map going (drop (index + 1) all) ++ below) set2 p) (sym (next_left index item inside so_far.gone))
          (subst (λ x. Owed s at threads.items entered.items ((t.place, x) ∷ (map going (drop (index + 1) all) ++ below)) set p
          ↔ Owed s at threads2.items entered2.items (map going (drop (index + 1) all) ++ below) set2 p)
          (sym (waits_here index item inside so_far.gone now))
          (closing (map going (drop (index + 1) all) ++ below) p (low_in p set0 set so_far.long low))));
      long = long ∙ so_far.long;
      more = λ p h. more p (so_far.more p h);
      gone = gone_closes index item inside so_far.gone grown;
    }

none_in : (n lo hi : ℕ) (ts : List Thread) → AllIn n lo hi ts → hi < lo → length ts ≡ 0
none_in n lo hi [] all h = refl
none_in n lo hi (t ∷ ts) all h = absurd (omega (arith, h, all.0))

no_threads : (ts : List Thread) → length ts ≡ 0 → ts ≡ []
no_threads [] e = refl
no_threads (t ∷ ts) e = absurd (omega (arith, e))

module _ {s : Sight} {n hi from last : ℕ} {set0 : List Bool} where
  pub marking_from : {curr : ThreadList} → curr.items ≡ [] → curr.width ≡ 0 → reader_count s.places < curr.room → from ≤ last → last ≤ hi →
      IsMarkingFrom s n hi from last from 0 curr set0 set0
  marking_from {curr = curr} no_items wide room low high = record {
    same = λ p l. rw no_items (λ h. h, λ h. h);
    long = refl;
    more = λ p h. h;
    lined = no_line s n hi 0 0 curr wide room from no_items;
    few = omega arith;
    reached = omega arith;
    within = omega (arith, low, high);
  }

  pub marking_turns : {at insertions insertions2 : ℕ} {curr next : ThreadList} {set set2 : List Bool} →
      IsMarkingFrom s n hi from last at insertions curr set0 set → at ≤ hi →
      AreSame (length set) (Owed s at [] [] (map going curr.items ++ entering at last) set)
      (Owed s (at + 1) [] [] (map going next.items ++ entering (at + 1) last) set2) →
      length set2 ≡ length set → KeepsMarks set set2 →
      IsLined s n hi 0 (at + 1) insertions2 next → insertions2 ≤ insertions + n →
      IsMarkingFrom s n hi from last (at + 1) insertions2 next set0 set2
  marking_turns {at = at} {set = set} p within turn long more lined few = record {
    same = λ q low. same_then (p.same q low) (turn q (low_in q set0 set p.long low));
    long = long ∙ p.long;
    more = λ q h. more q (p.more q h);
    lined = lined;
    few =
        let e : at + 1 - from ≡ suc (at - from) = omega (arith, p.reached) in
        let m : n * suc (at - from) ≡ n * (at - from) + n = omega arith in
        rw e (omega (arith, m, few, p.few));
    reached = omega (arith, p.reached);
    within = omega (arith, within);
  }

  -- a pass under way stays where it is, and an idle one goes on at the next start
  pub marking_skips : {at x : ℕ} (start : ℕ) {insertions : ℕ} {curr : ThreadList} {set : List Bool} → IsMarkingFrom s n hi from last at insertions curr set0 set →
      at ≤ x → x ≤ hi + 1 → HasNoneBefore s at start → (x ≡ at) ⊎ ((length curr.items ≡ 0) × (x ≡ start)) →
      IsMarkingFrom s n hi from last x insertions curr set0 set
  marking_skips {at = at} {x = x} start {insertions = insertions} {curr = curr} {set = set} m low most none idle =
      ⊎_elim (λ e. subst (λ z. IsMarkingFrom s n hi from last z insertions curr set0 set) (sym e) m)
      (λ i. let no_items = no_threads curr.items i.0 in
      record {
        same = λ p l. same_then (m.same p l) (skipped p no_items i.1);
        long = m.long;
        more = m.more;
        lined = no_line s n hi 0 insertions curr m.lined.width_is m.lined.room x no_items;
        few = let c : n * (at - from) ≤ n * (x - from) = mul-le-mul_left n (omega (arith, low)) in omega (arith, c, m.few);
        reached = omega (arith, low, m.reached);
        within = omega (arith, most);
      }) idle
    where
      skipped : (p : ℕ) → curr.items ≡ [] → x ≡ start → Owed s at [] [] (map going curr.items ++ entering at last) set p
          ↔ Owed s x [] [] (map going curr.items ++ entering x last) set p
      skipped p no_items is =
          let e : at + (x - at) ≡ x = omega (arith, low) in
          subst (λ ts. Owed s at [] [] (map going ts ++ entering at last) set p ↔ Owed s x [] [] (map going ts ++ entering x last) set p) (sym no_items)
          (middle
          (subst (λ z. SomeLeads s [] (entering at last) p ↔ SomeLeads s [] (entering z last) p) e
          (starts_skipped s p (x - at) at last (λ y l u. none y l (omega (arith, u, low, is))))))

  -- what is marked is led to
  led_by : {at insertions : ℕ} {curr : ThreadList} {set : List Bool} → IsMarkingFrom s n hi from last at insertions curr set0 set →
      (p : ℕ) → p < length set0 → Has set p → SomeLeads s [] (entering from last) p ⊎ Has set0 p
  led_by m p low h =
      ⊎_elim (λ never. absurd never) (λ q. q) ((m.same p low).1 (inr (inr h)))

  -- nothing is left to go on
  pub marking_done : {at insertions first end : ℕ} {curr : ThreadList} {set : List Bool} → IsMarkingFrom s n hi from last at insertions curr set0 set →
      length curr.items ≡ 0 → last < at → MarksFrom s from last first end set0 set
  marking_done {at = at} {curr = curr} m none over = record {
    long = m.long;
    more = m.more;
    led = led_by m;
    all = λ p low h.
        inl (⊎_elim (λ never. absurd never) (λ q. ⊎_elim (λ x. absurd (subst (λ ns. SomeLeads s [] ns p) nothing x)) (λ x. x) q)
        ((m.same p low).0 (inr (inl h))));
  }
    where
      nothing : map going curr.items ++ entering at last ≡ []
      nothing = rw (no_threads curr.items none) (entering_over at last over)

  -- all positions are done
  pub marking_ends : {at insertions first end : ℕ} {curr : ThreadList} {set : List Bool} → IsMarkingFrom s n hi from last at insertions curr set0 set →
      hi < at → last ≤ hi → MarksFrom s from last first end set0 set
  marking_ends {at = at} {curr = curr} m past high =
      marking_done m (none_in n at (min hi (at + 3)) curr.items m.lined.inside (omega (arith, past))) (omega (arith, past, high))

  -- all that are wanted are marked
  pub marking_full : {at insertions first end : ℕ} (absent : ℕ) {curr : ThreadList} {set : List Bool} → IsMarkingFrom s n hi from last at insertions curr set0 set →
      HasAll first absent set → end ≤ absent → MarksFrom s from last first end set0 set
  marking_full absent m full over = record {
    long = m.long;
    more = m.more;
    led = led_by m;
    all = λ p low h. inr (λ q l u. full q l (omega (arith, u, over)));
  }

-- more members of a list that goes on
pub all_then : (first middle last : ℕ) (set0 set : List Bool) → KeepsMarks set0 set → HasAll first middle set0 → HasAll middle last set → HasAll first last set
all_then first middle last set0 set more a b p l u = ⊎_elim (λ x. more p (a p l x)) (λ ge. b p ge u) (cases_lt p middle)

module _ (s : Search) where
  -- what a start from x on leads to, the search spells
  led_span : (x count p : ℕ) → ((y : ℕ) → x ≤ y → y < x + count → IsStart s y) → SomeLeads (sight_of s) [] (entries x count) p → HasSpan s p
  led_span x zero p all h = absurd h
  led_span x (suc count) p all h =
      ⊎_elim
      (λ a. let m : Found = record { pattern = p; start = x; end = (last_of a.walk).1 } in
      (m, refl, record { is_start = all x (omega arith) (omega arith); walk = a.walk; is_walk = a.is_walk; pattern = a.pattern; position = refl }))
      (λ b. led_span (x + 1) count p (λ y l u. all y (omega (arith, l)) (omega (arith, u))) b) h

  span_led : (x count : ℕ) (m : Found) → IsSpelledIn s m → x ≤ m.start → m.start < x + count → SomeLeads (sight_of s) [] (entries x count) m.pattern
  span_led x zero m h low high = absurd (omega (arith, low, high))
  span_led x (suc count) m h low high =
      ⊎_elim
      (λ l. inr (span_led (x + 1) count m h (omega (arith, l)) (omega (arith, high))))
      (λ ge. let e : m.start ≡ x = omega (arith, low, ge) in inl (record {
        walk = h.walk;
        is_walk = (subst (λ y. IsWalk (next_of s) (λ n. IsTrue (ends s n)) [] ((0, y) ∷ []) h.walk) e h.is_walk);
        pattern = h.pattern;
      }))
      (cases_lt x m.start)

  -- no position lies within the bounds
  pub outside_adds : (set : List Bool) → s.hi < s.lo → AddsSpelled s set set
  outside_adds set out = record {
    capacity = refl;
    members = λ p. (
      λ h. inl h,
      λ h. ⊎_elim (λ a. a) (λ b. let w = spelled_within s b.1.0 b.1.2 in absurd (omega (arith, out, w.0, w.1, w.2))) h,
    );
  }

  -- the pass over all starts adds what is spelled
  pub marks_add : (last first end patterns : ℕ) (set0 set : List Bool) → last ≡ last_start_of s → s.lo ≤ s.hi → MarksFrom (sight_of s) s.lo last first end set0 set →
      ((p : ℕ) → p < patterns → p < length set0 → IsTrue (is_match_place (only s.anchoring) (accept p)) → (first ≤ p) × (p < end)) →
      AreOfFirst patterns s.places → AddsSpelled s set0 set
  marks_add last first end patterns set0 set is low marks wanted first_ones = record {
    capacity = marks.long;
    members = λ p. (λ h. back p h, λ h. ⊎_elim (λ a. marks.more p a) (λ b. there p b.0 b.1) h);
  }
    where
      back : (p : ℕ) → Has set p → Has set0 p ⊎ ((p < length set0) × HasSpan s p)
      back p h =
          let l : p < length set0 = (let w = slice_get_within set p true h in omega (arith, w, marks.long)) in
          ⊎_elim
          (λ a. inr (l, led_span s.lo (last + 1 - s.lo) p (λ y l u. start_within_last s y l (omega (arith, u, is, l))) a))
          (λ b. inl b) (marks.led p l h)

      allowed : (m : Found) → IsSpelledIn s m → IsTrue (is_match_place (only s.anchoring) (accept m.pattern))
      allowed m h = ap (is_match_place (only s.anchoring)) (sym h.pattern) ∙ walk_ends (next_of s) (λ n. IsTrue (ends s n)) h.is_walk

      there : (p : ℕ) → p < length set0 → HasSpan s p → Has set p
      there p l (m, e, h) =
          let t = start_to_last s m.start h.is_start in
          let led = span_led s.lo (last + 1 - s.lo) m h h.is_start.0 (omega (arith, t, is, h.is_start.0)) in
          let l2 : m.pattern < length set0 = omega (arith, e, l) in
          let w = wanted m.pattern (first_ones s m refl h) l2 (allowed m h) in
          subst (Has set) e (⊎_elim (λ a. a) (λ full. full m.pattern w.0 w.1) (marks.all m.pattern l2 led))

-- passing over changes nothing
pub adds_regardless : (s : Search) (over : Bool) (set0 set : List Bool) → AddsSpelled s set0 set → AddsSpelled (record s { passes_over = over }) set0 set
adds_regardless s over set0 set h = record {
  capacity = h.capacity;
  members = λ p. (
    λ a. ⊎_elim (λ x. inl x) (λ b. inr (b.0, (b.1.0, b.1.1, there b.1.0 b.1.2))) ((h.members p).0 a),
    λ a. (h.members p).1 (⊎_elim (λ x. inl x) (λ b. inr (b.0, (b.1.0, b.1.1, back b.1.0 b.1.2))) a),
  );
}
  where
    there : (m : Found) → IsSpelledIn s m → IsSpelledIn (record s { passes_over = over }) m
    there m i = record { is_start = i.is_start; walk = i.walk; is_walk = i.is_walk; pattern = i.pattern; position = i.position }

    back : (m : Found) → IsSpelledIn (record s { passes_over = over }) m → IsSpelledIn s m
    back m i = record { is_start = i.is_start; walk = i.walk; is_walk = i.is_walk; pattern = i.pattern; position = i.position }
