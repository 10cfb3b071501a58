-- Where no match begins: a list may be taken up there, and searches from there find the same.
use Rattle.std.proofs.Common.{◌≡◌, ◌≢◌, ℕ, ◌+◌, ◌<◌, ◌≤◌, ◌⊎◌, Bool, true, false, List, [], ◌∷◌, take, length, Option, Some, None, IfSome, if◌then◌else◌, max, inl, inr, ⊎_elim, refl, sym, ap, subst, ◌∙◌, arith, true≢false, eqb-true, nat_eq, ◌&&◌, take-take}
use Rattle.std.specs.List.{slice_get}
use Rattle.std.proofs.lemmas.Bool.{and_parts, cases_Bool, cases_lt, le-ltb}
use Rattle.std.proofs.lemmas.Option.{none-some, same_Some}
use Rattle.rc_text.specs.Found.{Found}
use Rattle.rc_text.specs.declared.types.MatchKind.{MatchKind}
use Rattle.rc_text.specs.declared.types.MatchKind.TheVariants.{LeftmostFirst as leftmost_first, LeftmostLongest as leftmost_longest, All as all_matches}
use Rattle.rc_program.specs.Answer.{Search, Chosen, IsAnswer, IsStart, is_anchored}
use Rattle.rc_program.specs.Longest.{IsLongestAnswer}
use Rattle.rc_program.specs.Matches.{begin_of, end_of, from_on, is_again, next_match, unless_again}
use Rattle.rc_program.proofs.AnswerLemmas.{answer_law}
use Rattle.rc_program.proofs.KindLemmas.{kinds_law}
use Rattle.rc_program.proofs.ReachLemmas.{longest_law}
use Rattle.rc_reach.specs.Fixed.{IsFixed}
use Rattle.rc_reach.specs.Live.{found_by, over_content}
use Rattle.live_matches.specs.Entry.{Entry}
use Rattle.live_matches.specs.Entries.{Gapped, IsSkipped, last_end, reach_of}
use Rattle.live_matches.specs.Lists.{AreEntries, AreFirst, IsEntry, IsNextFixed, Meets, next_after, place_of}
use Rattle.live_matches.specs.Quiet.{BeginFrom, BeginsBy, IsLeft, IsSkippedOver}
use Rattle.live_matches.proofs.Listed.{all_split}
use Rattle.live_matches.proofs.Moves.{lies}
use Rattle.live_matches.proofs.Nexts.{ends_inside}

less_by : (p q : ℕ) (o : Option Found) → p ≤ q → BeginsBy q o → BeginsBy p o
less_by p q None h f = tt
less_by p q (Some m) h f = omega (arith, h, f)

zero_by : (o : Option Found) → BeginsBy 0 o
zero_by None = tt
zero_by (Some m) = omega arith

pub begins_past : (o : Option Found) (stop q n : ℕ) → stop ≡ q + n + 5 → IfSome o (λ m. stop < m.start + n + 4) → BeginsBy (q + 1) o
begins_past None stop q n e f = tt
begins_past (Some m) stop q n e f = omega (arith, e, f)

pub first_far : (es : List Entry) (stop p : ℕ) → p ≤ stop → IfSome (slice_get es 0) (λ e. stop ≤ e.found.start) → BeginFrom p es
first_far [] stop p h f = tt
first_far (e ∷ es) stop p h f = omega (arith, h, f)

-- ---- any way to look for a match

-- which search told the next match
told_by : (find : ℕ → Option Found) (k : ℕ) (last : Option ℕ) (o : Option Found) → next_match begin_of end_of find k last ≡ o →
    (find k ≡ o) ⊎ (find (k + 1) ≡ o)
told_by find k last o e = by_first (find k) refl
  where
    by_first : (p : Option Found) → find k ≡ p → (find k ≡ o) ⊎ (find (k + 1) ≡ o)
    by_first None q = inl (q ∙ (ap (unless_again begin_of end_of find k last) (sym q) ∙ e))
    by_first (Some n) q =
        let f : unless_again begin_of end_of find k last (Some n) ≡ o = ap (unless_again begin_of end_of find k last) (sym q) ∙ e in
        ⊎_elim (λ t. inr (rw t at f)) (λ g. inl (q ∙ (rw g at f))) (cases_Bool (is_again begin_of end_of last n))

-- a match that ends after the one before is none again
not_again : (j : ℕ) (m : Found) → j < m.end → is_again begin_of end_of (Some j) m ≡ false
not_again j m h =
    ⊎_elim (λ t. absurd (let e = eqb-true m.end j (and_right_of (nat_eq m.start m.end) (nat_eq m.end j) t) in omega (arith, e, h))) (λ f. f)
    (cases_Bool (is_again begin_of end_of (Some j) m))
  where
    and_right_of : (x y : Bool) → (x && y) ≡ true → y ≡ true
    and_right_of x y t = (and_parts x y t).1

-- an empty match again is where the one before ended
pub again_at : (last : Option ℕ) (m : Found) → is_again begin_of end_of last m ≡ true → m.start ≡ place_of last
again_at None m t = absurd (true≢false (sym t))
again_at (Some p) m t =
    let both = and_parts (nat_eq m.start m.end) (nat_eq m.end p) t in
    eqb-true m.start m.end both.0 ∙ eqb-true m.end p both.1

never_none : (p : ℕ) (es : List Entry) → last_end (Some p) es ≡ None → ⊥
never_none p [] e = none-some p (sym e)
never_none p (e ∷ es) h = never_none e.found.end es h

-- ---- entries that are skipped, as they are without lengths

pub skip_left : (kind : MatchKind) (s : Search) (c : List ℕ) (mark : Option ℕ) (at : ℕ) (g : Gapped) (now : Option ℕ) (h : Gapped) →
    IsSkipped mark at g now h → place_of mark ≤ length c → AreEntries kind s c mark g.after → IsLeft kind s c at now h.after
skip_left kind s c mark at g now h skip inside are =
    let more = all_split kind s c mark skip.dropped h.after (subst (AreEntries kind s c mark) skip.split are) in
    record {
      entries = subst (λ m. AreEntries kind s c m h.after) (sym skip.mark_is) more.1;
      far = skip.far;
      inside = rw skip.mark_is (ends_inside kind s c mark skip.dropped inside more.0);
    }

module _ (kind : MatchKind) (s : Search) (other_kind : kind ≢ all_matches) (free : is_anchored s.anchoring ≡ false) where
  abbrev find : List ℕ → ℕ → Option Found
  find = found_by kind s

  start_on : (c : List ℕ) (k j y : ℕ) → k ≤ j → IsStart (from_on (over_content s c) j) y → IsStart (from_on (over_content s c) k) y
  start_on c k j y h z = (omega (arith, h, z.0), z.1, λ t. absurd (true≢false (sym t ∙ free)))

  answer_on : (c : List ℕ) (k j : ℕ) (a : Chosen) → k ≤ j → j ≤ a.start → IsAnswer (from_on (over_content s c) k) a →
      IsAnswer (from_on (over_content s c) j) a
  answer_on c k j a h near is = record {
    is_start = (omega (arith, near), is.is_start.1, λ t. absurd (true≢false (sym t ∙ free)));
    is_first = is.is_first;
    allowed = is.allowed;
    none_before = λ y z l. is.none_before y (start_on c k j y h z) l;
  }

  longest_on : (c : List ℕ) (k j : ℕ) (a : Chosen) → k ≤ j → j ≤ a.start → IsLongestAnswer (from_on (over_content s c) k) a →
      IsLongestAnswer (from_on (over_content s c) j) a
  longest_on c k j a h near is = record {
    is_start = (omega (arith, near), is.is_start.1, λ t. absurd (true≢false (sym t ∙ free)));
    counts = is.counts;
    allowed = is.allowed;
    none_before = λ y z l. is.none_before y (start_on c k j y h z) l;
  }

  -- the search from a later place finds the same match, unless that begins before
  pub found_later : (o : MatchKind) → o ≢ all_matches → (c : List ℕ) (k j : ℕ) (m : Found) → k ≤ j → j ≤ m.start →
      found_by o s c k ≡ Some m → found_by o s c j ≡ Some m
  found_later all_matches not c k j m h near e = absurd (not refl)
  found_later leftmost_first not c k j m h near e =
      let r = (answer_law.answer_some (from_on (over_content s c) k) m).0 e in
      let at : r.0.start ≡ m.start = ap (λ (f : Found). f.start) r.2 in
      (answer_law.answer_some (from_on (over_content s c) j) m).1 (r.0, answer_on c k j r.0 h (omega (arith, at, near)) r.1, r.2)
  found_later leftmost_longest not c k j m h near e =
      let r = (longest_law.answer_some (from_on (over_content s c) k) m).0 e in
      let at : r.0.start ≡ m.start = ap (λ (f : Found). f.start) r.2 in
      (longest_law.answer_some (from_on (over_content s c) j) m).1 (r.0, longest_on c k j r.0 h (omega (arith, at, near)) r.1, r.2)

  pub none_later : (o : MatchKind) → o ≢ all_matches → (c : List ℕ) (k j : ℕ) → k ≤ j → found_by o s c k ≡ None → found_by o s c j ≡ None
  none_later all_matches not c k j h e = absurd (not refl)
  none_later leftmost_first not c k j h e =
      let none = (answer_law.answer_none (from_on (over_content s c) k)).0 e in
      (answer_law.answer_none (from_on (over_content s c) j)).1 (λ y z. none y (start_on c k j y h z))
  none_later leftmost_longest not c k j h e =
      let none = (longest_law.answer_none (from_on (over_content s c) k)).0 e in
      (longest_law.answer_none (from_on (over_content s c) j)).1 (λ y z. none y (start_on c k j y h z))

  -- ---- the next match begins at a place or later

  -- a search from there finds it
  pub next_is : (c : List ℕ) (last : Option ℕ) (q : ℕ) → place_of last < q → BeginsBy q (next_after kind s c last) →
      next_after kind s c last ≡ find c q
  next_is c last q h far = by_next (next_after kind s c last) refl far
    where
      by_next : (o : Option Found) → next_after kind s c last ≡ o → BeginsBy q o → next_after kind s c last ≡ find c q
      by_next None e f =
          e
          ∙ sym (⊎_elim (λ n. none_later kind other_kind c (place_of last) q (omega (arith, h)) n)
          (λ n. none_later kind other_kind c (place_of last + 1) q (omega (arith, h)) n) (told_by (find c) (place_of last) last None e))
      by_next (Some m) e f =
          e
          ∙ sym (⊎_elim (λ n. found_later kind other_kind c (place_of last) q m (omega (arith, h)) f n)
          (λ n. found_later kind other_kind c (place_of last + 1) q m (omega (arith, h)) f n) (told_by (find c) (place_of last) last (Some m) e))

  -- it comes next after a match that ended there too
  pub same_next : (c : List ℕ) (last : Option ℕ) (q : ℕ) → place_of last < q → BeginsBy (q + 1) (next_after kind s c last) →
      next_after kind s c (Some q) ≡ next_after kind s c last
  same_next c last q h far =
      let is = next_is c last q h (less_by q (q + 1) (next_after kind s c last) (omega arith) far) in
      by_found (find c q) refl (subst (BeginsBy (q + 1)) is far) ∙ sym is
    where
      by_found : (o : Option Found) → find c q ≡ o → BeginsBy (q + 1) o → next_after kind s c (Some q) ≡ find c q
      by_found None e f = ap (unless_again begin_of end_of (find c) q (Some q)) e ∙ sym e
      by_found (Some m) e f =
          let within = kinds_law.within kind (over_content s c) q m e in
          ap (unless_again begin_of end_of (find c) q (Some q)) e
          ∙ ap (λ b. if b then find c (q + 1) else Some m) (not_again q m (let l = within.2 in omega (arith, f, l))) ∙ sym e

  -- so the entries come next after that
  pub taken_up : (c : List ℕ) (last : Option ℕ) (q : ℕ) (es : List Entry) → place_of last < q → BeginFrom (q + 1) es →
      AreEntries kind s c last es → AreEntries kind s c (Some q) es
  taken_up c last q [] h far are = record {
    first = tt;
    ended = same_next c last q h (subst (BeginsBy (q + 1)) (sym are.ended) tt) ∙ are.ended;
  }
  taken_up c last q (e ∷ es) h far are =
      let same = same_next c last q h (subst (BeginsBy (q + 1)) (sym are.first.0.found) far) in
      record {
        first = (
          record {
            found = same ∙ are.first.0.found;
            fixed = λ other agree.
                let it = are.first.0.fixed other agree in
                same_next other last q h (subst (BeginsBy (q + 1)) (sym (it ∙ are.first.0.found)) far) ∙ it ∙ sym same;
          },
          are.first.1,
        );
        ended = are.ended;
      }

  -- ---- entries after the gap are dropped

  -- the list is taken up at a place, or where the last dropped one ends
  raised : (c : List ℕ) (l : Option ℕ) (at : ℕ) (es : List Entry) → (l ≡ None → 0 < at) → BeginFrom (at + 1) es → AreEntries kind s c l es →
      AreEntries kind s c (Some (max (place_of l) at)) es
  raised c None at es some far are =
      let h = some refl in let e : at ≡ max 0 at = omega arith in
      subst (λ p. AreEntries kind s c (Some p) es) e (taken_up c None at es h far are)
  raised c (Some p) at es some far are =
      ⊎_elim
      (λ l. let e : at ≡ max p at = omega (arith, l) in subst (λ x. AreEntries kind s c (Some x) es) e (taken_up c (Some p) at es l far are))
      (λ g. let e : p ≡ max p at = omega (arith, g) in subst (λ x. AreEntries kind s c (Some x) es) e are)
      (cases_lt p at)

  pub over_rest : (c : List ℕ) (mark : Option ℕ) (at : ℕ) (g : Gapped) (now : ℕ) (h : Gapped) (skip : IsSkippedOver mark at g now h) →
      (last_end mark skip.gone.dropped ≡ None → 0 < at) → AreEntries kind s c mark g.after →
      AreFirst kind s c mark skip.gone.dropped × AreEntries kind s c (Some now) h.after
  over_rest c mark at g now h skip some are =
      let more = all_split kind s c mark skip.gone.dropped h.after (subst (AreEntries kind s c mark) skip.gone.split are) in (
        more.0,
        subst (λ p. AreEntries kind s c (Some p) h.after) (sym skip.now_is)
            (raised c (last_end mark skip.gone.dropped) at h.after some skip.far more.1),
      )

  pub over_left : (c : List ℕ) (mark : Option ℕ) (at : ℕ) (g : Gapped) (now : ℕ) (h : Gapped) → IsSkippedOver mark at g now h → 0 < at →
      at ≤ length c → place_of mark ≤ length c → AreEntries kind s c mark g.after → IsLeft kind s c at (Some now) h.after
  over_left c mark at g now h skip some room inside are =
      let both = over_rest c mark at g now h skip (λ none. some) are in
      let ends = ends_inside kind s c mark skip.gone.dropped inside both.0 in
      record {
        entries = both.1;
        far = λ t. absurd (true≢false (sym t ∙ le-ltb now at (let e = skip.now_is in omega (arith, e))));
        inside = let e = skip.now_is in omega (arith, e, ends, room);
      }

  pub over_meets : (c : List ℕ) (p at : ℕ) (g : Gapped) (now : ℕ) (h : Gapped) → IsSkippedOver (Some p) at g now h →
      Meets kind s c (Some p) g.after → Meets kind s c (Some now) h.after
  over_meets c p at g now h skip meets = (over_rest c (Some p) at g now h skip (λ none. absurd (never_none p skip.gone.dropped none)) meets).1

  -- ---- each match is settled n bytes from its start

  module _ (n : ℕ) (near : (c : List ℕ) (k : ℕ) (m : Found) → find c k ≡ Some m → IsFixed kind s c (m.start + n) k) where
    fewer : (r q : ℕ) (other c : List ℕ) → q ≤ r → take r other ≡ take r c → take q other ≡ take q c
    fewer r q other c h e = sym (take-take q r other h) ∙ ap (take q) e ∙ take-take q r c h

    -- so is the next one
    pub next_near : (c : List ℕ) (last : Option ℕ) (m : Found) → next_after kind s c last ≡ Some m → IsNextFixed kind s c (m.start + n) last
    next_near c last m e other agree = by_first (find c (place_of last)) refl ∙ sym e
      where
        k : ℕ
        k = place_of last

        by_first : (o : Option Found) → find c k ≡ o → next_after kind s other last ≡ Some m
        by_first None q = absurd (none-some m (sym (ap (unless_again begin_of end_of (find c) k last) q) ∙ e))
        by_first (Some m0) q = ⊎_elim again once (cases_Bool (is_again begin_of end_of last m0))
          where
            again : is_again begin_of end_of last m0 ≡ true → next_after kind s other last ≡ Some m
            again t =
                let second : find c (k + 1) ≡ Some m =
                sym (ap (unless_again begin_of end_of (find c) k last) q ∙ ap (λ b. if b then find c (k + 1) else Some m0) t) ∙ e in
                let at = again_at last m0 t in
                let within = kinds_law.within kind (over_content s c) (k + 1) m second in
                let there : find other k ≡ Some m0 =
                near c k m0 q other (fewer (m.start + n) (m0.start + n) other c (let l = within.0 in omega (arith, at, l)) agree) ∙ q in
                ap (unless_again begin_of end_of (find other) k last) there
                ∙ ap (λ b. if b then find other (k + 1) else Some m0) t ∙ near c (k + 1) m second other agree ∙ second

            once : is_again begin_of end_of last m0 ≡ false → next_after kind s other last ≡ Some m
            once f =
                let same : m0 ≡ m = same_Some m0 m
                (sym (ap (unless_again begin_of end_of (find c) k last) q ∙ ap (λ b. if b then find c (k + 1) else Some m0) f) ∙ e) in
                let first : find c k ≡ Some m = q ∙ ap Some same in
                let there : find other k ≡ Some m0 = near c k m first other agree ∙ q in
                ap (unless_again begin_of end_of (find other) k last) there
                ∙ ap (λ b. if b then find other (k + 1) else Some m0) f ∙ ap Some same

    -- if the next match begins at a place or later, it does in each content that is the same for n bytes from there
    pub still_by : (c w : List ℕ) (last : Option ℕ) (a q : ℕ) → take a w ≡ take a c → q + n ≤ a → BeginsBy q (next_after kind s c last) →
        BeginsBy q (next_after kind s w last)
    still_by c w last a q same room far = by_next (next_after kind s w last) refl
      where
        by_next : (o : Option Found) → next_after kind s w last ≡ o → BeginsBy q o
        by_next None e = tt
        by_next (Some m) e = ⊎_elim early (λ late. late) (cases_lt m.start q)
          where
            early : m.start < q → q ≤ m.start
            early h =
                let there : next_after kind s c last ≡ Some m =
                next_near w last m e c (sym (fewer a (m.start + n) w c (omega (arith, h, room)) same)) ∙ e in
                subst (BeginsBy q) there far

    -- entries that come next after a place come next after the match before it, if none begins between
    pub come_next : (c : List ℕ) (last : Option ℕ) (q : ℕ) (es : List Entry) → place_of last < q → BeginsBy (q + 1) (next_after kind s c last) →
        BeginFrom (q + 1 + n) es → AreEntries kind s c (Some q) es → AreEntries kind s c last es
    come_next c last q [] h quiet far are = record { first = tt; ended = sym (same_next c last q h quiet) ∙ are.ended }
    come_next c last q (e ∷ es) h quiet far are =
        let same = same_next c last q h quiet in
        record {
          first = (
            record {
              found = sym same ∙ are.first.0.found;
              fixed = λ other agree.
                  sym (same_next other last q h (still_by c other last (reach_of e) (q + 1) agree (far_enough e far are.first.0.found) quiet))
                  ∙ are.first.0.fixed other agree ∙ same;
            },
            are.first.1,
          );
          ended = are.ended;
        }
      where
        far_enough : (e : Entry) → q + 1 + n ≤ e.found.start → next_after kind s c (Some q) ≡ Some e.found → q + 1 + n ≤ reach_of e
        far_enough e h found =
            ⊎_elim (λ t. let w = kinds_law.within kind (over_content s c) q e.found t in let l = w.2 in omega (arith, h, l))
            (λ t. let w = kinds_law.within kind (over_content s c) (q + 1) e.found t in let l = w.2 in omega (arith, h, l))
            (told_by (find c) q (Some q) (Some e.found) found)

    -- ---- the search from the place where the next match may begin

    -- no match begins before a place
    pub quiet_next : (c : List ℕ) (last : Option ℕ) (from q : ℕ) → BeginsBy from (next_after kind s c last) → max (place_of last) from < q →
        BeginsBy (q + 1) (find c (max (place_of last) from)) → BeginsBy (q + 1) (next_after kind s c last)
    quiet_next c last from q begins h quiet = ⊎_elim later here (cases_lt (place_of last) from)
      where
        later : place_of last < from → BeginsBy (q + 1) (next_after kind s c last)
        later l =
            let e : max (place_of last) from ≡ from = omega (arith, l) in
            subst (BeginsBy (q + 1)) (sym (next_is c last from l begins)) (subst (λ k. BeginsBy (q + 1) (find c k)) e quiet)

        here : from ≤ place_of last → BeginsBy (q + 1) (next_after kind s c last)
        here g =
            let e : max (place_of last) from ≡ place_of last = omega (arith, g) in
            by_found (find c (place_of last)) refl (subst (λ k. BeginsBy (q + 1) (find c k)) e quiet)
          where
            by_found : (o : Option Found) → find c (place_of last) ≡ o → BeginsBy (q + 1) o → BeginsBy (q + 1) (next_after kind s c last)
            by_found None e f = subst (BeginsBy (q + 1)) (sym (ap (unless_again begin_of end_of (find c) (place_of last) last) e)) tt
            by_found (Some m) e f =
                let once : is_again begin_of end_of last m ≡ false =
                ⊎_elim (λ t. absurd (let a = again_at last m t in omega (arith, a, f, h))) (λ x. x) (cases_Bool (is_again begin_of end_of last m)) in
                subst (BeginsBy (q + 1))
                (sym (ap (unless_again begin_of end_of (find c) (place_of last) last) e ∙ ap (λ b. if b then find c (place_of last + 1) else Some m) once)) f

    -- an entry that is found from there
    pub entry_from : (c : List ℕ) (last : Option ℕ) (from r : ℕ) (e : Entry) → BeginsBy from (next_after kind s c last) → place_of last < from →
        find c from ≡ Some e.found → IsFixed kind s c r from → r ≤ reach_of e → from + n ≤ reach_of e → IsEntry kind s c last e
    entry_from c last from r e begins h found fixed over settled = record {
      found = next_is c last from h begins ∙ found;
      fixed = λ other agree.
          let there = still_by c other last (reach_of e) from agree settled begins in
          next_is other last from h there ∙ fixed other (fewer (reach_of e) r other c over agree) ∙ sym (next_is c last from h begins);
    }

    -- the next match begins no earlier than the last one ends
    pub begins_on : (c : List ℕ) (last : Option ℕ) (from : ℕ) (m : Found) → BeginsBy from (next_after kind s c last) →
        next_after kind s c last ≡ Some m → BeginsBy from (next_after kind s c (Some m.end))
    begins_on c last from m begins e = by_next (next_after kind s c (Some m.end)) refl
      where
        at : from ≤ m.start
        at = subst (BeginsBy from) e begins

        by_next : (o : Option Found) → next_after kind s c (Some m.end) ≡ o → BeginsBy from o
        by_next None f = tt
        by_next (Some k) f =
            let x = (lies kind s c last m e).0 in
            let y = (lies kind s c (Some m.end) k f).0 in omega (arith, at, x.2, y.0)

    -- over an edit, the first match after those that stay begins no earlier
    pub from_edit : (old new : List ℕ) (last : Option ℕ) (a from : ℕ) (es : List Entry) → take a new ≡ take a old → (0 < from → from + n ≤ a) →
        AreEntries kind s old last es → BeginFrom from es → BeginsBy from (next_after kind s new last)
    from_edit old new last a from es front settled are begin =
        ⊎_elim (λ l. still_by old new last a from front (settled l) (first_by es are begin))
        (λ g. let e : 0 ≡ from = omega (arith, g) in subst (λ p. BeginsBy p (next_after kind s new last)) e (zero_by (next_after kind s new last)))
        (cases_lt 0 from)
      where
        first_by : (fs : List Entry) → AreEntries kind s old last fs → BeginFrom from fs → BeginsBy from (next_after kind s old last)
        first_by [] are begin = subst (BeginsBy from) (sym are.ended) tt
        first_by (e ∷ fs) are begin = subst (BeginsBy from) (sym are.first.0.found) begin
