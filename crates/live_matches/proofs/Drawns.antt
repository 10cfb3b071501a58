-- The span to draw anew: outside it, the matches are those of the old list.
use Rattle.std.proofs.Common.{◌≡◌, ℕ, zero, suc, ◌+◌, ◌-◌, ◌<◌, ◌≤◌, Bool, true, false, ◌&&◌, nat_le, nat_lt, cond, List, [], ◌∷◌, ◌++◌, length, map, filter, Some, refl, sym, ap, ap₂, subst, ◌∙◌, arith, append_assoc, length-append, ⊎_elim}
use Rattle.std.specs.List.{slice_get}
use Rattle.std.proofs.lemmas.Bool.{cases_lt, le-leb, le-ltb, lt-leb, lt-ltb}
use Rattle.std.proofs.lemmas.List.{map-append}
use Rattle.std.proofs.lemmas.List.Elements.{filter-append}
use Rattle.std.proofs.lemmas.Option.{none-some, same_Some}
use Rattle.rc_text.specs.Found.{Found}
use Rattle.rc_text.specs.declared.types.Span.{Span}
use Rattle.live_matches.specs.declared.entry.Changed.{Changed}
use Rattle.live_matches.specs.declared.entry.Edit.{Edit}
use Rattle.live_matches.specs.Entry.{Entry}
use Rattle.live_matches.specs.Entries.{AreBehind, AreBelow, moved_with}
use Rattle.live_matches.specs.Lists.{founds}
use Rattle.live_matches.specs.Drawn.{AreLaid, EndBy, Follow, IsDrawn, IsSplit, lies_above, lies_below, match_moved, place_before}
use Rattle.live_matches.proofs.Gaps.{last_at}

-- ---- entries that follow one another

pub follow_split : (hi p : ℕ) (xs ys : List Entry) → Follow hi p (xs ++ ys) → Follow hi p xs × ((q : ℕ) × (p ≤ q) × Follow hi q ys)
follow_split hi p [] ys f = (tt, (p, omega arith, f))
follow_split hi p (x ∷ xs) ys f =
    let r = follow_split hi x.found.end xs ys f.3 in
    ((f.0, f.1, f.2, r.0), (r.1.0, omega (arith, f.0, f.1, r.1.1), r.1.2))

pub end_later : (p q : ℕ) (es : List Entry) → p ≤ q → EndBy p es → EndBy q es
end_later p q [] h e = tt
end_later p q (x ∷ es) h e = (omega (arith, h, e.0), end_later p q es h e.1)

pub end_below : (a : ℕ) (es : List Entry) → AreBelow a es → EndBy a es
end_below a [] b = tt
end_below a (e ∷ es) b = (omega (arith, b.0), end_below a es b.1)

pub end_inside : (hi p : ℕ) (es : List Entry) → Follow hi p es → EndBy hi es
end_inside hi p [] f = tt
end_inside hi p (e ∷ es) f = (f.2, end_inside hi e.found.end es f.3)

-- the last of them ends last
pub end_last : (hi p : ℕ) (es ys : List Entry) (e : Entry) (k : ℕ) → k + 1 ≡ length es → slice_get (es ++ ys) k ≡ Some e → Follow hi p es → EndBy e.found.end es
end_last hi p [] ys e k n s f = tt
end_last hi p (x ∷ []) ys e zero n s f = let d = ap (λ (z : Entry). z.found.end) (same_Some x e s) in (omega (arith, d), tt)
end_last hi p (x ∷ []) ys e (suc k) n s f = absurd (omega (arith, n))
end_last hi p (x ∷ y ∷ es) ys e zero n s f = absurd (omega (arith, n))
end_last hi p (x ∷ y ∷ es) ys e (suc k) n s f =
    let r = end_last hi x.found.end (y ∷ es) ys e k (omega (arith, n)) s f.3 in
    (omega (arith, r.0, f.3.0, f.3.1), r)

-- they end where the next one begins, or before
pub end_next : (hi p : ℕ) (es ys : List Entry) (y : Entry) → Follow hi p (es ++ y ∷ ys) → (p ≤ y.found.start) × EndBy y.found.start es
end_next hi p [] ys y f = (f.0, tt)
end_next hi p (x ∷ es) ys y f = let r = end_next hi x.found.end es ys y f.3 in (omega (arith, f.0, f.1, r.0), (r.0, r.1))

-- ---- by their index

get_inside : (hi p : ℕ) (es : List Entry) (k : ℕ) (e : Entry) → Follow hi p es → slice_get es k ≡ Some e → e.found.end ≤ hi
get_inside hi p [] k e f is = absurd (none-some e is)
get_inside hi p (x ∷ es) zero e f is = let d = ap (λ (z : Entry). z.found.end) (same_Some x e is) in omega (arith, d, f.2)
get_inside hi p (x ∷ es) (suc k) e f is = get_inside hi x.found.end es k e f.3 is

pub get_behind : {X : Type 0} (xs ys : List X) (k : ℕ) → slice_get (xs ++ ys) (length xs + k) ≡ slice_get ys k
get_behind [] ys k = ap (slice_get ys) (omega arith)
get_behind (x ∷ xs) ys k = ap (slice_get (x ∷ (xs ++ ys))) (next (length xs)) ∙ get_behind xs ys k
  where
    next : (n : ℕ) → suc n + k ≡ suc (n + k)
    next n = omega arith

pub get_front : {X : Type 0} (xs ys : List X) (k : ℕ) → k < length xs → slice_get (xs ++ ys) k ≡ slice_get xs k
get_front [] ys k h = absurd (omega (arith, h))
get_front (x ∷ xs) ys zero h = refl
get_front (x ∷ xs) ys (suc k) h = get_front xs ys k (omega (arith, h))

-- the first of them begins at the place or later
pub from_first : (hi p at : ℕ) (es : List Entry) → ((e : Entry) → slice_get es 0 ≡ Some e → at ≤ e.found.start) → Follow hi p es →
    (q : ℕ) × (at ≤ q) × Follow hi q es
from_first hi p at [] h f = (at, omega arith, tt)
from_first hi p at (e ∷ es) h f = (e.found.start, h e refl, (omega arith, f.1, f.2, f.3))

-- ---- those above a place, and those below one

parted : (p : Found → Bool) (xs ys : List Entry) → filter p (founds (xs ++ ys)) ≡ filter p (founds xs) ++ filter p (founds ys)
parted p xs ys = ap (filter p) (map-append (λ e. e.found) xs ys) ∙ filter-append p (founds xs) (founds ys)

none_above : (at hi p : ℕ) (es : List Entry) → Follow hi p es → at ≤ p → filter (lies_above at) (founds es) ≡ []
none_above at hi p [] f h = refl
none_above at hi p (e ∷ es) f h =
    ap (λ b. cond (b && nat_le e.found.end at) (e.found ∷ filter (lies_above at) (founds es)) (filter (lies_above at) (founds es)))
    (le-ltb e.found.start at (omega (arith, f.0, h)))
    ∙ none_above at hi e.found.end es f.3 (omega (arith, f.0, f.1, h))

none_below : (at : ℕ) (es : List Entry) → EndBy at es → filter (lies_below at) (founds es) ≡ []
none_below at [] h = refl
none_below at (e ∷ es) h =
    ap (λ b. cond (b && nat_le at e.found.start) (e.found ∷ filter (lies_below at) (founds es)) (filter (lies_below at) (founds es)))
    (le-ltb at e.found.end h.0)
    ∙ none_below at es h.1

lt_same : (a b c d : ℕ) → (a < b → c < d) → (b ≤ a → d ≤ c) → nat_lt a b ≡ nat_lt c d
lt_same a b c d f g = ⊎_elim (λ t. lt-ltb a b t ∙ sym (lt-ltb c d (f t))) (λ u. le-ltb a b u ∙ sym (le-ltb c d (g u))) (cases_lt a b)

le_same : (a b c d : ℕ) → (a ≤ b → c ≤ d) → (b < a → d < c) → nat_le a b ≡ nat_le c d
le_same a b c d f g = ⊎_elim (λ t. lt-leb a b t ∙ sym (lt-leb c d (g t))) (λ u. le-leb a b u ∙ sym (le-leb c d (f u))) (cases_lt b a)

map_cond : (f : Found → Found) (b : Bool) (m : Found) (ms : List Found) → map f (cond b (m ∷ ms) ms) ≡ cond b (f m ∷ map f ms) (map f ms)
map_cond f true m ms = refl
map_cond f false m ms = refl

module _ (edit : Edit) (order : edit.replaced.start ≤ edit.replaced.end) (at : ℕ) (far : edit.replaced.start + edit.inserted ≤ at) where
  same_below : (m : Found) → edit.replaced.end < m.start → m.start ≤ m.end → lies_below at (match_moved edit m) ≡ lies_below (place_before edit at) m
  same_below m h o =
      ap₂ (λ a b. a && b)
      (lt_same at (match_moved edit m).end (place_before edit at) m.end (λ t. omega (arith, t, h, o, order, far)) (λ t. omega (arith, t, h, o, order, far)))
      (le_same at (match_moved edit m).start (place_before edit at) m.start (λ t. omega (arith, t, h, order, far)) (λ t. omega (arith, t, h, order, far)))

  moved_below : (es : List Entry) → AreBehind edit.replaced.end es →
      filter (lies_below at) (founds (map (moved_with edit) es)) ≡ map (match_moved edit) (filter (lies_below (place_before edit at)) (founds es))
  moved_below [] behind = refl
  moved_below (e ∷ es) behind =
      let old = filter (lies_below (place_before edit at)) (founds es) in
      ap₂ (λ b ms. cond b (match_moved edit e.found ∷ ms) ms) (same_below e.found behind.0 behind.1) (moved_below es behind.2)
      ∙ sym (map_cond (match_moved edit) (lies_below (place_before edit at) e.found) e.found old)

-- ---- the span

module _ (edit : Edit) (old new : List Entry) (c : Changed) (split : IsSplit edit old new c) (was now : ℕ) (laid : AreLaid edit old new was now) where
  abbrev kept : List Entry
  kept = split.changed.kept

  abbrev gone : List Entry
  gone = split.changed.gone

  abbrev anew : List Entry
  anew = split.changed.anew

  abbrev rest : List Entry
  rest = split.changed.rest

  abbrev moved : List Entry
  moved = map (moved_with edit) rest

  pub old_after : (q : ℕ) × (0 ≤ q) × Follow was q (gone ++ rest)
  old_after = (follow_split was 0 kept (gone ++ rest) (subst (Follow was 0) split.changed.old_is laid.before)).1

  pub new_after : (q : ℕ) × (0 ≤ q) × Follow now q (anew ++ moved)
  new_after = (follow_split now 0 kept (anew ++ moved) (subst (Follow now 0) split.changed.new_is laid.after)).1

  pub old_at : (k : ℕ) → slice_get old (c.first + k) ≡ slice_get (gone ++ rest) k
  old_at k = ap₂ slice_get split.changed.old_is (ap (λ n. n + k) split.changed.first) ∙ get_behind kept (gone ++ rest) k

  pub new_at : (k : ℕ) → slice_get new (c.first + k) ≡ slice_get (anew ++ moved) k
  new_at k = ap₂ slice_get split.changed.new_is (ap (λ n. n + k) split.changed.first) ∙ get_behind kept (anew ++ moved) k

  -- where those that came end
  pub came_by : (e : Entry) → 0 < c.added → slice_get new (c.first + (c.added - 1)) ≡ Some e → EndBy e.found.end anew
  came_by e some is =
      end_last now new_after.0 anew moved e (c.added - 1) (omega (arith, some, split.changed.added)) (sym (new_at (c.added - 1)) ∙ is)
      (follow_split now new_after.0 anew moved new_after.2).0

  pub none_came : c.added ≡ 0 → (q : ℕ) → EndBy q anew
  none_came none q = none_of anew (sym split.changed.added ∙ none)
    where
      none_of : (es : List Entry) → length es ≡ 0 → EndBy q es
      none_of [] e = tt
      none_of (x ∷ es) e = absurd (omega (arith, e))

  -- where those that went ended
  pub went_by : (e : Entry) → 0 < c.dropped → slice_get old (c.first + (c.dropped - 1)) ≡ Some e → EndBy e.found.end gone
  went_by e some is =
      end_last was old_after.0 gone rest e (c.dropped - 1) (omega (arith, some, split.changed.dropped)) (sym (old_at (c.dropped - 1)) ∙ is)
      (follow_split was old_after.0 gone rest old_after.2).0

  pub none_went : c.dropped ≡ 0 → (q : ℕ) → EndBy q gone
  none_went none q = none_of gone (sym split.changed.dropped ∙ none)
    where
      none_of : (es : List Entry) → length es ≡ 0 → EndBy q es
      none_of [] e = tt
      none_of (x ∷ es) e = absurd (omega (arith, e))

  -- the first that moved
  pub went_before : (e : Entry) → slice_get new (c.first + c.added) ≡ Some e → EndBy (place_before edit e.found.start) gone
  went_before e is = before rest split.behind old_after.2
      (sym (ap (λ k. slice_get (anew ++ moved) k) (split.changed.added ∙ omega arith) ∙ get_behind anew moved 0) ∙ sym (new_at c.added) ∙ is)
    where
      before : (es : List Entry) → AreBehind edit.replaced.end es → Follow was old_after.0 (gone ++ es) →
          slice_get (map (moved_with edit) es) 0 ≡ Some e → EndBy (place_before edit e.found.start) gone
      before [] behind f n = absurd (none-some e n)
      before (x ∷ es) behind f n =
          let d = ap (λ (z : Entry). z.found.start) (same_Some (moved_with edit x) e n) in
          end_later x.found.start (place_before edit e.found.start) gone (omega (arith, d, behind.0, laid.order)) (end_next was old_after.0 gone es x f).1

  pub came_inside : EndBy now anew
  came_inside = end_inside now new_after.0 anew (follow_split now new_after.0 anew moved new_after.2).0

  -- one that went fits into the new text
  pub went_fits : (e : Entry) (k : ℕ) → slice_get old k ≡ Some e →
      e.found.end - (edit.replaced.end - edit.replaced.start) + edit.inserted < 18446744073709551616
  went_fits e k is = let h = get_inside was 0 old k e laid.before is in omega (arith, h, laid.len, laid.fits)

  pub went_inside : EndBy (place_before edit now) gone
  went_inside =
      end_later was (place_before edit now) gone (omega (arith, laid.len, laid.order, laid.inside))
      (end_inside was old_after.0 gone (follow_split was old_after.0 gone rest old_after.2).0)

  module _ (span : Span) (start : span.start ≤ edit.replaced.start) (end : edit.replaced.start + edit.inserted ≤ span.end)
      (old_first : (e : Entry) → slice_get old c.first ≡ Some e → span.start ≤ e.found.start)
      (new_first : (e : Entry) → slice_get new c.first ≡ Some e → span.start ≤ e.found.start)
      (went : EndBy (place_before edit span.end) gone) (came : EndBy span.end anew) where
    old_from : (q : ℕ) × (span.start ≤ q) × Follow was q (gone ++ rest)
    old_from = from_first was old_after.0 span.start (gone ++ rest) (λ e is. old_first e (ap (slice_get old) (omega arith) ∙ old_at 0 ∙ is)) old_after.2

    new_from : (q : ℕ) × (span.start ≤ q) × Follow now q (anew ++ moved)
    new_from = from_first now new_after.0 span.start (anew ++ moved) (λ e is. new_first e (ap (slice_get new) (omega arith) ∙ new_at 0 ∙ is)) new_after.2

    stays : (q : ℕ) → edit.replaced.start ≤ q → filter (lies_below q) (founds kept) ≡ []
    stays q h = none_below q kept (end_later edit.replaced.start q kept h (end_below edit.replaced.start kept split.below))

    pub drawn : IsDrawn edit (founds old) (founds new) span
    drawn = record {
      start = start;
      end = end;
      above =
          let p = lies_above span.start in
          ap (λ es. filter p (founds es)) split.changed.new_is ∙ parted p kept (anew ++ moved)
          ∙ ap (λ ms. filter p (founds kept) ++ ms)
          (none_above span.start now new_from.0 (anew ++ moved) new_from.2 new_from.1 ∙ sym (none_above span.start was old_from.0 (gone ++ rest) old_from.2 old_from.1))
          ∙ sym (parted p kept (gone ++ rest)) ∙ sym (ap (λ es. filter p (founds es)) split.changed.old_is);
      below =
          let p = lies_below span.end in
          let q = lies_below (place_before edit span.end) in
          ap (λ es. filter p (founds es)) split.changed.new_is ∙ parted p kept (anew ++ moved)
          ∙ ap₂ (λ xs ys. xs ++ ys) (stays span.end (omega (arith, end)))
          (parted p anew moved ∙ ap (λ ms. ms ++ filter p (founds moved)) (none_below span.end anew came) ∙ moved_below edit laid.order span.end end rest split.behind)
          ∙ sym (ap (map (match_moved edit)) (ap (λ es. filter q (founds es)) split.changed.old_is ∙ parted q kept (gone ++ rest)
          ∙ ap₂ (λ xs ys. xs ++ ys) (stays (place_before edit span.end) (omega (arith, end)))
          (parted q gone rest ∙ ap (λ ms. ms ++ filter q (founds rest)) (none_below (place_before edit span.end) gone went))));
    }

-- ---- the last that went is the last that came

module _ (edit : Edit) (old new : List Entry) (c : Changed) (split : IsSplit edit old new c) (e : Entry) (went_some : 0 < c.dropped) (came_some : 0 < c.added)
    (went : slice_get old (c.first + (c.dropped - 1)) ≡ Some e) (came : slice_get new (c.first + (c.added - 1)) ≡ Some (moved_with edit e))
    (far : edit.replaced.end < e.found.start) (order : e.found.start ≤ e.found.end) where
  at_end : (kept xs ys all : List Entry) (x : Entry) (n : ℕ) → all ≡ kept ++ (xs ++ ys) → c.first ≡ length kept → n ≡ length xs → 0 < n →
      slice_get all (c.first + (n - 1)) ≡ Some x → (init : List Entry) × (xs ≡ init ++ x ∷ [])
  at_end kept xs ys all x n is first len some got =
      last_at xs (n - 1) x (omega (arith, some, len))
      (sym (ap₂ slice_get is (ap (λ k. k + (n - 1)) first) ∙ get_behind kept (xs ++ ys) (n - 1) ∙ get_front xs ys (n - 1) (omega (arith, some, len))) ∙ got)

  one_less : (xs init : List Entry) (x : Entry) (n : ℕ) → xs ≡ init ++ x ∷ [] → n ≡ length xs → n - 1 ≡ length init
  one_less xs init x n is len = let a = ap length is in let b = length-append init (x ∷ []) in omega (arith, len, a, b)

  pub trimmed : IsSplit edit old new (record c { dropped = c.dropped - 1; added = c.added - 1 })
  trimmed =
      let i = split.changed in
      let g = at_end i.kept i.gone i.rest old e c.dropped i.old_is i.first i.dropped went_some went in
      let n = at_end i.kept i.anew (map (moved_with edit) i.rest) new (moved_with edit e) c.added i.new_is i.first i.added came_some came in
      record {
        changed = record {
          kept = i.kept;
          gone = g.0;
          anew = n.0;
          rest = e ∷ i.rest;
          old_is = i.old_is ∙ ap (λ es. i.kept ++ (es ++ i.rest)) g.1 ∙ ap (λ es. i.kept ++ es) (append_assoc g.0 (e ∷ []) i.rest);
          new_is = i.new_is ∙ ap (λ es. i.kept ++ (es ++ map (moved_with edit) i.rest)) n.1
              ∙ ap (λ es. i.kept ++ es) (append_assoc n.0 (moved_with edit e ∷ []) (map (moved_with edit) i.rest));
          first = i.first;
          dropped = one_less i.gone g.0 e c.dropped g.1 i.dropped;
          added = one_less i.anew n.0 (moved_with edit e) c.added n.1 i.added;
        };
        below = split.below;
        behind = (far, order, split.behind);
      }
