-- Stretches in which no match begins: over an edit, and as what the next match begins after.
use Rattle.std.proofs.Common.{◌≡◌, ◌≢◌, ℕ, zero, suc, ◌+◌, ◌-◌, ◌<◌, ◌≤◌, false, List, [], ◌∷◌, ◌++◌, length, map, take, drop, Option, Some, None, ⊎_elim, refl, sym, ap, subst, ◌∙◌, ap₂, arith, take-take, length-drop, length-take, append_assoc, slice_range, if◌then◌else◌}
use Rattle.std.specs.Prelude.{IfSome, MatchOption}
use Rattle.std.specs.List.{slice_get}
use Rattle.std.specs.Option.{option_map}
use Rattle.std.proofs.Math.Seq.{take-length}
use Rattle.std.proofs.lemmas.Bool.{cases_Bool, cases_lt}
use Rattle.std.proofs.lemmas.List.{append-nil, drop-take}
use Rattle.std.proofs.lemmas.Option.{none-some, same_Some}
use Rattle.rc_text.specs.Found.{Found}
use Rattle.rc_text.specs.declared.types.MatchKind.{MatchKind}
use Rattle.rc_text.specs.declared.types.MatchKind.TheVariants.{All as all_matches}
use Rattle.rc_program.specs.Answer.{Search, is_anchored}
use Rattle.rc_program.specs.Matches.{begin_of, end_of, from_on, is_again, unless_again}
use Rattle.rc_program.proofs.KindLemmas.{kinds_law}
use Rattle.rc_reach.specs.Edits.{match_further}
use Rattle.rc_reach.specs.Fixed.{IsFixed}
use Rattle.rc_reach.specs.Live.{found_by, over_content}
use Rattle.rc_reach.specs.Partial.{GoesOnFrom, IsPartial, final, from_place}
use Rattle.live_matches.specs.declared.entry.Edit.{Edit}
use Rattle.live_matches.specs.Entry.{Entry}
use Rattle.live_matches.specs.declared.stretches.Stretch.{Stretch}
use Rattle.live_matches.specs.Entries.{AreBehind, AreBelow, FitsEdit, Gapped, IsSettledTo, all_of, len_after, moved_with, reach_of}
use Rattle.live_matches.specs.Lists.{AreEntries, IsEntry, next_after, place_of}
use Rattle.live_matches.specs.Quiet.{BeginFrom, BeginsBy, HasGone}
use Rattle.live_matches.specs.Stretches.{AreRising, AreStretches, IsDroppedBack, IsOverEdit, IsQuiet, IsSettledFrom, IsStretch, last_start}
use Rattle.live_matches.proofs.Moves.{found_rest, quiet_moved}
use Rattle.live_matches.proofs.Quiets.{again_at, found_later, next_is, none_later}

fewer : (r q : ℕ) (other c : List ℕ) → q ≤ r → take r other ≡ take r c → take q other ≡ take q c
fewer r q other c h e = sym (take-take q r other h) ∙ ap (take q) e ∙ take-take q r c h

pub sooner : (p q : ℕ) (es : List Entry) → p ≤ q → BeginFrom q es → BeginFrom p es
sooner p q [] h f = tt
sooner p q (e ∷ es) h f = omega (arith, h, f)

-- those that begin in order, from a part of them on
rising_split : (at : ℕ) (es fs : List Entry) → AreRising at (es ++ fs) → AreRising (last_start at es) fs
rising_split at [] fs r = r
rising_split at (e ∷ es) fs r = rising_split e.found.start es fs r.2

rising_behind : (at b : ℕ) (es : List Entry) → b < at → AreRising at es → AreBehind b es
rising_behind at b [] h r = tt
rising_behind at b (e ∷ es) h r = (omega (arith, h, r.0), r.1, rising_behind e.found.start b es (omega (arith, h, r.0)) r.2)

behind_rest : (es gone fs : List Entry) (b : ℕ) → AreRising 0 (es ++ (gone ++ fs)) → BeginFrom (b + 4) fs → AreBehind b fs
behind_rest es gone [] b r h = tt
behind_rest es gone (f ∷ fs) b r h =
    let rest = rising_split (last_start 0 es) gone (f ∷ fs) (rising_split 0 es (gone ++ (f ∷ fs)) r) in
    (omega (arith, h), rest.1, rising_behind f.found.start b fs (omega (arith, h)) rest.2)

-- over an edit, those before the gap stay, and those after it move
module _ (edit : Edit) (g g1 g2 : Gapped) (settled : IsSettledTo edit.replaced.start g g1) (gone : HasGone g1 g2) (far : BeginFrom (edit.replaced.end + 4) g2.after) where
  parts : all_of g ≡ g1.before ++ (gone.dropped ++ g2.after)
  parts = sym settled.all ∙ ap (λ es. g1.before ++ es) gone.split

  pub edit_fits : FitsEdit g.len edit → FitsEdit g2.len edit
  edit_fits = subst (λ n. FitsEdit n edit) (sym (gone.len ∙ settled.len))

  pub edit_below : AreBelow edit.replaced.start g2.before
  edit_below = subst (AreBelow edit.replaced.start) (sym gone.before) settled.below

  pub edit_behind : AreRising 0 (all_of g) → AreBehind edit.replaced.end g2.after
  edit_behind rising = behind_rest g1.before gone.dropped g2.after edit.replaced.end (subst (AreRising 0) parts rising) far

  pub over_edit : (h : Gapped) → h ≡ record { before = g2.before; after = map (moved_with edit) g2.after; len = len_after edit g2.len } → IsOverEdit edit g h
  over_edit h same = record {
    kept = g1.before;
    gone = gone.dropped;
    rest = g2.after;
    old_is = parts;
    new_is = ap all_of same ∙ ap (λ es. es ++ map (moved_with edit) g2.after) gone.before;
    below = settled.below;
    far = far;
    len = ap (λ (x : Gapped). x.len) same ∙ ap (len_after edit) (gone.len ∙ settled.len);
  }

-- a stretch from a place on that the stretches of a text make
pub record IsJoined (g : Gapped) (at : ℕ) (t : Stretch) : Type 0 where
  pub start : t.start ≡ at
  pub order : at ≤ t.end
  pub inside : (kind : MatchKind) (s : Search) (c : List ℕ) → at ≤ length c → AreStretches kind s c 0 (all_of g) → t.end ≤ length c
  pub quiet : (kind : MatchKind) (s : Search) (c : List ℕ) → kind ≢ all_matches → is_anchored s.anchoring ≡ false →
      AreStretches kind s c 0 (all_of g) → IsQuiet kind s c t.reach at t.end

-- what goes, goes on from what went
pub gone_on : (f g h : Gapped) → HasGone f g → HasGone g h → HasGone f h
gone_on f g h a b = record {
  dropped = a.dropped ++ b.dropped;
  split = a.split ∙ ap (λ es. a.dropped ++ es) b.split ∙ sym (append_assoc a.dropped b.dropped h.after);
  before = b.before ∙ a.before;
  len = b.len ∙ a.len;
}

-- the first after the gap goes
pub taken : (o : Option Entry) (g h : Gapped) →
    MatchOption o ((g.after ≡ []) × (h ≡ g)) (λ e. (g.after ≡ e ∷ h.after) × (h ≡ record g { after = h.after })) → HasGone g h
taken None g h m = record {
  dropped = [];
  split = sym (ap (λ (x : Gapped). x.after) m.1);
  before = ap (λ (x : Gapped). x.before) m.1;
  len = ap (λ (x : Gapped). x.len) m.1;
}
taken (Some e) g h m = record {
  dropped = e ∷ [];
  split = m.0;
  before = ap (λ (x : Gapped). x.before) m.1;
  len = ap (λ (x : Gapped). x.len) m.1;
}

-- the last one begins there
pub start_push : (at : ℕ) (es : List Entry) (e : Entry) → last_start at (es ++ e ∷ []) ≡ e.found.start
start_push at [] e = refl
start_push at (d ∷ es) e = start_push d.found.start es e

-- all after the gap go
pub none_gone : (g h : Gapped) → h ≡ record g { after = [] } → HasGone g h
none_gone g h same = record {
  dropped = g.after;
  split = sym (append-nil g.after) ∙ ap (λ es. g.after ++ es) (sym (ap (λ (x : Gapped). x.after) same));
  before = ap (λ (x : Gapped). x.before) same;
  len = ap (λ (x : Gapped). x.len) same;
}

-- the length stays if entries go
pub added_len : (at : ℕ) (g0 g1 g2 g3 : Gapped) → IsDroppedBack at g0 g1 → HasGone g1 g2 → HasGone g2 g3 → g3.len ≡ g0.len
added_len at g0 g1 g2 g3 back one two = two.len ∙ one.len ∙ back.len

-- the first entry is behind a stretch
pub first_behind : (k r : ℕ) (es : List Entry) → IfSome (slice_get es 0) (λ e. (k ≤ e.found.start) × (r ≤ reach_of e)) → BeginFrom k es × IsSettledFrom r es
first_behind k r [] h = (tt, tt)
first_behind k r (e ∷ es) h = h

module _ (kind : MatchKind) (s : Search) where
  -- nothing begins before the place where a search begins
  pub quiet_here : (c : List ℕ) (r k : ℕ) → IsQuiet kind s c r k k
  quiet_here c r k other agree = by_found (found_by kind s other k) refl
    where
      by_found : (o : Option Found) → found_by kind s other k ≡ o → BeginsBy k o
      by_found None e = tt
      by_found (Some m) e = (kinds_law.within kind (over_content s other) k m e).0

  -- what the partial answer of a text tells of each that begins with it
  goes_on : (c other : List ℕ) (at : ℕ) → take (length c) other ≡ take (length c) c →
      GoesOnFrom (from_on (over_content s c) at) (from_on (over_content s other) at)
  goes_on c other at agree =
      let whole = ap (take (length c)) (take-length other) ∙ agree ∙ sym (ap (take (length c)) (take-length c)) in (
        record { lo = omega arith; hi = omega arith; slice_end = omega arith },
        record {
          places = refl;
          terminator = refl;
          slice_start = refl;
          lo = refl;
          anchoring = refl;
          passes_over = refl;
          read = whole;
          seen = whole;
          content = agree;
        },
      )

  pub quiet_final : (c : List ℕ) (at : ℕ) (m : Found) → IsPartial kind (from_on (over_content s c) at) (final m) →
      IsQuiet kind s c (length c) at m.start
  quiet_final c at m told other agree =
      subst (BeginsBy m.start) (sym (told (from_on (over_content s other) at) (goes_on c other at agree))) (omega arith)

  pub quiet_less : (c : List ℕ) (r j p k : ℕ) → k ≤ p → IsQuiet kind s c r j p → IsQuiet kind s c r j k
  quiet_less c r j p k h quiet other agree = less (found_by kind s other j) (quiet other agree)
    where
      less : (o : Option Found) → BeginsBy p o → BeginsBy k o
      less None f = tt
      less (Some m) f = omega (arith, h, f)

  pub final_lies : (c : List ℕ) (at : ℕ) (m : Found) → IsPartial kind (from_on (over_content s c) at) (final m) →
      (at ≤ m.start) × (m.start ≤ length c)
  final_lies c at m told =
      let h = kinds_law.within kind (over_content s c) at m (told (from_on (over_content s c) at) (goes_on c c at refl)) in
      let a = h.0 in let b = h.2 in let l = h.3 in (a, omega (arith, b, l))

  pub quiet_from : (c : List ℕ) (at k : ℕ) → IsPartial kind (from_on (over_content s c) at) (from_place k) → IsQuiet kind s c (length c) at k
  quiet_from c at k told other agree = by_found (found_by kind s other at) refl
    where
      by_found : (o : Option Found) → found_by kind s other at ≡ o → BeginsBy k o
      by_found None e = tt
      by_found (Some m) e = told (from_on (over_content s other) at) (goes_on c other at agree) m e

  -- what a part of a text tells of the whole, if it has four bytes before the place, or all
  quiet_lifted : (c bytes : List ℕ) (first end at q : ℕ) → bytes ≡ slice_range c first end → end ≤ length c → first ≤ end → first ≤ at →
      (0 < first → first + 4 ≤ at) → IsQuiet kind s bytes (end - first) (at - first) q → IsQuiet kind s c end at (first + q)
  quiet_lifted c bytes first end at q is inside order low four quiet other agree = ⊎_elim some none (cases_lt 0 first)
    where
      n : ℕ
      n = end - first

      to : first + n ≡ end
      to = omega (arith, order)

      part : (w : List ℕ) → take n (drop first w) ≡ drop first (take end w)
      part w = sym (drop-take first n w) ∙ ap (λ i. drop first (take i w)) to

      rest : take n (drop first other) ≡ take n bytes
      rest =
          let mine : drop first (take end c) ≡ take n bytes =
          sym (part c) ∙ sym (take-take n n (drop first c) (omega arith)) ∙ sym (ap (take n) is) in
          part other ∙ ap (drop first) agree ∙ mine

      there : BeginsBy q (found_by kind s (drop first other) (at - first))
      there = quiet (drop first other) rest

      room : first ≤ length other
      room =
          let a = ap length agree in
          let b = length-take end other in
          let d = length-take end c in omega (arith, a, b, d, inside, order)

      lifted : (o : Option Found) → BeginsBy q o → BeginsBy (first + q) (option_map (match_further first) o)
      lifted None h = tt
      lifted (Some m) h = omega (arith, h)

      some : 0 < first → BeginsBy (first + q) (found_by kind s other at)
      some h =
          let f = four h in
          let e : (at - first) + first ≡ at = omega (arith, low) in
          subst (λ p. BeginsBy (first + q) (found_by kind s other p)) e
          (subst (BeginsBy (first + q)) (sym (found_rest kind s other first (at - first) room (omega (arith, f))))
          (lifted (found_by kind s (drop first other) (at - first)) there))

      none : first ≤ 0 → BeginsBy (first + q) (found_by kind s other at)
      none h =
          let z : first ≡ 0 = omega (arith, h) in
          let a : at - first ≡ at = omega (arith, z) in
          let b : q ≡ first + q = omega (arith, z) in
          subst (λ p. BeginsBy p (found_by kind s other at)) b
          (subst (λ p. BeginsBy q (found_by kind s other p)) a
          (subst (λ f. BeginsBy q (found_by kind s (drop f other) (at - first))) z there))

  -- all bytes of the part tell it
  pub quiet_part : (c bytes : List ℕ) (first end at q : ℕ) → bytes ≡ slice_range c first end → end ≤ length c → first ≤ end → first ≤ at →
      (0 < first → first + 4 ≤ at) → IsQuiet kind s bytes (length bytes) (at - first) q → IsQuiet kind s c end at (first + q)
  quiet_part c bytes first end at q is inside order low four quiet =
      let counted : length bytes ≡ end - first =
      (let a = ap length is in let b = length-take (end - first) (drop first c) in let d = length-drop first c in omega (arith, a, b, d, inside)) in
      quiet_lifted c bytes first end at q is inside order low four (subst (λ r. IsQuiet kind s bytes r (at - first) q) counted quiet)

  -- ---- lists of stretches

  pub are_rising : (c : List ℕ) (at : ℕ) (es : List Entry) → AreStretches kind s c at es → AreRising at es
  are_rising c at [] a = tt
  are_rising c at (e ∷ es) a = (a.0, a.1.order, are_rising c e.found.start es a.2)

  pub are_split : (c : List ℕ) (at : ℕ) (es fs : List Entry) → AreStretches kind s c at (es ++ fs) →
      AreStretches kind s c at es × AreStretches kind s c (last_start at es) fs
  are_split c at [] fs a = (tt, a)
  are_split c at (e ∷ es) fs a = let r = are_split c e.found.start es fs a.2 in ((a.0, a.1, r.0), r.1)

  pub are_append : (c : List ℕ) (at : ℕ) (es fs : List Entry) → AreStretches kind s c at es →
      AreStretches kind s c (last_start at es) fs → AreStretches kind s c at (es ++ fs)
  are_append c at [] fs a b = b
  are_append c at (e ∷ es) fs a b = (a.0, a.1, are_append c e.found.start es fs a.2 b)

  pub are_from : (c : List ℕ) (at p : ℕ) (es : List Entry) → BeginFrom p es → AreStretches kind s c at es → AreStretches kind s c p es
  are_from c at p [] h a = tt
  are_from c at p (e ∷ es) h a = (h, a.1, a.2)

  pub stretch_at : (c : List ℕ) (at : ℕ) (es : List Entry) (i : ℕ) (e : Entry) → AreStretches kind s c at es → slice_get es i ≡ Some e → IsStretch kind s c e
  stretch_at c at [] i e a h = absurd (none-some e h)
  stretch_at c at (d ∷ es) zero e a h = subst (IsStretch kind s c) (same_Some d e h) a.1
  stretch_at c at (d ∷ es) (suc i) e a h = stretch_at c d.found.start es i e a.2 h

  -- the last one of those that some bytes tell begins among them
  pub last_below : (c : List ℕ) (at a : ℕ) (es : List Entry) → at ≤ a → AreBelow a es → AreStretches kind s c at es → last_start at es ≤ a
  last_below c at a [] h below are = h
  last_below c at a (e ∷ es) h below are = let o = are.1.order in last_below c e.found.start a es (omega (arith, o, below.0)) below.1 are.2

  -- ---- over an edit

  pub are_kept : (old new : List ℕ) (a : ℕ) → take a new ≡ take a old → (at : ℕ) (es : List Entry) → AreBelow a es →
      AreStretches kind s old at es → AreStretches kind s new at es
  are_kept old new a same at [] below are = tt
  are_kept old new a same at (e ∷ es) below are =
      let h = below.0 in (
        are.0,
        record {
          order = are.1.order;
          inside = let n = ap length same in let l = length-take a new in let m = length-take a old in let i = are.1.inside in omega (arith, n, l, m, i, h);
          quiet = λ other agree. are.1.quiet other (agree ∙ fewer a (reach_of e) new old h same);
        },
        are_kept old new a same e.found.start es below.1 are.2,
      )

  module _ (old new : List ℕ) (edit : Edit) (order : edit.replaced.start ≤ edit.replaced.end) (inside : edit.replaced.end ≤ length old)
      (room : edit.replaced.start + edit.inserted ≤ length new)
      (back : drop (edit.replaced.start + edit.inserted) new ≡ drop edit.replaced.end old) where
    pub are_moved : (at to : ℕ) (es : List Entry) → edit.replaced.end + 4 ≤ at →
        to ≤ at - (edit.replaced.end - edit.replaced.start) + edit.inserted → AreStretches kind s old at es →
        AreStretches kind s new to (map (moved_with edit) es)
    are_moved at to [] far low are = tt
    are_moved at to (e ∷ es) far low are =
        let h = are.0 in
        let o = are.1.order in
        let b = edit.replaced.end in
        let z = edit.replaced.start + edit.inserted in
        let j = e.found.start - b in
        let k = e.found.end - b in
        let start : j + b ≡ e.found.start = omega (arith, far, h) in
        let end : k + b ≡ e.found.end = omega (arith, far, h, o) in
        let to_start : j + z ≡ e.found.start - (edit.replaced.end - edit.replaced.start) + edit.inserted = omega (arith, far, h, order) in
        let to_end : k + z ≡ e.found.end - (edit.replaced.end - edit.replaced.start) + edit.inserted = omega (arith, far, h, o, order) in
        let quiet = quiet_moved kind s old new b z (sym back) inside room j k (reach_of e) (reach_of (moved_with edit e))
        (omega (arith, far, h)) (omega (arith, far, h, o, order)) (omega (arith, far, h, o))
        (subst (λ x. IsQuiet kind s old (reach_of e) x (k + b)) (sym start) (subst (λ x. IsQuiet kind s old (reach_of e) e.found.start x) (sym end) are.1.quiet)) in (
          omega (arith, far, h, low),
          record {
            order = omega (arith, o);
            inside = let i = are.1.inside in let n = ap length back in let l = length-drop z new in let m = length-drop b old in omega (arith, i, n, l, m, far, h, o, order, inside, room);
            quiet = subst (λ x. IsQuiet kind s new (reach_of (moved_with edit e)) x (e.found.end - (edit.replaced.end - edit.replaced.start) + edit.inserted)) to_start
                (subst (λ x. IsQuiet kind s new (reach_of (moved_with edit e)) (j + z) x) to_end quiet);
          },
          are_moved e.found.start (e.found.start - (edit.replaced.end - edit.replaced.start) + edit.inserted) es (omega (arith, far, h)) (omega arith) are.2,
        )

    -- those that the bytes before the edit tell stay, and those behind it move
    are_carried : (es fs : List Entry) → take edit.replaced.start new ≡ take edit.replaced.start old → AreBelow edit.replaced.start es →
        BeginFrom (edit.replaced.end + 4) fs → AreStretches kind s old 0 (es ++ fs) → AreStretches kind s new 0 (es ++ map (moved_with edit) fs)
    are_carried es fs front below far are =
        let parts = are_split old 0 es fs are in
        let l = last_below old 0 edit.replaced.start es (omega arith) below parts.0 in
        are_append new 0 es (map (moved_with edit) fs) (are_kept old new edit.replaced.start front 0 es below parts.0)
        (are_moved (edit.replaced.end + 4) (last_start 0 es) fs (omega arith) (omega (arith, l, order)) (are_from old (last_start 0 es) (edit.replaced.end + 4) fs far parts.1))

    pub are_over : (g h : Gapped) → take edit.replaced.start new ≡ take edit.replaced.start old → IsOverEdit edit g h →
        AreStretches kind s old 0 (all_of g) → AreStretches kind s new 0 (all_of h)
    are_over g h front over are =
        let parts = are_split old 0 over.kept (over.gone ++ over.rest) (subst (AreStretches kind s old 0) over.old_is are) in
        let rest = are_split old (last_start 0 over.kept) over.gone over.rest parts.1 in
        subst (AreStretches kind s new 0) (sym over.new_is)
        (are_carried over.kept over.rest front over.below over.far
        (are_append old 0 over.kept over.rest parts.0 (first_from over.kept over.gone over.rest rest.1 parts.0 over.below over.far)))
      where
        first_from : (es gone fs : List Entry) → AreStretches kind s old (last_start (last_start 0 es) gone) fs → AreStretches kind s old 0 es →
            AreBelow edit.replaced.start es → BeginFrom (edit.replaced.end + 4) fs → AreStretches kind s old (last_start 0 es) fs
        first_from es gone fs are first below far =
            are_from old (last_start (last_start 0 es) gone) (last_start 0 es) fs
            (sooner (last_start 0 es) (edit.replaced.end + 4) fs (let l = last_below old 0 edit.replaced.start es (omega arith) below first in omega (arith, l, order)) far) are

  -- ---- one more, in place of those that it drops

  are_added : (c : List ℕ) (es gone fs lost : List Entry) (e : Entry) → AreStretches kind s c 0 ((es ++ gone) ++ (lost ++ fs)) → last_start 0 es ≤ e.found.start →
      BeginFrom e.found.start fs → IsStretch kind s c e → AreStretches kind s c 0 (es ++ (e ∷ fs))
  are_added c es gone fs lost e are low far is =
      let halves = are_split c 0 (es ++ gone) (lost ++ fs) are in
      let front = are_split c 0 es gone halves.0 in
      let rest = are_split c (last_start 0 (es ++ gone)) lost fs halves.1 in
      are_append c 0 es (e ∷ fs) front.0
      (low, is, are_from c (last_start (last_start 0 (es ++ gone)) lost) e.found.start fs far rest.1)

  module _ (c : List ℕ) (e : Entry) (g0 g1 g2 g3 g4 : Gapped) (back : IsDroppedBack e.found.start g0 g1) (one : HasGone g1 g2) (two : HasGone g2 g3) where
    pub added : BeginFrom (e.found.start + 1) g3.after → g4 ≡ record g3 { before = g3.before ++ e ∷ [] } →
        AreStretches kind s c 0 (all_of g0) → IsStretch kind s c e → AreStretches kind s c 0 (all_of g4)
    added far same are is =
        let old : all_of g0 ≡ (g1.before ++ back.dropped) ++ ((one.dropped ++ two.dropped) ++ g3.after) =
        ap₂ (λ xs ys. xs ++ ys) back.split
        (sym back.after ∙ one.split ∙ ap (λ es. one.dropped ++ es) two.split ∙ sym (append_assoc one.dropped two.dropped g3.after)) in
        let new : all_of g4 ≡ g1.before ++ (e ∷ g3.after) =
        ap all_of same ∙ append_assoc g3.before (e ∷ []) g3.after ∙ ap (λ es. es ++ (e ∷ g3.after)) (two.before ∙ one.before) in
        subst (AreStretches kind s c 0) (sym new)
        (are_added c g1.before back.dropped g3.after (one.dropped ++ two.dropped) e (subst (AreStretches kind s c 0) old are) back.far
        (sooner e.found.start (e.found.start + 1) g3.after (omega arith) far) is)

module _ (kind : MatchKind) (s : Search) (other_kind : kind ≢ all_matches) (free : is_anchored s.anchoring ≡ false) where
  -- a search from a place on finds a match no later than one that another search finds, and that begins behind the place
  no_later : (c : List ℕ) (i j k : ℕ) (m : Found) → i ≤ m.start → j ≤ m.start → found_by kind s c i ≡ Some m →
      BeginsBy k (found_by kind s c j) → k ≤ m.start
  no_later c i j k m low near e begins = ⊎_elim before after (cases_lt j i)
    where
      after : i ≤ j → k ≤ m.start
      after h = subst (BeginsBy k) (found_later kind s other_kind free kind other_kind c i j m h near e) begins

      before : j < i → k ≤ m.start
      before h = by_found (found_by kind s c j) refl begins
        where
          by_found : (o : Option Found) → found_by kind s c j ≡ o → BeginsBy k o → k ≤ m.start
          by_found None none f = absurd (none-some m (sym (none_later kind s other_kind free kind other_kind c j i (omega (arith, h)) none) ∙ e))
          by_found (Some n) some f = ⊎_elim sooner (λ g. omega (arith, f, g)) (cases_lt m.start n.start)
            where
              sooner : m.start < n.start → k ≤ m.start
              sooner g =
                  let there = found_later kind s other_kind free kind other_kind c j i n (omega (arith, h)) (omega (arith, low, g)) some in
                  let same = ap (λ (f : Found). f.start) (same_Some n m (sym there ∙ e)) in omega (arith, same, g)

  -- one stretch behind another
  pub quiet_joined : (c : List ℕ) (r q p i x j k : ℕ) → i ≤ x → j ≤ x → r ≤ p → q ≤ p → IsQuiet kind s c r i x → IsQuiet kind s c q j k →
      IsQuiet kind s c p i k
  quiet_joined c r q p i x j k low near more over first second other agree = by_found (found_by kind s other i) refl
      (first other (fewer p r other c more agree))
    where
      by_found : (o : Option Found) → found_by kind s other i ≡ o → BeginsBy x o → BeginsBy k o
      by_found None e f = tt
      by_found (Some m) e f = no_later other i j k m (omega (arith, low, f)) (omega (arith, near, f)) e (second other (fewer p q other c over agree))

  -- so the next match begins behind it
  pub next_quiet : (c : List ℕ) (last : Option ℕ) (k : ℕ) → place_of last < k → BeginsBy k (found_by kind s c (place_of last)) →
      BeginsBy k (next_after kind s c last)
  next_quiet c last k h begins = by_found (found_by kind s c (place_of last)) refl begins
    where
      by_found : (o : Option Found) → found_by kind s c (place_of last) ≡ o → BeginsBy k o → BeginsBy k (next_after kind s c last)
      by_found None e f = subst (BeginsBy k) (sym (ap (unless_again begin_of end_of (found_by kind s c) (place_of last) last) e)) tt
      by_found (Some m) e f =
          let once : is_again begin_of end_of last m ≡ false =
          ⊎_elim (λ t. absurd (let a = again_at last m t in omega (arith, a, f, h))) (λ x. x) (cases_Bool (is_again begin_of end_of last m)) in
          subst (BeginsBy k)
          (sym (ap (unless_again begin_of end_of (found_by kind s c) (place_of last) last) e
          ∙ ap (λ b. if b then found_by kind s c (place_of last + 1) else Some m) once)) f

  module _ (c : List ℕ) (last : Option ℕ) (k r : ℕ) (h : place_of last < k) (quiet : IsQuiet kind s c r (place_of last) k) where
    there : (other : List ℕ) → take r other ≡ take r c → next_after kind s other last ≡ found_by kind s other k
    there other agree = next_is kind s other_kind free other last k h (next_quiet other last k h (quiet other agree))

    -- an entry that is found from its end on
    pub entry_behind : (e : Entry) (q : ℕ) → found_by kind s c k ≡ Some e.found → IsFixed kind s c q k → q ≤ reach_of e → r ≤ reach_of e →
        IsEntry kind s c last e
    entry_behind e q found fixed over more = record {
      found = there c refl ∙ found;
      fixed = λ other agree.
          there other (fewer (reach_of e) r other c more agree) ∙ fixed other (fewer (reach_of e) q other c over agree) ∙ sym (there c refl);
    }

    pub none_behind : found_by kind s c k ≡ None → next_after kind s c last ≡ None
    none_behind none = there c refl ∙ none

    -- entries that come next after a place in it, and begin behind it, come next after the match before it
    pub come_behind : (p : ℕ) (es : List Entry) → p < k → BeginFrom k es → IsSettledFrom r es → AreEntries kind s c (Some p) es → AreEntries kind s c last es
    come_behind p [] low far over are = record {
      first = tt;
      ended = there c refl ∙ sym (next_is kind s other_kind free c (Some p) k low (subst (BeginsBy k) (sym are.ended) tt)) ∙ are.ended;
    }
    come_behind p (e ∷ es) low far over are =
        let found = are.first.0.found in
        let same = next_is kind s other_kind free c (Some p) k low (subst (BeginsBy k) (sym found) far) in
        record {
          first = (
            record {
              found = there c refl ∙ sym same ∙ found;
              fixed = λ other agree.
                  let it = are.first.0.fixed other agree in
                  there other (fewer (reach_of e) r other c over agree)
                  ∙ sym (next_is kind s other_kind free other (Some p) k low (subst (BeginsBy k) (sym (it ∙ found)) far))
                  ∙ it ∙ same ∙ sym (there c refl);
            },
            are.first.1,
          );
          ended = are.ended;
        }
