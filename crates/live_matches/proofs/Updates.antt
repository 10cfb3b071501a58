-- An edit of the text: what the gap, the mark and the search leave.
use Rattle.std.proofs.Common.{◌≡◌, ℕ, suc, ◌+◌, ◌-◌, ◌<◌, ◌≤◌, List, [], ◌∷◌, ◌++◌, length, map, Option, Some, None, refl, sym, ap, ap₂, subst, ◌∙◌, arith, append_assoc, length-append}
use Rattle.rc_text.specs.declared.types.MatchKind.{MatchKind}
use Rattle.rc_program.specs.Answer.{Search}
use Rattle.live_matches.specs.declared.entry.Changed.{Changed}
use Rattle.live_matches.specs.declared.entry.Edit.{Edit}
use Rattle.live_matches.specs.Entry.{Entry}
use Rattle.live_matches.specs.Entries.{AreBehind, AreBelow, FitsEdit, Gapped, IsSettledTo, all_of, last_end, len_after, moved_with}
use Rattle.live_matches.specs.Lists.{AreEntries, AreFirst, IsSearchedOn, Meets, mark_after, place_of}
use Rattle.live_matches.specs.Live.{IsEdited}
use Rattle.live_matches.specs.Quiet.{HasGone, IsCarried, IsLeft}
use Rattle.live_matches.specs.Drawn.{AreLaid, Follow, IsSplit}
use Rattle.live_matches.proofs.Gaps.{behind_split}
use Rattle.live_matches.proofs.Listed.{all_split, kept}
use Rattle.live_matches.proofs.Moves.{lies}
use Rattle.live_matches.proofs.Nexts.{behind, ends_inside, meets, sized}

-- a list of which the moved one has two parts
map_split : (f : Entry → Entry) (xs ys zs : List Entry) → map f xs ≡ ys ++ zs →
    (us : List Entry) × (vs : List Entry) × (xs ≡ us ++ vs) × (length us ≡ length ys) × (map f vs ≡ zs)
map_split f xs [] zs e = ([], xs, refl, refl, e)
map_split f [] (y ∷ ys) zs e = absurd (let l = ap length e in omega (arith, l))
map_split f (x ∷ xs) (y ∷ ys) zs e =
    let r = map_split f xs ys zs (tail_is (map f xs) (ys ++ zs) (f x) y e) in
    (x ∷ r.0, r.1, ap (λ w. x ∷ w) r.2, ap suc r.3, r.4)
  where
    tail_is : (cs ds : List Entry) (a b : Entry) → a ∷ cs ≡ b ∷ ds → cs ≡ ds
    tail_is cs ds a b e = ap (λ (l : List Entry). tail_of l) e
      where
        tail_of : List Entry → List Entry
        tail_of [] = []
        tail_of (c ∷ cs) = cs

-- each begins where the one before ends, or later
follow : (kind : MatchKind) (s : Search) (c : List ℕ) (last : Option ℕ) (es : List Entry) → AreFirst kind s c last es → Follow (length c) (place_of last) es
follow kind s c last [] first = tt
follow kind s c last (e ∷ es) first =
    let h = (lies kind s c last e.found first.0.found).0 in
    (h.0, h.2, h.3, follow kind s c (Some e.found.end) es first.1)

module _ (kind : MatchKind) (s : Search) (old new : List ℕ) (edit : Edit) (edited : IsEdited edit old new) where
  length_moved : (es : List Entry) → length (map (moved_with edit) es) ≡ length es
  length_moved [] = refl
  length_moved (e ∷ es) = ap suc (length_moved es)

  -- ---- the entries that stay, and those that the edit may change

  pub old_parts : (g1 : Gapped) → AreEntries kind s old None (all_of g1) →
      (place_of (last_end None g1.before) ≤ length old) × AreEntries kind s old (last_end None g1.before) g1.after
  old_parts g1 are =
      let parts = all_split kind s old None g1.before g1.after are in
      (ends_inside kind s old None g1.before (omega arith) parts.0, parts.1)

  module _ (g1 g2 : Gapped) (mark : Option ℕ) (are : AreEntries kind s old None (all_of g1)) (long : g1.len ≡ length old)
      (below : AreBelow edit.replaced.start g1.before) (gone : HasGone g1 g2) (left : IsLeft kind s old (edit.replaced.end + 4) mark g2.after) where
    pub is_below : AreBelow edit.replaced.start g2.before
    is_below = subst (AreBelow edit.replaced.start) (sym gone.before) below

    pub is_behind : AreBehind edit.replaced.end g2.after
    is_behind = behind kind s old new edit edited mark g2.after left.entries left.far

    same_len : g2.len ≡ length old
    same_len = gone.len ∙ long

    pub fits : length new + 1 < 18446744073709551616 → FitsEdit g2.len edit
    fits h =
        let l = same_len in
        let n = sized kind s old new edit edited in
        record { order = edited.order; inside = omega (arith, edited.inside, l); fits = omega (arith, n, l, h) }

    pub mark_fits : length new + 1 < 18446744073709551616 →
        place_of mark - (edit.replaced.end - edit.replaced.start) + edit.inserted < 18446744073709551616
    mark_fits h =
        let n = sized kind s old new edit edited in
        let i = left.inside in
        omega (arith, n, i, h, edited.inside, edited.order)

    module _ (g3 : Gapped) (now : g3 ≡ record { before = g2.before; after = map (moved_with edit) g2.after; len = len_after edit g2.len }) where
      pub len_is : g3.len ≡ length new
      len_is = ap (λ (g : Gapped). g.len) now ∙ ap (len_after edit) same_len ∙ sym (sized kind s old new edit edited)

      pub before_is : g3.before ≡ g1.before
      before_is = ap (λ (g : Gapped). g.before) now ∙ gone.before

      pub first_is : AreFirst kind s new None g3.before
      first_is = subst (AreFirst kind s new None) (sym before_is) (kept kind s old new edit.replaced.start edited.front None g1.before below
          (all_split kind s old None g1.before g1.after are).0)

      pub rest_is : Meets kind s new (mark_after edit mark) g3.after
      rest_is = subst (Meets kind s new (mark_after edit mark)) (sym (ap (λ (g : Gapped). g.after) now))
          (meets kind s old new edit edited mark g2.after left.entries left.far)

      pub carried : (g4 : Gapped) → IsSearchedOn g3 g4 → IsCarried edit g1 g4
      carried g4 on =
          let r = map_split (moved_with edit) g2.after on.gone g4.after (sym (ap (λ (g : Gapped). g.after) now) ∙ on.after) in
          record {
            anew = on.anew;
            gone = gone.dropped ++ r.0;
            rest = r.1;
            before = on.before ∙ ap (λ es. es ++ on.anew) before_is;
            after = gone.split ∙ ap (λ es. gone.dropped ++ es) r.2 ∙ sym (append_assoc gone.dropped r.0 r.1);
            moved = sym r.4;
            behind = (behind_split edit.replaced.end r.0 r.1 (subst (AreBehind edit.replaced.end) r.2 is_behind)).1;
          }

  -- ---- the whole list

  module _ (g0 g1 g4 : Gapped) (settled : IsSettledTo edit.replaced.start g0 g1) (c : IsCarried edit g1 g4) where
    -- fewer entries are after the gap
    pub fewer : length g4.after ≤ length g1.after
    fewer =
        let l1 = ap length c.after in
        let l2 = length-append c.gone c.rest in
        let l3 = ap length c.moved in
        let l4 = length_moved c.rest in
        omega (arith, l1, l2, l3, l4)

    pub laid : AreEntries kind s old None (all_of g0) → AreEntries kind s new None (all_of g4) → g4.len ≡ length new →
        length new + 1 < 18446744073709551616 → AreLaid edit (all_of g0) (all_of g4) (length old) g4.len
    laid are all len fits = record {
      before = follow kind s old None (all_of g0) are.first;
      after = rw len (follow kind s new None (all_of g4) all.first);
      order = edited.order;
      inside = edited.inside;
      len = len ∙ sized kind s old new edit edited;
      fits = omega (arith, len, fits);
    }

    pub split : (d : Changed) → d.first ≡ length g1.before → d.dropped ≡ length g1.after - length g4.after →
        d.added ≡ length g4.before - length g1.before → IsSplit edit (all_of g0) (all_of g4) d
    split d first dropped added =
        let l1 = ap length c.after in
        let l2 = length-append c.gone c.rest in
        let l3 = ap length c.moved in
        let l4 = length_moved c.rest in
        let l5 = ap length c.before in
        let l6 = length-append g1.before c.anew in
        record {
          changed = record {
            kept = g1.before;
            gone = c.gone;
            anew = c.anew;
            rest = c.rest;
            old_is = sym settled.all ∙ ap (λ es. g1.before ++ es) c.after;
            new_is = ap₂ (λ xs ys. xs ++ ys) c.before c.moved ∙ append_assoc g1.before c.anew (map (moved_with edit) c.rest);
            first = first;
            dropped = omega (arith, dropped, l1, l2, l3, l4);
            added = omega (arith, added, l5, l6);
          };
          below = settled.below;
          behind = c.behind;
        }
