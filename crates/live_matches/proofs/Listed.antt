-- Lists of entries, before and after an edit.
use Rattle.std.proofs.Common.{◌≡◌, ℕ, ◌+◌, ◌-◌, ◌<◌, ◌≤◌, List, [], ◌∷◌, ◌++◌, length, map, take, drop, Option, Some, None, sym, ap, subst, ◌∙◌, refl, arith, take-take}
use Rattle.rc_text.specs.declared.types.MatchKind.{MatchKind}
use Rattle.rc_program.specs.Answer.{Search}
use Rattle.rc_program.specs.Matches
use Rattle.rc_program.specs.Matches.{AreMatches, begin_of, end_of}
use Rattle.rc_program.proofs.KindLemmas.{kinds_law}
use Rattle.rc_reach.specs.Live.{found_by, list_by, over_content}
use Rattle.live_matches.specs.Entry.{Entry}
use Rattle.live_matches.specs.Entries.{AreBelow, AreBehind, last_end, moved_by, reach_of}
use Rattle.live_matches.specs.Lists.{AreEntries, AreFirst, IsEntry, IsNextFixed, founds, next_after, place_of}
use Rattle.live_matches.proofs.Moves.{fixed_moved, lies, next_moved, none_moved}

module _ (kind : MatchKind) (s : Search) where
  -- the first of them, and the others
  pub first_append : (c : List ℕ) (last : Option ℕ) (es fs : List Entry) → AreFirst kind s c last es →
      AreFirst kind s c (last_end last es) fs → AreFirst kind s c last (es ++ fs)
  first_append c last [] fs a b = b
  first_append c last (e ∷ es) fs a b = (a.0, first_append c (Some e.found.end) es fs a.1 b)

  pub first_split : (c : List ℕ) (last : Option ℕ) (es fs : List Entry) → AreFirst kind s c last (es ++ fs) →
      AreFirst kind s c last es × AreFirst kind s c (last_end last es) fs
  first_split c last [] fs a = (tt, a)
  first_split c last (e ∷ es) fs a = let r = first_split c (Some e.found.end) es fs a.1 in ((a.0, r.0), r.1)

  pub end_append : (last : Option ℕ) (es fs : List Entry) → last_end last (es ++ fs) ≡ last_end (last_end last es) fs
  end_append last [] fs = refl
  end_append last (e ∷ es) fs = end_append (Some e.found.end) es fs

  pub all_append : (c : List ℕ) (last : Option ℕ) (es fs : List Entry) → AreFirst kind s c last es →
      AreEntries kind s c (last_end last es) fs → AreEntries kind s c last (es ++ fs)
  all_append c last es fs a b = record {
    first = first_append c last es fs a b.first;
    ended = ap (next_after kind s c) (end_append last es fs) ∙ b.ended;
  }

  pub all_split : (c : List ℕ) (last : Option ℕ) (es fs : List Entry) → AreEntries kind s c last (es ++ fs) →
      AreFirst kind s c last es × AreEntries kind s c (last_end last es) fs
  all_split c last es fs a =
      let r = first_split c last es fs a.first in
      (r.0, record { first = r.1; ended = ap (next_after kind s c) (sym (end_append last es fs)) ∙ a.ended })

  -- each lies after the match before it
  pub all_behind : (c : List ℕ) (p q : ℕ) (es : List Entry) → q < p → AreFirst kind s c (Some p) es → AreBehind q es
  all_behind c p q [] over a = tt
  all_behind c p q (e ∷ es) over a =
      let h = (lies kind s c (Some p) e.found a.0.found).0 in
      (omega (arith, over, h.0), h.2, all_behind c e.found.end q es (omega (arith, over, h.0, h.2)) a.1)

  -- no entry reaches past the content
  pub all_inside : (c : List ℕ) (last : Option ℕ) (es : List Entry) → AreFirst kind s c last es → (end : ℕ) → last_end last es ≡ Some end →
      (last ≡ Some end → end ≤ length c) → end ≤ length c
  all_inside c last [] a end e h = h e
  all_inside c last (e ∷ es) a end x h =
      let l = (lies kind s c last e.found a.0.found).0 in
      all_inside c (Some e.found.end) es a.1 end x (λ y. let z = ap place_of y in omega (arith, l.3, z))

  -- ---- the entries that the bytes before a place settle

  module _ (c w : List ℕ) (a : ℕ) (same : take a w ≡ take a c) where
    less : (r : ℕ) → r ≤ a → (xs : List ℕ) → take r (take a xs) ≡ take r xs
    less r h xs = take-take r a xs h

    same_less : (r : ℕ) → r ≤ a → take r w ≡ take r c
    same_less r h = sym (less r h w) ∙ ap (take r) same ∙ less r h c

    kept_one : (last : Option ℕ) (e : Entry) → reach_of e ≤ a → IsEntry kind s c last e → IsEntry kind s w last e
    kept_one last e h is = record {
      found = is.fixed w (same_less (reach_of e) h) ∙ is.found;
      fixed = λ other agree. is.fixed other (agree ∙ same_less (reach_of e) h) ∙ sym (is.fixed w (same_less (reach_of e) h));
    }

    pub kept : (last : Option ℕ) (es : List Entry) → AreBelow a es → AreFirst kind s c last es → AreFirst kind s w last es
    kept last [] below first = tt
    kept last (e ∷ es) below first = (kept_one last e below.0 first.0, kept (Some e.found.end) es below.1 first.1)

  -- ---- the entries four bytes after the replaced bytes

  module _ (c w : List ℕ) (a b n : ℕ) (order : a ≤ b) (same : drop b c ≡ drop (a + n) w) (in_c : b ≤ length c) (in_w : a + n ≤ length w) where
    abbrev pub further : Entry → Entry
    further e = moved_by (b - a) n e

    moved_one : (p : ℕ) (e : Entry) → b + 4 ≤ p → IsEntry kind s c (Some p) e → IsEntry kind s w (Some (p - (b - a) + n)) (further e)
    moved_one p e far is =
        let h = (lies kind s c (Some p) e.found is.found).0 in
        let k = p - b in
        let at : p ≡ k + b = omega (arith, far) in
        let there : p - (b - a) + n ≡ k + (a + n) = omega (arith, far, order) in
        let r = reach_of e in
        let q = reach_of (further e) in
        let four : 4 ≤ k = omega (arith, far) in
        record {
          found = ap (λ x. next_after kind s w (Some x)) there
              ∙ next_moved kind s c w b (a + n) same in_c in_w k e.found (further e).found four
              (record { pattern = refl; start = omega (arith, far, order, h.0); end = omega (arith, far, order, h.0, h.2) })
              (ap (λ x. next_after kind s c (Some x)) (sym at) ∙ is.found);
          fixed = subst (λ x. IsNextFixed kind s w q (Some x)) (sym there)
              (fixed_moved kind s c w b (a + n) same in_c in_w k r q four (omega (arith, far, order, h.0, h.2)) (omega (arith, far, h.0, h.2))
              (subst (λ x. IsNextFixed kind s c r (Some x)) at is.fixed));
        }

    moved_first : (p : ℕ) (es : List Entry) → b + 4 ≤ p → AreFirst kind s c (Some p) es →
        AreFirst kind s w (Some (p - (b - a) + n)) (map further es)
    moved_first p [] far first = tt
    moved_first p (e ∷ es) far first =
        let h = (lies kind s c (Some p) e.found first.0.found).0 in
        (moved_one p e far first.0, moved_first e.found.end es (omega (arith, far, h.0, h.2)) first.1)

    -- where the last of them ends
    last_moved : (p : ℕ) (es : List Entry) → b + 4 ≤ p → AreFirst kind s c (Some p) es →
        (o : ℕ) × (b + 4 ≤ o) × (last_end (Some p) es ≡ Some o) × (last_end (Some (p - (b - a) + n)) (map further es) ≡ Some (o - (b - a) + n))
    last_moved p [] far first = (p, far, refl, refl)
    last_moved p (e ∷ es) far first =
        let h = (lies kind s c (Some p) e.found first.0.found).0 in
        last_moved e.found.end es (omega (arith, far, h.0, h.2)) first.1

    pub moved : (p : ℕ) (es : List Entry) → b + 4 ≤ p → AreEntries kind s c (Some p) es →
        AreEntries kind s w (Some (p - (b - a) + n)) (map further es)
    moved p es far are =
        let r = last_moved p es far are.first in
        let o = r.0 in
        let k = o - b in
        let at : o ≡ k + b = omega (arith, r.1) in
        let there : o - (b - a) + n ≡ k + (a + n) = omega (arith, r.1, order) in
        record {
          first = moved_first p es far are.first;
          ended = ap (next_after kind s w) r.3 ∙ ap (λ x. next_after kind s w (Some x)) there
              ∙ none_moved kind s c w b (a + n) same in_c in_w k (omega (arith, r.1))
              (ap (λ x. next_after kind s c (Some x)) (sym at) ∙ ap (next_after kind s c) (sym r.2) ∙ are.ended);
        }

  -- ---- their matches are the list

  are_matches : (c : List ℕ) (last : Option ℕ) (es : List Entry) → AreFirst kind s c last es → next_after kind s c (last_end last es) ≡ None →
      AreMatches begin_of end_of (found_by kind s c) (place_of last) last (founds es)
  are_matches c last [] first e = Matches.ends e
  are_matches c last (e ∷ es) first x = Matches.goes_on e.found first.0.found (are_matches c (Some e.found.end) es first.1 x)

  pub are_list : (c : List ℕ) (es : List Entry) → AreEntries kind s c None es → founds es ≡ list_by kind s c
  are_list c es are = kinds_law.alone kind (over_content s c) 0 (founds es) (are_matches c None es are.first are.ended)
