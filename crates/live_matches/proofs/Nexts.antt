-- The next entry, and what it leaves to search.
use Rattle.std.proofs.Common.{◌≡◌, ℕ, ◌+◌, ◌-◌, ◌<◌, ◌≤◌, true, List, [], ◌∷◌, ◌++◌, length, map, take, max, Option, Some, None, if◌then◌else◌, sym, ap, subst, ◌∙◌, refl, arith, take-take, length-drop, append_assoc, ⊎_elim}
use Rattle.std.proofs.lemmas.List.{append-nil}
use Rattle.std.proofs.lemmas.Bool.{le-ltb, lt-ltb, cases_lt}
use Rattle.rc_text.specs.Found.{Found}
use Rattle.rc_text.specs.declared.types.MatchKind.{MatchKind}
use Rattle.rc_program.specs.Answer.{Search}
use Rattle.rc_program.specs.Matches.{begin_of, end_of, is_again, unless_again}
use Rattle.rc_reach.specs.Fixed.{IsFixed}
use Rattle.rc_reach.specs.Live.{found_by}
use Rattle.live_matches.specs.declared.entry.Edit.{Edit}
use Rattle.live_matches.specs.Entry.{Entry}
use Rattle.live_matches.specs.Entries.{AreBehind, Gapped, IsSkipped, is_before, last_end, len_after, moved_with, reach_of}
use Rattle.live_matches.specs.Lists.{AreEntries, AreFirst, IsEntry, IsSearchedOn, Meets, mark_after, next_after, place_of}
use Rattle.live_matches.specs.Live.{IsEdited}
use Rattle.live_matches.specs.Quiet.{HasGone}
use Rattle.live_matches.proofs.Moves.{lies}
use Rattle.live_matches.proofs.Listed.{all_append, all_behind, first_append, moved}
use Rattle.live_matches.proofs.Gaps.{end_push}

-- the entries that are skipped go
pub gone_by : (mark : Option ℕ) (at : ℕ) (g : Gapped) (now : Option ℕ) (h : Gapped) → IsSkipped mark at g now h → HasGone g h
gone_by mark at g now h skip = record { dropped = skip.dropped; split = skip.split; before = skip.before; len = skip.len }

module _ (kind : MatchKind) (s : Search) where
  -- the search from the next byte counts if the first match is the empty one again
  next_again : (c : List ℕ) (k : ℕ) (last : Option ℕ) (m : Found) → found_by kind s c k ≡ Some m → is_again begin_of end_of last m ≡ true →
      unless_again begin_of end_of (found_by kind s c) k last (found_by kind s c k) ≡ found_by kind s c (k + 1)
  next_again c k last m e again =
      ap (unless_again begin_of end_of (found_by kind s c) k last) e
      ∙ ap (λ b. if b then found_by kind s c (k + 1) else Some m) again

  fewer : (r q : ℕ) (other c : List ℕ) → q ≤ r → take r other ≡ take r c → take q other ≡ take q c
  fewer r q other c h e = sym (take-take q r other h) ∙ ap (take q) e ∙ take-take q r c h

  pub again : (c : List ℕ) (last : Option ℕ) (m n : Found) (r q : ℕ) (e : Entry) → found_by kind s c (place_of last) ≡ Some m →
      is_again begin_of end_of last m ≡ true → found_by kind s c (place_of last + 1) ≡ Some n →
      IsFixed kind s c r (place_of last) → IsFixed kind s c q (place_of last + 1) → e.found ≡ n → max r q ≤ reach_of e → IsEntry kind s c last e
  again c last m n r q e first twice second fixed later same reach = record {
    found = next_again c (place_of last) last m first twice ∙ second ∙ ap Some (sym same);
    fixed = λ other agree.
        let a = fewer (reach_of e) r other c (omega (arith, reach)) agree in
        let b = fewer (reach_of e) q other c (omega (arith, reach)) agree in
        next_again other (place_of last) last m (fixed other a ∙ first) twice ∙ later other b ∙ sym (next_again c (place_of last) last m first twice);
  }

  -- ---- what is left of the old list

  skipped_some : (c : List ℕ) (p : ℕ) (gone rest : List Entry) (now : Option ℕ) → now ≡ last_end (Some p) gone →
      AreEntries kind s c (Some p) (gone ++ rest) → Meets kind s c now rest
  skipped_some c p [] rest now e are = subst (λ m. Meets kind s c m rest) (sym e) are
  skipped_some c p (d ∷ gone) rest now e are =
      skipped_some c d.found.end gone rest now e (record { first = are.first.1; ended = are.ended })

  pub none_of_none : (gone rest : List Entry) → gone ++ rest ≡ [] → (gone ≡ []) × (rest ≡ [])
  none_of_none [] rest e = (refl, e)
  none_of_none (d ∷ gone) rest e = absurd (let l = ap length e in omega (arith, l))

  pub skipped : (c : List ℕ) (mark now : Option ℕ) (es gone rest : List Entry) → Meets kind s c mark es → es ≡ gone ++ rest →
      now ≡ last_end mark gone → Meets kind s c now rest
  skipped c None now es gone rest meets split e =
      let r = none_of_none gone rest (sym split ∙ meets) in
      subst (λ m. Meets kind s c m rest) (sym (e ∙ ap (last_end None) r.0)) r.1
  skipped c (Some p) now es gone rest meets split e =
      skipped_some c p gone rest now e (subst (AreEntries kind s c (Some p)) split meets)

  -- how much is left to search
  abbrev pub left : ℕ → Option ℕ → ℕ
  left n None = n + 1
  left n (Some p) = n - p

  pub left_falls : (c : List ℕ) (last : Option ℕ) (m : Found) → next_after kind s c last ≡ Some m →
      (left (length c) (Some m.end) < left (length c) last) × (m.end ≤ length c)
  left_falls c None m e = let h = lies kind s c None m e in (omega arith, h.0.3)
  left_falls c (Some p) m e = let h = lies kind s c (Some p) m e in let x = h.0.3 in let y = h.1 in (omega (arith, x, y), x)

  -- the last match ends in the content
  pub ends_inside : (c : List ℕ) (last : Option ℕ) (es : List Entry) → place_of last ≤ length c → AreFirst kind s c last es →
      place_of (last_end last es) ≤ length c
  ends_inside c last [] h first = h
  ends_inside c last (e ∷ es) h first = ends_inside c (Some e.found.end) es (left_falls c last e.found first.0.found).1 first.1

  -- one more entry is found, and the entries that it passes are dropped
  module _ (c : List ℕ) (g p h : Gapped) (e : Entry) (pushed : p ≡ record g { before = g.before ++ e ∷ [] }) (went : HasGone p h) where
    pub before_is : h.before ≡ g.before ++ e ∷ []
    before_is = went.before ∙ ap (λ (x : Gapped). x.before) pushed

    pub one_on : (f : Gapped) → IsSearchedOn f g → IsSearchedOn f h
    one_on f i = record {
      anew = i.anew ++ e ∷ [];
      gone = i.gone ++ went.dropped;
      before = before_is ∙ ap (λ es. es ++ e ∷ []) i.before ∙ append_assoc f.before i.anew (e ∷ []);
      after = i.after ∙ ap (λ es. i.gone ++ es) (sym (ap (λ (x : Gapped). x.after) pushed) ∙ went.split)
          ∙ sym (append_assoc i.gone went.dropped h.after);
      len = went.len ∙ ap (λ (x : Gapped). x.len) pushed ∙ i.len;
    }

    pub one_last : last_end None h.before ≡ Some e.found.end
    one_last = ap (last_end None) before_is ∙ end_push None g.before e

    pub one_first : (last : Option ℕ) → last ≡ last_end None g.before → IsEntry kind s c last e → AreFirst kind s c None g.before →
        AreFirst kind s c None h.before
    one_first last same is first =
        subst (AreFirst kind s c None) (sym before_is)
        (first_append kind s c None g.before (e ∷ []) first (subst (λ l. IsEntry kind s c l e) same is, tt))

    module _ (mark now : Option ℕ) (at : ℕ) (skip : IsSkipped mark at p now h) where
      pub one_rest : Meets kind s c mark g.after → Meets kind s c now h.after
      one_rest meets =
          skipped c mark now g.after skip.dropped h.after meets (sym (ap (λ (x : Gapped). x.after) pushed) ∙ skip.split) skip.mark_is

      -- the next match of both lists is the same
      pub one_all : (last : Option ℕ) → last ≡ last_end None g.before → IsEntry kind s c last e → AreFirst kind s c None g.before →
          Meets kind s c mark g.after → now ≡ Some e.found.end → AreEntries kind s c None (h.before ++ h.after)
      one_all last same is first meets there =
          all_append kind s c None h.before h.after (one_first last same is first)
          (subst (λ l. AreEntries kind s c l h.after) (sym one_last) (subst (λ m. Meets kind s c m h.after) there (one_rest meets)))

  -- the entries after the gap are dropped
  pub none_on : (f g h : Gapped) → h ≡ record g { after = [] } → IsSearchedOn f g → IsSearchedOn f h
  none_on f g h same i = record {
    anew = i.anew;
    gone = i.gone ++ g.after;
    before = ap (λ (x : Gapped). x.before) same ∙ i.before;
    after = i.after ∙ sym (append-nil (i.gone ++ g.after)) ∙ ap (λ es. i.gone ++ g.after ++ es) (sym (ap (λ (x : Gapped). x.after) same));
    len = ap (λ (x : Gapped). x.len) same ∙ i.len;
  }

  -- ---- over an edit

  module _ (old new : List ℕ) (edit : Edit) (are : IsEdited edit old new) where
    pub sized : length new ≡ len_after edit (length old)
    sized =
        let l = ap length are.back in
        let m = length-drop (edit.replaced.start + edit.inserted) new in
        let n = length-drop edit.replaced.end old in
        omega (arith, l, m, n, are.order, are.inside, are.room)

    pub behind : (mark : Option ℕ) (es : List Entry) → AreEntries kind s old mark es →
        (is_before mark (edit.replaced.end + 4) ≡ true → es ≡ []) → AreBehind edit.replaced.end es
    behind None es entries far = subst (AreBehind edit.replaced.end) (sym (far refl)) tt
    behind (Some p) es entries far =
        ⊎_elim (λ t. subst (AreBehind edit.replaced.end) (sym (far (lt-ltb p (edit.replaced.end + 4) t))) tt)
        (λ f. all_behind kind s old p edit.replaced.end es (omega (arith, f)) entries.first)
        (cases_lt p (edit.replaced.end + 4))

    pub meets : (mark : Option ℕ) (es : List Entry) → AreEntries kind s old mark es →
        (is_before mark (edit.replaced.end + 4) ≡ true → es ≡ []) →
        Meets kind s new (mark_after edit mark) (map (moved_with edit) es)
    meets None es entries far = ap (map (moved_with edit)) (far refl)
    meets (Some p) es entries far =
        ⊎_elim
        (λ t. rw (lt-ltb p (edit.replaced.end + 4) t) (ap (map (moved_with edit)) (far (lt-ltb p (edit.replaced.end + 4) t))))
        (λ f. rw (le-ltb p (edit.replaced.end + 4) f)
        (moved kind s old new edit.replaced.start edit.replaced.end edit.inserted are.order (sym are.back) are.inside are.room p es f entries))
        (cases_lt p (edit.replaced.end + 4))
