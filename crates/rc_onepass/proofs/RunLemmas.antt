-- A run along a walk, a byte at a time.
use Rattle.std.proofs.Common.{◌≡◌, ◌≢◌, ℕ, ◌+◌, ◌<◌, ◌≤◌, List, map, [], ◌∷◌, length, Option, Some, None, slice_get, slice_index_or, slice_range, IsTrue, sym, subst, ap, ap₂, ◌∙◌, refl, arith, ⊎_elim}
use Rattle.std.specs.Option.{option_or}
use Rattle.std.proofs.lemmas.Bool.{cases_lt}
use Rattle.std.proofs.lemmas.List.{get_or_past}
use Rattle.std.proofs.lemmas.Option.{none-some, same_Some}
use Rattle.rc_text.specs.Found.{Found}
use Rattle.rc_text.proofs.Ranges.{slice_get-slice_range}
use Rattle.rc_walks.specs.Walks.{Pair, IsIn, IsWalk, goes, stops}
use Rattle.rc_program.specs.Text.{ahead, holds}
use Rattle.rc_program.specs.Answer.{Chosen, Search, ends, last_of, last_visit, next_of, only, pattern_at}
use Rattle.rc_onepass.specs.OnePass.{IsEntered, IsOnePass, at_first, by_byte}
use Rattle.rc_onepass.specs.Rows.{IsOnePassOf, Names, none, one, TellsRow}
use Rattle.rc_onepass.specs.Walked.{HasVisits, HasWide, IsWalkOver, Marks, Stands}
use Rattle.rc_program.specs.Program.{Place, accept, choice, pair_at, place_at, ways_out}
use Rattle.rc_program.proofs.AnswerLemmas.{match_place_is}
use Rattle.rc_program.proofs.WayLemmas.{past_places}
use Rattle.rc_onepass.specs.declared.row.Link.{Link}
use Rattle.rc_onepass.specs.declared.row.Row.{Row}
use Rattle.rc_onepass.specs.declared.row.Transition.{Transition}
use Rattle.rc_onepass.specs.declared.onepass.OnePass.{OnePass}
use Rattle.rc_onepass.proofs.StepLemmas.{ends_here, reads_byte}

begins_with : (xs : List ℕ) (b : ℕ) → slice_get xs 0 ≡ Some b → (bs : List ℕ) × (xs ≡ b ∷ bs)
begins_with [] b e = absurd (none-some b e)
begins_with (x ∷ xs) b e = (xs, ap (λ y. y ∷ xs) (same_Some x b e))

ahead_begins : (s : Search) (at b : ℕ) → at < s.hi → slice_get s.text.content at ≡ Some b → (bs : List ℕ) × (ahead s.text s.hi at ≡ b ∷ bs)
ahead_begins s at b lt e =
    let same : at + 0 ≡ at = omega arith in
    begins_with (ahead s.text s.hi at) b (slice_get-slice_range s.text.content at s.hi 0 (omega (arith, lt)) ∙ ap (slice_get s.text.content) same ∙ e)

-- the byte of a piece is that of the content
pub piece_byte : (content piece : List ℕ) (start i b : ℕ) → piece ≡ slice_range content start (start + length piece) → slice_get piece i ≡ Some b → i < length piece →
    slice_get content (start + i) ≡ Some b
piece_byte content piece start i b e here lt =
    sym (slice_get-slice_range content start (start + length piece) i (omega (arith, lt))) ∙ ap (λ xs. slice_get xs i) (sym e) ∙ here

ascii_alone : (row : Row) (b : ℕ) (t : Transition) → length row.transitions.items ≡ 128 → slice_index_or row.transitions.items b None ≡ Some t → b < 128
ascii_alone row b t whole e =
    ⊎_elim (λ l. l) (λ ge. absurd (none-some t (sym (get_or_past row.transitions.items b None (omega (arith, ge, whole))) ∙ e))) (cases_lt b 128)

same_place : (q at : ℕ) (n : Pair) → IsIn n ((q, at) ∷ []) → n.0 ≡ q
same_place q at n is = ⊎_elim (λ e. sym (ap (λ (p : Pair). p.0) e)) (λ never. absurd never) is

module _ (s : Search) where
  stuck : {passed from w : List Pair} → IsWalk (next_of s) (λ n. IsTrue (ends s n)) passed from w → from ≡ [] → ⊥
  stuck (stops n is fresh e) empty = subst (λ ns. IsIn n ns) empty is
  stuck (goes n is fresh rest) empty = subst (λ ns. IsIn n ns) empty is

  leads_nowhere : (q at : ℕ) {passed w : List Pair} → IsWalk (next_of s) (λ n. IsTrue (ends s n)) passed ((q, at) ∷ []) w → place_at s.places q ≡ choice [] → ⊥
  leads_nowhere q at (stops n is fresh e) dead =
      let here : place_at s.places n.0 ≡ choice [] = ap (λ k. place_at s.places k) (same_place q at n is) ∙ dead in
      let match : place_at s.places n.0 ≡ accept (pattern_at (place_at s.places n.0)) = match_place_is (only s.anchoring) (place_at s.places n.0) e in
      cc
  leads_nowhere q at (goes n is fresh rest) dead =
      stuck rest
      (ap (λ z. map (pair_at n.1) (ways_out (λ l. holds s.text l n.1) (ahead s.text s.hi n.1) z)) (ap (λ k. place_at s.places k) (same_place q at n is) ∙ dead))

  walk_from : (q at : ℕ) {passed w : List Pair} → IsWalk (next_of s) (λ n. IsTrue (ends s n)) passed ((q, at) ∷ []) w → q < length s.places
  walk_from q at walk = ⊎_elim (λ l. l) (λ ge. absurd (leads_nowhere q at walk (past_places s.places q ge))) (cases_lt q (length s.places))

-- before the first byte
pub stands_first : (s : Search) (c : Chosen) (m : Found) (slots : List (Option ℕ)) → IsWalkOver s c m → Stands s c.walk slots m.start 0 slots
stands_first s c m slots w = record {
  passed = [];
  rest = c.walk;
  walk = subst (λ x. IsWalk (next_of s) (λ n. IsTrue (ends s n)) [] ((0, x) ∷ []) c.walk) (ap (λ (f : Found). f.start) w.found) w.walk;
  last = refl;
  within = w.within;
  inside = w.inside;
  entered = at_first;
  long = refl;
  visits = λ k l. refl;
}

pub walk_end : (s : Search) (c : Chosen) (m : Found) → IsWalkOver s c m → m.end ≡ (last_of c.walk).1
walk_end s c m w = sym (ap (λ (f : Found). f.end) w.found)

module _ (dfa : OnePass) (s : Search) (w : List Pair) (before : List (Option ℕ)) (sound : IsOnePassOf s.places dfa) where
  -- a turn over one byte
  pub stands_turn : (at q : ℕ) (slots after : List (Option ℕ)) (row : Row) (t : Transition) (b : ℕ) → slice_get dfa.rows.items q ≡ Some (Some row) →
      slice_index_or row.transitions.items b None ≡ Some t → slice_get s.text.content at ≡ Some b → at < (last_of w).1 → Stands s w before at q slots →
      ((ks : List ℕ) → Names row.links.items t.slots ks → Marks ks at slots after) → Stands s w before (at + 1) t.next after
  stands_turn at q slots after row t b there takes byte lt st marks =
      let tells = sound.rows q row there in
      let small = ascii_alone row b t tells.whole takes in
      let front = ahead_begins s at b (let h = st.within in omega (arith, lt, h)) byte in
      let r = reads_byte s q at b front.0 small front.1 st.walk (subst (λ (p : Pair). at < p.1) (sym st.last) lt) in
      let o = (tells.tells r.slots r.place r.leads).over b r.next small r.takes in
      let same : o.transition ≡ t = same_Some o.transition t (sym o.there ∙ takes) in
      let m = marks r.slots (subst (λ (u : Transition). Names row.links.items u.slots r.slots) same o.slots) in
      record {
        passed = r.passed;
        rest = r.rest;
        walk = subst (λ n. IsWalk (next_of s) (λ p. IsTrue (ends s p)) r.passed ((n, at + 1) ∷ []) r.rest) (sym o.next ∙ ap (λ (u : Transition). u.next) same) r.walk;
        last = r.last ∙ st.last;
        within = st.within;
        inside = st.inside;
        entered = subst (λ n. IsEntered s.places n) (sym o.next ∙ ap (λ (u : Transition). u.next) same) (by_byte r.place b r.takes);
        long = m.long ∙ st.long;
        visits = λ k l.
            st.visits k l ∙ r.visits k (slice_index_or slots k None)
            ∙ ap (λ y. option_or (last_visit s.places k r.rest) y) (sym (m.marked k (let e = st.long in omega (arith, l, e))));
      }

  -- at the end
  pub stands_last : (at q : ℕ) (slots after : List (Option ℕ)) (row : Row) (number : ℕ) → slice_get dfa.rows.items q ≡ Some (Some row) →
      row.end ≡ Some number → at ≡ (last_of w).1 → Stands s w before at q slots →
      ((ks : List ℕ) → Names row.links.items number ks → Marks ks at slots after) → HasVisits s w before after
  stands_last at q slots after row number there ends e st marks k l =
      let tells = sound.rows q row there in
      let r = ends_here s q at st.walk (ap (λ (p : Pair). p.1) st.last ∙ sym e) in
      let o = (tells.tells r.slots r.place r.leads).ends r.pattern r.ended in
      let same : o.slots ≡ number = same_Some o.slots number (sym o.there ∙ ends) in
      let m = marks r.slots (subst (λ j. Names row.links.items j r.slots) same o.names) in
      sym (st.visits k l ∙ r.visits k (slice_index_or slots k None) ∙ sym (m.marked k (let f = st.long in omega (arith, l, f))))

  -- a place has a row where a walk leads on from it
  pub row_there : (at q : ℕ) (slots : List (Option ℕ)) → Stands s w before at q slots → ((row : Row) → slice_get dfa.rows.items q ≢ Some (Some row)) → ⊥
  row_there at q slots st never = let r = sound.whole q (walk_from s q at st.walk) st.entered in never r.0 r.1

  -- a byte over which no way leads is past ASCII
  pub turn_wide : (at q : ℕ) (slots : List (Option ℕ)) (row : Row) (b : ℕ) → slice_get dfa.rows.items q ≡ Some (Some row) →
      slice_index_or row.transitions.items b None ≡ None → slice_get s.text.content at ≡ Some b → at < (last_of w).1 → Stands s w before at q slots →
      128 ≤ b
  turn_wide at q slots row b there nowhere byte lt st =
      ⊎_elim
      (λ small.
      let front = ahead_begins s at b (let h = st.within in omega (arith, lt, h)) byte in
      let r = reads_byte s q at b front.0 small front.1 st.walk (subst (λ (p : Pair). at < p.1) (sym st.last) lt) in
      let o = ((sound.rows q row there).tells r.slots r.place r.leads).over b r.next small r.takes in
      absurd (none-some o.transition (sym nowhere ∙ o.there)))
      (λ ge. ge)
      (cases_lt b 128)

  -- a match may end where the walk does
  pub end_there : (at q : ℕ) (slots : List (Option ℕ)) (row : Row) → slice_get dfa.rows.items q ≡ Some (Some row) → row.end ≡ None →
      at ≡ (last_of w).1 → Stands s w before at q slots → ⊥
  end_there at q slots row there nowhere e st =
      let r = ends_here s q at st.walk (ap (λ (p : Pair). p.1) st.last ∙ sym e) in
      let o = ((sound.rows q row there).tells r.slots r.place r.leads).ends r.pattern r.ended in
      none-some o.slots (sym nowhere ∙ o.there)

pub wide_within : (content : List ℕ) (i j k l : ℕ) → i ≤ k → l ≤ j → HasWide content k l → HasWide content i j
wide_within content i j k l low high h = let a = h.1.1 in let b = h.1.2 in (h.0, (h.1.0, omega (arith, a, low), omega (arith, b, high), h.1.3, h.1.4))

names_one : (links : List Link) {j : ℕ} {ks js : List ℕ} → Names links j ks → Names links j js → ks ≡ js
names_one links none none = refl
names_one links (one i link at lt rest) (one {ks = ms} _ other at_other lt_other rest_other) =
    let same : link ≡ other = same_Some link other (sym at ∙ at_other) in
    ap₂ (λ k ms. k ∷ ms) (ap (λ (l : Link). l.slot) same)
    (names_one links rest (subst (λ (l : Link). Names links l.before ms) (sym same) rest_other))

-- a row that tells all ways tells one
pub row_single : (places : List Place) (q : ℕ) (row : Row) → TellsRow places q row → IsOnePass places q
row_single places q row t = record {
  over = λ b small js ks l m i n a x c y.
      let f = (t.tells js l a).over b i small x in
      let g = (t.tells ks m c).over b n small y in
      let same : f.transition ≡ g.transition = same_Some f.transition g.transition (sym f.there ∙ g.there) in (
        names_one row.links.items (subst (λ (u : Transition). Names row.links.items u.slots js) same f.slots) g.slots,
        sym f.next ∙ ap (λ (u : Transition). u.next) same ∙ g.next,
      );
  ends = λ js ks l m p r a x c y.
      let f = (t.tells js l a).ends p x in
      let g = (t.tells ks m c).ends r y in
      names_one row.links.items (subst (λ j. Names row.links.items j js) (same_Some f.slots g.slots (sym f.there ∙ g.there)) f.names) g.names;
}
