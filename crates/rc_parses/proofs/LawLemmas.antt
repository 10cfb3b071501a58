-- Preference is the patterns' own.
use Rattle.std.proofs.Common.{◌≡◌, ◌≢◌, nat_eq, if◌then◌else◌, ℕ, zero, suc, ◌+◌, ◌-◌, ◌*◌, ◌<◌, ◌≤◌, ◌⊎◌, ◌↔◌, List, [], ◌∷◌, length, take, map, Bool, true, false, not, ◌||◌, IsTrue, true≢false, Option, Some, None, inl, inr, ⊎_elim, sym, subst, ap, ap₂, ◌∙◌, refl, arith, slice_get}
use Rattle.std.specs.Prelude.{All}
use Rattle.std.specs.List.{AllByRecursion}
use Rattle.std.proofs.lemmas.Bool.{cases_order}
use Rattle.std.proofs.lemmas.Option.{none-some, same_Some}
use Rattle.std.proofs.lemmas.List.Elements.{All-head, All-tail}
use Rattle.rc_text.specs.Text.{Searched, high, is_boundary}
use Rattle.rc_text.specs.Found.{Found as Match}
use Rattle.rc_pattern.specs.Re.{Re}
use Rattle.rc_pattern.specs.WellFormed.{group_count, group_numbers}
use Rattle.rc_walks.specs.Walks.{Pair}
use Rattle.rc_walks.specs.Threads.{noted}
use Rattle.rc_walks.proofs.CutLemmas.{first_is_one}
use Rattle.rc_program.specs.Text.{Text}
use Rattle.rc_program.specs.Program.{accept, place_at, program, shown, choice_of_patterns}
use Rattle.rc_program.specs.Answer.{Search, only, ends, next_of, IsFirstFrom, HasNoWalkFrom, IsPassed, IsAnswer, Chosen, answer, found, is_allowed, last_of, last_visit, pattern_at, pattern_of}
use Rattle.rc_program.specs.Laws.{IsNumbered, all_groups}
use Rattle.rc_program.specs.Sought.{Sought, search_for}
use Rattle.rc_program.proofs.AnswerLemmas.{last_pair, answer_law}
use Rattle.rc_program.proofs.PartLemmas.{Stand}
use Rattle.rc_program.proofs.WayLemmas.{same_pair}
use Rattle.rc_program.proofs.WholeLemmas.{stand_all}
use Rattle.rc_parses.specs.Parses.{Tree, Parse, IsParse, IsAllowed, IsLeastParse, IsBeforeBy, IsBefore}
use Rattle.rc_parses.specs.Preference.{IsParseFrom, IsLeastFrom, HasNoParseFrom, ends_well, IsPassedBy, IsPreferred, IsPreferredMatch, match_by}
use Rattle.rc_parses.specs.Laws.{SeeksPlain, IsAlike, PreferenceLaw, HasGroups, first_slot}
use Rattle.rc_parses.proofs.GoLemmas.{Shows, shows, or_none}
use Rattle.rc_parses.proofs.MeansLemmas.{Marks, note_at, marks, shown_one}
use Rattle.rc_parses.proofs.MarkLemmas.{unlike, noted_in, noted_visit, Ascends, range_ascends, starts_hold, ends_hold, keeps, range_within}
use Rattle.rc_parses.proofs.RootLemmas.{Result, Candidate, FoundBy, by_patterns, Go, slots_of_pattern, slots_behind}
use Rattle.rc_parses.proofs.OrderLemmas.{asym}

-- what holds of each pattern holds of the one of a number
each_get : (P : Re → Type 0) (hs : List Re) → All P hs → (k : ℕ) (h : Re) → slice_get hs k ≡ Some h → P h
each_get P [] all k h e = absurd (none-some h e)
each_get P (g ∷ hs) all zero h e = subst P (same_Some g h e) (All-head P g hs all)
each_get P (g ∷ hs) all (suc k) h e = each_get P hs (All-tail P g hs all) k h e

shown_by : (grouped : Bool) (hs : List Re) → shown grouped hs ≡ map (shown_one grouped) hs
shown_by true [] = refl
shown_by true (h ∷ hs) = ap (λ gs. h ∷ gs) (shown_by true hs)
shown_by false hs = refl

module _ (q : Sought) (i : Searched) (ok : SeeksPlain q) (x : ℕ) (le : x ≤ high i) where
  abbrev s : Search
  s = search_for q i

  abbrev hs : List Re
  hs = q.patterns

  abbrev grouped : Bool
  grouped = q.grouped

  candidate_to : (k : ℕ) (y : Tree) (j : ℕ) → Candidate s.text s.hi s.places (only s.anchoring) grouped 0 hs x k y j →
      IsParseFrom q i x (record { pattern = k; tree = y; end = j })
  candidate_to k y j c = let z : 0 + k ≡ k = omega arith in
      record { parses = (c.0, c.1, c.2); within = c.3; allowed = subst (IsAllowed (only s.anchoring)) z c.4 }

  candidate_from : (p : Parse) → IsParseFrom q i x p →
      Candidate s.text s.hi s.places (only s.anchoring) grouped 0 hs x p.pattern p.tree p.end
  candidate_from p c = let z : p.pattern ≡ 0 + p.pattern = omega arith in
      (c.parses.0, c.parses.1, c.parses.2, c.within, subst (IsAllowed (only s.anchoring)) z c.allowed)

  root : (o : Option Result) × Go s.text s.hi s.places (only s.anchoring) grouped [] ((0, x) ∷ []) o
      × FoundBy s.text s.hi s.places (only s.anchoring) grouped 0 (2 * length (shown grouped hs)) hs x o
  root = by_patterns s.text s.hi s.places (only s.anchoring) grouped 0 (2 * length (shown grouped hs)) hs ok.bounded ok.plain 0 0 0
      (subst (λ gs. Stand (program (shown grouped hs)) 0 ((choice_of_patterns 0 (2 * length (shown grouped hs)) gs).places 0 0 0)) (shown_by grouped hs)
      (stand_all [] (program (shown grouped hs)))) x le

  abbrev Decided : Type 0
  Decided = ((w : List Pair) × IsFirstFrom s x w × ((p : Parse) × IsLeastFrom q i x p × IsAlike q s p w)) ⊎ (HasNoWalkFrom s x × HasNoParseFrom q i x)

  abbrev parse_of : ℕ → Tree → ℕ → Parse
  parse_of k y j = record { pattern = k; tree = y; end = j }

  same_parse : (p r : Parse) → p.pattern ≡ r.pattern → p.tree ≡ r.tree → p.end ≡ r.end → p ≡ r
  same_parse p r a b c = ap₂ (λ u v. parse_of u v p.end) a b ∙ ap (parse_of r.pattern r.tree) c

  alike : (r : Result) (w : List Pair) → noted (λ h n. note_at (place_at s.places n.0) n.1 h) [] w ≡ r.0 → last_of w ≡ r.1 →
      (k : ℕ) (y : Tree) (j : ℕ) (h : Re) → slice_get hs k ≡ Some h → IsParse s.text h y x j →
      r.0 ≡ marks grouped (slots_of_pattern (2 * length (shown grouped hs)) (map (shown_one grouped) hs) k) y [] → place_at s.places r.1.0 ≡ accept (0 + k) → r.1.1 ≡ j →
      IsAlike q s (record { pattern = k; tree = y; end = j }) w
  alike r w note last k y j h at parse made place end =
      record {
        pattern = ap (λ (n : Pair). pattern_at (place_at s.places n.0)) last ∙ ap pattern_at place ∙ (omega arith);
        end = ap (λ (n : Pair). n.1) last ∙ end;
        group_starts = λ g n l. visited g (base + 2 * (n - 1)) ∙ starts_hold s.text base n l h 1 (omega arith) ascends y x j parse [] ∙ or_none _;
        group_ends = λ g n l. visited g (base + 2 * (n - 1) + 1) ∙ ends_hold s.text base n l h 1 (omega arith) ascends y x j parse [] ∙ or_none _;
        no_other = λ z l g e out.
            let same : g ≡ h = same_Some g h (sym e ∙ at) in
            visited z l
            ∙ keeps s.text base (group_count h) l (subst (λ z. (l < base) ⊎ (base + 2 * group_count z ≤ l)) same out) h
            (subst (AllByRecursion (λ m. (1 ≤ m) × (m ≤ group_count h))) (sym numbers) (range_within 1 (group_count h) (group_count h) (omega arith) (omega arith)))
            y x j parse [];
      }
    where
      base : ℕ
      base = 2 * length hs + 2 * all_groups (take k hs)

      numbers : IsNumbered h
      numbers = each_get IsNumbered hs ok.numbered k h at

      ascends : Ascends 1 (group_numbers h)
      ascends = subst (Ascends 1) (sym numbers) (range_ascends 1 (group_count h))

      where_it_is : (b : Bool) → IsTrue b → slots_of_pattern (2 * length (shown b hs)) (map (shown_one b) hs) k ≡ base
      where_it_is true z = ap (λ gs. slots_of_pattern (2 * length hs) gs k) (sym (shown_by true hs)) ∙ slots_behind (2 * length hs) hs k
      where_it_is false z = absurd (true≢false (sym z))

      visited : IsTrue grouped → (l : ℕ) → last_visit s.places l w ≡ noted_in l (marks true base y [])
      visited z l = sym (or_none (last_visit s.places l w)) ∙ sym (noted_visit s.places l [] w)
          ∙ ap (noted_in l) (note ∙ made ∙ ap₂ (λ b n. marks b n y []) z (where_it_is grouped z))

  pub decided : Decided
  decided = by_result root.0 (shows (next_of s) (ends s) Marks (λ h n. note_at (place_at s.places n.0) n.1 h) same_pair (last_pair s) root.1 []
      (λ m n i j. absurd i)) root.2
    where
      by_result : (o : Option Result) →
          Shows (next_of s) (ends s) Marks (λ h n. note_at (place_at s.places n.0) n.1 h) same_pair (last_pair s) [] [] ((0, x) ∷ []) o →
          FoundBy s.text s.hi s.places (only s.anchoring) grouped 0 (2 * length (shown grouped hs)) hs x o → Decided
      by_result None g f = inr (g, λ p c. f p.pattern p.tree p.end (candidate_from p c))
      by_result (Some r) g f = inl (
        g.0,
        g.1,
        (
          record { pattern = f.0; tree = f.1; end = f.2 },
          record {
            is_candidate = candidate_to f.0 f.1 f.2 f.3;
            is_least = λ p c. ⊎_elim (λ e. inl (same_parse p (record { pattern = f.0; tree = f.1; end = f.2 }) e.0 e.1 e.2)) (λ b. inr b)
                (f.4 p.pattern p.tree p.end (candidate_from p c));
          },
          alike r g.0 g.2 g.3 f.0 f.1 f.2 f.3.0 f.3.1 f.3.2 f.5 f.6 f.7,
        ),
      )

  pub first_is_least : (w : List Pair) → IsFirstFrom s x w → (p : Parse) × IsLeastFrom q i x p × IsAlike q s p w
  first_is_least w f =
      ⊎_elim
      (λ d. let e : d.0 ≡ w = first_is_one (next_of s) (λ n. IsTrue (ends s n)) [] ((0, x) ∷ []) d.0 w d.1 f in
      (d.2.0, d.2.1, subst (IsAlike q s d.2.0) e d.2.2))
      (λ d. absurd (d.0 w f.is_walk)) decided

  pub no_walk_no_parse : HasNoWalkFrom s x → HasNoParseFrom q i x
  no_walk_no_parse none = ⊎_elim (λ d. absurd (none d.0 d.1.is_walk)) (λ d. d.1) decided

  same_leave : (p : Parse) (w : List Pair) → IsAlike q s p w → is_allowed s w ≡ ends_well q i p
  same_leave p w a = ap (λ e. not s.passes_over || is_boundary s.text.content e) a.end

  pub passed_by : IsPassed s x → IsPassedBy q i x
  passed_by h =
      ⊎_elim (λ none. inl (no_walk_no_parse none))
      (λ w. let r = first_is_least w.0 w.1 in inr (r.0, r.1, sym (same_leave r.0 w.0 r.2) ∙ w.2)) h

abbrev found_at : ℕ → ℕ → ℕ → Match
found_at u v w = record { pattern = u; start = v; end = w }

module _ (q : Sought) (i : Searched) (ok : SeeksPlain q) where
  preferred : (c : Chosen) → IsAnswer (search_for q i) c → (p : Parse) × IsPreferred q i c.start p × IsAlike q (search_for q i) p c.walk
  preferred c a =
      let r = first_is_least q i ok c.start a.is_start.1 c.walk a.is_first in (
        r.0,
        record {
          is_start = a.is_start;
          is_least = r.1;
          allowed = sym (same_leave q i ok c.start a.is_start.1 r.0 c.walk r.2) ∙ a.allowed;
          none_before = λ y b l. passed_by q i ok y b.1 (a.none_before y b l);
        },
        r.2,
      )

  chosen_match : (c : Chosen) → IsAnswer (search_for q i) c → (m : Match) → found (search_for q i) c ≡ m → IsPreferredMatch q i (Some m)
  chosen_match c a m e =
      let r = preferred c a in
      subst (λ z. IsPreferredMatch q i (Some z)) e (r.0, r.1, ap₂ (λ u v. found_at u c.start v) r.2.pattern r.2.end)

-- of two parses at most one comes before the other
asym_by : (hs : List Re) (p q : Parse) → IsBeforeBy hs p q → IsBeforeBy hs q p → ⊥
asym_by hs p q a b =
    ⊎_elim
    (λ l. ⊎_elim (λ m. omega (arith, l, m)) (λ m. let e = m.0 in omega (arith, l, e)) b)
    (λ l. let e = l.0 in
    ⊎_elim (λ m. omega (arith, e, m))
    (λ m. let same : m.1.0 ≡ l.1.0 = same_Some m.1.0 l.1.0 (sym m.1.1 ∙ ap (slice_get hs) (sym e) ∙ l.1.1) in
    asym l.1.0 p.tree q.tree l.1.2 (subst (λ h. IsBefore h q.tree p.tree) same m.1.2)) b)
    a

one_least : (t : Text) (hi : ℕ) (allowed : Option ℕ) (hs : List Re) (x : ℕ) (p q : Parse) → IsLeastParse t hi allowed hs x p → IsLeastParse t hi allowed hs x q →
    p ≡ q
one_least t hi allowed hs x p q a b =
    ⊎_elim (λ e. sym e) (λ l. ⊎_elim (λ e. e) (λ m. absurd (asym_by hs p q l m)) (b.is_least p a.is_candidate)) (a.is_least q b.is_candidate)

-- a start with a least parse that isn't passed over gives a match
not_passed : (q : Sought) (i : Searched) (x : ℕ) (p : Parse) → IsLeastFrom q i x p → IsTrue (ends_well q i p) → IsPassedBy q i x → ⊥
not_passed q i x p least good passed =
    ⊎_elim (λ none. none p least.is_candidate)
    (λ r. true≢false (sym good ∙ ap (ends_well q i) (one_least _ _ _ q.patterns x p r.0 least r.1) ∙ r.2)) passed

-- there is one preferred match
one_match : (q : Sought) (i : Searched) (o p : Option Match) → IsPreferredMatch q i o → IsPreferredMatch q i p → o ≡ p
one_match q i None None a b = refl
one_match q i None (Some n) a b = absurd (not_passed q i n.start b.0 b.1.is_least b.1.allowed (a n.start b.1.is_start))
one_match q i (Some m) None a b = absurd (not_passed q i m.start a.0 a.1.is_least a.1.allowed (b m.start a.1.is_start))
one_match q i (Some m) (Some n) a b =
    ⊎_elim
    (λ e. ap Some (a.2 ∙ same_parts m.start n.start e a.0 b.0
    (one_least _ _ _ q.patterns n.start a.0 b.0 (subst (λ z. IsLeastFrom q i z a.0) e a.1.is_least) b.1.is_least) ∙ sym b.2))
    (⊎_elim (λ l. absurd (not_passed q i m.start a.0 a.1.is_least a.1.allowed (b.1.none_before m.start a.1.is_start l)))
    (λ l. absurd (not_passed q i n.start b.0 b.1.is_least b.1.allowed (a.1.none_before n.start b.1.is_start l))))
    (cases_order m.start n.start)
  where
    same_parts : (x y : ℕ) → x ≡ y → (p r : Parse) → p ≡ r → match_by x p ≡ match_by y r
    same_parts x y e p r f = ap₂ match_by e f

module _ (q : Sought) (i : Searched) (ok : SeeksPlain q) where
  -- the answer is the preferred match
  is_preferred : (o : Option Match) → answer (search_for q i) ≡ o → IsPreferredMatch q i o
  is_preferred None e = λ x b. passed_by q i ok x b.1 ((answer_law.answer_none (search_for q i)).0 e x b)
  is_preferred (Some m) e = let r = (answer_law.answer_some (search_for q i) m).0 e in chosen_match q i ok r.0 r.1 m r.2

  pub answered : (o : Option Match) → (answer (search_for q i) ≡ o) ↔ IsPreferredMatch q i o
  answered o = (is_preferred o, λ p. one_match q i (answer (search_for q i)) o (is_preferred (answer (search_for q i)) refl) p)

get_below : (hs : List Re) (k : ℕ) (h : Re) → slice_get hs k ≡ Some h → k < length hs
get_below [] k h e = absurd (none-some h e)
get_below (g ∷ hs) zero h e = omega arith
get_below (g ∷ hs) (suc k) h e = let l = get_below hs k h e in omega (arith, l)

other_slot : (a b k : ℕ) (x y o : Option ℕ) → k ≢ a → k ≢ b → (if nat_eq k a then x else if nat_eq k b then y else o) ≡ o
other_slot a b k x y o f g = rw (unlike k a f, unlike k b g) refl

slots_hold : (q : Sought) (s : Search) (p : Parse) (c : Chosen) → p.pattern < length q.patterns → IsAlike q s p c.walk → IsTrue q.grouped → HasGroups q s p c
slots_hold q s p c l a z n m =
    let e : pattern_of s c ≡ p.pattern = a.pattern in (
      other_slot (2 * pattern_of s c) (2 * pattern_of s c + 1) (first_slot q.patterns p + 2 * (n - 1)) _ _ _ (λ k. omega (arith, k, e, l)) (λ k. omega (arith, k, e, l))
          ∙ a.group_starts z n m,
      other_slot (2 * pattern_of s c) (2 * pattern_of s c + 1) (first_slot q.patterns p + 2 * (n - 1) + 1) _ _ _ (λ k. omega (arith, k, e, l)) (λ k. omega (arith, k, e, l))
          ∙ a.group_ends z n m,
    )

pub preference_law : PreferenceLaw
preference_law = record {
  first = λ q i ok x le w f. first_is_least q i ok x le w f;
  none = λ q i ok x le h. no_walk_no_parse q i ok x le h;
  least = λ q i ok x le. ⊎_elim (λ d. inr (d.2.0, d.2.1)) (λ d. inl d.1) (decided q i ok x le);
  one = one_least;
  chosen_some = λ q i ok c e.
      let r = preferred q i ok c ((answer_law.chosen_some (search_for q i) c).0 e) in
      let h = r.1.is_least.is_candidate.parses in
      (r.0, r.1, r.2, slots_hold q (search_for q i) r.0 c (get_below q.patterns r.0.pattern h.0 h.1) r.2);
  answered = λ q i ok o. answered q i ok o;
}
