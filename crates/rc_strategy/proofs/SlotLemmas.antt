-- The slots of a match without its groups.
use Rattle.std.proofs.Common.{◌≡◌, ◌≢◌, IsTrue, ℕ, ◌+◌, ◌*◌, ◌<◌, ◌≤◌, true, false, true≢false, List, [], ◌∷◌, length, Option, Some, None, ⊎_elim, sym, subst, ap, ap₂, ◌∙◌, refl, arith, if◌then◌else◌, slice_set, slice_index_or, replicate, get_or-set_same, get_or-set_other, length-set, eq-eqb, ne_eqb, MatchOption, min, max}
use Rattle.std.specs.Option.{option_map, option_or}
use Rattle.std.proofs.Math.Logic.{∥∥₁_elim}
use denote.Struct.Props.{props}
use Rattle.std.proofs.lemmas.Bool.{cases_eq, cases_lt}
use Rattle.std.proofs.lemmas.List.{length-replicate, get_or-replicate}
use Rattle.std.proofs.lemmas.List.FromFn.{fill_by_all}
use Rattle.std.proofs.lemmas.List.Elements.{All-from_recursion}
use Rattle.rc_pattern.specs.Re.{Re}
use Rattle.rc_pattern.specs.WellFormed.{group_numbers, group_count}
use Rattle.rc_text.specs.Found.{Found}
use Rattle.rc_walks.specs.Walks.{Pair}
use Rattle.rc_program.specs.Program.{Place, choice, byte, branch, scalar, guard, slot, accept, place_at, program}
use Rattle.rc_program.specs.Answer.{Search, Chosen, answer, ends, found, groups, last_of, last_visit, names, next_of, only, pattern_of, slot_of, slots_of}
use Rattle.rc_program.specs.Longest.{longest, longest_groups}
use Rattle.rc_program.proofs.AnswerLemmas.{answer_law, answer_within, chosen_law, match_place_is, walk_ends}
use Rattle.rc_program.proofs.GreatestLemmas.{spelled_within}
use Rattle.rc_program.proofs.ReachLemmas.{longest_law}
use Rattle.rc_program.proofs.PlaceLemmas.{accept_below, AnyNumber, LiesInPart, NamesGroup, Suit, each_always, program_sound}
use Rattle.rc_program.proofs.WayLemmas.{past_places}
use Rattle.rc_pikevm.specs.KindSlots.{span_slots}
use Rattle.rc_pikevm.specs.KindSlots.{slots_by}
use Rattle.rc_program.specs.Kinds.{answer_by}
use Rattle.rc_text.specs.Text.{Searched, KeepsText, high, low}
use Rattle.rc_text.specs.declared.types.Anchored.TheVariants.{Pattern}
use Rattle.rc_text.specs.declared.types.MatchKind.{MatchKind}
use Rattle.rc_text.specs.declared.types.MatchKind.TheVariants.{All as all_matches, LeftmostFirst as leftmost_first, LeftmostLongest as leftmost_longest}
use Rattle.rc_pikevm_search.specs.Engine.{engine_search}
use Rattle.rc_pikevm_search.specs.declared.engine.Engine.{Engine}
use Rattle.rc_strategy.specs.Narrow.{narrowed}
use Rattle.rc_onepass.specs.Walked.{HasVisits, IsWalkOver}
use Rattle.rc_strategy.specs.Slots.{IsOfPatterns, NamesGroups}
use Rattle.rc_strategy.specs.Lengths.{is_leftmost}
use Rattle.rc_strategy.proofs.NarrowLemmas.{narrow_law}

suits : (low p s : ℕ) (hs : List Re) → low ≤ s → Suit (λ k. low ≤ k) AnyNumber p s hs
suits low p s [] le = tt
suits low p s (h ∷ hs) le = (
  each_always (NamesGroup s (λ k. low ≤ k)) (λ n. (omega (arith, le), omega (arith, le))) (group_numbers h),
  tt,
  suits low (p + 1) (s + 2 * group_count h) hs (omega (arith, le)),
)

slot_is : (low lo hi : ℕ) (q : Place) (k m : ℕ) → LiesInPart (λ j. low ≤ j) AnyNumber lo hi q → q ≡ slot k m → low ≤ k
slot_is low lo hi q k m h e = (subst (LiesInPart (λ j. low ≤ j) AnyNumber lo hi) e h).0

no_slot : (k m : ℕ) → choice [] ≢ slot k m
no_slot k m e = cc

-- a program of patterns names slots of groups alone
pub program_names : (hs : List Re) → NamesGroups (length hs) (program hs)
program_names hs n k m e =
    let all = program_sound (λ j. 2 * length hs ≤ j) AnyNumber hs (suits (2 * length hs) 0 (2 * length hs) hs (omega arith)) in
    ⊎_elim
    (λ l. slot_is (2 * length hs) 0 (length (program hs)) (place_at (program hs) n) k m
    (All-from_recursion (LiesInPart (λ j. 2 * length hs ≤ j) AnyNumber 0 (length (program hs))) (program hs) all n (choice []) l) e)
    (λ ge. absurd (no_slot k m (sym (past_places (program hs) n ge) ∙ e)))
    (cases_lt n (length (program hs)))

not_named : (q : Place) (k : ℕ) → ((n : ℕ) → q ≢ slot k n) → names q k ≡ false
not_named (choice ns) k bare = refl
not_named (byte rs n) k bare = refl
not_named (branch ts) k bare = refl
not_named (scalar rs n) k bare = refl
not_named (guard l n) k bare = refl
not_named (slot j n) k bare = ne_eqb j k (λ e. bare n (ap (λ i. slot i n) e))
not_named (accept p) k bare = refl

not_visited : (places : List Place) (k : ℕ) → ((q n : ℕ) → place_at places q ≢ slot k n) → (w : List Pair) → last_visit places k w ≡ None
not_visited places k bare [] = refl
not_visited places k bare (n ∷ w) =
    ap₂ option_or (not_visited places k bare w) (ap (λ b. if b then Some n.1 else None) (not_named (place_at places n.0) k (bare n.0)))

-- what stands in the slots of whole matches
slot_at : (s : Search) (c : Chosen) (n k : ℕ) → k < n → last_visit s.places k c.walk ≡ None → slice_index_or (span_slots n (found s c)) k None ≡ slot_of s c k
slot_at s c n k l bare =
    let p : ℕ = pattern_of s c in
    let end : ℕ = (last_of c.walk).1 in
    let empty : List (Option ℕ) = replicate n None in
    let first = slice_set empty (2 * p) (Some c.start) in
    let wide : length empty ≡ n = length-replicate n None in
    let as_wide : length first ≡ length empty = length-set empty (2 * p) (Some c.start) in
    ⊎_elim
    (λ eq. rw (eq-eqb k (2 * p) eq)
    (get_or-set_other first (2 * p + 1) k (Some end) None (λ q. absurd (omega (arith, eq, q)))
    ∙ subst (λ x. slice_index_or first x None ≡ Some c.start) (sym eq) (get_or-set_same empty (2 * p) (Some c.start) None (omega (arith, eq, l, wide)))))
    (λ ne. rw (ne_eqb k (2 * p) ne) (⊎_elim
    (λ eq. rw (eq-eqb k (2 * p + 1) eq)
    (subst (λ x. slice_index_or (span_slots n (found s c)) x None ≡ Some end) (sym eq)
    (get_or-set_same first (2 * p + 1) (Some end) None (omega (arith, eq, l, wide, as_wide)))))
    (λ nf. rw (ne_eqb k (2 * p + 1) nf)
    (get_or-set_other first (2 * p + 1) k (Some end) None nf
    ∙ get_or-set_other empty (2 * p) k (Some c.start) None ne ∙ get_or-replicate n k None None l ∙ sym bare))
    (cases_eq k (2 * p + 1))))
    (cases_eq k (2 * p))

pub length-span : (m : Found) (n : ℕ) → length (span_slots n m) ≡ n
length-span m n =
    length-set (slice_set (replicate n None) (2 * m.pattern) (Some m.start)) (2 * m.pattern + 1) (Some m.end)
    ∙ length-set (replicate n None) (2 * m.pattern) (Some m.start) ∙ length-replicate n None

-- as many slots as whole matches have tell the whole match alone
bare_slots : (s : Search) (c : Chosen) (n patterns : ℕ) → NamesGroups patterns s.places → n ≤ 2 * patterns → span_slots n (found s c) ≡ slots_of s n c
bare_slots s c n patterns numbered le =
    fill_by_all (slot_of s c) (span_slots n (found s c)) n None (length-span (found s c) n)
    (λ k l. slot_at s c n k l (not_visited s.places k (λ q j here. absurd (omega (arith, numbered q k j here, l, le))) c.walk))

pub span_groups : (s : Search) (m : Found) (n patterns : ℕ) → NamesGroups patterns s.places → n ≤ 2 * patterns → answer s ≡ Some m →
    Some (span_slots n m) ≡ groups s n
unfolding groups
span_groups s m n patterns numbered le e =
    let r = (answer_law.answer_some s m).0 e in
    subst (λ (f : Found). Some (span_slots n f) ≡ groups s n) r.2
    (ap (λ xs. Some xs) (bare_slots s r.0 n patterns numbered le) ∙ ap (λ o. option_map (slots_of s n) o) (sym ((chosen_law s r.0).1 r.1)))

span_longest : (s : Search) (m : Found) (n patterns : ℕ) → NamesGroups patterns s.places → n ≤ 2 * patterns → longest s ≡ Some m →
    Some (span_slots n m) ≡ longest_groups s n
unfolding longest_groups
span_longest s m n patterns numbered le e =
    let r = (longest_law.answer_some s m).0 e in
    subst (λ (f : Found). Some (span_slots n f) ≡ longest_groups s n) r.2
    (ap (λ xs. Some xs) (bare_slots s r.0 n patterns numbered le) ∙ ap (λ o. option_map (slots_of s n) o) (sym ((longest_law.chosen_some s r.0).1 r.1)))

-- the slots of the kind are those of the whole match, where no more are asked for
pub span_told : (kind : MatchKind) (s : Search) (m : Found) (n patterns : ℕ) (slots : List (Option ℕ)) → is_leftmost kind ≡ true → NamesGroups patterns s.places →
    n ≤ 2 * patterns → answer_by kind s ≡ Some m → slots ≡ span_slots n m → Some slots ≡ slots_by kind s n
span_told all_matches s m n patterns slots k numbered le e w = absurd (true≢false (sym k))
span_told leftmost_longest s m n patterns slots k numbered le e w = ap (λ xs. Some xs) w ∙ span_longest s m n patterns numbered le e
span_told leftmost_first s m n patterns slots k numbered le e w = ap (λ xs. Some xs) w ∙ span_groups s m n patterns numbered le e

-- so where all matches count
pub span_all : (kind : MatchKind) (s : Search) (m : Found) (n : ℕ) (slots : List (Option ℕ)) → kind ≡ all_matches → answer_by kind s ≡ Some m →
    slots ≡ span_slots n m → Some slots ≡ slots_by kind s n
span_all kind s m n slots all e w =
    subst (λ k. Some slots ≡ slots_by k s n) (sym all)
    (ap (λ xs. Some xs) w ∙ sym (ap (λ o. option_map (span_slots n) o) (subst (λ k. answer_by k s ≡ Some m) all e)))

-- the groups that the search over the match's span tells are those of the match
pub narrow_told : (s t : Search) (m : Found) (p : Option ℕ) (before after : List (Option ℕ)) (n : ℕ) → t ≡ narrowed s m → answer s ≡ Some m →
    p ≡ option_map (λ (f : Found). f.pattern) (answer t) → MatchOption p (after ≡ before) (λ _. Some after ≡ groups t n) → Some after ≡ groups s n
narrow_told s t m p before after n same e q told =
    let there : answer t ≡ Some m = ap answer same ∙ narrow_law.match s m e in
    let some : p ≡ Some m.pattern = q ∙ ap (λ o. option_map (λ (f : Found). f.pattern) o) there in
    let groups_there : Some after ≡ groups t n = subst (λ o. MatchOption o (after ≡ before) (λ _. Some after ≡ groups t n)) some told in
    groups_there ∙ ap (λ x. groups x n) same ∙ narrow_law.groups s m n e

-- slots that are told where there is a match
pub slots_there : (o : Option Found) (m : Found) (p : Option ℕ) (before after : List (Option ℕ)) (slots : Option (List (Option ℕ))) → o ≡ Some m →
    p ≡ option_map (λ (f : Found). f.pattern) o → MatchOption p (after ≡ before) (λ _. Some after ≡ slots) → Some after ≡ slots
slots_there o m p before after slots e q told =
    let some : p ≡ Some m.pattern = q ∙ ap (λ x. option_map (λ (f : Found). f.pattern) x) e in
    subst (λ x. MatchOption x (after ≡ before) (λ _. Some after ≡ slots)) some told

-- and so where it is the longest match
pub longest_told : (s t : Search) (m : Found) (p : Option ℕ) (before after : List (Option ℕ)) (n : ℕ) → t ≡ narrowed s m → longest s ≡ Some m →
    p ≡ option_map (λ (f : Found). f.pattern) (longest t) → MatchOption p (after ≡ before) (λ _. Some after ≡ longest_groups t n) → Some after ≡ longest_groups s n
longest_told s t m p before after n same e q told =
    slots_there (longest t) m p before after (longest_groups t n) (ap longest same ∙ narrow_law.longest_match s m e) q told
    ∙ ap (λ x. longest_groups x n) same ∙ narrow_law.longest_slots s m n e

-- the search of an input whose span is the match's, and whose anchoring is for its pattern
pub narrow_input : (e : Engine) (a b : Searched) (m : Found) → low a ≤ m.start → m.start ≤ m.end → m.end ≤ high a → KeepsText a b →
    b.span.start ≡ m.start → b.span.end ≡ m.end → b.slice ≡ a.slice →
    engine_search e (record b { anchored = Pattern m.pattern }) ≡ narrowed (engine_search e a) m
narrow_input e a b m below ordered above k start end slice =
    let bounded : ℕ → ℕ → Search = λ lo hi. record (narrowed (engine_search e a) m) { lo = lo; hi = hi } in
    let lo : max m.start a.slice.start ≡ m.start = omega (arith, below) in
    let hi : min (min m.end a.slice.end) (length a.content) ≡ m.end = omega (arith, above) in
    rw (k.content, slice, start, end) (ap₂ bounded lo hi)

-- A slot of a group comes after those of whole matches of each pattern.
groups_apart : (places : List Place) → IsOfPatterns places → (q k n r p : ℕ) → place_at places q ≡ slot k n → place_at places r ≡ accept p → 2 * p + 1 < k
groups_apart places of q k n r p named ended =
    ∥∥₁_elim of (hlevel props)
    (λ h. let low = program_names h.0 q k n (subst (λ ps. place_at ps q ≡ slot k n) h.1 named) in
    let below = accept_below h.0 r p (subst (λ ps. place_at ps r ≡ accept p) h.1 ended) in
    omega (arith, low, below))

or_none : (o : Option ℕ) → option_or o None ≡ o
or_none None = refl
or_none (Some x) = refl

-- what stands in a slot once the walk's visits are written over the whole match
visited_slot : (s : Search) (c : Chosen) (n : ℕ) (after : List (Option ℕ)) → IsOfPatterns s.places →
    place_at s.places (last_of c.walk).0 ≡ accept (pattern_of s c) → HasVisits s c.walk (span_slots n (found s c)) after → (k : ℕ) → k < n →
    slice_index_or after k None ≡ slot_of s c k
visited_slot s c n after of ended visits k l =
    let p : ℕ = pattern_of s c in
    let end : ℕ = (last_of c.walk).1 in
    let empty : List (Option ℕ) = replicate n None in
    let told = visits k (omega (arith, l, length-span (found s c) n)) in
    ⊎_elim
    (λ above. let ne : k ≢ 2 * p = omega (arith, above) in
    let nf : k ≢ 2 * p + 1 = omega (arith, above) in
    let bare : slice_index_or (span_slots n (found s c)) k None ≡ None =
    get_or-set_other (slice_set empty (2 * p) (Some c.start)) (2 * p + 1) k (Some end) None nf
    ∙ get_or-set_other empty (2 * p) k (Some c.start) None ne ∙ get_or-replicate n k None None l in
    rw (ne_eqb k (2 * p) ne) (rw (ne_eqb k (2 * p + 1) nf)
    (told ∙ ap (λ o. option_or (last_visit s.places k c.walk) o) bare ∙ or_none (last_visit s.places k c.walk))))
    (λ low. let none =
    not_visited s.places k (λ q j here. absurd (let far = groups_apart s.places of q k j (last_of c.walk).0 p here ended in omega (arith, far, low))) c.walk in
    told ∙ ap (λ o. option_or o (slice_index_or (span_slots n (found s c)) k None)) none ∙ slot_at s c n k l none)
    (cases_lt (2 * p + 1) k)

-- so they are the walk's slots
pub visits_told : (s : Search) (c : Chosen) (m : Found) (n : ℕ) (before after : List (Option ℕ)) → IsOfPatterns s.places → IsWalkOver s c m →
    before ≡ span_slots n m → HasVisits s c.walk before after → length after ≡ n → after ≡ slots_of s n c
visits_told s c m n before after of over span visits long =
    let ended = match_place_is (only s.anchoring) (place_at s.places (last_of c.walk).0) (walk_ends (next_of s) (λ q. IsTrue (ends s q)) over.walk) in
    let same : before ≡ span_slots n (found s c) = span ∙ ap (λ f. span_slots n f) (sym over.found) in
    fill_by_all (slot_of s c) after n None long
    (visited_slot s c n after of ended (subst (λ xs. HasVisits s c.walk xs after) same visits))

-- the slots of the walk are those of the match of a leftmost kind
pub walk_told : (kind : MatchKind) (s : Search) (m : Found) (n : ℕ) (slots : List (Option ℕ)) → is_leftmost kind ≡ true →
    s.hi ≤ length s.text.content → answer_by kind s ≡ Some m → ((c : Chosen) → IsWalkOver s c m → slots ≡ slots_of s n c) → Some slots ≡ slots_by kind s n
unfolding groups longest_groups
walk_told all_matches s m n slots k inside e told = absurd (true≢false (sym k))
walk_told leftmost_first s m n slots k inside e told =
    let r = (answer_law.answer_some s m).0 e in
    let end = ap (λ (f : Found). f.end) r.2 in
    let within = (answer_within s m e).2 in
    ap (λ xs. Some xs) (told r.0 (record {
      walk = r.1.is_first.is_walk;
      found = r.2;
      within = omega (arith, end, within);
      inside = omega (arith, end, within, inside);
    })) ∙ ap (λ o. option_map (slots_of s n) o) (sym ((chosen_law s r.0).1 r.1))
walk_told leftmost_longest s m n slots k inside e told =
    let r = (longest_law.answer_some s m).0 e in
    let end = ap (λ (f : Found). f.end) r.2 in
    let within = (spelled_within s m (longest_law.spelled s m e)).2 in
    ap (λ xs. Some xs) (told r.0 (record {
      walk = r.1.counts.is_walk;
      found = r.2;
      within = omega (arith, end, within);
      inside = omega (arith, end, within, inside);
    })) ∙ ap (λ o. option_map (slots_of s n) o) (sym ((longest_law.chosen_some s r.0).1 r.1))

pub search_inside : (e : Engine) (a : Searched) → (engine_search e a).hi ≤ length a.content
search_inside e a = omega arith
