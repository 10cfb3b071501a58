-- Groups of a match, in a text and in one with more bytes before it.
use Rattle.std.proofs.Common.{◌≡◌, ℕ, ◌+◌, ◌*◌, Bool, true, false, IsTrue, List, [], ◌∷◌, length, map, nat_eq, Option, Some, None, if◌then◌else◌, sym, ap, ap₂, subst, ◌∙◌, refl, arith}
use Rattle.std.specs.List.{slice_get}
use Rattle.std.specs.Option.{option_map, option_or}
use Rattle.std.proofs.lemmas.List.{length-map}
use Rattle.std.proofs.lemmas.Option.{slice_get-map}
use Rattle.rc_text.specs.Found.{Found}
use Rattle.rc_text.specs.declared.types.MatchKind.{MatchKind}
use Rattle.rc_text.specs.declared.types.MatchKind.TheVariants.{All as all_matches, LeftmostFirst as leftmost_first, LeftmostLongest as leftmost_longest}
use Rattle.rc_walks.specs.Walks.{Pair}
use Rattle.rc_captures.specs.Captures.{HasMatch, captures_slots}
use Rattle.rc_captures.specs.declared.captures.Captures.{Captures}
use Rattle.rc_captures.proofs.CapturesLaws.{lent-written}
use Rattle.rc_program.specs.Answer.{Search, Chosen, chosen, ends, last_of, last_visit, names, next_of, pattern_of, slot_of}
use Rattle.rc_program.specs.Greatest.{greatest}
use Rattle.rc_program.specs.Longest.{longest_chosen}
use Rattle.rc_program.specs.Program.{Place, place_at}
use Rattle.rc_program.proofs.AnswerLemmas.{answer_law}
use Rattle.rc_program.proofs.ReachLemmas.{longest_law}
use Rattle.rc_pikevm_search.specs.Tells.{TellsBy, TellsOf, TellsSpan, span_slot}
use Rattle.rc_reach.specs.Alike.{chosen_further, further}
use Rattle.rc_reach.specs.Edits.{match_further}
use Rattle.rc_reach.proofs.AlikeLemmas.{last_further}
use Rattle.stream_search.specs.Groups.{captures_further, slot_further}

-- ---- slots

visited : (d : ℕ) (o : Option ℕ) (b : Bool) (i : ℕ) →
    option_or (slot_further d o) (if b then Some (i + d) else None) ≡ slot_further d (option_or o (if b then Some i else None))
visited d None true i = refl
visited d None false i = refl
visited d (Some p) b i = refl

visit_further : (d : ℕ) (places : List Place) (k : ℕ) (w : List Pair) → last_visit places k (map (further d) w) ≡ slot_further d (last_visit places k w)
visit_further d places k [] = refl
visit_further d places k (n ∷ w) =
    ap (λ o. option_or o (if names (place_at places n.0) k then Some (n.1 + d) else None)) (visit_further d places k w)
    ∙ visited d (last_visit places k w) (names (place_at places n.0) k) n.1

-- one of three slots
picked : (d : ℕ) (a b : Bool) (x y : ℕ) (o : Option ℕ) →
    (if a then Some (x + d) else if b then Some (y + d) else slot_further d o) ≡ slot_further d (if a then Some x else if b then Some y else o)
picked d true b x y o = refl
picked d false true x y o = refl
picked d false false x y o = refl

-- the captures of a match, further on
has_further : (d : ℕ) (caps : Captures) (p : ℕ) (found there : ℕ → Option ℕ) → ((k : ℕ) → there k ≡ slot_further d (found k)) →
    HasMatch caps p found → HasMatch (captures_further d caps) p there
has_further d caps p found there same has =
    let moved = map (slot_further d) (captures_slots caps) in
    let long = length-map (captures_slots caps) (slot_further d) in
    let written = lent-written caps moved long in
    record {
      pattern = has.pattern;
      kept = λ k inside of_p.
          ap (λ xs. slice_get xs k) written ∙ slice_get-map (slot_further d) (captures_slots caps) k
          ∙ ap (option_map (slot_further d)) (has.kept k (let l = ap length written in omega (arith, inside, l, long)) of_p) ∙ ap Some (sym (same k));
    }

module _ (d : ℕ) (s t : Search) (places : t.places ≡ s.places) (caps : Captures) where
  -- ---- walks

  module _ (c : Chosen) (last : last_of (map (further d) c.walk) ≡ further d (last_of c.walk)) where
    pattern_further : pattern_of t (chosen_further d c) ≡ pattern_of s c
    pattern_further =
        ap (λ ps. pattern_of (record t { places = ps }) (chosen_further d c)) places
        ∙ ap (λ (n : Pair). pattern_of s (record c { walk = (n.0, 0) ∷ [] })) last

    slots_further : (k : ℕ) → slot_of t (chosen_further d c) k ≡ slot_further d (slot_of s c k)
    slots_further k =
        let p = pattern_further in
        ap₂ (λ q o. if nat_eq k (2 * q) then Some (c.start + d) else if nat_eq k (2 * q + 1) then Some (last_of (map (further d) c.walk)).1 else o) p
        (ap (λ ps. last_visit ps k (map (further d) c.walk)) places ∙ visit_further d s.places k c.walk)
        ∙ ap (λ (n : Pair). if nat_eq k (2 * pattern_of s c) then Some (c.start + d) else if nat_eq k (2 * pattern_of s c + 1) then Some n.1 else slot_further d (last_visit s.places k c.walk)) last
        ∙ picked d (nat_eq k (2 * pattern_of s c)) (nat_eq k (2 * pattern_of s c + 1)) c.start (last_of c.walk).1 (last_visit s.places k c.walk)

    told_further : TellsOf s (Some c) caps → TellsOf t (Some (chosen_further d c)) (captures_further d caps)
    told_further has =
        subst (λ p. HasMatch (captures_further d caps) p (slot_of t (chosen_further d c))) (sym pattern_further)
        (has_further d caps (pattern_of s c) (slot_of s c) (slot_of t (chosen_further d c)) slots_further has)

  -- the walk of either kind
  walk_further : (o : Option Chosen) → ((c : Chosen) → o ≡ Some c → last_of (map (further d) c.walk) ≡ further d (last_of c.walk)) →
      TellsOf s o caps → TellsOf t (option_map (chosen_further d) o) (captures_further d caps)
  walk_further None last tells = tells
  walk_further (Some c) last tells = told_further c (last c refl) tells

  -- ---- spans

  span_further : (o : Option Found) → TellsSpan o caps → TellsSpan (option_map (match_further d) o) (captures_further d caps)
  span_further None tells = tells
  span_further (Some m) has =
      has_further d caps m.pattern (span_slot m) (span_slot (match_further d m))
      (λ k. picked d (nat_eq k (2 * m.pattern)) (nat_eq k (2 * m.pattern + 1)) m.start m.end None) has

  -- what holds of a match of any kind
  pub tells_further : (kind : MatchKind) → (kind ≡ leftmost_first → chosen t ≡ option_map (chosen_further d) (chosen s)) →
      (kind ≡ leftmost_longest → longest_chosen t ≡ option_map (chosen_further d) (longest_chosen s)) →
      (kind ≡ all_matches → greatest t ≡ option_map (match_further d) (greatest s)) → TellsBy kind s caps → TellsBy kind t (captures_further d caps)
  tells_further all_matches first longest most tells =
      subst (λ o. TellsSpan o (captures_further d caps)) (sym (most refl)) (span_further (greatest s) tells)
  tells_further leftmost_first first longest most tells =
      subst (λ o. TellsOf t o (captures_further d caps)) (sym (first refl))
      (walk_further (chosen s)
      (λ c e. last_further (next_of s) (λ n. IsTrue (ends s n)) d ((answer_law.chosen_some s c).0 e).is_first.is_walk) tells)
  tells_further leftmost_longest first longest most tells =
      subst (λ o. TellsOf t o (captures_further d caps)) (sym (longest refl))
      (walk_further (longest_chosen s)
      (λ c e. last_further (next_of s) (λ n. IsTrue (ends s n)) d ((longest_law.chosen_some s c).0 e).counts.is_walk) tells)
