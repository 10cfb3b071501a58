-- The answer of patterns that are a list of needles.
use Rattle.std.proofs.Common.{◌≡◌, ℕ, ◌+◌, ◌<◌, ◌≤◌, List, [], ◌∷◌, length, map, Bool, true, false, true≢false, not, ◌&&◌, ◌||◌, Option, Some, None, sym, ap, ap₂, subst, ◌∙◌, refl, arith, inl, option_map}
use Rattle.std.proofs.lemmas.Bool.Decides.{nat_tests}
use Rattle.rc_text.specs.declared.types.Anchored.{Anchored}
use Rattle.rc_text.specs.declared.types.Anchored.TheVariants.{No, Yes, Pattern}
use Rattle.rc_text.specs.Text.{Searched, low, high, is_boundary}
use Rattle.rc_text.specs.Found.{Found}
use Rattle.rc_pattern.specs.Re.{Re, literal, alt}
use Rattle.rc_pattern.specs.Properties.{is_zero, minimum_len, saturated, least}
use Rattle.rc_program.specs.Program.{place_at, program, without_groups, shown}
use Rattle.rc_program.specs.Answer.{Search, Chosen, only, is_anchored, last_of, is_allowed, IsStart, HasNoWalkFrom, found, chosen, answer, pattern_at}
use Rattle.rc_program.specs.Sought.{Sought, anchoring_of, search_over, search_for, passes_over, may_be_empty}
use Rattle.rc_program.proofs.AnswerLemmas.{first_start_chosen, no_start_chosen}
use Rattle.rc_needles.specs.declared.hit.Hit.{Hit}
use Rattle.rc_needles.specs.Needles.{needle_at, find_needle, prefix_needle}
use Rattle.rc_needles.proofs.FindLemmas.{prefix_is}
use Rattle.rc_needles.proofs.RelationLemmas.{first_to}
use Rattle.rc_needles.proofs.StartLemmas.{find_found, find_none}
use Rattle.rc_literals.specs.Answers.{Owned, found_for, literal_answer, literal_answer_by, needles_for, owner_for}
use Rattle.rc_literals.specs.Literals.{LiteralLaw}
use Rattle.rc_literals.proofs.WayLemmas.{alternation, AllSome}
use Rattle.rc_literals.proofs.ExactLemmas.{IsList, one, many, AreListed, GivesFrom, told, exact_listed, start_gives, exact_of, covers_of}

-- a walk from the least start is the answer
found_answer : (s : Search) (o : Owned) (x : ℕ) (hit : Hit) → s.passes_over ≡ false → IsStart s x → hit.start ≡ x →
    GivesFrom s x (told (only s.anchoring) o (Some hit)) → ((y : ℕ) → s.lo ≤ y → y < x → HasNoWalkFrom s y) →
    answer s ≡ Some (found_for (only s.anchoring) o hit)
unfolding answer
found_answer s o x hit over start is t before =
    let allowed : is_allowed s t.0 ≡ true = ap (λ z. not z || is_boundary s.text.content (last_of t.0).1) over in
    let c : Chosen = record { start = x; walk = t.0 } in
    let e : Some c ≡ chosen s = first_start_chosen s x t.0 start t.1 allowed (λ y a b. inl (before y a b)) in
    let p : pattern_at (place_at s.places (last_of t.0).0) ≡ owner_for (only s.anchoring) o hit.number = ap pattern_at t.2.0 in
    let m : ℕ → ℕ → ℕ → Found = λ k a b. record { pattern = k; start = a; end = b } in
    ap (option_map (found s)) (sym e)
    ∙ ap Some (ap₂ (λ k b. m k x b) p t.2.1 ∙ ap (λ a. m (owner_for (only s.anchoring) o hit.number) a hit.end) (sym is))

none_answer : (s : Search) → ((y : ℕ) → IsStart s y → HasNoWalkFrom s y) → answer s ≡ None
unfolding answer
none_answer s h = ap (option_map (found s)) (sym (no_start_chosen s (λ y i. inl (h y i))))

module _ (hs : List Re) (o : Owned) (listed : AreListed 0 hs o) (s : Search) (places : s.places ≡ program hs) (over : s.passes_over ≡ false) where
  abbrev At : ℕ → Option Hit
  At = needle_at (needles_for (only s.anchoring) o) s.text.content s.hi

  tells : (x : ℕ) (h : Option Hit) → At x ≡ h → x ≤ s.hi → GivesFrom s x (told (only s.anchoring) o h)
  tells x h e le = subst (λ z. GivesFrom s x (told (only s.anchoring) o z)) e (start_gives hs o s x listed places le)

  -- searched from each start
  pub unanchored : ((x : ℕ) → s.lo ≤ x → x ≤ s.hi → IsStart s x) → (h : Option Hit) →
      find_needle (needles_for (only s.anchoring) o) s.text.content s.lo s.hi ≡ h → answer s ≡ option_map (found_for (only s.anchoring) o) h
  unanchored free (Some hit) e =
      let f = find_found (needles_for (only s.anchoring) o) s.text.content s.lo s.hi hit e in
      let inside : hit.start ≤ s.hi = omega (arith, f.low, f.high) in
      found_answer s o hit.start hit over (free hit.start f.low inside) refl (tells hit.start (Some hit) f.here inside)
      (λ y a b. tells y None (f.none_before y a b) (omega (arith, b, inside)))
  unanchored free None e =
      none_answer s (λ y i. tells y None (find_none (needles_for (only s.anchoring) o) s.text.content s.lo s.hi e y i.0 i.1) i.1)

  -- searched from the least start alone
  pub anchored : ((y : ℕ) → IsStart s y → y ≡ s.lo) → (s.lo ≤ s.hi → IsStart s s.lo) → (h : Option Hit) → At s.lo ≡ h →
      answer s ≡ option_map (found_for (only s.anchoring) o) h
  anchored fixed free (Some hit) e =
      let f = first_to (needles_for (only s.anchoring) o) s.text.content s.hi s.lo hit e in
      let inside : s.lo ≤ s.hi = let i = f.stands.0 in omega (arith, i) in
      found_answer s o s.lo hit over (free inside) f.start (tells s.lo (Some hit) e inside) (λ y a b. absurd (omega (arith, a, b)))
  anchored fixed free None e =
      none_answer s (λ y i. let q = fixed y i in tells y None (ap At q ∙ e) i.1)

-- Patterns without groups that are not empty.

bare : (ws : List (List ℕ)) → without_groups (alternation ws) ≡ alternation ws
bare [] = refl
bare (w ∷ ws) = ap (alt (literal w)) (bare ws)

bare_list : (h : Re) (ws : List (List ℕ)) → IsList h ws → without_groups h ≡ h
bare_list h ws (one some) = refl
bare_list h ws (many {ws = vs} some) = bare vs

least_some : (a b : Option ℕ) → is_zero a ≡ false → is_zero b ≡ false → is_zero (least a b) ≡ false
least_some None b x y = y
least_some (Some m) None x y = x
least_some (Some m) (Some n) x y = grind (arith, nat_tests)

literal_some : (w : List ℕ) → 0 < length w → is_zero (minimum_len (literal w)) ≡ false
literal_some w some = let k : 0 < saturated (length w) = omega (arith, some) in grind (arith, nat_tests)

all_some : (ws : List (List ℕ)) → AllSome ws → is_zero (minimum_len (alternation ws)) ≡ false
all_some [] some = refl
all_some (w ∷ ws) some = least_some (minimum_len (literal w)) (minimum_len (alternation ws)) (literal_some w some.0) (all_some ws some.1)

list_some : (h : Re) (ws : List (List ℕ)) → IsList h ws → is_zero (minimum_len h) ≡ false
list_some h ws (one {w = w} some) = literal_some w some
list_some h ws (many {ws = vs} some) = all_some vs some

-- The patterns are not empty, and have no groups.

bare_each : (p : ℕ) (hs : List Re) (o : Owned) → AreListed p hs o → map without_groups hs ≡ hs
bare_each p [] o l = refl
bare_each p (h ∷ hs) o l = ap₂ (λ x xs. x ∷ xs) (bare_list h l.0 l.2) (bare_each (p + 1) hs l.1 l.4)

shown_same : (groups : Bool) (hs : List Re) → map without_groups hs ≡ hs → shown groups hs ≡ hs
shown_same true hs e = refl
shown_same false hs e = e

none_empty : (p : ℕ) (hs : List Re) (o : Owned) → AreListed p hs o → may_be_empty hs ≡ false
none_empty p [] o l = refl
none_empty p (h ∷ hs) o l = ap (λ z. z || may_be_empty hs) (list_some h l.0 l.2) ∙ none_empty (p + 1) hs l.1 l.4

and_false : (a b : Bool) → b ≡ false → (a && b) ≡ false
and_false true b e = e
and_false false b e = refl

-- By the anchoring.

module _ (hs : List Re) (o : Owned) (listed : AreListed 0 hs o) (terminator : ℕ) (s : Searched) where
  abbrev S : Search
  S = search_over (program hs) terminator false s

  abbrev Goal : Anchored → Type 0
  Goal a = answer S ≡ literal_answer_by o s.content (low s) (high s) a

  -- searched from the least start alone, of the patterns that are allowed
  at_low : (allowed : Option ℕ) → only S.anchoring ≡ allowed → is_anchored S.anchoring ≡ true →
      answer S ≡ option_map (found_for allowed o) (prefix_needle (needles_for allowed o) s.content (low s) (high s))
  at_low allowed e on =
      subst (λ a. answer S ≡ option_map (found_for a o) (prefix_needle (needles_for a o) s.content (low s) (high s))) e
      (anchored hs o listed S refl refl (λ y i. i.2 on) (λ le. (omega arith, le, λ t. refl))
      (prefix_needle (needles_for (only S.anchoring) o) s.content (low s) (high s))
      (prefix_is (needles_for (only S.anchoring) o) s.content (low s) (high s)))

  by_anchoring : (a : Anchored) → s.anchored ≡ a → Goal a
  by_anchoring No e =
      subst (λ a. answer S ≡ option_map (found_for a o) (find_needle (needles_for a o) s.content (low s) (high s))) (ap (λ x. only (anchoring_of x)) e)
      (unanchored hs o listed S refl refl
      (λ x a b. (a, b, λ t. absurd (true≢false (sym t ∙ ap (λ x. is_anchored (anchoring_of x)) e))))
      (find_needle (needles_for (only S.anchoring) o) s.content (low s) (high s)) refl)
  by_anchoring Yes e = at_low None (ap (λ x. only (anchoring_of x)) e) (ap (λ x. is_anchored (anchoring_of x)) e)
  by_anchoring (Pattern p) e = at_low (Some p) (ap (λ x. only (anchoring_of x)) e) (ap (λ x. is_anchored (anchoring_of x)) e)

answers_are : (hs : List Re) (o : Owned) (q : Sought) (s : Searched) → AreListed 0 hs o → q.patterns ≡ hs → answer (search_for q s) ≡ literal_answer o s
answers_are hs o q s listed e =
    let places : program (shown q.grouped q.patterns) ≡ program hs =
    ap program (ap (shown q.grouped) e ∙ shown_same q.grouped hs (bare_each 0 hs o listed)) in
    let over : passes_over q ≡ false =
    and_false q.utf8_empty (may_be_empty q.patterns) (ap may_be_empty e ∙ none_empty 0 hs o listed) in
    ap₂ (λ ps b. answer (search_over ps q.terminator b s)) places over ∙ by_anchoring hs o listed q.terminator s s.anchored refl

pub literal_law : LiteralLaw
literal_law = record {
  covers = λ hs o t e. covers_of t hs o (exact_listed hs o e);
  exact = λ hs o s e places. exact_of hs o s (exact_listed hs o e) places;
  answers = λ hs o q s e patterns. answers_are hs o q s (exact_listed hs o e) patterns;
}
