-- How far the assertions of a program look, by those of its patterns.
use Rattle.std.proofs.Common.{◌≡◌, ◌≢◌, ◌∙◌, ℕ, zero, suc, ◌+◌, ◌-◌, ◌*◌, ◌≤◌, Bool, true, false, ◌||◌, IsTrue, List, [], ◌∷◌, length, Option, Some, None, ⊎_elim, ap, ap₂, sym, subst, refl, arith, eq-eqb}
use Rattle.std.specs.Prelude.{All}
use Rattle.std.specs.List.{AllByRecursion}
use Rattle.std.proofs.lemmas.Bool.{cases_lt, or_left, or_right}
use Rattle.std.proofs.lemmas.List.Elements.{All-from_recursion, recursion_from_All}
use Rattle.rc_text.specs.Found.{Found}
use Rattle.rc_text.specs.declared.types.MatchKind.{MatchKind}
use Rattle.rc_text.specs.declared.types.MatchKind.TheVariants.{All as all_matches, LeftmostFirst as leftmost_first, LeftmostLongest as leftmost_longest}
use Rattle.rc_pattern.specs.Re.{Re, empty, literal, byte_in, char_in, look, repeat, capture, cat, alt, none}
use Rattle.rc_pattern.specs.Properties.{has_look, look_number}
use Rattle.rc_pattern.specs.WellFormed.{group_count}
use Rattle.rc_pattern.specs.declared.hir.Look.{Look}
use Rattle.rc_program.specs.Program.{Place, choice, byte, branch, scalar, guard, slot, accept, Part, one, pass, then_part, either, optional, plus, body_or_out, copies, up_to, repeated, bytes_in_order, literal_part, part, pattern_part, choice_of_patterns, program, place_at, shown, without_groups}
use Rattle.rc_program.proofs.PlaceLemmas.{each_append}
use Rattle.rc_program.proofs.WayLemmas.{past_places}
use Rattle.rc_reach.specs.Reads.{looks_ahead}
use Rattle.rc_strategy.specs.Lengths.{is_leftmost}
use Rattle.rc_strategy.specs.Lookahead.{IsNearBy, LookAhead}
use Rattle.api_meta.specs.Reached.{IsSharp}
use Rattle.api_meta.specs.Views.{regex_kind, sought}
use Rattle.api_meta.specs.declared.regex.Regex.{Regex}

-- a pattern without its groups has the same assertions
bare_looks : (h : Re) (l : Look) → has_look (without_groups h) l ≡ has_look h l
bare_looks empty l = refl
bare_looks (literal bs) l = refl
bare_looks (byte_in rs) l = refl
bare_looks (char_in rs) l = refl
bare_looks (look k) l = refl
bare_looks (repeat min max greedy a) l = bare_looks a l
bare_looks (capture n name a) l = bare_looks a l
bare_looks (cat a rest) l = ap₂ (λ x y. x || y) (bare_looks a l) (bare_looks rest l)
bare_looks (alt a rest) l = ap₂ (λ x y. x || y) (bare_looks a l) (bare_looks rest l)
bare_looks none l = refl

module _ (a : ℕ) where
  -- no assertion of the pattern looks further than a bytes
  abbrev pub Looks : Re → Type 0
  Looks h = (l : Look) → IsTrue (has_look h l) → looks_ahead l ≤ a

  abbrev pub SeesTo : Place → Type 0
  SeesTo (choice ns) = Unit {0}
  SeesTo (byte rs n) = Unit {0}
  SeesTo (branch ts) = Unit {0}
  SeesTo (scalar rs n) = Unit {0}
  SeesTo (guard l n) = looks_ahead l ≤ a
  SeesTo (slot k n) = Unit {0}
  SeesTo (accept p) = Unit {0}

  abbrev pub PartSees : Part → Type 0
  PartSees p = (s start next : ℕ) → AllByRecursion SeesTo (p.places s start next)

  then_sees : (p q : Part) → PartSees p → PartSees q → PartSees (then_part p q)
  then_sees p q x y = λ s start next.
      each_append SeesTo (p.places s start (start + p.size)) (q.places s (start + p.size) next) (x s start (start + p.size)) (y s (start + p.size) next)

  either_sees : (p q : Part) → PartSees p → PartSees q → PartSees (either p q)
  either_sees p q x y = λ s start next. (
    tt,
    each_append SeesTo (p.places s (start + 1) next) (q.places s (start + 1 + p.size) next) (x s (start + 1) next) (y s (start + 1 + p.size) next),
  )

  pass_sees : PartSees pass
  pass_sees = λ s start next. (tt, tt)

  optional_sees : (greedy : Bool) (p : Part) → PartSees p → PartSees (optional greedy p)
  optional_sees greedy p x = λ s start next. (tt, x s (start + 1) next)

  plus_sees : (greedy : Bool) (p : Part) → PartSees p → PartSees (plus greedy p)
  plus_sees greedy p x = λ s start next.
      each_append SeesTo (p.places s start (start + p.size)) (body_or_out greedy start next ∷ []) (x s start (start + p.size)) (tt, tt)

  copies_see : (n : ℕ) (p q : Part) → PartSees p → PartSees q → PartSees (copies n p q)
  copies_see zero p q x y = y
  copies_see (suc n) p q x y = then_sees p (copies n p q) x (copies_see n p q x y)

  up_to_sees : (greedy : Bool) (n : ℕ) (p : Part) → PartSees p → PartSees (up_to greedy n p)
  up_to_sees greedy zero p x = pass_sees
  up_to_sees greedy (suc n) p x = optional_sees greedy (then_part p (up_to greedy n p)) (then_sees p (up_to greedy n p) x (up_to_sees greedy n p x))

  repeated_sees : (min : ℕ) (max : Option ℕ) (greedy : Bool) (p : Part) → PartSees p → PartSees (repeated min max greedy p)
  repeated_sees zero None greedy p x = optional_sees greedy (plus greedy p) (plus_sees greedy p x)
  repeated_sees (suc n) None greedy p x = copies_see n p (plus greedy p) x (plus_sees greedy p x)
  repeated_sees min (Some max) greedy p x = copies_see min p (up_to greedy (max - min) p) x (up_to_sees greedy (max - min) p x)

  bytes_see : (b : ℕ) (bs : List ℕ) → PartSees (bytes_in_order b bs)
  bytes_see b [] = λ s start next. (tt, tt)
  bytes_see b (c ∷ bs) = then_sees (one (λ slots. byte ((b, b) ∷ []))) (bytes_in_order c bs) (λ s start next. (tt, tt)) (bytes_see c bs)

  literal_sees : (bs : List ℕ) → PartSees (literal_part bs)
  literal_sees [] = pass_sees
  literal_sees (b ∷ bs) = bytes_see b bs

  first_looks : (h rest : Re) → Looks (cat h rest) → Looks h
  first_looks h rest all = λ l has. all l (or_left (has_look h l) (has_look rest l) has)

  others_look : (h rest : Re) → Looks (cat h rest) → Looks rest
  others_look h rest all = λ l has. all l (or_right (has_look h l) (has_look rest l) has)

  part_sees : (h : Re) → Looks h → PartSees (part h)
  part_sees empty all = pass_sees
  part_sees (literal bs) all = literal_sees bs
  part_sees (byte_in rs) all = λ s start next. (tt, tt)
  part_sees (char_in rs) all = λ s start next. (tt, tt)
  part_sees (look l) all = λ s start next. (all l (eq-eqb (look_number l) (look_number l) refl), tt)
  part_sees (repeat min max greedy h) all = repeated_sees min max greedy (part h) (part_sees h all)
  part_sees (capture n name h) all =
      then_sees (one (λ slots. slot (slots + 2 * (n - 1)))) (then_part (part h) (one (λ slots. slot (slots + 2 * (n - 1) + 1)))) (λ s start next. (tt, tt))
      (then_sees (part h) (one (λ slots. slot (slots + 2 * (n - 1) + 1))) (part_sees h all) (λ s start next. (tt, tt)))
  part_sees (cat h rest) all =
      then_sees (part h) (part rest) (part_sees h (first_looks h rest all)) (part_sees rest (others_look h rest all))
  part_sees (alt h rest) all =
      either_sees (part h) (part rest) (part_sees h (first_looks h rest all)) (part_sees rest (others_look h rest all))
  part_sees none all = λ s start next. (tt, tt)

  patterns_see : (p s : ℕ) (hs : List Re) → AllByRecursion Looks hs → PartSees (choice_of_patterns p s hs)
  patterns_see p s [] all = λ slots start next. (tt, tt)
  patterns_see p s (h ∷ hs) all =
      either_sees (pattern_part p s h) (choice_of_patterns (p + 1) (s + 2 * group_count h) hs)
      (λ slots start next.
      each_append SeesTo ((part h).places s start (start + (part h).size)) (accept p ∷ []) (part_sees h all.0 s start (start + (part h).size)) (tt, tt))
      (patterns_see (p + 1) (s + 2 * group_count h) hs all.1)

  shown_look : (grouped : Bool) (hs : List Re) → AllByRecursion Looks hs → AllByRecursion Looks (shown grouped hs)
  shown_look true hs all = all
  shown_look false [] all = tt
  shown_look false (h ∷ hs) all = ((λ l has. all.0 l (sym (bare_looks h l) ∙ has)), shown_look false hs all.1)

  place_sees : (places : List Place) → AllByRecursion SeesTo places → (q : ℕ) → SeesTo (place_at places q)
  place_sees places all q =
      ⊎_elim (λ l. All-from_recursion SeesTo places all q (choice []) l) (λ ge. subst SeesTo (sym (past_places places q ge)) tt) (cases_lt q (length places))

  pub look_there : (grouped : Bool) (hs : List Re) → All Looks hs → LookAhead a (program (shown grouped hs))
  look_there grouped hs all q l n is =
      let ps = shown grouped hs in
      subst SeesTo is
      (place_sees (program ps) (patterns_see 0 (2 * length ps) ps (shown_look grouped hs (recursion_from_All Looks hs all)) 0 0 0) q)

-- what engines tell of a reach
leftmost_kind : (kind : MatchKind) → kind ≢ all_matches → is_leftmost kind ≡ true
leftmost_kind leftmost_first other = refl
leftmost_kind leftmost_longest other = refl
leftmost_kind all_matches other = absurd (other refl)

pub is_sharp : (r : Regex) (o : Option Found) (reach told : ℕ) → IsNearBy r.engines.engine.kind r.engines.spans.greatest r.engines.lookahead o told →
    reach ≤ told → IsSharp (regex_kind r) (sought r) o reach
is_sharp r None reach told near less = λ other. tt
is_sharp r (Some m) reach told near less = λ other n a len looks.
    let far = near n (ap is_leftmost r.fits.kinded ∙ leftmost_kind (regex_kind r) other) (r.bounded ∙ len) in
    let ahead = r.engines.looking.least a (subst (LookAhead a) (sym r.fits.placed) (look_there a (sought r).grouped (sought r).patterns looks.assertions))
    (λ passes. looks.passing (sym r.fits.passing ∙ passes)) in omega (arith, far, ahead, less)
