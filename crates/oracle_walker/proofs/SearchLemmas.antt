-- What the walks over an input tell of its search.
use Rattle.std.proofs.Common.{◌≡◌, ℕ, List, [], ◌∷◌, Option, Some, None, Bool, not, ◌||◌, sym, ap, ◌∙◌, subst, IsTrue, ◌≤◌}
use Rattle.rc_text.specs.Text.{Searched, Keeps, high, is_boundary}
use Rattle.rc_walks.specs.Walks.{Pair, IsFirstWalk, HasNoWalk}
use Rattle.rc_program.specs.Text.{Text}
use Rattle.rc_program.specs.Program.{Place, ways}
use Rattle.rc_program.specs.Answer.{Search, Chosen, only, last_of, is_allowed, chosen, answer, groups, found, slots_of}
use Rattle.rc_program.proofs.AnswerLemmas.{chosen_law, chosen_within}
use Rattle.std.specs.Option.{option_map}
use Rattle.rc_program.specs.Sought.{anchoring_of, search_over, text_of}
use Rattle.oracle_walker.specs.Frames.{Ends}
use Rattle.oracle_walker.proofs.TextLemmas.{same_text}

-- what a try from a start tells
pub record Tells (places : List Place) (t : Text) (hi : ℕ) (allowed : Option ℕ) (start : ℕ) (w : List Pair) (found : Bool) : Type 0 where
  pub first : IsTrue found → IsFirstWalk (ways places t hi) (Ends allowed places) [] ((0, start) ∷ []) w
  pub none : IsTrue (not found) → HasNoWalk (ways places t hi) (Ends allowed places) [] ((0, start) ∷ [])

module _ (places : List Place) (terminator : ℕ) (passes_over : Bool) (s : Searched) where
  abbrev pub S : Search
  S = search_over places terminator passes_over s

  -- a try tells this of the search
  pub tells : (t : Searched) (hi start : ℕ) (allowed : Option ℕ) (w : List Pair) (found : Bool) → Keeps s t →
      hi ≡ high s → allowed ≡ only (anchoring_of s.anchored) → Tells places (text_of terminator t) hi allowed start w found →
      Tells places (text_of terminator s) (high s) (only (anchoring_of s.anchored)) start w found
  tells t hi start allowed w found keeps e f h =
      subst (λ (x : Text). Tells places x (high s) (only (anchoring_of s.anchored)) start w found) (same_text s t terminator keeps)
      (subst (λ (k : ℕ). Tells places (text_of terminator t) k (only (anchoring_of s.anchored)) start w found) e
      (subst (λ (a : Option ℕ). Tells places (text_of terminator t) hi a start w found) f h))

  -- whether the walk is allowed
  pub told_allowed : (content : List ℕ) (w : List Pair) (b answer : Bool) → content ≡ s.content →
      answer ≡ (not passes_over || is_boundary content (last_of w).1) → answer ≡ b → is_allowed S w ≡ b
  told_allowed content w b answer e h a =
      sym (ap (λ xs. not passes_over || is_boundary xs (last_of w).1) e) ∙ sym h ∙ a

-- What was chosen is the answer.

pub chosen_found : (s : Search) (c : Chosen) → Some c ≡ chosen s → Some (found s c) ≡ answer s
unfolding answer
chosen_found s c e = ap (option_map (found s)) e

pub none_found : (s : Search) → None ≡ chosen s → None ≡ answer s
unfolding answer
none_found s e = ap (option_map (found s)) e

pub chosen_groups : (s : Search) (n : ℕ) (c : Chosen) → Some c ≡ chosen s → Some (slots_of s n c) ≡ groups s n
unfolding groups
chosen_groups s n c e = ap (option_map (slots_of s n)) e

pub chosen_inside : (s : Search) (c : Chosen) → Some c ≡ chosen s → (s.lo ≤ c.start) × (c.start ≤ (last_of c.walk).1) × ((last_of c.walk).1 ≤ s.hi)
chosen_inside s c e = chosen_within s c ((chosen_law s c).0 (sym e))
