-- Only proofs use this file.
-- The lists that are open, one in the other.
use Rattle.std.specs.Prelude.{◌≡◌, ℕ, ◌+◌, ◌≤◌, Bool, List, [], ◌∷◌, length, reverse, Option}
use Rattle.rc_tokens.specs.Text.{Characters}
use Rattle.rc_tokens.specs.ClassView.{pairs}
use Rattle.rc_class_sets.specs.Sets.{CodeSet, AreRangesOf}
use Rattle.rc_full_lists.specs.declared.parts.Settings.{Settings}
use Rattle.rc_full_lists.specs.declared.parts.Part.{Part}
use Rattle.rc_full_lists.specs.declared.parts.Part.TheVariants as part
use Rattle.rc_full_lists.specs.declared.parts.Operation.{Operation}
use Rattle.rc_full_lists.specs.declared.items.Item.{Item}
use Rattle.rc_full_lists.specs.declared.levels.Level as code
use Rattle.rc_full_lists.specs.declared.levels.Levels as codes
use Rattle.rc_full_lists.specs.declared.levels.Step.{Step}
use Rattle.rc_full_lists.specs.declared.levels.Step.TheVariants.{Goes, Ends}
use Rattle.rc_full_lists.specs.Items.{item_set}
use Rattle.rc_full_lists.specs.Openings.{IsOpening}
use Rattle.rc_full_lists.specs.Sides.{AreSides}
use Rattle.rc_full_lists.specs.Lists.{Progress, lead_set, begun, with_item, with_list, operated, list_set}

-- a list that isn't closed yet
pub record Level : Type 0 where
  pub negated : Bool
  pub progress : Progress

-- the innermost list, and those around it from the inside out
pub record Levels : Type 0 where
  pub inner : Level
  pub outer : List Level

abbrev pub at : Level → List Level → Levels
at l ls = record { inner = l; outer = ls }

abbrev pub level_set : Level → CodeSet
level_set l = list_set l.negated l.progress

-- behind its opening
abbrev pub opened : Bool → Bool → Bool → Option ℕ → Level
opened unicode fold negated lead = record { negated = negated; progress = begun (lead_set unicode fold lead) }

abbrev pub more : CodeSet → Level → Level
more p l = record { negated = l.negated; progress = with_item p l.progress }

abbrev pub past_operator : Operation → Level → Level
past_operator o l = record { negated = l.negated; progress = operated o l.progress }

abbrev pub with_listed : CodeSet → ℕ → Level → Level
with_listed p depth l = record { negated = l.negated; progress = with_list p depth l.progress }

-- m, behind the list l in it
abbrev pub around : Level → Level → Level
around l m = with_listed (level_set l) (l.progress.deepest + 1) m

module _ (s : Settings) (fold : Bool) where
  -- one part, and the text behind it: which lists are open before it, and which ones behind it
  pub data Moves : Levels → Part → Characters → Levels → Characters → Type 0 where
    item : (l : Level) (ls : List Level) (i : Item) (t : Characters) →
        Moves (at l ls) (part.Has i) t (at (more (item_set s.unicode fold i) l) ls) t
    operator : (l : Level) (ls : List Level) (o : Operation) (t : Characters) →
        Moves (at l ls) (part.Operates o) t (at (past_operator o l) ls) t
    opens : (l : Level) (ls : List Level) (t u : Characters) (negated : Bool) (lead : Option ℕ) → IsOpening s.verbose t negated lead u →
        Moves (at l ls) part.Opens t (at (opened s.unicode fold negated lead) (l ∷ ls)) u
    closes : (l m : Level) (ls : List Level) (t : Characters) →
        Moves (at l (m ∷ ls)) part.Closes t (at (around l m) ls) t

-- Each list, those around it and those in it are within the limit.
abbrev pub Fit : ℕ → List Level → Type 0
Fit limit [] = Unit {0}
Fit limit (l ∷ ls) = (length ls + l.progress.deepest + 1 ≤ limit) × Fit limit ls

-- ---- what the reader keeps

pub record IsLevel (unicode : Bool) (code : code.Level) (l : Level) : Type 0 where
  pub negated : code.negated ≡ l.negated
  pub sides : AreSides unicode code.sides l.progress.side
  pub deepest : code.deepest ≡ l.progress.deepest

abbrev pub AreOuter : Bool → List (code.Level) → List Level → Type 0
AreOuter unicode [] [] = Unit {0}
AreOuter unicode [] (l ∷ ls) = ⊥
AreOuter unicode (c ∷ cs) [] = ⊥
AreOuter unicode (c ∷ cs) (l ∷ ls) = IsLevel unicode c l × AreOuter unicode cs ls

pub record AreLevels (unicode : Bool) (code : codes.Levels) (ls : Levels) : Type 0 where
  pub inner : IsLevel unicode code.inner ls.inner
  pub outer : AreOuter unicode (reverse code.outer.items) ls.outer

-- The innermost list is closed, and if it isn't the outermost the one around it goes on.
abbrev pub ClosesTo : Bool → Level → List Level → Characters → Step → Type 0
ClosesTo unicode l [] t (Ends class depth) = AreRangesOf unicode (level_set l) (pairs class.items) × (depth ≡ l.progress.deepest + 1)
ClosesTo unicode l [] t (Goes next rest) = ⊥
ClosesTo unicode l (m ∷ ls) t (Ends class depth) = ⊥
ClosesTo unicode l (m ∷ ls) t (Goes next rest) = AreLevels unicode next (at (around l m) ls) × (rest.now ≡ t)

module _ (s : Settings) (fold : Bool) (limit : ℕ) (ls : Levels) (k : Part) (t : Characters) where
  -- Behind the part k the reader goes on, or the outermost list ends.
  abbrev pub StepsTo : Step → Type 0
  StepsTo (Goes next rest) = (after : Levels) × Moves s fold ls k t after rest.now × AreLevels s.unicode next after × Fit limit (after.inner ∷ after.outer)
  StepsTo (Ends class depth) = (k ≡ part.Closes) × (ls.outer ≡ []) × AreRangesOf s.unicode (level_set ls.inner) (pairs class.items)
      × (depth ≡ ls.inner.progress.deepest + 1)

-- one list more would be too deep
abbrev pub IsTooDeep : ℕ → Levels → Part → Type 0
IsTooDeep limit ls k = (k ≡ part.Opens) × (limit ≤ length ls.outer + 1)
