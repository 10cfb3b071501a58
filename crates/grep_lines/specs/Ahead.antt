-- Only proofs and the contracts of private functions use this file.
-- What is still to be printed, after some lines were read.
use Rattle.std.specs.Prelude.{◌≡◌, ℕ, ◌+◌, ◌-◌, ◌*◌, ◌<◌, ◌≤◌, ◌||◌, ◌⊎◌, Bool, false, true, List, [], ◌∷◌, ◌++◌, Option, Some, if◌then◌else◌, drop, filter, length, map, nat_lt, take, Vec}
use Rattle.std.specs.List.{list_any}
use Rattle.std.specs.declared.alloc.Global.{Global}
use Rattle.grep_lines.specs.Lines.{lines}
use Rattle.grep_lines.specs.Context.{Marked, Part, Prints, Shown, behind_printed, behind_selected, is_selected, marked, printed, selected_count, separated}
use Rattle.grep_lines.specs.declared.context.Extent.{Extent}
use Rattle.grep_lines.specs.declared.context.Progress.{Progress}

-- how many lines are context, behind a line with so many ones left
abbrev pub left_behind : Extent → Marked → (left : ℕ) → ℕ
left_behind e m left = if m.selected then e.after else left - 1

-- the lines that are printed, of those from a number and a place on, if so many of them are context anyway
abbrev pub later : Extent → (left number place : ℕ) → List Marked → List Shown
later e left number place [] = []
later e left number place (m ∷ rest) =
    if m.selected || (nat_lt 0 left || list_any is_selected (take e.before rest))
    then record { number = number; place = place; selected = m.selected; line = m.line }
    ∷ later e (left_behind e m left) (number + 1) (place + length m.line + 1) rest
    else later e (left_behind e m left) (number + 1) (place + length m.line + 1) rest

-- the lines behind the last one that is printed, if so many of them are context anyway
abbrev pub left_unread : Extent → (left : ℕ) → List Marked → List Marked
left_unread e left ms = if list_any is_selected ms then drop e.after (behind_selected ms) else drop left ms

-- a line that isn't selected
abbrev pub plain : List ℕ → Marked
plain line = record { line = line; selected = false }

-- the lines in buffers
abbrev pub contents : List (Vec ℕ Global) → List (List ℕ)
contents vs = map (λ v. v.items) vs

-- what is to be printed yet, if these lines are kept and those are left to read
abbrev pub ahead_of : Extent → (behind : Option ℕ) → (left next place : ℕ) → (kept : List (List ℕ)) → List Marked → List Part
ahead_of e behind left next place kept ms = separated behind (later e left next place (map plain kept ++ ms))

abbrev pub ahead : Extent → Progress → List Marked → List Part
ahead e p ms = ahead_of e p.behind p.left p.next p.place (contents p.kept.items) ms

-- No more lines are kept than may be context, and none if the next line is.
pub record IsSound (e : Extent) (p : Progress) : Type 0 where
  pub within : length p.kept.items ≤ e.before
  pub idle : 0 < length p.kept.items → p.left ≡ 0

-- The next line begins no further than lines of 2^64 bytes reach.
abbrev pub IsPlaced : Progress → Type 0
IsPlaced p = p.place ≤ p.next * 18446744073709551616

-- What was printed when a line was read, or before a selected one.
abbrev pub Advances : Extent → (old new : Progress) → (before after : Option (List Part)) → Marked → Type 0
Advances e old new before after m =
    (parts : List Part) × Prints before after parts × ((rest : List Marked) → ahead e old (m ∷ rest) ≡ parts ++ ahead e new rest)

-- The kept lines were printed, before a selected line.
abbrev pub Flushes : Extent → (old new : Progress) → (before after : Option (List Part)) → Type 0
Flushes e old new before after =
    (parts : List Part) × Prints before after parts
    × ((m : Marked) (rest : List Marked) → m.selected ≡ true → ahead e old (m ∷ rest) ≡ parts ++ ahead e new (m ∷ rest))

-- Nothing was printed when a line was read that isn't selected.
abbrev pub Skips : Extent → (old new : Progress) → List ℕ → Type 0
Skips e old new line = (rest : List Marked) → ahead e old (plain line ∷ rest) ≡ ahead e new rest

-- Reading a text stands behind some of its lines, `count` of which were selected, and `left` is what is left of it, from the place on: what
-- was printed goes on with what is to be printed yet.
pub record Stands (t : ℕ) (e : Extent) (picks : ℕ → List ℕ → Bool) (p : Progress) (old now : Option (List Part)) (left : Option (List ℕ)) (count place : ℕ) (text : List ℕ) : Type 0 where
  pub rest : List ℕ
  pub known : left ≡ Some rest
  pub parts : List Part
  pub told : Prints old now parts
  pub all : printed t e picks text ≡ parts ++ ahead e p (marked picks (e.most - count) place (lines t rest))
  pub counted : selected_count t picks e.most text ≡ count + length (filter is_selected (marked picks (e.most - count) place (lines t rest)))
  pub unread :
      (count ≡ e.most) ⊎ (list_any is_selected (marked picks (e.most - count) place (lines t rest)) ≡ true) →
      behind_printed e (marked picks e.most 0 (lines t text)) ≡ left_unread e p.left (marked picks (e.most - count) place (lines t rest))
