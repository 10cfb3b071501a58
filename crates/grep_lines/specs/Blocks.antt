-- Only proofs and the contracts of private functions use this file.
-- Whole lines that are all selected, or none of which is.
use Rattle.std.specs.Prelude.{◌≡◌, ◌≤◌, ℕ, ◌+◌, ◌-◌, Bool, false, not, List, [], ◌∷◌, ◌++◌, Option, Some, if◌then◌else◌, drop, filter, length, map}
use Rattle.std.specs.List.{list_any}
use Rattle.grep_lines.specs.Lines.{lines}
use Rattle.grep_lines.specs.Pages.{IsWhole}
use Rattle.grep_lines.specs.Context.{Marked, Part, Prints, is_selected, marked, selected_parts}
use Rattle.grep_lines.specs.Ahead.{ahead, left_unread}
use Rattle.grep_lines.specs.declared.block.Block.{Block}
use Rattle.grep_lines.specs.declared.context.Extent.{Extent}
use Rattle.grep_lines.specs.declared.context.Progress.{Progress}

-- the line is unlike those of a block
abbrev pub is_unlike : (are_selected : Bool) → (List ℕ → Bool) → List ℕ → Bool
is_unlike are_selected picks line = if are_selected then not (picks line) else picks line

-- The block's lines are all selected, or none is, and they are counted.
pub record IsBlock (t : ℕ) (picks : List ℕ → Bool) (b : Block) : Type 0 where
  pub whole : IsWhole t b.text.now
  pub counted : b.count ≡ length (lines t b.text.now)
  pub alike : filter (is_unlike b.is_selected picks) (lines t b.text.now) ≡ []

-- the lines, the first of which begins at the place, are all selected, or none is
abbrev pub AreAlike : (ℕ → List ℕ → Bool) → Bool → (place : ℕ) → List (List ℕ) → Type 0
AreAlike picks selected place [] = Unit {0}
AreAlike picks selected place (line ∷ rest) = (picks place line ≡ selected) × AreAlike picks selected (place + length line + 1) rest

-- So are those of a block that begins at the place, and they are counted.
pub record IsBlockAt (t : ℕ) (picks : ℕ → List ℕ → Bool) (place : ℕ) (b : Block) : Type 0 where
  pub whole : IsWhole t b.text.now
  pub counted : b.count ≡ length (lines t b.text.now)
  pub alike : AreAlike picks b.is_selected place (lines t b.text.now)

-- how many of its lines are selected
abbrev pub selected_in : Block → ℕ
selected_in b = if b.is_selected then b.count else 0

-- The text begins with the block.
pub record IsPart (text : List ℕ) (b : Block) : Type 0 where
  pub rest : List ℕ
  pub is : text ≡ b.text.now ++ rest

-- It begins with the one and then the other.
pub record ArePartsOf (text : List ℕ) (a b : Block) : Type 0 where
  pub rest : List ℕ
  pub is : text ≡ a.text.now ++ (b.text.now ++ rest)

-- lines, all of them selected, or none
abbrev pub marked_as : Bool → List (List ℕ) → List Marked
marked_as selected ls = map (λ line. record { line = line; selected = selected }) ls

-- What was printed when lines were read.
abbrev pub AdvancesBy : Extent → (old new : Progress) → (before after : Option (List Part)) → List Marked → Type 0
AdvancesBy e old new before after ms =
    (parts : List Part) × Prints before after parts × ((rest : List Marked) → ahead e old (ms ++ rest) ≡ parts ++ ahead e new rest)

-- Lines were read. If as many are selected now as may be, no line behind the last one that is printed was.
abbrev pub LeavesUnread : Extent → (old new : Progress) → (count : ℕ) → List Marked → Type 0
LeavesUnread e old new count ms =
    count ≡ e.most → (rest : List Marked) → list_any is_selected rest ≡ false → left_unread e old.left (ms ++ rest) ≡ drop new.left rest

-- The lines of a text's front were read, of which so many more are selected, and the lines behind them are marked as if nothing stood before.
pub record TakesFront (t : ℕ) (e : Extent) (picks : List ℕ → Bool) (old new : Progress) (before after : Option (List Part)) (count more : ℕ) (front : List ℕ) : Type 0 where
  pub whole : IsWhole t front
  pub ms : List Marked
  pub split : (rest : List ℕ) → marked (λ _. picks) (e.most - count) 0 (lines t (front ++ rest)) ≡ ms ++ marked (λ _. picks) (e.most - (count + more)) 0 (lines t rest)
  pub counted : length (filter is_selected ms) ≡ more
  pub told : AdvancesBy e old new before after ms
  pub unread : LeavesUnread e old new (count + more) ms

-- The first lines of a text were read, of which so many more are selected, and `left` holds the others.
pub record TakesLines (t : ℕ) (e : Extent) (picks : List ℕ → Bool) (old new : Progress) (before after : Option (List Part)) (count more : ℕ) (text : List ℕ) (left : Option (List ℕ)) : Type 0 where
  pub rest : List ℕ
  pub known : left ≡ Some rest
  pub ms : List Marked
  pub split : marked (λ _. picks) (e.most - count) 0 (lines t text) ≡ ms ++ marked (λ _. picks) (e.most - (count + more)) 0 (lines t rest)
  pub counted : length (filter is_selected ms) ≡ more
  pub told : AdvancesBy e old new before after ms
  pub unread : LeavesUnread e old new (count + more) ms

-- The same, where a test looks at the place of a line too: the text begins at `place`, and these lines have `len` bytes.
pub record TakesLinesAt (t : ℕ) (e : Extent) (picks : ℕ → List ℕ → Bool) (old new : Progress) (before after : Option (List Part)) (count more place len : ℕ) (text : List ℕ) (left : Option (List ℕ)) : Type 0 where
  pub rest : List ℕ
  pub known : left ≡ Some rest
  pub ms : List Marked
  pub split : marked picks (e.most - count) place (lines t text) ≡ ms ++ marked picks (e.most - (count + more)) (place + len) (lines t rest)
  pub counted : length (filter is_selected ms) ≡ more
  pub told : AdvancesBy e old new before after ms
  pub unread : LeavesUnread e old new (count + more) ms

-- No line was taken, and nothing was printed.
pub record IsUntaken (old new : Progress) (before after : Option (List Part)) : Type 0 where
  pub same : new ≡ old
  pub unprinted : after ≡ before

-- There is no line more, and nothing was printed.
pub record IsAtEnd (t : ℕ) (old new : Progress) (before after : Option (List Part)) (text : List ℕ) (left : Option (List ℕ)) : Type 0 where
  pub none : lines t text ≡ []
  pub kept : left ≡ Some text
  pub same : new ≡ old
  pub unprinted : after ≡ before

-- Lines of which none is selected were taken one by one, and `left` is what is left of the text.
pub record IsTaking (t : ℕ) (e : Extent) (old new : Progress) (before after : Option (List Part)) (text left : List ℕ) : Type 0 where
  pub firsts : List (List ℕ)
  pub split : lines t text ≡ firsts ++ lines t left
  pub short : length left ≤ length text
  pub whole : IsWhole t left
  pub told : AdvancesBy e old new before after (marked_as false firsts)

-- Selected lines were printed one by one, and `left` is what is left of the text.
pub record IsPrinting (t first begin : ℕ) (text : List ℕ) (before after : Option (List Part)) (number place : ℕ) (left : List ℕ) : Type 0 where
  pub parts : List Part
  pub split : selected_parts first begin (lines t text) ≡ parts ++ selected_parts number place (lines t left)
  pub told : Prints before after parts
  pub short : length left ≤ length text
  pub whole : IsWhole t left
  pub numbered : number + length (lines t left) ≡ first + length (lines t text)
  pub placed : place + length left ≡ begin + length text
