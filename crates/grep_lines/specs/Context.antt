-- Which lines are printed: the selected ones, and lines around them.
use Rattle.std.specs.Prelude.{◌≡◌, ℕ, ◌+◌, ◌-◌, ◌==◌, ◌&&◌, ◌||◌, ◌⊎◌, Bool, List, [], ◌∷◌, ◌++◌, Option, None, Some, if◌then◌else◌, drop, filter, length, map, nat_lt, take, false, true}
use Rattle.std.specs.List.{list_any}
use Rattle.std.specs.IoError.{error_kind}
use Rattle.std.specs.declared.io.Error.{Error}
use Rattle.std.specs.declared.io.ErrorKind.TheVariants.{OutOfMemory}
use Rattle.grep_lines.specs.Lines.{lines}
use Rattle.grep_lines.specs.declared.context.Extent.{Extent}
use Rattle.grep_lines.specs.declared.context.PrintError.{PrintError}
use Rattle.grep_lines.specs.declared.context.PrintError.TheVariants.{Print, Read}

-- A line of a text, and whether it is selected.
pub record Marked : Type 0 where
  pub line : List ℕ
  pub selected : Bool

abbrev pub is_selected : Marked → Bool
is_selected m = m.selected

-- The lines, the first of which begins at the place. The first `most` of those that the test passes are selected. It is asked of a line and
-- the place where that begins.
abbrev pub marked : (ℕ → List ℕ → Bool) → (most place : ℕ) → List (List ℕ) → List Marked
marked picks most place [] = []
marked picks most place (line ∷ rest) =
    let passes = picks place line && nat_lt 0 most in
    record { line = line; selected = passes } ∷ marked picks (if passes then most - 1 else most) (place + length line + 1) rest

-- the bytes of lines, with a terminator behind each
abbrev pub size_of : List Marked → ℕ
size_of [] = 0
size_of (m ∷ ms) = length m.line + 1 + size_of ms

-- A line that is printed, by its number, which begins at 1, and the place at which it begins: as selected, or as context.
pub record Shown : Type 0 where
  pub number : ℕ
  pub place : ℕ
  pub selected : Bool
  pub line : List ℕ

-- A line is printed if it is selected, or one of the `after` lines before it is, or one of the `before` lines behind it. `seen` are the
-- lines before it, the nearest first.
abbrev pub is_shown : Extent → (seen : List Marked) → Marked → (rest : List Marked) → Bool
is_shown e seen m rest = m.selected || (list_any is_selected (take e.after seen) || list_any is_selected (take e.before rest))

-- the lines that are printed, of those behind the seen ones
abbrev pub shown : Extent → (seen rest : List Marked) → List Shown
shown e seen [] = []
shown e seen (m ∷ rest) =
    if is_shown e seen m rest
    then record { number = length seen + 1; place = size_of seen; selected = m.selected; line = m.line } ∷ shown e (m ∷ seen) rest
    else shown e (m ∷ seen) rest

-- What is printed: a line, or the separator between two lines that don't touch.
pub data Part : Type 0 where
  separator : Part
  line_of : Shown → Part

-- selected lines, the first of which has this number and begins at this place, as they are printed one behind another
abbrev pub selected_parts : (number place : ℕ) → List (List ℕ) → List Part
selected_parts number place [] = []
selected_parts number place (line ∷ rest) =
    line_of (record { number = number; place = place; selected = true; line = line }) ∷ selected_parts (number + 1) (place + length line + 1) rest

-- what stands before the line with this number; `behind` is the number behind the line that was printed last
abbrev pub gap : (behind : Option ℕ) → ℕ → List Part
gap None number = []
gap (Some behind) number = if behind == number then [] else separator ∷ []

-- the lines, with the separators between them
abbrev pub separated : (behind : Option ℕ) → List Shown → List Part
separated behind [] = []
separated behind (s ∷ rest) = gap behind s.number ++ line_of s ∷ separated (Some (s.number + 1)) rest

-- what is printed of a text
abbrev pub printed : (terminator : ℕ) → Extent → (ℕ → List ℕ → Bool) → (text : List ℕ) → List Part
printed t e picks text = separated None (shown e [] (marked picks e.most 0 (lines t text)))

-- the number of selected lines
abbrev pub selected_count : (terminator : ℕ) → (ℕ → List ℕ → Bool) → (most : ℕ) → (text : List ℕ) → ℕ
selected_count t picks most text = length (filter is_selected (marked picks most 0 (lines t text)))

-- the lines behind the last selected one; all, if none is selected
abbrev pub behind_selected : List Marked → List Marked
behind_selected [] = []
behind_selected (m ∷ rest) = if list_any is_selected (m ∷ rest) then behind_selected rest else m ∷ rest

-- the lines behind the last one that is printed; all, if none is selected
abbrev pub behind_printed : Extent → List Marked → List Marked
behind_printed e ms = if list_any is_selected ms then drop e.after (behind_selected ms) else ms

abbrev pub line_in : Marked → List ℕ
line_in m = m.line

-- the lines that aren't read: those behind the last printed one, if as many are selected as may be, and else none
abbrev pub unread : (terminator : ℕ) → Extent → (ℕ → List ℕ → Bool) → (text : List ℕ) → List (List ℕ)
unread t e picks text =
    if selected_count t picks e.most text == e.most then map line_in (behind_printed e (marked picks e.most 0 (lines t text))) else []

-- A reader has these lines left.
abbrev pub HasLeft : (terminator : ℕ) → (left : Option (List ℕ)) → List (List ℕ) → Type 0
HasLeft t left ls = (rest : List ℕ) × (left ≡ Some rest) × (lines t rest ≡ ls)

-- What a printer has printed gained these parts. `None` claims nothing.
abbrev pub Prints : (old new : Option (List Part)) → List Part → Type 0
Prints None new parts = Unit {0}
Prints (Some before) new parts = new ≡ Some (before ++ parts)

-- They were printed, or nothing was.
abbrev pub PrintsIf : (done : Bool) → (old new : Option (List Part)) → List Part → Type 0
PrintsIf true old new parts = Prints old new parts
PrintsIf false old new parts = new ≡ old

-- A beginning of what is printed of a text was printed.
abbrev pub PrintsBeginning : (terminator : ℕ) → Extent → (ℕ → List ℕ → Bool) → (old new : Option (List Part)) → (text : List ℕ) → Type 0
PrintsBeginning t e picks old new text = (parts rest : List Part) × (printed t e picks text ≡ parts ++ rest) × Prints old new parts

-- It holds if the reader failed. A printer that failed claims nothing.
abbrev pub IfRead : PrintError → Type 0 → Type 0
IfRead (Read fault) claim = claim
IfRead (Print fault) claim = Unit {0}

-- What an error of the printer claims. A reader that failed claims nothing.
abbrev pub IfPrint : PrintError → (Error → Type 0) → Type 0
IfPrint (Read fault) claim = Unit {0}
IfPrint (Print fault) claim = claim fault

-- the error is one that the printer may give, or memory was refused
abbrev pub IsPrintFault : (fails_by : Error → Type 0) → Error → Type 0
IsPrintFault fails_by fault = fails_by fault ⊎ (error_kind fault ≡ OutOfMemory)
