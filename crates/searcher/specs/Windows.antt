-- What a part of a text tells of a search in the whole of it.
use Rattle.std.specs.Prelude.{◌≡◌, ◌⊎◌, ℕ, ◌+◌, ◌-◌, ◌<◌, ◌≤◌, ◌^◌, true, List, [], ◌++◌, length, Option, None, Some}
use Rattle.rc_text.specs.Found.{Found}
use Rattle.api_meta.specs.declared.regex.Regex.{Regex}
use Rattle.searcher.specs.Answers.{answer_in}
use Rattle.searcher.specs.declared.answers.Fault.{Fault}
use Rattle.searcher.specs.declared.answers.Fault.TheVariants.{Outside, TooLong}
use Rattle.searcher.specs.declared.answers.Window.{Window}
use Rattle.searcher.specs.declared.answers.WindowAnswer.{WindowAnswer}
use Rattle.searcher.specs.declared.answers.WindowAnswer.TheVariants.{Final, MoreAfter, MoreBefore, NoMatch}

-- The text has these bytes where the window begins, and if the window is its last, it ends with them.
pub record IsPart (w : Window) (bytes text : List ℕ) : Type 0 where
  pub before : List ℕ
  pub after : List ℕ
  pub is : text ≡ before ++ (bytes ++ after)
  pub start : length before ≡ w.start
  pub last : w.is_last ≡ true → after ≡ []
  pub fits : length text + 1 < 2 ^ 64

-- the match in a range of each text of which the window is a part
abbrev pub Finds : Regex → Window → List ℕ → ℕ → ℕ → Option Found → Type 0
Finds r w bytes from end found = (text : List ℕ) → IsPart w bytes text → answer_in r text from end ≡ found

-- A search of such a text finds the same from either place on.
abbrev pub FindsSame : Regex → Window → List ℕ → ℕ → ℕ → ℕ → Type 0
FindsSame r w bytes from place end = (text : List ℕ) → IsPart w bytes text → answer_in r text from end ≡ answer_in r text place end

-- where the window ends
abbrev pub window_end : Window → List ℕ → ℕ
window_end w bytes = w.start + length bytes

-- It has the four bytes before the place, as far as the text has them. No assertion at the place sees more.
abbrev pub HasBefore : Window → ℕ → Type 0
HasBefore w from = w.start ≤ from - 4

-- It goes on for five bytes after the range, or the text ends with it.
abbrev pub HasAfter : Window → List ℕ → ℕ → Type 0
HasAfter w bytes end = (w.is_last ≡ true) ⊎ (end + 5 ≤ window_end w bytes)

-- It can be searched in the range: none of what follows applies.
pub record IsSearched (w : Window) (bytes : List ℕ) (from end : ℕ) : Type 0 where
  pub order : from ≤ end
  pub before : HasBefore w from
  pub inside : w.is_last ≡ true → from ≤ window_end w bytes
  pub fits : window_end w bytes + 1 < 2 ^ 64

-- What the window tells of a search in the range. It begins too late, or ends too early, only if it is so.
abbrev pub IsTold : Regex → Window → List ℕ → ℕ → ℕ → WindowAnswer → Type 0
IsTold r w bytes from end (Final m) = IsSearched w bytes from end × Finds r w bytes from end (Some m)
IsTold r w bytes from end NoMatch = IsSearched w bytes from end × Finds r w bytes from end None
IsTold r w bytes from end (MoreAfter place) =
    IsSearched w bytes from end × (¬ HasAfter w bytes end) × (from ≤ place) × (place ≤ end) × ((place ≤ from) ⊎ (place ≤ window_end w bytes))
    × FindsSame r w bytes from place end
IsTold r w bytes from end MoreBefore = (from ≤ end) × ¬ HasBefore w from

-- Why there is no answer: the range begins behind its end, or behind the text's, or else the window ends too far on.
abbrev pub IsWindowFault : Window → List ℕ → ℕ → ℕ → Fault → Type 0
IsWindowFault w bytes from end Outside = (end < from) ⊎ (HasBefore w from × (w.is_last ≡ true) × (window_end w bytes < from))
IsWindowFault w bytes from end TooLong =
    (from ≤ end) × HasBefore w from × (w.is_last ≡ true → from ≤ window_end w bytes) × (2 ^ 64 ≤ window_end w bytes + 1)
