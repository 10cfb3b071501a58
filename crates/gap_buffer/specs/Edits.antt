-- A text with a caret, and what edits make of it.
use Rattle.std.specs.Prelude.{ℕ, ◌+◌, ◌-◌, List, ◌++◌, drop, length, take}

-- the text as contracts see it
pub record Edited : Type 0 where
  pub content : List ℕ
  pub caret : ℕ

-- bytes stand at the caret, and the caret behind them
abbrev pub inserted : Edited → List ℕ → Edited
inserted t bytes = record {
  content = take t.caret t.content ++ bytes ++ drop t.caret t.content;
  caret = t.caret + length bytes;
}

-- so many bytes before the caret are gone
abbrev pub cut_before : Edited → ℕ → Edited
cut_before t n = record {
  content = take (t.caret - n) t.content ++ drop t.caret t.content;
  caret = t.caret - n;
}

-- so many bytes after the caret are gone
abbrev pub cut_after : Edited → ℕ → Edited
cut_after t n = record {
  content = take t.caret t.content ++ drop (t.caret + n) t.content;
  caret = t.caret;
}
