-- What a line has.
use Rattle.std.specs.Prelude.{ℕ, List, take}
use Rattle.regex_cursor.specs.declared.run.line.Line.{Line}

-- the bytes so far
abbrev pub line_text : Line → List ℕ
line_text l = take l.len l.bytes
