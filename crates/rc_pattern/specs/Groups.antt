-- Only proofs use this file.
-- What is read of a group.
use Rattle.std.specs.Prelude.{ℕ, List, Option, string_bytes}
use Rattle.std.specs.Option.{option_map}
use Rattle.std.specs.Borrow.{Bor}
use Rattle.rc_pattern.specs.declared.hir.Capture.{Capture, out-Capture}

-- the group's number
abbrev pub number_of : Bor Capture → ℕ
number_of c = (out-Capture c.now).index

-- the bytes of the group's name
abbrev pub name_of : Bor Capture → Option (List ℕ)
name_of c = option_map string_bytes (out-Capture c.now).name
