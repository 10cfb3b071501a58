-- Readers: the places of a program that read.
use Rattle.std.specs.Prelude.{ℕ, ◌+◌, Bool, true, false, List, [], ◌∷◌, if◌then◌else◌}
use Rattle.rc_program.specs.Program.{Place, byte, branch, scalar}

-- The place reads one byte, or the bytes of one scalar.
abbrev pub reads : Place → Bool
reads (byte rs n) = true
reads (branch ts) = true
reads (scalar rs n) = true
reads q = false

-- How many of the places pass the test.
abbrev pub count_of : (Place → Bool) → List Place → ℕ
count_of test [] = 0
count_of test (q ∷ qs) = if test q then 1 + count_of test qs else count_of test qs

-- How many of the places read.
abbrev pub reader_count : List Place → ℕ
reader_count places = count_of reads places
