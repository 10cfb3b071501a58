-- What caches are made for, and what they count.
use Rattle.std.specs.Prelude.{◌≡◌, ℕ, List}
use Rattle.rc_captures.specs.Names.{slot_len}
use Rattle.rc_program.specs.Columns.{row_width}
use Rattle.rc_program.specs.Program.{Place, program, shown}
use Rattle.rc_program.specs.Sought.{Sought}
use Rattle.rc_pikevm.specs.Caches as pikevm
use Rattle.rc_build.specs.Names.{names_shown}
use Rattle.api_pikevm.specs.declared.cache.Cache.{Cache}

-- the places of something's program
abbrev pub program_of : Sought → List Place
program_of q = program (shown q.grouped q.patterns)

-- how many columns the rows have that keep the slots of all groups
abbrev pub columns_of : Sought → ℕ
columns_of q = row_width (program_of q) (slot_len (names_shown q.grouped q.patterns))

-- The cache was made for searches for this: it has room for the program, and for rows of the slots of all groups that are kept.
abbrev pub IsCacheFor : Sought → Cache → Type 0
IsCacheFor q cache = pikevm.IsCacheFor (program_of q) (columns_of q) cache.inner

-- Each list of the second cache has room for as many elements as in the first: no memory was taken.
abbrev pub HasSameRoom : Cache → Cache → Type 0
HasSameRoom old new = new.inner.room ≡ old.inner.room

-- how many places the last pass of the last search entered, over all positions
abbrev pub insertions_of : Cache → ℕ
insertions_of cache = cache.inner.insertions
