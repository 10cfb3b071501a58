-- The numbers of statuses.
use Rattle.std.specs.Prelude.{ℕ}

-- it is done; of a search: there is no match
abbrev pub done : ℕ
done = 0

-- there is a match
abbrev pub found : ℕ
found = 1

-- the handle is empty
abbrev pub empty : ℕ
empty = 2

-- the chunks hold as many bytes as the greatest number, or more
abbrev pub too_long : ℕ
too_long = 3

-- the range begins behind its end, or behind the text's
abbrev pub outside : ℕ
outside = 4

-- there is no such pattern or group, or it has no name
abbrev pub absent : ℕ
absent = 5

-- the place for a name or another text is too short
abbrev pub short : ℕ
short = 6

-- the bytes aren't UTF-8
abbrev pub not_utf8 : ℕ
not_utf8 = 7

-- no pattern is read from the text
abbrev pub syntax : ℕ
syntax = 8

-- the patterns are too large, or too many
abbrev pub too_large : ℕ
too_large = 9

-- memory was refused
abbrev pub memory : ℕ
memory = 10

-- no kind of match has the number
abbrev pub no_kind : ℕ
no_kind = 11

-- the settings have a byte that is on behind those that are known
abbrev pub unknown : ℕ
unknown = 12

-- the handle keeps no live list
abbrev pub no_list : ℕ
no_list = 13

-- the chunks don't have the length that an edit gives
abbrev pub misfit : ℕ
misfit = 14

-- a window ends before the answer is known
abbrev pub more_after : ℕ
more_after = 15

-- a window begins later than four bytes before the place to search from
abbrev pub more_before : ℕ
more_before = 16

-- the handle keeps no stream
abbrev pub no_stream : ℕ
no_stream = 17

-- the stream was finished
abbrev pub finished : ℕ
finished = 18

-- the stream would keep more bytes than its limit
abbrev pub limit : ℕ
limit = 19

-- the handle keeps no search in slices
abbrev pub no_stepper : ℕ
no_stepper = 20
