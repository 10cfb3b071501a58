-- Worked rows of the definitions.
use Rattle.std.proofs.Common.{◌≡◌, ℕ, false, true, [], ◌∷◌, length, min, nat_le, Option, Some, None, Ok, if◌then◌else◌, refl}
use Rattle.rc_text.specs.Found.{Found}
use Rattle.rc_text.specs.declared.types.Anchored.TheVariants.{No}
use Rattle.rc_program.specs.Matches.{begin_of, end_of}
use Rattle.rc_iter.specs.Finders.{Task, offset_of, limit}
use Rattle.rc_iter.specs.Searchers.{Searching, next_by, halves_of}
use Rattle.rc_iter.specs.Halves.{going, answer_of, is_last, items_at_most}

-- `ab`, from k on, where the last match ended at `last`
abbrev ab : ℕ → Option ℕ → Searching
ab k last = record {
  input = record {
    content = 97 ∷ 98 ∷ [];
    chunk = 97 ∷ 98 ∷ [];
    offset = 0;
    position = k;
    span = record { start = k; end = 5 };
    slice = record { start = 0; end = 5 };
    anchored = No;
    earliest = false;
  };
  last = last;
}

-- the empty match at each start
abbrev empty : Task → Option Found
empty t =
    if nat_le t.span.start (min t.span.end (length t.content))
    then Some (record { pattern = 0; start = t.span.start; end = t.span.start }) else None

-- an empty match is found where the span begins, but not twice
first : next_by begin_of end_of empty (ab 0 None) ≡ Some (record { pattern = 0; start = 0; end = 0 })
first = refl

second : next_by begin_of end_of empty (ab 0 (Some 0)) ≡ Some (record { pattern = 0; start = 1; end = 1 })
second = refl

-- it may follow a match that is not empty
after_another : next_by begin_of end_of empty (ab 1 (Some 0)) ≡ Some (record { pattern = 0; start = 1; end = 1 })
after_another = refl

at_the_end : next_by begin_of end_of empty (ab 1 (Some 1)) ≡ Some (record { pattern = 0; start = 2; end = 2 })
at_the_end = refl

none_left : next_by begin_of end_of empty (ab 2 (Some 2)) ≡ None
none_left = refl

second_half : next_by offset_of offset_of (halves_of empty) (ab 0 (Some 0)) ≡ Some (record { pattern = 0; offset = 1 })
second_half = refl

-- the span ends past the content
ends_with_the_content : limit (ab 0 None).input ≡ 2
ends_with_the_content = refl

-- a match at each of three positions, and an error
at_first : items_at_most {F = ℕ} (going (ab 0 None) 0) ≡ 4
at_first = refl

at_last : items_at_most {F = ℕ} (going (ab 2 (Some 2)) 0) ≡ 1
at_last = refl

after_the_end : items_at_most {F = ℕ} (record { searcher = ab 0 None; finder = 0; is_done = true }) ≡ 0
after_the_end = refl

none_is_an_answer : answer_of None ≡ Ok None
none_is_an_answer = refl

half_is_not_last : is_last (Some (Ok (record { pattern = 0; offset = 1 }))) ≡ false
half_is_not_last = refl
