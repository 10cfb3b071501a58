-- What the halves over a finder are, one after another.
use Rattle.std.specs.Prelude.{◌≡◌, ℕ, suc, ◌+◌, ◌-◌, ◌≤◌, List, ◌++◌, length, map, Bool, true, false, Option, Some, None, IfOk, IfErr, MatchBool, nat_eq, if◌then◌else◌}
use Rattle.std.specs.declared.result.Result.{Result}
use Rattle.std.specs.declared.result.Result.TheVariants.{Ok, Err}
use Rattle.rc_text.specs.Text.{Searched}
use Rattle.std.specs.Fn.{always_mut}
use Rattle.std.specs.Iterator.{Yields, YieldsThen}
use Rattle.rc_text.specs.Found.{Found, HalfFound, half_of}
use Rattle.rc_program.specs.Matches.{AreInOrder, AreMatches, begin_of, end_of}
use Rattle.rc_text.specs.declared.types.MatchError.{MatchError}
use Rattle.rc_iter.specs.Finders.{Task, Calls, AnswersAs, IsLawfulFinder, limit, offset_of, task_of, with_start}
use Rattle.rc_iter.specs.Searchers.{FindsAhead, IsPast, Searching, halves_of, next_by, Meets, StaysWithin, Rises, Leaves}

-- The halves that are still to come, as contracts see them: over this searcher by this finder, or none.
pub record HalvesLeft (F : Type 0) : Type 0 where
  pub searcher : Searching
  pub finder : F
  pub is_done : Bool

-- at the beginning they are over a searcher
abbrev pub going : {F : Type 0} → Searching → F → HalvesLeft F
going s f = record {
  searcher = s;
  finder = f;
  is_done = false;
}

-- the answer that an item is: None ends the halves
abbrev pub answer_of : Option (Result HalfFound MatchError) → Result (Option HalfFound) MatchError
answer_of None = Ok None
answer_of (Some (Ok m)) = Ok (Some m)
answer_of (Some (Err e)) = Err e

-- nothing comes after it
abbrev pub is_last : Option (Result HalfFound MatchError) → Bool
is_last None = true
is_last (Some (Ok m)) = false
is_last (Some (Err e)) = true

-- What a call gives before the end: the next half of the list, or an error of the finder.
pub record GivesHalf {F I : Type 0} (searched : I → Searched) (g : Calls F I HalfFound) (s : HalvesLeft F)
    (r : Option (Result HalfFound MatchError)) (t : HalvesLeft F) : Type 0 where
  pub exact : (find : Task → Option HalfFound) → AnswersAs searched g find s.finder →
      IfOk (answer_of r) (λ o. o ≡ next_by offset_of offset_of find s.searcher)
  pub stays : (find : Task → Option HalfFound) → AnswersAs searched g find s.finder → AnswersAs searched g find t.finder
  pub failed : IfErr (answer_of r) (Meets offset_of offset_of searched g s.finder s.searcher)
  pub within : StaysWithin offset_of offset_of s.searcher (answer_of r)
  pub rises : Rises offset_of offset_of s.searcher (answer_of r)
  pub leaves : Leaves offset_of offset_of s.searcher (answer_of r) t.searcher
  pub done : t.is_done ≡ is_last r

-- what a call gives: after an error or the end it is None
abbrev pub GivesItem : {F I : Type 0} → (I → Searched) → Calls F I HalfFound → HalvesLeft F → Option (Result HalfFound MatchError) → HalvesLeft F → Type 0
GivesItem searched g s r t = MatchBool s.is_done ((r ≡ None) × (t ≡ s)) (GivesHalf searched g s r t)

-- that, and the finder may be called as before, also once None came
abbrev pub GivesNext : {F I : Type 0} → (I → Searched) → Calls F I HalfFound → HalvesLeft F → Option (Result HalfFound MatchError) → HalvesLeft F → Type 0
GivesNext searched g s r t = GivesItem searched g s r t × always_mut g t.finder × IsLawfulFinder offset_of offset_of searched g t.finder

-- the last match ended where the span begins
abbrev pub is_at : ℕ → Option ℕ → Bool
is_at k None = false
is_at k (Some last) = nat_eq last k

-- no more halves than this are found: one for each position from the span's start on, save where the last match ended
abbrev pub halves_at_most : Searching → ℕ
halves_at_most s =
    if is_at s.input.span.start s.last then limit s.input - s.input.span.start else limit s.input + 1 - s.input.span.start

-- no more items than this come: the halves, and an error
abbrev pub items_at_most : {F : Type 0} → HalvesLeft F → ℕ
items_at_most s = if s.is_done then 0 else suc (halves_at_most s.searcher)

-- what it finds from a start on, over the input
abbrev pub found_in : (Task → Option Found) → Searched → ℕ → Option Found
found_in find s k = find (task_of (with_start s k))

-- these are the matches that are left of a searcher, where `find` answers each search
abbrev pub AreLeft : (Task → Option Found) → Searching → List Found → Type 0
AreLeft find s ms = AreMatches begin_of end_of (found_in find s.input) s.input.span.start s.last ms

-- What calls of `next` give from a searcher and a finder on.
pub record HalvesLaw {F I : Type 0} (searched : I → Searched) (g : Calls F I HalfFound) (s : Searching) (f : F) : Type 0 where
  -- With an exact finder, halves are the patterns and ends of a beginning of the list of matches ..
  pub begin : (find : Task → Option Found) → FindsAhead find → AnswersAs searched g (halves_of find) f → IsPast s →
      (items : List HalfFound) (t : HalvesLeft F) → Yields (GivesNext searched g) (going s f) (map Ok items) t →
      (ms : List Found) × (items ≡ map half_of ms) × ((rest : List Found) → AreLeft find t.searcher rest → AreLeft find s (ms ++ rest))
  -- .. and once None comes after them, of the whole list
  pub list : (find : Task → Option Found) → FindsAhead find → AnswersAs searched g (halves_of find) f → IsPast s →
      (items : List HalfFound) (t : HalvesLeft F) → YieldsThen (GivesNext searched g) (going s f) (map Ok items) None t →
      (ms : List Found) × (items ≡ map half_of ms) × AreLeft find s ms
  -- With any lawful finder they rise ..
  pub rise : (items : List HalfFound) (t : HalvesLeft F) → Yields (GivesNext searched g) (going s f) (map Ok items) t →
      AreInOrder offset_of offset_of (limit s.input) items
  -- .. and are no more than there are positions.
  pub few : (items : List HalfFound) (t : HalvesLeft F) → Yields (GivesNext searched g) (going s f) (map Ok items) t →
      length items ≤ limit s.input + 1 - s.input.span.start
