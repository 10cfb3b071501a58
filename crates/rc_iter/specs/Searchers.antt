-- What a searcher answers, and what it keeps.
use Rattle.std.specs.Prelude.{◌≡◌, ℕ, ◌+◌, ◌<◌, ◌≤◌, true, Option, Some, IfOk, IfSome, MatchOption, MatchResult}
use Rattle.std.specs.Option.{option_map}
use Rattle.std.specs.declared.result.Result.{Result}
use Rattle.std.specs.declared.result.Result.TheVariants.{Ok, Err}
use Rattle.rc_text.specs.Text.{Searched, Keeps}
use Rattle.rc_text.specs.declared.types.MatchError.{MatchError}
use Rattle.rc_text.specs.Found.{Found, HalfFound, half_of}
use Rattle.rc_program.specs.Matches.{is_again, next_match}
use Rattle.rc_iter.specs.Finders.{Answers, Calls, Task, task_of, with_start, LiesIn}

-- A searcher as contracts see it.
pub record Searching : Type 0 where
  -- the kept input
  pub input : Searched
  -- where the last match ended
  pub last : Option ℕ

-- all is as before, but for the input's chunk and position
abbrev pub Stands : Searching → Searching → Type 0
Stands s t = Keeps s.input t.input × (t.last ≡ s.last)

-- the span begins at k, where the last match ended; all else is as before, but for the input's chunk and position
abbrev pub GoesOn : Searching → ℕ → Searching → Type 0
GoesOn s k t = Keeps (with_start s.input k) t.input × (t.last ≡ Some k)

-- Over matches of any kind: `begin` and `end` give the span of one.
module _ {X : Type 0} (begin end : X → ℕ) where
  -- the next match of the list, where `find` answers each search
  abbrev pub next_by : (Task → Option X) → Searching → Option X
  next_by find s = next_match begin end (λ k. find (task_of (with_start s.input k))) s.input.span.start s.last

  -- An error that the rule meets: of the first call, or, where that gave an empty match that ends where the last one did, of the call
  -- from a byte later.
  pub data Meets {F I : Type 0} (searched : I → Searched) (g : Calls F I X) (state : F) (s : Searching) (e : MatchError) : Type 0 where
    at_once : {then : F} → Answers searched g state s.input (Err e) then → Meets searched g state s e
    later : {between then : F} (m : X) → Answers searched g state s.input (Ok (Some m)) between → is_again begin end s.last m ≡ true →
        Answers searched g between (with_start s.input (s.input.span.start + 1)) (Err e) then → Meets searched g state s e

  -- after a match it goes on from its end, and else it stands
  abbrev pub Leaves : Searching → Result (Option X) MatchError → Searching → Type 0
  Leaves s r t = MatchResult r (λ o. MatchOption o (Stands s t) (λ m. GoesOn s (end m) t)) (λ _. Stands s t)

  -- a match ends after the last one, unless the span was set to begin before that one's end
  abbrev pub Rises : Searching → Result (Option X) MatchError → Type 0
  Rises s r = IfOk r (λ o. IfSome o (λ m. IfSome s.last (λ last. last ≤ s.input.span.start → last < end m)))

  -- a match lies in the span
  abbrev pub StaysWithin : Searching → Result (Option X) MatchError → Type 0
  StaysWithin s r = IfOk r (λ o. IfSome o (LiesIn begin end s.input))

-- the span begins where the last match ended, or after that
abbrev pub IsPast : Searching → Type 0
IsPast s = IfSome s.last (λ last. last ≤ s.input.span.start)

-- a match that `find` gives begins where the task does, or after that, and ends no earlier than it begins
abbrev pub FindsAhead : (Task → Option Found) → Type 0
FindsAhead find = (t : Task) (m : Found) → find t ≡ Some m → (t.span.start ≤ m.start) × (m.start ≤ m.end)

-- the halves of what `find` gives
abbrev pub halves_of : (Task → Option Found) → Task → Option HalfFound
halves_of find t = option_map half_of (find t)
