-- What a finder answers, and what it owes.
use Rattle.std.specs.Prelude.{◌≡◌, ℕ, ◌≤◌, List, length, min, Bool, Option, IfOk, IfSome}
use Rattle.std.specs.declared.result.Result.{Result}
use Rattle.std.specs.Borrow.{MutBor}
use Rattle.std.specs.Fn.{Mut, Called, AlwaysReturns}
use Rattle.rc_text.specs.Text.{Searched, Keeps}
use Rattle.rc_text.specs.Found.{HalfFound}
use Rattle.rc_text.specs.declared.types.Span.{Span}
use Rattle.rc_text.specs.declared.types.Anchored.{Anchored}
use Rattle.rc_text.specs.declared.types.MatchError.{MatchError}

-- What a search sees of an input: all but its chunk and its position.
pub record Task : Type 0 where
  pub content : List ℕ
  pub span : Span
  pub slice : Span
  pub anchored : Anchored
  pub earliest : Bool

abbrev pub task_of : Searched → Task
task_of s = record {
  content = s.content;
  span = s.span;
  slice = s.slice;
  anchored = s.anchored;
  earliest = s.earliest;
}

-- the same input, with the span's start at k
abbrev pub with_start : Searched → ℕ → Searched
with_start s k = record s { span = record { start = k; end = s.span.end } }

-- no match ends after this: the span's end, or the content's
abbrev pub limit : Searched → ℕ
limit s = min s.span.end (length s.content)

-- A half match has its end alone.
abbrev pub offset_of : HalfFound → ℕ
offset_of m = m.offset

-- What a call of a finder is: it is handed an input that is lent, and a result comes with what is then behind the loan.
abbrev pub Calls : Type 0 → Type 0 → Type 0 → Type 1
Calls F I X = Mut F (MutBor I × Unit {0}) (Result (Option X) MatchError × (MutBor I × Unit {0}))

-- Over matches of any kind: `begin` and `end` give the span of one.
module _ {X : Type 0} (begin end : X → ℕ) where
  -- the match lies from the input's start to its end, and in the content
  abbrev pub LiesIn : Searched → X → Type 0
  LiesIn s m = (s.span.start ≤ begin m) × (begin m ≤ end m) × (end m ≤ limit s)

  -- What a call owes: the input is as before but for its chunk and position, and a match lies in its span.
  pub record IsLawfulCall (old new : Searched) (r : Result (Option X) MatchError) : Type 0 where
    pub keeps : Keeps old new
    pub within : IfOk r (λ o. IfSome o (LiesIn old))

  -- each call of the finder does so, from this state of it on
  abbrev pub IsLawfulFinder : {F I : Type 0} → (I → Searched) → Calls F I X → F → Type 0
  IsLawfulFinder searched g = AlwaysReturns g (λ a r. IsLawfulCall (searched a.0.now) (searched r.1.0.now) r.0)

module _ {X : Type 0} where
  -- each call of the finder, from this state on, answers what `find` gives, or an error: it is exact, and `find` is a function of the task
  abbrev pub AnswersAs : {F I : Type 0} → (I → Searched) → Calls F I X → (Task → Option X) → F → Type 0
  AnswersAs searched g find = AlwaysReturns g (λ a r. IfOk r.0 (λ o. o ≡ find (task_of (searched a.0.now))))

  -- A call of the finder in this state over this input may give the answer, and leave the finder in that state.
  pub record Answers {F I : Type 0} (searched : I → Searched) (g : Calls F I X) (state : F) (s : Searched) (r : Result (Option X) MatchError) (next_state : F) : Type 0 where
    pub given : MutBor I
    pub left : MutBor I
    pub over : Keeps s (searched given.now)
    pub called : Called g state (given, tt) (r, (left, tt)) next_state
