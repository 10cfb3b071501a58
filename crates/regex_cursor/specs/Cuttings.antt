-- Two searches of an engine over inputs that are equal but for how they are cut.
use Rattle.std.specs.Prelude.{◌≡◌, false, is_some, Option, Result, IfOk}
use Rattle.rc_text.specs.Found.{Found, HalfFound}
use Rattle.rc_text.specs.Text.{Searched, Keeps}
use Rattle.rc_text.specs.declared.types.MatchKind.{MatchKind}
use Rattle.rc_text.specs.declared.types.MatchError.{MatchError}
use Rattle.rc_program.specs.Kinds.{is_early, IsAnswerBy}
use Rattle.rc_program.specs.Sought.{Sought, search_for}
use Rattle.rc_dfa_search.specs.Halves.{IsForwardHalf}
use Rattle.rc_dfa_search.specs.Leftmost.{IsLeftmost}
use Rattle.rc_dfa_search.specs.Reverse.{IsReverseHalf}

-- where neither is an error, they are equal
abbrev pub AreAlike : {A : Type 0} → Result (Option A) MatchError → Result (Option A) MatchError → Type 0
AreAlike a b = IfOk a (λ m. IfOk b (λ n. m ≡ n))

pub record EnginesLaw : Type 0 where
  -- they are one search; what a clause says by an equation of it, as of slots and lists, is equal
  pub searches : (q : Sought) (s t : Searched) → Keeps s t → search_for q t ≡ search_for q s
  -- the match, where it isn't any that may be told
  pub matches : (q : Sought) (kind : MatchKind) (s t : Searched) (a b : Result (Option Found) MatchError) → Keeps s t →
      is_early s.earliest (search_for q s) ≡ false →
      IfOk a (IsAnswerBy kind s.earliest (search_for q s)) → IfOk b (IsAnswerBy kind t.earliest (search_for q t)) → AreAlike a b
  -- whether there is one
  pub finds : (q : Sought) (kind : MatchKind) (s t : Searched) (a b : Result (Option Found) MatchError) → Keeps s t →
      IfOk a (IsAnswerBy kind s.earliest (search_for q s)) → IfOk b (IsAnswerBy kind t.earliest (search_for q t)) →
      IfOk a (λ m. IfOk b (λ n. is_some m ≡ is_some n))
  -- the end of the preferred match or of the longest, by a search forwards
  pub ends : (q : Sought) (kind : MatchKind) (s t : Searched) (a b : Result (Option HalfFound) MatchError) → IsLeftmost kind → Keeps s t →
      is_early s.earliest (search_for q s) ≡ false →
      IfOk a (IsForwardHalf kind s.earliest (search_for q s)) → IfOk b (IsForwardHalf kind t.earliest (search_for q t)) → AreAlike a b
  -- the start of what leads to the upper bound, by a search backwards
  pub starts : (q : Sought) (s t : Searched) (a b : Result (Option HalfFound) MatchError) → Keeps s t → is_early s.earliest (search_for q s) ≡ false →
      IfOk a (IsReverseHalf s.earliest (search_for q s)) → IfOk b (IsReverseHalf t.earliest (search_for q t)) → AreAlike a b
