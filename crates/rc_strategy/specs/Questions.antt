-- Only proofs use this file.
-- Questions: what a search may reply to each.
use Rattle.std.specs.Prelude.{◌≡◌, Bool, true, false, Option, is_some}
use Rattle.std.specs.Option.{option_map}
use Rattle.rc_text.specs.Found.{Found, HalfFound, half_of}
use Rattle.rc_text.specs.declared.types.MatchKind.{MatchKind}
use Rattle.rc_program.specs.Answer.{Search}
use Rattle.rc_program.specs.Kinds.{IsAnswerBy, answer_by}
use Rattle.rc_strategy.specs.Lengths.{is_leftmost}
use Rattle.rc_strategy.specs.declared.question.Question.{Question}
use Rattle.rc_strategy.specs.declared.question.Question.TheVariants.{Match, End, Any, Earliest}

-- The search may reply so.
abbrev pub IsReply : Question → MatchKind → Search → Option Found → Type 0
-- It is the match of the kind,
IsReply Match kind s o = o ≡ answer_by kind s
-- or has its end and its pattern,
IsReply End kind s o = option_map half_of o ≡ option_map half_of (answer_by kind s)
-- or says whether there is one,
IsReply Any kind s o = is_some o ≡ is_some (answer_by kind s)
-- or is any that is spelled, unless matches may be passed over.
IsReply Earliest kind s o = IsAnswerBy kind true s o

-- Any match is enough.
abbrev pub may_stop : Question → Bool
may_stop Match = false
may_stop End = false
may_stop Any = true
may_stop Earliest = true

-- The question under the earliest flag, if any match is enough or not.
abbrev pub question_by : Bool → Question → Question
question_by true q = Earliest
question_by false q = q

-- A search forwards alone replies.
abbrev pub IsForwards : Question → MatchKind → Type 0
IsForwards Match kind = ⊥
IsForwards End kind = is_leftmost kind ≡ true
IsForwards Any kind = Unit {0}
IsForwards Earliest kind = ⊥

-- The empty match at an end, of its pattern.
abbrev pub at_end : HalfFound → Found
at_end half = record { pattern = half.pattern; start = half.offset; end = half.offset }
