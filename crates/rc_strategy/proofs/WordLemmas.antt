-- What words reply.
use Rattle.std.proofs.Common.{◌≡◌, ◌∙◌, ℕ, true, false, true≢false, List, Option, Some, None, ap, sym}
use denote.Struct.Props.{props}
use Rattle.std.proofs.Math.Logic.{∥∥₁_elim}
use Rattle.rc_text.specs.Found.{Found}
use Rattle.rc_text.specs.Text.{Searched, low, high}
use Rattle.rc_text.specs.declared.types.Anchored.TheVariants.{No}
use Rattle.rc_text.specs.declared.types.MatchKind.{MatchKind}
use Rattle.rc_text.specs.declared.types.MatchKind.TheVariants.{All, LeftmostFirst, LeftmostLongest}
use Rattle.rc_program.specs.Kinds.{answer_by}
use Rattle.rc_program.specs.Places.{places_of}
use Rattle.rc_program.specs.Program.{Place}
use Rattle.rc_program.specs.Sought.{search_over, text_of}
use Rattle.rc_pikevm_search.specs.Engine.{engine_search}
use Rattle.rc_pikevm_search.specs.declared.engine.Engine.{Engine}
use Rattle.rc_words.specs.Laws.{AreAnswers, HaveNoAnswer, first_pattern}
use Rattle.rc_words.specs.Words.{HasNoWord, IsOnlyWord, SpellWords, between_in}
use Rattle.rc_words.specs.declared.words.Words.{Words}
use Rattle.rc_words.proofs.AnswerLemmas.{word_law}
use Rattle.rc_strategy.specs.Lengths.{is_leftmost}
use Rattle.rc_strategy.specs.Questions.{IsReply}
use Rattle.rc_strategy.specs.Worded.{AreSpelled}
use Rattle.rc_strategy.specs.declared.question.Question.{Question}
use Rattle.rc_strategy.proofs.QuestionLemmas.{match_replies}

answer_of : (kind : MatchKind) (places : List Place) (terminator : ℕ) (s : Searched) (m : Found) → is_leftmost kind ≡ true →
    AreAnswers places terminator s m → answer_by kind (search_over places terminator false s) ≡ Some m
answer_of LeftmostFirst places terminator s m leftmost a = a.0
answer_of LeftmostLongest places terminator s m leftmost a = a.1
answer_of All places terminator s m leftmost a = absurd (true≢false (sym leftmost))

none_of : (kind : MatchKind) (places : List Place) (terminator : ℕ) (s : Searched) → is_leftmost kind ≡ true →
    HaveNoAnswer places terminator s → answer_by kind (search_over places terminator false s) ≡ None
none_of LeftmostFirst places terminator s leftmost a = a.0
none_of LeftmostLongest places terminator s leftmost a = a.1
none_of All places terminator s leftmost a = absurd (true≢false (sym leftmost))

module _ (q : Question) (e : Engine) (words : Option Words) (w : Words) (s : Searched)
    (spelled : ∥ AreSpelled words (places_of e.program.places.items) e.program.terminator ∥₁) (is : words ≡ Some w)
    (free : s.anchored ≡ No) (leftmost : is_leftmost e.kind ≡ true) (none_over : e.program.passes_over ≡ false) where
  over : search_over (places_of e.program.places.items) e.program.terminator false s ≡ engine_search e s
  over = ap (λ x. search_over (places_of e.program.places.items) e.program.terminator x s) (sym none_over)

  answers : (o : Option Found) →
      (SpellWords (places_of e.program.places.items) e.program.terminator (between_in w) →
      answer_by e.kind (search_over (places_of e.program.places.items) e.program.terminator false s) ≡ o) →
      IsReply q e.kind (engine_search e s) o
  answers o by =
      match_replies q e.kind (engine_search e s) o
      (∥∥₁_elim spelled (hlevel props) (λ (f : AreSpelled words (places_of e.program.places.items) e.program.terminator).
      sym (by (f w is)) ∙ ap (answer_by e.kind) over))

  pub only_replies : (i j : ℕ) → IsOnlyWord (between_in w) (text_of e.program.terminator s) (low s) (high s) i j →
      IsReply q e.kind (engine_search e s) (Some (first_pattern i j))
  only_replies i j o =
      answers (Some (first_pattern i j)) (λ spell. answer_of e.kind (places_of e.program.places.items) e.program.terminator s (first_pattern i j) leftmost
      (word_law.only (places_of e.program.places.items) e.program.terminator (between_in w) s i j spell free o))

  pub none_replies : HasNoWord (between_in w) (text_of e.program.terminator s) (low s) (high s) → IsReply q e.kind (engine_search e s) None
  none_replies none =
      answers None (λ spell. none_of e.kind (places_of e.program.places.items) e.program.terminator s leftmost
      (word_law.none (places_of e.program.places.items) e.program.terminator (between_in w) s spell free none))
