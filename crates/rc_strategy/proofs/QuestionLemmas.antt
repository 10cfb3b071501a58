-- What is replied to a question.
use Rattle.std.proofs.Common.{◌≡◌, ◌∙◌, ℕ, ◌≤◌, Bool, true, false, true≢false, List, Option, Some, None, Result, Ok, Err, IfOk, IfSome, ap, refl, sym, subst, arith}
use Rattle.std.specs.Prelude.{is_some}
use Rattle.std.specs.Option.{option_map}
use Rattle.std.specs.Result.{result_ok}
use Rattle.std.proofs.lemmas.Option.{none-some}
use Rattle.std.proofs.lemmas.Result.{IfOk-weaker}
use Rattle.rc_pattern.specs.Re.{Re}
use Rattle.rc_text.specs.Bounds.{IsWithinBounds}
use Rattle.rc_text.specs.Found.{Found, HalfFound, half_of}
use Rattle.rc_text.specs.Text.{Searched, low, high}
use Rattle.rc_text.specs.declared.types.MatchError.{MatchError}
use Rattle.rc_text.specs.declared.types.MatchKind.{MatchKind}
use Rattle.rc_program.specs.Answer.{Search}
use Rattle.rc_program.specs.Kinds.{IsAnswerBy, IsAnswerWhere, answer_by, is_early}
use Rattle.rc_program.specs.Places.{places_of}
use Rattle.rc_program.specs.Program.{program}
use Rattle.rc_program.proofs.GreatestLemmas.{spelled_within}
use Rattle.rc_program.proofs.KindLemmas.{kind_spelled}
use Rattle.rc_dfa.specs.Machine.{Machine}
use Rattle.rc_dfa_search.specs.Aims.{AreHalvesOf, search_for}
use Rattle.rc_dfa_search.specs.Halves.{IsForwardHalf}
use Rattle.rc_dfa_search.specs.declared.search.Aim.{Aim}
use Rattle.rc_pikevm_search.specs.Engine.{engine_search}
use Rattle.rc_pikevm_search.specs.declared.engine.Engine.{Engine}
use Rattle.rc_strategy.specs.Early.{IsHalfBy}
use Rattle.rc_strategy.specs.Questions.{IsForwards, IsReply, at_end, may_stop, question_by}
use Rattle.rc_strategy.specs.Tables.{AreHalvesFor, aim_of}
use Rattle.rc_strategy.specs.declared.question.Question.{Question}
use Rattle.rc_strategy.specs.declared.question.Question.TheVariants.{Match, End, Any, Earliest}
use Rattle.rc_strategy.proofs.EarlyLemmas.{half_may_by, may_by}
use Rattle.rc_strategy.proofs.TableLemmas.{found_there, tables_tell_any, tables_tell_by, tables_tell_end}

-- what holds of an answer holds of it without the reason why there is none
pub ok_then : {A E : Type 0} (r : Result A E) (o : Option A) (P : A → Type 0) → o ≡ result_ok r → IfOk r P → IfSome o P
ok_then {A} {E} r o P is h = subst (λ x. IfSome x P) (sym is) (go r h)
  where
    go : (r : Result A E) → IfOk r P → IfSome (result_ok r) P
    go (Ok x) h = h
    go (Err e) h = tt

-- the match of the kind is a reply to each
pub match_replies : (q : Question) (kind : MatchKind) (s : Search) (o : Option Found) → o ≡ answer_by kind s → IsReply q kind s o
match_replies Match kind s o h = h
match_replies End kind s o h = ap (λ x. option_map half_of x) h
match_replies Any kind s o h = ap is_some h
match_replies Earliest kind s o h = may_by kind true s o h

-- so is what may be answered
pub whole_replies : (q : Question) (kind : MatchKind) (s : Search) (o : Option Found) → IsAnswerBy kind (may_stop q) s o → IsReply q kind s o
whole_replies Match kind s o h = h
whole_replies End kind s o h = ap (λ x. option_map half_of x) h
whole_replies Any kind s o h = found_there kind s o h
whole_replies Earliest kind s o h = h

-- no match has no half
pub none_by_half : (o : Option Found) → None ≡ option_map half_of o → None ≡ o
none_by_half None h = refl
none_by_half (Some m) h = absurd (none-some (half_of m) h)

-- UNDER THE EARLIEST FLAG

early_so : (earliest : Bool) (s : Search) → is_early earliest s ≡ true → is_early true s ≡ true
early_so false s e = absurd (true≢false (sym e))
early_so true s e = e

early_where : (b earliest : Bool) (kind : MatchKind) (s : Search) (o : Option Found) → is_early earliest s ≡ b → IsReply (question_by b Match) kind s o →
    IsAnswerWhere b kind s o
early_where false earliest kind s o is h = h
early_where true earliest kind s o is h = subst (λ b. IsAnswerWhere b kind s o) (early_so earliest s is) h

-- the reply may be answered
pub reply_may : (q : Question) (kind : MatchKind) (earliest : Bool) (s : Search) (o : Option Found) → q ≡ question_by (is_early earliest s) Match → IsReply q kind s o →
    IsAnswerBy kind earliest s o
reply_may q kind earliest s o is h = early_where (is_early earliest s) earliest kind s o refl (subst (λ x. IsReply x kind s o) is h)

half_where : (b earliest : Bool) (kind : MatchKind) (s : Search) (o : Option Found) → is_early earliest s ≡ b → IsReply (question_by b End) kind s o →
    IsHalfBy kind earliest s (option_map half_of o)
half_where false earliest kind s o is h = half_may_by kind earliest s (option_map half_of o) h
half_where true earliest kind s o is h = (o, subst (λ b. IsAnswerWhere b kind s o) (early_so earliest s is ∙ sym is) h, refl)

-- so may its half
pub reply_half : (q : Question) (kind : MatchKind) (earliest : Bool) (s : Search) (o : Option Found) (half : Option HalfFound) → q ≡ question_by (is_early earliest s) End →
    IsReply q kind s o → half ≡ option_map half_of o → IsHalfBy kind earliest s half
reply_half q kind earliest s o half is h e =
    subst (IsHalfBy kind earliest s) (sym e) (half_where (is_early earliest s) earliest kind s o refl (subst (λ x. IsReply x kind s o) is h))

-- BY A DFA

half_back : (o : Option HalfFound) → option_map half_of (option_map at_end o) ≡ o
half_back None = refl
half_back (Some h) = refl

there_back : (o : Option HalfFound) → is_some (option_map at_end o) ≡ is_some o
there_back None = refl
there_back (Some h) = refl

-- an end lies where its half does
pub end_within : (s : Searched) (o : Option HalfFound) (f : Option Found) → f ≡ option_map at_end o →
    IfSome o (λ (h : HalfFound). (low s ≤ h.offset) × (h.offset ≤ high s)) → IfSome f (IsWithinBounds s)
end_within s o f is h = subst (λ x. IfSome x (IsWithinBounds s)) (sym is) (go o h)
  where
    go : (x : Option HalfFound) → IfSome x (λ (h : HalfFound). (low s ≤ h.offset) × (h.offset ≤ high s)) → IfSome (option_map at_end x) (IsWithinBounds s)
    go None w = tt
    go (Some x) w = (w.0, omega arith, w.1)

-- what a DFA search is for that serves a question
abbrev pub aim_by : Engine → ℕ → Question → Aim
aim_by e patterns q = record (aim_of e patterns) { earliest = may_stop q }

module _ (e : Engine) (patterns : ℕ) {AreOf : Machine → Machine → Type 0} (s : Searched) (own : ∥ AreHalvesFor e patterns AreOf ∥₁) where
  -- it tells what may be answered,
  pub tables_may : (q : Question) (a : Aim) → a ≡ aim_by e patterns q → (r : Result (Option Found) MatchError) →
      ((hs : List Re) → places_of e.program.places.items ≡ program hs → AreHalvesOf AreOf a hs e.program.terminator →
      IfOk r (IsAnswerBy a.kind a.earliest (search_for a hs e.program.terminator s))) →
      IfOk r (IsAnswerBy e.kind (may_stop q) (engine_search e s))
  tables_may q a is r tells =
      tables_tell_by e patterns s (aim_of e patterns) own refl (may_stop q) r
      (λ hs same h. subst (λ (x : Aim). AreHalvesOf AreOf x hs e.program.terminator → IfOk r (IsAnswerBy x.kind x.earliest (search_for x hs e.program.terminator s))) is (tells hs same) h)

  -- and so a reply
  pub tables_reply : (q : Question) (a : Aim) → a ≡ aim_by e patterns q → (r : Result (Option Found) MatchError) →
      ((hs : List Re) → places_of e.program.places.items ≡ program hs → AreHalvesOf AreOf a hs e.program.terminator →
      IfOk r (IsAnswerBy a.kind a.earliest (search_for a hs e.program.terminator s))) →
      IfOk r (IsReply q e.kind (engine_search e s))
  tables_reply q a is r tells = IfOk-weaker r _ _ (λ o h. whole_replies q e.kind (engine_search e s) o h) (tables_may q a is r tells)

  tells_half : (q : Question) (a : Aim) → a ≡ aim_by e patterns q → (o : Option HalfFound) → IsForwards q e.kind →
      ((hs : List Re) → places_of e.program.places.items ≡ program hs → AreHalvesOf AreOf a hs e.program.terminator →
      IsForwardHalf a.kind a.earliest (search_for a hs e.program.terminator s) o) →
      IsReply q e.kind (engine_search e s) (option_map at_end o)
  tells_half Match a is o never tells = absurd never
  tells_half Earliest a is o never tells = absurd never
  tells_half End a is o left tells = half_back o ∙ tables_tell_end e patterns s a own is left (Ok o) tells
  tells_half Any a is o _ tells =
      there_back o
      ∙ tables_tell_any e patterns s (aim_of e patterns) own refl o
      (λ hs same h. subst (λ (x : Aim). AreHalvesOf AreOf x hs e.program.terminator → IsForwardHalf x.kind x.earliest (search_for x hs e.program.terminator s) o) is (tells hs same) h)

  -- and so is an end that it tells forwards
  pub end_replies : (q : Question) (a : Aim) → a ≡ aim_by e patterns q → (o : Option HalfFound) (f : Option Found) → f ≡ option_map at_end o → IsForwards q e.kind →
      ((hs : List Re) → places_of e.program.places.items ≡ program hs → AreHalvesOf AreOf a hs e.program.terminator →
      IsForwardHalf a.kind a.earliest (search_for a hs e.program.terminator s) o) →
      IsReply q e.kind (engine_search e s) f
  end_replies q a is o f at forwards tells = subst (IsReply q e.kind (engine_search e s)) (sym at) (tells_half q a is o forwards tells)

-- BY A PASS

-- where there is a match, the bounds are in order
pub ordered_so : (e : Engine) (s : Searched) (b : Bool) → b ≡ is_some (answer_by e.kind (engine_search e s)) → b ≡ true → low s ≤ high s
ordered_so e s b is so = go (answer_by e.kind (engine_search e s)) refl (sym is ∙ so)
  where
    go : (o : Option Found) → answer_by e.kind (engine_search e s) ≡ o → is_some (answer_by e.kind (engine_search e s)) ≡ true → low s ≤ high s
    go None e' there = absurd (true≢false (sym there ∙ ap is_some e'))
    go (Some m) e' there =
        let w = spelled_within (engine_search e s) m (kind_spelled e.kind (engine_search e s) m e') in
        let a = w.0 in let b = w.1 in let c = w.2 in omega (arith, a, b, c)
