-- Searches under the earliest flag.
use Rattle.std.proofs.Common.{◌≡◌, ◌∙◌, ℕ, ◌≤◌, Bool, true, false, not, ◌&&◌, true≢false, length, Option, Some, None, IfSome, ap, sym, refl, subst, arith, min}
use Rattle.std.specs.Prelude.{is_some}
use Rattle.std.specs.Option.{option_map}
use Rattle.rc_text.specs.Found.{Found, HalfFound, half_of}
use Rattle.rc_text.specs.Text.{Searched, Keeps, KeepsText, high}
use Rattle.rc_text.specs.declared.types.MatchKind.{MatchKind}
use Rattle.rc_program.specs.Answer.{Search}
use Rattle.rc_program.specs.Greatest.{IsSpelledIn, greatest}
use Rattle.rc_program.specs.Kinds.{IsAnswerBy, answer_by, is_early}
use Rattle.rc_program.proofs.GreatestLemmas.{greatest_law}
use Rattle.rc_program.proofs.KindLemmas.{kind_spelled, kinds_law}
use Rattle.rc_pikevm_search.specs.Engine.{engine_search}
use Rattle.rc_pikevm_search.specs.declared.engine.Engine.{Engine}
use Rattle.rc_strategy.specs.Early.{IsHalfBy}
use Rattle.rc_strategy.proofs.SettleLemmas.{spelled_up_to}

-- the search of an input whose span ends earlier
input_up_to : (e : Engine) (a b : Searched) (end : ℕ) → end ≤ high a → KeepsText a b → b.span.start ≡ a.span.start → b.span.end ≡ end → b.slice ≡ a.slice →
    engine_search e b ≡ record (engine_search e a) { hi = end }
input_up_to e a b end above k start stop slice =
    let bounded : ℕ → Search = λ hi. record (engine_search e a) { hi = hi } in
    let hi : min (min end a.slice.end) (length a.content) ≡ end = omega (arith, above) in
    rw (k.content, k.anchored, slice, start, stop) (ap bounded hi)

-- what is found up to there is spelled
pub found_up_to : (e : Engine) (a b : Searched) (end : ℕ) (o : Option Found) → end ≤ high a → KeepsText a b → b.span.start ≡ a.span.start → b.span.end ≡ end →
    b.slice ≡ a.slice → o ≡ answer_by e.kind (engine_search e b) → IfSome o (IsSpelledIn (engine_search e a))
found_up_to e a b end None above k start stop slice told = tt
found_up_to e a b end (Some m) above k start stop slice told =
    spelled_up_to (engine_search e a) end above m
    (kind_spelled e.kind (record (engine_search e a) { hi = end }) m
    (ap (answer_by e.kind) (sym (input_up_to e a b end above k start stop slice)) ∙ sym told))

-- where the shown chunk and the position alone change, the match of the kind is the same
pub kept_match : (e : Engine) (a b c : Searched) (o : Option Found) → Keeps a b → Keeps b c → o ≡ answer_by e.kind (engine_search e c) →
    o ≡ answer_by e.kind (engine_search e a)
kept_match e a b c o k l told =
    let same : engine_search e c ≡ engine_search e a =
    rw (l.content, l.span, l.slice, l.anchored, k.content, k.span, k.slice, k.anchored) refl in
    told ∙ ap (answer_by e.kind) same

-- the match of the kind is an answer under the flag
pub may_by : (kind : MatchKind) (earliest : Bool) (s : Search) (o : Option Found) → o ≡ answer_by kind s → IsAnswerBy kind earliest s o
may_by kind earliest s o e = subst (IsAnswerBy kind earliest s) (sym e) (kinds_law.best kind earliest s)

-- where any match is enough, none is passed over
none_passed : (earliest over : Bool) → (earliest && not over) ≡ true → over ≡ false
none_passed false over e = absurd (true≢false (sym e))
none_passed true false e = refl
none_passed true true e = absurd (true≢false (sym e))

nothing : (o : Option Found) → is_some o ≡ false → o ≡ None
nothing None e = refl
nothing (Some m) e = absurd (true≢false e)

-- where nothing ends, nothing is the answer
pub none_may : (kind : MatchKind) (earliest : Bool) (s : Search) (b : Bool) → b ≡ is_some (greatest s) → b ≡ false → is_early earliest s ≡ true →
    IsAnswerBy kind earliest s None
none_may kind earliest s b told none early =
    let off = none_passed earliest s.passes_over early in
    (kinds_law.missing kind earliest s off).1 ((greatest_law.same_none s off).0 (nothing (greatest s) (sym told ∙ none)))

-- the half of the match of the kind
pub half_may_by : (kind : MatchKind) (earliest : Bool) (s : Search) (half : Option HalfFound) → half ≡ option_map half_of (answer_by kind s) → IsHalfBy kind earliest s half
half_may_by kind earliest s half e = (answer_by kind s, kinds_law.best kind earliest s, e)
