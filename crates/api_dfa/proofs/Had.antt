-- What a search answers is had where it is only known to be so.
use Rattle.std.proofs.Common.{◌≡◌, ℕ, ◌<◌, ◌≤◌, ◌⊎◌, Bool, true, false, ◌||◌, List, [], ◌∷◌, map, Option, Some, None, IfOk, IfErr, inl, inr, ⊎_elim, sym, subst, ap, ap₂, ◌∙◌, refl, arith, true≢false}
use Rattle.std.specs.Prelude.{Result}
use Rattle.std.specs.declared.result.Result.TheVariants.{Ok, Err}
use Rattle.std.proofs.Math.Logic.{∥∥₁_elim, ∥∥₁_map}
use Rattle.std.proofs.Props.{props}
use Rattle.std.proofs.lemmas.Bool.{cases_lt}
use Rattle.rc_text.specs.Found.{Found, HalfFound}
use Rattle.rc_text.specs.Text.{is_boundary}
use Rattle.rc_text.specs.declared.types.MatchKind.{MatchKind}
use Rattle.rc_text.specs.declared.types.MatchKind.TheVariants.{All as all_matches, LeftmostFirst as leftmost_first, LeftmostLongest as leftmost_longest}
use Rattle.rc_text.specs.declared.types.MatchError.{MatchError}
use Rattle.rc_text.specs.declared.types.MatchError.TheVariants.{Quit, GaveUp}
use Rattle.rc_pattern.specs.Re.{Re, empty, literal, byte_in, char_in, look, repeat, capture, cat, alt, none}
use Rattle.rc_pattern.specs.Properties.{has_look}
use Rattle.rc_pattern.specs.declared.hir.Look.{Look}
use Rattle.rc_program.specs.Program.{shown, without_groups}
use Rattle.rc_program.specs.Answer.{Search}
use Rattle.rc_program.specs.Greatest.{IsSpelledIn}
use Rattle.rc_program.specs.Kinds.{is_early, IsAnswerBy, IsAnswerWhere, answer_by}
use Rattle.rc_dfa_search.specs.Halves.{IsForwardHalf, IsToldWith}
use Rattle.rc_dfa_search.specs.Reverse.{IsReverseHalf, IsSpelledToEnd, IsStartWhere, HasNoStart}
use Rattle.rc_dfa_search.specs.Faults.{IsFault, MayQuit, SpeaksOfUnicode}
use Rattle.api_dfa.specs.Faults.{HasQuit}
use Rattle.api_dfa.proofs.Decided.{Decided, had, SpelledFrom, speaks_decided, spelled_decided, spelled_from_decided, spelled_in_decided}

-- of a result
pub ok_had : {A E : Type 0} (P : A → Type 0) → ((a : A) → ∥ P a ∥₁ → P a) → (r : Result A E) → ∥ IfOk r P ∥₁ → IfOk r P
ok_had P f (Ok a) t = f a t
ok_had P f (Err e) t = tt

pub err_had : {A E : Type 0} (P Q : E → Type 0) → ((e : E) → ∥ P e ∥₁ → Q e) → (r : Result A E) → ∥ IfErr r P ∥₁ → IfErr r Q
err_had P Q f (Ok a) t = tt
err_had P Q f (Err e) t = f e t

-- MATCHES

where_had : (early : Bool) (kind : MatchKind) (s : Search) (o : Option Found) → ∥ IsAnswerWhere early kind s o ∥₁ → IsAnswerWhere early kind s o
where_had true kind s None t = ∥∥₁_elim t (hlevel props) (λ e. e)
where_had true kind s (Some m) t = had (spelled_in_decided s m) t
where_had false kind s o t = ∥∥₁_elim t (hlevel props) (λ e. e)

pub answer_had : (kind : MatchKind) (earliest : Bool) (s : Search) (o : Option Found) → ∥ IsAnswerBy kind earliest s o ∥₁ → IsAnswerBy kind earliest s o
answer_had kind earliest s o t = where_had (is_early earliest s) kind s o t

-- ENDS

abbrev HalfWhere : Bool → MatchKind → Search → HalfFound → Type 0
HalfWhere early kind s h = (m : Found) × IsAnswerWhere early kind s (Some m) × (h.offset ≡ m.end) × IsToldWith kind s m h.pattern

-- any that is spelled, of the pattern that is told
from_own : (s : Search) (h : HalfFound) (m : Found) → IsSpelledIn s m → h.offset ≡ m.end → h.pattern ≡ m.pattern → SpelledFrom s h.pattern h.offset
from_own s h m w e p = (
  m.start,
  subst (λ k. IsSpelledIn s (record { pattern = k; start = m.start; end = h.offset })) (sym p)
      (subst (λ k. IsSpelledIn s (record { pattern = m.pattern; start = m.start; end = k })) (sym e) w),
)

from_early : (kind : MatchKind) (s : Search) (h : HalfFound) → HalfWhere true kind s h → SpelledFrom s h.pattern h.offset
from_early leftmost_first s h w = from_own s h w.0 w.1 w.2 w.3
from_early leftmost_longest s h w = from_own s h w.0 w.1 w.2 w.3
from_early all_matches s h w = (w.3.0, subst (λ e. IsSpelledIn s (record { pattern = h.pattern; start = w.3.0; end = e })) (sym w.2) w.3.1)

to_early : (kind : MatchKind) (s : Search) (h : HalfFound) → SpelledFrom s h.pattern h.offset → HalfWhere true kind s h
to_early leftmost_first s h w = (record { pattern = h.pattern; start = w.0; end = h.offset }, w.1, refl, refl)
to_early leftmost_longest s h w = (record { pattern = h.pattern; start = w.0; end = h.offset }, w.1, refl, refl)
to_early all_matches s h w = (record { pattern = h.pattern; start = w.0; end = h.offset }, w.1, refl, w)

same_match : (o : Option Found) (m n : Found) → o ≡ Some n → Some m ≡ o → m ≡ n
same_match o m n e f = cc

told_had : (kind : MatchKind) (s : Search) (m : Found) (p : ℕ) → ∥ IsToldWith kind s m p ∥₁ → IsToldWith kind s m p
told_had leftmost_first s m p t = ∥∥₁_elim t (hlevel props) (λ e. e)
told_had leftmost_longest s m p t = ∥∥₁_elim t (hlevel props) (λ e. e)
told_had all_matches s m p t = had (spelled_from_decided s p m.end) t

by_answer : (kind : MatchKind) (s : Search) (h : HalfFound) (o : Option Found) → answer_by kind s ≡ o → ∥ HalfWhere false kind s h ∥₁ →
    HalfWhere false kind s h
by_answer kind s h None e t = absurd (∥∥₁_elim t (λ x y. absurd x) (λ w. let f = w.1 in let never : None ≡ Some w.0 = sym e ∙ sym f in cc))
by_answer kind s h (Some m) e t = (
  m,
  sym e,
  ∥∥₁_elim t (hlevel props) (λ w. w.2 ∙ ap (λ (n : Found). n.end) (same_match (answer_by kind s) w.0 m e w.1)),
  told_had kind s m h.pattern (∥∥₁_map t (λ w. subst (λ n. IsToldWith kind s n h.pattern) (same_match (answer_by kind s) w.0 m e w.1) w.3)),
)

half_where_had : (early : Bool) (kind : MatchKind) (s : Search) (h : HalfFound) → ∥ HalfWhere early kind s h ∥₁ → HalfWhere early kind s h
half_where_had true kind s h t = to_early kind s h (had (spelled_from_decided s h.pattern h.offset) (∥∥₁_map t (from_early kind s h)))
half_where_had false kind s h t = by_answer kind s h (answer_by kind s) refl t

pub end_had : (kind : MatchKind) (earliest : Bool) (s : Search) (o : Option HalfFound) → ∥ IsForwardHalf kind earliest s o ∥₁ →
    IsForwardHalf kind earliest s o
end_had kind earliest s None t = answer_had kind earliest s None t
end_had kind earliest s (Some h) t = half_where_had (is_early earliest s) kind s h t

-- STARTS

to_end_had : (s : Search) (h : HalfFound) → ∥ IsSpelledToEnd s h ∥₁ → IsSpelledToEnd s h
to_end_had s h t =
    let within : (s.lo ≤ h.offset) × (h.offset ≤ s.hi) = ∥∥₁_elim t (hlevel props) (λ w. w.within) in
    record { within = within; is_spelled = had (spelled_decided s h.pattern h.offset s.hi within.1) (∥∥₁_map t (λ w. w.is_spelled)) }

least_decided : (a b p q : ℕ) → Decided ((a < b) ⊎ ((a ≡ b) × (p ≤ q)))
least_decided a b p q = ⊎_elim
    (λ l. inl (inl l))
    (λ g. ⊎_elim
    (λ l. inr (⊎_elim (λ x. omega (arith, x, g)) (λ x. let y = x.1 in omega (arith, y, l))))
    (λ k. ⊎_elim
    (λ l. inr (⊎_elim (λ x. omega (arith, x, g)) (λ x. let y = x.0 in omega (arith, y, l))))
    (λ m. inl (inr (omega (arith, g, m), k)))
    (cases_lt b a))
    (cases_lt q p))
    (cases_lt a b)

start_had : (early : Bool) (s : Search) (h : HalfFound) → ∥ IsStartWhere early s h ∥₁ → IsStartWhere early s h
start_had true s h t = to_end_had s h t
start_had false s h t = record {
  is_spelled = to_end_had s h (∥∥₁_map t (λ w. w.is_spelled));
  is_least = λ x p l w. had (least_decided h.offset x h.pattern p) (∥∥₁_map t (λ g. g.is_least x p l w));
}

none_had : (s : Search) (over on : Bool) → s.passes_over ≡ over → is_boundary s.text.content s.hi ≡ on →
    ∥ HasNoStart s ⊎ ((s.passes_over ≡ true) × (is_boundary s.text.content s.hi ≡ false)) ∥₁ →
    HasNoStart s ⊎ ((s.passes_over ≡ true) × (is_boundary s.text.content s.hi ≡ false))
none_had s true false a b t = inr (a, b)
none_had s false on a b t =
    inl (λ x p l w. ∥∥₁_elim t (λ y z. absurd y) (⊎_elim (λ n. n x p l w) (λ h. true≢false (sym h.0 ∙ a))))
none_had s true true a b t =
    inl (λ x p l w. ∥∥₁_elim t (λ y z. absurd y) (⊎_elim (λ n. n x p l w) (λ h. true≢false (sym b ∙ h.1))))

pub reverse_had : (earliest : Bool) (s : Search) (o : Option HalfFound) → ∥ IsReverseHalf earliest s o ∥₁ → IsReverseHalf earliest s o
reverse_had earliest s None t = none_had s s.passes_over (is_boundary s.text.content s.hi) refl refl t
reverse_had earliest s (Some h) t =
    (start_had (is_early earliest s) s h (∥∥₁_map t (λ w. w.0)), ∥∥₁_elim t (hlevel props) (λ w. w.1))

-- FAULTS

-- a pattern without its groups has the same assertions
has_look-without_groups : (h : Re) (l : Look) → has_look (without_groups h) l ≡ has_look h l
has_look-without_groups empty l = refl
has_look-without_groups (literal bs) l = refl
has_look-without_groups (byte_in rs) l = refl
has_look-without_groups (char_in rs) l = refl
has_look-without_groups (look k) l = refl
has_look-without_groups (repeat min max greedy a) l = has_look-without_groups a l
has_look-without_groups (capture n name a) l = has_look-without_groups a l
has_look-without_groups (cat a rest) l = ap₂ (λ x y. x || y) (has_look-without_groups a l) (has_look-without_groups rest l)
has_look-without_groups (alt a rest) l = ap₂ (λ x y. x || y) (has_look-without_groups a l) (has_look-without_groups rest l)
has_look-without_groups none l = refl

speaks_bare : (hs : List Re) → SpeaksOfUnicode (map without_groups hs) → SpeaksOfUnicode hs
speaks_bare [] x = x
speaks_bare (h ∷ hs) x = ⊎_elim (λ y. inl (y.0, y.1, sym (has_look-without_groups h y.0) ∙ y.2)) (λ y. inr (speaks_bare hs y)) x

speaks_shown : (grouped : Bool) (hs : List Re) → SpeaksOfUnicode (shown grouped hs) → SpeaksOfUnicode hs
speaks_shown true hs x = x
speaks_shown false hs x = speaks_bare hs x

pub fault_had : (grouped : Bool) (hs : List Re) (s : Search) (e : MatchError) → ∥ IsFault (shown grouped hs) s (λ memory. ⊥) e ∥₁ → HasQuit hs s e
fault_had grouped hs s (Quit b p) t = record {
  unicode = had (speaks_decided hs) (∥∥₁_map t (λ (q : MayQuit (shown grouped hs) s b p). speaks_shown grouped hs q.unicode));
  placed = ∥∥₁_elim t (hlevel props) (λ (q : MayQuit (shown grouped hs) s b p). q.placed);
  large = ∥∥₁_elim t (hlevel props) (λ (q : MayQuit (shown grouped hs) s b p). q.large);
  there = ∥∥₁_elim t (hlevel props) (λ (q : MayQuit (shown grouped hs) s b p). q.there);
  inside = ∥∥₁_elim t (hlevel props) (λ (q : MayQuit (shown grouped hs) s b p). q.inside);
  near = ∥∥₁_elim t (hlevel props) (λ (q : MayQuit (shown grouped hs) s b p). q.near);
}
fault_had grouped hs s (GaveUp p memory) t = ∥∥₁_elim t (λ x y. absurd x) (λ g. g.2)
