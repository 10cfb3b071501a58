-- From needle to needle, where any match is enough.
use Rattle.std.proofs.Common.{◌≡◌, ◌∙◌, ◌⊎◌, ℕ, ◌<◌, ◌≤◌, ◌&&◌, Bool, true, false, true≢false, List, Option, Some, None, Result, Ok, Err, IfOk, IsTrue, not, sym, subst, ap, ap₂, refl, arith}
use Rattle.std.proofs.lemmas.Option.{none-some}
use Rattle.rc_text.specs.Found.{Found}
use Rattle.rc_text.specs.Text.{Searched, Keeps, low, high}
use Rattle.rc_text.specs.declared.types.Anchored.TheVariants.{No}
use Rattle.rc_text.specs.declared.types.MatchError.{MatchError}
use Rattle.rc_pattern.specs.Re.{Re}
use Rattle.rc_walks.specs.Walks.{Pair}
use Rattle.rc_program.specs.Text.{Text}
use Rattle.rc_program.specs.Program.{place_at}
use Rattle.rc_program.specs.Answer.{Search, HasNoWalkFrom, anywhere, ends, is_anchored, last_of, next_of, only, pattern_at}
use Rattle.rc_program.specs.Greatest.{HasNoSpan, IsSpelledIn}
use Rattle.rc_program.specs.Sought.{anchoring_of}
use Rattle.rc_program.proofs.AnswerLemmas.{answer_law, match_place_is, walk_ends}
use Rattle.rc_program.proofs.GreatestLemmas.{no_answer_no_span}
use Rattle.rc_program.proofs.KindLemmas.{kinds_law, missing_by}
use Rattle.rc_determinize.specs.States.{State}
use Rattle.rc_program.specs.Kinds.{IsAnswerBy, IsAnswerWhere, answer_by, is_early}
use Rattle.rc_text.specs.declared.types.MatchKind.{MatchKind}
use Rattle.rc_dfa.specs.Machine.{Machine}
use Rattle.rc_dfa.specs.Runs.{RunEnd, met_last, stopped_at, idle_at, EndsSo, at_bound, dead, early, quit, rests, SearchEnds, ran, unread}
use Rattle.rc_dfa_search.specs.declared.search.Aim.{Aim}
use Rattle.rc_dfa_search.specs.Aims.{AreHalvesOf, search_for}
use Rattle.rc_dfa_search.specs.Ends.{Asks}
use Rattle.rc_dfa_search.specs.Legs.{GoesByNeedles}
use Rattle.rc_dfa_search.specs.Machines.{IsCase}
use Rattle.rc_dfa_search.specs.Rests.{GivesToo, StartsGive}
use Rattle.rc_dfa_search.proofs.LegLemmas.{free_case}
use Rattle.rc_dfa_search.proofs.NeedleLemmas as needle
use Rattle.rc_dfa_search.proofs.RestLemmas.{rest_law}
use Rattle.rc_dfa_search.proofs.ToldLemmas.{kept_search}

-- a span that is spelled is enough, where any is
spelled_may : (kind : MatchKind) (earliest : Bool) (s : Search) (m : Found) → is_early earliest s ≡ true → IsSpelledIn s m → IsAnswerBy kind earliest s (Some m)
spelled_may kind earliest s m enough h = subst (λ b. IsAnswerWhere b kind s (Some m)) (sym enough) h

-- ONE RUN

abbrev last_met : RunEnd → Option Pair
last_met (met_last met) = met
last_met (stopped_at p) = None
last_met (idle_at i) = None

-- a run that met nothing went as far as one that isn't early
late_so : (m : Machine) (t : Text) (hi from : ℕ) (first : State) (e : RunEnd) → last_met e ≡ None → EndsSo m t hi from first true e → EndsSo m t hi from first false e
late_so m t hi from first e none (at_bound s next runs may step) = at_bound s next runs may step
late_so m t hi from first e none (dead i s runs d) = dead i s runs d
late_so m t hi from first e none (early {met} i s on runs) = absurd (none-some met (sym none))
late_so m t hi from first e none (quit i s runs le may) = quit i s runs le may
late_so m t hi from first e none (rests i s runs le idle) = rests i s runs le idle

late : (m : Machine) (t : Text) (hi from : ℕ) (e : RunEnd) → last_met e ≡ None → SearchEnds m t hi from No true e → SearchEnds m t hi from No false e
late m t hi from e none (ran first may begins so) = ran first may begins (late_so m t hi from first e none so)
late m t hi from e none (unread p at may) = unread p at may

-- whether or not it was to end at the first match
pub not_early : (m : Machine) (t : Text) (hi from : ℕ) (earliest : Bool) (e : RunEnd) → last_met e ≡ None → SearchEnds m t hi from No earliest e →
    SearchEnds m t hi from No false e
not_early m t hi from true e none h = late m t hi from e none h
not_early m t hi from false e none h = h

-- FROM WHERE ON

module _ (s : Search) (free : s.anchoring ≡ anywhere) (x : ℕ) (low : s.lo ≤ x) where
  abbrev Later_on : Search
  Later_on = record s { lo = x }

  loose : IsTrue (is_anchored s.anchoring) → ⊥
  loose t = true≢false (sym t ∙ ap is_anchored free)

  -- a span that is spelled from there on is spelled
  pub spelled_before : (m : Found) → IsSpelledIn Later_on m → IsSpelledIn s m
  spelled_before m h =
      let from = h.is_start.0 in
      record {
        is_start = (omega (arith, low, from), h.is_start.1, λ t. absurd (loose t));
        walk = h.walk;
        is_walk = h.is_walk;
        pattern = h.pattern;
        position = h.position;
      }

  -- where none is, no walk begins from there on
  pub no_walk_on : HasNoSpan Later_on → (z : ℕ) → x ≤ z → z ≤ s.hi → HasNoWalkFrom s z
  no_walk_on none z from to v w =
      none (record { pattern = pattern_at (place_at s.places (last_of v).0); start = z; end = (last_of v).1 })
      (record {
        is_start = (from, to, λ t. absurd (loose t));
        walk = v;
        is_walk = w;
        pattern = match_place_is (only s.anchoring) (place_at s.places (last_of v).0) (walk_ends (next_of s) (λ n. IsTrue (ends s n)) w);
        position = refl;
      })

-- THE MATCH

module _ (AreOf : Machine → Machine → Type 0) (aim : Aim) (hs : List Re) (terminator : ℕ) (of : AreHalvesOf AreOf aim hs terminator) (s : Searched)
    (early : aim.earliest ≡ true) (goes : GoesByNeedles (record aim { earliest = false }) s.anchored) where
  abbrev S : Search
  S = search_for aim hs terminator s

  abbrev Late : Aim
  Late = record aim { earliest = false }

  -- the halves of a search where not any match is enough
  abbrev pub late_of : AreHalvesOf AreOf Late hs terminator
  late_of = record {
    ahead = of.ahead;
    back = of.back;
    are_of = of.are_of;
    alphabet = of.alphabet;
    machines = of.machines;
    counted = of.counted;
    few = of.few;
  }

  nothing_may : answer_by aim.kind S ≡ None → IsAnswerBy aim.kind aim.earliest S None
  nothing_may e = (missing_by aim.kind aim.earliest S).1 e

  -- a search without a position
  pub void_may : (high s < low s) ⊎ (¬ Asks aim.patterns s.anchored) → IsAnswerBy aim.kind aim.earliest S None
  void_may void = nothing_may (sym (needle.none_void AreOf Late hs terminator late_of s void))

  module _ (lo hi : ℕ) (is_lo : lo ≡ low s) (is_hi : hi ≡ high s) (ordered : lo ≤ hi) where
    -- no start gives anything
    pub none_may : StartsGive aim.kind of.ahead S lo None → IsAnswerBy aim.kind aim.earliest S None
    none_may given =
        nothing_may (sym (needle.none_given AreOf Late hs terminator late_of s goes lo hi is_lo is_hi ordered (subst (λ x. StartsGive aim.kind of.ahead S x None) is_lo given)))

    module _ (from : ℕ) (above : lo ≤ from) (below : from ≤ hi) (given : GivesToo aim.kind of.ahead S from lo) where
      case : IsCase hs aim.kind of.ahead of.back No S
      case = free_case AreOf aim hs terminator s of (omega (arith, ordered, is_lo, is_hi)) goes.free

      answers_on : (o : Option Found) → IsAnswerBy aim.kind aim.earliest (record S { lo = from }) o → IsAnswerBy aim.kind aim.earliest S o
      answers_on (Some m) h =
          spelled_may aim.kind aim.earliest S m (ap₂ (λ a b. a && not b) early goes.all)
          (spelled_before S (ap anchoring_of goes.free) from (omega (arith, above, is_lo)) m (kinds_law.spelled aim.kind aim.earliest (record S { lo = from }) m h))
      answers_on None h =
          let none = no_answer_no_span (record S { lo = from }) goes.all
          ((answer_law.answer_none (record S { lo = from })).0 ((kinds_law.missing aim.kind aim.earliest (record S { lo = from }) goes.all).0 h)) in
          none_may (given None (rest_law.nowhere hs aim.kind of.ahead of.back S from goes.kind case (omega (arith, below, is_hi))
          (λ z a b. no_walk_on S (ap anchoring_of goes.free) from (omega (arith, above, is_lo)) none z a (omega (arith, b)))))

      -- what is told from there on is told
      pub told_on : (t : Searched) (r : Result (Option Found) MatchError) → Keeps s t →
          IfOk r (IsAnswerBy aim.kind aim.earliest (record (search_for aim hs terminator t) { lo = from })) → IfOk r (IsAnswerBy aim.kind aim.earliest S)
      told_on t (Err e) keeps h = tt
      told_on t (Ok o) keeps h =
          answers_on o (subst (λ (q : Search). IsAnswerBy aim.kind aim.earliest (record q { lo = from }) o) (kept_search aim hs terminator s t keeps) h)
