-- Before which position no match begins, whatever follows.
use Rattle.std.proofs.Common.{◌≡◌, ℕ, ◌≤◌, false, List, length, Result, Ok, Err, IfOk, sym, subst, ⊎_elim, arith}
use Rattle.std.proofs.lemmas.Bool.{cases_lt}
use Rattle.std.proofs.Math.Logic.{∥∥₁_elim}
use denote.Struct.Props.{props}
use Rattle.rc_text.specs.Text.{Searched, high}
use Rattle.rc_text.specs.declared.types.MatchError.{MatchError}
use Rattle.rc_text.specs.declared.types.MatchKind.{MatchKind}
use Rattle.rc_pattern.specs.Re.{Re}
use Rattle.rc_program.specs.Answer.{Search}
use Rattle.rc_program.specs.Places.{places_of}
use Rattle.rc_program.specs.Program.{program}
use Rattle.rc_program.specs.Sought.{search_over}
use Rattle.rc_program.proofs.KindLemmas.{kinds_law}
use Rattle.rc_reach.specs.Partial.{IsPartial, from_place}
use Rattle.rc_dfa.specs.Machine.{Machine}
use Rattle.rc_dfa_search.specs.Aims.{AreHalvesOf, search_for}
use Rattle.rc_dfa_search.specs.Reaches.{IsAnswerBelow, NoneBeginBelow}
use Rattle.rc_dfa_search.specs.declared.undecided.Told.{Told}
use Rattle.rc_dfa_search.specs.declared.search.Aim.{Aim}
use Rattle.rc_dfa_search.proofs.SettledLemmas.{agrees_less}
use Rattle.rc_pikevm_search.specs.Engine.{engine_search}
use Rattle.rc_pikevm_search.specs.declared.engine.Engine.{Engine}
use Rattle.rc_dfa.specs.Machine.{bytes}
use Rattle.rc_dfa_reach.specs.RunReach.{seen_to}
use Rattle.rc_strategy.specs.Tables.{AreHalvesOver, aim_of}

-- no match begins before the search does
pub from_start : (kind : MatchKind) (s : Search) → IsPartial kind s (from_place s.lo)
from_start kind s t on m found =
    let spelled = kinds_law.spelled kind false t m (sym found) in
    let low = spelled.is_start.0 in
    let same = on.1.lo in
    omega (arith, low, same)

-- nor where no walk does
none_partial : (kind : MatchKind) (s : Search) (r k : ℕ) → r ≤ length s.text.content → NoneBeginBelow s r k → IsPartial kind s (from_place k)
none_partial kind s r k le none t on m found =
    ⊎_elim
    (λ lt. let spelled = kinds_law.spelled kind false t m (sym found) in
    absurd (none t on.0 (agrees_less s t r (length s.text.content) le on.1) m.start spelled.is_start.0 lt spelled.walk spelled.is_walk))
    (λ ge. ge)
    (cases_lt m.start k)

module _ (e : Engine) (patterns : ℕ) (s : Searched) (a : Aim) (AreOf : Machine → Machine → Type 0)
    (own : ∥ AreHalvesOver bytes e patterns AreOf ∥₁)
    (same : a ≡ aim_of e patterns) where
  -- in code
  pub tables_rest : (r : Result ℕ MatchError) →
      ((hs : List Re) → places_of e.program.places.items ≡ program hs → (of : AreHalvesOf AreOf a hs e.program.terminator) →
      IfOk r (NoneBeginBelow (search_for a hs e.program.terminator s) (seen_to of.ahead.alphabet (high s)))) →
      IfOk r (λ k. IsPartial e.kind (engine_search e s) (from_place k))
  tables_rest (Err x) tells = tt
  tables_rest (Ok k) tells =
      ∥∥₁_elim own (hlevel props)
      (λ (f : AreHalvesOver bytes e patterns AreOf).
      let h = f.are_halves in
      let Unbegun : Aim → ℕ → Type 0 = λ x r. NoneBeginBelow (search_for x h.hs e.program.terminator s) r k in
      let one = subst (λ x. (of : AreHalvesOf AreOf x h.hs e.program.terminator) → Unbegun x (seen_to of.ahead.alphabet (high s))) same (tells h.hs h.program) h.halves in
      none_partial e.kind (engine_search e s) (high s) k (omega arith)
      (subst (λ places. NoneBeginBelow (search_over places e.program.terminator e.program.passes_over s) (high s) k) (sym h.program)
      (subst (λ b. Unbegun (aim_of e patterns) (seen_to b (high s))) f.read one)))

  -- what they tell in one search
  pub tables_tell_from : (r : Result Told MatchError) →
      ((hs : List Re) → places_of e.program.places.items ≡ program hs → (of : AreHalvesOf AreOf a hs e.program.terminator) →
      IfOk r (λ o. NoneBeginBelow (search_for a hs e.program.terminator s) (seen_to of.ahead.alphabet (high s)) o.from)) →
      IfOk r (λ o. IsPartial e.kind (engine_search e s) (from_place o.from))
  tables_tell_from (Err x) tells = tt
  tables_tell_from (Ok o) tells = tables_rest (Ok o.from) tells

  pub tables_tell_settled : (r : Result Told MatchError) →
      ((hs : List Re) → places_of e.program.places.items ≡ program hs → (of : AreHalvesOf AreOf a hs e.program.terminator) → of.ahead.alphabet ≡ bytes →
      IfOk r (λ o. IsAnswerBelow a.kind (search_for a hs e.program.terminator s) o.settled.reach o.settled.found)) →
      IfOk r (λ o. IsAnswerBelow e.kind (engine_search e s) o.settled.reach o.settled.found)
  tables_tell_settled (Err x) tells = tt
  tables_tell_settled (Ok o) tells =
      ∥∥₁_elim own (hlevel props)
      (λ (f : AreHalvesOver bytes e patterns AreOf).
      let h = f.are_halves in
      let Below : Aim → Type 0 = λ x. IsAnswerBelow x.kind (search_for x h.hs e.program.terminator s) o.settled.reach o.settled.found in
      let one = subst (λ x. (of : AreHalvesOf AreOf x h.hs e.program.terminator) → of.ahead.alphabet ≡ bytes → Below x) same (tells h.hs h.program) h.halves f.read in
      subst (λ places. IsAnswerBelow e.kind (search_over places e.program.terminator e.program.passes_over s) o.settled.reach o.settled.found) (sym h.program) one)
