-- What is known of tables that an engine has.
use Rattle.std.proofs.Common.{◌≡◌, ◌∙◌, ℕ, List, length, Option, Some, None, Result, Ok, Err, IfOk, Bool, true, false, not, true≢false, ap, ap₂, refl, sym, subst, arith}
use Rattle.std.specs.Prelude.{is_some}
use Rattle.std.specs.Option.{option_map}
use Rattle.std.proofs.lemmas.Option.{none-some}
use Rattle.std.proofs.Math.Logic.{∥∥₁_elim}
use denote.Struct.Props.{props}
use Rattle.rc_pattern.specs.Re.{Re}
use Rattle.rc_text.specs.Found.{Found, HalfFound, half_of}
use Rattle.rc_text.specs.Text.{Searched}
use Rattle.rc_text.specs.declared.types.Anchored.TheVariants.{No}
use Rattle.rc_text.specs.declared.types.MatchError.{MatchError}
use Rattle.rc_text.specs.declared.types.MatchKind.{MatchKind}
use Rattle.rc_text.specs.declared.types.MatchKind.TheVariants.{All as all_matches, LeftmostFirst as leftmost_first, LeftmostLongest as leftmost_longest}
use Rattle.rc_program.specs.Answer.{Search}
use Rattle.rc_program.specs.Kinds.{is_early, IsAnswerBy, IsAnswerWhere, answer_by}
use Rattle.rc_program.proofs.GreatestLemmas.{greatest_law}
use Rattle.rc_program.proofs.KindLemmas.{missing_by}
use Rattle.rc_program.proofs.ReachLemmas.{longest_law}
use Rattle.rc_program.specs.Places.{places_of}
use Rattle.rc_program.specs.Program.{place_at, program, slot}
use Rattle.rc_program.specs.Sought.{anchoring_of, search_over}
use Rattle.rc_dfa.specs.Machine.{Alphabet, Machine}
use Rattle.rc_dfa_reach.specs.RunReach.{seen_to}
use Rattle.rc_dfa_search.specs.Aims.{AreHalvesOf, search_for}
use Rattle.rc_dfa_search.specs.Halves.{IsForwardHalf}
use Rattle.rc_dfa_search.specs.Leftmost.{IsLeftmost}
use Rattle.rc_dfa_search.specs.Reaches.{IsAnswerBelow}
use Rattle.rc_dfa_search.specs.Reverse.{IsMatchToEnd}
use Rattle.rc_dfa_search.proofs.ReverseEndLemmas.{reverse_end_law}
use Rattle.rc_dfa_search.specs.declared.reach.Settled.{Settled}
use Rattle.rc_dfa_search.specs.declared.search.Aim.{Aim}
use Rattle.rc_pikevm_search.specs.Engine.{engine_search}
use Rattle.rc_pikevm_search.specs.declared.engine.Engine.{Engine}
use Rattle.rc_strategy.specs.Slots.{NamesGroups}
use Rattle.rc_strategy.specs.Lengths.{BoundsWalks, is_leftmost}
use Rattle.rc_strategy.specs.declared.lengths.Lengths.{Lengths}
use Rattle.rc_strategy.specs.Starts.{unpassed}
use Rattle.rc_strategy.specs.Tables.{AreHalvesFor, AreHalvesOver, aim_of}
use Rattle.rc_strategy.proofs.SettleLemmas.{answers_so, settled_by, settled_prop}
use Rattle.rc_strategy.proofs.SlotLemmas.{program_names}
use Rattle.rc_strategy.proofs.SpanLemmas.{ends_at_bound}
use Rattle.rc_strategy.proofs.ToEndLemmas.{greatest_to_end}

-- the half that a search forwards tells is that of the match of the least start
half_told : (kind : MatchKind) → IsLeftmost kind → (s : Search) (o : Option HalfFound) → IsForwardHalf kind false s o → o ≡ option_map half_of (answer_by kind s)
half_told kind left s None h = ap (option_map half_of) h
half_told all_matches left s (Some h) w = absurd left
half_told leftmost_first left s (Some h) w =
    ap₂ (λ (p x : ℕ). let f : HalfFound = record { pattern = p; offset = x } in Some f) w.3 w.2 ∙ ap (option_map half_of) w.1
half_told leftmost_longest left s (Some h) w =
    ap₂ (λ (p x : ℕ). let f : HalfFound = record { pattern = p; offset = x } in Some f) w.3 w.2 ∙ ap (option_map half_of) w.1

-- where not each match counts, that is what tables find
leftmost_kind : (kind : MatchKind) → is_leftmost kind ≡ true → IsLeftmost kind
leftmost_kind all_matches h = absurd (true≢false (sym h))
leftmost_kind leftmost_first h = tt
leftmost_kind leftmost_longest h = tt

not_so : (b : Bool) → not b ≡ true → b ≡ false
not_so true e = absurd (true≢false (sym e))
not_so false e = refl

-- what may be answered isn't missing
some_missing : (kind : MatchKind) (s : Search) (m : Found) (b : Bool) → is_early true s ≡ b → IsAnswerWhere b kind s (Some m) → answer_by kind s ≡ None → ⊥
some_missing kind s m false is h e = none-some m (sym (h ∙ e))
some_missing all_matches s m true is h e = (greatest_law.none s).0 e m h
some_missing leftmost_longest s m true is h e = (greatest_law.none s).0 ((greatest_law.same_none s (not_so s.passes_over is)).1 ((longest_law.same_none s (not_so s.passes_over is)).0 e)) m h
some_missing leftmost_first s m true is h e = (greatest_law.none s).0 ((greatest_law.same_none s (not_so s.passes_over is)).1 e) m h

-- where any match is enough, an end is told exactly where there is a match
half_there : (kind : MatchKind) (s : Search) (o : Option HalfFound) → IsForwardHalf kind true s o → is_some o ≡ is_some (answer_by kind s)
half_there kind s None h = sym (ap is_some ((missing_by kind true s).0 h))
half_there kind s (Some h) w = go (answer_by kind s) refl
  where
    go : (o : Option Found) → answer_by kind s ≡ o → true ≡ is_some o
    go None e = absurd (some_missing kind s w.0 (is_early true s) refl w.1 e)
    go (Some m) e = refl

pub found_there : (kind : MatchKind) (s : Search) (o : Option Found) → IsAnswerBy kind true s o → is_some o ≡ is_some (answer_by kind s)
found_there kind s None h = sym (ap is_some ((missing_by kind true s).0 h))
found_there kind s (Some m) h = go (answer_by kind s) refl
  where
    go : (o : Option Found) → answer_by kind s ≡ o → true ≡ is_some o
    go None e = absurd (some_missing kind s m (is_early true s) refl h e)
    go (Some n) e = refl

module _ (e : Engine) (patterns : ℕ) {AreOf : Machine → Machine → Type 0} (s : Searched) (a : Aim) (own : ∥ AreHalvesFor e patterns AreOf ∥₁) (is : a ≡ aim_of e patterns) where
  -- what is told of any patterns of which they are halves is told of the engine's
  told : {R : Type 0} → IsProp R → (P : Aim → List Re → Type 0) →
      ((hs : List Re) → places_of e.program.places.items ≡ program hs → AreHalvesOf AreOf a hs e.program.terminator → P a hs) →
      ((hs : List Re) → places_of e.program.places.items ≡ program hs → P (aim_of e patterns) hs → R) → R
  told {R} fact P tells so =
      ∥∥₁_elim own fact
      (λ (f : AreHalvesFor e patterns AreOf). so f.hs f.program
      (subst (λ x. AreHalvesOf AreOf x f.hs e.program.terminator → P x f.hs) is (tells f.hs f.program) f.halves))

  same_answer : (hs : List Re) → places_of e.program.places.items ≡ program hs →
      answer_by e.kind (search_for (aim_of e patterns) hs e.program.terminator s) ≡ answer_by e.kind (engine_search e s)
  same_answer hs same = ap (λ places. answer_by e.kind (search_over places e.program.terminator e.program.passes_over s)) (sym same)

  -- a search by them tells the match of the engine's kind, where none is passed over
  pub tables_tell_unpassed : (r : Result (Option Found) MatchError) →
      ((hs : List Re) → places_of e.program.places.items ≡ program hs → AreHalvesOf AreOf (record a { passes_over = false }) hs e.program.terminator →
      IfOk r (IsAnswerBy a.kind a.earliest (search_over (program hs) e.program.terminator false s))) →
      IfOk r (λ found. found ≡ answer_by e.kind (unpassed (engine_search e s)))
  tables_tell_unpassed (Err x) tells = tt
  tables_tell_unpassed (Ok found) tells =
      told (hlevel props) (λ x hs. IsAnswerBy x.kind x.earliest (search_over (program hs) e.program.terminator false s) found)
      (λ hs same h. tells hs same (record { ahead = h.ahead; back = h.back; are_of = h.are_of; alphabet = h.alphabet; machines = h.machines; counted = h.counted; few = h.few }))
      (λ hs same h. h ∙ ap (λ places. answer_by e.kind (search_over places e.program.terminator false s)) (sym same))

  -- and a search forwards its end, where it is that of the least start
  pub tables_tell_end : is_leftmost e.kind ≡ true → (r : Result (Option HalfFound) MatchError) →
      ((hs : List Re) → places_of e.program.places.items ≡ program hs → AreHalvesOf AreOf a hs e.program.terminator →
      IfOk r (IsForwardHalf a.kind a.earliest (search_for a hs e.program.terminator s))) →
      IfOk r (λ found. found ≡ option_map half_of (answer_by e.kind (engine_search e s)))
  tables_tell_end kind (Err x) tells = tt
  tables_tell_end kind (Ok found) tells =
      told (hlevel props) (λ x hs. IsForwardHalf x.kind x.earliest (search_for x hs e.program.terminator s) found) tells
      (λ hs same h.
      half_told e.kind (leftmost_kind e.kind kind) (search_for (aim_of e patterns) hs e.program.terminator s) found h ∙ ap (option_map half_of) (same_answer hs same))

  -- how many bytes settle what a search by them tells
  pub tables_settle : (r : Result Settled MatchError) →
      ((hs : List Re) → places_of e.program.places.items ≡ program hs → (of : AreHalvesOf AreOf a hs e.program.terminator) →
      IfOk r (λ o. IsAnswerBelow a.kind (search_for a hs e.program.terminator s) (seen_to of.ahead.alphabet o.reach) o.found)) →
      (alphabet : Alphabet) → ∥ AreHalvesOver alphabet e patterns AreOf ∥₁ →
      IfOk r (λ o. IsAnswerBelow e.kind (engine_search e s) (seen_to alphabet o.reach) o.found)
  tables_settle (Err x) tells alphabet read = tt
  tables_settle (Ok o) tells alphabet read =
      ∥∥₁_elim read (hlevel props)
      (λ (f : AreHalvesOver alphabet e patterns AreOf).
      let h = f.are_halves in
      let Below : Aim → ℕ → Type 0 = λ x r. IsAnswerBelow x.kind (search_for x h.hs e.program.terminator s) r o.found in
      let one : (x : Aim) → a ≡ x → (of : AreHalvesOf AreOf x h.hs e.program.terminator) → Below x (seen_to of.ahead.alphabet o.reach) =
      λ x same. subst (λ y. (of : AreHalvesOf AreOf y h.hs e.program.terminator) → Below y (seen_to of.ahead.alphabet o.reach)) same (tells h.hs h.program) in
      subst (λ places. IsAnswerBelow e.kind (search_over places e.program.terminator e.program.passes_over s) (seen_to alphabet o.reach) o.found) (sym h.program)
      (subst (λ b. Below (aim_of e patterns) (seen_to b o.reach)) f.read (one (aim_of e patterns) is h.halves)))

  -- one forwards that stops early tells whether there is a match
  pub tables_tell_any : (o : Option HalfFound) →
      ((hs : List Re) → places_of e.program.places.items ≡ program hs → AreHalvesOf AreOf (record a { earliest = true }) hs e.program.terminator →
      IsForwardHalf a.kind true (search_for a hs e.program.terminator s) o) →
      is_some o ≡ is_some (answer_by e.kind (engine_search e s))
  tables_tell_any o tells =
      told (hlevel props) (λ x hs. IsForwardHalf x.kind true (search_for x hs e.program.terminator s) o)
      (λ hs same h. tells hs same (record { ahead = h.ahead; back = h.back; are_of = h.are_of; alphabet = h.alphabet; machines = h.machines; counted = h.counted; few = h.few }))
      (λ hs same h. half_there e.kind (search_for (aim_of e patterns) hs e.program.terminator s) o h ∙ ap is_some (same_answer hs same))

  -- under the earliest flag a search tells what may be answered
  pub tables_tell_by : (earliest : Bool) (r : Result (Option Found) MatchError) →
      ((hs : List Re) → places_of e.program.places.items ≡ program hs → AreHalvesOf AreOf (record a { earliest = earliest }) hs e.program.terminator →
      IfOk r (IsAnswerBy a.kind earliest (search_for a hs e.program.terminator s))) →
      IfOk r (IsAnswerBy e.kind earliest (engine_search e s))
  tables_tell_by earliest (Err x) tells = tt
  tables_tell_by earliest (Ok found) tells =
      let early = is_early earliest (engine_search e s) in
      answers_so early e.kind (engine_search e s) found
      (told (settled_prop early e.kind (engine_search e s) found) (λ x hs. IsAnswerBy x.kind earliest (search_for x hs e.program.terminator s) found)
      (λ hs same h. tells hs same (record { ahead = h.ahead; back = h.back; are_of = h.are_of; alphabet = h.alphabet; machines = h.machines; counted = h.counted; few = h.few }))
      (λ hs same h. settled_by early e.kind (engine_search e s) found
      (subst (λ places. IsAnswerBy e.kind earliest (search_over places e.program.terminator e.program.passes_over s) found) (sym same) h)))

  -- and one from where the search ends, where each match ends there
  pub tables_tell_from_end : (k : Lengths) → BoundsWalks k (places_of e.program.places.items) → is_leftmost e.kind ≡ true → s.anchored ≡ No → k.ends ≡ true →
      (r : Result (Option Found) MatchError) →
      ((hs : List Re) → places_of e.program.places.items ≡ program hs → AreHalvesOf AreOf a hs e.program.terminator →
      IfOk r (IsMatchToEnd a.earliest (search_for a hs e.program.terminator s))) →
      IfOk r (λ found. found ≡ answer_by e.kind (engine_search e s))
  tables_tell_from_end k bound left free ends (Err x) tells = tt
  tables_tell_from_end k bound left free ends (Ok found) tells =
      told (hlevel props) (λ x hs. IsMatchToEnd x.earliest (search_for x hs e.program.terminator s) found) tells
      (λ hs same h.
      let last = ends_at_bound k (program hs) e.program.terminator e.program.passes_over s (subst (BoundsWalks k) same bound) ends in
      reverse_end_law.leftmost hs e.kind (search_for (aim_of e patterns) hs e.program.terminator s) found (leftmost_kind e.kind left)
      refl (ap anchoring_of free) last h
      ∙ same_answer hs same)

  -- the greatest too, whether or not matches are passed over
  pub tables_tell_greatest_from_end : (k : Lengths) → BoundsWalks k (places_of e.program.places.items) → e.kind ≡ all_matches → s.anchored ≡ No → k.ends ≡ true →
      (r : Result (Option Found) MatchError) →
      ((hs : List Re) → places_of e.program.places.items ≡ program hs → AreHalvesOf AreOf (record a { passes_over = false }) hs e.program.terminator →
      IfOk r (IsMatchToEnd a.earliest (search_over (program hs) e.program.terminator false s))) →
      IfOk r (λ found. found ≡ answer_by e.kind (engine_search e s))
  tables_tell_greatest_from_end k bound all free ends (Err x) tells = tt
  tables_tell_greatest_from_end k bound all free ends (Ok found) tells =
      told (hlevel props) (λ x hs. IsMatchToEnd x.earliest (search_over (program hs) e.program.terminator false s) found)
      (λ hs same h. tells hs same (record { ahead = h.ahead; back = h.back; are_of = h.are_of; alphabet = h.alphabet; machines = h.machines; counted = h.counted; few = h.few }))
      (λ hs same h.
      let last = ends_at_bound k (program hs) e.program.terminator false s (subst (BoundsWalks k) same bound) ends in
      greatest_to_end (search_over (program hs) e.program.terminator false s) (ap anchoring_of free) last refl found h
      ∙ greatest_law.regardless (search_for (aim_of e patterns) hs e.program.terminator s) false
      ∙ ap (λ x. answer_by x (search_for (aim_of e patterns) hs e.program.terminator s)) (sym all) ∙ same_answer hs same)

-- the places of so many patterns name slots of groups alone
pub names_groups : (e : Engine) (patterns : ℕ) (hs : List Re) → places_of e.program.places.items ≡ program hs → patterns ≡ length hs →
    NamesGroups patterns (places_of e.program.places.items)
names_groups e patterns hs same counted q k n here =
    let low = program_names hs q k n (subst (λ places. place_at places q ≡ slot k n) same here) in omega (arith, low, counted)
