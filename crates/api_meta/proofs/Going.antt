-- One step of a seeker, from what the engine finds.
use Rattle.std.proofs.Common.{◌≡◌, ◌≢◌, ◌∙◌, ◌+◌, ◌≤◌, ◌<◌, ℕ, Bool, true, false, List, [], ◌∷◌, length, Option, Some, None, ap, sym, subst, refl, arith}
use Rattle.std.specs.Prelude.{◌↔◌, IsSome, IsTrue, is_some}
use Rattle.std.specs.Option.{option_map}
use Rattle.std.proofs.lemmas.List.{length-map}
use Rattle.rc_pattern.specs.WellFormed.{group_names}
use Rattle.rc_text.specs.Found.{Found, HalfFound, half_of}
use Rattle.rc_text.specs.Text.{Searched, high}
use Rattle.rc_text.specs.declared.types.MatchKind.{MatchKind}
use Rattle.rc_text.specs.declared.types.MatchKind.TheVariants.{All as all_matches, LeftmostFirst as leftmost_first}
use Rattle.rc_captures.specs.Captures.{IsCapturesFor, match_of}
use Rattle.rc_captures.specs.declared.captures.Captures.{Captures}
use Rattle.rc_program.specs.Answer.{Search, Chosen, answer}
use Rattle.rc_program.specs.Kinds.{IsAnswerBy, IsAnswerWhere, answer_by, is_early, matches_by_kind}
use Rattle.rc_program.specs.Matches.{from_on}
use Rattle.rc_program.specs.Program.{shown}
use Rattle.rc_program.specs.Sought.{search_for}
use Rattle.rc_pikevm_search.specs.Engine.{engine_search}
use Rattle.rc_pikevm_search.specs.Moved.{IsMoved}
use Rattle.rc_pikevm_search.specs.Tells.{TellsBy, TellsOf, KeepsAll}
use Rattle.rc_pikevm_search.specs.Walks.{next_start, walks_left, walk_end}
use Rattle.rc_pikevm_search.proofs.Steps.{left_short, step_some}
use Rattle.rc_pikevm_search.proofs.Walked.{Step, last_step, tells_there, walk_step, walks_from}
use Rattle.rc_strategy.specs.Early.{IsHalfBy}
use Rattle.rc_settings.specs.Which.{is_grouped}
use Rattle.rc_settings.specs.Settings.{which_captures_of}
use Rattle.api_meta.specs.Left.{unless_done}
use Rattle.api_meta.specs.Views.{regex_kind, regex_names, regex_patterns, regex_settings, sought}
use Rattle.api_meta.specs.declared.regex.Regex.{Regex}
use Rattle.rc_build.proofs.Fitted.{Finds, answer_same, engine_none, engine_some, finds_same, fits_search, sought_moved, told_same}
use Rattle.rc_build.proofs.Matched.{keeps_is_for, tells_match_by}

-- what a regex seeks in an input
abbrev search_of : Regex → Searched → Search
search_of r i = search_for (sought r) i

-- the matches that it has left there
abbrev pub matches_of : Regex → Searched → Option ℕ → List Found
matches_of r i last = matches_by_kind (regex_kind r) (search_of r i) i.span.start last

-- the search from where the span starts now
pub moved : (r : Regex) (i j : Searched) → IsMoved i j → search_of r j ≡ from_on (search_of r i) j.span.start
moved r = sought_moved (sought r)

pub none_left : (r : Regex) (i : Searched) (last : Option ℕ) (done : Bool) → Finds r.engines.engine i last None → unless_done done (matches_of r i last) ≡ []
none_left r i last true f = refl
none_left r i last false f = engine_none r.fits i last f

pub no_walks : (r : Regex) (i : Searched) (last : Option ℕ) (done : Bool) → Finds r.engines.engine i last None → regex_kind r ≢ all_matches →
    unless_done done (walks_left (regex_kind r) (search_of r i) i.span.start last) ≡ []
no_walks r i last true f kind = refl
no_walks r i last false f kind = last_step (regex_kind r) (search_of r i) i.span.start last kind (finds_same r.fits i last None f)

-- the other walks, from where the match ends
other_walks : (r : Regex) (i j : Searched) (at end : ℕ) → IsMoved i j → j.span.start ≡ at → end ≡ at →
    walks_left (regex_kind r) (search_of r j) j.span.start (Some end) ≡ walks_left (regex_kind r) (search_of r i) at (Some at)
other_walks r i j at end m a e =
    ap (λ x. walks_left (regex_kind r) x j.span.start (Some end)) (moved r i j m)
    ∙ walks_from (regex_kind r) (search_of r i) j.span.start j.span.start (Some end)
    ∙ ap (λ k. walks_left (regex_kind r) (search_of r i) k (Some end)) a
    ∙ ap (λ l. walks_left (regex_kind r) (search_of r i) at (Some l)) e

-- the next match, and the others from its end
pub next_left : (r : Regex) (i j : Searched) (last : Option ℕ) (done : Bool) (m : Found) (end : ℕ) → done ≡ false → Finds r.engines.engine i last (Some m) →
    IsMoved i j → j.span.start ≡ m.end → end ≡ m.end →
    unless_done done (matches_of r i last) ≡ m ∷ unless_done done (matches_of r j (Some end))
next_left r i j last done m end going f move a e =
    rw going (engine_some r.fits i j last m move a f ∙ ap (λ k. m ∷ matches_of r j (Some k)) (sym e))

-- some match is left
pub some_left : (r : Regex) (i : Searched) (last : Option ℕ) (done : Bool) (m : Found) → done ≡ false → Finds r.engines.engine i last (Some m) →
    0 < length (unless_done done (matches_of r i last))
some_left r i last done m going f =
    let h = step_some (regex_kind r) (search_of r i) i.span.start last m (finds_same r.fits i last (Some m) f) in rw going (omega (arith, ap length h))

-- no more are left than positions
pub few_left : (r : Regex) (i : Searched) (last : Option ℕ) (done : Bool) → length (unless_done done (matches_of r i last)) ≤ high i + 1
few_left r i last true = omega arith
few_left r i last false = let h = left_short (regex_kind r) (search_of r i) i.span.start last in omega (arith, h)

-- what the engines may answer, the regex may
pub may_answer : (r : Regex) (i : Searched) (o : Option Found) → IsAnswerBy r.engines.engine.kind i.earliest (engine_search r.engines.engine i) o →
    IsAnswerBy (regex_kind r) i.earliest (search_of r i) o
may_answer r i o h =
    subst (λ k. IsAnswerBy k i.earliest (search_of r i) o) r.fits.kinded
    (subst (λ s. IsAnswerBy r.engines.engine.kind i.earliest s o) (fits_search r.fits i) h)

-- with the flag off it is the match of the kind
pub late_answer : (r : Regex) (i : Searched) (o : Option Found) → is_early i.earliest (search_of r i) ≡ false →
    IsAnswerBy r.engines.engine.kind i.earliest (engine_search r.engines.engine i) o → o ≡ answer_by (regex_kind r) (search_of r i)
late_answer r i o late h = subst (λ b. IsAnswerWhere b (regex_kind r) (search_of r i) o) late (may_answer r i o h)

pub leftmost_answer : (r : Regex) (i : Searched) (o : Option Found) → regex_kind r ≡ leftmost_first → is_early i.earliest (search_of r i) ≡ false →
    IsAnswerBy r.engines.engine.kind i.earliest (engine_search r.engines.engine i) o → o ≡ answer (search_of r i)
leftmost_answer r i o kind late h = late_answer r i o late h ∙ ap (λ k. answer_by k (search_of r i)) kind

-- and so with the halves
pub may_half : (r : Regex) (i : Searched) (o : Option HalfFound) → IsHalfBy r.engines.engine.kind i.earliest (engine_search r.engines.engine i) o →
    IsHalfBy (regex_kind r) i.earliest (search_of r i) o
may_half r i o h = (h.0, may_answer r i h.0 h.1, h.2)

pub late_half : (r : Regex) (i : Searched) (o : Option HalfFound) → is_early i.earliest (search_of r i) ≡ false →
    IsHalfBy r.engines.engine.kind i.earliest (engine_search r.engines.engine i) o → o ≡ option_map half_of (answer_by (regex_kind r) (search_of r i))
late_half r i o late h = h.2 ∙ ap (option_map half_of) (late_answer r i h.0 late h.1)

-- whether there is a match for the regex is whether there is one for its engines
pub is_matched : (r : Regex) (i : Searched) (b : Bool) → b ≡ is_some (answer_by r.engines.engine.kind (engine_search r.engines.engine i)) →
    IsTrue b ↔ IsSome (answer_by (regex_kind r) (search_of r i))
is_matched r i b is = let same = is ∙ ap is_some (answer_same r.fits i) in (λ t. sym same ∙ t, λ t. same ∙ t)

-- captures that tell what the engine finds tell what the regex finds
pub told_as : (r : Regex) (i : Searched) (caps : Captures) (kind : MatchKind) → regex_kind r ≡ kind → TellsBy r.engines.engine.kind (engine_search r.engines.engine i) caps →
    TellsBy kind (search_of r i) caps
told_as r i caps kind e told = subst (λ k. TellsBy k (search_of r i) caps) e (told_same r.fits i caps told)

-- and answer the match that it finds
pub match_made : (r : Regex) (i : Searched) (caps : Captures) → IsCapturesFor (regex_names r) caps → TellsBy r.engines.engine.kind (engine_search r.engines.engine i) caps →
    match_of caps ≡ answer_by (regex_kind r) (search_of r i)
match_made r i caps made told =
    let shows = shown (is_grouped (which_captures_of (regex_settings r))) (regex_patterns r) in
    tells_match_by (regex_kind r) shows (search_of r i) (regex_names r) caps refl (length-map shows group_names) made (told_same r.fits i caps told)

pub same_match : (r : Regex) (i : Searched) (caps : Captures) → KeepsAll (regex_names r) caps → TellsBy r.engines.engine.kind (engine_search r.engines.engine i) caps →
    match_of caps ≡ answer_by (regex_kind r) (search_of r i)
same_match r i caps kept told = match_made r i caps (keeps_is_for (regex_names r) caps kept) told

-- The captures tell the next walk, and the others come from its end.
pub record TellsNext (r : Regex) (i k : Searched) (last : Option ℕ) (done : Bool) (m : Found) (end : ℕ) (caps : Captures) : Type 0 where
  pub walk : Chosen
  pub told : TellsOf (search_of r i) (Some walk) caps
  pub walks : unless_done done (walks_left (regex_kind r) (search_of r i) i.span.start last)
      ≡ walk ∷ unless_done done (walks_left (regex_kind r) (search_of r k) k.span.start (Some end))

pub tells_next : (r : Regex) (i j k : Searched) (last : Option ℕ) (done : Bool) (m : Found) (end : ℕ) (caps : Captures) → done ≡ false →
    Finds r.engines.engine i last (Some m) → IsMoved i j → j.span.start ≡ next_start r.engines.engine.kind (engine_search r.engines.engine i) i.span.start last →
    TellsBy r.engines.engine.kind (engine_search r.engines.engine j) caps → IsMoved i k → k.span.start ≡ m.end → end ≡ m.end → regex_kind r ≢ all_matches →
    TellsNext r i k last done m end caps
tells_next r i j k last done m end caps going f there at told move a e kind =
    let s = search_of r i in
    let step : Step (regex_kind r) s (search_of r j) i.span.start last m =
    walk_step (regex_kind r) s (search_of r j) i.span.start last m j.span.start kind (moved r i j there)
    (at ∙ ap (λ x. next_start r.engines.engine.kind x i.span.start last) (fits_search r.fits i) ∙ ap (λ y. next_start y s i.span.start last) r.fits.kinded)
    (finds_same r.fits i last (Some m) f) in
    let ends = ap (λ (x : Found). x.end) step.is_found in
    record {
      walk = step.walk;
      told =
          tells_there (regex_kind r) s (search_of r j) j.span.start caps step.walk kind (moved r i j there) step.is_chosen
          (told_as r j caps (regex_kind r) refl told);
      walks = rw going (step.left ∙ ap (λ ws. step.walk ∷ ws) (sym (other_walks r i k (walk_end step.walk) end move (a ∙ ends) (e ∙ ends))));
    }
