-- The match that captures answer is that of the search.
use Rattle.std.proofs.Common.{◌≡◌, ◌∙◌, ◌+◌, ◌*◌, ◌<◌, List, inl, inr, ⊎_elim, length, Option, Some, None, ap, subst, refl, arith, eq-eqb}
use Rattle.std.proofs.lemmas.Bool.{ne_eqb}
use Rattle.std.specs.Option.{option_and_then, option_map}
use Rattle.rc_text.specs.Found.{Found}
use Rattle.rc_text.specs.declared.types.MatchKind.{MatchKind}
use Rattle.rc_text.specs.declared.types.MatchKind.TheVariants.{All as all_matches, LeftmostFirst as leftmost_first, LeftmostLongest as leftmost_longest}
use Rattle.rc_pattern.specs.Re.{Re}
use Rattle.rc_captures.specs.Names.{Names}
use Rattle.rc_captures.specs.Captures.{IsCapturesFor, captures_names, captures_slots, group_span, match_at, match_of}
use Rattle.rc_captures.specs.declared.captures.Captures.{Captures}
use Rattle.rc_captures.proofs.CapturesLaws.{match-whole}
use Rattle.rc_program.specs.Program.{accept, place_at, program}
use Rattle.rc_program.specs.Answer.{Search, Chosen, chosen, answer, found, last_of, pattern_of, slot_of}
use Rattle.rc_program.specs.Greatest.{IsSpelledIn, greatest}
use Rattle.rc_program.specs.Kinds.{answer_by}
use Rattle.rc_program.specs.Longest.{longest, longest_chosen}
use Rattle.rc_program.proofs.PlaceLemmas.{accept_below}
use Rattle.rc_program.proofs.GreatestLemmas.{answer_spelled, spelled_within}
use Rattle.rc_program.proofs.ReachLemmas.{longest_law}
use Rattle.rc_program.proofs.KindLemmas.{kind_spelled}
use Rattle.rc_pikevm_search.specs.Tells.{Tells, TellsOf, TellsSpan, TellsBy, KeepsAll, span_slot}

start_slot : (s : Search) (c : Chosen) → slot_of s c (2 * pattern_of s c) ≡ Some c.start
start_slot s c = rw (eq-eqb (2 * pattern_of s c) (2 * pattern_of s c) refl) refl

end_slot : (s : Search) (c : Chosen) → slot_of s c (2 * pattern_of s c + 1) ≡ Some (last_of c.walk).1
end_slot s c =
    rw (ne_eqb (2 * pattern_of s c + 1) (2 * pattern_of s c) (λ x. omega (arith, x))) (rw (eq-eqb (2 * pattern_of s c + 1) (2 * pattern_of s c + 1) refl) refl)

-- a match that is spelled is of one of the patterns
spelled_pattern : (hs : List Re) (s : Search) (m : Found) → s.places ≡ program hs → IsSpelledIn s m → m.pattern < length hs
spelled_pattern hs s m e w =
    accept_below hs (last_of w.walk).0 m.pattern (subst (λ places. place_at places (last_of w.walk).0 ≡ accept m.pattern) e w.pattern)

match_told : (hs : List Re) (s : Search) (names : Names) (caps : Captures) (o : Option Chosen) → s.places ≡ program hs → length names ≡ length hs →
    IsCapturesFor names caps → ((c : Chosen) → o ≡ Some c → IsSpelledIn s (found s c)) → TellsOf s o caps → match_of caps ≡ option_map (found s) o
match_told hs s names caps None placed named made e told = ap (λ p. option_and_then (λ q. option_and_then (match_at q) (group_span caps 0)) p) told
match_told hs s names caps (Some c) placed named made e told =
    let spelled = e c refl in
    let p = spelled_pattern hs s (found s c) placed spelled in
    let w = spelled_within s (found s c) spelled in
    match-whole names caps (pattern_of s c) (slot_of s c) c.start (last_of c.walk).1 made told (omega (arith, p, named)) (start_slot s c) (end_slot s c) w.1

tells_match : (hs : List Re) (s : Search) (names : Names) (caps : Captures) → s.places ≡ program hs → length names ≡ length hs →
    IsCapturesFor names caps → Tells s caps → match_of caps ≡ answer s
unfolding answer
tells_match hs s names caps placed named made told =
    match_told hs s names caps (chosen s) placed named made (λ c e. answer_spelled s (found s c) (ap (option_map (found s)) e)) told

tells_longest : (hs : List Re) (s : Search) (names : Names) (caps : Captures) → s.places ≡ program hs → length names ≡ length hs →
    IsCapturesFor names caps → TellsOf s (longest_chosen s) caps → match_of caps ≡ longest s
unfolding longest
tells_longest hs s names caps placed named made told =
    match_told hs s names caps (longest_chosen s) placed named made (λ c e. longest_law.spelled s (found s c) (ap (option_map (found s)) e)) told

-- the same of captures that tell the whole match alone
span_start : (m : Found) → span_slot m (2 * m.pattern) ≡ Some m.start
span_start m = rw (eq-eqb (2 * m.pattern) (2 * m.pattern) refl) refl

span_end : (m : Found) → span_slot m (2 * m.pattern + 1) ≡ Some m.end
span_end m =
    rw (ne_eqb (2 * m.pattern + 1) (2 * m.pattern) (λ x. omega (arith, x))) (rw (eq-eqb (2 * m.pattern + 1) (2 * m.pattern + 1) refl) refl)

span_told : (hs : List Re) (s : Search) (names : Names) (caps : Captures) (o : Option Found) → s.places ≡ program hs → length names ≡ length hs →
    IsCapturesFor names caps → greatest s ≡ o → TellsSpan o caps → match_of caps ≡ o
span_told hs s names caps None placed named made e told = ap (λ p. option_and_then (λ q. option_and_then (match_at q) (group_span caps 0)) p) told
span_told hs s names caps (Some m) placed named made e told =
    let spelled = kind_spelled all_matches s m e in
    let p = spelled_pattern hs s m placed spelled in
    let w = spelled_within s m spelled in
    match-whole names caps m.pattern (span_slot m) m.start m.end made told (omega (arith, p, named)) (span_start m) (span_end m) w.1

-- captures that tell the match of a kind
pub tells_match_by : (kind : MatchKind) (hs : List Re) (s : Search) (names : Names) (caps : Captures) → s.places ≡ program hs → length names ≡ length hs →
    IsCapturesFor names caps → TellsBy kind s caps → match_of caps ≡ answer_by kind s
tells_match_by all_matches hs s names caps placed named made told = span_told hs s names caps (greatest s) placed named made refl told
tells_match_by leftmost_longest hs s names caps placed named made told = tells_longest hs s names caps placed named made told
tells_match_by leftmost_first hs s names caps placed named made told = tells_match hs s names caps placed named made told

-- captures with as many slots of the same patterns are captures of the patterns
pub still_for : (names : Names) (old new : Captures) → IsCapturesFor names old → captures_names new ≡ captures_names old →
    length (captures_slots new) ≡ length (captures_slots old) → IsCapturesFor names new
still_for names old new made same long =
    record { named = same ∙ made.named; sized = ⊎_elim (λ e. inl (long ∙ e)) (λ e. inr (long ∙ e)) made.sized }

-- captures that keep all groups are captures of the patterns
pub keeps_is_for : (names : Names) (caps : Captures) → KeepsAll names caps → IsCapturesFor names caps
keeps_is_for names caps keeps = record { named = keeps.named; sized = inl keeps.sized }
