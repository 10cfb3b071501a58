-- What needles that each match holds, and bytes that none has, are good for.
use Rattle.std.proofs.Common.{◌≡◌, ℕ, ◌-◌, ◌<◌, ◌≤◌, ◌⊎◌, List, Bool, IsTrue, None, All, sym, ap, ◌∙◌, refl, arith, inl, inr, ⊎_elim}
use Rattle.std.proofs.lemmas.Bool.{cases_lt, false≢true}
use Rattle.rc_walks.specs.Walks.{Pair}
use Rattle.rc_text.specs.Text.{high}
use Rattle.rc_pattern.specs.Re.{Re}
use Rattle.rc_pattern.specs.WellFormed.{HasBounds}
use Rattle.rc_program.specs.Text.{Text}
use Rattle.rc_program.specs.Program.{place_at, is_match_place, program, shown}
use Rattle.rc_program.specs.Spells.{SpelledBy}
use Rattle.rc_program.specs.Answer.{only, ends, next_of, last_of, pattern_at}
use Rattle.rc_program.specs.Sought.{search_over}
use Rattle.rc_program.specs.Laws.{IsWalkOf}
use Rattle.rc_program.proofs.AnswerLemmas.{walk_ends, walk_within, match_place_is}
use Rattle.rc_program.proofs.GreatestLemmas.{other_ends}
use Rattle.rc_program.proofs.GroupLemmas.{group_law}
use Rattle.rc_program.proofs.WholeLemmas.{program_law}
use Rattle.rc_literals.specs.Needs.{Holds, LeavesOut, Confines, IsBehindStop}
use Rattle.rc_literals.specs.Laws.{NeedLaw}

-- A text that a pattern spells holds a needle below each position behind a byte that none has.

spelled_below : (t : Text) (hs : List Re) (stops : List Bool) (hi p i j y : ℕ) → LeavesOut t hs stops → SpelledBy t 0 hs p i j → i < y → j ≤ hi →
    (hi < y) ⊎ IsBehindStop stops t.content y → j < y
spelled_below t hs stops hi p i j y out s above within (inl past) = omega (arith, within, past)
spelled_below t hs stops hi p i j y out s above within (inr b) =
    ⊎_elim (λ (l : j < y). l) (λ (l : y ≤ j). absurd (false≢true (sym (out p i j (y - 1) b.0 s (omega (arith, above)) (omega (arith, above, l)) b.1) ∙ b.2)))
    (cases_lt j y)

confined : (hs : List Re) (grouped : Bool) (terminator : ℕ) (needles : List (List ℕ)) (stops : List Bool) → All HasBounds (shown grouped hs) →
    ((t : Text) → Holds t hs needles) → ((t : Text) → LeavesOut t hs stops) → Confines (program (shown grouped hs)) terminator needles stops
confined hs grouped terminator needles stops bounded holds out over s x y before le none edge v walk =
    let S = search_over (program (shown grouped hs)) terminator over s in
    let prog = program (shown grouped hs) in
    let place = place_at prog (last_of v).0 in
    let is = match_place_is (only S.anchoring) place (walk_ends (next_of S) (λ n. IsTrue (ends S n)) walk) in
    let free = other_ends (next_of S) (λ n. IsTrue (ends S n)) (λ n. IsTrue (is_match_place None (place_at prog n.0))) walk
    (ap (is_match_place None) is) in
    let within = walk_within prog S.text S.hi (λ n. IsTrue (ends S n)) x walk
    (λ n i. ⊎_elim (λ q. let e : x ≡ n.1 = ap (λ (k : Pair). k.1) q in (omega (arith, e), omega (arith, e, le))) (λ never. absurd never) i) in
    let of : IsWalkOf (shown grouped hs) S.text S.hi (pattern_at place) x (last_of v).1 v = record { is_walk = free; pattern = is; position = refl } in
    let shown_spelled = (program_law (shown grouped hs) S.text S.hi (pattern_at place) x (last_of v).1 bounded within.2).0 (v, of) in
    let spelled = (group_law.shown_spells S.text grouped 0 hs (pattern_at place) x (last_of v).1).0 shown_spelled in
    let c = holds S.text (pattern_at place) x (last_of v).1 spelled in
    let below : (last_of v).1 < y = spelled_below S.text hs stops (high s) (pattern_at place) x (last_of v).1 y (out S.text) spelled before within.2 edge in
    none c.0 c.5 (omega (arith, c.6, below)) c.1 c.2 c.3 (omega (arith, c.6, within.2), c.4)

pub need_law : NeedLaw
need_law = record { confines = confined }
