use Rattle.std.proofs.Common.{◌≡◌, ◌+◌, ◌*◌, ◌∙◌, ap, Some, length, set}
use Rattle.std.specs.Option.{option_map}
use Rattle.rc_text.specs.Found.{Found}
use Rattle.rc_walks.specs.Walks.{Pair}
use Rattle.rc_program.specs.Answer.{chosen, last_of, pattern_at, Chosen, pattern_of}
use Rattle.rc_program.specs.Program.{place_at}
use Rattle.rc_program.specs.Programs.{search_of}
use Rattle.rc_program.specs.Places.{places_of}
use Rattle.oracle_walker.specs.Found.{chosen_of}
use Rattle.oracle_walker.proofs.SearchLemmas.{chosen_found, none_found, chosen_groups}
use Rattle.oracle_walker.proofs.SlotLemmas.{own_slots, visits}
use Rattle.oracle_walker.proofs.walker.find_slots.Goals as goal

pub returns-in-None-clause-pattern : goal.returns-in-None-clause-pattern
returns-in-None-clause-pattern g c =
    let P = places_of c.args.program.now.places.items in
    let s = search_of c.args.program.now c.args.input.now in
    ap (option_map (λ (m : Found). m.pattern)) (none_found s (rw c.in-None.is at c.in_ok-find_walk.ensures.found))

pub returns-in-Some-clause-pattern : goal.returns-in-Some-clause-pattern
returns-in-Some-clause-pattern g c =
    let P = places_of c.args.program.now.places.items in
    let s = search_of c.args.program.now c.args.input.now in
    let was : Chosen = chosen_of c.in-Some.walk in
    let e : Some was ≡ chosen s = rw c.in-Some.is at c.in_ok-find_walk.ensures.found in
    let end : c.end_of-place.result ≡ last_of was.walk = c.end_of-place.ensures in
    let pattern : c.pattern_of-pattern.result ≡ pattern_of s was = c.pattern_of-pattern.ensures ∙ ap (λ (n : Pair). pattern_at (place_at P n.0)) end in
    ap Some pattern ∙ ap (option_map (λ (m : Found). m.pattern)) (chosen_found s was e)

pub returns-in-Some-clause-slots : goal.returns-in-Some-clause-slots
returns-in-Some-clause-slots g c =
    let P = places_of c.args.program.now.places.items in
    let s = search_of c.args.program.now c.args.input.now in
    let was : Chosen = chosen_of c.in-Some.walk in
    let e : Some was ≡ chosen s = rw c.in-Some.is at c.in_ok-find_walk.ensures.found in
    let end : c.end_of-place.result ≡ last_of was.walk = c.end_of-place.ensures in
    let pattern : c.pattern_of-pattern.result ≡ pattern_of s was = c.pattern_of-pattern.ensures ∙ ap (λ (n : Pair). pattern_at (place_at P n.0)) end in
    let own : c.as_usize-own.result ≡ pattern_of s was = c.as_usize-own.ensures.value ∙ pattern in
    let n = length c.args.slots.now in
    let pos : c.end_of-place.result.1 ≡ (last_of was.walk).1 = ap (λ (m : Pair). m.1) end in
    let visited : c.note_visits.new.slots ≡ visits P n was.walk = c.note_visits.ensures in
    let once : c.put.new.slots ≡ set (visits P n was.walk) (2 * pattern_of s was + 1) (Some (last_of was.walk).1) = rw (visited, own, pos) at c.put.ensures in
    let twice : c.put-in-Some.new.slots ≡ set (set (visits P n was.walk) (2 * pattern_of s was + 1) (Some (last_of was.walk).1)) (2 * pattern_of s was) (Some was.start) =
    rw (once, own) at c.put-in-Some.ensures in
    ap Some (twice ∙ own_slots s was n) ∙ chosen_groups s n was e
