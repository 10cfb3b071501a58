use Rattle.std.proofs.Common.{◌≡◌, ◌∙◌, ℕ, ap, ap₂, Some}
use Rattle.rc_text.specs.Found.{Found}
use Rattle.rc_walks.specs.Walks.{Pair}
use Rattle.rc_program.specs.Answer.{chosen, found, last_of, pattern_at, Chosen, pattern_of}
use Rattle.rc_program.specs.Program.{place_at}
use Rattle.rc_program.specs.Programs.{search_of}
use Rattle.rc_program.specs.Places.{places_of}
use Rattle.oracle_walker.specs.Found.{chosen_of}
use Rattle.oracle_walker.proofs.SearchLemmas.{chosen_found, none_found, chosen_inside}
use Rattle.oracle_walker.proofs.walker.find.Goals as goal

pub new-requires : goal.new-requires
new-requires g c =
    let P = places_of c.args.program.now.places.items in
    let s = search_of c.args.program.now c.args.input.now in
    let was : Chosen = chosen_of c.in-Some.walk in
    let e : Some was ≡ chosen s = rw c.in-Some.is at c.in_ok-find_walk.ensures.found in
    let end : c.end_of-place.result ≡ last_of was.walk = c.end_of-place.ensures in
    let inside = chosen_inside s was e in
    rw (ap (λ (n : Pair). n.1) end) inside.1

pub returns-in-None-clause-found : goal.returns-in-None-clause-found
returns-in-None-clause-found g c =
    let P = places_of c.args.program.now.places.items in
    let s = search_of c.args.program.now c.args.input.now in
    none_found s (rw c.in-None.is at c.in_ok-find_walk.ensures.found)

pub returns-in-Some-clause-found : goal.returns-in-Some-clause-found
returns-in-Some-clause-found g c =
    let P = places_of c.args.program.now.places.items in
    let s = search_of c.args.program.now c.args.input.now in
    let was : Chosen = chosen_of c.in-Some.walk in
    let e : Some was ≡ chosen s = rw c.in-Some.is at c.in_ok-find_walk.ensures.found in
    let end : c.end_of-place.result ≡ last_of was.walk = c.end_of-place.ensures in
    let pattern : c.pattern_of.result ≡ pattern_of s was = c.pattern_of.ensures ∙ ap (λ (n : Pair). pattern_at (place_at P n.0)) end in
    let m : ℕ → ℕ → Found = λ p q. record { pattern = p; start = was.start; end = q } in
    let is : c.new.result ≡ found s was = c.new.ensures ∙ ap₂ m pattern (ap (λ (n : Pair). n.1) end) in
    ap Some is ∙ chosen_found s was e

pub returns-in-Some-clause-within : goal.returns-in-Some-clause-within
returns-in-Some-clause-within g c =
    let P = places_of c.args.program.now.places.items in
    let s = search_of c.args.program.now c.args.input.now in
    let was : Chosen = chosen_of c.in-Some.walk in
    let e : Some was ≡ chosen s = rw c.in-Some.is at c.in_ok-find_walk.ensures.found in
    let end : c.end_of-place.result ≡ last_of was.walk = c.end_of-place.ensures in
    let inside = chosen_inside s was e in
    let pattern : c.pattern_of.result ≡ pattern_of s was = c.pattern_of.ensures ∙ ap (λ (n : Pair). pattern_at (place_at P n.0)) end in
    let m : ℕ → ℕ → Found = λ p q. record { pattern = p; start = was.start; end = q } in
    let is : c.new.result ≡ found s was = c.new.ensures ∙ ap₂ m pattern (ap (λ (n : Pair). n.1) end) in
    rw is inside
