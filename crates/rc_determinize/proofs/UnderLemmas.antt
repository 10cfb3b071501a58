-- What a closed program reads leads to its places.
use Rattle.std.proofs.Common.{ℕ, ◌<◌, ◌≤◌, List, [], ◌∷◌, length, Option, Bool, ⊎_elim, sym, subst}
use Rattle.std.specs.List.{AllByRecursion}
use Rattle.std.proofs.lemmas.Bool.{cases_lt}
use Rattle.std.proofs.lemmas.List.Elements.{recursion_from_All}
use Rattle.rc_pattern.specs.declared.hir.Look.{Look}
use Rattle.rc_program.specs.Program.{Place, choice, Way, stays, reads, ways_out, place_at}
use Rattle.rc_program.specs.Laws.{IsClosed, targets}
use Rattle.rc_program.proofs.PlaceLemmas.{ways_out_to, goal_of}
use Rattle.rc_program.proofs.WayLemmas.{past_places}
use Rattle.rc_determinize.specs.Steps.{AreBelow, ahead_of, out_by}
use Rattle.rc_determinize.proofs.LimitLemmas as limit

-- the reading ways of a closed program lead to its places
read_under : (n : ℕ) (ws : List Way) → AllByRecursion (λ w. goal_of w < n) ws → AreBelow n (limit.read_by ws)
read_under n [] h k i = absurd i
read_under n (stays q ∷ ws) h k i = read_under n ws h.1 k i
read_under n (reads count q ∷ ws) h k i = ⊎_elim (λ e. subst (λ x. x < n) e h.0) (λ z. read_under n ws h.1 k z) i

no_targets : (places : List Place) (q : ℕ) → length places ≤ q → AllByRecursion (λ k. k < length places) (targets (place_at places q))
no_targets places q ge = subst (λ p. AllByRecursion (λ k. k < length places) (targets p)) (sym (past_places places q ge)) tt

pub out_under : (places : List Place) → IsClosed places → (test : Look → Bool) (after : Option ℕ) (q : ℕ) →
    AreBelow (length places) (limit.read_by (out_by places test after q))
out_under places closed test after q =
    read_under (length places) (ways_out test (ahead_of after) (place_at places q))
    (ways_out_to (λ k. k < length places) test (ahead_of after) (place_at places q)
    (⊎_elim (λ lt. recursion_from_All (λ k. k < length places) (targets (place_at places q)) (closed q (choice []) lt))
    (λ ge. no_targets places q ge) (cases_lt q (length places))))
