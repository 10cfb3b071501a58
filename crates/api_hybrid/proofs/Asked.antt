-- What the halves of a regex tell of what is sought.
use Rattle.std.proofs.Common.{◌≡◌, ℕ, Bool, List, refl, subst, sym, arith}
use Rattle.std.proofs.Math.Logic.{∥∥₁_map}
use Rattle.rc_text.specs.declared.types.MatchKind.{MatchKind}
use Rattle.rc_pattern.specs.Re.{Re}
use Rattle.rc_program.specs.Program.{shown}
use Rattle.rc_program.specs.Sought.{Sought}
use Rattle.rc_dfa.specs.Automata.{machine_of}
use Rattle.rc_dfa.specs.Machine.{bytes}
use Rattle.rc_dfa.specs.declared.automaton.Direction.TheVariants.{Backwards, Forwards}
use Rattle.rc_lazy_dfa.specs.Caches.{AreHalves}
use Rattle.rc_lazy_dfa.specs.declared.lazy.Lazy.{Lazy}
use Rattle.rc_dfa_search.specs.Aims.{AreHalvesOf}
use Rattle.rc_dfa_search.specs.declared.search.Aim.{Aim}
use Rattle.api_dfa.specs.Aims.{aim_for}
use Rattle.api_dfa.proofs.Asked.{shown_long}
use Rattle.api_hybrid.specs.Halves.{IsLazyFor}

halves_of : (q : Sought) (kind : MatchKind) (lazy : Lazy) (earliest : Bool) → IsLazyFor q kind lazy →
    AreHalvesOf (AreHalves lazy) (aim_for q kind earliest) (shown q.grouped q.patterns) q.terminator
halves_of q kind lazy earliest t = record {
  ahead = machine_of lazy.automaton Forwards;
  back = machine_of lazy.automaton Backwards;
  are_of = (refl, refl);
  alphabet = bytes;
  machines = t.machines;
  counted = shown_long q.grouped q.patterns;
  few = let few = t.few in let same = shown_long q.grouped q.patterns in omega (arith, few, same);
}

-- what is told of any patterns of which they are halves is told of those that are sought
pub asked : {q : Sought} {kind : MatchKind} {lazy : Lazy} {earliest : Bool} {a : Aim} (P : Aim → List Re → ℕ → Type 0) → a ≡ aim_for q kind earliest →
    ∥ IsLazyFor q kind lazy ∥₁ → ((hs : List Re) (terminator : ℕ) → AreHalvesOf (AreHalves lazy) a hs terminator → P a hs terminator) →
    ∥ P (aim_for q kind earliest) (shown q.grouped q.patterns) q.terminator ∥₁
asked {q} {kind} {lazy} {earliest} P e made f =
    let hs = shown q.grouped q.patterns in
    ∥∥₁_map made
    (λ t. subst (λ x. P x hs q.terminator) e
    (f hs q.terminator (subst (λ x. AreHalvesOf (AreHalves lazy) x hs q.terminator) (sym e) (halves_of q kind lazy earliest t))))
