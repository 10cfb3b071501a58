-- What the tables of a DFA tell of what is sought.
use Rattle.std.proofs.Common.{◌≡◌, ℕ, Bool, true, false, List, length, refl, subst, sym, arith}
use Rattle.std.proofs.Math.Logic.{∥∥₁_map}
use Rattle.std.proofs.lemmas.List.{length-map}
use Rattle.rc_text.specs.declared.types.MatchKind.{MatchKind}
use Rattle.rc_pattern.specs.Re.{Re}
use Rattle.rc_program.specs.Program.{shown, without_groups}
use Rattle.rc_program.specs.Sought.{Sought}
use Rattle.rc_dfa.specs.Machine.{bytes}
use Rattle.rc_dense_dfa.specs.Halves.{AreHalves}
use Rattle.rc_dense_dfa.specs.declared.dense.Dense.{Dense}
use Rattle.rc_dfa_search.specs.Aims.{AreHalvesOf}
use Rattle.rc_dfa_search.specs.declared.search.Aim.{Aim}
use Rattle.api_dfa.specs.Aims.{aim_for}
use Rattle.api_dfa.specs.Tables.{AreTables}

-- as many patterns are shown as there are
pub shown_long : (grouped : Bool) (hs : List Re) → length hs ≡ length (shown grouped hs)
shown_long true hs = refl
shown_long false hs = sym (length-map hs without_groups)

halves_of : (q : Sought) (kind : MatchKind) (tables : Dense) (earliest : Bool) → AreTables q kind tables →
    AreHalvesOf (AreHalves tables) (aim_for q kind earliest) (shown q.grouped q.patterns) q.terminator
halves_of q kind tables earliest t = record {
  ahead = t.ahead;
  back = t.behind;
  are_of = t.halves;
  alphabet = bytes;
  machines = t.machines;
  counted = shown_long q.grouped q.patterns;
  few = let few = t.few in let same = shown_long q.grouped q.patterns in omega (arith, few, same);
}

-- what is told of any patterns of which they are halves is told of those that are sought
pub asked : {q : Sought} {kind : MatchKind} {tables : Dense} {earliest : Bool} {a : Aim} (P : Aim → List Re → ℕ → Type 0) → a ≡ aim_for q kind earliest →
    ∥ AreTables q kind tables ∥₁ → ((hs : List Re) (terminator : ℕ) → AreHalvesOf (AreHalves tables) a hs terminator → P a hs terminator) →
    ∥ P (aim_for q kind earliest) (shown q.grouped q.patterns) q.terminator ∥₁
asked {q} {kind} {tables} {earliest} P e made f =
    let hs = shown q.grouped q.patterns in
    ∥∥₁_map made
    (λ t. subst (λ x. P x hs q.terminator) e
    (f hs q.terminator (subst (λ x. AreHalvesOf (AreHalves tables) x hs q.terminator) (sym e) (halves_of q kind tables earliest t))))
