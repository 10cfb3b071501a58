-- A table of no states, and what capacity serves in both directions.
use Rattle.std.proofs.Common.{◌≡◌, ℕ, ◌+◌, ◌*◌, ◌<◌, ◌≤◌, [], length, replicate, slice_index_or, inl, inr, refl, sym, subst, ◌∙◌, arith}
use Rattle.std.proofs.lemmas.Bool.{cases_lt}
use Rattle.std.proofs.lemmas.List.{length-replicate, get_or-replicate, get_or_past}
use Rattle.std.proofs.lemmas.Option.{none-some, slice_get_within}
use Rattle.rc_text.specs.declared.types.MatchKind.{MatchKind}
use Rattle.rc_text.specs.declared.types.MatchKind.TheVariants.{All as all_matches, LeftmostFirst as leftmost_first, LeftmostLongest as leftmost_longest}
use Rattle.rc_determinize.specs.Kinds.{longest}
use Rattle.rc_dfa.specs.declared.automaton.Automaton.{Automaton}
use Rattle.rc_dfa.specs.declared.automaton.Direction.{Direction}
use Rattle.rc_dfa.specs.declared.automaton.Direction.TheVariants.{Backwards, Forwards}
use Rattle.rc_dfa.specs.Automata.{machine_of, classes_of, samples_of}
use Rattle.rc_dfa.specs.Symbols.{IsColumning}
use Rattle.rc_dfa.proofs.AutomatonLemmas.{counts}
use Rattle.rc_dfa.specs.Machine.{IsMachine, IsClassing}
use Rattle.rc_lazy_dfa.specs.Cells.{unknown}
use Rattle.rc_lazy_dfa.specs.Stores.{Frame, frame_of, IsFrame, Held, AreCells, AreStarts, AreWithin, listed_by, starts_in, minimum_of}
use Rattle.rc_lazy_dfa.specs.declared.store.Store.{Store}

pub frame_is : (a : Automaton) (d : Direction) → IsMachine (machine_of a d) → IsClassing (machine_of a d) (classes_of a) (samples_of a) →
    IsColumning (machine_of a d) (classes_of a) → IsFrame (frame_of a d)
frame_is a d m k n = record {
  machine = m;
  size = k.size;
  below = λ b class e. let s = k.sampled b class e in subst (λ c. class < c) (counts a) (slice_get_within (samples_of a) class s.0 s.2);
  alike = k.alike;
  columns = refl;
  columning = n;
  wide = omega arith;
}

blank : (n i : ℕ) → slice_index_or (replicate n unknown) i unknown ≡ unknown
blank n i = elim (cases_lt i n) [
  | inl lt ↦ get_or-replicate n i unknown unknown lt
  | inr ge ↦ let len = length-replicate n unknown in get_or_past (replicate n unknown) i unknown (omega (arith, ge, len))
]

-- it holds nothing, and nothing is known
pub record IsBlank (f : Frame) (s : Store) : Type 0 where
  pub states : s.states ≡ []
  pub cells : s.cells.items ≡ []
  pub starts : s.starts.items ≡ replicate (starts_in f) unknown
  pub width : s.width ≡ f.width
  pub used : s.used ≡ 24 * f.width + 8 * starts_in f + 96

pub blank_held : (f : Frame) (s : Store) → IsFrame f → IsBlank f s → minimum_of f ≤ s.capacity → s.capacity ≤ 18446744073709551615 → Held f s
blank_held f s k b roomy fits =
    let used = b.used in
    let states = sym b.states in record {
      frame = k;
      width = b.width;
      within = subst (λ xs. AreWithin f xs) states (record { each = λ id t e. absurd (none-some t e) });
      cells = subst (λ xs. AreCells f xs s.cells.items) states (subst (λ ys. AreCells f [] ys) (sym b.cells)
          (record { rows = omega arith; told = λ row column t letter r at. absurd (none-some t r.1) }));
      starts = subst (λ xs. AreStarts f xs s.starts.items) states (subst (λ ys. AreStarts f [] ys) (sym b.starts)
          (record {
            size = length-replicate (starts_in f) unknown;
            told = λ anchored column letter asked at. inl (blank (starts_in f) _);
          }));
      used = used ∙ subst (λ xs. 24 * f.width + 8 * starts_in f + 96 ≡ 8 * ((length xs + 3) * f.width) + 8 * starts_in f + 32 * (length xs + 3) + 8 * listed_by xs) states (omega arith);
      light = omega (arith, used, roomy);
      roomy = roomy;
      fits = fits;
    }

no_shorter : (kind : MatchKind) (places : ℕ) → places ≤ longest kind places
no_shorter leftmost_first places = omega arith
no_shorter all_matches places = omega arith
no_shorter leftmost_longest places = omega arith

-- what serves forwards serves backwards
pub serves_both : (a : Automaton) → minimum_of (frame_of a Backwards) ≤ minimum_of (frame_of a Forwards)
serves_both a = let more = no_shorter a.kind (length (frame_of a Forwards).machine.setting.places) in omega (arith, more)
