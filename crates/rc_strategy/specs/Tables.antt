-- Only proofs use this file.
-- DFA choice: the DFAs by which an engine's program may be searched.
use Rattle.std.specs.Prelude.{◌≡◌, ℕ, ◌+◌, ◌*◌, false, List, length, Option, Some, None, IfSome, min}
use Rattle.rc_pattern.specs.Re.{Re}
use Rattle.rc_program.specs.Places.{places_of}
use Rattle.rc_program.specs.Program.{program}
use Rattle.rc_dfa.specs.Machine.{Alphabet, Machine}
use Rattle.rc_dense_dfa.specs.Halves.{AreHalves, bytes_of}
use Rattle.rc_dense_dfa.specs.declared.dense.Dense.{Dense}
use Rattle.rc_lazy_dfa.specs.Caches as lazy
use Rattle.rc_lazy_dfa.specs.declared.lazy.Lazy.{Lazy}
use Rattle.rc_onepass.specs.Rows.{bytes_of_rows}
use Rattle.rc_onepass.specs.declared.onepass.OnePass.{OnePass}
use Rattle.rc_dfa_search.specs.Aims.{AreHalvesOf}
use Rattle.rc_dfa_search.specs.declared.search.Aim.{Aim}
use Rattle.rc_pikevm_search.specs.declared.engine.Engine.{Engine}

-- The aim of a DFA search: the match of the engine's kind.
abbrev pub aim_of : Engine → ℕ → Aim
aim_of engine patterns = record {
  kind = engine.kind;
  patterns = patterns;
  passes_over = engine.program.passes_over;
  earliest = false;
}

-- They are halves of searches for so many patterns, whose program is the engine's, and find matches
-- of its kind.
pub record AreHalvesFor (engine : Engine) (patterns : ℕ) (AreOf : Machine → Machine → Type 0) : Type 0 where
  pub hs : List Re
  pub program : places_of engine.program.places.items ≡ program hs
  pub halves : AreHalvesOf AreOf (aim_of engine patterns) hs engine.program.terminator

-- They read this.
pub record AreHalvesOver (alphabet : Alphabet) (engine : Engine) (patterns : ℕ) (AreOf : Machine → Machine → Type 0) : Type 0 where
  pub are_halves : AreHalvesFor engine patterns AreOf
  pub read : are_halves.halves.ahead.alphabet ≡ alphabet

-- If there is a DFA, it has such halves.
abbrev pub MayBeTablesFor : Engine → ℕ → Option Dense → Type 0
MayBeTablesFor engine patterns tables = IfSome tables (λ d. AreHalvesFor engine patterns (AreHalves d))

-- If there is a lazy DFA, it has such halves.
abbrev pub MayBeLazyFor : Engine → ℕ → Option Lazy → Type 0
MayBeLazyFor engine patterns tables = IfSome tables (λ l. AreHalvesFor engine patterns (lazy.AreHalves l))

-- They read this.
abbrev pub MayBeTablesOver : Alphabet → Engine → ℕ → Option Dense → Type 0
MayBeTablesOver alphabet engine patterns tables = IfSome tables (λ d. AreHalvesOver alphabet engine patterns (AreHalves d))

abbrev pub MayBeLazyOver : Alphabet → Engine → ℕ → Option Lazy → Type 0
MayBeLazyOver alphabet engine patterns tables = IfSome tables (λ l. AreHalvesOver alphabet engine patterns (lazy.AreHalves l))

-- How many bytes the DFA takes.
abbrev pub bytes_of_tables : Option Dense → ℕ
bytes_of_tables None = 0
bytes_of_tables (Some d) = bytes_of d.forward + bytes_of d.reverse + 8 * length d.patterns.items

-- How many bytes the one-pass DFA takes.
abbrev pub bytes_of_onepass : Option OnePass → ℕ
bytes_of_onepass None = 0
bytes_of_onepass (Some d) = bytes_of_rows d.rows.items

-- How many bytes both take, at most `usize.MAX`.
abbrev pub bytes_taken : Option Dense → Option OnePass → ℕ
bytes_taken tables onepass = min (bytes_of_tables tables + bytes_of_onepass onepass) 18446744073709551615
