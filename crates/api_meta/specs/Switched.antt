-- Which DFAs and which literals a regex has.
use Rattle.std.specs.Prelude.{◌≡◌, ◌⊎◌, IfSome, None, Some, false}
use Rattle.rc_pikevm_search.specs.Choices.{answering, guarding}
use Rattle.rc_settings.specs.Settings.{auto_prefilter_of, dfa_of, hybrid_of, prefilter_of, unicode_words_of}
use Rattle.api_meta.specs.Views.{regex_settings}
use Rattle.api_meta.specs.declared.regex.Regex.{Regex}

-- The regex has no literals of its patterns: none that decide its answers, none that each match contains, and no words. The needles with
-- which its matches begin, if it has some, are those that its settings name.
pub record HasNoLiterals (r : Regex) : Type 0 where
  pub no_answers : answering r.engines.engine.literals ≡ None
  pub no_prefixes : IfSome (guarding r.engines.engine.literals) (λ needles. prefilter_of (regex_settings r) ≡ Some needles)
  pub no_needs : r.engines.needs ≡ None
  pub no_words : r.engines.words ≡ None

-- The regex has no DFA if its settings switch the DFA off, no lazy DFA if they switch that off, none over symbols if they switch off
-- Unicode words, and no literals of its patterns if they switch these off.
pub record HasNoneSwitchedOff (r : Regex) : Type 0 where
  pub no_tables : dfa_of (regex_settings r) ≡ false → r.engines.tables ≡ None
  pub no_lazy : hybrid_of (regex_settings r) ≡ false → r.engines.lazy ≡ None
  pub no_symbols : (hybrid_of (regex_settings r) ≡ false) ⊎ (unicode_words_of (regex_settings r) ≡ false) → r.engines.symbols ≡ None
  pub no_literals : auto_prefilter_of (regex_settings r) ≡ false → HasNoLiterals r
