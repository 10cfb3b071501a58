-- What is wrong with the text of a pattern, as a status tells it: 0, nothing; 1, there is a fault; 6, the words for it are longer than their
-- place; 7, the text isn't UTF-8; 10, memory was refused; 12, the settings aren't known. Each of 0, 1, 6 and 7 comes only where that is so.
use Rattle.std.specs.Prelude.{ℕ, zero, suc, ◌<◌, ◌≤◌, List, IsUtf8, chars, length, take}
use Rattle.rc_parser.specs.Settings.{Settings as Syntax}
use Rattle.rc_explain.specs.Explained.{IsRead, IsUnread, IsWithin}
use Rattle.rc_explain.specs.Shown.{IsShown}
use Rattle.rc_explain.specs.declared.faults.FaultKind.{FaultKind}
use Rattle.searcher.specs.Flags.{syntax_settings}
use Rattle.zorfelith_c.specs.Options.{IsKnown, settings_in}
use Rattle.zorfelith_c.specs.declared.explain.FaultAt.{FaultAt}

-- the syntax that these bytes of settings ask for
abbrev pub syntax_in : List ℕ → Syntax
syntax_in settings = syntax_settings (settings_in settings)

-- the settings are known, and the text is UTF-8
abbrev pub IsAsked : List ℕ → List ℕ → Type 0
IsAsked settings text = IsKnown settings × IsUtf8 text

-- The text is read as no pattern. The fault's span is a part of the text that splits no character, and characters that show some kind of fault.
-- The words for it have at most 64 bytes.
pub record IsFaulty (settings text : List ℕ) (fault : FaultAt) : Type 0 where
  pub asked : IsAsked settings text
  pub unread : IsUnread (syntax_in settings) (chars text)
  pub place : IsWithin (record { start = fault.start; end = fault.end }) text
  pub kind : FaultKind
  pub shown : IsShown (syntax_in settings).grammar (record { kind = kind; span = record { start = fault.start; end = fault.end } }) text
  pub few : fault.len ≤ 64

-- the words for the fault stand in the first bytes of their place
abbrev pub IsWorded : FaultAt → List ℕ → Type 0
IsWorded fault words = (fault.len ≤ length words) × IsUtf8 (take fault.len words)

abbrev pub TellsFault : List ℕ → List ℕ → ℕ → FaultAt → List ℕ → Type 0
TellsFault settings text zero fault words = IsAsked settings text × IsRead (syntax_in settings) (chars text)
TellsFault settings text (suc zero) fault words = IsFaulty settings text fault × IsWorded fault words
TellsFault settings text (suc (suc zero)) fault words = ⊥
TellsFault settings text (suc (suc (suc zero))) fault words = ⊥
TellsFault settings text (suc (suc (suc (suc zero)))) fault words = ⊥
TellsFault settings text (suc (suc (suc (suc (suc zero))))) fault words = ⊥
TellsFault settings text (suc (suc (suc (suc (suc (suc zero)))))) fault words = IsFaulty settings text fault × (length words < fault.len)
TellsFault settings text (suc (suc (suc (suc (suc (suc (suc zero))))))) fault words = IsKnown settings × ¬ IsUtf8 text
TellsFault settings text (suc (suc (suc (suc (suc (suc (suc (suc zero)))))))) fault words = ⊥
TellsFault settings text (suc (suc (suc (suc (suc (suc (suc (suc (suc zero))))))))) fault words = ⊥
TellsFault settings text (suc (suc (suc (suc (suc (suc (suc (suc (suc (suc zero)))))))))) fault words = IsAsked settings text
TellsFault settings text (suc (suc (suc (suc (suc (suc (suc (suc (suc (suc (suc zero))))))))))) fault words = ⊥
TellsFault settings text (suc (suc (suc (suc (suc (suc (suc (suc (suc (suc (suc (suc zero)))))))))))) fault words = ¬ IsKnown settings
TellsFault settings text (suc (suc (suc (suc (suc (suc (suc (suc (suc (suc (suc (suc (suc n))))))))))))) fault words = ⊥
