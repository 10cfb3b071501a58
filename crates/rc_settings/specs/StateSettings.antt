-- The settings of searches by states: what was set, else the default.
use Rattle.std.specs.Prelude.{Bool, true, Option, None, unwrap_or}
use Rattle.std.specs.Option.{option_or}
use Rattle.rc_settings.specs.SearchSettings.{SearchSettings, search_settings_of, none_set, set_over}
use Rattle.rc_settings.specs.declared.states.Config.{Config}

-- what was set
pub record StateSettings (L : Type 0) : Type 0 where
  pub search : SearchSettings
  pub byte_classes : Option Bool
  -- a limit on what states weigh
  pub limit : Option L

abbrev pub state_settings_of : {L : Type 0} → Config L → StateSettings L
state_settings_of c = record { search = search_settings_of c.search; byte_classes = c.byte_classes; limit = c.limit }

-- nothing is set
abbrev pub no_state_setting : (L : Type 0) → StateSettings L
no_state_setting L = record { search = none_set; byte_classes = None; limit = None }

-- the old settings, but for those that the new ones set
abbrev pub state_settings_over : {L : Type 0} → StateSettings L → StateSettings L → StateSettings L
state_settings_over old new = record {
  search = set_over old.search new.search;
  byte_classes = option_or new.byte_classes old.byte_classes;
  limit = option_or new.limit old.limit;
}

abbrev pub byte_classes_of : {L : Type 0} → StateSettings L → Bool
byte_classes_of s = unwrap_or s.byte_classes true
