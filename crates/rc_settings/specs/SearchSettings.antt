-- The settings of searches: what was set, else the default.
use Rattle.std.specs.Prelude.{ℕ, List, Option, None, option_map, unwrap_or}
use Rattle.std.specs.Option.{option_or}
use Rattle.rc_text.specs.declared.types.MatchKind.{MatchKind}
use Rattle.rc_text.specs.declared.types.MatchKind.TheVariants.{LeftmostFirst}
use Rattle.rc_needles.specs.Prefilters.{needles_of}
use Rattle.rc_settings.specs.declared.pikevm.Config.{Config}

-- what was set
pub record SearchSettings : Type 0 where
  pub match_kind : Option MatchKind
  -- the needles of a prefilter
  pub prefilter : Option (Option (List (List ℕ)))

abbrev pub search_settings_of : Config → SearchSettings
search_settings_of c = record {
  match_kind = c.match_kind;
  prefilter = option_map (λ p. option_map needles_of p) c.prefilter;
}

-- nothing is set
abbrev pub none_set : SearchSettings
none_set = record { match_kind = None; prefilter = None }

-- the old settings, but for those that the new ones set
abbrev pub set_over : SearchSettings → SearchSettings → SearchSettings
set_over old new = record {
  match_kind = option_or new.match_kind old.match_kind;
  prefilter = option_or new.prefilter old.prefilter;
}

abbrev pub match_kind_of : SearchSettings → MatchKind
match_kind_of s = unwrap_or s.match_kind LeftmostFirst

-- the needles that a search may look for first
abbrev pub prefilter_of : SearchSettings → Option (List (List ℕ))
prefilter_of s = unwrap_or s.prefilter None
