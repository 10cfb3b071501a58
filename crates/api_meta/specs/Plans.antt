-- What tables are made from whose states are made as they are met.
use Rattle.std.specs.Prelude.{List}
use Rattle.rc_pattern.specs.Re.{Re}
use Rattle.rc_program.specs.Program.{shown}
use Rattle.rc_settings.specs.Which.{is_grouped}
use Rattle.rc_settings.specs.Settings.{Settings, byte_classes_of, hybrid_cache_capacity_of, line_terminator_of, match_kind_of, which_captures_of}
use Rattle.rc_strategy.specs.Plans.{LazyPlan}

-- the plan by which they are made from patterns under settings
abbrev pub plan_by : List Re → Settings → LazyPlan
plan_by hs s = record {
  patterns = shown (is_grouped (which_captures_of s)) hs;
  terminator = line_terminator_of s;
  kind = match_kind_of s;
  byte_classes = byte_classes_of s;
  capacity = hybrid_cache_capacity_of s;
}
