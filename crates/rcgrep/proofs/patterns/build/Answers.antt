use Rattle.std.proofs.Common.{ap, map}
use Rattle.rc_pattern.specs.Meaning.{meaning}
use Rattle.rc_settings.specs.Settings.{line_terminator_of, match_kind_of}
use Rattle.rcgrep.proofs.KeptLemmas.{built_kept}
use Rattle.rcgrep.proofs.LocalLemmas.{built_local}
use Rattle.rcgrep.proofs.NeededLemmas.{built_held}
use Rattle.rcgrep.proofs.patterns.build.Goals as goal

-- patterns whose assertions were found to say the same of a line between others, and needles that were found for them
pub invariant_of-result : goal.invariant_of-result
invariant_of-result c = record {
  local = λ yes.
      let built = c.in_ok-regex.ensures in
      ∣ built_local c.in_ok-regex.regex (map meaning c.args.hirs.now) (ap match_kind_of built.settings)
      (ap line_terminator_of built.settings) built.patterns built.buildable.well_formed (c.are_local-is_local.ensures yes) ∣₁;
  kept = λ yes.
      let built = c.in_ok-regex.ensures in
      ∣ built_kept c.in_ok-regex.regex (map meaning c.args.hirs.now) (ap match_kind_of built.settings) built.patterns built.buildable.well_formed
      (c.keep_to_lines-keeps_to_lines.ensures yes) ∣₁;
  held =
      let built = c.in_ok-regex.ensures in
      built_held c.in_ok-regex.regex (map meaning c.args.hirs.now) c.in_ok-needles.needles (ap match_kind_of built.settings) built.patterns
      built.buildable.well_formed c.in_ok-needles.ensures;
}
