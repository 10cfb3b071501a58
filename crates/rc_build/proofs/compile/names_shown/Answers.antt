use Rattle.std.proofs.Common.{◌∙◌, sym, map}
use Rattle.rc_pattern.specs.Meaning.{meaning}
use Rattle.rc_build.proofs.NamesLemmas.{no_names}
use Rattle.rc_build.proofs.compile.names_shown.Goals as goal

pub returns : goal.returns
returns c = rw c.if-grouped.false (c.in_ok-names.ensures ∙ sym (no_names (map meaning c.args.hirs.now)))
