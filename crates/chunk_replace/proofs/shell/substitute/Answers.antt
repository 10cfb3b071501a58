use Rattle.std.proofs.Common.{◌≡◌, ◌∙◌, ap, sym}
use Rattle.rc_text.specs.declared.types.MatchKind.TheVariants.{All as all_matches, LeftmostFirst as leftmost_first}
use Rattle.rc_settings.specs.Settings.{match_kind_of}
use Rattle.chunk_replace.proofs.Whole.{substituted_if}
use Rattle.chunk_replace.proofs.shell.substitute.Goals as goal

pub returns : goal.returns
returns g c =
    substituted_if c.any_replaced.result c.replace_all-replaced.result c.args.is_utf8 c.args.pattern.now _ _ c.in_ok-regex.regex _ _ c.in_ok-regex.ensures.settings
    c.requires.utf8 c.in_ok-regex.ensures.read c.any_replaced.ensures (c.replace_all-replaced.ensures.replaced
    (λ all. let never : leftmost_first ≡ all_matches = sym (ap match_kind_of c.in_ok-regex.ensures.settings) ∙ all in cc))
    c.replace_all-replaced.ensures.count
