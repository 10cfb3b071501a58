-- Patterns are never heavier than by the stated grammar.
use Rattle.std.proofs.Common.{◌≤◌, List, arith}
use Rattle.rc_pattern.specs.Re.{Re}
use Rattle.rc_pattern.specs.Weight.{list_weight}
use Rattle.rc_parser.specs.declared.config.Grammar.{Grammar}
use Rattle.rc_parser.specs.declared.config.Grammar.TheVariants.{Stated, Full}
use Rattle.rc_weigh.proofs.LighterLemmas.{list_lighter}
use Rattle.rc_build.specs.Refusals.{weight_by}

pub never_heavier : (grammar : Grammar) (hs : List Re) → weight_by grammar hs ≤ list_weight hs
never_heavier Stated hs = omega arith
never_heavier Full hs = list_lighter hs
