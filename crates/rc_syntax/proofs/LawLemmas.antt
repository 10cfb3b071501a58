-- The laws of either grammar, by the grammar that is set.
use Rattle.std.proofs.Common.{◌≡◌, ◌<◌, subst, sym}
use Rattle.rc_pattern.specs.Re.{Re}
use Rattle.rc_pattern.specs.WellFormed.{IsWellFormed}
use Rattle.rc_tokens.specs.Text.{Characters}
use Rattle.rc_parser.specs.Settings.{Settings}
use Rattle.rc_parser.specs.declared.config.Grammar.{Grammar}
use Rattle.rc_parser.specs.declared.config.Grammar.TheVariants.{Stated, Full}
use Rattle.rc_parser.proofs.ReadLemmas.{reads_one}
use Rattle.rc_parser.proofs.StandLemmas.{well_formed}
use Rattle.rc_full_parser.proofs.OneLemmas.{one_law as one_full}
use Rattle.rc_full_parser.proofs.StandLemmas.{well_formed_law as well_formed_full}
use Rattle.rc_syntax.specs.Laws.{OneLaw, WellFormedLaw, StatedLaw}
use Rattle.rc_syntax.specs.Reads.{ReadsBy}

one_by : (g : Grammar) (s : Settings) (text : Characters) (a b : Re) → ReadsBy g s text a → ReadsBy g s text b → a ≡ b
one_by Stated s text a b x y = reads_one s text a b x y
one_by Full s text a b x y = one_full s text a b x y

pub one_law : OneLaw
one_law s text a b x y = one_by s.grammar s text a b x y

well_formed_by : (g : Grammar) (s : Settings) (text : Characters) (re : Re) → s.line_terminator < 256 → ReadsBy g s text re → IsWellFormed re
well_formed_by Stated s text re byte r = well_formed s text re byte r
well_formed_by Full s text re byte r = well_formed_full s text re byte r

pub well_formed_law : WellFormedLaw
well_formed_law s text re byte r = well_formed_by s.grammar s text re byte r

pub stated_law : StatedLaw
stated_law s text re stated = (λ r. subst (λ g. ReadsBy g s text re) stated r, λ r. subst (λ g. ReadsBy g s text re) (sym stated) r)
