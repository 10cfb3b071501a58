use Rattle.std.proofs.Common.{IfSome, map, option_map, ap, sym, subst, ◌∙◌}
use Rattle.rc_pattern.specs.Meaning.{meaning}
use Rattle.rc_program.specs.Text.{Text}
use Rattle.rc_literals.specs.Answers.{owned_of}
use Rattle.rc_literals.specs.Literals.{Covers}
use Rattle.rc_needles.specs.Prefilters.{needles_of}
use Rattle.rc_pikevm_search.proofs.Chosen.{covering_sound, exact_sound}
use Rattle.rc_pikevm_search.proofs.choice.choose.Goals as goal

pub returns-in-Some-clause-sound : goal.returns-in-Some-clause-sound
returns-in-Some-clause-sound c q e =
    exact_sound (map meaning c.args.hirs.now) (owned_of c.in-Some.needles) q c.requires.bounds
    (sym c.in_ok-needles.ensures ∙ ap (λ o. option_map owned_of o) c.in-Some.is) e

pub returns-in-Some-2-clause-sound : goal.returns-in-Some-2-clause-sound
returns-in-Some-2-clause-sound c q e =
    let hs = map meaning c.args.hirs.now in
    covering_sound hs (needles_of c.in-Some-2.needles) q c.requires.bounds
    (subst (λ o. IfSome o (λ p. (t : Text) → Covers t hs (needles_of p))) c.in-Some-2.is c.in_ok-needles-2.ensures.covers) e
