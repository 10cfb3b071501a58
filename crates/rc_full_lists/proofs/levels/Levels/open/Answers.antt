use Rattle.std.proofs.Common.{◌∷◌, arith, inr, refl}
use Rattle.rc_full_lists.specs.Levels.{at, opened, opens}
use Rattle.rc_full_lists.proofs.LevelLemmas.{opening_codes, as_many}
use Rattle.rc_full_lists.proofs.levels.Levels.open.Goals as goal

pub returns-then-nest_limit-len : goal.returns-then-nest_limit-len
returns-then-nest_limit-len c ls are fit =
    let same = as_many c.args.settings.unicode c.args.self.outer.items ls.outer are.outer in inr (refl, omega (arith, same))

pub enter-requires : goal.enter-requires
enter-requires c = opening_codes c.args.settings.verbose c.args.settings.unicode c.args.text.now c.opening-negated.result.2.now
    c.opening-negated.result.0 c.opening-negated.result.1 c.opening-negated.ensures

pub returns : goal.returns
returns c ls are fit =
    let same = as_many c.args.settings.unicode c.args.self.outer.items ls.outer are.outer in
    let negated = c.opening-negated.result.0 in
    let lead = c.opening-negated.result.1 in (
      at (opened c.args.settings.unicode c.args.fold negated lead) (ls.inner ∷ ls.outer),
      opens ls.inner ls.outer c.args.text.now c.opening-negated.result.2.now negated lead c.opening-negated.ensures,
      c.in_ok-next.ensures ls are,
      (omega (arith, same), fit),
    )
