use Rattle.std.proofs.Common.{◌∙◌, ◌+◌, ◌<◌, ◌^◌, ap, arith, inl, length, subst, sym}
use Rattle.api_meta.specs.Left.{find_left}
use Rattle.api_meta.specs.Seeking.{Finding}
use Rattle.api_meta.proofs.Going.{few_left}
use Rattle.api_meta.proofs.Runs.{find_drained}
use Rattle.api_meta.proofs.iterators.FindMatches.count.Goals as goal

few : (s : Finding) → length s.input.content + 1 < 2 ^ 64 → 0 + length (find_left s) < 2 ^ 64
few s fits =
    let h = few_left s.seeker.regex s.input s.seeker.last s.seeker.is_done in
    omega (arith, h, fits)

pub count-requires-clause-fits : goal.count-requires-clause-fits
count-requires-clause-fits g c =
    inl (few c.args.self (subst (λ (s : Finding). length s.input.content + 1 < 2 ^ 64) c.self.view_is c.content_fits.ensures))

pub returns : goal.returns
returns g c = let (xs, all, same) = c.count.ensures.ran in same ∙ ap length (sym (find_drained xs c.args.self all))
