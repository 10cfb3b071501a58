use Rattle.std.proofs.Common.{arith, length, map, ap}
use Rattle.std.proofs.lemmas.List.{length-map}
use Rattle.rc_pattern.specs.Meaning.{meaning}
use Rattle.api_meta.proofs.Weights.{groups_light}
use Rattle.api_meta.proofs.regex.Regex.try_clone.Goals as goal

pub build-requires : goal.build-requires
build-requires c =
    let hs = c.args.self.now.hirs.items in
    omega (arith, groups_light (map meaning hs), length-map hs meaning, c.args.self.now.fits.light, ap length c.deref.ensures.value)
