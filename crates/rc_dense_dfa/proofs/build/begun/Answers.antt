use Rattle.std.proofs.Common.{◌∙◌, ◌+◌, ◌*◌, length, ap, arith}
use Rattle.rc_dfa.specs.Machine.{Machine}
use Rattle.rc_dense_dfa.proofs.build.begun.Goals as goal

pub maker_of-requires : goal.maker_of-requires
maker_of-requires g c =
    let v = c.args.automaton.now.samples in
    let small = v.small in
    let long = v.ok in
    let same = ap length c.samples-width.ensures in
    let wide = c.requires.1.1.0 in (
      c.requires.1.0,
      (
        c.in_ok-scratch.ensures c.args.direction ∙ ap (λ (n : Machine). length n.setting.places) c.requires.0,
        (
          (omega (arith, same, wide), omega (arith, same, small, long)),
          c.in-Some.ensures ∙ ap (λ n. n * (length c.samples-width.result.now + 1)) c.requires.1.1.1,
        ),
      ),
    )
