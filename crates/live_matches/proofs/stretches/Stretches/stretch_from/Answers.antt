use Rattle.std.proofs.Common.{◌∙◌, length, refl, sym, subst, arith}
use Rattle.live_matches.specs.Entries.{all_of}
use Rattle.live_matches.specs.Stretches.{IsQuiet}
use Rattle.live_matches.proofs.Stretched.{IsJoined, quiet_here, stretch_at}
use Rattle.live_matches.proofs.stretches.Stretches.stretch_from.Goals as goal
use Rattle.live_matches.proofs.stretches.Stretches.stretch_from.Goals.{in-Some, in_default}

pub each-init : goal.each-init
each-init c =
    subst (IsJoined c.args.self.now.entries c.args.at) (sym c.at-stretch.ensures) (record {
      start = refl;
      order = omega arith;
      inside = λ kind s content h are. h;
      quiet = λ kind s content other free are. quiet_here kind s content c.args.at c.args.at;
    })

pub each-preserved : goal.each-preserved
each-preserved c =
    let g = c.args.self.now.entries in
    let i = c.each.invariant in
    let t = c.each.stretch in
    elim c.match-get.branch [
      | in-Some w ↦
          let is = w.with-stretch.ensures in
          let u = w.with-stretch.result in
          let got = sym c.get.ensures ∙ w.in-Some.is in
          subst (IsJoined g c.args.at) (sym w.stretch-is) (record {
            start = is.start ∙ i.start;
            order = omega (arith, i.order, is.on);
            inside = λ kind s content h are.
                is.inside (length content) (i.inside kind s content h are) (stretch_at kind s content 0 (all_of g) c.each.index w.in-Some.entry are got).inside;
            quiet = λ kind s content other free are.
                subst (λ j. IsQuiet kind s content u.reach j u.end) (is.start ∙ i.start)
                (is.quiet kind s content other free (omega (arith, i.start, i.order))
                (subst (λ j. IsQuiet kind s content t.reach j t.end) (sym i.start) (i.quiet kind s content other free are))
                (stretch_at kind s content 0 (all_of g) c.each.index w.in-Some.entry are got));
          })
      | in_default w ↦ subst (IsJoined g c.args.at) (sym w.stretch-is) i
    ]
