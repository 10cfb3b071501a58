use Rattle.std.proofs.Common.{◌≡◌, ◌++◌, ◌∷◌, [], ◌+◌, subst, arith}
use Rattle.live_matches.specs.Entries.{all_of}
use Rattle.live_matches.specs.Quiet.{BeginFrom}
use Rattle.live_matches.specs.Stretches.{AreStretches, IsDroppedBack}
use Rattle.live_matches.proofs.Had.{both_ok}
use Rattle.live_matches.proofs.Stretched.{added, added_len}
use Rattle.live_matches.proofs.stretches.Stretches.add.Goals as goal

pub push-requires : goal.push-requires
push-requires c =
    let l = added_len c.start.result c.args.self.now.entries c.drop_back.new.self c.drop_by.new.self c.skip_over.new.self
    c.drop_back.ensures c.drop_by.ensures c.skip_over.ensures.gone in
    omega (arith, l, c.requires.inside)

pub returns-clause-are : goal.returns-clause-are
returns-clause-are c kind s content are is =
    let e = c.args.entry.now in
    let g0 = c.args.self.now.entries in
    let g1 = c.drop_back.new.self in
    let g2 = c.drop_by.new.self in
    let g3 = c.skip_over.new.self in
    let g4 = c.push.new.self in
    let pushed = g4 ≡ record g3 { before = g3.before ++ e ∷ [] } in
    both_ok c.push.result pushed pushed (AreStretches kind s content 0 (all_of g4)) c.push.ensures c.push.ensures
    (λ x y. added kind s content e g0 g1 g2 g3 g4 (subst (λ p. IsDroppedBack p g0 g1) c.start.ensures.value c.drop_back.ensures)
    c.drop_by.ensures c.skip_over.ensures.gone (subst (λ p. BeginFrom (p + 1) g3.after) c.start-2.ensures.value c.skip_over.ensures.far) x are is)
