use Rattle.std.proofs.Common.{◌≡◌, ◌∙◌, ◌+◌, ◌-◌, true, arith, ap, length, slice_range, subst, take, drop}
use Rattle.std.specs.Prelude.{bytes_eq}
use Rattle.std.proofs.lemmas.Bool.Decides.{nat_tests}
use Rattle.std.proofs.lemmas.Slice.Eq.{bytes_eq-Decides}
use Rattle.rc_needles.specs.Tables.{needles_in, numbered}
use Rattle.rc_needles.proofs.StandLemmas.{numbered_in}
use Rattle.rc_needles.proofs.many.number_seen.Goals as goal

pub returns-then-eq : goal.returns-then-eq
returns-then-eq c _ =
    let vs = c.args.table.now.needles.items in
    let piece = c.args.piece.now in
    let at = c.args.at in
    let n = c.args.number in
    let needle = c.as_slice-needle.result.now in
    let read : needle ≡ numbered (needles_in vs) n =
    c.as_slice-needle.ensures.value ∙ numbered_in vs n c.index.result.now c.requires.number c.index.ensures in
    let e : bytes_eq (take (at + length needle - at) (drop at piece)) needle ≡ true = grind (arith, nat_tests) in
    let stands : slice_range piece at (at + length needle) ≡ needle = (bytes_eq-Decides (take (at + length needle - at) (drop at piece)) needle).0 e in
    record {
      fits = omega (arith, ap length read, c.if-len-piece.true, c.requires.within);
      stands = subst (λ w. slice_range piece at (at + length w) ≡ w) read stands;
      none_earlier = c.requires.none_earlier;
    }
