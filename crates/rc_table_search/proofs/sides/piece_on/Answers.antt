use Rattle.std.proofs.Common.{rules, ◌≡◌, ◌+◌, ◌-◌, ◌<◌, ◌≤◌, false, length, slice_range, subst, sym, ◌∙◌, arith}
use Rattle.rc_table_search.specs.Walks.{start_of}
use Rattle.rc_table_search.specs.Ways.{span}
use Rattle.rc_table_search.proofs.sides.piece_on.Goals as goal

pub returns : goal.returns
returns g c =
    let forwards : false ≡ g.W.Way.BACKWARDS = sym (sym c.BACKWARDS.ensures ∙ c.if-BACKWARDS.false) in
    let piece = c.piece_from.result.now in
    let left : 0 < c.args.end - c.args.at = subst (λ b. 0 < span b c.args.at c.args.end) (sym forwards) c.requires.some in
    let within = c.piece_from.ensures.within in
    let fits = c.requires.fits in (
      search rules,
      record {
        after = tt;
        bytes = subst (λ b. piece ≡ slice_range c.args.input.now.content (start_of b (length piece) c.args.at) (start_of b (length piece) c.args.at + length piece)) forwards
            c.piece_from.ensures.bytes;
        short = subst (λ b. length piece ≤ span b c.args.at c.args.end) forwards (omega (arith, within, left, fits));
        some = c.piece_from.ensures.some (omega (arith, left)) (omega (arith, left, fits));
      },
    )
