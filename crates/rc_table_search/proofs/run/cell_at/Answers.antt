use Rattle.std.proofs.Common.{◌<◌, length, sym, subst, ap, ◌∙◌, arith}
use Rattle.rc_table_search.specs.Walks.{byte_at}
use Rattle.rc_table_search.proofs.RunLemmas.{read_here, goes_plain}
use Rattle.rc_table_search.proofs.run.cell_at.Goals as goal

pub bounds-classes-byte : goal.bounds-classes-byte
bounds-classes-byte g c =
    let r = c.requires.1.1 in
    let b = c.byte.result in
    let fits : b < 256 = omega (arith, c.byte.type_inv) in
    subst (λ xs. b < length xs) (sym r.1.1.1.0) (r.1.1.1.1.1.0.inside c.args.stand.row b r.1.1.1.1.1.1.0 fits).0

pub returns-clause-cell : goal.returns-clause-cell
returns-clause-cell g c =
    let r = c.requires.1.1 in
    read_here g.walk c.args.cells.now c.args.classes.now c.args.piece.now c.args.stand.row c.args.place c.byte.result r.1.1.0 r.1.1.1.0 r.1.1.1.1.0
    (c.byte.ensures ∙ ap (λ w. byte_at w c.args.piece.now c.args.place) (sym r.0))

pub returns-clause-reaches : goal.returns-clause-reaches
returns-clause-reaches g c lt =
    let r = c.requires.1.1 in
    let same = read_here g.walk c.args.cells.now c.args.classes.now c.args.piece.now c.args.stand.row c.args.place c.byte.result r.1.1.0 r.1.1.1.0 r.1.1.1.1.0
    (c.byte.ensures ∙ ap (λ w. byte_at w c.args.piece.now c.args.place) (sym r.0)) in
    goes_plain g.walk c.args.place c.args.stand.row _ c.args.stand.noted r.1.1.1.1.1.1.1.0 r.1.1.1.1.1.1.1.1 same lt
