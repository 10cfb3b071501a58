use Rattle.std.proofs.Common.{ℕ, ◌≡◌, ◌<◌, ◌==◌, arith, false, length, sym, vec_len}
use Rattle.std.specs.Prelude.{Vec}
use Rattle.std.specs.declared.alloc.Global.{Global}
use Rattle.std.proofs.lemmas.Bool.{eqb-false}
use Rattle.grep_lines.specs.Pieces.{BeginsLine, IsLong}
use Rattle.grep_lines.proofs.PieceLemmas.{begins_ended, begins_last, begins_more, with_known}
use Rattle.grep_lines.proofs.pieces.begin_line.Goals as goal

-- what isn't empty has an item
some_items : (v : Vec ℕ Global) → (vec_len v == 0) ≡ false → 0 < length v.items
some_items v is = let other = eqb-false (vec_len v) 0 is in omega (arith, other, v.ok.0)

-- the line is whole
pub returns-in-Terminator-clause-begun : goal.returns-in-Terminator-clause-begun
returns-in-Terminator-clause-begun g c =
    begins_ended c.args.terminator (g.R.Read.remaining c.loop.reader) (g.R.Read.remaining c.next_piece.new.reader) c.loop.line.items c.next_piece.new.pieces.items
    c.in_ok-next_piece.field-0 (g.R.Read.remaining c.args.reader.now) c.loop.invariant c.in_ok-next_piece.ensures.told c.in-Terminator.is

pub returns-in-End-2-clause-begun : goal.returns-in-End-2-clause-begun
returns-in-End-2-clause-begun g c =
    begins_last c.args.terminator (g.R.Read.remaining c.loop.reader) (g.R.Read.remaining c.next_piece.new.reader) c.loop.line.items c.next_piece.new.pieces.items
    c.in_ok-next_piece.field-0 (g.R.Read.remaining c.args.reader.now) c.loop.invariant c.in_ok-next_piece.ensures.told c.in-End-2.is
    (some_items c.next_piece.new.pieces (sym c.if-is_empty.ensures))

-- it is long
pub returns-in-More-clause-begun : goal.returns-in-More-clause-begun
returns-in-More-clause-begun g c =
    let old = g.R.Read.remaining c.args.reader.now in
    let left = g.R.Read.remaining c.next_piece.new.reader in
    let line = c.next_piece.new.pieces in
    let long : IsLong c.args.most line.items =
    record { some = some_items line (sym c.if-not-is_empty.ensures); many = omega (arith, c.if-len-most.true, c.len.ensures, line.ok.0) } in
    with_known old (λ text. BeginsLine c.args.terminator text line.items left) (IsLong c.args.most line.items)
    (begins_more c.args.terminator (g.R.Read.remaining c.loop.reader) left c.loop.line.items line.items c.in_ok-next_piece.field-0 old c.loop.invariant
    c.in_ok-next_piece.ensures.told c.in-More.is) long

-- it goes on
pub loop-preserved : goal.loop-preserved
loop-preserved g c =
    begins_more c.args.terminator (g.R.Read.remaining c.loop.reader) (g.R.Read.remaining c.next_piece.new.reader) c.loop.line.items c.next_piece.new.pieces.items
    c.in_ok-next_piece.field-0 (g.R.Read.remaining c.args.reader.now) c.loop.invariant c.in_ok-next_piece.ensures.told c.in-More.is
