use Rattle.std.proofs.Common.{arith}
use Rattle.rc_compile.proofs.SizeLemmas.{literal_size}
use Rattle.rc_program.proofs.ResultLemmas.{IfOk_to}
use Rattle.rc_compile.proofs.compile.emit.emit_literal.Goals as goal

pub returns-clause-long : goal.returns-clause-long
returns-clause-long c =
    let size = literal_size c.args.bytes.now.items in
    IfOk_to c.append-2.result _ _ c.append-2.ensures.long
    (λ h. omega (arith, h, size, c.loop-i.invariant.long, c.loop-i-test.false, c.loop-i.auto.i-end, c.len-last.ensures, c.args.bytes.now.ok.0))
