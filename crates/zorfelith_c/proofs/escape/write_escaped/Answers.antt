use Rattle.std.proofs.Common.{◌+◌, ◌++◌, ◌∙◌, ap, arith, get_or, length, length-append, sym, take}
use Rattle.zorfelith_c.specs.Escaping.{escaped, escaped_byte}
use Rattle.zorfelith_c.proofs.Escapes.{escaped_more, escaped_within}
use Rattle.zorfelith_c.proofs.escape.write_escaped.Goals as goal

pub put_escaped-at-requires : goal.put_escaped-at-requires
put_escaped-at-requires c =
    let within = escaped_within c.args.text.now c.loop-i.i (omega arith) in
    omega (arith, within, c.loop-i.invariant.told, c.requires)

pub loop-i-preserved : goal.loop-i-preserved
loop-i-preserved c =
    let text = c.args.text.now in
    let i = c.loop-i.i in
    let more = escaped_more text i (omega arith) in
    record {
      told = c.put_escaped-at.ensures.end ∙ ap (λ n. n + length (escaped_byte (get_or text i 0))) c.loop-i.invariant.told
          ∙ sym (ap length more ∙ length-append (escaped (take i text)) (escaped_byte (get_or text i 0)));
      written = c.put_escaped-at.ensures.put ∙ ap (λ l. l ++ escaped_byte (get_or text i 0)) c.loop-i.invariant.written ∙ sym more;
    }
