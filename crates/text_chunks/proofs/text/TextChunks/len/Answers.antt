use Rattle.std.proofs.Common.{◌≡◌, ◌∙◌, ◌+◌, ◌++◌, ap, arith, reverse}
use Rattle.text_chunks.proofs.Counts.{bytes}
use Rattle.text_chunks.proofs.Turned.{bytes-turned}
use Rattle.text_chunks.proofs.text.TextChunks.len.Goals as goal

pub overflow_add-result : goal.overflow_add-result
overflow_add-result c = omega (arith, c.len.ensures, c.len-2.ensures, c.self.invariant, bytes-turned c.self.inside.before c.self.inside.after)

pub returns-clause-value : goal.returns-clause-value
returns-clause-value c =
    let b = c.self.inside.before in
    let a = c.self.inside.after in
    let sum : c.len.result + c.len-2.result ≡ bytes (b ++ reverse a) = omega (arith, c.len.ensures, c.len-2.ensures, bytes-turned b a) in
    sum ∙ ap bytes c.self.view_is

pub returns-clause-small : goal.returns-clause-small
returns-clause-small c = omega (arith, c.len.ensures, c.len-2.ensures, c.self.invariant, bytes-turned c.self.inside.before c.self.inside.after)
