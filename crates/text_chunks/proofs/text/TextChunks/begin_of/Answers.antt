use Rattle.std.proofs.Common.{◌≡◌, ◌-◌, ap, arith, length, take}
use Rattle.text_chunks.proofs.Counts.{bytes}
use Rattle.text_chunks.proofs.Edited.{bytes-below}
use Rattle.text_chunks.proofs.Turned.{back_begin, bytes-turned}
use Rattle.text_chunks.proofs.text.TextChunks.begin_of.Goals as goal

pub returns-then-index-front-clause-within : goal.returns-then-index-front-clause-within
returns-then-index-front-clause-within c =
    let b = c.self.inside.before in
    omega (arith, c.bytes_in.ensures, bytes-below b c.args.index, bytes-turned b c.self.inside.after, ap bytes c.self.view_is)

pub overflow_sub-result : goal.overflow_sub-result
overflow_sub-result c =
    let a = c.self.inside.after in
    let behind = c.count.result - (c.args.index - c.count-front.result) in
    omega (arith, c.bytes_in-2.ensures, bytes-below a behind, bytes-turned c.self.inside.before a, ap bytes c.self.view_is, c.len.ensures.value)

pub returns-clause-value : goal.returns-clause-value
returns-clause-value c =
    let b = c.self.inside.before in
    let a = c.self.inside.after in
    let i = c.args.index in
    let same = ap length c.self.view_is in
    let behind : c.count.result - (i - c.count-front.result) ≡ length a - (i - length b) = omega (arith, c.count.ensures.value, c.count-front.ensures.value) in
    let past = back_begin b a i (omega (arith, c.if-index-front.false, c.count-front.ensures.value)) (omega (arith, same, c.requires)) in
    omega (arith, c.len.ensures.value, c.bytes_in-2.ensures, ap (λ k. bytes (take k a)) behind, past, ap bytes c.self.view_is, ap (λ xs. bytes (take i xs)) c.self.view_is)
