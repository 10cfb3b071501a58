use Rattle.std.proofs.Common.{◌≡◌, ◌∙◌, ◌+◌, ◌-◌, ap, arith, length, subst, sym}
use Rattle.text_chunks.specs.Piles.{IsAt}
use Rattle.text_chunks.proofs.Counts.{bytes}
use Rattle.text_chunks.proofs.Turned.{back_at, bytes-turned, front_at}
use Rattle.text_chunks.proofs.text.TextChunks.index_of.Goals as goal

pub returns-then-at-len : goal.returns-then-at-len
returns-then-at-len c =
    let k = c.index_of.result in
    subst (λ xs. IsAt xs c.args.at k) c.self.view_is (front_at c.self.inside.before c.self.inside.after c.args.at k c.index_of.ensures)

pub index_of-above-requires : goal.index_of-above-requires
index_of-above-requires c =
    omega (arith, c.if-at-len.false, c.len.ensures.value, c.len-2.ensures.value, bytes-turned c.self.inside.before c.self.inside.after, ap bytes c.self.view_is, c.requires)

pub returns : goal.returns
returns c =
    let b = c.self.inside.before in
    let a = c.self.inside.after in
    let at = c.args.at in
    let k = c.index_of-above.result in
    let all = c.len-2.ensures.value ∙ sym (ap bytes c.self.view_is) in
    let there = back_at b a at k (omega (arith, c.requires, ap bytes c.self.view_is)) (subst (λ n. IsAt a (n - 1 - at) k) all c.index_of-above.ensures) in
    let index : length b + (length a - 1 - k) ≡ c.count.result + (c.count-2.result - 1 - k) = omega (arith, c.count.ensures.value, c.count-2.ensures.value) in
    subst (λ i. IsAt c.args.self.now at i) index (subst (λ xs. IsAt xs at (length b + (length a - 1 - k))) c.self.view_is there)
