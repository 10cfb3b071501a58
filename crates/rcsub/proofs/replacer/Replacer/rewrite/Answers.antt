use Rattle.std.proofs.Common.{◌≡◌, ◌++◌, IfSome, subst, sym}
use Rattle.rcsub.proofs.Regexes.{rewritten}
use Rattle.rcsub.proofs.replacer.Replacer.rewrite.Goals as goal

pub returns-clause-put : goal.returns-clause-put
returns-clause-put g c =
    let left = g.R.Read.remaining c.args.input.now in
    let items = c.read_to_end.new.buf.items in
    let read : IfSome left (λ xs. items ≡ xs) = subst (λ zs. IfSome left (λ xs. items ≡ zs ++ xs)) c.new-text.ensures.items c.in_ok-read_to_end.ensures.bytes in
    rewritten left c.args.self.now c.deref.result.now c.in_ok-count.count _ _ (subst (λ y. IfSome left (λ xs. y ≡ xs)) (sym c.deref.ensures.value) read)
    c.in_ok-count.ensures.put
