use Rattle.std.proofs.Common.{◌≡◌, ◌+◌, ◌∙◌, arith, inl, inr, ap, sym, refl, take}
use Rattle.std.proofs.lemmas.Bool.{cases_lt}
use Rattle.rc_needles.specs.Tries.{walk}
use Rattle.rc_needles.proofs.TrieLemmas.{walk_more}
use Rattle.rc_needles.proofs.trie.Trie.carries.Goals as goal

pub loop-byte-preserved : goal.loop-byte-preserved
loop-byte-preserved c =
    let nodes = c.args.self.now.nodes.items in
    let needle = c.args.needle.now in
    let i = c.loop-byte.byte-index in
    let next : c.step-at.result ≡ walk nodes 1 (take (i + 1) needle) =
    c.step-at.ensures ∙ walk_more nodes needle i c.loop-byte.at _ (omega (arith, c.loop-byte-test.true)) refl c.loop-byte.invariant.node_is in
    record {
      node_is = next;
      lives = λ d l none.
          elim (cases_lt i d) [
            | inl h ↦
                let here : d ≡ i + 1 = omega (arith, h, l) in
                let zero : c.step-at.result ≡ 0 = next ∙ ap (λ k. walk nodes 1 (take k needle)) (sym here) ∙ none in
                omega (arith, zero, c.if-at-eq0.false)
            | inr g ↦ c.loop-byte.invariant.lives d g none
          ];
    }
