use Rattle.std.proofs.Common.{◌≡◌, ◌∙◌, arith, inl, inr, refl, subst}
use Rattle.std.proofs.lemmas.Bool.{cases_lt}
use Rattle.rc_needles.specs.Tables.{needles_in, numbered}
use Rattle.rc_needles.specs.Tries.{IsCarried}
use Rattle.rc_needles.proofs.StandLemmas.{numbered_in}
use Rattle.rc_needles.proofs.trie.trie_of.Goals as goal

pub loop-number-preserved : goal.loop-number-preserved
loop-number-preserved c n l =
    let vs = c.args.needles.now in
    let nodes = c.in_ok-nodes.nodes.items in
    let i = c.loop-number.number in
    elim (cases_lt n i) [
      | inl h ↦ c.loop-number.invariant n h
      | inr g ↦
          let same : i ≡ n = omega (arith, l, g) in
          let w : c.as_slice.result.now ≡ numbered (needles_in vs) i =
          c.as_slice.ensures.value ∙ numbered_in vs i c.index-needles-number.result (omega (arith, c.loop-number-test.true)) c.index-needles-number.is in
          subst (λ k. IsCarried nodes (numbered (needles_in vs) k) k) same (subst (λ bytes. IsCarried nodes bytes i) w (c.if-not-carries.ensures refl))
    ]
