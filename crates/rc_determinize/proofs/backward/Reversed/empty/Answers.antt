use Rattle.std.proofs.Common.{◌≡◌, [], ◌∷◌, ◌++◌, ◌+◌, ◌∙◌, ap, refl, arith, length, map, get_or}
use Rattle.std.proofs.lemmas.List.{length-append, map-append}
use Rattle.rc_determinize.proofs.ReverseLemmas.{none_pushed}
use Rattle.rc_determinize.proofs.backward.Reversed.empty.Goals as goal

pub loop-init : goal.loop-init
loop-init c = rw c.new-into.ensures.items (refl, λ p. refl)

pub loop-preserved : goal.loop-preserved
loop-preserved c =
    let size : length c.push.new.self.items ≡ c.loop.counter + 1 =
    ap (λ x. length x) c.in_ok-push.ensures.items ∙ length-append c.loop.into.items (c.new.result ∷ []) ∙ ap (λ n. n + 1) c.loop.invariant.0 in (
      size,
      λ p. ap (λ x. get_or (map (λ v. v.items) x) p []) c.in_ok-push.ensures.items
          ∙ ap (λ x. get_or x p []) (map-append (λ v. v.items) c.loop.into.items (c.new.result ∷ []))
          ∙ ap (λ x. get_or (map (λ v. v.items) c.loop.into.items ++ x ∷ []) p []) c.new.ensures.items
          ∙ none_pushed (map (λ v. v.items) c.loop.into.items) c.loop.invariant.1 p,
    )

pub returns-clause-len : goal.returns-clause-len
returns-clause-len c = let a = c.loop.invariant.0 in let b = c.loop-test.false in let d = c.loop.auto.counter-end in omega (arith, a, b, d)

pub returns-clause-none : goal.returns-clause-none
returns-clause-none c = c.loop.invariant.1
