use Rattle.std.proofs.Common.{◌≡◌, ◌-◌, ◌∙◌, true, false, None, if◌then◌else◌, nat_eq, ⊎_elim, sym, ap, arith, eqb-true, eq-eqb}
use Rattle.std.specs.List.{slice_get}
use Rattle.std.proofs.lemmas.Bool.{cases_Bool}
use Rattle.live_matches.specs.Live.{listed}
use Rattle.live_matches.proofs.live.LiveMatches.previous_from.Goals as goal

pub returns-then-index-eq0 : goal.returns-then-index-eq0
returns-then-index-eq0 c hi o =
    let k = c.index_from-index.result in
    let none : nat_eq k 0 ≡ true = eq-eqb k 0 (omega (arith, c.if-index-eq0.true)) in (
      k,
      c.index_from-index.ensures hi o,
      sym (ap (λ b. if b then None else slice_get (listed c.args.self.now) (k - 1)) none),
    )

pub returns : goal.returns
returns c hi o =
    let k = c.index_from-index.result in
    let some : nat_eq k 0 ≡ false = ⊎_elim (λ t. absurd (let e = eqb-true k 0 t in omega (arith, e, c.if-index-eq0.false))) (λ f. f) (cases_Bool (nat_eq k 0)) in (
      k,
      c.index_from-index.ensures hi o,
      c.get.ensures ∙ sym (ap (λ b. if b then None else slice_get (listed c.args.self.now) (k - 1)) some),
    )
