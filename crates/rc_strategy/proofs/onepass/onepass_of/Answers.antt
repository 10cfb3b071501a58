use Rattle.std.proofs.Common.{IfSome, subst}
use Rattle.std.proofs.lemmas.Result.{IfOk-weaker}
use Rattle.rc_program.specs.Places.{places_of}
use Rattle.rc_onepass.specs.Rows.{IsOnePassOf}
use Rattle.rc_strategy.specs.Slots.{MayBeOnePass}
use Rattle.rc_strategy.proofs.onepass.onepass_of.Goals as goal

pub returns : goal.returns
returns c =
    IfOk-weaker c.new.result (λ o. IfSome o (IsOnePassOf (places_of c.deref-2.result.now)))
    (λ o. ∥ MayBeOnePass (places_of c.args.engine.now.program.places.items) o ∥₁)
    (λ o h. ∣ subst (λ ps. IfSome o (IsOnePassOf (places_of ps))) c.deref-2.ensures.value h ∣₁) c.new.ensures.rows
