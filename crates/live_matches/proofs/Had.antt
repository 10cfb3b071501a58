-- What two clauses of a call give together, if it answers `Ok`.
use Rattle.std.specs.Prelude.{Result, IfOk}
use Rattle.std.specs.declared.result.Result.TheVariants.{Ok, Err}

pub both_ok : {T E : Type 0} (r : Result T E) (P Q R : Type 0) → IfOk r (λ _. P) → IfOk r (λ _. Q) → (P → Q → R) → IfOk r (λ _. R)
both_ok (Ok x) P Q R a b f = f a b
both_ok (Err e) P Q R a b f = tt

pub four_ok : {T E : Type 0} (r : Result T E) (P Q R S Z : Type 0) → IfOk r (λ _. P) → IfOk r (λ _. Q) → IfOk r (λ _. R) → IfOk r (λ _. S) →
    (P → Q → R → S → Z) → IfOk r (λ _. Z)
four_ok (Ok x) P Q R S Z a b c d f = f a b c d
four_ok (Err e) P Q R S Z a b c d f = tt
