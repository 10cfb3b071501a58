-- What a call may answer.
use Rattle.std.proofs.Common.{Result, Ok, Err, IfOk}

-- what a call ensures where it answers Ok gives what is wanted there
pub IfOk_to : {T E : Type 0} (r : Result T E) (P Q : Type 0) → IfOk r (λ _. P) → (P → Q) → IfOk r (λ _. Q)
IfOk_to (Ok x) P Q h f = f h
IfOk_to (Err e) P Q h f = h
