use Rattle.std.proofs.Common.{Option, Some, None, IfSome}
use Rattle.rc_table_search.proofs.again.recall.Goals as goal

so : {A : Type 0} (P Q : A → Type 0) → ((a : A) → P a → Q a) → (o : Option A) → IfSome o P → IfSome o Q
so P Q f None h = h
so P Q f (Some a) h = f a h

pub returns : goal.returns
returns g c =
    let e = c.is_current.ensures c.if-not-is_current.false in
    so _ _ (λ k h. (h.1, h.2, λ seen bound enough t. t.marks e.0 e.1 k h.0)) c.find.result c.find.ensures
