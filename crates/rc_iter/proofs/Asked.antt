-- What calls of a finder always do, they do now and from then on.
use Rattle.std.proofs.Common.{[], ◌∷◌}
use Rattle.std.specs.Fn.{Mut, Called, AlwaysReturns}

module _ {F X R : Type 0} (g : Mut F X R) (P : X → R → Type 0) (f : F) (a : X) (r : R) (f' : F) (h : AlwaysReturns g P f) (c : Called g f a r f') where
  pub now : P a r
  now = (h.at (a ∷ []) r f' c).0

  pub onward : AlwaysReturns g P f'
  onward = record { at = λ xs. (h.at (a ∷ xs) r f' c).1 }
