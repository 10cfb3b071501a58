-- What was put into a sink stands in the writer that it gives back.
use Rattle.std.proofs.Common.{◌≡◌, ◌∙◌, ℕ, List, ◌++◌, Option, Some, None}
use Rattle.std.specs.Prelude.{IfSome}
use Rattle.std.specs.Io.KnownBytes.{Appends, Keeps}

pub appends_kept : (a b c : Option (List ℕ)) (bs : List ℕ) → Appends a b bs → Keeps b c → Appends a c bs
appends_kept None b c bs p q = tt
appends_kept (Some xs) None c bs p q = absurd p
appends_kept (Some xs) (Some ys) None bs p q = absurd q
appends_kept (Some xs) (Some ys) (Some zs) bs p q = q ∙ p

-- what holds of known bytes still does when weakened
pub IfSome-map : {X : Type 0} {P Q : X → Type 0} (o : Option X) → ((x : X) → P x → Q x) → IfSome o P → IfSome o Q
IfSome-map None f p = tt
IfSome-map (Some x) f p = f x p
