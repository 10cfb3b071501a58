-- Literals of patterns, collected one pattern after another.
use Rattle.std.proofs.Common.{◌≡◌, ◌∙◌, ℕ, ◌+◌, List, [], ◌∷◌, ◌++◌, length, replicate, Option, Some, None, ap, ap₂, sym, refl, append_assoc}
use Rattle.rc_pattern.specs.Re.{Re}
use Rattle.rc_literals.specs.Answers.{Owned}
use Rattle.rc_literals.specs.Literals.{before_owned, exact_needles, literals_of, owned_from}
use Rattle.rc_literals.proofs.ExactLemmas.{are_listed, each_owned, exact_usable}
use Rattle.rc_needles.specs.Tables.{IsUsable}

-- those that were collected, and then others
abbrev pub behind : Owned → Option Owned → Option Owned
behind o None = None
behind o (Some x) = Some (record { needles = o.needles ++ x.needles; owners = o.owners ++ x.owners })

-- one more pattern's
abbrev pub with_pattern : Owned → List (List ℕ) → ℕ → Owned
with_pattern o ws p = record { needles = o.needles ++ ws; owners = o.owners ++ replicate (length ws) p }

behind_more : (o : Owned) (ws : List (List ℕ)) (p : ℕ) (rest : Option Owned) →
    behind o (before_owned p (Some ws) rest) ≡ behind (with_pattern o ws p) rest
behind_more o ws p None = refl
behind_more o ws p (Some x) =
    let m : List (List ℕ) → List ℕ → Option Owned = λ a b. Some (record { needles = a; owners = b }) in
    ap₂ m (sym (append_assoc o.needles ws x.needles)) (sym (append_assoc o.owners (replicate (length ws) p) x.owners))

-- the next pattern is collected
pub behind_next : (o : Owned) (h : Re) (hs : List Re) (ws : List (List ℕ)) (p : ℕ) → literals_of h ≡ Some ws →
    behind o (owned_from p (h ∷ hs)) ≡ behind (with_pattern o ws p) (owned_from (p + 1) hs)
behind_next o h hs ws p e = ap (λ a. behind o (before_owned p a (owned_from (p + 1) hs))) e ∙ behind_more o ws p (owned_from (p + 1) hs)

-- the next pattern is another
pub behind_none : (o : Owned) (h : Re) (hs : List Re) (p : ℕ) → literals_of h ≡ None → behind o (owned_from p (h ∷ hs)) ≡ None
behind_none o h hs p e = ap (λ a. behind o (before_owned p a (owned_from (p + 1) hs))) e

-- A prefilter that is made of them.

-- there is none
pub no_exact : (hs : List Re) (o : Owned) → owned_from 0 hs ≡ Some o → ¬ IsUsable o.needles → None ≡ exact_needles hs
no_exact [] o e never = refl
no_exact (h ∷ hs) o e never = absurd (never (exact_usable (h ∷ hs) o e))

-- each of its needles has an owner
pub made_each : (hs : List Re) (o : Owned) (needles : List (List ℕ)) → owned_from 0 hs ≡ Some o → needles ≡ o.needles → length o.owners ≡ length needles
made_each hs o needles e same = each_owned 0 hs o (are_listed 0 hs o e) ∙ ap length (sym same)
