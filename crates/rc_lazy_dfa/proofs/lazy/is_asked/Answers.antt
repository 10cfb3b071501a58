use Rattle.std.proofs.Common.{◌≡◌, ◌<◌, ◌↔◌, ℕ, IsTrue, nat_lt, length, sym, subst, arith}
use Rattle.std.proofs.lemmas.Bool.Decides.{nat_tests}
use Rattle.rc_text.specs.declared.types.Anchored.{Anchored}
use Rattle.rc_text.specs.declared.types.Anchored.TheVariants.{Pattern}
use Rattle.rc_dfa.specs.Automata.{machine_of}
use Rattle.rc_dfa.specs.Machine.{Machine, IsAsked}
use Rattle.rc_lazy_dfa.proofs.lazy.is_asked.Goals as goal

test : (n k : ℕ) → IsTrue (nat_lt n k) ↔ (n < k)
test n k = (λ e. grind (arith, nat_tests), λ e. grind (arith, nat_tests))

asked_by : (m : Machine) (a : Anchored) (p n k : ℕ) → a ≡ Pattern p → n ≡ p → k ≡ length m.entries →
    (IsTrue (nat_lt n k) → IsAsked m a) × (IsAsked m a → IsTrue (nat_lt n k))
asked_by m a p n k is same len = (
  λ t. subst (IsAsked m) (sym is) (let lt = (test n k).0 t in omega (arith, lt, same, len)),
  λ h. (test n k).1 (let lt : p < length m.entries = subst (IsAsked m) is h in omega (arith, lt, same, len)),
)

pub returns-in-Pattern : goal.returns-in-Pattern
returns-in-Pattern c = λ d.
    asked_by (machine_of c.args.automaton.now d) c.args.anchored.now c.in-Pattern.pattern c.as_usize.result c.pattern_len.result c.in-Pattern.is c.as_usize.ensures.value
    (c.pattern_len.ensures d)
