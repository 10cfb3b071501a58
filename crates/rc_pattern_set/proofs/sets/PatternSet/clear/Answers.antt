use Rattle.std.proofs.Common.{◌≡◌, false, replicate, length, sym, rules}
use Rattle.rc_pattern_set.proofs.SetLemmas.{no_members, none_in}
use Rattle.rc_pattern_set.proofs.sets.PatternSet.clear.Goals as goal

pub invariant_of-self : goal.invariant_of-self
invariant_of-self c =
    let e : c.fill.new.self.items ≡ replicate (length c.self.inside.marks.items) false = search rules in
    rw e (sym (no_members 0 (length c.self.inside.marks.items)), λ p h. absurd (none_in (length c.self.inside.marks.items) p h))
