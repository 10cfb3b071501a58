use Rattle.std.proofs.Common.{◌+◌, sym, subst}
use Rattle.rc_tokens.specs.ClassView.{pairs}
use Rattle.rc_class_sets.specs.Sets.{AreRangesOf}
use Rattle.rc_full_lists.specs.Levels.{level_set, with_listed, IsLevel}
use Rattle.rc_full_lists.proofs.LevelLemmas.{closes_to}
use Rattle.rc_full_lists.proofs.levels.Levels.close.Goals as goal

pub returns : goal.returns
returns c ls are =
    let p = level_set ls.inner in
    closes_to c.args.unicode ls.inner ls.outer c.args.text c.args.self.outer.items c.in-Some.level
    (record { inner = c.in_ok-inner.inner; outer = c.pop.new.self }) c.in-Some.ensures.items are.outer
    (λ m is. subst (λ n. IsLevel c.args.unicode c.in_ok-inner.inner (with_listed p (n + 1) m)) are.inner.deepest
    (c.in_ok-inner.ensures c.args.unicode m p is (subst (λ rs. AreRangesOf c.args.unicode p (pairs rs)) (sym c.deref.ensures.value) (c.in_ok-class.ensures ls.inner are.inner))))
