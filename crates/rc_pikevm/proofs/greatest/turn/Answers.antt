use Rattle.std.proofs.Common.{ℕ, ◌+◌, ◌-◌, length, sym, subst, arith, ⊎_elim, ap, ◌∙◌}
use Rattle.std.proofs.lemmas.Bool.{cases_lt}
use Rattle.rc_pikevm.specs.Threads.{ThreadList}
use Rattle.rc_pikevm.specs.Near.{seen_from}
use Rattle.rc_pikevm.specs.Spread.{IsOrdered, starting}
use Rattle.rc_pikevm.proofs.TurnLemmas.{inside_by, lined_next, ready_for, from_earlier}
use Rattle.rc_pikevm.proofs.SpreadMoveLemmas.{turned_over, ordered_wider}
use Rattle.rc_pikevm.proofs.SpreadStepLemmas.{setting_later}
use Rattle.rc_pikevm.proofs.SpreadPassLemmas.{counted_more, from_none}
use Rattle.rc_pikevm.proofs.greatest.turn.Goals as goal

pub advance-requires : goal.advance-requires
advance-requires g c = (
  c.requires.0,
  (
    ready_for c.args.spot.now c.args.scratch.now.next.threads c.args.scratch.now.next.entered c.clear.new.self c.requires.1.1.0 c.clear.ensures.threads
        c.clear.ensures.entered c.args.scratch.now.alike.0 c.requires.1.0,
    (
      c.requires.1.1.1.0,
      (
        c.requires.1.1.0.width_is,
        ap (λ (l : ThreadList). l.width) c.clear.ensures.threads ∙ sym c.args.scratch.now.alike.2 ∙ c.requires.1.1.0.width_is,
      ),
    ),
  ),
)

pub finish-requires-clause-inside : goal.finish-requires-clause-inside
finish-requires-clause-inside g c = inside_by c.advance.ensures.stepped.sound

pub returns-clause-seeks : goal.returns-clause-seeks
returns-clause-seeks g c o x =
    let s = seen_from c.args.spot.now g.text in
    let at : ℕ = c.args.spot.now.at in
    let last : ℕ = c.args.spot.now.course.last in
    c.advance.ensures.seeks o
    (turned_over s at c.advance.new.growth.threads.items c.advance.new.growth.entered.items c.advance.new.best o (starting (at + 1) last)
    (setting_later s at (at + 1) (last + 1 - (at + 1)) (omega arith)) (rw c.finish.ensures.threads at x))

pub returns-clause-lined : goal.returns-clause-lined
returns-clause-lined g c =
    lined_next c.args.scratch.now.next.threads c.requires.0.setting.bound c.finish.ensures.threads c.clear.ensures.threads c.args.scratch.now.alike c.requires.1.1.0 c.advance.ensures.stepped
    c.finish.ensures.some

pub returns-clause-ordered : goal.returns-clause-ordered
returns-clause-ordered g c =
    subst (λ (l : ThreadList). IsOrdered (c.args.spot.now.at + 1) l.items) (sym c.finish.ensures.threads)
    (ordered_wider c.args.spot.now.at (c.args.spot.now.at + 1) c.advance.new.growth.threads.items (omega arith) c.advance.ensures.ordered)

pub returns-clause-counted : goal.returns-clause-counted
returns-clause-counted g c =
    let k : ℕ = c.finish.new.self.insertions in
    let at : ℕ = c.args.spot.now.at in
    c.advance.ensures.counted k (omega (arith, c.finish.ensures.counted))
    (⊎_elim (λ none. from_none (at + 1 - k) c.args.scratch.now.curr.items none)
    (λ some. from_earlier (at + 1 - k) (at - c.args.scratch.now.insertions) c.args.scratch.now.curr.items
    (⊎_elim (λ l. let t = c.finish.ensures.some l in omega (arith, t))
    (λ le. omega (arith, le, some, c.finish.ensures.counted)) (cases_lt 0 (length c.advance.new.growth.threads.items)))
    c.requires.1.1.0.begun) c.advance.ensures.some)
    (counted_more c.args.scratch.now.insertions k c.args.best.now (omega (arith, c.finish.ensures.counted)) c.requires.1.1.1.1.0)
