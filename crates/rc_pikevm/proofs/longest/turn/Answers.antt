use Rattle.std.proofs.Common.{◌≡◌, ℕ, zero, suc, ◌+◌, ◌-◌, List, [], ◌∷◌, ◌++◌, length, map, take, drop, refl, sym, ap, subst, ◌∙◌, arith, ⊎_elim, true}
use Rattle.rc_pikevm.specs.Threads.{ThreadList}
use Rattle.rc_pikevm.specs.Near.{seen_from}
use Rattle.rc_pikevm.specs.Passing.{pending, IsCounted}
use Rattle.rc_pikevm.specs.Races.{Races, starts_to}
use Rattle.rc_pikevm.proofs.StartLemmas.{waiting_past}
use Rattle.rc_pikevm.proofs.TurnLemmas.{inside_by, lined_next, ready_for, from_earlier}
use Rattle.rc_pikevm.proofs.SpreadPassLemmas.{counted_more}
use Rattle.rc_pikevm.proofs.RacePassLemmas.{raced_turns}
use Rattle.rc_pikevm.proofs.longest.turn.Goals as goal

whole : {X : Type 0} (xs ys : List X) (n : ℕ) → length xs ≡ n → take n (xs ++ ys) ≡ xs
whole [] ys zero e = refl
whole [] ys (suc n) e = absurd (omega (arith, e))
whole (x ∷ xs) ys zero e = absurd (omega (arith, e))
whole (x ∷ xs) ys (suc n) e = ap (λ l. x ∷ l) (whole xs ys n (omega (arith, e)))

pub advance-requires : goal.advance-requires
advance-requires g c = (
  c.requires.0,
  (
    ready_for c.args.spot.now c.args.scratch.now.next.threads c.args.scratch.now.next.entered c.clear.new.self c.requires.1.1.0 c.clear.ensures.threads
        c.clear.ensures.entered c.args.scratch.now.alike.0 c.requires.1.0,
    (
      c.args.scratch.now.alike.2 ∙ sym (ap (λ (l : ThreadList). l.width) c.clear.ensures.threads),
      ap length c.deref_mut.ensures.value ∙ c.args.scratch.now.wide.0 ∙ sym (ap (λ (l : ThreadList). l.width) c.clear.ensures.threads),
    ),
  ),
)

pub finish-requires-clause-inside : goal.finish-requires-clause-inside
finish-requires-clause-inside g c = inside_by c.advance.ensures.stepped.sound

pub returns-clause-races : goal.returns-clause-races
returns-clause-races g c all x =
    let s = seen_from c.args.spot.now g.text in
    let at : ℕ = c.args.spot.now.at in
    let last : ℕ = c.args.spot.now.course.last in
    let wide : c.clear.new.self.threads.width ≡ c.args.scratch.now.next.threads.width = ap (λ (l : ThreadList). l.width) c.clear.ensures.threads in
    let found : c.finish.new.self.found.items ≡ c.advance.new.found =
    c.finish.ensures.found
    ∙ whole c.advance.new.found (drop (length c.advance.new.found) c.args.scratch.now.found.items) c.args.scratch.now.found.len
    (c.advance.auto.found ∙ c.deref_mut.ensures.len) in
    subst (λ f. Races s all (at + 1) [] [] (map pending c.finish.new.self.curr.items ++ starts_to c.args.scratch.now.next.threads.width (at + 1) last)
    c.advance.new.best f) (sym found)
    (subst (λ (l : ThreadList). Races s all (at + 1) [] [] (map pending l.items ++ starts_to c.args.scratch.now.next.threads.width (at + 1) last)
    c.advance.new.best c.advance.new.found) (sym c.finish.ensures.threads)
    (raced_turns s all at c.advance.new.growth.threads.items c.advance.new.growth.entered.items c.advance.new.best c.advance.new.found
    (starts_to c.args.scratch.now.next.threads.width (at + 1) last) (waiting_past true c.args.scratch.now.next.threads.width at last)
    (subst (λ w. Races s all at c.advance.new.growth.threads.items c.advance.new.growth.entered.items (starts_to w (at + 1) last)
    c.advance.new.best c.advance.new.found) wide
    (c.advance.ensures.races all
    (subst (λ w. Races s all at [] [] (map pending c.args.scratch.now.curr.items ++ starts_to w at last) c.args.best.now c.deref_mut.result.now) (sym wide)
    (subst (λ f. Races s all at [] [] (map pending c.args.scratch.now.curr.items ++ starts_to c.args.scratch.now.next.threads.width at last) c.args.best.now f)
    (sym c.deref_mut.ensures.value) x))))))

pub returns-clause-lined : goal.returns-clause-lined
returns-clause-lined g c =
    lined_next c.args.scratch.now.next.threads c.requires.0.setting.bound c.finish.ensures.threads c.clear.ensures.threads c.args.scratch.now.alike c.requires.1.1.0 c.advance.ensures.stepped
    c.finish.ensures.some

pub returns-clause-counted : goal.returns-clause-counted
returns-clause-counted g c =
    let k : ℕ = c.finish.new.self.insertions in
    let at : ℕ = c.args.spot.now.at in
    let more : IsCounted k c.args.best.now =
    counted_more c.args.scratch.now.insertions k c.args.best.now (omega (arith, c.finish.ensures.counted)) c.requires.1.1.1.0 in
    ⊎_elim (λ e. subst (IsCounted k) (sym e) more)
    (λ some. c.advance.ensures.counted k (omega (arith, c.finish.ensures.counted))
    (from_earlier (at + 1 - k) (at - c.args.scratch.now.insertions) c.args.scratch.now.curr.items
    (omega (arith, some, c.finish.ensures.counted)) c.requires.1.1.0.begun) more)
    c.advance.ensures.still
