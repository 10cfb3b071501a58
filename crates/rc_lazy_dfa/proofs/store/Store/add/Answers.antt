use Rattle.std.proofs.Common.{◌≡◌, ◌≤◌, ◌+◌, ◌-◌, ◌++◌, ◌∙◌, List, ℕ, length, replicate, take, ap, refl, arith}
use Rattle.std.proofs.lemmas.List.{take_all}
use Rattle.rc_determinize.specs.Places.{state_of}
use Rattle.rc_lazy_dfa.specs.Cells.{unknown}
use Rattle.rc_lazy_dfa.specs.Stores.{weight_of}
use Rattle.rc_lazy_dfa.proofs.WriteLemmas.{held_grown}
use Rattle.rc_lazy_dfa.proofs.store.Store.add.Goals as goal

resized : (xs ys zs : List ℕ) (n len width w : ℕ) → zs ≡ take (len + width) ys ++ replicate (len + width - n) unknown → ys ≡ xs → n ≡ length xs → len ≡ length xs →
    width ≡ w → zs ≡ xs ++ replicate w unknown
resized xs ys zs n len width w e same n_is len_is w_is =
    let all : length ys ≤ len + width = let l = ap length same in omega (arith, l, len_is) in
    let rest : len + width - n ≡ w = omega (arith, n_is, len_is, w_is) in
    e ∙ ap (λ k. take (len + width) ys ++ replicate k unknown) rest ∙ ap (λ l. l ++ replicate w unknown) (take_all (len + width) ys all ∙ same)

pub returns-clause-held : goal.returns-clause-held
returns-clause-held g c =
    let h = c.requires.0 in
    let given = c.requires.1 in
    let s = c.args.self.now in
    let t = state_of c.args.state.now in
    let len = c.try_reserve.new.self.ok.0 in
    held_grown g.f s _ t h given.0 given.1.0 (record {
      states = c.in_ok-add.ensures.added;
      cells = resized s.cells.items c.try_reserve.new.self.items c.resize.new.self.items c.try_reserve.new.self.len c.len-row.result s.width g.f.width
          c.in_ok-resize.ensures.items c.in_ok-try_reserve.ensures.items (len ∙ ap length c.in_ok-try_reserve.ensures.items)
          (c.len-row.ensures ∙ s.cells.ok.0) h.width;
      starts = refl;
      width = refl;
      capacity = refl;
      used = ap (λ k. s.used + k) (c.weight.ensures ∙ ap (λ w. weight_of w t) h.width);
    })
