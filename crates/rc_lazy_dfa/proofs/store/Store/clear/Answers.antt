use Rattle.std.proofs.Common.{◌+◌, ◌*◌, ◌∙◌, replicate, ap}
use Rattle.rc_lazy_dfa.specs.Cells.{unknown}
use Rattle.rc_lazy_dfa.proofs.MakeLemmas.{blank_held}
use Rattle.rc_lazy_dfa.proofs.store.Store.clear.Goals as goal

pub returns-clause-held : goal.returns-clause-held
returns-clause-held g c =
    let f = g.f in
    let h = c.requires in
    let size = c.args.self.now.starts.ok.0 ∙ h.starts.size in
    let len = c.len.ensures ∙ c.fill.ensures.len ∙ size in
    blank_held f _ h.frame (record {
      states = c.clear.ensures;
      cells = c.clear-2.ensures.items;
      starts = c.fill.ensures.items (λ y h. h) ∙ ap (λ n. replicate n unknown) size;
      width = h.width;
      used = ap (λ w. 24 * w + 8 * c.len.result + 96) h.width ∙ ap (λ n. 24 * f.width + 8 * n + 96) len;
    }) h.roomy h.fits
