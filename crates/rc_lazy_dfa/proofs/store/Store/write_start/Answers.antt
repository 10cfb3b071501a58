use Rattle.std.proofs.Common.{◌+◌, ◌*◌, set, sym, subst}
use Rattle.rc_lazy_dfa.specs.Stores.{AreStarts}
use Rattle.rc_lazy_dfa.proofs.WriteLemmas.{starts_written}
use Rattle.rc_lazy_dfa.proofs.store.Store.write_start.Goals as goal

pub returns-clause-held : goal.returns-clause-held
returns-clause-held g c =
    let h = c.requires.0 in
    let s = c.args.self.now in record {
      frame = h.frame;
      width = h.width;
      within = h.within;
      cells = h.cells;
      starts = subst (λ w. AreStarts g.f s.states (set s.starts.items (c.args.mode * w + c.args.column) c.args.cell)) (sym h.width)
          (starts_written g.f s.states s.starts.items c.args.mode c.args.column c.args.cell h.frame h.starts c.requires.1);
      used = h.used;
      light = h.light;
      roomy = h.roomy;
      fits = h.fits;
    }
