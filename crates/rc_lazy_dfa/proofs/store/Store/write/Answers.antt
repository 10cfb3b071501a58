use Rattle.rc_lazy_dfa.proofs.WriteLemmas.{cells_written}
use Rattle.rc_lazy_dfa.proofs.store.Store.write.Goals as goal

pub returns-clause-held : goal.returns-clause-held
returns-clause-held g c =
    let h = c.requires.0 in record {
      frame = h.frame;
      width = h.width;
      within = h.within;
      cells = cells_written g.f c.args.self.now.states c.args.self.now.cells.items c.args.row c.args.column c.args.cell h.frame h.cells c.requires.1;
      starts = h.starts;
      used = h.used;
      light = h.light;
      roomy = h.roomy;
      fits = h.fits;
    }
