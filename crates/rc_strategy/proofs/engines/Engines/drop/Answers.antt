use Rattle.rc_strategy.proofs.engines.Engines.drop.Goals as goal

pub invariant_of-self-2 : goal.invariant_of-self-2
invariant_of-self-2 c =
    let engines = c.args.self in
    record {
      fit = engines.fit;
      lazy_fit = engines.lazy_fit;
      symbols_fit = engines.symbols_fit;
      read = engines.read;
      lazy_read = engines.lazy_read;
      symbols_read = engines.symbols_read;
      single = engines.single;
      numbered = engines.numbered;
      programmed = engines.programmed;
      bound = engines.bound;
      needed = engines.needed;
      worded = engines.worded;
      measured = engines.measured;
      looking = engines.looking;
      free = engines.free;
      anchored = engines.anchored;
      tried = engines.tried;
    }
