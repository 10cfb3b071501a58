use Rattle.rc_strategy.proofs.engines.Engines.guard.Goals as goal

pub returns-in-Some-needs : goal.returns-in-Some-needs
returns-in-Some-needs c =
    let e = c.args.self.now in
    record {
      guard = e.needed c.in-Some-needs.needs c.in-Some-needs.is;
      longest = e.measured.required c.in-Some-needs.needs c.in-Some-needs.is;
    }
