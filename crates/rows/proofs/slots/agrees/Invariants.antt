use Rattle.rows.proofs.slots.agrees.Given as goal

abbrev pub invariant-loop-one : goal.invariant-loop-one
invariant-loop-one g l = g.E.Engine.IsCache l.engine l.cache
