use Rattle.std.proofs.Common.{refl}
use Rattle.rcsub.proofs.Standing.{stands_none}
use Rattle.rcsub.proofs.streamed.Streamed.new.Goals as goal

pub returns-clause-stands : goal.returns-clause-stands
returns-clause-stands c = λ items old. stands_none items _ old c.new-stream.ensures.fed refl refl
