use Rattle.std.proofs.Common.{IsTrue}
use Rattle.rc_walks.proofs.CutLemmas.{first_is_one}
use Rattle.rc_walks.proofs.first_walks_are_one.Goals as goal

pub returns : goal.returns
returns c = λ ways ends passed from v w a b. first_is_one ways (λ n. IsTrue (ends n)) passed from v w a b
