use Rattle.std.proofs.Common.{◌∙◌, sym, eqb-true}
use Rattle.rc_lazy_dfa.proofs.SetLemmas.{full}
use Rattle.rc_lazy_dfa.proofs.which.is_full.Goals as goal

pub returns : goal.returns
returns c = λ t p lt. full c.args.set.now (sym c.len.ensures ∙ eqb-true c.len.result c.capacity.result t ∙ c.capacity.ensures) p lt
