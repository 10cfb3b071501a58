use Rattle.std.proofs.Common.{sym, ap, ◌∙◌, []}
use Rattle.std.proofs.lemmas.List.{get_or-map}
use Rattle.rc_determinize.proofs.backward.edges_into.Goals as goal

pub returns : goal.returns
returns c = ap (λ v. v.items) c.index.ensures ∙ sym (get_or-map (λ v. v.items) c.args.reversed.now.into.items c.args.place c.index.result.now [] c.requires)
