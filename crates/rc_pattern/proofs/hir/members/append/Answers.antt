use Rattle.std.proofs.Common.{◌++◌, ◌∷◌, [], map, sym, ap, ◌∙◌}
use Rattle.std.proofs.lemmas.Result.{on_ok_weaker}
use Rattle.rc_pattern.specs.Re.{Re}
use Rattle.rc_pattern.specs.Meaning.{meaning, kind_meaning, joined}
use Rattle.rc_pattern.proofs.FoldLemmas.{meaning_of_hir}
use Rattle.rc_pattern.proofs.JoinLemmas.{node_other, join_other}
use Rattle.rc_pattern.proofs.PlainNodeLemmas.{plain_node_of}
use Rattle.rc_pattern.proofs.hir.members.append.Goals as goal

pub returns-in_default-clause-meaning : goal.returns-in_default-clause-meaning
returns-in_default-clause-meaning c =
    let old = map meaning c.args.members.now.items in
    let kind = c.into_kind-kind.result in
    on_ok_weaker c.put.result
    (λ e xs f. e ∙ join_other xs old (kind_meaning kind) (node_other kind c.in_default.not-Literal) f
    ∙ ap (λ (m : Re). joined (xs ++ m ∷ [])) (sym (meaning_of_hir c.args.member ∙ ap kind_meaning (sym c.into_kind-kind.ensures))))
    c.put.ensures.meaning

pub returns-in_default-clause-kind : goal.returns-in_default-clause-kind
returns-in_default-clause-kind c =
    on_ok_weaker c.put.result (λ e old member. e old (plain_node_of c.args.member c.into_kind-kind.result (sym c.into_kind-kind.ensures) member)) c.put.ensures.kind
