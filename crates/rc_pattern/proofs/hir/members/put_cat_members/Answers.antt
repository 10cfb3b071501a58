use Rattle.std.proofs.Common.{List, ◌++◌, map, sym, ap, ◌∙◌}
use Rattle.std.proofs.lemmas.List.{map-append}
use Rattle.std.proofs.lemmas.Result.{on_ok_weaker}
use Rattle.rc_pattern.specs.Re.{Re}
use Rattle.rc_pattern.specs.Meaning.{meaning, kind_meaning, cat_members}
use Rattle.rc_pattern.proofs.FoldLemmas.{meaning_of_hir, kind_Concat}
use Rattle.rc_pattern.proofs.JoinLemmas.{node_alone, members_of_cat}
use Rattle.rc_pattern.specs.Kinds.{all_have_plain_nodes}
use Rattle.rc_pattern.specs.declared.hir.HirKind.TheVariants as HirKind
use Rattle.rc_pattern.proofs.PlainNodeLemmas.{plain_append, plain_node_of, plain_members}
use Rattle.rc_pattern.proofs.hir.members.put_cat_members.Goals as goal

pub returns-in_ok-append-in-Concat-clause-meaning : goal.returns-in_ok-append-in-Concat-clause-meaning
returns-in_ok-append-in-Concat-clause-meaning c =
    let old = map meaning c.args.members.now.items in
    let subs = c.in-Concat.subs in
    let is = meaning_of_hir c.args.sub ∙ ap kind_meaning (sym c.into_kind-kind.ensures ∙ c.in-Concat.is) ∙ kind_Concat subs in
    ap (map meaning) c.in_ok-append-in-Concat.ensures.items ∙ map-append meaning c.args.members.now.items subs.items
    ∙ ap (λ (xs : List Re). old ++ xs) (sym (ap cat_members is ∙ members_of_cat (map meaning subs.items)))

pub returns-in_default-clause-meaning : goal.returns-in_default-clause-meaning
returns-in_default-clause-meaning c =
    let old = map meaning c.args.members.now.items in
    let is = meaning_of_hir c.args.sub ∙ ap kind_meaning (sym c.into_kind-kind.ensures) in
    let alone = node_alone c.into_kind-kind.result c.in_default.not-Empty c.in_default.not-Concat in
    on_ok_weaker c.put.result (λ e. e ∙ ap (λ (xs : List Re). old ++ xs) (sym (ap cat_members is ∙ alone))) c.put.ensures.meaning

pub returns-in_ok-append-in-Concat-clause-kind : goal.returns-in_ok-append-in-Concat-clause-kind
returns-in_ok-append-in-Concat-clause-kind c =
    let subs = c.in-Concat.subs in
    λ old sub.
    ap all_have_plain_nodes c.in_ok-append-in-Concat.ensures.items
    ∙ plain_append c.args.members.now.items subs.items old
    (plain_members subs (plain_node_of c.args.sub (HirKind.Concat subs) (sym c.into_kind-kind.ensures ∙ c.in-Concat.is) sub))

pub returns-in_default-clause-kind : goal.returns-in_default-clause-kind
returns-in_default-clause-kind c =
    on_ok_weaker c.put.result (λ e old sub. e old (plain_node_of c.args.sub c.into_kind-kind.result (sym c.into_kind-kind.ensures) sub)) c.put.ensures.kind
