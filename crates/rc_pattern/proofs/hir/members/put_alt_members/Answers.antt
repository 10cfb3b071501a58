use Rattle.std.proofs.Common.{List, ◌++◌, map, sym, ap, ◌∙◌}
use Rattle.std.proofs.lemmas.List.{map-append}
use Rattle.std.proofs.lemmas.Result.{on_ok_weaker}
use Rattle.rc_pattern.specs.Re.{Re}
use Rattle.rc_pattern.specs.Meaning.{meaning, kind_meaning, alt_members}
use Rattle.rc_pattern.proofs.FoldLemmas.{meaning_of_hir, kind_Alternation}
use Rattle.rc_pattern.proofs.JoinLemmas.{node_single, members_of_alt}
use Rattle.rc_pattern.specs.Kinds.{all_have_plain_nodes}
use Rattle.rc_pattern.specs.declared.hir.HirKind.TheVariants as HirKind
use Rattle.rc_pattern.proofs.PlainNodeLemmas.{plain_append, plain_node_of, plain_Alternation}
use Rattle.rc_pattern.proofs.hir.members.put_alt_members.Goals as goal

pub returns-in_ok-append-in-Alternation-clause-meaning : goal.returns-in_ok-append-in-Alternation-clause-meaning
returns-in_ok-append-in-Alternation-clause-meaning c =
    let old = map meaning c.args.members.now.items in
    let subs = c.in-Alternation.subs in
    let is = meaning_of_hir c.args.sub ∙ ap kind_meaning (sym c.into_kind-kind.ensures ∙ c.in-Alternation.is) ∙ kind_Alternation subs in
    ap (map meaning) c.in_ok-append-in-Alternation.ensures.items ∙ map-append meaning c.args.members.now.items subs.items
    ∙ ap (λ (xs : List Re). old ++ xs) (sym (ap alt_members is ∙ members_of_alt (map meaning subs.items)))

pub returns-in_default-clause-meaning : goal.returns-in_default-clause-meaning
returns-in_default-clause-meaning c =
    let old = map meaning c.args.members.now.items in
    let is = meaning_of_hir c.args.sub ∙ ap kind_meaning (sym c.into_kind-kind.ensures) in
    let single = node_single c.into_kind-kind.result c.in_default.not-Alternation in
    on_ok_weaker c.put.result (λ e. e ∙ ap (λ (xs : List Re). old ++ xs) (sym (ap alt_members is ∙ single))) c.put.ensures.meaning

pub returns-in_ok-append-in-Alternation-clause-kind : goal.returns-in_ok-append-in-Alternation-clause-kind
returns-in_ok-append-in-Alternation-clause-kind c =
    let subs = c.in-Alternation.subs in
    λ old sub.
    ap all_have_plain_nodes c.in_ok-append-in-Alternation.ensures.items
    ∙ plain_append c.args.members.now.items subs.items old
    (sym (plain_Alternation subs) ∙ plain_node_of c.args.sub (HirKind.Alternation subs) (sym c.into_kind-kind.ensures ∙ c.in-Alternation.is) sub)

pub returns-in_default-clause-kind : goal.returns-in_default-clause-kind
returns-in_default-clause-kind c =
    on_ok_weaker c.put.result (λ e old sub. e old (plain_node_of c.args.sub c.into_kind-kind.result (sym c.into_kind-kind.ensures) sub)) c.put.ensures.kind
