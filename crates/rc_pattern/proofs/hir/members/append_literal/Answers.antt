use Rattle.std.proofs.Common.{◌≡◌, List, ◌++◌, ◌∷◌, [], map, sym, ap, ◌∙◌, arith}
use Rattle.std.proofs.lemmas.List.{map-append, nil_from_length}
use Rattle.std.proofs.lemmas.Result.{on_ok_weaker}
use Rattle.rc_pattern.specs.Re.{Re, literal}
use Rattle.rc_pattern.specs.Meaning.{meaning, kind_meaning}
use Rattle.rc_pattern.specs.declared.hir.Hir.{Hir}
use Rattle.rc_pattern.specs.declared.hir.HirKind.TheVariants as HirKind
use Rattle.rc_pattern.proofs.FoldLemmas.{meaning_of_hir, kind_Literal}
use Rattle.rc_pattern.proofs.JoinLemmas.{node_other, join_first, join_literals, join_behind_other}
use Rattle.rc_pattern.specs.Kinds.{all_have_plain_nodes}
use Rattle.rc_pattern.proofs.PlainNodeLemmas.{plain_split, plain_one, plain_node_of, plain_Literal}
use Rattle.rc_pattern.proofs.hir.members.append_literal.Goals as goal

pub returns-in_default-clause-meaning : goal.returns-in_default-clause-meaning
returns-in_default-clause-meaning c =
    let none : c.pop.new.self.items ≡ [] = nil_from_length c.pop.new.self.items (omega (arith, c.in_default.ensures.cases, c.pop.new.self.ok.0)) in
    let old : c.args.members.now.items ≡ [] = c.in_default.ensures.items ∙ ap (λ (xs : List Hir). xs ++ []) none in
    on_ok_weaker c.put.result
    (λ e xs f. e ∙ ap (λ (ys : List Hir). map meaning ys ++ kind_meaning (HirKind.Literal c.args.bytes) ∷ []) none
    ∙ ap (λ (m : Re). m ∷ []) (kind_Literal c.args.bytes)
    ∙ join_first xs (literal c.args.bytes.items) (sym (ap (map meaning) old) ∙ f))
    c.put.ensures.meaning

pub returns-in_ok-append-in-Literal-clause-meaning : goal.returns-in_ok-append-in-Literal-clause-meaning
returns-in_ok-append-in-Literal-clause-meaning c =
    let rest = map meaning c.pop.new.self.items in
    let last = c.in-Some.last in
    let before = c.in-Literal.before.items in
    let old : map meaning c.args.members.now.items ≡ rest ++ literal before ∷ [] =
    ap (map meaning) c.in-Some.ensures.items ∙ map-append meaning c.pop.new.self.items (last ∷ [])
    ∙ ap (λ (m : Re). rest ++ m ∷ []) (meaning_of_hir last ∙ ap kind_meaning (sym c.into_kind-kind.ensures ∙ c.in-Literal.is) ∙ kind_Literal c.in-Literal.before) in
    on_ok_weaker c.put-in-Literal.result
    (λ e xs f. e ∙ ap (λ (m : Re). rest ++ m ∷ []) (kind_Literal c.append.new.self ∙ ap literal c.in_ok-append-in-Literal.ensures.items)
    ∙ join_literals xs rest before c.args.bytes.items (sym old ∙ f))
    c.put-in-Literal.ensures.meaning

pub returns-in_ok-put-in_default-kind-clause-meaning : goal.returns-in_ok-put-in_default-kind-clause-meaning
returns-in_ok-put-in_default-kind-clause-meaning c =
    let rest = map meaning c.pop.new.self.items in
    let last = c.in-Some.last in
    let bytes = c.args.bytes in
    let kind = c.into_kind-kind.result in
    let old : map meaning c.args.members.now.items ≡ rest ++ kind_meaning kind ∷ [] =
    ap (map meaning) c.in-Some.ensures.items ∙ map-append meaning c.pop.new.self.items (last ∷ [])
    ∙ ap (λ (m : Re). rest ++ m ∷ []) (meaning_of_hir last ∙ ap kind_meaning (sym c.into_kind-kind.ensures)) in
    on_ok_weaker c.put-in_default-kind-2.result
    (λ e xs f. e ∙ ap (λ (ys : List Re). ys ++ kind_meaning (HirKind.Literal bytes) ∷ []) c.in_ok-put-in_default-kind.ensures.meaning
    ∙ ap (λ (m : Re). (rest ++ kind_meaning kind ∷ []) ++ m ∷ []) (kind_Literal bytes)
    ∙ join_behind_other xs rest (kind_meaning kind) (literal bytes.items) (node_other kind c.in_default-kind.not-Literal) (sym old ∙ f))
    c.put-in_default-kind-2.ensures.meaning

pub returns-in_ok-append-in-Literal-clause-kind : goal.returns-in_ok-append-in-Literal-clause-kind
returns-in_ok-append-in-Literal-clause-kind c =
    let rest = c.pop.new.self.items in
    let last = c.in-Some.last in
    on_ok_weaker c.put-in-Literal.result
    (λ e old. e (plain_split rest (last ∷ []) (ap all_have_plain_nodes (sym c.in-Some.ensures.items) ∙ old)).0 (plain_Literal c.append.new.self))
    c.put-in-Literal.ensures.kind

pub returns-in_ok-put-in_default-kind-clause-kind : goal.returns-in_ok-put-in_default-kind-clause-kind
returns-in_ok-put-in_default-kind-clause-kind c =
    let rest = c.pop.new.self.items in
    let last = c.in-Some.last in
    on_ok_weaker c.put-in_default-kind-2.result
    (λ e old.
    let p = plain_split rest (last ∷ []) (ap all_have_plain_nodes (sym c.in-Some.ensures.items) ∙ old) in
    e (c.in_ok-put-in_default-kind.ensures.kind p.0 (plain_node_of last c.into_kind-kind.result (sym c.into_kind-kind.ensures) (plain_one last p.1))) (plain_Literal c.args.bytes))
    c.put-in_default-kind-2.ensures.kind
