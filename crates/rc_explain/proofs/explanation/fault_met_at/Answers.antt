use Rattle.std.proofs.Common.{◌≡◌, ◌∙◌, ap, arith, chars, rules, subst}
use Rattle.std.proofs.lemmas.Str.{chars_from_encodes}
use Rattle.rc_parser.specs.Settings.{settings_of}
use Rattle.rc_explain.specs.Shown.{Shows, byte_of}
use Rattle.rc_explain.proofs.Bytes.{told_within}
use Rattle.rc_explain.proofs.Shapes.{shown_ordered}
use Rattle.rc_explain.proofs.explanation.fault_met_at.Goals as goal

pub returns-clause-place : goal.returns-clause-place
returns-clause-place c =
    let t = chars c.args.text.now in
    let f = c.in_ok-found.found in
    let all : c.in_ok-characters.characters.items ≡ t = search (rules, chars_from_encodes) in
    let from = c.byte_after-start.ensures ∙ ap (λ l. byte_of l f.start) (c.deref-3.ensures.value ∙ all) in
    let to = c.byte_after-end.ensures ∙ ap (λ l. byte_of l c.max.result) (c.deref-4.ensures.value ∙ all) in
    let is = c.max.ensures in
    told_within c.args.text.now f.start c.max.result _ c.utf8.text (omega (arith, is)) from to

pub returns-clause-shown : goal.returns-clause-shown
returns-clause-shown c =
    let t = chars c.args.text.now in
    let f = c.in_ok-found.found in
    let all : c.in_ok-characters.characters.items ≡ t = search (rules, chars_from_encodes) in
    let from = c.byte_after-start.ensures ∙ ap (λ l. byte_of l f.start) (c.deref-3.ensures.value ∙ all) in
    let to = c.byte_after-end.ensures ∙ ap (λ l. byte_of l c.max.result) (c.deref-4.ensures.value ∙ all) in
    let g = (settings_of c.args.config.now).grammar in
    let shown = subst (λ l. Shows g f.kind l f.start f.end) (c.deref-2.ensures.value ∙ all) c.in_ok-found.ensures in
    record { from = f.start; to = c.max.result; starts = from; ends = to; shown = shown_ordered g f.kind t f.start f.end c.max.result c.max.ensures shown }
