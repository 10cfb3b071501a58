use Rattle.std.proofs.Common.{◌≡◌, ◌<◌, ◌∙◌, ◌++◌, ap, ap₂, arith, get_or, get_or-take, length, length-take-le, sym}
use Rattle.std.proofs.lemmas.Bool.{eqb-true}
use Rattle.std.proofs.lemmas.List.{take-append-drop}
use Rattle.grep_lines.specs.Pages.{IsWhole}
use Rattle.grep_lines.proofs.PartLemmas.{selected_parts}
use Rattle.grep_lines.proofs.parts.split_at_line.Goals as goal
use Rattle.grep_lines.proofs.parts.split_at_line.Goals.{in-Some, in-None}

pub returns-clause-selected : goal.returns-clause-selected
returns-clause-selected c = λ picks.
    let text = c.args.text.now in
    let front = c.split_at.result.0.now in
    let end = c.match-memrchr.end in
    let split = c.split_at.ensures in
    let Goal : Type 0 = IsWhole c.args.terminator front in
    let whole : Goal =
    elim c.match-memrchr.branch as (λ _. Goal) [
      | in-Some w ↦ λ k last.
          let found = w.in-Some.ensures in
          let sized = length-take-le c.args.place text c.requires in
          let within : w.in-Some.last < c.args.place = omega (arith, found.0.high, sized) in
          let size : length front ≡ end = omega (arith, ap length split.front, length-take-le end text (omega (arith, w.end-is, within, c.requires))) in
          ap (λ xs. get_or xs k 0) split.front ∙ get_or-take end text k 0 (omega (arith, last, size))
          ∙ ap (λ i. get_or text i 0) (omega (arith, last, size, w.end-is))
          ∙ sym (get_or-take c.args.place text w.in-Some.last 0 within) ∙ eqb-true _ c.args.terminator found.1
      | in-None w ↦ λ k last. absurd (omega (arith, last, ap length split.front, w.end-is, length-take-le end text (omega (arith, w.end-is))))
    ] in
    selected_parts c.args.terminator picks text front c.split_at.result.1.now (sym (take-append-drop end text) ∙ ap₂ ◌++◌ (sym split.front) (sym split.back)) whole
