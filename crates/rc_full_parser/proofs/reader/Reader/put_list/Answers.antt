use Rattle.std.proofs.Common.{◌≡◌, ◌⊎◌, subst}
use Rattle.rc_tokens.specs.Text.{Characters}
use Rattle.rc_tokens.specs.declared.refusal.Refusal.TheVariants.{Memory}
use Rattle.rc_parser.specs.Pieces.{Subpattern}
use Rattle.rc_full_parser.specs.Marks.{brackets}
use Rattle.rc_full_parser.specs.Grammar.{flags, list_settings}
use Rattle.rc_full_parser.specs.Machine.{State, place, Moves}
use Rattle.rc_full_parser.specs.View.{settings_at, state_of}
use Rattle.rc_full_parser.proofs.AtomLemmas.{refused, Listed}
use Rattle.rc_full_parser.proofs.reader.Reader.put_list.Goals as goal

pub returns-in_err-item-clause-value : goal.returns-in_err-item-clause-value
returns-in_err-item-clause-value c =
    let s = settings_at c.args.self.now in
    let m = state_of c.args.self.now in
    let text = c.args.text.now in
    let none =
    subst (λ o. (c.in_err-item.field-0.0 ≡ Memory) ⊎ ((r : Subpattern × Characters) → Listed s (flags (place m)) (record (list_settings s (place m)) { octal = o }) text r → ⊥))
    c.get_octal.ensures c.in_err-item.ensures in
    refused c.from_residual.result c.in_err-item.field-0.0 (λ (r : State × Characters). Moves s brackets m text r.0 r.1) _
    ((r : Subpattern × Characters) → Listed s (flags (place m)) (list_settings s (place m)) text r → ⊥)
    c.from_residual.ensures.1 none
    (λ never r (p, d, q, is, part, same). never (q, r.1) (p, d, is, part))
