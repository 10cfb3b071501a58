use Rattle.std.proofs.Common.{◌≡◌, sym, subst}
use Rattle.rc_tokens.specs.Text.{Characters}
use Rattle.rc_parser.specs.Pieces.{Subpattern}
use Rattle.rc_full_parser.specs.Marks.{brackets}
use Rattle.rc_full_parser.specs.Pieces.{IsPiece}
use Rattle.rc_full_parser.specs.Machine.{State, appended, Moves}
use Rattle.rc_full_parser.specs.View.{mark_of, settings_at, state_of}
use Rattle.rc_full_parser.proofs.AtomLemmas.{refused, gives_as}
use Rattle.rc_full_parser.proofs.reader.Reader.accept.Goals as goal

pub returns-in_err-put-in-Stands-clause-value : goal.returns-in_err-put-in-Stands-clause-value
returns-in_err-put-in-Stands-clause-value c =
    let s = settings_at c.args.self.now in
    let m = state_of c.args.self.now in
    refused c.from_residual-in_err-put-in-Stands.result c.in_err-put-in-Stands.field-0.0 (λ (r : State × Characters). Moves s (mark_of c.args.mark) m c.args.text.now r.0 r.1) _
    ((n : State) → (q : Subpattern) × IsPiece s c.args.self.now.work.level.flags c.in-Stands.kind q × (appended q m ≡ n) → ⊥)
    c.from_residual-in_err-put-in-Stands.ensures.1 c.in_err-put-in-Stands.ensures.value
    (λ never r moves. let (q, is, same, e) = subst (λ k. Moves s (mark_of k) m c.args.text.now r.0 r.1) c.in-Stands.is moves in never r.0 (q, is, same))

pub returns-in-Brackets-clause-value : goal.returns-in-Brackets-clause-value
returns-in-Brackets-clause-value c =
    let s = settings_at c.args.self.now in
    let m = state_of c.args.self.now in
    gives_as c.put_list.result (λ (r : State × Characters). Moves s brackets m c.args.text.now r.0 r.1) (λ (r : State × Characters). Moves s (mark_of c.args.mark) m c.args.text.now r.0 r.1) _
    (λ r moves. subst (λ k. Moves s (mark_of k) m c.args.text.now r.0 r.1) (sym c.in-Brackets.is) moves)
    (λ r moves. subst (λ k. Moves s (mark_of k) m c.args.text.now r.0 r.1) c.in-Brackets.is moves) c.put_list.ensures.value
