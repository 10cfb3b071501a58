use Rattle.std.proofs.Common.{◌≡◌, None, sym, subst}
use Rattle.rc_pattern.specs.Meaning.{meaning}
use Rattle.rc_tokens.specs.ClassView.{pairs}
use Rattle.rc_parser.specs.Settings.{settings_of}
use Rattle.rc_parser.specs.Pieces.{set_re}
use Rattle.rc_parser.specs.View.{part}
use Rattle.rc_class_sets.specs.Sets.{AreRangesOf}
use Rattle.rc_full_parser.specs.declared.marks.Piece.TheVariants.{Set}
use Rattle.rc_full_parser.specs.Pieces.{folded_set, IsPiece, set}
use Rattle.rc_full_parser.proofs.AtomLemmas.{refused, is_class, no_set}
use Rattle.rc_full_parser.proofs.pieces.class.Goals as goal

pub returns-in_err-set : goal.returns-in_err-set
returns-in_err-set c =
    let s = settings_of c.args.config in
    let f = c.args.flags in
    let are = subst (λ xs. AreRangesOf f.unicode (folded_set s f c.args.item) (pairs xs)) (sym c.deref.ensures.value) c.in_ok-ranges.ensures in
    refused c.from_residual-in_err-set.result c.in_err-set.field-0.0 (IsPiece s f (Set c.args.item)) part (set_re s f (pairs c.deref.result.now) ≡ None)
    c.from_residual-in_err-set.ensures.1 c.in_err-set.ensures.reads (no_set s f c.args.item (pairs c.deref.result.now) are)

pub returns : goal.returns
returns c =
    let s = settings_of c.args.config in
    let f = c.args.flags in
    let p = folded_set s f c.args.item in
    let re = meaning c.in_ok-set.field-0 in
    let are = subst (λ xs. AreRangesOf f.unicode p (pairs xs)) (sym c.deref.ensures.value) c.in_ok-ranges.ensures in
    subst (IsPiece s f (Set c.args.item)) (sym c.leaf.ensures)
    (set c.args.item re (is_class s f p (pairs c.deref.result.now) re are c.in_ok-set.ensures.reads))
