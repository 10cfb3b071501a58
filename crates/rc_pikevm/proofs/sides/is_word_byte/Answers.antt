use Rattle.std.proofs.Common.{◌≡◌, map, get_or, refl, ap, ◌∙◌, arith, false}
use Rattle.std.proofs.lemmas.List.FromFn.{get_or-map-range_with_len}
use Rattle.std.specs.List.{range_with_len}
use Rattle.rc_program.specs.Looks.{is_word_byte}
use Rattle.rc_pikevm.specs.declared.sides.TheConstants.{WORDS}
use Rattle.rc_pikevm.proofs.sides.is_word_byte.Goals as goal

words_are : WORDS ≡ map is_word_byte (range_with_len 0 256)
words_are = refl

pub returns : goal.returns
returns c =
    ap (λ flags. get_or flags c.args.byte false) words_are
    ∙ get_or-map-range_with_len is_word_byte 0 256 c.args.byte c.args.byte false (omega arith) (omega arith)
