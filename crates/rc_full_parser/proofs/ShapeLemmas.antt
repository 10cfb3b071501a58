-- The definitions of the reader of marks at a text of a known form.
use Rattle.std.proofs.Common.{◌≡◌, ℕ, ◌<◌, [], ◌∷◌, None, true, false, length, encode_utf8_all, refl, ap, arith}
use Rattle.rc_tokens.specs.Text.{Characters, is_empty}
use Rattle.rc_full_parser.specs.declared.marks.MarkSettings.{MarkSettings}
use Rattle.rc_full_parser.specs.Marked.{read_mark, mark_at}

pub mark_is : (s : MarkSettings) (t : Characters) (c : ℕ) (rest : Characters) → t ≡ c ∷ rest → read_mark s t ≡ mark_at s c rest
mark_is s t c rest e = ap (read_mark s) e

pub mark_none : (s : MarkSettings) (t : Characters) → t ≡ [] → read_mark s t ≡ None
mark_none s t e = ap (read_mark s) e

pub none_empty : (t : Characters) → length t ≡ 0 → is_empty t ≡ true
none_empty [] h = refl
none_empty (c ∷ t) h = absurd (omega (arith, h))

pub some_full : (t : Characters) → 0 < length t → is_empty t ≡ false
some_full [] h = absurd (omega (arith, h))
some_full (c ∷ t) h = refl

pub encoded_none : (t : Characters) → t ≡ [] → encode_utf8_all t ≡ []
encoded_none t e = ap encode_utf8_all e
