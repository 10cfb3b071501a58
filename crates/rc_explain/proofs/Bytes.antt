-- Where the characters of a text begin, in bytes.
use Rattle.std.proofs.Common.{◌≡◌, ◌∙◌, ◌+◌, ◌<◌, ◌≤◌, ℕ, zero, suc, Bool, true, false, ◌&&◌, List, [], ◌∷◌, ◌++◌, ap, arith, drop, get_or, length, length-append, min, refl, subst, sym, take, ⊎_elim}
use Rattle.std.specs.Prelude.{IsCharBoundary, IsUtf8, chars, encode_utf8_all}
use Rattle.std.specs.Char.{len_utf8}
use Rattle.std.proofs.Math.Seq.{take-suc}
use Rattle.std.proofs.Math.Utf8.{scalar, scalars}
use Rattle.std.proofs.lemmas.Bool.{cases_lt}
use Rattle.std.proofs.lemmas.List.{take-append-drop, take-take, take_all}
use Rattle.std.proofs.lemmas.Str.{IsCharBoundary-at_seam, encodes-append, encodes-chars, length-encode, scalars-chars}
use Rattle.rc_tokens.specs.Text.{Characters}
use Rattle.rc_text.specs.declared.types.Span.{Span}
use Rattle.rc_explain.specs.Explained.{IsWithin}
use Rattle.rc_explain.specs.Shown.{byte_of}

-- one character more
pub byte_more : (t : Characters) (i d : ℕ) → i < length t → byte_of t (i + 1) ≡ byte_of t i + len_utf8 (get_or t i d)
byte_more t i d inside =
    let next : i + 1 ≡ suc i = omega arith in
    let c = get_or t i d in
    let one : length (encode_utf8_all (c ∷ [])) ≡ len_utf8 c = let e = length-append (Rattle.std.proofs.Math.Utf8.encode c) [] in omega (arith, e, length-encode c) in
    ap (byte_of t) next ∙ ap (λ l. length (encode_utf8_all l)) (take-suc t i d inside) ∙ ap length (encodes-append (take i t) (c ∷ []))
    ∙ length-append (encode_utf8_all (take i t)) (encode_utf8_all (c ∷ [])) ∙ ap (λ k. byte_of t i + k) one

whole : (t : Characters) (i : ℕ) → encode_utf8_all t ≡ encode_utf8_all (take i t) ++ encode_utf8_all (drop i t)
whole t i = ap encode_utf8_all (sym (take-append-drop i t)) ∙ encodes-append (take i t) (drop i t)

pub byte_within : (t : Characters) (i : ℕ) → byte_of t i ≤ length (encode_utf8_all t)
byte_within t i =
    let e = ap length (whole t i) ∙ length-append (encode_utf8_all (take i t)) (encode_utf8_all (drop i t)) in omega (arith, e)

-- no number past the last character tells another byte
pub byte_clamped : (t : Characters) (i n : ℕ) → i ≡ min (length t) n → byte_of t i ≡ byte_of t n
byte_clamped t i n is =
    ⊎_elim (λ l. ap (byte_of t) (omega (arith, l, is)))
    (λ ge. let all : length t ≤ i = omega (arith, ge, is) in ap (λ l. length (encode_utf8_all l)) (take_all i t all ∙ sym (take_all n t ge)))
    (cases_lt n (length t))

pub byte_rises : (t : Characters) (i j : ℕ) → i ≤ j → byte_of t i ≤ byte_of t j
byte_rises t i j le =
    let within = byte_within (take j t) i in
    let same : byte_of (take j t) i ≡ byte_of t i = ap (λ l. length (encode_utf8_all l)) (take-take i j t le) in omega (arith, within, same)

and_right : (a b : Bool) → (a && b) ≡ true → b ≡ true
and_right true b e = e
and_right false true e = refl
and_right false false e = e

scalars_dropped : (n : ℕ) (t : Characters) → scalars t ≡ true → scalars (drop n t) ≡ true
scalars_dropped zero t h = h
scalars_dropped (suc n) [] h = h
scalars_dropped (suc n) (c ∷ t) h = scalars_dropped n t (and_right (scalar c) (scalars t) h)

-- a character begins there, or the text ends
pub byte_boundary : (text : List ℕ) (i : ℕ) → IsUtf8 text → IsCharBoundary text (byte_of (chars text) i)
byte_boundary text i read =
    let t = chars text in
    IsCharBoundary-at_seam text (encode_utf8_all (take i t)) (encode_utf8_all (drop i t)) (sym (encodes-chars text read) ∙ whole t i)
    (drop i t, (scalars_dropped i t (scalars-chars text read), refl))

-- a span from one character to a later one splits none
pub told_within : (text : List ℕ) (s m : ℕ) (span : Span) → IsUtf8 text → s ≤ m → span.start ≡ byte_of (chars text) s → span.end ≡ byte_of (chars text) m →
    IsWithin span text
told_within text s m span read le from to =
    let rises = byte_rises (chars text) s m le in
    record {
      in_order = omega (arith, rises, from, to);
      starts = subst (IsCharBoundary text) (sym from) (byte_boundary text s read);
      ends = subst (IsCharBoundary text) (sym to) (byte_boundary text m read);
    }
