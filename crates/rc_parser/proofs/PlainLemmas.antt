-- A text without special characters is read as its bytes.
use Rattle.std.proofs.Common.{◌≡◌, ℕ, ◌<◌, Bool, true, false, List, [], ◌∷◌, ◌++◌, Some, length, map, refl, ap, sym, ◌∙◌, arith, append_assoc, append-nil, encode_utf8_all, nat_le, if◌then◌else◌}
use Rattle.std.proofs.lemmas.Str.{encodes-append, length-le-encodes}
use Rattle.std.specs.List.{flat_map}
use Rattle.rc_pattern.specs.Re.{Re, literal}
use Rattle.rc_pattern.specs.Meaning.{cat_members, joins, joined, cat_of, literal_of, concat_of, alternation_of}
use Rattle.rc_tokens.specs.Text.{Characters, each}
use Rattle.rc_tokens.specs.Marks.{character, AreMarks}
use Rattle.rc_tokens.proofs.StepLemmas.{and_parts}
use Rattle.rc_parser.specs.Settings.{default_settings, first_flags}
use Rattle.rc_parser.specs.Grammar.{Body, ends, piece, marks, Level, begin, whole, reads, Reads}
use Rattle.rc_parser.specs.Laws.{is_ordinary}

-- the bytes of one character
abbrev spelled : ℕ → Re
spelled c = literal_of (encode_utf8_all (c ∷ []))

abbrev body_of : Characters → Body
body_of [] = ends
body_of (c ∷ t) = piece (character c) [] (body_of t)

written : (t : Characters) → AreMarks (marks (body_of t)) t
written [] = refl
written (c ∷ t) = (t, refl, refl, written t)

abbrev with_items : List Re → Level → Level
with_items res l = record l { items = record { res = l.items.res ++ res; deepest = 0 } }

-- the items of a level that has no depth yet
read : (t : Characters) (res : List Re) → each is_ordinary t ≡ true →
    reads default_settings (record (begin (first_flags default_settings) 0 []) { items = record { res = res; deepest = 0 } }) (body_of t)
    ≡ Some (record (begin (first_flags default_settings) 0 []) { items = record { res = res ++ map spelled t; deepest = 0 } })
read [] res h = ap (λ x. Some (record (begin (first_flags default_settings) 0 []) { items = record { res = x; deepest = 0 } })) (sym (append-nil res))
read (c ∷ t) res h =
    let (ok, more) = and_parts (is_ordinary c) (each is_ordinary t) h in
    rw ok (read t (res ++ spelled c ∷ []) more
    ∙ ap (λ x. Some (record (begin (first_flags default_settings) 0 []) { items = record { res = x; deepest = 0 } })) (append_assoc res (spelled c ∷ []) (map spelled t)))

some_bytes : (c : ℕ) → 0 < length (encode_utf8_all (c ∷ []))
some_bytes c = let h = length-le-encodes (c ∷ []) in omega (arith, h)

is_literal : (bs : List ℕ) → 0 < length bs → literal_of bs ≡ literal bs
is_literal [] h = absurd (omega (arith, h))
is_literal (b ∷ bs) h = refl

spelled_is : (c : ℕ) → spelled c ≡ literal (encode_utf8_all (c ∷ []))
spelled_is c = is_literal (encode_utf8_all (c ∷ [])) (some_bytes c)

members_are : (t : Characters) → flat_map cat_members (map spelled t) ≡ map (λ c. literal (encode_utf8_all (c ∷ []))) t
members_are [] = refl
members_are (c ∷ t) = ap (λ x. cat_members x ++ flat_map cat_members (map spelled t)) (spelled_is c) ∙ ap (λ x. literal (encode_utf8_all (c ∷ [])) ∷ x) (members_are t)

joined_is : (c : ℕ) (t : Characters) → joined (map (λ c. literal (encode_utf8_all (c ∷ []))) (c ∷ t)) ≡ literal (encode_utf8_all (c ∷ t)) ∷ []
joined_is c [] = refl
joined_is c (d ∷ t) = ap (joins (literal (encode_utf8_all (c ∷ [])))) (joined_is d t) ∙ ap (λ x. literal x ∷ []) (sym (encodes-append (c ∷ []) (d ∷ t)))

many_bytes : (c : ℕ) (t : Characters) → 0 < length (encode_utf8_all (c ∷ t))
many_bytes c t = let h = length-le-encodes (c ∷ t) in omega (arith, h)

concat_is : (t : Characters) → concat_of (map spelled t) ≡ literal_of (encode_utf8_all t)
concat_is [] = refl
concat_is (c ∷ t) = ap (λ x. cat_of (joined x)) (members_are (c ∷ t)) ∙ ap cat_of (joined_is c t) ∙ sym (is_literal (encode_utf8_all (c ∷ t)) (many_bytes c t))

alternation_is : (bs : List ℕ) → alternation_of (literal_of bs ∷ []) ≡ literal_of bs
alternation_is [] = refl
alternation_is (b ∷ bs) = refl

abbrev ending_level : Characters → Level
ending_level t = record (begin (first_flags default_settings) 0 []) { items = record { res = map spelled t; deepest = 0 } }

abbrev depth_of : Characters → ℕ
depth_of t = if nat_le (length (map spelled t)) 1 then 0 else 1

part_of : (t : Characters) → whole default_settings (ending_level t) ≡ Some (record { re = alternation_of (concat_of (map spelled t) ∷ []); depth = depth_of t })
part_of t = go (nat_le (length (map spelled t)) 1) refl
  where
    go : (b : Bool) → nat_le (length (map spelled t)) 1 ≡ b →
        whole default_settings (ending_level t) ≡ Some (record { re = alternation_of (concat_of (map spelled t) ∷ []); depth = if b then 0 else 1 })
    go true e = rw e refl
    go false e = rw e refl

pub reads_plain : (t : Characters) → each is_ordinary t ≡ true → Reads default_settings t (literal_of (encode_utf8_all t))
reads_plain t h = record {
  body = body_of t;
  is_written = written t;
  end = ending_level t;
  is_read = read t [] h;
  depth = depth_of t;
  is_whole = part_of t ∙ ap (λ x. Some (record { re = x; depth = depth_of t })) (ap (λ x. alternation_of (x ∷ [])) (concat_is t) ∙ alternation_is (encode_utf8_all t));
}
