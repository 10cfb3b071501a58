-- Between bytes of ASCII the assertions of Unicode's words say what those of ASCII's words do.
use Rattle.std.proofs.Common.{◌≡◌, ℕ, ◌-◌, ◌<◌, List, [], ◌∷◌, length, drop, Some, None, false, IsTrue, nat_lt, slice_index, slice_index_or, sym, subst, refl, arith}
use Rattle.std.proofs.lemmas.Bool.{lt-ltb, ltb-true}
use Rattle.std.proofs.lemmas.Option.{none-some, same_Some}
use Rattle.rc_program.specs.Scalars.{scalar_at, whole_scalar, scalar_of_last}
use Rattle.rc_program.specs.Looks.{Side, nothing, stands, side_before, is_word_byte, is_word_scalar, is_ascii_word, is_unicode_word, is_broken}
use Rattle.rc_program.proofs.WordLemmas.{is_word_scalar-ascii}
use Rattle.rc_pikevm.specs.Plain.{IsPlain}

pub plain_word : (side : Side) → IsPlain side → is_unicode_word side ≡ is_ascii_word side
plain_word nothing p = refl
plain_word (stands b None) p = absurd (none-some b p.1)
plain_word (stands b (Some c)) p =
    subst (λ x. is_word_scalar x ≡ is_word_byte b) (sym (same_Some c b p.1)) (is_word_scalar-ascii b p.0)

pub plain_whole : (side : Side) → IsPlain side → is_broken side ≡ false
plain_whole nothing p = refl
plain_whole (stands b None) p = absurd (none-some b p.1)
plain_whole (stands b (Some c)) p = refl

drop_last : (b : ℕ) (bs : List ℕ) → drop (length bs) (b ∷ bs) ≡ slice_index (b ∷ bs) (length bs) ∷ []
drop_last b [] = refl
drop_last b (c ∷ bs) = drop_last c bs

pub plain_before : (bs : List ℕ) → IsTrue (nat_lt (slice_index_or bs (length bs - 1) 0) 128) → IsPlain (side_before bs)
plain_before [] h = tt
plain_before (b ∷ bs) h =
    let x = slice_index (b ∷ bs) (length bs) in
    let last : length (b ∷ bs) - 1 ≡ length bs = omega arith in
    let l : x < 128 = ltb-true x 128 (subst (λ n. IsTrue (nat_lt (slice_index_or (b ∷ bs) n 0) 128)) last h) in
    let one : scalar_of_last 1 (b ∷ bs) ≡ Some x =
    subst (λ (n : ℕ). whole_scalar (drop n (b ∷ bs)) (scalar_at (drop n (b ∷ bs))) ≡ Some x) (omega arith)
    (subst (λ xs. whole_scalar xs (scalar_at xs) ≡ Some x) (sym (drop_last b bs)) (rw (lt-ltb x 128 l) refl)) in
    (l, rw one refl)
