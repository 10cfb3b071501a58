-- Bytes that are read as texts, one after another.
use Rattle.std.proofs.Common.{◌≡◌, ◌∙◌, ◌+◌, ◌<◌, ℕ, suc, List, [], ◌∷◌, ◌++◌, ap, arith, get_or, length, subst, sym, take, ⊎_elim}
use Rattle.std.specs.Prelude.{IsUtf8}
use Rattle.std.specs.Borrow.{Bor}
use Rattle.std.specs.Option.{option_map_or}
use Rattle.std.proofs.Math.Seq.{take-suc}
use Rattle.std.proofs.lemmas.Bool.{cases_lt}
use Rattle.std.proofs.lemmas.List.{map-append}
use Rattle.std.proofs.lemmas.Option.{slice_get-get_or}
use Rattle.rc_text.specs.Joined.{chunk_at}
use Rattle.rc_build.specs.TextRefusals.{texts_of}
use Rattle.searcher.specs.Ranges.{IsBroken}

chunk_is : (ts : List (Bor (List ℕ))) (i : ℕ) (d : Bor (List ℕ)) → i < length ts → chunk_at ts i ≡ (get_or ts i d).now
chunk_is ts i d inside = ap (λ o. option_map_or (λ c. c.now) o []) (slice_get-get_or ts i d inside)

-- one text more
pub texts_more : (ts vs : List (Bor (List ℕ))) (i : ℕ) (d t : Bor (List ℕ)) → i < length ts → t.now ≡ (get_or ts i d).now →
    texts_of vs ≡ texts_of (take i ts) → texts_of (vs ++ t ∷ []) ≡ texts_of (take (i + 1) ts)
texts_more ts vs i d t inside is e =
    map-append (λ x. x.now) vs (t ∷ []) ∙ ap (λ x. texts_of vs ++ x ∷ []) is ∙ ap (λ l. l ++ (get_or ts i d).now ∷ []) e ∙ sym longer
  where
    one_more : i + 1 ≡ suc i
    one_more = omega arith

    longer : texts_of (take (i + 1) ts) ≡ texts_of (take i ts) ++ (get_or ts i d).now ∷ []
    longer = ap (λ n. texts_of (take n ts)) one_more ∙ ap texts_of (take-suc ts i d inside) ∙ map-append (λ x. x.now) (take i ts) (get_or ts i d ∷ [])

-- it is in UTF-8 too
pub read_more : (ts : List (Bor (List ℕ))) (i : ℕ) (d : Bor (List ℕ)) → i < length ts → ((k : ℕ) → k < i → IsUtf8 (chunk_at ts k)) →
    IsUtf8 (get_or ts i d).now → (k : ℕ) → k < i + 1 → IsUtf8 (chunk_at ts k)
read_more ts i d inside before here k below =
    ⊎_elim (λ l. before k l)
    (λ ge. let at : i ≡ k = omega (arith, ge, below) in subst (λ j. IsUtf8 (chunk_at ts j)) at (subst IsUtf8 (sym (chunk_is ts i d inside)) here))
    (cases_lt k i)

-- or it is the first that isn't
pub first_broken : (ts : List (Bor (List ℕ))) (i : ℕ) (d : Bor (List ℕ)) → i < length ts → ((k : ℕ) → k < i → IsUtf8 (chunk_at ts k)) →
    ¬ IsUtf8 (get_or ts i d).now → IsBroken ts i
first_broken ts i d inside before here = record {
  before = before;
  here = λ read. here (subst IsUtf8 (chunk_is ts i d inside) read);
}
