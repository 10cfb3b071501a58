-- How known bytes grow by steps, of which one may fail.
use Rattle.std.proofs.Common.{◌≡◌, ◌∙◌, ℕ, ◌+◌, ◌<◌, ◌≤◌, List, [], ◌++◌, length, Option, Some, None, Result, Ok, Err, ap, subst, sym, refl, arith, append-nil, append_assoc, max, slice_range}
use Rattle.std.specs.Result.{IsErr}
use Rattle.std.specs.Io.KnownBytes.{Appends, Keeps}
use Rattle.rc_text.proofs.Ranges.{slice_range-append}
use Rattle.regex_cursor.proofs.Grown.{Appends-trans}
use Rattle.regex_cursor.specs.Put.{AppendsBeginning, Puts}

pub Keeps-appends : (a b : Option (List ℕ)) → Keeps a b → Appends a b []
Keeps-appends None b k = tt
Keeps-appends (Some x) None k = k
Keeps-appends (Some x) (Some y) k = k ∙ sym (append-nil x)

-- what was appended whole is a beginning of what was to come
pub begun : (a b : Option (List ℕ)) (xs ys : List ℕ) → Appends a b xs → AppendsBeginning a b (xs ++ ys)
begun a b xs ys p = record { done = xs; rest = ys; split = refl; appended = p }

pub begun_none : (a b : Option (List ℕ)) (ys : List ℕ) → Keeps a b → AppendsBeginning a b ys
begun_none a b ys k = begun a b [] ys (Keeps-appends a b k)

-- and so is a beginning of it
pub begun_less : (a b : Option (List ℕ)) (xs ys : List ℕ) → AppendsBeginning a b xs → AppendsBeginning a b (xs ++ ys)
begun_less a b xs ys p = record {
  done = p.done;
  rest = p.rest ++ ys;
  split = ap (λ l. l ++ ys) p.split ∙ append_assoc p.done p.rest ys;
  appended = p.appended;
}

pub begun_more : (a b c : Option (List ℕ)) (xs ys : List ℕ) → Appends a b xs → AppendsBeginning b c ys → AppendsBeginning a c (xs ++ ys)
begun_more a b c xs ys p q = record {
  done = xs ++ q.done;
  rest = q.rest;
  split = ap (λ l. xs ++ l) q.split ∙ sym (append_assoc xs q.done q.rest);
  appended = Appends-trans a b c xs q.done p q.appended;
}

-- one step after another
pub puts_then : {T E : Type 0} (r : Result T E) (a b c : Option (List ℕ)) (xs ys : List ℕ) → Appends a b xs → Puts r b c ys → Puts r a c (xs ++ ys)
puts_then (Ok v) a b c xs ys p q = Appends-trans a b c xs ys p q
puts_then (Err e) a b c xs ys p q = begun_more a b c xs ys p q

pub puts_as : {T E : Type 0} (r : Result T E) (a b : Option (List ℕ)) (xs ys : List ℕ) → xs ≡ ys → Puts r a b xs → Puts r a b ys
puts_as r a b xs ys e p = subst (λ l. Puts r a b l) e p

-- after an error
pub err_puts : {T E : Type 0} (r : Result T E) (a b : Option (List ℕ)) (xs : List ℕ) → IsErr r → AppendsBeginning a b xs → Puts r a b xs
err_puts (Ok v) a b xs e p = cc
err_puts (Err e) a b xs is p = p

-- Ranges of a content.

-- a piece of the same content
same_piece : (content other piece : List ℕ) (from : ℕ) → other ≡ content → piece ≡ slice_range other from (from + length piece) →
    piece ≡ slice_range content from (from + length piece)
same_piece content other piece from o e = e ∙ ap (λ l. slice_range l from (from + length piece)) o

-- one piece more
pub range_more : (content other piece : List ℕ) (start from : ℕ) (a b c : Option (List ℕ)) → start ≤ from → other ≡ content →
    piece ≡ slice_range other from (from + length piece) → Appends a b (slice_range content start from) → Appends b c piece →
    Appends a c (slice_range content start (from + length piece))
range_more content other piece start from a b c low o e p q =
    subst (Appends a c)
    (ap (λ l. slice_range content start from ++ l) (same_piece content other piece from o e)
    ∙ slice_range-append content start from (from + length piece) low (omega arith))
    (Appends-trans a b c (slice_range content start from) piece p q)

-- a beginning of one
pub range_begun : (content other piece : List ℕ) (start from end : ℕ) (a b c : Option (List ℕ)) → start ≤ from → from < end → from + length piece ≤ max from end →
    other ≡ content → piece ≡ slice_range other from (from + length piece) → Appends a b (slice_range content start from) → AppendsBeginning b c piece →
    AppendsBeginning a c (slice_range content start end)
range_begun content other piece start from end a b c low some high o e p q =
    let upto = slice_range content start from in
    let after = slice_range content (from + length piece) end in
    let whole : (upto ++ piece) ++ after ≡ slice_range content start end =
    ap (λ l. (upto ++ l) ++ after) (same_piece content other piece from o e)
    ∙ ap (λ l. l ++ after) (slice_range-append content start from (from + length piece) low (omega arith))
    ∙ slice_range-append content start (from + length piece) end (omega arith) (omega arith) in
    subst (AppendsBeginning a c) whole (begun_less a c (upto ++ piece) after (begun_more a b c upto piece p q))
