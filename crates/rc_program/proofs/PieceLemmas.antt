-- The pieces between matches.
use Rattle.std.proofs.Common.{◌≡◌, ◌∙◌, ℕ, zero, suc, ◌+◌, ◌<◌, ◌≤◌, List, [], ◌∷◌, length, take, min, Option, Some, None, ap, refl, arith}
use Rattle.std.proofs.lemmas.List.{length-take, take_all}
use Rattle.rc_text.specs.Found.{Found}
use Rattle.rc_program.specs.Answer.{Search}
use Rattle.rc_program.specs.Matches.{begin_of, end_of, answer_from, next_match, matches_left, AreInOrder, pieces_from, pieces_left, in_turn, AreJoined, PiecesLaw}
use Rattle.rc_program.proofs.MatchLemmas.{IsAfterLast, left_some, left_none, left_few}

-- there is one piece more than matches
pub length-pieces_from : (from hi : ℕ) (ms : List Found) → length (pieces_from from hi ms) ≡ length ms + 1
length-pieces_from from hi [] = omega arith
length-pieces_from from hi (m ∷ ms) = let h = length-pieces_from m.end hi ms in omega (arith, h)

-- a limit cuts their number
pub length-pieces_left : (n from hi : ℕ) (ms : List Found) → length (pieces_left n from hi ms) ≡ min n (length ms + 1)
length-pieces_left zero from hi ms = omega arith
length-pieces_left (suc n) from hi ms =
    let h = length-pieces_from from hi (take n ms) in let l = length-take n ms in omega (arith, h, l)

-- the matches begin at `from` or later
abbrev BeginsFrom : ℕ → List Found → Type 0
BeginsFrom from [] = Unit {0}
BeginsFrom from (m ∷ ms) = from ≤ m.start

pieces_cover : (from hi : ℕ) (ms : List Found) → from ≤ hi → BeginsFrom from ms → AreInOrder begin_of end_of hi ms →
    AreJoined from hi (in_turn (pieces_from from hi ms) ms)
pieces_cover from hi [] le low order = (refl, le, refl)
pieces_cover from hi (m ∷ []) le low order = (refl, low, (refl, order.0, pieces_cover m.end hi [] order.1 tt tt))
pieces_cover from hi (m ∷ n ∷ ms) le low order =
    (refl, low, (refl, order.0, pieces_cover m.end hi (n ∷ ms) (ends_below hi m n ms order) order.1 order.3))
  where
    ends_below : (hi : ℕ) (m n : Found) (ms : List Found) → AreInOrder begin_of end_of hi (m ∷ n ∷ ms) → m.end ≤ hi
    ends_below hi m n [] order = let a = order.3 in omega (arith, order.2, a.1)
    ends_below hi m n (l ∷ ms) order = let a = ends_below hi n l ms order.3 in omega (arith, order.2, a)

begins_anywhere : (ms : List Found) → BeginsFrom 0 ms
begins_anywhere [] = tt
begins_anywhere (m ∷ ms) = omega arith

-- the first of matches in order are in order
pub take_in_order : (n hi : ℕ) (ms : List Found) → AreInOrder begin_of end_of hi ms → AreInOrder begin_of end_of hi (take n ms)
take_in_order zero hi ms order = tt
take_in_order (suc n) hi [] order = tt
take_in_order (suc zero) hi (m ∷ []) order = order
take_in_order (suc (suc n)) hi (m ∷ []) order = order
take_in_order (suc zero) hi (m ∷ l ∷ ms) order = (order.0, below hi m l ms order)
  where
    below : (hi : ℕ) (m l : Found) (ms : List Found) → AreInOrder begin_of end_of hi (m ∷ l ∷ ms) → m.end ≤ hi
    below hi m l [] order = let a = order.3 in omega (arith, order.2, a.1)
    below hi m l (k ∷ ms) order = let a = below hi l k ms order.3 in omega (arith, order.2, a)
take_in_order (suc (suc n)) hi (m ∷ l ∷ ms) order = (order.0, order.1, order.2, take_in_order (suc n) hi (l ∷ ms) order.3)

pub pieces_law : PiecesLaw
pieces_law = record {
  count = λ hi ms. length-pieces_from 0 hi ms;
  cover = λ hi ms order. pieces_cover 0 hi ms (omega arith) (begins_anywhere ms) order;
  limited_count = λ n hi ms. length-pieces_left n 0 hi ms;
  limited_cover = λ n hi ms order.
      pieces_cover 0 hi (take n ms) (omega arith) (begins_anywhere (take n ms)) (take_in_order n hi ms order);
  unlimited = unlimited;
}
  where
    unlimited : (n hi : ℕ) (ms : List Found) → length ms < n → pieces_left n 0 hi ms ≡ pieces_from 0 hi ms
    unlimited zero hi ms l = absurd (omega arith)
    unlimited (suc n) hi ms l = ap (pieces_from 0 hi) (take_all n ms (omega arith))

-- For iterators: the first piece that is left, and the others.

-- up to the next match
pub pieces_some : (s : Search) (from k : ℕ) (last : Option ℕ) (m : Found) → IsAfterLast k last →
    next_match begin_of end_of (answer_from s) k last ≡ Some m →
    pieces_from from s.hi (matches_left s k last)
    ≡ record { start = from; end = m.start } ∷ pieces_from m.end s.hi (matches_left s m.end (Some m.end))
pieces_some s from k last m h e = ap (pieces_from from s.hi) (left_some s k last m h e)

-- the last one
pub pieces_none : (s : Search) (from k : ℕ) (last : Option ℕ) → IsAfterLast k last →
    next_match begin_of end_of (answer_from s) k last ≡ None →
    pieces_from from s.hi (matches_left s k last) ≡ record { start = from; end = s.hi } ∷ []
pieces_none s from k last h e = ap (pieces_from from s.hi) (left_none s k last h e)

-- under a limit of two or more, up to the next match
pub pieces_left_some : (s : Search) (n from k : ℕ) (last : Option ℕ) (m : Found) → IsAfterLast k last →
    next_match begin_of end_of (answer_from s) k last ≡ Some m →
    pieces_left (suc (suc n)) from s.hi (matches_left s k last)
    ≡ record { start = from; end = m.start } ∷ pieces_left (suc n) m.end s.hi (matches_left s m.end (Some m.end))
pieces_left_some s n from k last m h e = ap (pieces_left (suc (suc n)) from s.hi) (left_some s k last m h e)

-- with no match left, the last one
pub pieces_left_none : (s : Search) (n from k : ℕ) (last : Option ℕ) → IsAfterLast k last →
    next_match begin_of end_of (answer_from s) k last ≡ None →
    pieces_left (suc n) from s.hi (matches_left s k last) ≡ record { start = from; end = s.hi } ∷ []
pieces_left_none s n from k last h e =
    ap (λ ms. pieces_from from s.hi (take n ms)) (left_none s k last h e) ∙ ap (pieces_from from s.hi) (take_all n [] (omega arith))

-- under a limit of one all that is left is one piece
pub pieces_left_one : (from hi : ℕ) (ms : List Found) → pieces_left 1 from hi ms ≡ record { start = from; end = hi } ∷ []
pieces_left_one from hi ms = refl

few_of : (s : Search) (k : ℕ) (last : Option ℕ) → IsAfterLast k last → length (matches_left s k last) ≤ s.hi + 1
few_of s k None h = let f = left_few s k None h in omega (arith, f)
few_of s k (Some last) h = let f = left_few s k (Some last) h in omega (arith, f.0)

-- there are at most two more pieces than bytes
pub pieces_few : (s : Search) (from k : ℕ) (last : Option ℕ) → IsAfterLast k last →
    length (pieces_from from s.hi (matches_left s k last)) ≤ s.hi + 2
pieces_few s from k last h =
    let f = few_of s k last h in let l = length-pieces_from from s.hi (matches_left s k last) in omega (arith, f, l)
