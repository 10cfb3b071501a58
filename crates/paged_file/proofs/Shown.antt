-- Pages that are shown.
use Rattle.std.proofs.Common.{◌≡◌, ℕ, zero, suc, Bool, true, false, MatchBool, ◌+◌, ◌-◌, ◌<◌, ◌≤◌, ◌^◌, List, ap, arith, drop, length, length-drop, length-take, min, sym, take, ◌∙◌}
use Rattle.std.proofs.lemmas.List.{take_min}
use Rattle.rc_text.specs.Piece.{GoesBack, Shows}
use Rattle.paged_file.specs.Kept.{IsEnd, IsStart, Paged, Shown}

module _ (bytes chunk : List ℕ) (page_len offset : ℕ) (is : chunk ≡ take page_len (drop offset bytes)) where
  -- how long a page is
  pub length-page : length chunk ≡ min page_len (length bytes - offset)
  length-page = ap length is ∙ length-take page_len (drop offset bytes) ∙ ap (min page_len) (length-drop offset bytes)

  -- it is shown in the content
  pub page_shows : offset ≤ length bytes → (length chunk ≡ 0 → length bytes ≡ 0) → length bytes + 1 < 2 ^ 64 → Shows bytes offset chunk
  page_shows inside some small = record {
    small = small;
    within = omega (arith, length-page, inside);
    bytes = is ∙ sym (take_min page_len (drop offset bytes)) ∙ ap (λ n. take n (drop offset bytes)) (sym (ap length is ∙ length-take page_len (drop offset bytes)));
    some = some;
  }

-- the page behind a page, and the one before it
pub next_start : (page_len at : ℕ) → IsStart page_len at → IsStart page_len (at + page_len)
next_start page_len at (number, is) = (suc number, omega (arith, is))

pub prior_start : (page_len at : ℕ) → IsStart page_len at → 0 < at → IsStart page_len (at - page_len) × (page_len ≤ at)
prior_start page_len at (zero, is) some = absurd (omega (arith, is, some))
prior_start page_len at (suc number, is) some = ((number, omega (arith, is)), omega (arith, is))

-- What stays true of a cursor.
pub record IsLawful (v : Paged) : Type 0 where
  pub some : 0 < v.page_len
  pub start : IsStart v.page_len v.offset
  pub shows : Shows v.stored.bytes v.offset v.chunk

-- the page before the shown one ends where that begins
pub goes_back : (v w : Paged) (at : ℕ) → IsLawful v → at ≡ v.offset - v.page_len → 0 < v.offset
    → (b : Bool) → MatchBool b (Shown v at w) (IsEnd v at w) → GoesBack b v.offset v.chunk w.offset w.chunk
goes_back v w at law is some true shown =
    let prior = prior_start v.page_len v.offset law.start some in
    let size = length-page v.stored.bytes w.chunk v.page_len at shown.chunk in
    (some, omega (arith, is, prior.1, size, shown.offset, law.shows.within))
goes_back v w at law is some false shown =
    let prior = prior_start v.page_len v.offset law.start some in
    absurd (omega (arith, is, prior.1, shown.past, law.some, law.shows.within))
