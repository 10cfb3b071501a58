-- Pieces of a text, and searches that begin in one.
use Rattle.std.proofs.Common.{◌≡◌, ℕ, ◌+◌, ◌-◌, ◌<◌, ◌≤◌, false, List, length, take, drop, slice_range, subst, sym, ap, ◌∙◌, arith, length-drop}
use Rattle.std.proofs.lemmas.List.{take_all}
use Rattle.rc_text.specs.Text.{Searched, slice_end}
use Rattle.rc_dfa.specs.Inside.{IsPieceOf}
use Rattle.rc_table_search.specs.Ways.{IsAhead}
use Rattle.rc_table_search.specs.Views.{View}
use Rattle.rc_table_search.specs.Searches.{BeginsAt, BeginsInside}
use Rattle.rc_table_search.specs.declared.search.Request.{Request}
use Rattle.rc_table_search.proofs.ScalarLemmas.{later}

pub rest_of_piece : (seen : Searched) (bound start from : ℕ) (piece : List ℕ) → IsPieceOf seen bound start piece → start < from → from ≤ start + length piece →
    IsPieceOf seen bound from (take (length piece - (from - start)) (drop (from - start) piece))
rest_of_piece seen bound start from piece p low high =
    let k = from - start in
    let size = length-drop k piece in
    let here : start + k ≡ from = omega (arith, low) in
    let end : start + length piece ≡ from + length (drop k piece) = omega (arith, size, low, high) in
    let inside = p.low in
    let within = p.high in
    subst (IsPieceOf seen bound from) (sym (take_all (length piece - k) (drop k piece) (omega (arith, size)))) (record {
      is = ap (drop k) p.is ∙ sym (later seen.content start (start + length piece) k (omega (arith, high)))
          ∙ ap (λ i. slice_range seen.content i (start + length piece)) here ∙ ap (slice_range seen.content from) end;
      low = omega (arith, inside, low);
      high = omega (arith, end, within);
    })

-- a piece that ends at the bound or before lies ahead of a search forwards
pub piece_ahead : (seen : Searched) (bound start : ℕ) (piece : List ℕ) → IsPieceOf seen bound start piece → bound ≤ slice_end seen → IsAhead false seen bound start piece
piece_ahead seen bound start piece p within =
    let high = p.high in record {
      is = p.is;
      low = p.low;
      high = omega (arith, high, within);
      inside = within;
      within = high;
    }

-- where a search begins that does so in a piece
pub begins_inside : (C : Type 0) (v : View C) (c : C) (seen : Searched) (q : Request) (start cell : ℕ) (piece : List ℕ) → start < q.from → IsPieceOf seen q.end start piece →
    q.end ≤ slice_end seen → BeginsInside v c q.anchored piece (q.from - start) cell → BeginsAt v false seen c q.anchored q.from cell
begins_inside C v c seen q start cell piece low p within begins =
    let here : start + (q.from - start) ≡ q.from = omega (arith, low) in
    subst (λ i. BeginsAt v false seen c q.anchored i cell) here (begins seen q.end start p within)
