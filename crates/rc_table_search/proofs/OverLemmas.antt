-- Steps over the bytes of a piece, by cells that are known.
use Rattle.std.proofs.Common.{◌≡◌, ◌≢◌, ℕ, ◌+◌, ◌-◌, ◌<◌, ◌≤◌, Bool, true, false, List, length, Option, Some, slice_get, slice_range, refl, sym, subst, arith}
use Rattle.std.proofs.lemmas.Bool.{lt-leb}
use Rattle.rc_text.specs.Text.{Searched, slice_end}
use Rattle.rc_determinize.specs.States.{State, best_at}
use Rattle.rc_program.specs.Sought.{text_of}
use Rattle.rc_symbols.specs.Symbols.{IsSymbolAt}
use Rattle.rc_dfa.specs.Machine.{Machine}
use Rattle.rc_dfa.specs.Symbols.{symbol_of}
use Rattle.rc_dfa.specs.declared.symbols.Tagged.{Tagged}
use Rattle.rc_dfa.proofs.SideLemmas.{byte_of_piece}
use Rattle.rc_table_search.specs.Walks.{byte_at, dead, has_died, left_of, met, next_of, quit, row_of, skip}
use Rattle.rc_table_search.specs.Decodes.{Has, IsWhole, tag_in}
use Rattle.rc_table_search.specs.Ways.{IsBeside, IsInSlice, offset_of, span}
use Rattle.rc_table_search.specs.Views.{View, IsLawful, IsNoted, IsSame, LeadsTo}
use Rattle.rc_table_search.specs.Searches.{GoesAcross, GoesOver, IsAt, LeadsAt, Outset}
use Rattle.rc_table_search.specs.declared.search.Request.{Request}
use Rattle.rc_table_search.specs.declared.run.Stand.{Stand}
use Rattle.rc_table_search.specs.declared.scalars.Scalar.{Scalar}
use Rattle.rc_table_search.proofs.ScalarLemmas.{symbol_found}
use Rattle.rc_table_search.proofs.SpanLemmas.{left_on, next_here, place_next}
use Rattle.rc_table_search.proofs.SearchLemmas.{none_found, step_goes}

-- something goes on from there
alive_plain : (cell : ℕ) → cell < skip → has_died cell ≡ false
alive_plain cell lt = rw (lt-leb met cell (omega (arith, lt)), lt-leb dead cell (omega (arith, lt))) refl

pub row_plain : (C : Type 0) (v : View C) (c : C) (cell : ℕ) → (has_died cell ≡ false → v.IsRow c (row_of cell)) → cell < skip → v.IsRow c cell
row_plain C v c cell is lt = let same : row_of cell ≡ cell = omega (arith, lt) in subst (λ r. v.IsRow c r) same (is (alive_plain cell lt))

module _ (C : Type 0) (v : View C) (laws : IsLawful v) (backwards : Bool) (o : Outset C) (q : Request) (c : C) (at : ℕ) (stand : Stand) (cell : ℕ)
    (here : IsAt v backwards o q c at stand) (leads : cell ≢ skip → LeadsAt v backwards o.seen c c at stand.row cell) (left : 0 < span backwards at q.end) where
  goes : (noted : Option (ℕ × ℕ)) → cell ≢ skip → cell ≢ quit → has_died cell ≡ false →
      ((m : Machine) (t : State) (found : Option (ℕ × ℕ)) → LeadsTo (v.HasState c m) v.leaps cell t → IsNoted v m stand.noted found →
      IsNoted v m noted (best_at at t.matched found)) → IsAt v backwards o q c (next_of backwards at) (record { row = row_of cell; noted = noted })
  goes noted known ne alive notes =
      step_goes C v laws backwards o q c c at stand 0 cell here here.cache (laws.spends_nothing c 1) (leads known) (left_on backwards at q.end left) ne noted notes left alive

  pub goes_plain : cell < skip → IsAt v backwards o q c (next_of backwards at) (record { row = cell; noted = stand.noted })
  goes_plain lt =
      let same : row_of cell ≡ cell = omega (arith, lt) in
      subst (λ r. IsAt v backwards o q c (next_of backwards at) (record { row = r; noted = stand.noted })) same
      (goes stand.noted (λ e. omega (arith, e, lt)) (λ e. omega (arith, e, lt)) (alive_plain cell lt)
      (λ m t found to told. subst (λ k. IsNoted v m stand.noted (best_at at k found)) (sym (none_found (v.HasState c m) v.leaps cell t to (omega (arith, lt)))) told))

-- the byte that is read next of a piece stands in the content, and in the slice
pub beside_here : (backwards : Bool) (seen : Searched) (start place b : ℕ) (piece : List ℕ) → piece ≡ slice_range seen.content start (start + length piece) →
    place ≤ length piece → 0 < left_of backwards (length piece) place → b ≡ byte_at backwards piece place → IsBeside backwards seen.content (start + place) b
beside_here false seen start place b piece is le some e =
    subst (λ k. slice_get seen.content (start + place) ≡ Some k) (sym e) (byte_of_piece seen.content piece start place is (omega (arith, some)))
beside_here true seen start place b piece is le some e =
    let offset : start + (place - 1) ≡ start + place - 1 = omega (arith, some) in (
      omega (arith, some),
      subst (λ i. slice_get seen.content i ≡ Some b) offset
          (subst (λ k. slice_get seen.content (start + (place - 1)) ≡ Some k) (sym e) (byte_of_piece seen.content piece start (place - 1) is (omega (arith, le, some)))),
    )

pub slice_here : (backwards : Bool) (seen : Searched) (start place len : ℕ) → seen.slice.start ≤ start → start + len ≤ slice_end seen → place ≤ len →
    0 < left_of backwards len place → IsInSlice backwards seen (start + place)
slice_here false seen start place len low high le some = (omega (arith, low), omega (arith, high, some))
slice_here true seen start place len low high le some = (omega (arith, low, some), omega (arith, high, le))

-- an ASCII byte of the piece, or one of a scalar of it, is read next
module _ (C : Type 0) (v : View C) (backwards : Bool) (c : C) (piece : List ℕ) (from place b : ℕ) (t : Tagged) (begin stand next : Stand) (le : place ≤ length piece)
    (some : 0 < left_of backwards (length piece) place) (byte : b ≡ byte_at backwards piece place) (before : GoesAcross v backwards c piece from place begin stand)
    (over : GoesOver v backwards c b t stand next) where
  across : ((seen : Searched) (start : ℕ) → seen.slice.start ≤ start → start + length piece ≤ slice_end seen → piece ≡ slice_range seen.content start (start + length piece) →
      128 ≤ b → (terminator : ℕ) → IsBeside backwards seen.content (start + place) b →
      IsSymbolAt (text_of terminator seen) (offset_of backwards (start + place)) (symbol_of (record { byte = b; tagged = t }))) →
      GoesAcross v backwards c piece from (next_of backwards place) begin next
  across symbol = λ o q start lies at.
      let step = next_here backwards o.seen q.end start place piece lies.inside lies.is lies.within le some in
      let there = subst (IsBeside backwards o.seen.content (start + place)) (sym byte) step.there in
      subst (λ i. IsAt v backwards o q c i next) (place_next backwards (length piece) start place some)
      (over o q (start + place) (before o q start lies at) (record {
        there = there;
        inside = slice_here backwards o.seen start place (length piece) lies.low lies.high le some;
        symbol = λ past terminator. symbol o.seen start lies.low lies.high lies.is past terminator there;
      }) step.left)

  pub across_alone : b < 128 → GoesAcross v backwards c piece from (next_of backwards place) begin next
  across_alone lt = across (λ seen start low high is past terminator there. absurd (omega (arith, lt, past)))

  pub across_one : (s : Scalar) → IsWhole piece s → Has s (offset_of backwards place) → t ≡ tag_in s (offset_of backwards place) →
      GoesAcross v backwards c piece from (next_of backwards place) begin next
  across_one s whole has tag = across (λ seen start low high is past terminator there.
      subst (λ k. IsSymbolAt (text_of terminator seen) (offset_of backwards (start + place)) (symbol_of (record { byte = b; tagged = k }))) (sym tag)
      (symbol_found backwards terminator seen start place (offset_of backwards place) b piece s low high is le some refl past whole has there))

-- only what no row depends on was changed
pub at_same : (C : Type 0) (v : View C) (backwards : Bool) (o : Outset C) (q : Request) (c0 c : C) (at : ℕ) (stand : Stand) → IsSame v c0 c →
    IsAt v backwards o q c0 at stand → IsAt v backwards o q c at stand
at_same C v backwards o q c0 c at stand same x = record {
  cache = same.cache x.cache;
  is_row = same.is_row stand.row x.is_row;
  on = x.on;
  spends = same.spends o.begun (span backwards q.from at) x.spends;
  stands = λ m of first has. let h = x.stands m of first has in record {
    state = h.state;
    in_row = same.has_state m stand.row h.state h.in_row;
    found = h.found;
    tells = h.tells;
    standing = h.standing;
  };
}
