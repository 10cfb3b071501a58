-- What a table knows of a byte or of a symbol, as what stands beside a position.
use Rattle.std.proofs.Common.{◌≡◌, ◌⊎◌, ℕ, ◌+◌, ◌-◌, ◌<◌, ◌≤◌, Bool, true, false, not, Option, Some, None, nat_le, slice_get, inl, inr, ⊎_elim, refl, sym, subst, ◌∙◌, arith}
use Rattle.std.proofs.lemmas.Bool.{and_cases, and_parts, leb-false, leb-true}
use Rattle.rc_text.specs.Text.{Keeps, Searched, slice_end}
use Rattle.rc_text.specs.declared.types.Anchored.{Anchored}
use Rattle.rc_program.specs.Looks.{Side}
use Rattle.rc_program.specs.Sought.{text_of}
use Rattle.rc_symbols.specs.Symbols.{IsSymbolAt}
use Rattle.rc_determinize.specs.Sides.{byte_of}
use Rattle.rc_determinize.specs.States.{State}
use Rattle.rc_determinize.proofs.TextLemmas.{byte_ahead, byte_behind}
use Rattle.rc_dfa.specs.Machine.{Alphabet, bytes, symbols, Machine, Leads, Begins}
use Rattle.rc_dfa.specs.Runs.{MayRead, behind_at}
use Rattle.rc_dfa.specs.Symbols.{symbol_of}
use Rattle.rc_dfa.specs.declared.symbols.Symbol.{Symbol}
use Rattle.rc_table_search.specs.Ways.{IsBeside, IsInSlice, beside_at, offset_of, side_at}
use Rattle.rc_table_search.specs.Views.{View, IsLawful, IsStart, IsStartBeside, IsStep, IsStepOver, Knows, KnowsSide, needs_symbol, reads_symbols}
use Rattle.rc_table_search.specs.Searches.{BeginsAt, LeadsAt, text_in}
use Rattle.rc_table_search.specs.MemoLaws.{kept_text}
use Rattle.rc_table_search.proofs.SpanLemmas.{beside_same}
use Rattle.rc_table_search.proofs.WayLemmas as ways

bytes_if : (a : Alphabet) → reads_symbols a ≡ false → a ≡ bytes
bytes_if bytes e = refl
bytes_if symbols e = cc e

pub symbols_if : (a : Alphabet) → reads_symbols a ≡ true → a ≡ symbols
symbols_if bytes e = cc e
symbols_if symbols e = refl

-- the byte is read with its symbol
pub symbol_needed : (a : Alphabet) (b : ℕ) → needs_symbol a b ≡ true → (a ≡ symbols) × (128 ≤ b)
symbol_needed a b e = let p = and_parts (nat_le 128 b) (reads_symbols a) e in (symbols_if a p.1, leb-true 128 b p.0)

-- no byte past ASCII is there
abbrev pub IsAscii : Option ℕ → Type 0
IsAscii None = Unit {0}
IsAscii (Some b) = b < 128

-- the byte that the slice has there
pub byte_there : (backwards : Bool) (terminator : ℕ) (seen : Searched) (i b : ℕ) → IsInSlice backwards seen i → IsBeside backwards seen.content i b →
    beside_at backwards (text_of terminator seen) i ≡ Some b
byte_there false terminator seen i b inside there = let high = inside.1 in byte_ahead (text_of terminator seen) i b high there
byte_there true terminator seen i b inside there =
    let low = inside.0 in
    let e : i - 1 + 1 ≡ i = omega (arith, low) in
    subst (λ k. behind_at (text_of terminator seen) k ≡ Some b) e (byte_behind (text_of terminator seen) (i - 1) b (omega (arith, low)) there.1)

-- an input of which only the chunk and the position changed has the same byte there, and its symbol
module _ (backwards : Bool) (seen now : Searched) (keeps : Keeps seen now) (i p : ℕ) (at : p ≡ offset_of backwards i) where
  pub within_kept : IsInSlice backwards seen i → (now.slice.start ≤ p) × (p < slice_end now)
  within_kept inside = rw (keeps.slice, keeps.content, at) (offset_inside backwards inside)
    where
      offset_inside : (way : Bool) → IsInSlice way seen i → (seen.slice.start ≤ offset_of way i) × (offset_of way i < slice_end seen)
      offset_inside false h = h
      offset_inside true h = let low = h.0 in let high = h.1 in (omega (arith, low), omega (arith, low, high))

  pub byte_kept : (b : ℕ) → IsBeside backwards seen.content i b → slice_get now.content p ≡ Some b
  byte_kept b there = rw (keeps.content, at) (ways.there_of backwards seen.content i b there)

  pub symbol_kept : (y : Symbol) → ((terminator : ℕ) → IsSymbolAt (text_of terminator now) p (symbol_of y)) → (terminator : ℕ) →
      IsSymbolAt (text_of terminator seen) (offset_of backwards i) (symbol_of y)
  symbol_kept y is terminator =
      subst (λ t. IsSymbolAt t (offset_of backwards i) (symbol_of y)) (kept_text terminator seen now keeps)
      (subst (λ k. IsSymbolAt (text_of terminator now) k (symbol_of y)) at (is terminator))

module _ (C : Type 0) (v : View C) (laws : IsLawful v) (backwards : Bool) (seen : Searched) where
  -- it may be known alone
  abbrev pub IsAlone : Option ℕ → Type 0
  IsAlone beside = (reads_symbols v.alphabet ≡ false) ⊎ IsAscii beside

  pub byte_alone : (b : ℕ) → needs_symbol v.alphabet b ≡ false → IsAlone (Some b)
  byte_alone b e =
      ⊎_elim (λ no. inr (leb-false 128 b no)) (λ no. inl no) (and_cases (nat_le 128 b) (reads_symbols v.alphabet) e)

  alone : (m : Machine) → v.IsOf m → (beside : Option ℕ) → IsAlone beside → (m.alphabet ≡ bytes) ⊎ MayRead m beside
  alone m of beside (inl plain) = inl (laws.reads m of ∙ bytes_if v.alphabet plain)
  alone m of None (inr lt) = inr tt
  alone m of (Some b) (inr lt) = inr (λ unicode. lt)

  over : (m : Machine) → v.IsOf m → v.alphabet ≡ symbols → m.alphabet ≡ symbols
  over m of are = laws.reads m of ∙ are

  side_knows : (c : C) (m : Machine) (side : Side) (beside : Option ℕ) (By To : State → Type 0) (cell : ℕ) → byte_of side ≡ beside →
      (m.alphabet ≡ bytes) ⊎ MayRead m beside → (MayRead m beside → (t : State) → By t → To t) → Knows v c m beside By cell → KnowsSide v c m side To cell
  side_knows c m side beside By To cell is so to (inl h) = inl (h.0, ways.never_at m (text_in m seen) side beside is so h.1)
  side_knows c m side beside By To cell is so to (inr h) =
      inr (ways.may_at m (text_in m seen) side beside is h.0, (h.1.0, to h.0 h.1.0 h.1.1, h.1.2))

  pub byte_leads : (c0 c : C) (i row b cell : ℕ) → IsAlone (Some b) → IsInSlice backwards seen i → IsBeside backwards seen.content i b →
      IsStep v c0 c row b cell → LeadsAt v backwards seen c0 c i row cell
  byte_leads c0 c i row b cell known inside there step = record {
    is_row = step.is_row;
    leads = λ m of s has.
        let is = byte_there backwards m.setting.terminator seen i b inside there in
        side_knows c m (side_at backwards (text_in m seen) i) (Some b) (Leads m s (Some b)) _ cell (ways.byte_side m (text_in m seen) backwards i ∙ is)
        (alone m of (Some b) known)
        (λ read t leads. ways.leads_at m (text_in m seen) backwards i (Some b) s t is (ways.inside_of backwards m.setting.terminator seen i inside) read leads)
        (step.leads m s has);
  }

  pub symbol_leads : (c0 c : C) (i row cell : ℕ) (y : Symbol) → v.alphabet ≡ symbols → (backwards ≡ true → 0 < i) →
      ((terminator : ℕ) → IsSymbolAt (text_of terminator seen) (offset_of backwards i) (symbol_of y)) → IsStepOver v backwards c0 c row y cell →
      LeadsAt v backwards seen c0 c i row cell
  symbol_leads c0 c i row cell y are some is step = record {
    is_row = step.is_row;
    leads = λ m of s has.
        let l = step.leads m s has in
        inr (
          ways.all_read m (text_in m seen) (over m of are) y (side_at backwards (text_in m seen) i),
          (l.0, ways.leads_over m (text_in m seen) (over m of are) y backwards i s l.0 some (is m.setting.terminator) l.1, l.2),
        );
  }

  -- where a search begins, in the other direction
  pub byte_begins : (c : C) (anchored : Anchored) (from cell : ℕ) (beside : Option ℕ) → IsAlone beside →
      beside ≡ beside_at (not backwards) (text_of 0 seen) from → IsStart v c anchored beside cell → BeginsAt v backwards seen c anchored from cell
  byte_begins c anchored from cell beside known same start = record {
    is_row = start.is_row;
    begins = λ m of asked.
        let is = beside_same (not backwards) m.setting.terminator 0 seen from ∙ sym same in
        side_knows c m (side_at (not backwards) (text_in m seen) from) beside (Begins m anchored beside) _ cell
        (ways.byte_side m (text_in m seen) (not backwards) from ∙ is) (alone m of beside known)
        (λ read s begun. ways.begins_at m (text_in m seen) (not backwards) anchored from beside s is read begun) (start.begins m of asked);
  }

  pub symbol_begins : (c : C) (anchored : Anchored) (from cell : ℕ) (y : Symbol) → v.alphabet ≡ symbols → (backwards ≡ false → 0 < from) →
      ((terminator : ℕ) → IsSymbolAt (text_of terminator seen) (offset_of (not backwards) from) (symbol_of y)) → IsStartBeside v backwards c anchored y cell →
      BeginsAt v backwards seen c anchored from cell
  symbol_begins c anchored from cell y are some is start = record {
    is_row = start.is_row;
    begins = λ m of asked.
        let s = start.begins m of asked in
        inr (
          ways.all_read m (text_in m seen) (over m of are) y (side_at (not backwards) (text_in m seen) from),
          (s.0, ways.begins_over m (text_in m seen) (over m of are) y backwards anchored from s.0 some (is m.setting.terminator) s.1, s.2),
        );
  }
