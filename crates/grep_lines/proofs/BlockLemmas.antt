-- Only proofs use this file.
-- Blocks of lines at the beginning of a page.
use Rattle.std.proofs.Common.{ℕ, ◌≡◌, ◌<◌, ◌≤◌, ◌+◌, ◌-◌, ◌∙◌, ◌++◌, ◌∷◌, [], Bool, false, true, List, Some, not, ap, arith, cond, refl, sym, subst, length, take, drop, get_or, get_or-take, get_or-drop, inl, inr, length-drop, length-take-le}
use Rattle.std.specs.List.{filter, slice_range}
use Rattle.std.proofs.lemmas.Bool.{cases_lt}
use Rattle.std.proofs.lemmas.List.{drop-drop, take-append-drop, take_more}
use Rattle.std.proofs.lemmas.Option.{slice_get-get_or}
use Rattle.grep_lines.specs.Lines.{AreLinesOf, lines}
use Rattle.grep_lines.specs.Pages.{AreLinesBefore, IsWhole}
use Rattle.grep_lines.specs.Selected.{IsTurn}
use Rattle.grep_lines.specs.Blocks.{is_unlike}
use Rattle.grep_lines.proofs.LineLemmas.{HasNo, lines_cut}
use Rattle.grep_lines.proofs.PageLemmas.{none_selected, whole_line}

pub unlike_none : (b c : Bool) → c ≡ b → cond b (not c) c ≡ false
unlike_none true c e = ap not e
unlike_none false c e = e

-- What a block of one text tells.
pub record IsWholeBlock (t : ℕ) (picks : List ℕ → Bool) (text : List ℕ) (count : ℕ) (selected : Bool) : Type 0 where
  pub whole : IsWhole t text
  pub counted : count ≡ length (lines t text)
  pub alike : filter (is_unlike selected picks) (lines t text) ≡ []

module _ (stop : ℕ) (picks : List ℕ → Bool) where
  -- one line with its terminator
  pub one_line : (line text : List ℕ) (b : Bool) → HasNo stop line → text ≡ line ++ stop ∷ [] → picks line ≡ b → IsWholeBlock stop picks text 1 b
  one_line line text b free is e =
      let one : lines stop text ≡ line ∷ [] = ap (lines stop) is ∙ lines_cut stop line [] free in
      record {
        whole = subst (IsWhole stop) (sym is) (whole_line stop [] line);
        counted = sym (ap length one);
        alike = ap (filter (is_unlike b picks)) one ∙ ap (λ c. cond c (line ∷ []) []) (unlike_none b (picks line) e);
      }

  -- no line
  pub no_line : (b : Bool) → IsWholeBlock stop picks [] 0 b
  no_line b = record { whole = λ k e. absurd (omega (arith, e)); counted = refl; alike = refl }

  module _ (page : List ℕ) (place end count : ℕ) (are : AreLinesBefore stop page place end count) (inside : place ≤ length page) where
    -- the lines before the place
    pub lines_alike : (b : Bool) → ((start end : ℕ) → start ≤ end → end < place → AreLinesOf stop page start end → picks (slice_range page start end) ≡ b) →
        IsWholeBlock stop picks (take end page) count b
    lines_alike b alike =
        let within : end ≤ length page = omega (arith, are.within, inside) in
        let shown = take end page in
        record {
          whole = are.whole;
          counted = are.counted;
          alike =
              none_selected stop (is_unlike b picks) page place (λ from to order near is. unlike_none b (picks (slice_range page from to)) (alike from to order near is))
              (length shown) [] shown (drop end page) (omega arith) (λ k e. absurd (omega (arith, e))) are.whole (sym (take-append-drop end page))
              (omega (arith, length-take-le end page within, are.within));
        }

    -- the line behind them
    pub line_turns : (b : Bool) (turn : ℕ) → IsTurn stop picks b page place turn → IsWholeBlock stop picks (slice_range page end (turn + 1)) 1 (not b)
    line_turns b turn is =
        let within : end ≤ length page = omega (arith, are.within, inside) in
        let rest = drop end page in
        let size : turn - end < length rest = omega (arith, length-drop end page, is.within, is.behind, are.within) in
        let line = slice_range page end turn in
        let sized : length line ≡ turn - end = length-take-le (turn - end) rest (omega (arith, size)) in
        let at : end + (turn - end) ≡ turn = omega (arith, is.behind, are.within) in
        let byte : get_or rest (turn - end) 0 ≡ stop = get_or-drop end page (turn - end) 0 ∙ ap (λ n. get_or page n 0) at ∙ is.ended in
        let split : slice_range page end (turn + 1) ≡ line ++ stop ∷ [] =
        ap (λ n. take n rest) (omega (arith, is.behind, are.within)) ∙ take_more rest (turn - end) 0 size ∙ ap (λ x. line ++ x ∷ []) byte in
        let none : (k : ℕ) → end ≤ k → k < turn → get_or page k 0 ≡ stop → ⊥ = λ k from before e.
        elim (cases_lt k place) [ inl lt ↦ are.furthest k from lt e | inr ge ↦ is.first k ge before e ] in
        let free : HasNo stop line = λ k lt e.
        none (end + k) (omega arith) (omega (arith, lt, sized))
        (sym (get_or-drop end page k 0) ∙ sym (get_or-take (turn - end) rest k 0 (omega (arith, lt, sized))) ∙ e) in
        let stood : AreLinesOf stop page end turn = record {
          before = λ k e.
              slice_get-get_or page k 0 (omega (arith, e, within))
              ∙ ap Some (sym (get_or-take end page k 0 (omega (arith, e))) ∙ are.whole k (omega (arith, e, length-take-le end page within)));
          behind = slice_get-get_or page turn 0 is.within ∙ ap Some is.ended;
        } in
        one_line line (slice_range page end (turn + 1)) (not b) free split (is.unlike end are.within stood)

-- a text goes on behind two parts of it
pub cut_twice : (page : List ℕ) (end next : ℕ) → end ≤ next → page ≡ take end page ++ (slice_range page end next ++ drop next page)
cut_twice page end next order =
    sym (take-append-drop end page)
    ∙ ap (λ xs. take end page ++ xs)
    (sym (take-append-drop (next - end) (drop end page))
    ∙ ap (λ xs. take (next - end) (drop end page) ++ xs) (drop-drop (next - end) end page ∙ ap (λ n. drop n page) (omega (arith, order))))
