-- Only proofs use this file.
-- A line that is passed over: nothing is printed of it, and no line is kept.
use Rattle.std.proofs.Common.{ℕ, refl, ◌≡◌, ◌<◌, ◌≤◌, ◌+◌, ◌-◌, ◌∙◌, ◌++◌, ◌∷◌, [], ◌&&◌, ◌⊎◌, inl, inr, Bool, false, true, List, Option, Some, None, IfSome, ap, ap₂, arith, cond, sym, subst, length, nat_lt}
use Rattle.std.proofs.lemmas.Bool.{cases_lt, le-ltb, lt-ltb}
use Rattle.std.specs.Prelude.{Vec}
use Rattle.std.specs.declared.alloc.Global.{Global}
use Rattle.grep_lines.specs.Ahead.{Advances, IsSound, ahead_of, contents}
use Rattle.grep_lines.specs.Blocks.{TakesLines}
use Rattle.grep_lines.specs.Context.{Part, gap, line_of}
use Rattle.grep_lines.specs.Selected.{PassesLine}
use Rattle.grep_lines.specs.declared.context.Extent.{Extent}
use Rattle.grep_lines.specs.declared.context.Progress.{Progress}
use Rattle.grep_lines.specs.declared.select.Passed.{Passed}
use Rattle.grep_lines.proofs.AdvanceLemmas.{line_lines}
use Rattle.grep_lines.proofs.ContextLemmas.{ahead_context, ahead_selected, ahead_skipped}

-- of some lines so many are left
pub more_left : (count most : ℕ) → nat_lt count most ≡ nat_lt 0 (most - count)
more_left count most = at (cases_lt count most)
  where
    at : (count < most) ⊎ (most ≤ count) → nat_lt count most ≡ nat_lt 0 (most - count)
    at (inl lt) = lt-ltb count most lt ∙ sym (lt-ltb 0 (most - count) (omega (arith, lt)))
    at (inr le) = le-ltb count most le ∙ sym (le-ltb 0 (most - count) (omega (arith, le)))

no_contents : (vs : List (Vec ℕ Global)) → length vs ≡ 0 → contents vs ≡ []
no_contents [] none = refl
no_contents (v ∷ vs) none = absurd (omega (arith, none))

-- where none may be kept, none is
pub none_kept : (e : Extent) (p : Progress) → IsSound e p → e.before ≡ 0 → contents p.kept.items ≡ []
none_kept e p sound none = no_contents p.kept.items (omega (arith, sound.within, none))

module _ (e : Extent) (p : Progress) (none : contents p.kept.items ≡ []) (line : List ℕ) (len : ℕ) (is : len ≡ length line) where
  abbrev put : Bool → List Part
  put chosen = gap p.behind p.next ++ line_of (record { number = p.next; place = p.place; selected = chosen; line = line }) ∷ []

  abbrev printed : (left : ℕ) → Progress
  printed left = record p { next = p.next + 1; place = p.place + (len + 1); behind = Some (p.next + 1); left = left }

  -- a selected line
  pub passes_selected : (chosen : Bool) → chosen ≡ true → Advances e p (printed e.after) None None (record { line = line; selected = chosen })
  passes_selected chosen so =
      subst (λ c. Advances e p (printed e.after) None None (record { line = line; selected = c })) (sym so) (
        put true,
        tt,
        λ rest.
            ap (λ ls. ahead_of e p.behind p.left p.next p.place ls (record { line = line; selected = true } ∷ rest)) none
            ∙ ahead_selected e p.behind p.left p.next p.place line rest
            ∙ ap₂ (λ q ls. put true ++ ahead_of e (Some (p.next + 1)) e.after (p.next + 1) q ls rest) (omega (arith, is)) (sym none),
      )

  -- a line of context
  pub passes_context : (chosen : Bool) → chosen ≡ false → 0 < p.left → Advances e p (printed (p.left - 1)) None None (record { line = line; selected = chosen })
  passes_context chosen so some =
      subst (λ c. Advances e p (printed (p.left - 1)) None None (record { line = line; selected = c })) (sym so) (
        put false,
        tt,
        λ rest.
            ap (λ ls. ahead_of e p.behind p.left p.next p.place ls (record { line = line; selected = false } ∷ rest)) none
            ∙ ahead_context e p.behind p.left p.next p.place line rest some
            ∙ ap₂ (λ q ls. put false ++ ahead_of e (Some (p.next + 1)) (p.left - 1) (p.next + 1) q ls rest) (omega (arith, is)) (sym none),
      )

  -- another line
  pub passes_other : (chosen : Bool) → chosen ≡ false → p.left ≤ 0 → e.before ≡ 0 →
      Advances e p (record p { next = p.next + 1; place = p.place + (len + 1) }) None None (record { line = line; selected = chosen })
  passes_other chosen so idle few =
      let over : p.left ≡ 0 = omega (arith, idle) in
      subst (λ c. Advances e p (record p { next = p.next + 1; place = p.place + (len + 1) }) None None (record { line = line; selected = c })) (sym so) (
        [],
        tt,
        λ rest.
            ap₂ (λ n ls. ahead_of e p.behind n p.next p.place ls (record { line = line; selected = false } ∷ rest)) over none
            ∙ ahead_skipped e p.behind p.next p.place [] (line ∷ []) [] rest (omega (arith, few))
            ∙ ap₂ (λ n q. ahead_of e p.behind 0 n q [] rest) (omega arith) (omega (arith, is))
            ∙ ap₂ (λ n ls. ahead_of e p.behind n (p.next + 1) (p.place + (len + 1)) ls rest) (sym over) (sym none),
      )

-- what was told of the line is told of the text
module _ (stop : ℕ) (e : Extent) (picks : List ℕ → Bool) (p q : Progress) (count more : ℕ) (passed : Passed) (chosen : Bool) (left : Option (List ℕ)) where
  pub passes_lines : (old : Option (List ℕ)) → IfSome old (λ text. PassesLine stop picks text left passed) → chosen ≡ (passed.is_selected && nat_lt 0 (e.most - count)) →
      more ≡ cond chosen 1 0 → ((line : List ℕ) → passed.len ≡ length line → Advances e p q None None (record { line = line; selected = chosen })) →
      q.left ≡ cond chosen e.after (p.left - 1) → (count ≡ e.most → 0 < p.left) → IfSome old (λ text. TakesLines stop e picks p q None None count more text left)
  passes_lines None passes so is told behind context = tt
  passes_lines (Some text) passes so is told behind context =
      line_lines stop e picks p q None None count more passes.line chosen text left passes.taken (so ∙ ap (λ b. b && nat_lt 0 (e.most - count)) passes.picked) is
      (told passes.line passes.counted) behind context
