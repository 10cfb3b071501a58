-- Only proofs use this file.
-- Lines that were skipped, one after another.
use Rattle.std.proofs.Common.{ℕ, ◌≡◌, ◌+◌, ◌∙◌, ◌++◌, ◌∷◌, [], Bool, false, true, List, Option, Some, None, IfSome, Ok, Err, OnErr, Result, ap, arith, append_assoc, cond, refl, sym, subst, length-append}
use Rattle.std.specs.List.{filter}
use Rattle.std.specs.Io.KnownBytes.{Consumes}
use Rattle.std.proofs.lemmas.List.{append-nil}
use Rattle.std.proofs.lemmas.List.Elements.{filter-append}
use Rattle.grep_lines.specs.Lines.{lines}
use Rattle.grep_lines.specs.Selected.{AreSkipped, IsNextSelected, IsStopped, TakesLine}

-- what holds holds of an error
pub on_err : {T E : Type 0} (r : Result T E) {P : Type 0} → P → OnErr r P
on_err (Ok v) h = tt
on_err (Err e) h = h

module _ (stop : ℕ) (p : List ℕ → Bool) where
  pub skipped_none : (old : Option (List ℕ)) → IfSome old (λ text. AreSkipped stop p text 0 old)
  skipped_none None = tt
  skipped_none (Some xs) = record { rest = xs; known = refl; skipped = []; parts = refl; counted = refl; unselected = refl }

  module _ (n : ℕ) (mid new : Option (List ℕ)) (line : List ℕ) where
    more : (xs : List ℕ) → AreSkipped stop p xs n mid → IfSome mid (λ text. TakesLine stop text true line new) → p line ≡ false → AreSkipped stop p xs (n + 1) new
    more xs s t other =
        let taken : TakesLine stop s.rest true line new = subst (λ o. IfSome o (λ text. TakesLine stop text true line new)) s.known t in
        record {
          rest = taken.0;
          known = taken.1;
          skipped = s.skipped ++ line ∷ [];
          parts = s.parts ∙ ap (λ ls. s.skipped ++ ls) taken.2 ∙ sym (append_assoc s.skipped (line ∷ []) (lines stop taken.0));
          counted = omega (arith, s.counted, length-append s.skipped (line ∷ []));
          unselected =
              filter-append p s.skipped (line ∷ []) ∙ ap (λ b. filter p s.skipped ++ cond b (line ∷ []) []) other ∙ append-nil (filter p s.skipped) ∙ s.unselected;
        }

    pub skip_more : (old : Option (List ℕ)) → IfSome old (λ text. AreSkipped stop p text n mid) → IfSome mid (λ text. TakesLine stop text true line new) →
        p line ≡ false → IfSome old (λ text. AreSkipped stop p text (n + 1) new)
    skip_more None s t other = tt
    skip_more (Some xs) s t other = more xs s t other

    chosen : (xs : List ℕ) → AreSkipped stop p xs n mid → IfSome mid (λ text. TakesLine stop text true line new) → p line ≡ true → IsNextSelected stop p xs line new (n + 1)
    chosen xs s t is =
        let taken : TakesLine stop s.rest true line new = subst (λ o. IfSome o (λ text. TakesLine stop text true line new)) s.known t in
        record {
          rest = taken.0;
          known = taken.1;
          skipped = s.skipped;
          parts = s.parts ∙ ap (λ ls. s.skipped ++ ls) taken.2;
          counted = omega (arith, s.counted);
          unselected = s.unselected;
          selected = is;
        }

    pub select_next : (old : Option (List ℕ)) → IfSome old (λ text. AreSkipped stop p text n mid) → IfSome mid (λ text. TakesLine stop text true line new) →
        p line ≡ true → IfSome old (λ text. IsNextSelected stop p text line new (n + 1))
    select_next None s t is = tt
    select_next (Some xs) s t is = chosen xs s t is

  module _ (n m : ℕ) (mid new : Option (List ℕ)) where
    both : (xs : List ℕ) → AreSkipped stop p xs n mid → IfSome mid (λ text. AreSkipped stop p text m new) → AreSkipped stop p xs (n + m) new
    both xs s t =
        let then : AreSkipped stop p s.rest m new = subst (λ o. IfSome o (λ text. AreSkipped stop p text m new)) s.known t in
        record {
          rest = then.rest;
          known = then.known;
          skipped = s.skipped ++ then.skipped;
          parts = s.parts ∙ ap (λ ls. s.skipped ++ ls) then.parts ∙ sym (append_assoc s.skipped then.skipped (lines stop then.rest));
          counted = omega (arith, s.counted, then.counted, length-append s.skipped then.skipped);
          unselected = filter-append p s.skipped then.skipped ∙ ap (λ ls. ls ++ filter p then.skipped) s.unselected ∙ then.unselected;
        }

    pub skip_both : (old : Option (List ℕ)) → IfSome old (λ text. AreSkipped stop p text n mid) → IfSome mid (λ text. AreSkipped stop p text m new) →
        IfSome old (λ text. AreSkipped stop p text (n + m) new)
    skip_both None s t = tt
    skip_both (Some xs) s t = both xs s t

  module _ (n : ℕ) (mid new : Option (List ℕ)) (line : List ℕ) where
    part_known : (xs : List ℕ) (s : AreSkipped stop p xs n mid) → (new : Option (List ℕ)) → Consumes (Some s.rest) new line → IsStopped stop p xs line new
    part_known xs s None e = absurd e
    part_known xs s (Some left) e =
        record { rest = left; known = refl; skipped = s.skipped; parts = s.parts ∙ ap (λ ys. s.skipped ++ lines stop ys) e; unselected = s.unselected }

    -- a fault came behind lines that were skipped and a part of a line
    pub stopped_behind : (old : Option (List ℕ)) → IfSome old (λ text. AreSkipped stop p text n mid) → Consumes mid new line →
        IfSome old (λ text. IsStopped stop p text line new)
    stopped_behind None s e = tt
    stopped_behind (Some xs) s e = part_known xs s new (subst (λ o. Consumes o new line) s.known e)

    -- a fault came between lines
    pub stopped_between : (old : Option (List ℕ)) → IfSome old (λ text. AreSkipped stop p text n new) → line ≡ [] → IfSome old (λ text. IsStopped stop p text line new)
    stopped_between None s e = tt
    stopped_between (Some xs) s e =
        subst (λ items. IsStopped stop p xs items new) (sym e)
        (subst (λ o. IsStopped stop p xs [] o) (sym s.known)
        (record { rest = s.rest; known = refl; skipped = s.skipped; parts = s.parts; unselected = s.unselected }))

  -- so it did behind lines that were skipped last
  pub stopped_after : (n m : ℕ) (mid then new : Option (List ℕ)) (line : List ℕ) (old : Option (List ℕ)) → IfSome old (λ text. AreSkipped stop p text n mid) →
      IfSome mid (λ text. AreSkipped stop p text m then) → new ≡ then → line ≡ [] → IfSome old (λ text. IsStopped stop p text line new)
  stopped_after n m mid then new line old s t same empty =
      stopped_between (n + m) mid new line old (subst (λ o. IfSome old (λ text. AreSkipped stop p text (n + m) o)) (sym same) (skip_both n m mid then old s t)) empty
