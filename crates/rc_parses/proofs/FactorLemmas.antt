-- A choice before something else has the same parses in the same order as a choice of what is spelled with it.
use Rattle.std.proofs.Common.{◌≡◌, ℕ, zero, suc, [], ◌∷◌, Bool, true, false, true≢false, Some, inl, inr, ⊎_elim, ap, subst, sym, refl, slice_get}
use Rattle.std.proofs.lemmas.Option.{none-some, same_Some}
use Rattle.rc_pattern.specs.Re.{Re, alt, cat, none}
use Rattle.rc_program.specs.Text.{Text}
use Rattle.rc_parses.specs.Parses.{Tree, joined, this, other, Parse, IsParse, IsParseBy, IsBefore, group_of}
use Rattle.rc_parses.specs.Laws.{HaveSameParses}

abbrev pub factor : Re → Re → Re → Re
factor a b rest = cat (alt a (alt b none)) rest

abbrev pub spread_out : Re → Re → Re → Re
spread_out a b rest = alt (cat a rest) (alt (cat b rest) none)

abbrev spread : Tree → Tree
spread (joined (this x) y) = this (joined x y)
spread (joined (other (this x)) y) = other (this (joined x y))
spread x = x

abbrev gather : Tree → Tree
gather (this (joined x y)) = joined (this x) y
gather (other (this (joined x y))) = joined (other (this x)) y
gather x = x

abbrev pub spread_by : Parse → Parse
spread_by p = record { pattern = p.pattern; tree = spread p.tree; end = p.end }

abbrev pub gather_by : Parse → Parse
gather_by p = record { pattern = p.pattern; tree = gather p.tree; end = p.end }

-- what is below a choice
below : Tree → Tree
below (this x) = x
below (other x) = below x
below x = x

is_this : Tree → Bool
is_this (this x) = true
is_this x = false

same_this : (x y : Tree) → this x ≡ this y → x ≡ y
unfolding below
same_this x y e = ap below e

same_other : (x y : Tree) → other (this x) ≡ other (this y) → x ≡ y
unfolding below
same_other x y e = ap below e

apart : (x y : Tree) → other x ≡ this y → ⊥
unfolding is_this
apart x y e = true≢false (sym (ap is_this e))

module _ (t : Text) (a b rest : Re) where
  spread_parse : (x : Tree) (i j : ℕ) → IsParse t (factor a b rest) x i j → IsParse t (spread_out a b rest) (spread x) i j
  spread_parse (joined (this x) y) i j p = p
  spread_parse (joined (other (this x)) y) i j p = p
  spread_parse (joined (other x) y) i j p = absurd p.1
  spread_parse (joined x y) i j p = absurd p.1
  spread_parse x i j p = absurd p

  spread_groups : (x : Tree) (i j n : ℕ) → IsParse t (factor a b rest) x i j → group_of n (spread x) ≡ group_of n x
  spread_groups (joined (this x) y) i j n p = refl
  spread_groups (joined (other (this x)) y) i j n p = refl
  spread_groups (joined (other x) y) i j n p = absurd p.1
  spread_groups (joined x y) i j n p = absurd p.1
  spread_groups x i j n p = absurd p

  gather_parse : (x : Tree) (i j : ℕ) → IsParse t (spread_out a b rest) x i j → IsParse t (factor a b rest) (gather x) i j × (spread (gather x) ≡ x)
  gather_parse (this (joined x y)) i j p = (p, refl)
  gather_parse (other (this (joined x y))) i j p = (p, refl)
  gather_parse (other (this x)) i j p = absurd p
  gather_parse (other x) i j p = absurd p
  gather_parse (this x) i j p = absurd p
  gather_parse x i j p = absurd p

  spread_before : (x u : Tree) (i j m : ℕ) → IsParse t (factor a b rest) x i j → IsParse t (factor a b rest) u i m → IsBefore (factor a b rest) x u →
      IsBefore (spread_out a b rest) (spread x) (spread u)
  spread_before (joined (this x) y) (joined (this u) v) i j m p q h = ⊎_elim (λ l. inl l) (λ r. inr (same_this x u r.0, r.1)) h
  spread_before (joined (this x) y) (joined (other (this u)) v) i j m p q h = tt
  spread_before (joined (other (this x)) y) (joined (this u) v) i j m p q h = ⊎_elim (λ l. absurd l) (λ r. absurd (apart (this x) u r.0)) h
  spread_before (joined (other (this x)) y) (joined (other (this u)) v) i j m p q h = ⊎_elim (λ l. inl l) (λ r. inr (same_other x u r.0, r.1)) h
  spread_before (joined (this x) y) (joined (other u) v) i j m p q h = absurd q.1
  spread_before (joined (this x) y) (joined u v) i j m p q h = absurd q.1
  spread_before (joined (this x) y) u i j m p q h = absurd q
  spread_before (joined (other (this x)) y) (joined (other u) v) i j m p q h = absurd q.1
  spread_before (joined (other (this x)) y) (joined u v) i j m p q h = absurd q.1
  spread_before (joined (other (this x)) y) u i j m p q h = absurd q
  spread_before (joined (other x) y) u i j m p q h = absurd p.1
  spread_before (joined x y) u i j m p q h = absurd p.1
  spread_before x u i j m p q h = absurd p

  -- the only pattern
  one : (g h : Re) (k : ℕ) → slice_get (g ∷ []) k ≡ Some h → (k ≡ 0) × (g ≡ h)
  one g h zero e = (refl, same_Some g h e)
  one g h (suc k) e = absurd (none-some h e)

  -- a parse by the only pattern
  parse_by : (g : Re) (i : ℕ) (p : Parse) → IsParseBy t (g ∷ []) i p → IsParse t g p.tree i p.end
  parse_by g i p h = subst (λ k. IsParse t k p.tree i p.end) (sym (one g h.0 p.pattern h.1).1) h.2

  by_first : (g : Re) (i k : ℕ) (x : Tree) (j : ℕ) → k ≡ 0 → IsParse t g x i j → IsParseBy t (g ∷ []) i (record { pattern = k; tree = x; end = j })
  by_first g i k x j e p = (g, ap (slice_get (g ∷ [])) e, p)

  number_of : (g : Re) (i : ℕ) (p : Parse) → IsParseBy t (g ∷ []) i p → p.pattern ≡ 0
  number_of g i p h = (one g h.0 p.pattern h.1).0

  pub factored_same : HaveSameParses t (factor a b rest ∷ []) (spread_out a b rest ∷ []) spread_by gather_by
  factored_same = record {
    parses = λ i p h.
        by_first (spread_out a b rest) i p.pattern (spread p.tree) p.end (number_of (factor a b rest) i p h)
        (spread_parse p.tree i p.end (parse_by (factor a b rest) i p h));
    pattern = λ i p h. refl;
    end = λ i p h. refl;
    groups = λ i p h n. spread_groups p.tree i p.end n (parse_by (factor a b rest) i p h);
    all = λ i p h.
        let g = gather_parse p.tree i p.end (parse_by (spread_out a b rest) i p h) in
        (by_first (factor a b rest) i p.pattern (gather p.tree) p.end (number_of (spread_out a b rest) i p h) g.0, ap (λ x. parse_at p.pattern x p.end) g.1);
    ordered = λ i p r h k before.
        ⊎_elim (λ l. inl l)
        (λ e. let g = one (factor a b rest) e.1.0 p.pattern e.1.1 in
        inr (
          e.0,
          (
            spread_out a b rest,
            ap (slice_get (spread_out a b rest ∷ [])) g.0,
            spread_before p.tree r.tree i p.end r.end (parse_by (factor a b rest) i p h) (parse_by (factor a b rest) i r k)
                (subst (λ z. IsBefore z p.tree r.tree) (sym g.1) e.1.2),
          ),
        )) before;
  }
    where
      parse_at : ℕ → Tree → ℕ → Parse
      parse_at k x j = record { pattern = k; tree = x; end = j }
