-- From rows to slots: what the cells of a row tell of a walk, the slots of its pattern tell.
use Rattle.std.proofs.Common.{◌≡◌, ℕ, ◌+◌, ◌-◌, ◌<◌, ◌⊎◌, List, [], ◌∷◌, length, inl, inr, ⊎_elim, sym, subst, ap, ◌∙◌, refl, arith, false, Option, Some, None, IsTrue, slice_index_or, if◌then◌else◌, eq-eqb, ne_eqb}
use Rattle.std.specs.Option.{option_or}
use Rattle.std.proofs.lemmas.Bool.{cases_lt, cases_eq}
use Rattle.rc_walks.specs.Walks.{Pair, IsWalk}
use Rattle.rc_program.specs.Program.{Place, choice, byte, branch, scalar, guard, slot, accept, place_at}
use Rattle.rc_program.specs.Columns.{IsAmong, NamesOwn, OwnSlots, column_at, range_of, row_width}
use Rattle.rc_program.specs.declared.columns.SlotRange.{SlotRange}
use Rattle.rc_program.specs.Answer.{Search, Chosen, chosen, only, ends, next_of, last_of, last_visit, names, pattern_of}
use Rattle.rc_program.specs.Longest.{longest_chosen}
use Rattle.rc_program.proofs.AnswerLemmas.{chosen_law, chosen_accepts, walk_ends, match_place_is}
use Rattle.rc_program.proofs.ColumnLemmas.{within_row}
use Rattle.rc_program.proofs.ReachLemmas.{longest_law}
use Rattle.rc_pikevm.specs.Found.{fills, last_filled, IsChosen, IsChosenRow}
use Rattle.rc_pikevm.specs.declared.pass.Ending.{Ending}

-- a slot is one of the range or isn't
pub cases_among : (r : SlotRange) (k : ℕ) → IsAmong r k ⊎ ¬ IsAmong r k
cases_among r k =
    ⊎_elim (λ l. inr (λ (h : IsAmong r k). absurd (omega (arith, l, h.0))))
    (λ g. ⊎_elim (λ l. inr (λ (h : IsAmong r k). absurd (omega (arith, l, h.1)))) (λ e. inl (g, e)) (cases_lt r.last k))
    (cases_lt k r.first)

-- a place of the walk fills a column where it names the slot
fills_named : (r : SlotRange) (c k : ℕ) (q : Place) → IsAmong r k → ((j m : ℕ) → q ≡ slot j m → IsAmong r j × (c + r.first ≡ j)) →
    fills c q (k - r.first) ≡ names q k
fills_named r c k (choice ns) a own = refl
fills_named r c k (byte rs n) a own = refl
fills_named r c k (branch ts) a own = refl
fills_named r c k (scalar rs n) a own = refl
fills_named r c k (guard l n) a own = refl
fills_named r c k (accept p) a own = refl
fills_named r c k (slot j m) a own =
    let o = own j m refl in
    ⊎_elim
    (λ e. eq-eqb c (k - r.first) (omega (arith, o.1, e, a.0)) ∙ sym (eq-eqb j k e))
    (λ ne. ne_eqb c (k - r.first) (λ (z : c ≡ k - r.first). ne (omega (arith, o.1, z, a.0))) ∙ sym (ne_eqb j k ne))
    (cases_eq j k)

-- and it names no slot out of the range
not_named : (r : SlotRange) (k : ℕ) (q : Place) → ¬ IsAmong r k → ((j m : ℕ) → q ≡ slot j m → IsAmong r j) → names q k ≡ false
not_named r k (choice ns) out own = refl
not_named r k (byte rs n) out own = refl
not_named r k (branch ts) out own = refl
not_named r k (scalar rs n) out own = refl
not_named r k (guard l n) out own = refl
not_named r k (accept p) out own = refl
not_named r k (slot j m) out own = ne_eqb j k (λ (e : j ≡ k). out (subst (IsAmong r) e (own j m refl)))

-- so the last visit of the slot is that of its column
pub filled_visit : (places : List Place) (r : SlotRange) (k : ℕ) (w : List Pair) → IsAmong r k → NamesOwn places r w →
    last_filled places (k - r.first) w ≡ last_visit places k w
filled_visit places r k [] a own = refl
filled_visit places r k (n ∷ w) a own =
    ap (λ b. option_or (last_filled places (k - r.first) w) (if b then Some n.1 else None))
    (fills_named r (column_at places n.0) k (place_at places n.0) a (λ j m e. own n j m (inl refl) e))
    ∙ ap (λ o. option_or o (if names (place_at places n.0) k then Some n.1 else None))
    (filled_visit places r k w a (λ i j m h e. own i j m (inr h) e))

-- and no other slot is visited
pub never_visited : (places : List Place) (r : SlotRange) (k : ℕ) (w : List Pair) → ¬ IsAmong r k → NamesOwn places r w → last_visit places k w ≡ None
never_visited places r k [] out own = refl
never_visited places r k (n ∷ w) out own =
    ap (λ b. option_or (last_visit places k w) (if b then Some n.1 else None))
    (not_named r k (place_at places n.0) out (λ j m e. (own n j m (inl refl) e).0))
    ∙ ap (λ o. option_or o None) (never_visited places r k w out (λ i j m h e. own i j m (inr h) e))

module _ (s : Search) (picked : Option Chosen) (e : Ending) (row slots : List (Option ℕ)) where
  -- These slots are those of the row.
  pub record IsSpread : Type 0 where
    pub wide : length row ≡ row_width s.places (length slots)
    pub own : (k : ℕ) → k < length slots → IsAmong (range_of s.places e.pattern) k →
        slice_index_or slots k None ≡ slice_index_or row (k - (range_of s.places e.pattern).first) None
    pub others : (k : ℕ) → ¬ IsAmong (range_of s.places e.pattern) k → slice_index_or slots k None ≡ None

  -- the slots tell of the walk what the row tells
  pub spread_out : IsSpread → (c : Chosen) → IsChosenRow s picked e row c → NamesOwn s.places (range_of s.places e.pattern) c.walk →
      IsChosen s picked e slots c
  spread_out spread c is own = record {
    is_chosen = is.is_chosen;
    pattern = is.pattern;
    start = is.start;
    end = is.end;
    visits = λ k l.
        ⊎_elim
        (λ a. spread.own k l a
        ∙ is.visits (k - (range_of s.places e.pattern).first)
        (let i = within_row s.places e.pattern k (length slots) a l in let wide = spread.wide in omega (arith, i, wide))
        ∙ filled_visit s.places (range_of s.places e.pattern) k c.walk a own)
        (λ out. spread.others k out ∙ sym (never_visited s.places (range_of s.places e.pattern) k c.walk out own))
        (cases_among (range_of s.places e.pattern) k);
  }

module _ (s : Search) (owned : OwnSlots s.places) (e : Ending) (row slots : List (Option ℕ)) where
  -- a walk to a match place names its pattern's slots
  own_by : (c : Chosen) → e.pattern ≡ pattern_of s c → IsWalk (next_of s) (λ n. IsTrue (ends s n)) [] ((0, c.start) ∷ []) c.walk →
      place_at s.places (last_of c.walk).0 ≡ accept (pattern_of s c) → NamesOwn s.places (range_of s.places e.pattern) c.walk
  own_by c same walk ended =
      subst (λ p. NamesOwn s.places (range_of s.places p) c.walk) (sym same)
      (owned s.text s.hi c.start (pattern_of s c) (λ n. ends s n) c.walk walk ended)

  pub chosen_spread : IsSpread s (chosen s) e row slots → (c : Chosen) → IsChosenRow s (chosen s) e row c → IsChosen s (chosen s) e slots c
  chosen_spread spread c is =
      let answer = (chosen_law s c).0 is.is_chosen in
      spread_out s (chosen s) e row slots spread c is (own_by c is.pattern answer.is_first.is_walk (chosen_accepts s c answer))

  pub longest_spread : IsSpread s (longest_chosen s) e row slots → (c : Chosen) → IsChosenRow s (longest_chosen s) e row c →
      IsChosen s (longest_chosen s) e slots c
  longest_spread spread c is =
      let walk = ((longest_law.chosen_some s c).0 is.is_chosen).counts.is_walk in
      spread_out s (longest_chosen s) e row slots spread c is
      (own_by c is.pattern walk
      (match_place_is (only s.anchoring) (place_at s.places (last_of c.walk).0) (walk_ends (next_of s) (λ n. IsTrue (ends s n)) walk)))
