-- The closure of a place, a place at a time.
use Rattle.std.proofs.Common.{◌≡◌, ℕ, zero, suc, ◌+◌, ◌<◌, ◌⊎◌, List, [], ◌∷◌, ◌++◌, length, Option, Some, None, slice_get, slice_index_or, take, inl, inr, ⊎_elim, sym, subst, ap, ◌∙◌, refl, arith, length-append}
use Rattle.std.specs.List.{Contains}
use Rattle.std.proofs.Math.Seq.{take-append_seam}
use Rattle.std.proofs.lemmas.List.Elements.{Contains-append_cases}
use Rattle.std.specs.Option.{option_map}
use Rattle.std.proofs.lemmas.Option.{get_or_from_slice_get, none-some, same_Some, slice_get-map, slice_get_read}
use Rattle.rc_program.specs.Heads.{silent}
use Rattle.rc_program.specs.Places.{place_of, places_of}
use Rattle.rc_program.specs.Program.{Place, accept, choice, place_at}
use Rattle.rc_program.specs.declared.place.Place as code
use Rattle.rc_onepass.specs.OnePass.{Leads, here, on, Takes, named}
use Rattle.rc_onepass.specs.Rows.{AreRows, Fills, Grows, GrowsLinks, IsFollowed, IsUnderWay, Names, none, TellsPlace, TellsRow, Waits}
use Rattle.rc_onepass.specs.declared.row.Row.{Row}
use Rattle.rc_onepass.specs.declared.closure.Visit.{Visit}
use Rattle.rc_onepass.proofs.LinkLemmas.{names_grow}

-- what is told stays told
place_grows : (places : List Place) (old new : Row) (ks : List ℕ) (m : ℕ) → Grows old new → TellsPlace places old ks m → TellsPlace places new ks m
place_grows places old new ks m g t = record {
  over = λ b n l takes. let o = t.over b n l takes in record {
    transition = o.transition;
    there = g.transitions.kept b o.transition o.there;
    next = o.next;
    slots = names_grow old.links.items new.links.items g.links o.slots;
  };
  ends = λ p e. let o = t.ends p e in record {
    slots = o.slots;
    there = g.end o.slots o.there;
    names = names_grow old.links.items new.links.items g.links o.names;
  };
}

only_item : {X : Type 0} (x y : X) → Contains (x ∷ []) y → x ≡ y
only_item x y c = only c.0 c.1 c.2
  where
    only : (k : ℕ) → k < 1 → slice_index_or (x ∷ []) k y ≡ y → x ≡ y
    only zero l e = e
    only (suc k) l e = absurd (omega (arith, l))

-- before the first turn
pub under_way_first : (places : List Place) (q : ℕ) (row : Row) (stack : List Visit) → Contains stack (record { place = q; slots = 0 }) →
    IsUnderWay places q row stack
under_way_first places q row stack there ks m l =
    inr (record { visit = record { place = q; slots = 0 }; there = there; slots = []; names = none; leads = l })

-- a turn
pub under_way_turn : (places : List Place) (q : ℕ) (old new : Row) (all rest after : List Visit) (visit : Visit) → all ≡ rest ++ visit ∷ [] →
    IsFollowed places old new rest after visit → IsUnderWay places q old all → IsUnderWay places q new after
under_way_turn places q old new all rest after visit e f w ks m l =
    ⊎_elim (λ t. inl (place_grows places old new ks m f.grows t))
    (λ (p : Waits places old.links.items all ks m).
    ⊎_elim
    (λ c. inr (record {
      visit = p.visit;
      there = f.stays p.visit c;
      slots = p.slots;
      names = names_grow old.links.items new.links.items f.grows.links p.names;
      leads = p.leads;
    }))
    (λ c. let same : visit ≡ p.visit = only_item visit p.visit c in
    follows p.slots ks m (subst (λ (v : Visit). Names old.links.items v.slots p.slots) (sym same) p.names)
    (subst (λ (v : Visit). Leads places p.slots v.place ks m) (sym same) p.leads))
    (Contains-append_cases rest (visit ∷ []) p.visit (subst (λ xs. Contains xs p.visit) e p.there)))
    (w ks m l)
  where
    follows : (js ks : List ℕ) (m : ℕ) → Names old.links.items visit.slots js → Leads places js visit.place ks m →
        TellsPlace places new ks m ⊎ Waits places new.links.items after ks m
    follows js ks m names here = inl (f.told js names)
    follows js ks m names (on n c further) =
        let p = f.pushed js n names c in
        inr (record { visit = record { place = n; slots = p.0 }; there = p.1; slots = _; names = p.2; leads = further })

-- no place is entered next
pub under_way_last : (places : List Place) (q : ℕ) (row : Row) (stack : List Visit) → length stack ≡ 0 → length row.transitions.items ≡ 128 →
    IsUnderWay places q row stack → TellsRow places q row
under_way_last places q row stack e whole w = record {
  whole = whole;
  tells = λ ks m l. ⊎_elim (λ t. t)
      (λ (p : Waits places row.links.items stack ks m). absurd (let l = p.there.1 in omega (arith, l, e))) (w ks m l);
}

-- the place of that number
pub place_there : (places : List code.Place) (i : ℕ) (p : code.Place) → i < length places → p ≡ slice_index_or places i p → place_at (places_of places) i ≡ place_of p
place_there places i p lt e =
    get_or_from_slice_get (places_of places) i (place_of p) (choice [])
    (slice_get-map place_of places i ∙ ap (λ o. option_map place_of o) (slice_get_read places (length places) i p refl lt e))

-- the ways from a place were followed
pub followed : (places : List Place) (old new : Row) (before after : List Visit) (visit : Visit) (place : Place) (slots : ℕ) →
    place_at places visit.place ≡ place → Fills old.transitions.items new.transitions.items → ((j : ℕ) → old.end ≡ Some j → new.end ≡ Some j) →
    ((p : ℕ) → place ≡ accept p → new.end ≡ Some visit.slots) → GrowsLinks old.links.items new.links.items →
    ((ks : List ℕ) → Names old.links.items visit.slots ks → Names new.links.items slots (named place ks)) →
    ((v : Visit) → Contains before v → Contains after v) →
    ((n : ℕ) → Contains (silent place) n → Contains after (record { place = n; slots = slots })) →
    ((b n : ℕ) → b < 128 → Takes place b n → slice_index_or new.transitions.items b None ≡ Some (record { next = n; slots = visit.slots })) →
    IsFollowed places old new before after visit
followed places old new before after visit place slots is fills kept ended links names stays pushed entered = record {
  grows = record { transitions = fills; end = kept; links = links };
  stays = stays;
  told = λ ks n. record {
    over = λ b m l takes. record {
      transition = record { next = m; slots = visit.slots };
      there = entered b m l (subst (λ q. Takes q b m) is takes);
      next = refl;
      slots = names_grow old.links.items new.links.items links n;
    };
    ends = λ p e. record {
      slots = visit.slots;
      there = ended p (sym is ∙ e);
      names = names_grow old.links.items new.links.items links n;
    };
  };
  pushed = λ ks n names_here c. (
    slots,
    pushed n (subst (λ q. Contains (silent q) n) is c),
    subst (λ q. Names new.links.items slots (named q ks)) (sym is) (names ks names_here),
  );
}

get_push_cases : {X : Type 0} (xs : List X) (x y : X) (q : ℕ) → slice_get (xs ++ x ∷ []) q ≡ Some y → (slice_get xs q ≡ Some y) ⊎ ((q ≡ length xs) × (x ≡ y))
get_push_cases [] x y zero e = inr (refl, same_Some x y e)
get_push_cases [] x y (suc q) e = absurd (none-some y e)
get_push_cases (z ∷ xs) x y zero e = inl e
get_push_cases (z ∷ xs) x y (suc q) e =
    ⊎_elim (λ l. inl l) (λ r. inr (ap suc r.0, r.1)) (get_push_cases xs x y q e)

-- one more row
pub more_rows : (places : List Place) (rows after : List (Option Row)) (row : Option Row) → after ≡ rows ++ row ∷ [] → AreRows places rows →
    ((r : Row) → row ≡ Some r → TellsRow places (length rows) r) → AreRows places after
more_rows places rows after row e all this q r there =
    ⊎_elim (λ l. all q r l) (λ z. subst (λ n. TellsRow places n r) (sym z.0) (this r z.1))
    (get_push_cases rows row (Some r) q (subst (λ xs. slice_get xs q ≡ Some (Some r)) e there))

-- what is written back of a slice of all items
pub written : {X : Type 0} (xs ys : List X) (n : ℕ) → n ≡ length xs → take n (xs ++ ys) ≡ xs
written xs ys n e = ap (λ k. take k (xs ++ ys)) e ∙ take-append_seam xs ys

pub length_more : {X : Type 0} (xs ys : List X) (x : X) (n : ℕ) → ys ≡ xs ++ x ∷ [] → length xs ≡ n → length ys ≡ n + 1
length_more xs ys x n e l = let a = ap (λ zs. length zs) e in let b = length-append xs (x ∷ []) in omega (arith, a, b, l)
