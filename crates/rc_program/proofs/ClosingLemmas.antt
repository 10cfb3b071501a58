-- How what is reached from a place is opened, and the flags over it.
use Rattle.std.proofs.Common.{◌≡◌, ℕ, zero, suc, ◌+◌, ◌<◌, ◌≤◌, List, [], ◌∷◌, ◌++◌, length, map, take, set, ◌⊎◌, inl, inr, ⊎_elim, sym, subst, ap, ◌∙◌, refl, arith, Bool, true, false, true≢false, IsTrue, nat_le, ◌&&◌, ◌||◌, slice_index_or, Vec, append_assoc}
use Rattle.std.specs.List.{Contains}
use Rattle.std.proofs.Math.Bool.{Bool-set, or-false}
use Rattle.std.proofs.Math.Logic.{∥∥₁_elim}
use Rattle.std.proofs.lemmas.Bool.{cases_eq, cases_lt}
use Rattle.std.proofs.lemmas.List.{get_or-map, get_or_append_left, map_push, take_more, length-append, length-set, map-set, get_or-set_same, get_or-set_other, append-nil}
use Rattle.std.proofs.lemmas.List.Elements.{Contains-append_left, Contains-append_right, Contains-append_cases, Contains-push, Contains-push_cases}
use Rattle.std.proofs.lemmas.List.Folds.{list_any_more, list_any_at, Any-from_list_any}
use Rattle.std.proofs.lemmas.Grind.{get_or_default_zero}
use Rattle.std.proofs.Math.ListN.{get_or-eq_default}
use Rattle.rc_pattern.specs.Re.{Range}
use Rattle.rc_program.specs.Program.{Place, choice, in_ranges, place_at}
use Rattle.rc_program.specs.declared.place.Place as code
use Rattle.rc_program.specs.Places.{place_of, places_of}
use Rattle.rc_program.specs.Heads.{silent, Reaches, here, on, may_take, MayGoOn, TellsHeads, AreHeads, flags_in}
use Rattle.rc_program.specs.Closing.{Opens, OpensPast, AreOpened, IsPast, AreReached, takes, any_takes, AreFlags, AreJoined}
use Rattle.rc_program.proofs.HeadsLemmas.{further}

or_same : (x y z : Bool) → ((x || y) || z) ≡ (x || (y || z))
or_same true y z = refl
or_same false y z = refl

-- the one test after the other
pub joined_both : (limit : ℕ) (s t : ℕ → Bool) (xs ys zs : List Bool) → AreJoined limit s xs ys → AreJoined limit t ys zs →
    AreJoined limit (λ b. s b || t b) xs zs
joined_both limit s t xs ys zs h k b small = k b small ∙ ap (λ x. x || t b) (h b small) ∙ or_same (slice_index_or xs b false) (s b) (t b)

-- tests that agree below the limit
pub joined_same : (limit : ℕ) (s t : ℕ → Bool) (xs ys : List Bool) → ((b : ℕ) → b < limit → s b ≡ t b) → AreJoined limit s xs ys → AreJoined limit t xs ys
joined_same limit s t xs ys e h b small = h b small ∙ ap (λ x. slice_index_or xs b false || x) (e b small)

abbrev pub in_range : Range → ℕ → Bool
in_range r b = nat_le r.0 b && nat_le b r.1

in_ranges_push : (rs : List Range) (r : Range) (b : ℕ) → in_ranges (rs ++ r ∷ []) b ≡ (in_ranges rs b || in_range r b)
in_ranges_push [] r b = or-false _
in_ranges_push (s ∷ rs) r b = ap (λ t. in_range s b || t) (in_ranges_push rs r b) ∙ sym (or_same (in_range s b) (in_ranges rs b) (in_range r b))

pub ranges_more : {X : Type 0} (f : X → Range) (rs : List X) (i : ℕ) (d : X) (b : ℕ) → i < length rs →
    in_ranges (map f (take (i + 1) rs)) b ≡ (in_ranges (map f (take i rs)) b || in_range (f (slice_index_or rs i d)) b)
ranges_more {X} f rs i d b lt =
    ap (λ (l : List X). in_ranges (map f l) b) (take_more rs i d lt) ∙ ap (λ (l : List Range). in_ranges l b) (map_push f (take i rs) (slice_index_or rs i d))
    ∙ in_ranges_push (map f (take i rs)) (f (slice_index_or rs i d)) b

-- one more of the ranges
pub joined_range : {X : Type 0} (limit : ℕ) (f : X → Range) (rs : List X) (i : ℕ) (d : X) (xs ys zs : List Bool) → i < length rs →
    AreJoined limit (in_ranges (map f (take i rs))) xs ys → AreJoined limit (in_range (f (slice_index_or rs i d))) ys zs →
    AreJoined limit (in_ranges (map f (take (i + 1) rs))) xs zs
joined_range limit f rs i d xs ys zs lt h k =
    joined_same limit (λ b. in_ranges (map f (take i rs)) b || in_range (f (slice_index_or rs i d)) b) (in_ranges (map f (take (i + 1) rs))) xs zs
    (λ b small. sym (ranges_more f rs i d b lt))
    (joined_both limit (in_ranges (map f (take i rs))) (in_range (f (slice_index_or rs i d))) xs ys zs h k)

-- the place that code reads
pub place_read : (ps : List code.Place) (i : ℕ) (q : code.Place) → i < length ps → q ≡ slice_index_or ps i q → place_at (places_of ps) i ≡ place_of q
place_read ps i q lt e = get_or-map place_of ps i q (choice []) lt ∙ ap place_of (sym e)

-- two opened one after the other
pub opens_both : (m n : ℕ) (xs ys zs : List ℕ) → Opens (m ∷ []) xs ys → Opens (n ∷ []) ys zs → Opens (m ∷ n ∷ []) xs zs
opens_both m n xs ys zs h k = record {
  kept = (
    h.kept.0 ++ k.kept.0,
    k.kept.1 ∙ ap (λ l. l ++ k.kept.0) h.kept.1 ∙ append_assoc xs h.kept.0 k.kept.0,
    λ q c. ⊎_elim (λ a. Contains-append_left (m ∷ []) (n ∷ []) q (h.kept.2 q a)) (λ b. Contains-append_right (m ∷ []) (n ∷ []) q (k.kept.2 q b))
        (Contains-append_cases h.kept.0 k.kept.0 q c),
  );
  has = λ q c. ⊎_elim (λ a. subst (λ l. Contains l q) (sym k.kept.1) (Contains-append_left ys k.kept.0 q (h.has q a))) (λ b. k.has q b)
      (Contains-append_cases (m ∷ []) (n ∷ []) q c);
}

pub opened_begins : (places : List Place) (tables : List (List Bool)) (p : ℕ) (none opened : List ℕ) → none ≡ [] → Opens (p ∷ []) none opened →
    AreOpened places tables p 0 opened
opened_begins places tables p none opened e h = record {
  starts = h.has p (Contains-push [] p);
  reached = λ q c. ⊎_elim (λ (a : Contains none q). absurd (omega (arith, a.1, ap (length {A = ℕ}) e)))
      (λ b. ⊎_elim (λ (a : Contains [] q). absurd (omega (arith, a.1))) (λ s. subst (Reaches places p) s here) (Contains-push_cases [] p q (h.kept.2 q b)))
      (Contains-append_cases none h.kept.0 q (subst (λ l. Contains l q) h.kept.1 c));
  within = omega arith;
  closed = λ k m lt no c. absurd (omega arith);
}

-- nothing is opened
opens_none : (xs : List ℕ) → Opens [] xs xs
opens_none xs = record {
  kept = ([], sym (append-nil xs), λ q c. c);
  has = λ q c. absurd (omega (arith, c.1));
}

-- what stands silently in one more is opened
pub opened_more : (places : List Place) (tables : List (List Bool)) (p next from : ℕ) (opened new : List ℕ) → AreOpened places tables p next opened →
    next < length opened → from ≡ slice_index_or opened next from → OpensPast places tables from opened new → AreOpened places tables p (next + 1) new
opened_more places tables p next from opened new h lt e k = ⊎_elim known unknown (cases_lt 0 (length (slice_index_or tables from [])))
  where
    from_is : slice_index_or opened next 0 ≡ from
    from_is = sym (get_or_default_zero opened next from lt) ∙ sym e

    known : 0 < length (slice_index_or tables from []) → AreOpened places tables p (next + 1) new
    known long = subst (AreOpened places tables p (next + 1)) (sym (k.0 long)) (record {
      starts = h.starts;
      reached = h.reached;
      within = omega arith;
      closed = λ i m small no c.
          ⊎_elim
          (λ (s : i ≡ next).
          let f : slice_index_or opened i 0 ≡ from = ap (λ j. slice_index_or opened j 0) s ∙ from_is in
          absurd (omega (arith, long, subst (λ j. length (slice_index_or tables j []) ≡ 0) f no)))
          (λ ne. h.closed i m (omega (arith, ne, small)) no c)
          (cases_eq i next);
    })

    unknown : length (slice_index_or tables from []) ≤ 0 → AreOpened places tables p (next + 1) new
    unknown short = step (k.1 (omega arith))
      where
        step : Opens (silent (place_at places from)) opened new → AreOpened places tables p (next + 1) new
        step o = record {
          starts = still p h.starts;
          reached = λ q c. ⊎_elim (λ a. h.reached q a) (λ b. further places q (h.reached from (next, lt, sym e)) (o.kept.2 q b))
              (Contains-append_cases opened o.kept.0 q (subst (λ l. Contains l q) o.kept.1 c));
          within = omega (arith, ap (length {A = ℕ}) o.kept.1, length-append opened o.kept.0);
          closed = λ i m small no c.
              let same : slice_index_or new i 0 ≡ slice_index_or opened i 0 =
              ap (λ l. slice_index_or l i 0) o.kept.1 ∙ get_or_append_left opened o.kept.0 0 i (omega arith) in
              let no2 : length (slice_index_or tables (slice_index_or opened i 0) []) ≡ 0 = subst (λ n. length (slice_index_or tables n []) ≡ 0) same no in
              let c2 : Contains (silent (place_at places (slice_index_or opened i 0))) m = subst (λ n. Contains (silent (place_at places n)) m) same c in
              ⊎_elim
              (λ (s : i ≡ next).
              o.has m (subst (λ n. Contains (silent (place_at places n)) m) (ap (λ j. slice_index_or opened j 0) s ∙ from_is) c2))
              (λ ne. still m (h.closed i m (omega (arith, ne, small)) no2 c2))
              (cases_eq i next);
        }
          where
            still : (q : ℕ) → Contains opened q → Contains new q
            still q c = subst (λ l. Contains l q) (sym o.kept.1) (Contains-append_left opened o.kept.0 q c)

-- where all have been gone through, what is reached is opened, or reached from what has flags
pub opened_all : (places : List Place) (tables : List (List Bool)) (p : ℕ) (opened : List ℕ) → AreOpened places tables p (length opened) opened →
    AreReached places tables p opened
opened_all places tables p opened h = record { reached = h.reached; listed = λ q r. lead r h.starts }
  where
    lead : {a z : ℕ} → Reaches places a z → Contains opened a → Contains opened z ⊎ IsPast places tables opened z
    lead here c = inl c
    lead (on {p = a} m s r) c =
        let is : slice_index_or opened c.0 0 ≡ a = sym (get_or_default_zero opened c.0 a c.1) ∙ c.2 in
        ⊎_elim (λ long. inr (a, c, long, on m s r))
        (λ short. lead r (h.closed c.0 m c.1 (subst (λ n. length (slice_index_or tables n []) ≡ 0) (sym is) (omega (arith, short)))
        (subst (λ n. Contains (silent (place_at places n)) m) (sym is) s)))
        (cases_lt 0 (length (slice_index_or tables a [])))

-- one more of the places
pub flags_more : (places : List Place) (tables : List (List Bool)) (opened : List ℕ) (i d : ℕ) (olds new : List Bool) → i < length opened →
    length new ≡ length olds → AreFlags places tables (take i opened) olds →
    AreJoined 256 (takes places tables (slice_index_or opened i d)) olds new → AreFlags places tables (take (i + 1) opened) new
flags_more places tables opened i d olds new lt len h k = record {
  whole = len ∙ h.whole;
  exact = λ b small.
      k b small ∙ ap (λ t. t || takes places tables (slice_index_or opened i d) b) (h.exact b small)
      ∙ sym (list_any_more (λ q. takes places tables q b) opened i d lt);
}

-- what is reached from what is reached
on_from : (places : List Place) {p m q : ℕ} → Reaches places p m → Reaches places m q → Reaches places p q
on_from places here r = r
on_from places (on k s a) r = on k s (on_from places a r)

or_cases : (x y : Bool) → IsTrue (x || y) → IsTrue x ⊎ IsTrue y
or_cases true y e = inl refl
or_cases false y e = inr e

or_left : (x y : Bool) → IsTrue x → IsTrue (x || y)
or_left x y e = ap (λ t. t || y) e

or_right : (x y : Bool) → IsTrue y → IsTrue (x || y)
or_right true y e = refl
or_right false y e = e

-- a set flag is one of a place
flag_known : (flags : List Bool) (b : ℕ) → IsTrue (slice_index_or flags b false) → 0 < length flags
flag_known [] b e = absurd (true≢false (sym e))
flag_known (x ∷ flags) b e = omega arith

-- flags are those of a place of the program
known_inside : (places : List Place) (tables : List (List Bool)) (q : ℕ) → length tables ≡ length places → 0 < length (slice_index_or tables q []) →
    q < length places
known_inside places tables q count long =
    ⊎_elim (λ lt. omega (arith, lt, count))
    (λ ge. absurd (omega (arith, ap (length {A = Bool}) (get_or-eq_default tables [] ge), long)))
    (cases_lt q (length tables))

-- the flags over all places that are reached
pub flags_are : (places : List Place) (tables : List (List Bool)) (p : ℕ) (opened : List ℕ) (flags : List Bool) → AreHeads places tables →
    AreReached places tables p opened → AreFlags places tables opened flags → TellsHeads places p flags
flags_are places tables p opened flags heads all h = record {
  whole = h.whole;
  exact = λ b small. (
    λ e. let a = Any-from_list_any (λ q. takes places tables q b) opened (sym (h.exact b small) ∙ e) in
        goes b small a.1 (all.reached a.1 (a.0, a.2, a.3)) a.4,
    λ m. h.exact b small ∙ ∥∥₁_elim m (hlevel (Bool-set)) (λ w. taken b small w.0 w.2 (all.listed w.0 w.1)),
  );
}
  where
    tells : (q : ℕ) → 0 < length (slice_index_or tables q []) → TellsHeads places q (slice_index_or tables q [])
    tells q long = heads.tell q (known_inside places tables q heads.count long) long

    goes : (b : ℕ) → b < 256 → (q : ℕ) → Reaches places p q → IsTrue (takes places tables q b) → MayGoOn places p b
    goes b small q r e =
        ⊎_elim
        (λ f. ∥∥₁_elim (((tells q (flag_known (slice_index_or tables q []) b f)).exact b small).0 f) (λ x y. squash₁ x y)
        (λ w. ∣ (w.0, on_from places r w.1, w.2) ∣₁))
        (λ f. ∣ (q, r, f) ∣₁)
        (or_cases (slice_index_or (slice_index_or tables q []) b false) (may_take (place_at places q) b) e)

    any : (b q : ℕ) → Contains opened q → IsTrue (takes places tables q b) → IsTrue (any_takes places tables opened b)
    any b q c e = list_any_at (λ k. takes places tables k b) opened c.0 q c.1 (ap (λ k. takes places tables k b) c.2 ∙ e)

    taken : (b : ℕ) → b < 256 → (q : ℕ) → IsTrue (may_take (place_at places q) b) → Contains opened q ⊎ IsPast places tables opened q →
        IsTrue (any_takes places tables opened b)
    taken b small q e l =
        ⊎_elim (λ c. any b q c (or_right (slice_index_or (slice_index_or tables q []) b false) (may_take (place_at places q) b) e))
        (λ k. any b k.0 k.1
        (or_left (slice_index_or (slice_index_or tables k.0 []) b false) (may_take (place_at places k.0) b)
        (((tells k.0 k.2).exact b small).1 ∣ (q, k.3, e) ∣₁)))
        l

-- no place has flags
pub heads_none : (places : List Place) (tables : List (List Bool)) → length tables ≡ length places →
    ((p : ℕ) → length (slice_index_or tables p []) ≡ 0) → AreHeads places tables
heads_none places tables count none = record {
  count = count;
  tell = λ p lt long. absurd (omega (arith, none p, long));
}

zero_more : (xs : List (List Bool)) (x : List Bool) → length x ≡ 0 → ((p : ℕ) → length (slice_index_or xs p []) ≡ 0) → (p : ℕ) →
    length (slice_index_or (xs ++ x ∷ []) p []) ≡ 0
zero_more [] x e h zero = e
zero_more [] x e h (suc p) = refl
zero_more (y ∷ xs) x e h zero = h zero
zero_more (y ∷ xs) x e h (suc p) = zero_more xs x e (λ q. h (suc q)) p

-- one more place has none
pub none_more : {Y : Type 0} (vs ws : List (Vec Bool Y)) (v : Vec Bool Y) → ws ≡ vs ++ v ∷ [] → length v.items ≡ 0 →
    ((p : ℕ) → length (slice_index_or (flags_in vs) p []) ≡ 0) → (p : ℕ) → length (slice_index_or (flags_in ws) p []) ≡ 0
none_more {Y} vs ws v e none h p =
    subst (λ (l : List (List Bool)). length (slice_index_or l p []) ≡ 0)
    (sym (ap (λ (l : List (Vec Bool Y)). flags_in l) e ∙ map_push (λ (w : Vec Bool Y). w.items) vs v)) (zero_more (flags_in vs) v.items none h p)

-- one more place has its flags
pub heads_more : {Y : Type 0} (places : List Place) (i : ℕ) (v : Vec Bool Y) (vs ws : List (Vec Bool Y)) → ws ≡ set vs i v →
    AreHeads places (flags_in vs) → i < length places → (0 < length v.items → TellsHeads places i v.items) → AreHeads places (flags_in ws)
heads_more {Y} places i v vs ws e h lt k =
    subst (AreHeads places) (sym all) (record {
      count = length-set (flags_in vs) i v.items ∙ h.count;
      tell = λ p small.
          ⊎_elim (λ (s : p ≡ i). subst (λ q. P q (slice_index_or (set (flags_in vs) i v.items) q [])) (sym s) (subst (P i) (sym here_is) k))
          (λ ne. subst (P p) (sym (get_or-set_other (flags_in vs) i p v.items [] (λ s. ne s))) (h.tell p small))
          (cases_eq p i);
    })
  where
    items : Vec Bool Y → List Bool
    items w = w.items

    all : flags_in ws ≡ set (flags_in vs) i v.items
    all = ap (λ (l : List (Vec Bool Y)). flags_in l) e ∙ map-set items vs i v

    P : ℕ → List Bool → Type 0
    P q flags = 0 < length flags → TellsHeads places q flags

    here_is : slice_index_or (set (flags_in vs) i v.items) i [] ≡ v.items
    here_is = get_or-set_same (flags_in vs) i v.items [] (omega (arith, h.count, lt))
