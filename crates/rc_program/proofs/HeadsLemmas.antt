-- Where no walk may go on over the byte ahead no walk sets out.
use Rattle.std.proofs.Common.{◌≡◌, ℕ, ◌<◌, ◌⊎◌, List, [], ◌∷◌, length, map, inl, inr, ⊎_elim, sym, subst, ap, ◌∙◌, refl, arith, Bool, true, false, true≢false, IsTrue, Option, Some, nat_le, ◌||◌, if◌then◌else◌, slice_get, slice_index_or, Vec, ◌==◌, ◌&&◌, ◌++◌, ◌+◌, ◌/◌, ◌≤◌, None, ap₂, slice_index, encode_utf8}
use Rattle.std.proofs.lemmas.Bool.{cases_Bool, cases_lt, le-leb, leb-true, eqb-false, and_parts, and_from, or_left, or_right, or_cases}
use Rattle.std.proofs.lemmas.Bool.Decides.{nat_tests}
use Rattle.std.specs.List.{Contains}
use Rattle.std.proofs.lemmas.List.{get_or-map, length-map}
use Rattle.std.proofs.lemmas.List.Elements.{Contains-append_right}
use Rattle.std.proofs.lemmas.Option.{none-some, same_Some}
use Rattle.rc_pattern.specs.Re.{Range}
use Rattle.rc_pattern.specs.declared.hir.Look.{Look}
use Rattle.rc_walks.specs.Walks.{Pair, IsIn, IsWalk, stops, goes, HasNoWalk}
use Rattle.rc_program.specs.Text.{Text, ahead, holds}
use Rattle.rc_program.specs.Scalars.{scalar_at}
use Rattle.rc_program.specs.Program.{Place, choice, byte, branch, scalar, guard, slot, accept, Way, stays, reads, in_ranges, over_scalar, ways_out, pair_at, place_at, ways}
use Rattle.rc_program.specs.declared.place.Place as code
use Rattle.rc_program.proofs.SideLemmas.{scalar_law, encode_one, encode_two, encode_three, encode_four}
use Rattle.rc_program.specs.Places.{place_of, places_of}
use Rattle.rc_program.specs.Heads.{silent, Reaches, here, on, may_take, MayGoOn, TellsHeads, AreHeads, flags_in, HeadsLaw, lead, leads}

-- what is reached goes on to what stands in it
pub further : (places : List Place) {p q : ℕ} (m : ℕ) → Reaches places p q → Contains (silent (place_at places q)) m → Reaches places p m
further places m here s = on m s here
further places m (on k h r) s = on k h (further places m r s)

-- the pair is that of a silent way
abbrev pub StaysIn : Place → ℕ → Pair → Type 0
StaysIn q i m = (k : ℕ) × Contains (silent q) k × (m ≡ (k, i))

-- every one of the ways out reads nothing
abbrev pub AllStay : Place → ℕ → List Way → Type 0
AllStay q i ws = (m : Pair) → IsIn m (map (pair_at i) ws) → StaysIn q i m

-- the first of a list
first_in : (n : ℕ) (ns : List ℕ) → Contains (n ∷ ns) n
first_in n ns = (0, omega arith, refl)

choices_stay : (i : ℕ) (ns : List ℕ) (m : Pair) → IsIn m (map (pair_at i) (map stays ns)) → (k : ℕ) × Contains ns k × (m ≡ (k, i))
choices_stay i [] m h = absurd h
choices_stay i (n ∷ ns) m h =
    ⊎_elim (λ e. (n, first_in n ns, sym e)) (λ k. let r = choices_stay i ns m k in (r.0, Contains-append_right (n ∷ []) ns r.0 r.1, r.2)) h

one_stays : (q : Place) (i n : ℕ) (b : Bool) → Contains (silent q) n → AllStay q i (if b then stays n ∷ [] else [])
one_stays q i n true s m h = ⊎_elim (λ e. (n, s, sym e)) (λ k. absurd k) h
one_stays q i n false s m h = absurd h

-- no way out where the test fails
none_where : (q : Place) (i : ℕ) (b : Bool) (w : Way) → b ≡ false → AllStay q i (if b then w ∷ [] else [])
none_where q i true w e = absurd (true≢false e)
none_where q i false w e = λ m h. absurd h

-- which of four lengths, and the lead of it
abbrev Led : ℕ → Type 0
Led c = ((c < 128) × (lead c ≡ c)) ⊎ (((128 ≤ c) × (c < 2048) × (lead c ≡ 192 + c / 64))
    ⊎ (((2048 ≤ c) × (c < 65536) × (lead c ≡ 224 + c / 4096)) ⊎ ((65536 ≤ c) × (lead c ≡ 240 + c / 262144))))

abbrev first : List ℕ → ℕ
first xs = slice_index xs 0

led : (c : ℕ) → Led c
led c =
    ⊎_elim (λ l. inl (l, ap first (encode_one c l)))
    (λ g1. ⊎_elim (λ l. inr (inl (g1, l, ap first (encode_two c g1 l))))
    (λ g2. ⊎_elim (λ l. inr (inr (inl (g2, l, ap first (encode_three c g2 l))))) (λ g3. inr (inr (inr (g3, ap first (encode_four c g3))))) (cases_lt c 65536))
    (cases_lt c 2048)) (cases_lt c 128)

some_encoded : (c : ℕ) → 0 < length (encode_utf8 c)
some_encoded c =
    ⊎_elim (λ l. omega (arith, ap length (encode_one c l)))
    (λ g1. ⊎_elim (λ l. omega (arith, ap length (encode_two c g1 l)))
    (λ g2. ⊎_elim (λ l. omega (arith, ap length (encode_three c g2 l))) (λ g3. omega (arith, ap length (encode_four c g3))) (cases_lt c 65536))
    (cases_lt c 2048)) (cases_lt c 128)

lead_rises : (a c : ℕ) → a ≤ c → lead a ≤ lead c
lead_rises a c le = let x = led a in let y = led c in grind arith

-- the lead of a scalar of the ranges lies between those of a range's ends
leads_have : (rs : List Range) (c : ℕ) → in_ranges rs c ≡ true → in_ranges (map leads rs) (lead c) ≡ true
leads_have [] c e = e
leads_have (r ∷ rs) c e =
    ⊎_elim
    (λ here.
    let p = and_parts (nat_le r.0 c) (nat_le c r.1) here in
    or_left (nat_le (lead r.0) (lead c) && nat_le (lead c) (lead r.1)) (in_ranges (map leads rs) (lead c))
    (and_from (nat_le (lead r.0) (lead c)) (nat_le (lead c) (lead r.1)) (le-leb (lead r.0) (lead c) (lead_rises r.0 c (leb-true r.0 c p.0)))
    (le-leb (lead c) (lead r.1) (lead_rises c r.1 (leb-true c r.1 p.1)))))
    (λ later. or_right (nat_le (lead r.0) (lead c) && nat_le (lead c) (lead r.1)) (in_ranges (map leads rs) (lead c)) (leads_have rs c later))
    (or_cases (nat_le r.0 c && nat_le c r.1) (in_ranges rs c) e)

-- below 128 a byte is the lead of no scalar but its own
below_leads : (r : Range) (b : ℕ) → b < 128 → (nat_le (lead r.0) b && nat_le b (lead r.1)) ≡ (nat_le r.0 b && nat_le b r.1)
below_leads r b low = let x = led r.0 in let y = led r.1 in grind (arith, nat_tests)

pub ascii_leads : (rs : List Range) (b : ℕ) → b < 128 → in_ranges (map leads rs) b ≡ in_ranges rs b
ascii_leads [] b low = refl
ascii_leads (r ∷ rs) b low = ap₂ (λ x y. x || y) (below_leads r b low) (ascii_leads rs b low)

-- the scalar of these bytes has the first of them as its lead
scalar_led : (b c n : ℕ) (bs : List ℕ) → scalar_at (b ∷ bs) ≡ Some (c, n) → lead c ≡ b
scalar_led b c n bs e =
    let r = (scalar_law.begins (b ∷ bs) c n).0 e in same (encode_utf8 c) r.2.0 (some_encoded c) r.2.1
  where
    same : (xs rest : List ℕ) → 0 < length xs → b ∷ bs ≡ xs ++ rest → slice_index xs 0 ≡ b
    same [] rest some is = absurd (omega (arith, some))
    same (x ∷ xs) rest some is = sym (ap first is)

scalar_stays : (rs : List Range) (n i b : ℕ) (bs : List ℕ) → in_ranges (map leads rs) b ≡ false →
    AllStay (scalar rs n) i (over_scalar rs n (scalar_at (b ∷ bs)))
scalar_stays rs n i b bs e = over (scalar_at (b ∷ bs)) refl
  where
    over : (o : Option (ℕ × ℕ)) → scalar_at (b ∷ bs) ≡ o → AllStay (scalar rs n) i (over_scalar rs n o)
    over None is = λ m h. absurd h
    over (Some s) is =
        none_where (scalar rs n) i (in_ranges rs s.0) (reads s.1 n)
        (⊎_elim (λ t. absurd (true≢false (sym (leads_have rs s.0 t) ∙ ap (in_ranges (map leads rs)) (scalar_led b s.0 s.1 bs is) ∙ e))) (λ f. f)
        (cases_Bool (in_ranges rs s.0)))

-- a place takes the byte ahead, or each way out of it reads nothing
pub takes_or_stays : (test : Look → Bool) (b : ℕ) (bs : List ℕ) (i : ℕ) (q : Place) →
    IsTrue (may_take q b) ⊎ AllStay q i (ways_out test (b ∷ bs) q)
takes_or_stays test b bs i (choice ns) = inr (choices_stay i ns)
takes_or_stays test b bs i (byte rs n) =
    ⊎_elim (λ e. inl e) (λ e. inr (none_where (byte rs n) i (in_ranges rs b) (reads 1 n) e)) (cases_Bool (in_ranges rs b))
takes_or_stays test b bs i (branch ts) = inl refl
takes_or_stays test b bs i (scalar rs n) =
    ⊎_elim (λ e. inl e) (λ e. inr (scalar_stays rs n i b bs e)) (cases_Bool (in_ranges (map leads rs) b))
takes_or_stays test b bs i (guard l n) = inr (one_stays (guard l n) i n (test l) (first_in n []))
takes_or_stays test b bs i (slot k n) = inr (one_stays (slot k n) i n true (first_in n []))
takes_or_stays test b bs i (accept p) = inl refl

-- a place that is reached from p takes the byte
abbrev pub Taken : List Place → ℕ → ℕ → Type 0
Taken places p b = (q : ℕ) × Reaches places p q × IsTrue (may_take (place_at places q) b)

-- the pair is that of a place which is reached from p
abbrev pub IsReached : List Place → ℕ → ℕ → Pair → Type 0
IsReached places p i n = (q : ℕ) × Reaches places p q × (n ≡ (q, i))

end_takes : (q : Place) (b : ℕ) → ((k : ℕ) × (q ≡ accept k)) → IsTrue (may_take q b)
end_takes q b h = subst (λ (r : Place). IsTrue (may_take r b)) (sym h.1) refl

-- a walk from places that are reached from p comes to one that takes the byte ahead
pub walk_takes : (places : List Place) (t : Text) (hi p i b : ℕ) (bs : List ℕ) (Ends : Pair → Type 0) →
    ((n : Pair) → Ends n → (k : ℕ) × (place_at places n.0 ≡ accept k)) → ahead t hi i ≡ b ∷ bs →
    {passed from w : List Pair} → IsWalk (ways places t hi) Ends passed from w → ((n : Pair) → IsIn n from → IsReached places p i n) →
    Taken places p b
walk_takes places t hi p i b bs Ends at_end e (stops n h fresh end) reached =
    let r = reached n h in let k = at_end n end in (r.0, r.1, end_takes (place_at places r.0) b (k.0, ap (λ (m : Pair). place_at places m.0) (sym r.2) ∙ k.1))
walk_takes places t hi p i b bs Ends at_end e (goes n h fresh rest) reached =
    let r = reached n h in
    ⊎_elim (λ taken. (r.0, r.1, taken))
    (λ stay. walk_takes places t hi p i b bs Ends at_end e rest (reached_on r.0 r.1 n r.2 stay))
    (takes_or_stays (λ l. holds t l i) b bs i (place_at places r.0))
  where
    reached_on : (q : ℕ) → Reaches places p q → (n : Pair) → n ≡ (q, i) → AllStay (place_at places q) i (ways_out (λ l. holds t l i) (b ∷ bs) (place_at places q)) →
        (m : Pair) → IsIn m (ways places t hi n) → IsReached places p i m
    reached_on q r n same stay m h =
        let h2 : IsIn m (ways places t hi (q, i)) = subst (λ (k : Pair). IsIn m (ways places t hi k)) same h in
        let h3 : IsIn m (map (pair_at i) (ways_out (λ l. holds t l i) (b ∷ bs) (place_at places q))) =
        subst (λ (xs : List ℕ). IsIn m (map (pair_at i) (ways_out (λ l. holds t l i) xs (place_at places q)))) e h2 in
        let s = stay m h3 in
        (s.0, further places s.0 r s.1, s.2)

-- a list has a first element where it gives one
first_is : (xs : List ℕ) (b : ℕ) → slice_get xs 0 ≡ Some b → (bs : List ℕ) × (xs ≡ b ∷ bs)
first_is [] b e = absurd (none-some b e)
first_is (x ∷ xs) b e = (xs, ap (λ y. y ∷ xs) (same_Some x b e))

-- the same for any premise of where walks end
pub none_goes_on : (places : List Place) (t : Text) (hi p i b : ℕ) (Ends : Pair → Type 0) (passed : List Pair) →
    ((n : Pair) → Ends n → (k : ℕ) × (place_at places n.0 ≡ accept k)) → slice_get (ahead t hi i) 0 ≡ Some b → ¬ MayGoOn places p b →
    HasNoWalk (ways places t hi) Ends passed ((p, i) ∷ [])
none_goes_on places t hi p i b Ends passed at_end e none v walk =
    let f = first_is (ahead t hi i) b e in
    none ∣ walk_takes places t hi p i b f.0 Ends at_end f.1 walk (λ n h. ⊎_elim (λ s. (p, here, sym s)) (λ k. absurd k) h) ∣₁

pub heads_law : HeadsLaw
heads_law places t hi p i b ends passed at_end e none = none_goes_on places t hi p i b (λ n. IsTrue (ends n)) passed at_end e none

-- what code reads as the flags of a place are its flags
pub flags_tell : {Y : Type 0} (ps : List code.Place) (vs : List (Vec Bool Y)) (p : ℕ) (v : Vec Bool Y) (flags : List Bool) →
    AreHeads (places_of ps) (flags_in vs) → p < length ps → v ≡ slice_index_or vs p v → flags ≡ v.items → (length flags == 0) ≡ false →
    TellsHeads (places_of ps) p flags
flags_tell {Y} ps vs p v flags h lt e f some =
    let items : Vec Bool Y → List Bool = λ w. w.items in
    let inside : p < length (places_of ps) = omega (arith, length-map ps place_of) in
    let within : p < length vs = omega (arith, h.count, length-map vs items) in
    let same : slice_index_or (flags_in vs) p [] ≡ flags = get_or-map items vs p v [] within ∙ ap items (sym e) ∙ sym f in
    let ne = eqb-false (length flags) 0 some in
    let long : 0 < length flags = omega (arith, ne) in
    subst (TellsHeads (places_of ps) p) same (h.tell p inside (subst (λ (l : List Bool). 0 < length l) (sym same) long))
