-- A walk, a byte at a time: each byte is read behind an epsilon path.
use Rattle.std.proofs.Common.{◌≡◌, ℕ, ◌+◌, ◌<◌, ◌≤◌, ◌⊎◌, Bool, true, false, ◌||◌, IsTrue, List, [], ◌∷◌, map, Option, Some, None, nat_eq, if◌then◌else◌, inl, inr, ⊎_elim, sym, subst, ap, ◌∙◌, refl, arith}
use Rattle.std.specs.List.{Contains}
use Rattle.std.specs.Option.{option_or}
use Rattle.rc_walks.specs.Walks.{Pair, IsIn, IsWalk, stops, goes}
use Rattle.rc_program.specs.Text.{ahead, holds}
use Rattle.rc_program.specs.Program.{Place, choice, byte, branch, scalar, guard, slot, accept, place_at, pair_at, ways_out}
use Rattle.rc_program.specs.Heads.{silent}
use Rattle.rc_program.specs.Answer.{Search, ends, last_of, last_visit, names, next_of, only}
use Rattle.rc_program.proofs.AnswerLemmas.{last_of_more, match_place_is}
use Rattle.rc_program.proofs.WayLemmas.{ways_onward}
use Rattle.rc_program.specs.Answer.{pattern_at}
use Rattle.rc_onepass.specs.OnePass.{Leads, here, on, Takes, named}
use Rattle.rc_onepass.specs.Walked.{has}
use Rattle.rc_onepass.proofs.WayLemmas.{named_reads, out_any, out_over}

leads_on : (places : List Place) (ks js : List ℕ) (q m n : ℕ) → Leads places ks q js m → Contains (silent (place_at places m)) n →
    Leads places ks q (named (place_at places m) js) n
leads_on places ks js q m n here c = on n c here
leads_on places ks js q m n (on k d rest) c = on k d (leads_on places _ js k m n rest c)

-- a visit counts for its slot alone
visit_named : (q : Place) (k at : ℕ) (ks : List ℕ) (o x : Option ℕ) →
    option_or (option_or o (if names q k then Some at else None)) (if has ks k then Some at else x) ≡ option_or o (if has (named q ks) k then Some at else x)
visit_named (slot j n) k at ks (Some y) x = refl
visit_named (slot j n) k at ks None x = by_test (nat_eq j k)
  where
    by_test : (c : Bool) → option_or (if c then Some at else None) (if has ks k then Some at else x) ≡ (if c || has ks k then Some at else x)
    by_test true = refl
    by_test false = refl
visit_named (choice ns) k at ks (Some y) x = refl
visit_named (choice ns) k at ks None x = refl
visit_named (byte rs n) k at ks (Some y) x = refl
visit_named (byte rs n) k at ks None x = refl
visit_named (branch ts) k at ks (Some y) x = refl
visit_named (branch ts) k at ks None x = refl
visit_named (scalar rs n) k at ks (Some y) x = refl
visit_named (scalar rs n) k at ks None x = refl
visit_named (guard l n) k at ks (Some y) x = refl
visit_named (guard l n) k at ks None x = refl
visit_named (accept p) k at ks (Some y) x = refl
visit_named (accept p) k at ks None x = refl

accept_silent : (q : Place) (p k at : ℕ) → q ≡ accept p → (if names q k then Some at else None) ≡ None
accept_silent q p k at e = ap (λ (z : Place). if names z k then Some at else None) e

module _ (s : Search) where
  abbrev W : Pair → List Pair
  W = next_of s

  abbrev E : Pair → Type 0
  E n = IsTrue (ends s n)

  -- The walk reads a byte behind an epsilon path from q. The rest leads on from the next place.
  pub record Reading (ks : List ℕ) (q at b : ℕ) (v : List Pair) (first : List ℕ) : Type 0 where
    pub slots : List ℕ
    pub place : ℕ
    pub next : ℕ
    pub leads : Leads s.places ks q slots place
    pub takes : Takes (place_at s.places place) b next
    pub passed : List Pair
    pub rest : List Pair
    pub walk : IsWalk W E passed ((next, at + 1) ∷ []) rest
    pub last : last_of rest ≡ last_of v
    pub visits : (k : ℕ) (x : Option ℕ) → option_or (last_visit s.places k v) (if has first k then Some at else x)
        ≡ option_or (last_visit s.places k rest) (if has slots k then Some at else x)

  -- how a walk comes to a pair: by the epsilon path alone, or over the byte behind it
  abbrev Comes : List ℕ → ℕ → ℕ → ℕ → List ℕ → Pair → Type 0
  Comes ks q at b js m =
      (Leads s.places ks q js m.0 × (m.1 ≡ at)) ⊎ ((l : ℕ) × Leads s.places ks q js l × Takes (place_at s.places l) b m.0 × (m.1 ≡ at + 1))

  module _ (ks : List ℕ) (q at b : ℕ) (bs : List ℕ) (small : b < 128) (there : ahead s.text s.hi at ≡ b ∷ bs) where
    comes_on : (js : List ℕ) (n : Pair) → Leads s.places ks q js n.0 → n.1 ≡ at → (m : Pair) → IsIn m (W n) →
        Comes ks q at b (named (place_at s.places n.0) js) m
    comes_on js n leads e m i =
        let out : IsIn m (map (pair_at at) (ways_out (λ l. holds s.text l at) (b ∷ bs) (place_at s.places n.0))) =
        subst (λ bytes. IsIn m (map (pair_at at) (ways_out (λ l. holds s.text l at) bytes (place_at s.places n.0)))) there
        (subst (λ x. IsIn m (map (pair_at x) (ways_out (λ l. holds s.text l x) (ahead s.text s.hi x) (place_at s.places n.0)))) e i) in
        ⊎_elim (λ r. inl (leads_on s.places ks js q n.0 m.0 leads r.0, r.1))
        (λ r. inr (
          n.0,
          subst (λ zs. Leads s.places ks q zs n.0) (sym (named_reads (place_at s.places n.0) b m.0 js r.0)) leads,
          r.0,
          r.1,
        ))
        (out_over (λ l. holds s.text l at) b bs (place_at s.places n.0) at m small out)

    -- from there on the walk reads a byte, or it has read it
    reading : {passed f v : List Pair} → IsWalk W E passed f v → (js : List ℕ) → ((m : Pair) → IsIn m f → Comes ks q at b js m) →
        at < (last_of v).1 → Reading ks q at b v js
    reading (stops n is fresh e) js comes lt =
        ⊎_elim (λ r. absurd (let same : n.1 ≡ at = r.1 in omega (arith, same, lt)))
        (λ r. record {
          slots = js;
          place = r.0;
          next = n.0;
          leads = r.1;
          takes = r.2;
          passed = _;
          rest = n ∷ [];
          walk = stops n (inl (ap (λ i. (n.0, i)) (sym r.3))) fresh e;
          last = refl;
          visits = λ k x. refl;
        })
        (comes n is)
    reading (goes {w = w} n is fresh rest) js comes lt =
        ⊎_elim
        (λ r.
        let end : last_of (n ∷ w) ≡ last_of w = last_of_more W E n rest in
        let further = reading rest (named (place_at s.places n.0) js) (comes_on js n r.0 r.1) (subst (λ (p : Pair). at < p.1) end lt) in
        record {
          slots = further.slots;
          place = further.place;
          next = further.next;
          leads = further.leads;
          takes = further.takes;
          passed = further.passed;
          rest = further.rest;
          walk = further.walk;
          last = further.last ∙ sym end;
          visits = λ k x.
              ap (λ i. option_or (option_or (last_visit s.places k w) (if names (place_at s.places n.0) k then Some i else None)) (if has js k then Some at else x)) r.1
              ∙ visit_named (place_at s.places n.0) k at js (last_visit s.places k w) x ∙ further.visits k x;
        })
        (λ r. record {
          slots = js;
          place = r.0;
          next = n.0;
          leads = r.1;
          takes = r.2;
          passed = _;
          rest = n ∷ w;
          walk = goes n (inl (ap (λ i. (n.0, i)) (sym r.3))) fresh rest;
          last = refl;
          visits = λ k x. refl;
        })
        (comes n is)

  pub reads_byte : (q at b : ℕ) (bs : List ℕ) {passed v : List Pair} → b < 128 → ahead s.text s.hi at ≡ b ∷ bs → IsWalk W E passed ((q, at) ∷ []) v →
      at < (last_of v).1 → Reading [] q at b v []
  reads_byte q at b bs small there walk lt =
      reading [] q at b bs small there walk []
      (λ m i. ⊎_elim
      (λ e. inl (subst (λ n. Leads s.places [] q [] n) (ap (λ (p : Pair). p.0) e) here, sym (ap (λ (p : Pair). p.1) e)))
      (λ never. absurd never) i)
      lt

  -- The walk ends where it is, behind an epsilon path from q.
  pub record Ending (ks : List ℕ) (q at : ℕ) (v : List Pair) (first : List ℕ) : Type 0 where
    pub slots : List ℕ
    pub place : ℕ
    pub pattern : ℕ
    pub leads : Leads s.places ks q slots place
    pub ended : place_at s.places place ≡ accept pattern
    pub visits : (k : ℕ) (x : Option ℕ) → option_or (last_visit s.places k v) (if has first k then Some at else x) ≡ (if has slots k then Some at else x)

  -- a walk doesn't go back
  past : {passed f v : List Pair} → IsWalk W E passed f v → (x : ℕ) → ((m : Pair) → IsIn m f → x ≤ m.1) → x ≤ (last_of v).1
  past (stops n is fresh e) x low = low n is
  past (goes {w = w} n is fresh rest) x low =
      subst (λ (p : Pair). x ≤ p.1) (sym (last_of_more W E n rest))
      (past rest x (λ m i. let a = low n is in let c = ways_onward s.places s.text s.hi n m i in omega (arith, a, c)))

  abbrev Stops : List ℕ → ℕ → ℕ → List ℕ → Pair → Type 0
  Stops ks q at js m = (Leads s.places ks q js m.0 × (m.1 ≡ at)) ⊎ (at < m.1)

  module _ (ks : List ℕ) (q at : ℕ) where
    stops_on : (js : List ℕ) (n : Pair) → Leads s.places ks q js n.0 → n.1 ≡ at → (m : Pair) → IsIn m (W n) →
        Stops ks q at (named (place_at s.places n.0) js) m
    stops_on js n leads e m i =
        ⊎_elim (λ r. inl (leads_on s.places ks js q n.0 m.0 leads r.0, r.1 ∙ e)) (λ l. inr (omega (arith, l, e)))
        (out_any (λ l. holds s.text l n.1) (ahead s.text s.hi n.1) (place_at s.places n.0) n.1 m i)

    ending : {passed f v : List Pair} → IsWalk W E passed f v → (js : List ℕ) → ((m : Pair) → IsIn m f → Stops ks q at js m) → (last_of v).1 ≡ at →
        Ending ks q at v js
    ending (stops n is fresh e) js comes last =
        ⊎_elim
        (λ r.
        let p : ℕ = pattern_at (place_at s.places n.0) in
        let ended : place_at s.places n.0 ≡ accept p = match_place_is (only s.anchoring) (place_at s.places n.0) e in
        record {
          slots = js;
          place = n.0;
          pattern = p;
          leads = r.0;
          ended = ended;
          visits = λ k x. ap (λ o. option_or (option_or None o) (if has js k then Some at else x)) (accept_silent (place_at s.places n.0) p k n.1 ended);
        })
        (λ l. absurd (omega (arith, l, last)))
        (comes n is)
    ending (goes {w = w} n is fresh rest) js comes last =
        let end : last_of (n ∷ w) ≡ last_of w = last_of_more W E n rest in
        let lasts : (last_of w).1 ≡ at = subst (λ (p : Pair). p.1 ≡ at) end last in
        ⊎_elim
        (λ r.
        let further = ending rest (named (place_at s.places n.0) js) (stops_on js n r.0 r.1) lasts in
        record {
          slots = further.slots;
          place = further.place;
          pattern = further.pattern;
          leads = further.leads;
          ended = further.ended;
          visits = λ k x.
              ap (λ i. option_or (option_or (last_visit s.places k w) (if names (place_at s.places n.0) k then Some i else None)) (if has js k then Some at else x)) r.1
              ∙ visit_named (place_at s.places n.0) k at js (last_visit s.places k w) x ∙ further.visits k x;
        })
        (λ l. absurd (let low = past rest n.1 (λ m i. ways_onward s.places s.text s.hi n m i) in omega (arith, l, low, lasts)))
        (comes n is)

  pub ends_here : (q at : ℕ) {passed v : List Pair} → IsWalk W E passed ((q, at) ∷ []) v → (last_of v).1 ≡ at → Ending [] q at v []
  ends_here q at walk last =
      ending [] q at walk []
      (λ m i. ⊎_elim
      (λ e. inl (subst (λ n. Leads s.places [] q [] n) (ap (λ (p : Pair). p.0) e) here, sym (ap (λ (p : Pair). p.1) e)))
      (λ never. absurd never) i)
      last
