-- The places that are still to be appended.
use Rattle.std.proofs.Common.{◌≡◌, ℕ, zero, suc, ◌+◌, ◌-◌, ◌<◌, ◌≤◌, List, [], ◌∷◌, ◌++◌, Bool, Result, Ok, Err, IfOk, sym, ap, ◌∙◌, refl, arith, append_assoc, subst, vec_len, Vec, Global}
use Rattle.std.specs.List.{AllZip}
use Rattle.rc_program.specs.Program.{Place, Part, byte, body_or_out, then_part, optional, plus, copies, up_to, at_least, literal_part, bytes_in_order}
use Rattle.rc_program.specs.Places.{place_of, places_of}
use Rattle.rc_program.specs.declared.place.Place as code
use Rattle.rc_compile.proofs.SizeLemmas.{at_least_some}

-- a list whose members are each a copy of another list's is that list
pub same_members : {T : Type 0} (xs ys : List T) → AllZip (λ x y. y ≡ x) xs ys → ys ≡ xs
same_members [] [] h = refl
same_members [] (y ∷ ys) h = absurd h
same_members (x ∷ xs) [] h = absurd h
same_members (x ∷ xs) (y ∷ ys) h = ap (λ z. z ∷ ys) h.0 ∙ ap (λ zs. x ∷ zs) (same_members xs ys h.1)

-- With the part `left` appended to `now`, the places are those of `all` appended to `begun`.
pub record Emits (slots next : ℕ) (begun : Vec code.Place Global) (all : Part) (now : Vec code.Place Global) (left : Part) : Type 0 where
  pub long : vec_len now + left.size ≡ vec_len begun + all.size
  pub more : places_of now.items ++ left.places slots (vec_len now) next ≡ places_of begun.items ++ all.places slots (vec_len begun) next

-- a part is appended, and the rest is left
pub emits_part : (slots next : ℕ) (begun : Vec code.Place Global) (all : Part) (old new : Vec code.Place Global) (a b : Part) →
    Emits slots next begun all old (then_part a b) → vec_len new ≡ vec_len old + a.size →
    places_of new.items ≡ places_of old.items ++ a.places slots (vec_len old) (vec_len old + a.size) → Emits slots next begun all new b
emits_part slots next begun all old new a b e long more = record {
  long = let h = e.long in omega (arith, h, long);
  more = rw (long, more, append_assoc) e.more;
}

-- one copy is appended, which leads to the place behind it
pub emits_copy : (slots next : ℕ) (begun : Vec code.Place Global) (all : Part) (old new : Vec code.Place Global) (a one two b : Part) (n m after : ℕ) →
    Emits slots next begun all old (copies n a b) → n ≡ suc m → one ≡ a → two ≡ a →
    after ≡ vec_len old + one.size → vec_len new ≡ vec_len old + two.size →
    places_of new.items ≡ places_of old.items ++ two.places slots (vec_len old) after →
    Emits slots next begun all new (copies m a b)
emits_copy slots next begun all old new a one two b n m after e count f g at long more =
    emits_part slots next begun all old new a (copies m a b)
    (subst (λ k. Emits slots next begun all old (copies k a b)) count e)
    (long ∙ ap (λ (q : Part). vec_len old + q.size) g)
    (more ∙ ap (λ (q : Part). places_of old.items ++ q.places slots (vec_len old) after) g
    ∙ ap (λ k. places_of old.items ++ a.places slots (vec_len old) k) (at ∙ ap (λ (q : Part). vec_len old + q.size) f))

copies_hold : (n : ℕ) (a b : Part) → 0 < n → a.size ≤ (copies n a b).size
copies_hold zero a b h = absurd (omega arith)
copies_hold (suc n) a b h = omega arith

-- one more copy is no longer than what is left
pub copy_fits : (n : ℕ) (a one b : Part) (now total : ℕ) → 0 < n → one ≡ a → now + (copies n a b).size ≡ total → now + one.size ≤ total
copy_fits n a one b now total some e long =
    let s : one.size ≡ a.size = ap (λ (q : Part). q.size) e in
    let h = copies_hold n a b some in omega (arith, s, h, long)

copies_above : (n : ℕ) (a b : Part) → b.size ≤ (copies n a b).size
copies_above zero a b = omega arith
copies_above (suc n) a b = let h = copies_above n a b in omega (arith, h)

more_hold : (greedy : Bool) (n : ℕ) (a : Part) → 0 < n → 1 + a.size ≤ (up_to greedy n a).size
more_hold greedy zero a h = absurd (omega arith)
more_hold greedy (suc n) a h = omega arith

-- one more optional copy is no longer than what is left
pub more_fits : (greedy : Bool) (n m k : ℕ) (a one : Part) (now mid total : ℕ) → 0 < n → one ≡ a →
    mid + (copies k a (up_to greedy m a)).size ≡ total → now + (up_to greedy n a).size ≡ mid + (up_to greedy m a).size →
    now + 1 + one.size ≤ total
more_fits greedy n m k a one now mid total some e long longer =
    let s : one.size ≡ a.size = ap (λ (q : Part). q.size) e in
    let above : (up_to greedy m a).size ≤ (copies k a (up_to greedy m a)).size = copies_above k a (up_to greedy m a) in
    let held : 1 + a.size ≤ (up_to greedy n a).size = more_hold greedy n a some in
    omega (arith, s, above, held, long, longer)

-- one more optional copy is appended
pub emits_more : (slots next : ℕ) (begun : Vec code.Place Global) (all : Part) (old mid new : Vec code.Place Global) (a one two : Part) (greedy : Bool) (n m after : ℕ) (q : Place) →
    Emits slots next begun all old (up_to greedy n a) → n ≡ suc m → one ≡ a → two ≡ a →
    after ≡ vec_len old + 1 + one.size → q ≡ body_or_out greedy (vec_len old + 1) next →
    vec_len mid ≡ vec_len old + 1 → places_of mid.items ≡ places_of old.items ++ q ∷ [] →
    vec_len new ≡ vec_len mid + two.size → places_of new.items ≡ places_of mid.items ++ two.places slots (vec_len mid) after →
    Emits slots next begun all new (up_to greedy m a)
emits_more slots next begun all old mid new a one two greedy n m after q e count f g at is l1 p1 l2 p2 =
    let held : Emits slots next begun all old (up_to greedy (suc m) a) = subst (λ k. Emits slots next begun all old (up_to greedy k a)) count e in
    let s1 : one.size ≡ a.size = ap (λ (x : Part). x.size) f in
    let s2 : two.size ≡ a.size = ap (λ (x : Part). x.size) g in
    let l : vec_len new ≡ vec_len old + 1 + a.size = omega (arith, l1, l2, s2) in
    let z : after ≡ vec_len old + 1 + a.size = omega (arith, at, s1) in
    let p : places_of new.items ≡ (places_of old.items ++ body_or_out greedy (vec_len old + 1) next ∷ []) ++ a.places slots (vec_len old + 1) (vec_len old + 1 + a.size) =
    p2 ∙ ap (λ (x : Part). places_of mid.items ++ x.places slots (vec_len mid) after) g
    ∙ ap (λ k. places_of mid.items ++ a.places slots k after) l1
    ∙ ap (λ k. places_of mid.items ++ a.places slots (vec_len old + 1) k) z
    ∙ ap (λ xs. xs ++ a.places slots (vec_len old + 1) (vec_len old + 1 + a.size)) (p1 ∙ ap (λ x. places_of old.items ++ x ∷ []) is) in
    record {
      long = let h = held.long in omega (arith, h, l);
      more = rw (l, p, append_assoc, append_assoc) held.more;
    }

-- what was appended for a beginning, and then for the rest of it
pub emits_trans : (slots next : ℕ) (begun : Vec code.Place Global) (all : Part) (mid : Vec code.Place Global) (part : Part) (now : Vec code.Place Global) (left : Part) →
    Emits slots next begun all mid part → Emits slots next mid part now left → Emits slots next begun all now left
emits_trans slots next begun all mid part now left e f = record { long = f.long ∙ e.long; more = f.more ∙ e.more }

-- without a bound, and no turn wanted: a choice stands before the turns
pub begins_none : (slots next : ℕ) (old new : Vec code.Place Global) (all a : Part) (greedy : Bool) (n body : ℕ) (q : Place) →
    all ≡ at_least n greedy a → n ≡ 0 → body ≡ vec_len old + 1 → q ≡ body_or_out greedy body next →
    vec_len new ≡ vec_len old + 1 → places_of new.items ≡ places_of old.items ++ q ∷ [] →
    Emits slots next old all new (copies (n - 1) a (plus greedy a))
begins_none slots next old new all a greedy n body q e nil at is l p =
    let f : all ≡ optional greedy (plus greedy a) = e ∙ ap (λ k. at_least k greedy a) nil in
    let g : optional greedy (plus greedy a) ≡ all = sym f in
    let c : copies (n - 1) a (plus greedy a) ≡ plus greedy a = ap (λ k. copies (k - 1) a (plus greedy a)) nil in
    let r : places_of new.items ≡ places_of old.items ++ body_or_out greedy (vec_len old + 1) next ∷ [] =
    p ∙ ap (λ x. places_of old.items ++ x ∷ []) (is ∙ ap (λ k. body_or_out greedy k next) at) in
    subst (λ (x : Part). Emits slots next old x new (copies (n - 1) a (plus greedy a))) g
    (subst (λ (x : Part). Emits slots next old (optional greedy (plus greedy a)) new x) (sym c)
    (record { long = omega (arith, l); more = rw (l, r, append_assoc) refl }))

-- without a bound, and some turns wanted
pub begins_some : (slots next : ℕ) (old : Vec code.Place Global) (all a : Part) (greedy : Bool) (n : ℕ) →
    all ≡ at_least n greedy a → (n ≡ 0 → ⊥) → Emits slots next old all old (copies (n - 1) a (plus greedy a))
begins_some slots next old all a greedy n e some =
    subst (λ (x : Part). Emits slots next old all old x) (e ∙ at_least_some n greedy a (omega (arith, some)))
    (record { long = refl; more = refl })

-- the last turn is appended, and the choice behind it
pub ends_plus : (slots next : ℕ) (begun : Vec code.Place Global) (all : Part) (old : Vec code.Place Global) (a one two : Part) (greedy : Bool) (n body after : ℕ)
    (p : List Place) (q : Place) → Emits slots next begun all old (copies n a (plus greedy a)) → n ≡ 0 → one ≡ a → two ≡ a →
    body ≡ vec_len old → after ≡ body + one.size → q ≡ body_or_out greedy body next →
    p ≡ places_of old.items ++ two.places slots (vec_len old) after →
    p ++ q ∷ [] ≡ places_of begun.items ++ all.places slots (vec_len begun) next
ends_plus slots next begun all old a one two greedy n body after p q e nil f g at behind is p2 =
    let held : Emits slots next begun all old (plus greedy a) = subst (λ k. Emits slots next begun all old (copies k a (plus greedy a))) nil e in
    let s : one.size ≡ a.size = ap (λ (x : Part). x.size) f in
    let z : after ≡ vec_len old + a.size = omega (arith, at, behind, s) in
    ap (λ x. p ++ x ∷ []) (is ∙ ap (λ k. body_or_out greedy k next) at)
    ∙ ap (λ xs. xs ++ body_or_out greedy (vec_len old) next ∷ [])
    (p2 ∙ ap (λ (x : Part). places_of old.items ++ x.places slots (vec_len old) after) g ∙ ap (λ k. places_of old.items ++ a.places slots (vec_len old) k) z)
    ∙ append_assoc (places_of old.items) (a.places slots (vec_len old) (vec_len old + a.size)) (body_or_out greedy (vec_len old) next ∷ [])
    ∙ held.more

literal_slots_1 : (b : ℕ) (bs : List ℕ) (s start next : ℕ) → (bytes_in_order b bs).places 0 start next ≡ (bytes_in_order b bs).places s start next
literal_slots_1 b [] s start next = refl
literal_slots_1 b (c ∷ bs) s start next = ap (λ qs. byte ((b, b) ∷ []) (start + 1) ∷ qs) (literal_slots_1 c bs s (start + 1) next)

-- a literal names no slot
pub literal_slots : (bs : List ℕ) (s start next : ℕ) → (literal_part bs).places 0 start next ≡ (literal_part bs).places s start next
literal_slots [] s start next = refl
literal_slots (b ∷ bs) s start next = literal_slots_1 b bs s start next
