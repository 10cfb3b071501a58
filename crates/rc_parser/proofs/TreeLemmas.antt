-- A reader that goes from mark to mark reads what the tree of a body is read as.
use Rattle.std.proofs.Common.{◌≡◌, List, [], ◌∷◌, ◌++◌, Option, Some, None, map, refl, ap, sym, subst, ◌∙◌, append_assoc, append-nil}
use Rattle.std.proofs.lemmas.Option.{none-some}
use Rattle.rc_pattern.specs.Re.{empty}
use Rattle.rc_tokens.specs.Text.{◌>>=◌}
use Rattle.rc_tokens.specs.Marks.{Operator, Piece, Opening, Mark, stands, bar, setting, opens, closes, repeats, piece_says, opening_says, flags_of, bounds_of}
use Rattle.rc_tokens.specs.Said.{Said, Start, Stands, Setting, Opens, Repeats}
use Rattle.rc_parser.specs.Settings.{Settings}
use Rattle.rc_parser.specs.Pieces.{Subpattern, leaf, sense_part}
use Rattle.rc_parser.specs.Grammar.{Body, ends, bars, sets, piece, group, marks, Level, Tie, add, set_flags, end_branch, whole, repeated_once, repeated, inside, tie, closed, reads}
use Rattle.rc_parser.specs.Machine.{Outside, Work, work, nameless, settled, take_said, run_marks}

-- one step, and what is read after it
step_then : {A B C D : Type 0} (o : Option A) (h : A → B) (K : B → Option D) (r : A → Option C) (F : C → Option D) →
    ((a : A) → K (h a) ≡ (r a >>= F)) → ((o >>= λ a. Some (h a)) >>= K) ≡ ((o >>= r) >>= F)
step_then None h K r F e = refl
step_then (Some a) h K r F e = e a

two_steps : {A B W C D : Type 0} (o : Option A) (k : A → Option B) (h : B → W) (K : W → Option D) (r : B → Option C) (F : C → Option D) →
    ((b : B) → K (h b) ≡ (r b >>= F)) → ((o >>= λ a. k a >>= λ b. Some (h b)) >>= K) ≡ ((o >>= λ a. k a >>= r) >>= F)
two_steps None k h K r F e = refl
two_steps (Some a) k h K r F e = step_then (k a) h K r F e

then_same : {A C D : Type 0} (o : Option A) (f : A → Option D) (r : A → Option C) (F : C → Option D) →
    ((a : A) → f a ≡ (r a >>= F)) → (o >>= f) ≡ ((o >>= r) >>= F)
then_same None f r F e = refl
then_same (Some a) f r F e = e a

via_same : {A B D : Type 0} (o : Option A) (h : A → B) (f g : B → Option D) → ((a : A) → f (h a) ≡ g (h a)) →
    ((o >>= λ a. Some (h a)) >>= f) ≡ ((o >>= λ a. Some (h a)) >>= g)
via_same None h f g e = refl
via_same (Some a) h f g e = e a

-- no operator comes first
abbrev pub IsPlain : List Mark → Type 0
IsPlain [] = Unit {0}
IsPlain (repeats o ∷ ms) = ⊥
IsPlain (stands x ∷ ms) = Unit {0}
IsPlain (bar ∷ ms) = Unit {0}
IsPlain (setting f ∷ ms) = Unit {0}
IsPlain (opens f ∷ ms) = Unit {0}
IsPlain (closes ∷ ms) = Unit {0}

plain_marks : (b : Body) (ms : List Mark) → IsPlain ms → IsPlain (marks b ++ ms)
plain_marks ends ms p = p
plain_marks (bars b) ms p = tt
plain_marks (sets f b) ms p = tt
plain_marks (piece c os b) ms p = tt
plain_marks (group f inner os b) ms p = tt

module _ (s : Settings) where
  -- what a mark leads to, and the marks after it
  abbrev next : List Mark → Work → Said → Option Subpattern
  next ms w k = take_said s k w >>= λ v. run_marks s v ms

  settle_first : (ms : List Mark) → IsPlain ms → (l : Level) (last : Option Subpattern) (outer : List Outside) →
      run_marks s (work l last outer) ms ≡ run_marks s (work (settled last l) None outer) ms
  settle_first [] p l last outer = refl
  settle_first (repeats o ∷ ms) p l last outer = absurd p
  settle_first (stands x ∷ ms) p l last outer =
      via_same (piece_says x) Stands (next ms (work l last outer)) (next ms (work (settled last l) None outer)) (λ a. refl)
  settle_first (bar ∷ ms) p l last outer = refl
  settle_first (setting f ∷ ms) p l last outer =
      via_same (flags_of f) Setting (next ms (work l last outer)) (next ms (work (settled last l) None outer)) (λ a. refl)
  settle_first (opens o ∷ ms) p l last outer =
      via_same (opening_says o) Opens (next ms (work l last outer)) (next ms (work (settled last l) None outer)) (λ a. refl)
  settle_first (closes ∷ ms) p l last outer = refl

  operators : (os : List Operator) (l : Level) (p : Subpattern) (outer : List Outside) (ms : List Mark) →
      run_marks s (work l (Some p) outer) (map repeats os ++ ms)
      ≡ (repeated s l.flags os p >>= λ q. run_marks s (work l (Some q) outer) ms)
  operators [] l p outer ms = refl
  operators (o ∷ os) l p outer ms =
      step_then (bounds_of o.lazy o.amount) Repeats
      (next (map repeats os ++ ms) (work l (Some p) outer))
      (λ b. repeated_once s l.flags b p >>= λ q. repeated s l.flags os q) (λ q. run_marks s (work l (Some q) outer) ms)
      (λ b. step_then (repeated_once s l.flags b p) (λ q. work l (Some q) outer) (λ v. run_marks s v (map repeats os ++ ms))
      (λ q. repeated s l.flags os q) (λ q. run_marks s (work l (Some q) outer) ms) (λ q. operators os l q outer ms))

  -- what is read after the marks of a body
  abbrev after : List Outside → List Mark → Level → Option Subpattern
  after outer ms l = run_marks s (work l None outer) ms

  -- an item with its operators, and what follows
  item_run : (os : List Operator) (b : Body) (l : Level) (p : Subpattern) (outer : List Outside) (ms : List Mark) → IsPlain ms →
      ((m : Level) → run_marks s (work m None outer) (marks b ++ ms) ≡ (reads s m b >>= after outer ms)) →
      run_marks s (work l (Some p) outer) ((map repeats os ++ marks b) ++ ms)
      ≡ ((repeated s l.flags os p >>= λ q. reads s (add q l) b) >>= after outer ms)
  item_run os b l p outer ms h rest =
      ap (run_marks s (work l (Some p) outer)) (append_assoc (map repeats os) (marks b) ms)
      ∙ operators os l p outer (marks b ++ ms)
      ∙ then_same (repeated s l.flags os p) (λ q. run_marks s (work l (Some q) outer) (marks b ++ ms))
      (λ q. reads s (add q l) b) (after outer ms)
      (λ q. settle_first (marks b ++ ms) (plain_marks b ms h) l (Some q) outer ∙ rest (add q l))

  abbrev group_rest : Tie → Level → List Operator → Body → Level → Option Level
  group_rest t l os b end = whole s end >>= λ body. closed s t body >>= λ p.
      repeated s l.flags os p >>= λ q. reads s (add q (record l { groups = end.groups; names = end.names })) b

  group_run : (k : Start) (inner : Body) (os : List Operator) (b : Body) (l : Level) (outer : List Outside) (ms : List Mark) → IsPlain ms →
      ((m : Level) (around : List Outside) (ks : List Mark) → IsPlain ks →
      run_marks s (work m None around) (marks inner ++ ks) ≡ (reads s m inner >>= after around ks)) →
      ((m : Level) → run_marks s (work m None outer) (marks b ++ ms) ≡ (reads s m b >>= after outer ms)) →
      (take_said s (Opens k) (work l None outer) >>= λ v. run_marks s v ((marks inner ++ closes ∷ (map repeats os ++ marks b)) ++ ms))
      ≡ ((inside k l >>= λ start. reads s start inner >>= group_rest (tie k l) l os b) >>= after outer ms)
  group_run k inner os b l outer ms h inner_reads rest =
      step_then (inside k l) (λ start. work start None ((tie k l, nameless l) ∷ outer))
      (λ v. run_marks s v ((marks inner ++ closes ∷ (map repeats os ++ marks b)) ++ ms))
      (λ start. reads s start inner >>= group_rest (tie k l) l os b) (after outer ms)
      (λ start. ap (run_marks s (work start None ((tie k l, nameless l) ∷ outer))) (append_assoc (marks inner) (closes ∷ (map repeats os ++ marks b)) ms)
      ∙ inner_reads start ((tie k l, nameless l) ∷ outer) (closes ∷ ((map repeats os ++ marks b) ++ ms)) tt
      ∙ then_same (reads s start inner) (after ((tie k l, nameless l) ∷ outer) (closes ∷ ((map repeats os ++ marks b) ++ ms)))
      (group_rest (tie k l) l os b) (after outer ms)
      (λ end. two_steps (whole s end) (λ body. closed s (tie k l) body)
      (λ p. work (record l { groups = end.groups; names = end.names }) (Some p) outer) (λ v. run_marks s v ((map repeats os ++ marks b) ++ ms))
      (λ p. repeated s l.flags os p >>= λ q. reads s (add q (record l { groups = end.groups; names = end.names })) b) (after outer ms)
      (λ p. item_run os b (record l { groups = end.groups; names = end.names }) p outer ms h rest)))

  pub reads_run : (b : Body) (l : Level) (outer : List Outside) (ms : List Mark) → IsPlain ms →
      run_marks s (work l None outer) (marks b ++ ms) ≡ (reads s l b >>= after outer ms)
  reads_run ends l outer ms h = refl
  reads_run (bars b) l outer ms h =
      step_then (end_branch s l) (λ m. work m None outer) (λ v. run_marks s v (marks b ++ ms))
      (λ m. reads s m b) (after outer ms) (λ m. reads_run b m outer ms h)
  reads_run (sets f b) l outer ms h =
      step_then (flags_of f) Setting (next (marks b ++ ms) (work l None outer))
      (λ to. reads s (add (leaf empty) (record l { flags = set_flags to l.flags })) b) (after outer ms)
      (λ to. reads_run b (add (leaf empty) (record l { flags = set_flags to l.flags })) outer ms h)
  reads_run (piece x os b) l outer ms h =
      step_then (piece_says x) Stands (next ((map repeats os ++ marks b) ++ ms) (work l None outer))
      (λ k. sense_part s l.flags k >>= λ p. repeated s l.flags os p >>= λ q. reads s (add q l) b) (after outer ms)
      (λ k. step_then (sense_part s l.flags k) (λ p. work l (Some p) outer) (λ v. run_marks s v ((map repeats os ++ marks b) ++ ms))
      (λ p. repeated s l.flags os p >>= λ q. reads s (add q l) b) (after outer ms)
      (λ p. item_run os b l p outer ms h (λ m. reads_run b m outer ms h)))
  reads_run (group o inner os b) l outer ms h =
      step_then (opening_says o) Opens (next ((marks inner ++ closes ∷ (map repeats os ++ marks b)) ++ ms) (work l None outer))
      (λ k. inside k l >>= λ start. reads s start inner >>= group_rest (tie k l) l os b) (after outer ms)
      (λ k. group_run k inner os b l outer ms h (λ m around ks. reads_run inner m around ks) (λ m. reads_run b m outer ms h))

  -- the marks of a body alone
  pub body_run : (b : Body) (l : Level) → run_marks s (work l None []) (marks b) ≡ (reads s l b >>= whole s)
  body_run b l = ap (run_marks s (work l None [])) (sym (append-nil (marks b))) ∙ reads_run b l [] [] tt

-- What is left to read is the rest of the innermost body, its `)` with operators, and so on outwards.
abbrev pub AreBodies : List Outside → List Mark → Type 0
AreBodies [] ms = (b : Body) × (ms ≡ marks b)
AreBodies (x ∷ outer) ms = (b : Body) × (os : List Operator) × (rest : List Mark)
    × (ms ≡ marks b ++ closes ∷ (map repeats os ++ rest)) × AreBodies outer rest

via_some : {A B D : Type 0} (o : Option A) (h : A → B) (K : B → Option D) (y : D) →
    ((o >>= λ a. Some (h a)) >>= K) ≡ Some y → (a : A) × (K (h a) ≡ Some y)
via_some None h K y e = absurd (none-some y e)
via_some (Some a) h K y e = (a, e)

two_some : {A B W D : Type 0} (o : Option A) (k : A → Option B) (h : B → W) (K : W → Option D) (y : D) →
    ((o >>= λ a. k a >>= λ b. Some (h b)) >>= K) ≡ Some y → (b : B) × (K (h b) ≡ Some y)
two_some None k h K y e = absurd (none-some y e)
two_some (Some a) k h K y e = via_some (k a) h K y e

grow : (outer : List Outside) (extend : Body → Body) (front rest : List Mark) →
    ((b : Body) → marks (extend b) ≡ front ++ marks b) → AreBodies outer rest → AreBodies outer (front ++ rest)
grow [] extend front rest e (b, is) = (extend b, ap (λ t. front ++ t) is ∙ sym (e b))
grow (x ∷ outer) extend front rest e (b, os, more, is, others) =
    let tail : List Mark = closes ∷ (map repeats os ++ more) in
    (extend b, os, more, ap (λ t. front ++ t) is ∙ sym (append_assoc front (marks b) tail) ∙ ap (λ t. t ++ tail) (sym (e b)), others)

-- the operators at the front, and then bodies
abbrev pub Begins : Option Subpattern → List Outside → List Mark → Type 0
Begins last outer ms = (os : List Operator) × (rest : List Mark) × (ms ≡ map repeats os ++ rest) × (last ≡ None → os ≡ []) × AreBodies outer rest

plainly : (last : Option Subpattern) (outer : List Outside) (ms : List Mark) → AreBodies outer ms → Begins last outer ms
plainly last outer ms h = ([], ms, refl, λ _. refl, h)

pub no_operator : (outer : List Outside) (ms : List Mark) → Begins None outer ms → AreBodies outer ms
no_operator outer ms (os, rest, is, none, h) =
    subst (AreBodies outer) (sym (is ∙ ap (λ xs. map repeats xs ++ rest) (none refl))) h

after_item : (last : Option Subpattern) (outer : List Outside) (ms : List Mark) (x : Piece) → Begins last outer ms → AreBodies outer (stands x ∷ ms)
after_item last outer ms x (os, rest, is, none, h) =
    subst (AreBodies outer) (ap (λ t. stands x ∷ t) (sym is)) (grow outer (piece x os) (stands x ∷ map repeats os) rest (λ b. refl) h)

after_open : (x : Outside) (outer : List Outside) (ms : List Mark) (o : Opening) → AreBodies (x ∷ outer) ms → AreBodies outer (opens o ∷ ms)
after_open x outer ms o (inner, os, rest, is, h) =
    subst (AreBodies outer) (ap (λ t. opens o ∷ t) (append_assoc (marks inner) (closes ∷ map repeats os) rest ∙ sym is))
    (grow outer (group o inner os) (opens o ∷ (marks inner ++ closes ∷ map repeats os)) rest
    (λ b. ap (λ t. opens o ∷ t) (sym (append_assoc (marks inner) (closes ∷ map repeats os) (marks b)))) h)

after_close : (x : Outside) (last : Option Subpattern) (outer : List Outside) (ms : List Mark) → Begins last outer ms → AreBodies (x ∷ outer) (closes ∷ ms)
after_close x last outer ms (os, rest, is, none, h) = (ends, os, rest, ap (λ t. closes ∷ t) is, h)

module _ (s : Settings) where
  abbrev follow : List Mark → Work → Said → Option Subpattern
  follow ms w k = take_said s k w >>= λ v. run_marks s v ms

  -- the marks that a reader takes are those of bodies
  pub bodies_of : (ms : List Mark) (l : Level) (last : Option Subpattern) (outer : List Outside) (p : Subpattern) →
      run_marks s (work l last outer) ms ≡ Some p → Begins last outer ms
  bodies_of [] l last [] p h = plainly last [] [] (ends, refl)
  bodies_of [] l last (f ∷ outer) p h = absurd (none-some p h)
  bodies_of (repeats o ∷ ms) l None outer p h =
      absurd (none-some p ((via_some (bounds_of o.lazy o.amount) Repeats (follow ms (work l None outer)) p h).1))
  bodies_of (repeats o ∷ ms) l (Some q) outer p h =
      let (b, at_b) = via_some (bounds_of o.lazy o.amount) Repeats (follow ms (work l (Some q) outer)) p h in
      let (r, at_r) = via_some (repeated_once s l.flags b q) (λ r. work l (Some r) outer) (λ v. run_marks s v ms) p at_b in
      let (os, rest, is, none, found) = bodies_of ms l (Some r) outer p at_r in
      (o ∷ os, rest, ap (λ t. repeats o ∷ t) is, λ e. absurd (none-some q (sym e)), found)
  bodies_of (stands x ∷ ms) l last outer p h =
      let (k, at_k) = via_some (piece_says x) Stands (follow ms (work l last outer)) p h in
      let (q, at_q) = via_some (sense_part s (settled last l).flags k) (λ q. work (settled last l) (Some q) outer) (λ v. run_marks s v ms) p at_k in
      plainly last outer (stands x ∷ ms) (after_item (Some q) outer ms x (bodies_of ms (settled last l) (Some q) outer p at_q))
  bodies_of (bar ∷ ms) l last outer p h =
      let (m, at_m) = via_some (end_branch s (settled last l)) (λ m. work m None outer) (λ v. run_marks s v ms) p h in
      plainly last outer (bar ∷ ms) (grow outer bars (bar ∷ []) ms (λ b. refl) (no_operator outer ms (bodies_of ms m None outer p at_m)))
  bodies_of (setting f ∷ ms) l last outer p h =
      let (to, at_to) = via_some (flags_of f) Setting (follow ms (work l last outer)) p h in
      plainly last outer (setting f ∷ ms) (grow outer (sets f) (setting f ∷ []) ms (λ b. refl) (no_operator outer ms (bodies_of ms _ None outer p at_to)))
  bodies_of (opens o ∷ ms) l last outer p h =
      let (k, at_k) = via_some (opening_says o) Opens (follow ms (work l last outer)) p h in
      let around : Outside = (tie k (settled last l), nameless (settled last l)) in
      let (m, at_m) = via_some (inside k (settled last l)) (λ m. work m None (around ∷ outer)) (λ v. run_marks s v ms) p at_k in
      plainly last outer (opens o ∷ ms) (after_open around outer ms o (no_operator (around ∷ outer) ms (bodies_of ms m None (around ∷ outer) p at_m)))
  bodies_of (closes ∷ ms) l last [] p h = absurd (none-some p h)
  bodies_of (closes ∷ ms) l last (f ∷ outer) p h =
      let (q, at_q) = two_some (whole s (settled last l)) (λ body. closed s f.0 body)
      (λ q. work (record (f.1) { groups = (settled last l).groups; names = (settled last l).names }) (Some q) outer) (λ v. run_marks s v ms) p h in
      plainly last (f ∷ outer) (closes ∷ ms) (after_close f (Some q) outer ms (bodies_of ms _ (Some q) outer p at_q))
