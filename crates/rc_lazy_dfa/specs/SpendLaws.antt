-- Only proofs use this file.
-- Cache use: what searches spend adds up.
use Rattle.std.proofs.Common.{◌≡◌, ℕ, ◌+◌, ◌*◌, ◌/◌, ◌<◌, ◌≤◌, Bool, true, false, List, length, Some, slice_get, inl, inr, refl, sym, ap, ◌∙◌, arith}
use Rattle.std.proofs.lemmas.Option.{same_Some, slice_get_cases, slice_get_within}
use Rattle.std.proofs.Math.Nat.{mul-le-mul_right, mul-div_cancel, add-mul}
use Rattle.std.proofs.lemmas.Bool.{cases_lt}
use Rattle.rc_determinize.specs.States.{State}
use Rattle.rc_dfa.specs.Machine.{Machine}
use Rattle.rc_lazy_dfa.specs.Stores.{Counts, Frame, Grows, IsRow, IsShort, Spends, minimum_of}
use Rattle.rc_lazy_dfa.specs.Halves.{IsPlace}
use Rattle.rc_table_search.specs.Views.{IsLawful}
use Rattle.rc_lazy_dfa.specs.Courses.{MayGiveUp, frame_in, view_of}
use Rattle.rc_lazy_dfa.specs.declared.lazy.Lazy.{Lazy}
use Rattle.rc_lazy_dfa.specs.declared.store.Store.{Store}

counts_nothing : (a : Store) (n : ℕ) → Counts a a n
counts_nothing a n = record { rises = omega arith; few = omega arith; grown = omega arith; kept = λ same below id s h. h; dropped = λ more. omega (arith, more) }

pub counts_within : (a b : Store) (n k : ℕ) → n ≤ k → Counts a b n → Counts a b k
counts_within a b n k le c = record {
  rises = c.rises;
  few = let f = c.few in omega (arith, f, le);
  grown = let g = c.grown in omega (arith, g, le);
  kept = c.kept;
  dropped = λ more. let d = c.dropped more in omega (arith, d, le);
}

-- if the count is the same in the end, it was the same between
pub counts_both : (a b c : Store) (n k : ℕ) → Counts a b n → Counts b c k → Counts a c (n + k)
counts_both a b c n k s r =
    let first = s.rises in
    let second = r.rises in
    let grown = r.grown in record {
      rises = omega (arith, first, second);
      few = let f = s.few in let g = r.few in omega (arith, f, g);
      grown = let g = s.grown in omega (arith, g, grown);
      kept = λ same below id t h.
          let still : b.clears ≡ a.clears = omega (arith, first, second, same) in
          r.kept (omega (arith, same, still)) (omega (arith, below, still)) id t (s.kept still below id t h);
      dropped = λ more. elim (cases_lt b.clears c.clears) [
        | inl later ↦ let d = r.dropped later in omega (arith, d)
        | inr same ↦ let d = s.dropped (omega (arith, more, same)) in omega (arith, d, grown)
      ];
    }

pub spends_nothing : (f : Frame) (a : Store) (n : ℕ) → Spends f a a n
spends_nothing f a n = record { capacity = refl; counts = counts_nothing a n; added = inl (refl, omega arith) }

more_times : (n k x : ℕ) → n ≤ k → n * x ≤ k * x
more_times n k x le = mul-le-mul_right x le

pub short_within : (f : Frame) (a : Store) (n k : ℕ) → n ≤ k → IsShort f a n → IsShort f a k
short_within f a n k le h = let m = more_times n k (minimum_of f) le in omega (arith, h, m)

pub spends_within : (f : Frame) (a b : Store) (n k : ℕ) → n ≤ k → Spends f a b n → Spends f a b k
spends_within f a b n k le s = record {
  capacity = s.capacity;
  counts = counts_within a b n k le s.counts;
  added = elim s.added [
    | inl h ↦ let u = h.1 in let m = more_times n k (minimum_of f) le in inl (h.0, omega (arith, u, m))
    | inr h ↦ inr (short_within f a n k le h)
  ];
}

-- The states added before count too.
pub short_after : (f : Frame) (a b : Store) (n k : ℕ) → Spends f a b n → IsShort f b k → IsShort f a (n + k)
short_after f a b n k s short =
    let sum = add-mul n k (minimum_of f) in
    let capacity = s.capacity in
    elim s.added [
      | inl h ↦ let u = h.1 in omega (arith, u, short, sum, capacity)
      | inr h ↦ omega (arith, h, sum)
    ]

pub spends_both : (f : Frame) (a b c : Store) (n k : ℕ) → Spends f a b n → Spends f b c k → Spends f a c (n + k)
spends_both f a b c n k s r =
    let sum = add-mul n k (minimum_of f) in record {
      capacity = r.capacity ∙ s.capacity;
      counts = counts_both a b c n k s.counts r.counts;
      added = elim r.added [
        | inr short ↦ inr (short_after f a b n k s short)
        | inl h ↦
            let v = h.1 in
            elim s.added [
              | inl g ↦ let u = g.1 in inl (h.0 ∙ g.0, omega (arith, u, v, sum))
              | inr g ↦ inr (omega (arith, g, sum))
            ]
      ];
    }

pub may_later : (f : Frame) (a b c : Store) (n k : ℕ) (memory : Bool) → Spends f a b n → MayGiveUp f b c k memory → MayGiveUp f a c (n + k) memory
may_later f a b c n k true s h = tt
may_later f a b c n k false s h = (h.0, short_after f a b n k s h.1)

pub may_within : (f : Frame) (a b : Store) (n k : ℕ) (memory : Bool) → n ≤ k → MayGiveUp f a b n memory → MayGiveUp f a b k memory
may_within f a b n k true le h = tt
may_within f a b n k false le h = (h.0, short_within f a n k le h.1)

got : (xs : List State) (k : ℕ) → k < length xs → (t : State) × (slice_get xs k ≡ Some t)
got xs k lt = elim (slice_get_cases xs k).1 [
  | inl x ↦ (x.0, x.2)
  | inr past ↦ let le = past.0 in absurd (omega (arith, lt, le))
]

-- a row has the state that it had
rows_held : (f : Frame) (a b : Store) → 0 < f.width → Grows a.states b.states → (row : ℕ) → IsPlace f a row →
    IsPlace f b row × ((s : State) → IsRow f.width b.states row s → IsRow f.width a.states row s)
rows_held f a b wide grown row p =
    let t = got a.states p.id p.there in
    let kept = grown p.id t.0 t.1 in (
      record { id = p.id; there = slice_get_within b.states p.id t.0 kept; row_is = p.row_is },
      λ s r.
          let same : p.id ≡ r.0 = sym (mul-div_cancel p.id wide) ∙ ap (λ k. k / f.width) (sym p.row_is ∙ r.2) ∙ mul-div_cancel r.0 wide in
          let is : t.0 ≡ s = same_Some t.0 s (sym kept ∙ ap (slice_get b.states) same ∙ r.1) in
          (p.id, t.1 ∙ ap Some is, p.row_is),
    )

-- what a direction spends
pub lawful : (l : Lazy) (backwards : Bool) → IsLawful (view_of l backwards)
lawful l backwards = record {
  reads = λ m of. ap (λ (x : Machine). x.alphabet) (sym of);
  spends_nothing = λ a. spends_nothing (frame_in l backwards) a.store;
  spends_both = λ a b c. spends_both (frame_in l backwards) a.store b.store c.store;
  spends_within = λ a b. spends_within (frame_in l backwards) a.store b.store;
  gives_up_later = λ a b c. may_later (frame_in l backwards) a.store b.store c.store;
  gives_up_within = λ a b. may_within (frame_in l backwards) a.store b.store;
  era_rises = λ a b n s. s.counts.rises;
  holds = λ a b n s cache same below.
      let grown = s.counts.kept same below in record {
        is_row = λ row p. (rows_held (frame_in l backwards) a.store b.store (omega arith) grown row p).0;
        has_state = λ m row t p x. (x.0, (rows_held (frame_in l backwards) a.store b.store (omega arith) grown row p).1 t x.1);
      };
}
