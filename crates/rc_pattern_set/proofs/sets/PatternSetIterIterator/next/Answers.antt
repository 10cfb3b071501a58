use Rattle.std.proofs.Common.{◌≡◌, ℕ, suc, ◌+◌, ◌<◌, ◌≤◌, Bool, true, List, [], ◌∷◌, length, slice_get, Option, Some, None, MatchOption, SomeIff, ap, sym, ◌∙◌, refl, arith}
use Rattle.rc_pattern_set.specs.Sets.{members_from, members_left}
use Rattle.rc_pattern_set.proofs.sets.PatternSetIterIterator.next.Goals as goal

-- what is left keeps to the bounds
small : (n : ℕ) (mark : Bool) (left others : List Bool) → left ≡ mark ∷ others → n + length left < 18446744073709551616 →
    n + 1 + length others < 18446744073709551616
small n mark left others is h = let l = rw is at h in omega (arith, l)

numbered : (n : ℕ) (mark : Bool) (left others : List Bool) → left ≡ mark ∷ others →
    ((p : ℕ) → slice_get left p ≡ Some true → n + p ≤ 2147483646) → (p : ℕ) → slice_get others p ≡ Some true → n + 1 + p ≤ 2147483646
numbered n mark left others is h p e = let l = h (suc p) (rw is e) in omega (arith, l)

-- the number of a member is given, and the others are left
gives : (r : Option ℕ) (n : ℕ) (mark : Bool) (left others : List Bool) (all : List ℕ) → left ≡ mark ∷ others → mark ≡ true →
    ((p : ℕ) → slice_get left p ≡ Some true → n + p ≤ 2147483646) → SomeIff r (n ≤ 2147483646) n → members_from n left ≡ all →
    MatchOption r ((all ≡ []) × (members_from (n + 1) others ≡ [])) (λ x. all ≡ x ∷ members_from (n + 1) others)
gives None n mark left others all is marked low given same =
    let l = low 0 (rw (is, marked) refl) in absurd (given (omega (arith, l)))
gives (Some x) n mark left others all is marked low given same =
    sym same ∙ ap (members_from n) (is ∙ ap (λ m. m ∷ others) marked) ∙ ap (λ k. k ∷ members_from (n + 1) others) (sym given.1)

pub invariant_of-self : goal.invariant_of-self
invariant_of-self c =
    let i = c.loop-mark.self in
    record {
      small = small i.next c.in-Some.mark.now i.left.now c.in-Some.others.now c.in-Some.ensures.cases.0 i.small;
      numbered = numbered i.next c.in-Some.mark.now i.left.now c.in-Some.others.now c.in-Some.ensures.cases.0 i.numbered;
    }

pub returns-then-mark-clause-steps : goal.returns-then-mark-clause-steps
returns-then-mark-clause-steps c =
    let i = c.loop-mark.self in
    gives c.new.result i.next c.in-Some.mark.now i.left.now c.in-Some.others.now (members_left c.args.self.now) c.in-Some.ensures.cases.0 c.if-mark.true
    i.numbered c.new.ensures c.loop-mark.invariant
