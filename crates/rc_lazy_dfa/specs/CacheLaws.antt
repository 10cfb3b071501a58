-- Only proofs use this file.
-- Cache use: what searches in both directions spend adds up.
use Rattle.std.proofs.Common.{ℕ, ◌+◌, ◌≤◌, Bool, inl, inr}
use Rattle.rc_dfa.specs.declared.automaton.Direction.TheVariants.{Forwards, Backwards}
use Rattle.rc_lazy_dfa.specs.Stores.{frame_of}
use Rattle.rc_lazy_dfa.specs.Caches.{CountsBoth, SpendsBoth, MayGiveUpEither}
use Rattle.rc_lazy_dfa.specs.declared.lazy.Lazy.{Lazy}
use Rattle.rc_lazy_dfa.specs.declared.lazy.Cache.{Cache}
use Rattle.rc_lazy_dfa.specs.SpendLaws as one

pub nothing_spent : (l : Lazy) (a : Cache) (n : ℕ) → SpendsBoth l a a n
nothing_spent l a n = record {
  ahead = one.spends_nothing (frame_of l.automaton Forwards) a.forward.store n;
  behind = one.spends_nothing (frame_of l.automaton Backwards) a.reverse.store n;
}

pub both_spent : (l : Lazy) (a b c : Cache) (n k : ℕ) → SpendsBoth l a b n → SpendsBoth l b c k → SpendsBoth l a c (n + k)
both_spent l a b c n k s r = record {
  ahead = one.spends_both (frame_of l.automaton Forwards) a.forward.store b.forward.store c.forward.store n k s.ahead r.ahead;
  behind = one.spends_both (frame_of l.automaton Backwards) a.reverse.store b.reverse.store c.reverse.store n k s.behind r.behind;
}

pub given_up_later : (l : Lazy) (a b c : Cache) (n k : ℕ) (memory : Bool) → SpendsBoth l a b n → MayGiveUpEither l b c k memory → MayGiveUpEither l a c (n + k) memory
given_up_later l a b c n k memory s (inl h) =
    inl (one.may_later (frame_of l.automaton Forwards) a.forward.store b.forward.store c.forward.store n k memory s.ahead h)
given_up_later l a b c n k memory s (inr h) =
    inr (one.may_later (frame_of l.automaton Backwards) a.reverse.store b.reverse.store c.reverse.store n k memory s.behind h)

pub given_up_within : (l : Lazy) (a b : Cache) (n k : ℕ) (memory : Bool) → n ≤ k → MayGiveUpEither l a b n memory → MayGiveUpEither l a b k memory
given_up_within l a b n k memory le (inl h) = inl (one.may_within (frame_of l.automaton Forwards) a.forward.store b.forward.store n k memory le h)
given_up_within l a b n k memory le (inr h) = inr (one.may_within (frame_of l.automaton Backwards) a.reverse.store b.reverse.store n k memory le h)

pub spent_within : (l : Lazy) (a b : Cache) (n k : ℕ) → n ≤ k → SpendsBoth l a b n → SpendsBoth l a b k
spent_within l a b n k le s = record {
  ahead = one.spends_within (frame_of l.automaton Forwards) a.forward.store b.forward.store n k le s.ahead;
  behind = one.spends_within (frame_of l.automaton Backwards) a.reverse.store b.reverse.store n k le s.behind;
}

pub counted_within : (a b : Cache) (n k : ℕ) → n ≤ k → CountsBoth a b n → CountsBoth a b k
counted_within a b n k le c = record {
  ahead = one.counts_within a.forward.store b.forward.store n k le c.ahead;
  behind = one.counts_within a.reverse.store b.reverse.store n k le c.behind;
}

pub counted_both : (a b c : Cache) (n k : ℕ) → CountsBoth a b n → CountsBoth b c k → CountsBoth a c (n + k)
counted_both a b c n k s r = record {
  ahead = one.counts_both a.forward.store b.forward.store c.forward.store n k s.ahead r.ahead;
  behind = one.counts_both a.reverse.store b.reverse.store c.reverse.store n k s.behind r.behind;
}
