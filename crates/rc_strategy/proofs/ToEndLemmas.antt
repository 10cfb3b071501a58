-- Where each span ends at the upper bound, the greatest is the one from the least start.
use Rattle.std.proofs.Common.{◌≡◌, ◌∙◌, ℕ, ◌<◌, ◌≤◌, ◌⊎◌, false, true≢false, Option, Some, None, inl, inr, ⊎_elim, ap, sym}
use Rattle.rc_text.specs.Found.{Found}
use Rattle.rc_program.specs.Answer.{Search, anywhere, is_anchored, IsStart}
use Rattle.rc_program.specs.Greatest.{IsGreatest, IsNoGreater, greatest}
use Rattle.rc_program.proofs.GreatestLemmas.{greatest_law}
use Rattle.rc_dfa_search.specs.Reverse.{EndsAtBound, HasNoStart, IsLeastStart, IsMatchToEnd, start_of}

module _ (s : Search) (free : s.anchoring ≡ anywhere) (last : EndsAtBound s) where
  nothing : HasNoStart s → None ≡ greatest s
  nothing none =
      sym ((greatest_law.none s).1 (λ m h. none m.start m.pattern h.is_start.0 (h.walk, h.is_walk, h.pattern, h.position ∙ last m h)))

  start_at : (x : ℕ) → s.lo ≤ x → x ≤ s.hi → IsStart s x
  start_at x low high = (low, high, λ t. absurd (true≢false (sym t ∙ ap is_anchored free)))

  from_least : (m : Found) → IsLeastStart s (start_of m) → m.end ≡ s.hi → IsGreatest s m
  from_least m l end =
      let v = l.is_spelled.is_spelled in
      let w = l.is_spelled.within in
      record {
        is_spelled = record {
          is_start = start_at m.start w.0 w.1;
          walk = v.0;
          is_walk = v.1;
          pattern = v.2;
          position = v.3 ∙ sym end;
        };
        is_most = λ n h.
            let e = last n h in
            no_greater n (e ∙ sym end) (l.is_least n.start n.pattern h.is_start.0 (h.walk, h.is_walk, h.pattern, h.position ∙ e));
      }
    where
      no_greater : (n : Found) → n.end ≡ m.end → (m.start < n.start) ⊎ ((m.start ≡ n.start) × (m.pattern ≤ n.pattern)) → IsNoGreater n m
      no_greater n e r = inr (e, ⊎_elim inl (λ q. inr (sym q.0, q.1)) r)

  pub greatest_to_end : s.passes_over ≡ false → (o : Option Found) → IsMatchToEnd false s o → o ≡ greatest s
  greatest_to_end off None h = ⊎_elim nothing (λ r. absurd (true≢false (sym r.0 ∙ off))) h.0
  greatest_to_end off (Some m) h = sym ((greatest_law.some s m).1 (from_least m h.0.0 h.1))
