use Rattle.std.proofs.Common.{◌≡◌, ◌+◌, ◌∙◌, length, get_or, sym, subst, refl, arith}
use Rattle.std.proofs.lemmas.Option.{slice_get_read, get_or_from_slice_get}
use Rattle.rc_dfa.proofs.SampleLemmas.{AreSamplesSoFar, one_more, no_more}
use Rattle.rc_dfa.proofs.samples.samples_of.Goals as goal
use Rattle.rc_dfa.proofs.samples.samples_of.Goals.{then-from-len+in_ok-push, else-from-len}

pub loop-byte-preserved : goal.loop-byte-preserved
loop-byte-preserved c =
    let lt = c.loop-byte-test.true in
    let here : get_or c.args.classes.now.items c.loop-byte.byte 0 ≡ c.from.result =
    get_or_from_slice_get c.args.classes.now.items c.loop-byte.byte c.index.result.now 0
    (slice_get_read c.args.classes.now.items 256 c.loop-byte.byte c.index.result.now (sym c.requires.size) lt c.index.ensures)
    ∙ sym c.from.ensures in
    let len : c.len.result ≡ length c.loop-byte.samples.items = let e = c.len.ensures in let o = c.loop-byte.samples.ok.0 in omega (arith, e, o) in
    elim c.if-from-len.branch [
      | then-from-len+in_ok-push w ↦ subst (λ v. AreSamplesSoFar c.args.classes.now.items v.items (c.loop-byte.byte + 1)) (sym w.samples-is)
          (one_more c.args.classes.now.items c.loop-byte.samples.items w.push.new.self.items c.loop-byte.byte _ refl
          (here ∙ w.if-from-len.true ∙ len) w.in_ok-push.ensures.items c.loop-byte.invariant)
      | else-from-len w ↦ subst (λ v. AreSamplesSoFar c.args.classes.now.items v.items (c.loop-byte.byte + 1)) (sym w.samples-is)
          (no_more c.args.classes.now.items c.loop-byte.samples.items c.loop-byte.byte c.requires.counted lt
          (λ e. w.if-from-len.false (sym here ∙ e ∙ sym len)) c.loop-byte.invariant)
    ]
