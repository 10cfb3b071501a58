use Rattle.std.proofs.Common.{◌≡◌, ◌+◌, ◌++◌, ◌∙◌, Bool, List, take, drop, length, sym, subst}
use Rattle.std.proofs.Math.Seq.{take-append_seam}
use Rattle.rc_program.specs.Closing.{AreFlags}
use Rattle.rc_program.specs.Heads.{flags_in}
use Rattle.rc_program.specs.Places.{places_of}
use Rattle.rc_program.proofs.ClosingLemmas.{flags_more}
use Rattle.rc_program.proofs.heads.joined.Goals as goal

pub loop-number-preserved : goal.loop-number-preserved
loop-number-preserved c =
    let new = c.join_at.new.flags in
    let long : length new ≡ c.loop-number.flags.len = c.join_at.auto.flags ∙ c.deref_mut.ensures.len in
    let rest : List Bool = drop (length new) c.loop-number.flags.items in
    let same : take c.loop-number.flags.len (new ++ rest) ≡ new = subst (λ n. take n (new ++ rest) ≡ new) long (take-append_seam new rest) in
    let before = subst (AreFlags (places_of c.args.places.now) (flags_in c.args.tables.now) (take c.loop-number.number-index c.args.opened.now)) (sym c.deref_mut.ensures.value) c.loop-number.invariant in
    subst (AreFlags (places_of c.args.places.now) (flags_in c.args.tables.now) (take (c.loop-number.number-index + 1) c.args.opened.now)) (sym same)
    (flags_more (places_of c.args.places.now) (flags_in c.args.tables.now) c.args.opened.now c.loop-number.number-index 0 c.deref_mut.result.now new c.loop-number-test.true
    c.join_at.auto.flags before c.join_at.ensures)
