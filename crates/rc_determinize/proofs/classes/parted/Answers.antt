use Rattle.std.proofs.Common.{◌≡◌, ◌+◌, ◌++◌, ◌∙◌, Bool, List, drop, length, subst, sym, take}
use Rattle.std.proofs.Math.Seq.{take-append_seam}
use Rattle.std.specs.List.{list_any}
use Rattle.rc_program.specs.Closing.{AreJoined}
use Rattle.rc_utf8.specs.Places.{place_of, places_of}
use Rattle.rc_determinize.specs.Sides.{ranges_of}
use Rattle.rc_determinize.specs.Classes.{ArePartedAt, parts}
use Rattle.rc_determinize.proofs.BorderLemmas.{parted_more}
use Rattle.rc_determinize.proofs.classes.parted.Goals as goal

pub loop-place-preserved : goal.loop-place-preserved
loop-place-preserved c =
    let ps = c.args.places.now in
    let i = c.loop-place.place-index in
    let new = c.flag_place.new.borders in
    let long : length new ≡ c.loop-place.borders.len = c.flag_place.auto.borders ∙ c.deref_mut.ensures.len in
    let rest : List Bool = drop (length new) c.loop-place.borders.items in
    let same : take c.loop-place.borders.len (new ++ rest) ≡ new = subst (λ n. take n (new ++ rest) ≡ new) long (take-append_seam new rest) in
    let before = subst (ArePartedAt (places_of (take i ps))) (sym c.deref_mut.ensures.value) c.loop-place.invariant.parted in
    let whole : length new ≡ 256 = c.flag_place.auto.borders ∙ subst (λ l. length l ≡ 256) (sym c.deref_mut.ensures.value) c.loop-place.invariant.size in
    let joined = subst (λ q. AreJoined 255 (λ b. list_any (parts b) (ranges_of (place_of q))) c.deref_mut.result.now new) c.place-item.is c.flag_place.ensures in
    record {
      size = subst (λ l. length l ≡ 256) (sym same) whole;
      parted = subst (ArePartedAt (places_of (take (i + 1) ps))) (sym same) (parted_more ps i c.place-item.result c.deref_mut.result.now new c.loop-place-test.true before joined);
    }
