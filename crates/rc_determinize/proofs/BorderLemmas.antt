-- Borders of classes, found in one pass over the places.
use Rattle.std.proofs.Common.{◌≡◌, ◌∙◌, ◌+◌, ◌<◌, ℕ, List, [], ◌∷◌, ◌++◌, Bool, true, false, ◌||◌, ap, length, refl, slice_index_or, sym, take}
use Rattle.std.specs.List.{list_any}
use Rattle.std.proofs.Math.Bool.{or-false}
use Rattle.std.proofs.lemmas.List.{map_push, take_more}
use Rattle.rc_program.specs.Closing.{AreJoined}
use Rattle.rc_program.specs.Program.{Place}
use Rattle.rc_utf8.specs.Places.{place_of, places_of}
use Rattle.rc_utf8.specs.declared.place.BytePlace.{BytePlace}
use Rattle.rc_determinize.specs.Sides.{ranges_of}
use Rattle.rc_determinize.specs.Classes.{ArePartedAt, are_parted, parts}

or_same : (x y z : Bool) → ((x || y) || z) ≡ (x || (y || z))
or_same true y z = refl
or_same false y z = refl

parted_push : (qs : List Place) (q : Place) (b : ℕ) → are_parted (qs ++ q ∷ []) b ≡ (are_parted qs b || list_any (parts b) (ranges_of q))
parted_push [] q b = or-false _
parted_push (s ∷ qs) q b =
    ap (λ t. list_any (parts b) (ranges_of s) || t) (parted_push qs q b) ∙ sym (or_same (list_any (parts b) (ranges_of s)) (are_parted qs b) (list_any (parts b) (ranges_of q)))

-- one more of the places
pub parted_more : (ps : List BytePlace) (i : ℕ) (d : BytePlace) (xs ys : List Bool) → i < length ps → ArePartedAt (places_of (take i ps)) xs →
    AreJoined 255 (λ b. list_any (parts b) (ranges_of (place_of (slice_index_or ps i d)))) xs ys → ArePartedAt (places_of (take (i + 1) ps)) ys
parted_more ps i d xs ys lt h k = λ b small.
    k b small ∙ ap (λ x. x || list_any (parts b) (ranges_of (place_of (slice_index_or ps i d)))) (h b small)
    ∙ sym (ap (λ (l : List BytePlace). are_parted (places_of l) b) (take_more ps i d lt)
    ∙ ap (λ (l : List Place). are_parted l b) (map_push place_of (take i ps) (slice_index_or ps i d)) ∙ parted_push (places_of (take i ps)) (place_of (slice_index_or ps i d)) b)
