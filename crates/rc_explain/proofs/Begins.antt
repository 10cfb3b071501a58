-- With which characters the tokens of a text begin.
use Rattle.std.proofs.Common.{◌≡◌, ◌++◌, All, ℕ, Bool, true, false, Option, Some, None, List, [], ◌∷◌, ap, slice_get, subst, sym}
use Rattle.std.proofs.lemmas.List.Elements.{All-get_or, All-push}
use Rattle.std.proofs.lemmas.Option.{get_or_from_slice_get, slice_get_within}
use Rattle.rc_tokens.specs.Text.{Characters}
use Rattle.rc_tokens.specs.Marks.{Mark, bar, bounds_of, capturing, closes, flagging, naming, opens, piece_says, repeats, said, setting, stands, written}
use Rattle.rc_tokens.specs.Said.{Bar, Closes, Opens, Repeats, Said, Setting, Stands as Has, Start}
use Rattle.rc_tokens.specs.View.{said_of, start_of}
use Rattle.rc_tokens.specs.declared.tokens.Opening.{Opening}
use Rattle.rc_tokens.specs.declared.tokens.Token.{Token}
use Rattle.rc_tokens.specs.declared.tokens.Token.TheVariants.{Opens as opens_token}
use Rattle.rc_tokens.proofs.StepLemmas.{some_parts}
use Rattle.rc_explain.specs.Reading.{AreOpen, IsToken}
use Rattle.rc_explain.specs.Shown.{AreAt, Stands}
use Rattle.rc_explain.specs.declared.marks.OpenGroup.{OpenGroup}

-- no group opens
abbrev OpensNone : Said → Type 0
OpensNone (Has s) = Unit {0}
OpensNone Bar = Unit {0}
OpensNone (Setting to) = Unit {0}
OpensNone (Opens start) = ⊥
OpensNone Closes = Unit {0}
OpensNone (Repeats b) = Unit {0}

abbrev AtMost : Option Said → Type 0
AtMost None = Unit {0}
AtMost (Some k) = OpensNone k

other : (k : Said) (start : Start) → OpensNone k → Some k ≡ Some (Opens start) → ⊥
other k start none e = subst AtMost e none

opening_written : (m : Mark) (start : Start) (t : Characters) → said m ≡ Some (Opens start) → AreAt t 0 (written m) → Stands t 0 40
opening_written (stands p) start t says at = let (s, h, same) = some_parts (piece_says p) (λ s. Some (Has s)) (Opens start) says in absurd (other (Has s) start tt same)
opening_written bar start t says at = absurd (other Bar start tt says)
opening_written (setting f) start t says at = at.0
opening_written (opens capturing) start t says at = at.0
opening_written (opens (naming true n)) start t says at = at.0
opening_written (opens (naming false n)) start t says at = at.0
opening_written (opens (flagging f)) start t says at = at.0
opening_written closes start t says at = absurd (other Closes start tt says)
opening_written (repeats o) start t says at = let (b, h, same) = some_parts (bounds_of o.lazy o.amount) (λ b. Some (Repeats b)) (Opens start) says in absurd (other (Repeats b) start tt same)

-- a token that opens a group begins with `(`
pub opens_at : (t : Characters) (start : Start) (n : ℕ) → IsToken (Opens start) t 0 n → Stands t 0 40
opens_at t start n h = opening_written h.mark start t h.says h.here.here

-- what holds of all holds of each
pub held_at : {A : Type 0} (Is : A → Type 0) (l : List A) (i : ℕ) (x : A) → slice_get l i ≡ Some x → All Is l → Is x
held_at Is l i x e held = subst Is (get_or_from_slice_get l i x x e) (All-get_or Is l i x (slice_get_within l i x e) held)

-- each open group begins with one
pub open_at : (text : Characters) (groups : List OpenGroup) (i : ℕ) (g : OpenGroup) → slice_get groups i ≡ Some g → AreOpen text groups → Stands text g.at 40
open_at text groups i g e held = held_at (λ (x : OpenGroup). Stands text x.at 40) groups i g e held

-- also the one that a token opens
pub open_more : (text : Characters) (token : Token) (opening : Opening) (at : ℕ) (old new : List OpenGroup) (outside : Bool) → token ≡ opens_token opening →
    new ≡ old ++ record { at = at; is_unicode_outside = outside } ∷ [] → ((start : Start) → said_of token ≡ Opens start → Stands text at 40) →
    AreOpen text old → AreOpen text new
open_more text token opening at old new outside is pushed starts held =
    subst (AreOpen text) (sym pushed)
    (All-push (λ (x : OpenGroup). Stands text x.at 40) old (record { at = at; is_unicode_outside = outside }) held (starts (start_of opening) (ap said_of is)))
