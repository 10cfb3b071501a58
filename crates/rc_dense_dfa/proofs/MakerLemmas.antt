-- What the steps of a maker give.
use Rattle.std.proofs.Common.{◌≡◌, ℕ, ◌<◌, length, List, Option, Some, slice_get, IsTrue, true, false, true≢false, sym, subst, ◌∙◌, Bool}
use Rattle.std.proofs.lemmas.Option.{slice_get-get_or}
use Rattle.rc_text.specs.declared.types.Anchored.{Anchored}
use Rattle.rc_determinize.specs.Sides.{IsReadable}
use Rattle.rc_determinize.specs.States.{State}
use Rattle.rc_dfa.specs.Machine.{Machine, Leads, Begins}
use Rattle.rc_dense_dfa.specs.Tables.{IsReached, goes_on, dead_state}
use Rattle.rc_dense_dfa.specs.Makes.{AreStates}

pub unread : (m k : Machine) (b : Bool) (beside : Option ℕ) → k ≡ m → b ≡ false → (IsReadable k.setting.needs beside → IsTrue b) → ¬ IsReadable m.setting.needs beside
unread m k b beside same f h r = true≢false (sym (h (subst (λ (n : Machine). IsReadable n.setting.needs beside) (sym same) r)) ∙ f)

pub read : (m k : Machine) (b : Bool) (beside : Option ℕ) → k ≡ m → b ≡ true → (IsTrue b → IsReadable k.setting.needs beside) → IsReadable m.setting.needs beside
read m k b beside same t h = subst (λ (n : Machine). IsReadable n.setting.needs beside) same (h t)

pub led : (m k : Machine) (s t : State) (beside : Option ℕ) → k ≡ m → Leads k s beside t → Leads m s beside t
led m k s t beside same h = subst (λ (n : Machine). Leads n s beside t) same h

pub begun : (m k : Machine) (anchored : Anchored) (beside : Option ℕ) (t : State) → k ≡ m → Begins k anchored beside t → Begins m anchored beside t
begun m k anchored beside t same h = subst (λ (n : Machine). Begins n anchored beside t) same h

-- the state to which a byte leads from the state of the number
pub reached_on : (m : Machine) (states : List State) (number b : ℕ) (t : State) → AreStates m states → number < length states → b < 256 →
    IsReadable m.setting.needs (Some b) → ((s : State) → slice_get states number ≡ Some s → Leads m s (Some b) t) → IsReached m t
reached_on m states number b t a lt byte readable lead =
    let there = slice_get-get_or states number dead_state lt in
    goes_on _ b (a.reached number _ there) byte readable (lead _ there)
