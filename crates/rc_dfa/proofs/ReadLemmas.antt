-- A search that looked so far ended so.
use Rattle.std.proofs.Common.{ℕ, Bool, Some, None}
use Rattle.rc_text.specs.declared.types.Anchored.{Anchored}
use Rattle.rc_program.specs.Text.{Text}
use Rattle.rc_determinize.specs.States.{State}
use Rattle.rc_dfa.specs.Machine.{Alphabet, Machine}
use Rattle.rc_dfa.specs.Runs
use Rattle.rc_dfa.specs.Runs.{RunEnd}
use Rattle.rc_dfa.specs.Reads
use Rattle.rc_dfa.specs.Reads.{EndsBelowOver, SearchEndsBelowOver, SearchEndsBelow, HasEndedBelow}
use Rattle.rc_dfa.specs.Ended.{HasEnded}
use Rattle.rc_dfa.specs.declared.ended.Ended.{Ended}
use Rattle.rc_dfa.specs.declared.ended.Ended.TheVariants.{Found, Idle, Quit, GaveUp}

module _ {a : Alphabet} (m : Machine) (t : Text) (hi from : ℕ) where
  ends_so : (first : State) (earliest : Bool) {e : RunEnd} {k : ℕ} → EndsBelowOver a m t hi from first earliest e k →
      Runs.EndsOver a m t hi from first earliest e
  ends_so first earliest (Reads.at_bound s next run read leads) = Runs.at_bound s next run read leads
  ends_so first earliest (Reads.dead i s run dead) = Runs.dead i s run dead
  ends_so first earliest (Reads.early i s on run) = Runs.early i s on run
  ends_so first earliest (Reads.quit i s run l unread) = Runs.quit i s run l unread
  ends_so first earliest (Reads.rests i s run l idle) = Runs.rests i s run l idle

  search_so : (anchored : Anchored) (earliest : Bool) (e : RunEnd) (r : ℕ) → SearchEndsBelowOver a m t hi from anchored earliest e r →
      Runs.SearchEndsOver a m t hi from anchored earliest e
  search_so anchored earliest e r (Reads.ran first read begins ended) = Runs.ran first read begins (ends_so first earliest ended)
  search_so anchored earliest e r (Reads.unread p is unread) = Runs.unread p is unread

pub search_ends : (m : Machine) (t : Text) (hi from : ℕ) (anchored : Anchored) (earliest : Bool) (e : RunEnd) (r : ℕ) →
    SearchEndsBelow m t hi from anchored earliest e r → Runs.SearchEnds m t hi from anchored earliest e
search_ends m t hi from anchored earliest e r ended = search_so m t hi from anchored earliest e r ended

pub has_ended : (m : Machine) (t : Text) (hi from : ℕ) (anchored : Anchored) (earliest may_rest : Bool) (e : Ended) (r : ℕ) →
    HasEndedBelow m t hi from anchored earliest may_rest e r → HasEnded m t hi from anchored earliest may_rest e
has_ended m t hi from anchored earliest may_rest (Found None) r x = search_ends m t hi from anchored earliest _ r x
has_ended m t hi from anchored earliest may_rest (Found (Some h)) r x = (x.0, x.1, search_ends m t hi from anchored earliest _ r x.2)
has_ended m t hi from anchored earliest may_rest (Idle i) r x = (x.0, search_ends m t hi from anchored earliest _ r x.1)
has_ended m t hi from anchored earliest may_rest (Quit b p) r x = (x.0, search_ends m t hi from anchored earliest _ r x.1)
has_ended m t hi from anchored earliest may_rest (GaveUp p memory) r x = x
