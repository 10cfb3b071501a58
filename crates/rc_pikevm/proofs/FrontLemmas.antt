-- Walks set out through one pattern after another.
use Rattle.std.proofs.Common.{◌≡◌, ◌∙◌, ◌⊎◌, ℕ, Bool, List, [], ◌∷◌, length, refl}
use Rattle.rc_pattern_set.specs.Sets.{Has as IsMember}
use Rattle.rc_walks.specs.Walks.{Pair}
use Rattle.rc_program.specs.Program.{choice, place_at}
use Rattle.rc_pikevm.specs.Entrances.{IsShut}
use Rattle.rc_pikevm.specs.Fronts.{LeadsOnlyTo}
use Rattle.rc_pikevm.specs.Marking.{AreSame, IsSettingOut, KeepsMarks, Owed}
use Rattle.rc_pikevm.specs.Passing.{HasRoom, IsGrown}
use Rattle.rc_pikevm.specs.Sights.{Sight}
use Rattle.rc_pikevm.specs.Sparse.{Has, Members}
use Rattle.rc_pikevm.specs.Threads.{ThreadList}
use Rattle.rc_pikevm.proofs.GrownLemmas.{grown_same, grown_then}
use Rattle.rc_pikevm.proofs.MarkMoveLemmas.{low_in, owed_forks, owed_idle, same_then}

module _ {s : Sight} {n hi at : ℕ} {threads0 : ThreadList} {entered0 : Members} {set0 : List Bool} where
  -- at first none has
  pub none_set_out : HasRoom s n hi at threads0 entered0 → IsSettingOut s n hi at 0 threads0 entered0 set0 threads0 entered0 set0
  none_set_out sound = record {
    same = λ below p low. (λ h. h, λ h. h);
    long = refl;
    more = λ p h. h;
    grown = grown_same sound;
  }

  module _ {q a b : ℕ} {threads : ThreadList} {entered : Members} {set : List Bool}
      (so_far : IsSettingOut s n hi at q threads0 entered0 set0 threads entered set) (fresh : ¬ Has entered.items q)
      (forks : place_at s.places q ≡ choice (a ∷ b ∷ [])) where
    -- the first way is followed
    pub way_set_out : {threads2 : ThreadList} {entered2 : Members} {set2 : List Bool} →
        ((below : List Pair) → AreSame (length set) (Owed s at threads.items entered.items ((a, at) ∷ below) set)
        (Owed s at threads2.items entered2.items below set2)) →
        length set2 ≡ length set → KeepsMarks set set2 → IsGrown s n hi at at threads entered threads2 entered2 →
        IsSettingOut s n hi at b threads0 entered0 set0 threads2 entered2 set2
    way_set_out closing long more grown = record {
      same = λ below p low.
          same_then (so_far.same below p low)
          (same_then (owed_forks s p at set threads.items entered.items below q a b fresh forks)
          (closing ((b, at) ∷ below) p (low_in p set0 set so_far.long low)));
      long = long ∙ so_far.long;
      more = λ p h. more p (so_far.more p h);
      grown = grown_then so_far.grown grown;
    }

    -- it is left out
    pub way_left_out : (number : ℕ) → IsMember set number ⊎ IsShut s (a, at) → LeadsOnlyTo s.places a number →
        IsSettingOut s n hi at b threads0 entered0 set0 threads entered set
    way_left_out number idle own =
        way_set_out (λ below p low. owed_idle s p at set threads.items entered.items below a number idle own)
        refl (λ p h. h) (grown_same so_far.grown.sound)
