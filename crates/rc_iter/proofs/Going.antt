-- What comes before the end.
use Rattle.std.proofs.Common.{◌≡◌, Bool, false, Option, Result, IfOk, IfErr, subst, sym}
use Rattle.std.specs.Bool.{MatchBool}
use Rattle.rc_text.specs.Text.{Searched}
use Rattle.rc_text.specs.Found.{HalfFound}
use Rattle.rc_text.specs.declared.types.MatchError.{MatchError}
use Rattle.rc_iter.specs.Finders.{AnswersAs, Calls, Task, offset_of}
use Rattle.rc_iter.specs.Searchers.{Leaves, Meets, Rises, StaysWithin, next_by}
use Rattle.rc_iter.specs.Halves.{HalvesLeft, GivesHalf, GivesItem, answer_of, is_last}

where_false : (b : Bool) (P Q : Type 0) → b ≡ false → Q → MatchBool b P Q
where_false b P Q is q = rw is q

-- The call before the end gives an item: the answer `r` of the searcher is handed on.
module _ {F I : Type 0} (searched : I → Searched) (g : Calls F I HalfFound) (s u t : HalvesLeft F) where
  abbrev Told : Result (Option HalfFound) MatchError → Type 0
  Told r =
      ((find : Task → Option HalfFound) → AnswersAs searched g find u.finder → IfOk r (λ o. o ≡ next_by offset_of offset_of find u.searcher))
      × IfErr r (Meets offset_of offset_of searched g u.finder u.searcher)
      × StaysWithin offset_of offset_of u.searcher r × Rises offset_of offset_of u.searcher r
      × Leaves offset_of offset_of u.searcher r t.searcher

  pub is_going : (r : Result (Option HalfFound) MatchError) (item : Option (Result HalfFound MatchError)) → r ≡ answer_of item → u ≡ s →
      u.is_done ≡ false → t.is_done ≡ is_last item → Told r →
      ((find : Task → Option HalfFound) → AnswersAs searched g find u.finder → AnswersAs searched g find t.finder) → GivesItem searched g s item t
  is_going r item is same on done told stays =
      let h = subst Told is told in
      let gives : GivesHalf searched g u item t = record {
        exact = h.0;
        stays = stays;
        failed = h.1;
        within = h.2;
        rises = h.3;
        leaves = h.4;
        done = done;
      } in
      rw (sym same) (where_false u.is_done _ _ on gives)
