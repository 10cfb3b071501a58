-- What calls of `next` give of a list of matches with their groups.
use Rattle.std.proofs.Common.{◌≡◌, ◌≢◌, ◌∙◌, ℕ, zero, suc, All, List, [], ◌∷◌, ◌++◌, length, map, Some, None, Ok, ap, sym, subst, arith}
use Rattle.std.proofs.iter.runs.Sources.{as_is, from_front}
use Rattle.std.proofs.lemmas.List.{append-nil}
use Rattle.std.specs.Iterator.{Drains, Yields}
use Rattle.std.specs.Iterator.Runs.{YieldsInOrder}
use Rattle.rc_text.specs.Found.{Found}
use Rattle.rc_text.specs.declared.types.MatchKind.{MatchKind}
use Rattle.rc_text.specs.declared.types.MatchKind.TheVariants.{All as all_matches}
use Rattle.rc_captures.specs.Captures.{match_of}
use Rattle.rc_captures.specs.Names.{Names}
use Rattle.rc_captures.specs.declared.captures.Captures.{Captures}
use Rattle.rc_program.specs.Answer.{Search, Chosen}
use Rattle.rc_program.specs.Kinds.{matches_by_kind}
use Rattle.rc_program.specs.Matches.{from_on}
use Rattle.rc_pikevm_search.specs.Tells.{TellsOf, TellsSpan, AllTell, KeepsAll}
use Rattle.rc_pikevm_search.specs.Walks.{walks_left}
use Rattle.api_meta.specs.Left.{captures_input, captures_left, captures_regex, captures_walks, CapturesLaw, CapturesNext, FindNext, find_left, MatchedLaw, SplitNext, split_left, SplitnNext, splitn_left}
use Rattle.api_meta.specs.Seeking.{Finding}
use Rattle.api_meta.specs.Views.{regex_kind, regex_names, sought}
use Rattle.api_meta.specs.declared.iterators.CapturesMatches.{CapturesMatches}
use Rattle.rc_program.specs.Sought.{search_for}

module _ {X : Type 0} (P : X → Type 0) where
  none_all : All P []
  none_all i d l = absurd (omega (arith, l))

  one_more : (x : X) (xs : List X) → P x → All P xs → All P (x ∷ xs)
  one_more x xs p all zero d l = p
  one_more x xs p all (suc i) d l = all i d (omega (arith, l))

-- what the captures search
abbrev pub searched : {C : Type 0} → CapturesMatches C → Search
searched s = search_for (sought (captures_regex s)) (captures_input s)

-- Captures that came between two states, and what is left of the list.
record Came {C : Type 0} (kind : MatchKind) (names : Names) (s : CapturesMatches C) (items : List Captures) (t : CapturesMatches C) : Type 0 where
  pub kept : All (KeepsAll names) items
  pub matched : map Some (captures_left s) ≡ map match_of items ++ map Some (captures_left t)
  pub spans : kind ≡ all_matches → All (λ caps. TellsSpan (match_of caps) caps) items

came : {C : Type 0} (kind : MatchKind) (names : Names) (items : List Captures) (s t : CapturesMatches C) → regex_kind (captures_regex s) ≡ kind →
    regex_names (captures_regex s) ≡ names → Yields CapturesNext s (map Ok items) t → Came kind names s items t
came kind names [] s t kinded named e = record {
  kept = none_all (KeepsAll names);
  matched = ap (λ u. map Some (captures_left u)) e;
  spans = λ all. none_all (λ caps. TellsSpan (match_of caps) caps);
}
came kind names (caps ∷ items) s t kinded named (j, went, ys) =
    let step = went.0 in
    let rest = came kind names items j t (ap regex_kind step.regex ∙ kinded) (ap regex_names step.regex ∙ named) ys in
    record {
      kept = one_more (KeepsAll names) caps items (subst (λ n. KeepsAll n caps) named step.kept) rest.kept;
      matched = ap (map Some) step.left ∙ ap (λ o. o ∷ map Some (captures_left j)) (sym step.matched) ∙ ap (λ xs. match_of caps ∷ xs) rest.matched;
      spans = λ all.
          one_more (λ x. TellsSpan (match_of x) x) caps items
          (subst (λ o. TellsSpan o caps) (sym step.matched) (step.spans (kinded ∙ all))) (rest.spans all);
    }

-- The walks that they tell, and what is left of theirs.
record Walked {C : Type 0} (search : Search) (s : CapturesMatches C) (items : List Captures) (t : CapturesMatches C) : Type 0 where
  pub walks : List Chosen
  pub told : AllTell search walks items
  pub others : captures_walks s ≡ walks ++ captures_walks t
  pub kinded : regex_kind (captures_regex t) ≢ all_matches

walked : {C : Type 0} (search : Search) (x : ℕ) (items : List Captures) (s t : CapturesMatches C) → regex_kind (captures_regex s) ≢ all_matches →
    searched s ≡ from_on search x → Yields CapturesNext s (map Ok items) t → Walked search s items t
walked search x [] s t kinded same e = record {
  walks = [];
  told = tt;
  others = ap captures_walks e;
  kinded = λ all. kinded (ap (λ u. regex_kind (captures_regex u)) e ∙ all);
}
walked search x (caps ∷ items) s t kinded same (j, went, ys) =
    let step = went.0 in
    let next = step.tells kinded in
    let rest = walked search step.start items j t (λ all. kinded (sym (ap regex_kind step.regex) ∙ all)) (step.search ∙ ap (λ y. from_on y step.start) same) ys in
    record {
      walks = next.walk ∷ rest.walks;
      told = (subst (λ y. TellsOf y (Some next.walk) caps) same next.told, rest.told);
      others = next.walks ∙ ap (λ ws. next.walk ∷ ws) rest.others;
      kinded = rest.kinded;
    }

pub matched_law : {C : Type 0} (kind : MatchKind) (names : Names) (search : Search) (start : ℕ) (s : CapturesMatches C) →
    regex_kind (captures_regex s) ≡ kind → regex_names (captures_regex s) ≡ names → captures_left s ≡ matches_by_kind kind search start None →
    MatchedLaw kind names search start s
matched_law kind names search start s kinded named left = record {
  kept = λ items t ys. let c = came kind names items s t kinded named ys in c.kept;
  matched = λ items t ys. let c = came kind names items s t kinded named ys in ap (map Some) (sym left) ∙ c.matched;
  spans = λ all items t ys. let c = came kind names items s t kinded named ys in c.spans all;
  all_matched = λ items t ys.
      let c = came kind names items s ys.0 kinded named ys.1 in
      sym (ap (map Some) (sym left) ∙ c.matched ∙ ap (λ ms. map match_of items ++ map Some ms) ys.2.0.0 ∙ append-nil (map match_of items));
}

pub captures_law : {C : Type 0} (kind : MatchKind) (names : Names) (search : Search) (start : ℕ) (s : CapturesMatches C) → kind ≢ all_matches →
    regex_kind (captures_regex s) ≡ kind → regex_names (captures_regex s) ≡ names → searched s ≡ from_on search start →
    captures_walks s ≡ walks_left kind search start None → captures_left s ≡ matches_by_kind kind search start None → CapturesLaw kind names search start s
captures_law kind names search start s one kinded named same walks left = record {
  kept = λ items t ys. let c = came kind names items s t kinded named ys in c.kept;
  told = λ items t ys. let w = walked search start items s t (λ all. one (sym kinded ∙ all)) same ys in (w.walks, w.told, sym walks ∙ w.others);
  matched = λ items t ys. let c = came kind names items s t kinded named ys in ap (map Some) (sym left) ∙ c.matched;
  all_told = λ items t ys.
      let w = walked search start items s ys.0 (λ all. one (sym kinded ∙ all)) same ys.1 in
      subst (λ ws. AllTell search ws items)
      (sym (sym walks ∙ w.others ∙ ap (λ ws. w.walks ++ ws) (ys.2.0.1 w.kinded) ∙ append-nil w.walks)) w.told;
  all_matched = λ items t ys.
      let c = came kind names items s ys.0 kinded named ys.1 in
      sym (ap (map Some) (sym left) ∙ c.matched ∙ ap (λ ms. map match_of items ++ map Some ms) ys.2.0.0 ∙ append-nil (map match_of items));
}

pub find_runs : YieldsInOrder FindNext find_left
find_runs p u = as_is p (find_left p.from) (from_front FindNext (λ x. x) find_left (λ s t h. ap length h.0.0) (λ s x t h. h.0) p u)

find_came : (items : List Found) (s t : Finding) → Yields FindNext s items t → find_left s ≡ items ++ find_left t
find_came [] s t e = ap find_left e
find_came (m ∷ items) s t (j, went, ys) = went.0 ∙ ap (λ ms. m ∷ ms) (find_came items j t ys)

-- until there is none, all come
pub find_drained : (items : List Found) (s : Finding) → Drains FindNext s items → find_left s ≡ items
find_drained items s (u, (t, ys, step)) = find_came items s t ys ∙ ap (λ ms. items ++ ms) step.0.0 ∙ append-nil items

module _ {C : Type 0} where
  pub split_runs : YieldsInOrder (SplitNext {C = C}) split_left
  split_runs p u = as_is p (split_left p.from) (from_front (SplitNext {C = C}) (λ x. x) split_left (λ s t h. ap length h.0.0) (λ s x t h. h.0) p u)

  pub splitn_runs : YieldsInOrder (SplitnNext {C = C}) splitn_left
  splitn_runs p u = as_is p (splitn_left p.from) (from_front (SplitnNext {C = C}) (λ x. x) splitn_left (λ s t h. ap length h.0.0) (λ s x t h. h.0) p u)
