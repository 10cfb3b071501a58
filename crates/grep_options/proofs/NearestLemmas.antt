-- Only proofs use this file.
-- The nearest of some names, and of one name more.
use Rattle.std.proofs.Common.{ℕ, ◌≡◌, ◌<◌, ◌≤◌, ◌+◌, ◌++◌, ◌∷◌, ◌∙◌, [], List, Option, Some, None, ap, append_assoc, arith, length, refl, subst, sym, take, get_or}
use Rattle.std.specs.Prelude.{All}
use Rattle.std.proofs.lemmas.List.{map-append, take_all, take_more}
use Rattle.std.proofs.lemmas.List.Elements.{All-append, All-cons, All-nil, All-push, All-weaker}
use Rattle.grep_options.specs.Nearest.{IsNearest, distance, names_of}
use Rattle.grep_options.specs.declared.table.Entry.{Entry}

-- the distance of the nearest name, or the limit
abbrev pub least_of : (limit : ℕ) → (text : List ℕ) → Option (List ℕ) → ℕ
least_of limit text None = limit
least_of limit text (Some near) = distance text near

module _ (limit : ℕ) (text : List ℕ) (names : List (List ℕ)) (name : List ℕ) where
  abbrev Passed : List ℕ → Type 0
  Passed n = distance text name < distance text n

  nearer : (under : distance text name < limit) → All Passed names → IsNearest limit (names ++ name ∷ []) text (Some name)
  nearer under passed = (names, [], refl, under, passed, All-nil _)

  pub gained : (o : Option (List ℕ)) → IsNearest limit names text o → least_of limit text o ≤ limit → distance text name < least_of limit text o → IsNearest limit (names ++ name ∷ []) text (Some name)
  gained None far most less = nearer less (All-weaker (λ n. limit ≤ distance text n) Passed (λ n h. omega (arith, h, less)) names far)
  gained (Some near) told most less =
      let before = told.0 in
      let behind = told.1 in
      let passed : All Passed (before ++ near ∷ behind) =
      All-append Passed before (near ∷ behind) (All-weaker (λ n. distance text near < distance text n) Passed (λ n h. omega (arith, h, less)) before told.4)
      (All-cons Passed near behind less (All-weaker (λ n. distance text near ≤ distance text n) Passed (λ n h. omega (arith, h, less)) behind told.5)) in
      nearer (omega (arith, less, most)) (subst (All Passed) (sym told.2) passed)

  pub kept : (o : Option (List ℕ)) → IsNearest limit names text o → least_of limit text o ≤ distance text name → IsNearest limit (names ++ name ∷ []) text o
  kept None far more = All-push (λ n. limit ≤ distance text n) names name far more
  kept (Some near) told more = (
    told.0,
    told.1 ++ name ∷ [],
    ap (λ ns. ns ++ name ∷ []) told.2 ∙ append_assoc told.0 (near ∷ told.1) (name ∷ []),
    told.3,
    told.4,
    All-push (λ n. distance text near ≤ distance text n) told.1 name told.5 more,
  )

-- ---- a loop over a table

-- The nearest name of the options before a place, and its distance.
pub record Best (table : List Entry) (place : ℕ) (text : List ℕ) (o : Option (List ℕ)) (least : ℕ) : Type 0 where
  pub near : IsNearest 3 (names_of (take place table)) text o
  pub is : least ≡ least_of 3 text o
  pub most : least ≤ 3

module _ (table : List Entry) (place : ℕ) (d : Entry) (text : List ℕ) (o : Option (List ℕ)) (least found : ℕ) (inside : place < length table) where
  abbrev name_there : List ℕ
  name_there = (get_or table place d).name.now

  one_more : names_of (take (place + 1) table) ≡ names_of (take place table) ++ name_there ∷ []
  one_more = ap names_of (take_more table place d inside) ∙ map-append (λ (e : Entry). e.name.now) (take place table) (get_or table place d ∷ [])

  pub best_gained : Best table place text o least → found ≡ distance text name_there → found < least → Best table (place + 1) text (Some name_there) found
  best_gained best is less = record {
    near = subst (λ names. IsNearest 3 names text (Some name_there)) (sym one_more) (gained 3 text (names_of (take place table)) name_there o best.near (omega (arith, best.is, best.most)) (omega (arith, best.is, is, less)));
    is = is;
    most = omega (arith, less, best.most);
  }

  pub best_kept : Best table place text o least → found ≡ distance text name_there → least ≤ found → Best table (place + 1) text o least
  best_kept best is more = record {
    near = subst (λ names. IsNearest 3 names text o) (sym one_more) (kept 3 text (names_of (take place table)) name_there o best.near (omega (arith, best.is, is, more)));
    is = best.is;
    most = best.most;
  }

pub best_of_all : (table : List Entry) (place : ℕ) (text : List ℕ) (o : Option (List ℕ)) (least : ℕ) → length table ≤ place → Best table place text o least → IsNearest 3 (names_of table) text o
best_of_all table place text o least done best = subst (λ es. IsNearest 3 (names_of es) text o) (take_all place table done) best.near
