-- Edits: the list of the matches of a content of which some bytes are replaced.
use Rattle.std.specs.Prelude.{◌≡◌, ℕ, ◌+◌, ◌≤◌, List, [], ◌∷◌, ◌++◌, take, drop, Option, Some}
use Rattle.std.specs.Option.{option_map}
use Rattle.rc_text.specs.Found.{Found}
use Rattle.rc_program.specs.Matches.{next_match}

-- The content with `bytes` in place of its bytes from a to b.
abbrev pub edited : List ℕ → ℕ → ℕ → List ℕ → List ℕ
edited content a b bytes = take a content ++ (bytes ++ drop b content)

-- The match, d bytes further on.
abbrev pub match_further : ℕ → Found → Found
match_further d m = record { pattern = m.pattern; start = m.start + d; end = m.end + d }

-- For any way to find the next match from a place on.
module _ {X : Type 0} (begin end : X → ℕ) (find : ℕ → Option X) where
  -- From k on, if the match before ended at `last`, the list begins with these matches. After them
  -- it goes on from j, and the match before ended at `after`.
  pub data Begins : ℕ → Option ℕ → List X → ℕ → Option ℕ → Type 0 where
    here : {k : ℕ} {last : Option ℕ} → Begins k last [] k last
    goes_on : {k j : ℕ} {last after : Option ℕ} {ms : List X} (m : X) →
        next_match begin end find k last ≡ Some m →
        Begins (end m) (Some (end m)) ms j after → Begins k last (m ∷ ms) j after

-- For two ways to find the next match: in an old content and in a new one.
module _ {X : Type 0} (begin end : X → ℕ) (old new : ℕ → Option X) where
  -- From k on, the list of the old content begins with matches that the new one has too.
  pub data AreKept : ℕ → Option ℕ → List X → ℕ → Option ℕ → Type 0 where
    here : {k : ℕ} {last : Option ℕ} → AreKept k last [] k last
    goes_on : {k j : ℕ} {last after : Option ℕ} {ms : List X} (m : X) →
        next_match begin end old k last ≡ Some m →
        next_match begin end new k last ≡ next_match begin end old k last →
        AreKept (end m) (Some (end m)) ms j after →
        AreKept k last (m ∷ ms) j after

  -- From k on, the new content has what the old one has, d bytes further on.
  abbrev pub IsFurther : (X → X) → ℕ → ℕ → Type 0
  IsFurther move d k = (j : ℕ) → k ≤ j → new (j + d) ≡ option_map move (old j)

  -- From k on, the old content has what the new one has, d bytes further on.
  abbrev pub IsNearer : (X → X) → ℕ → ℕ → Type 0
  IsNearer move d k = (j : ℕ) → k ≤ j → old (j + d) ≡ option_map move (new j)

-- It moves each match by d bytes.
abbrev pub IsMove : {X : Type 0} → (X → ℕ) → (X → ℕ) → (X → X) → ℕ → Type 0
IsMove {X} begin end move d = (m : X) → (begin (move m) ≡ begin m + d) × (end (move m) ≡ end m + d)

-- Each match that is found ends at the place where it was sought, or after it.
abbrev pub FindsOn : {X : Type 0} → (X → ℕ) → (ℕ → Option X) → Type 0
FindsOn {X} end find = (k : ℕ) (m : X) → find k ≡ Some m → k ≤ end m
