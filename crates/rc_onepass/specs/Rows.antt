-- Only proofs use this file.
-- Rows: what a one-pass DFA tells of the ways from a place.
use Rattle.std.specs.Prelude.{◌≡◌, ℕ, suc, ◌+◌, ◌*◌, ◌<◌, ◌⊎◌, List, [], ◌∷◌, length, Option, Some, None, slice_get, slice_index_or}
use Rattle.std.specs.List.{Contains}
use Rattle.rc_program.specs.Program.{Place, accept, place_at}
use Rattle.rc_program.specs.Heads.{silent}
use Rattle.rc_onepass.specs.OnePass.{IsEntered, IsOnePass, Leads, Takes, named}
use Rattle.rc_onepass.specs.declared.row.Link.{Link}
use Rattle.rc_onepass.specs.declared.row.Row.{Row}
use Rattle.rc_onepass.specs.declared.row.Transition.{Transition}
use Rattle.rc_onepass.specs.declared.closure.Visit.{Visit}
use Rattle.rc_onepass.specs.declared.onepass.OnePass.{OnePass}

-- The slots that are set from link number j on: none for 0.
pub data Names (links : List Link) : ℕ → List ℕ → Type 0 where
  none : Names links 0 []
  one : {ks : List ℕ} (i : ℕ) (link : Link) → slice_get links i ≡ Some link → link.before < suc i → Names links link.before ks →
      Names links (suc i) (link.slot ∷ ks)

-- The transition leads to n, and sets these slots.
pub record Tells (links : List Link) (t : Option Transition) (ks : List ℕ) (n : ℕ) : Type 0 where
  pub transition : Transition
  pub there : t ≡ Some transition
  pub next : transition.next ≡ n
  pub slots : Names links transition.slots ks

-- A match may end, and these slots are set.
pub record TellsEnd (links : List Link) (end : Option ℕ) (ks : List ℕ) : Type 0 where
  pub slots : ℕ
  pub there : end ≡ Some slots
  pub names : Names links slots ks

-- What a row tells of the place m, to which an epsilon path leads that names the slots ks.
pub record TellsPlace (places : List Place) (row : Row) (ks : List ℕ) (m : ℕ) : Type 0 where
  pub over : (b n : ℕ) → b < 128 → Takes (place_at places m) b n → Tells row.links.items (slice_index_or row.transitions.items b None) ks n
  pub ends : (p : ℕ) → place_at places m ≡ accept p → TellsEnd row.links.items row.end ks

-- A row tells of each place to which an epsilon path leads from q. As it has one transition for a
-- byte, at most one way leads on.
pub record TellsRow (places : List Place) (q : ℕ) (row : Row) : Type 0 where
  pub whole : length row.transitions.items ≡ 128
  pub tells : (ks : List ℕ) (m : ℕ) → Leads places [] q ks m → TellsPlace places row ks m

-- Each row is that of its place.
abbrev pub AreRows : List Place → List (Option Row) → Type 0
AreRows places rows = (q : ℕ) (row : Row) → slice_get rows q ≡ Some (Some row) → TellsRow places q row

-- Each place that is entered first or after a byte has a row.
abbrev pub HasRows : List Place → List (Option Row) → Type 0
HasRows places rows = (q : ℕ) → q < length places → IsEntered places q → (row : Row) × (slice_get rows q ≡ Some (Some row))

pub record IsOnePassOf (places : List Place) (dfa : OnePass) : Type 0 where
  pub rows : AreRows places dfa.rows.items
  pub whole : HasRows places dfa.rows.items

-- From each place that has a row, at most one way leads on.
abbrev pub LeadOneWay : List Place → OnePass → Type 0
LeadOneWay places dfa = (q : ℕ) (row : Row) → slice_get dfa.rows.items q ≡ Some (Some row) → IsOnePass places q

-- How many bytes the transitions and links of the rows take.
abbrev pub bytes_of_row : Option Row → ℕ
bytes_of_row None = 0
bytes_of_row (Some row) = 24 * length row.transitions.items + 16 * length row.links.items

abbrev pub bytes_of_rows : List (Option Row) → ℕ
bytes_of_rows [] = 0
bytes_of_rows (row ∷ rows) = bytes_of_row row + bytes_of_rows rows

-- While a row is made.

-- Each transition stays.
pub record Fills (old new : List (Option Transition)) : Type 0 where
  pub long : length new ≡ length old
  pub kept : (b : ℕ) (t : Transition) → slice_index_or old b None ≡ Some t → slice_index_or new b None ≡ Some t

-- Each link stays.
abbrev pub GrowsLinks : List Link → List Link → Type 0
GrowsLinks old new = (i : ℕ) (link : Link) → slice_get old i ≡ Some link → slice_get new i ≡ Some link

pub record Grows (old new : Row) : Type 0 where
  pub transitions : Fills old.transitions.items new.transitions.items
  pub end : (j : ℕ) → old.end ≡ Some j → new.end ≡ Some j
  pub links : GrowsLinks old.links.items new.links.items

-- An epsilon path leads on from one of the places that are entered next.
pub record Waits (places : List Place) (links : List Link) (stack : List Visit) (ks : List ℕ) (m : ℕ) : Type 0 where
  pub visit : Visit
  pub there : Contains stack visit
  pub slots : List ℕ
  pub names : Names links visit.slots slots
  pub leads : Leads places slots visit.place ks m

-- The ways from the place were followed, where these slots were named.
pub record IsFollowed (places : List Place) (old new : Row) (before after : List Visit) (visit : Visit) : Type 0 where
  pub grows : Grows old new
  pub stays : (v : Visit) → Contains before v → Contains after v
  pub told : (ks : List ℕ) → Names old.links.items visit.slots ks → TellsPlace places new ks visit.place
  pub pushed : (ks : List ℕ) (n : ℕ) → Names old.links.items visit.slots ks → Contains (silent (place_at places visit.place)) n →
      (slots : ℕ) × Contains after (record { place = n; slots = slots }) × Names new.links.items slots (named (place_at places visit.place) ks)

-- The row tells of each place to which an epsilon path leads from q, or the path leads on from one
-- that is entered next.
abbrev pub IsUnderWay : List Place → ℕ → Row → List Visit → Type 0
IsUnderWay places q row stack = (ks : List ℕ) (m : ℕ) → Leads places [] q ks m → TellsPlace places row ks m ⊎ Waits places row.links.items stack ks m
