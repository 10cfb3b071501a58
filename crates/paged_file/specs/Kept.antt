-- Pages that are kept in memory, and the cursor over them.
use Rattle.std.specs.Prelude.{◌≡◌, ◌≢◌, ℕ, ◌+◌, ◌-◌, ◌*◌, ◌^◌, ◌<◌, ◌≤◌, List, drop, length, min, slice_get, sum_by, take, vec_capacity, All, Option, IfSome, MatchOption, Some, true, get_or}
use Rattle.rc_text.specs.Piece.{Shows}
use Rattle.paged_file.specs.Stored.{Stored, fault_of}
use Rattle.paged_file.specs.declared.page.Page.{Page}
use Rattle.paged_file.specs.declared.page.Spares.{Spares}
use Rattle.paged_file.specs.declared.pages.ReadFault.{ReadFault}

-- How much memory is taken: for the bytes of pages, and for the list of those that aren't shown.
pub record Room : Type 0 where
  pub bytes : ℕ
  pub entries : ℕ

-- how many bytes the pages have room for
abbrev pub room_of : List Page → ℕ
room_of pages = sum_by (λ p. vec_capacity p.bytes) pages

-- A cursor over a file, as contracts see it.
pub record Paged : Type 0 where
  pub stored : Stored
  -- the length of a page, and how many are in memory
  pub page_len : ℕ
  pub pages : ℕ
  -- the page that is shown, and where it begins
  pub chunk : List ℕ
  pub offset : ℕ
  -- the fault that was met
  pub failure : Option ReadFault
  -- the memory that it has taken
  pub room : Room

-- The file and the room for pages are the same.
pub record Same (a b : Paged) : Type 0 where
  pub stored : b.stored ≡ a.stored
  pub page_len : b.page_len ≡ a.page_len
  pub pages : b.pages ≡ a.pages
  pub room : b.room ≡ a.room

-- A page in memory has room for page_len bytes. It holds none, or those of the page at its offset.
pub record IsHeld (bytes : List ℕ) (page_len : ℕ) (p : Page) : Type 0 where
  pub room : length p.bytes.items ≡ page_len
  pub within : p.len ≤ page_len
  pub filled : 0 < p.len → take p.len p.bytes.items ≡ take page_len (drop p.offset bytes)

-- Each page in memory is held, and there is one.
pub record AreHeld (bytes : List ℕ) (page_len : ℕ) (pages : List Page) : Type 0 where
  pub each : All (IsHeld bytes page_len) pages
  pub one : 0 < length pages

-- The page holds bytes from the place on.
pub record IsPageAt (at : ℕ) (p : Page) : Type 0 where
  pub offset : p.offset ≡ at
  pub some : 0 < p.len

-- no page does
abbrev pub NoneAt : ℕ → List Page → Type 0
NoneAt at pages = (k : ℕ) (p : Page) → slice_get pages k ≡ Some p → ¬ IsPageAt at p

-- no page was read before the one at the slot
abbrev pub IsOldest : List Page → ℕ → Type 0
IsOldest pages slot = (k : ℕ) (a b : Page) → slice_get pages slot ≡ Some a → slice_get pages k ≡ Some b → a.number ≤ b.number

-- The page at the place wasn't in memory. It was read into the room of the page that was read longest ago, and the others stayed.
pub record IsRead (at : ℕ) (old new : Spares) (slot : ℕ) : Type 0 where
  pub none : NoneAt at old.pages.items
  pub oldest : IsOldest old.pages.items slot
  pub others : (k : ℕ) → k ≢ slot → slice_get new.pages.items k ≡ slice_get old.pages.items k
  pub last : new.reads ≡ min (old.reads + 1) (2 ^ 64 - 1)
  pub number : IfSome (slice_get new.pages.items slot) (λ p. p.number ≡ new.reads)

-- A page that was asked for is at a slot, or the file ends before it.
abbrev pub Fetched : Stored → ℕ → Option ℕ → List Page → Type 0
Fetched s at o pages = MatchOption o ((length s.bytes ≤ at) × (s.is_whole ≡ true))
    (λ slot. (slot < length pages) × ((d : Page) → ((get_or pages slot d).offset ≡ at) × (0 < (get_or pages slot d).len)))

-- The place begins a page.
abbrev pub IsStart : ℕ → ℕ → Type 0
IsStart page_len at = (number : ℕ) × (at ≡ number * page_len)

-- The cursor shows this page.
pub record IsShown (s : Stored) (page_len : ℕ) (p : Page) : Type 0 where
  pub some : 0 < page_len
  pub held : IsHeld s.bytes page_len p
  pub start : IsStart page_len p.offset
  pub shows : Shows s.bytes p.offset (take p.len p.bytes.items)

-- A fault that was met is the file's.
abbrev pub IsMet : Stored → Option ReadFault → Type 0
IsMet s o = IfSome o (λ f. fault_of s ≡ Some f)

-- It shows the page at a place, and meets no fault.
pub record Shown (a : Paged) (at : ℕ) (b : Paged) : Type 0 where
  pub within : at < length a.stored.bytes
  pub offset : b.offset ≡ at
  pub chunk : b.chunk ≡ take a.page_len (drop at a.stored.bytes)
  pub failure : b.failure ≡ a.failure

-- No byte stands at a place: the same page is shown, and the fault that was met there is kept.
pub record IsEnd (a : Paged) (at : ℕ) (b : Paged) : Type 0 where
  pub past : length a.stored.bytes ≤ at
  pub offset : b.offset ≡ a.offset
  pub chunk : b.chunk ≡ a.chunk
  pub failure : b.failure ≡ fault_of a.stored
