-- Entries: matches, how many bytes settle each, and a list of them with a gap.
use Rattle.std.specs.Prelude.{◌≡◌, ℕ, ◌+◌, ◌-◌, ◌<◌, ◌≤◌, List, [], ◌∷◌, ◌++◌, map, min, Option, None, Some, Bool, true, nat_lt}
use Rattle.live_matches.specs.declared.entry.Edit.{Edit}
use Rattle.live_matches.specs.Entry.{Entry}
use Rattle.live_matches.specs.declared.sides.Kept.{Kept}

-- How many bytes of the text settle the entry.
abbrev pub reach_of : Entry → ℕ
reach_of e = e.found.end + e.ahead

-- More bytes settle the entry than a text of `len` bytes has: it depends on where that text ends.
abbrev pub is_open : ℕ → Entry → Bool
is_open len e = nat_lt len (reach_of e)

-- The entry, its places counted from the other end of a text of so many bytes.
abbrev pub mirror : ℕ → Entry → Entry
mirror len e = record {
  found = record {
    pattern = e.found.pattern;
    start = len - e.found.end;
    end = len - e.found.start;
  };
  ahead = e.ahead;
}

-- The entry after an edit before it: so many bytes are gone, and so many are new.
abbrev pub moved_by : ℕ → ℕ → Entry → Entry
moved_by removed inserted e = record {
  found = record {
    pattern = e.found.pattern;
    start = e.found.start - removed + inserted;
    end = e.found.end - removed + inserted;
  };
  ahead = e.ahead;
}

-- How long the text is after an edit.
abbrev pub len_after : Edit → ℕ → ℕ
len_after edit len = len - (edit.replaced.end - edit.replaced.start) + edit.inserted

-- The edit is one of a text of so many bytes, and the new length fits.
pub record FitsEdit (len : ℕ) (edit : Edit) : Type 0 where
  pub order : edit.replaced.start ≤ edit.replaced.end
  pub inside : edit.replaced.end ≤ len
  pub fits : len_after edit len < 18446744073709551616

-- The entry after an edit before it.
abbrev pub moved_with : Edit → Entry → Entry
moved_with edit = moved_by (edit.replaced.end - edit.replaced.start) edit.inserted

-- A list with a gap, of a text of `len` bytes.
pub record Gapped : Type 0 where
  pub before : List Entry
  pub after : List Entry
  pub len : ℕ

-- All entries, in order.
abbrev pub all_of : Gapped → List Entry
all_of g = g.before ++ g.after

-- Where the last of these matches ends, or the match before them.
abbrev pub last_end : Option ℕ → List Entry → Option ℕ
last_end last [] = last
last_end last (e ∷ es) = last_end (Some e.found.end) es

-- The bytes before this place settle all these entries.
abbrev pub AreBelow : ℕ → List Entry → Type 0
AreBelow at [] = Unit {0}
AreBelow at (e ∷ es) = (reach_of e ≤ at) × AreBelow at es

-- All these entries begin after this place.
abbrev pub AreBehind : ℕ → List Entry → Type 0
AreBehind at [] = Unit {0}
AreBehind at (e ∷ es) =
    (at < e.found.start) × (e.found.start ≤ e.found.end) × AreBehind at es

-- The gap moved, and the bytes before this place settle the entries before the gap.
pub record IsSettledTo (at : ℕ) (g h : Gapped) : Type 0 where
  pub all : all_of h ≡ all_of g
  pub len : h.len ≡ g.len
  pub below : AreBelow at h.before

-- The mark is missing, or before this place.
abbrev pub is_before : Option ℕ → ℕ → Bool
is_before None end = true
is_before (Some mark) end = nat_lt mark end

-- Entries after the gap are dropped, until one is that ends at this place or later.
pub record IsSkipped (mark : Option ℕ) (end : ℕ) (g : Gapped) (now : Option ℕ) (h : Gapped) :
    Type 0 where
  pub dropped : List Entry
  pub split : g.after ≡ dropped ++ h.after
  pub mark_is : now ≡ last_end mark dropped
  pub far : is_before now end ≡ true → h.after ≡ []
  pub before : h.before ≡ g.before
  pub len : h.len ≡ g.len

-- How the list with a gap is stored.

-- The entries before the gap, with what settles them, and those after it.
pub record TwoSides : Type 0 where
  pub before : List Kept
  pub after : List Entry

-- The entries before the gap.
abbrev pub entries_of : List Kept → List Entry
entries_of ks = map (λ k. k.entry) ks

-- The entries after the gap, which are stored with their places counted from the end of the text.
abbrev pub counted_back : ℕ → List Entry → List Entry
counted_back len es = map (mirror len) es

-- They lie in the text, and `most` is how many bytes settle an entry and all before it. A number
-- that is too great for a `usize` is stored as the greatest one.
abbrev pub Rise : ℕ → ℕ → List Kept → Type 0
Rise len most [] = Unit {0}
Rise len most (k ∷ ks) =
    (k.entry.found.end ≤ len) × (most ≤ k.most)
    × (min (reach_of k.entry) 18446744073709551615 ≤ k.most) × Rise len k.most ks

-- How many bytes settle all these entries.
abbrev pub most_of : ℕ → List Kept → ℕ
most_of most [] = most
most_of most (k ∷ ks) = most_of k.most ks
