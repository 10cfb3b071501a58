-- Which files a walk over folders gives, and in which order. What the system tells of a path isn't said here.
use Rattle.std.specs.Prelude.{◌≡◌, ◌≢◌, ◌==◌, ◌&&◌, ◌||◌, ◌⊎◌, ℕ, Bool, false, true, not, List, [], ◌∷◌, ◌++◌, All, length, IsTrue, slice_index, string_bytes, string_cmp}
use Rattle.std.specs.Borrow.{Bor}
use Rattle.std.specs.Fs.{IsDir, IsFile, IsSymlink}
use Rattle.std.specs.List.{list_any}
use Rattle.std.specs.List.Sorted.{IsSortedByKey}
use Rattle.std.specs.Option.{option_map, unwrap_or}
use Rattle.std.specs.Path.{path_file_name, rsplit_once, slash}
use Rattle.std.specs.declared.fs.FileType.{FileType}
use Rattle.grep_files.specs.Globs.{fits}
use Rattle.grep_files.specs.declared.walk.Choice.{Choice}
use Rattle.grep_files.specs.declared.walk.FoundFile.{FoundFile}
use Rattle.grep_files.specs.declared.walk.Walk.{Walk}

abbrev pub Text : Type 0
Text = List ℕ

-- ---- which entries of a folder are searched

abbrev pub fits_any : List (Bor Text) → Text → Bool
fits_any globs name = list_any (λ g. fits g.now name) globs

-- the name fits one of the globs, or there are none
abbrev pub is_included : List (Bor Text) → Text → Bool
is_included globs name = (length globs == 0) || fits_any globs name

-- a file of this name is searched
abbrev pub is_chosen : Choice → Text → Bool
is_chosen c name = is_included c.include.items name && not (fits_any c.exclude.items name)

-- names that begin with a dot, 46, are passed over, unless they are asked for
abbrev pub is_shown : Choice → Text → Bool
is_shown c name = c.hidden || not (slice_index name 0 == 46)

-- a folder of this name is passed over
abbrev pub is_left_out : Choice → Text → Bool
is_left_out c name = fits_any c.exclude_dir.items name

-- it is read: a file, or a link, if links are followed
abbrev pub IsRead : Choice → FileType → Type 0
IsRead c kind = IsFile kind ⊎ (IsTrue c.follows_links × IsSymlink kind)

-- an entry of this kind and name is searched: a folder that isn't passed over, or a file that the globs choose
abbrev pub IsTaken : Choice → FileType → Text → Type 0
IsTaken c kind name = IsTrue (is_shown c name) × ((IsDir kind × IsTrue (not (is_left_out c name))) ⊎ (IsRead c kind × IsTrue (is_chosen c name)))

-- what is behind the last slash
abbrev pub last_name : Text → Text
last_name path = unwrap_or (option_map (λ split. split.1) (rsplit_once slash path)) path

-- an entry of this path is searched, whatever its kind is
abbrev pub IsEntry : Choice → Text → Type 0
IsEntry c path = (kind : FileType) × IsTaken c kind (last_name path)

-- a folder of this path is passed over by its name; one without a name, as `.` and `/`, never is
abbrev pub is_shut : Choice → Text → Bool
is_shut c path = unwrap_or (option_map (is_left_out c) (path_file_name path)) false

-- ---- in which order

-- The files and folders are entries that are searched, in the order of their paths.
pub record AreEntries (c : Choice) (entries : List FoundFile) : Type 0 where
  pub ordered : IsSortedByKey (λ (f : FoundFile). f.path) string_cmp entries
  pub taken : All (λ (f : FoundFile). (f.is_in_folder ≡ true) × IsEntry c (string_bytes f.path)) entries

-- the path may be that of a folder that is searched; `-`, 45, is the standard input
abbrev pub IsEntered : Choice → Text → Type 0
IsEntered c path = IsTrue c.is_recursive × (path ≢ 45 ∷ [])

-- None of the entries of a folder is searched if it is passed over by its name.
abbrev pub IsOpen : Choice → Text → List FoundFile → Type 0
IsOpen c path entries = IsTrue (is_shut c path) → entries ≡ []

-- From what is left the walk comes to what is left then: entries take the place of their folder.
pub data GoesOn (c : Choice) : List FoundFile → List FoundFile → Type 0 where
  there : {left : List FoundFile} → GoesOn c left left
  enters : {left then : List FoundFile} (folder : FoundFile) (entries : List FoundFile) → IsEntered c (string_bytes folder.path) → AreEntries c entries →
      IsOpen c (string_bytes folder.path) entries →
      GoesOn c (entries ++ left) then → GoesOn c (folder ∷ left) then

-- ---- of a walk

abbrev pub choice_of : Walk → Choice
choice_of w = w.choice

-- the files and folders that are left, the next one first
abbrev pub ahead : Walk → List FoundFile
ahead w = w.left.items

-- a path, and whether it was found in a folder
abbrev pub seen : FoundFile → Text × Bool
seen f = (string_bytes f.path, f.is_in_folder)
