-- Only proofs and the contracts of private functions use this file.
-- A folder that a walk enters.
use Rattle.std.specs.Prelude.{◌≡◌, List, ◌++◌, All, String, string_bytes, string_cmp}
use Rattle.std.specs.List.Sorted.{IsSorted}
use Rattle.std.specs.declared.alloc.Global.{Global}
use Rattle.grep_files.specs.Walks.{AreEntries, IsEntry, IsOpen, Text, ahead, choice_of}
use Rattle.grep_files.specs.declared.walk.Choice.{Choice}
use Rattle.grep_files.specs.declared.walk.FoundFile.{FoundFile}
use Rattle.grep_files.specs.declared.walk.Walk.{Walk}

-- paths of entries that are searched, in order
pub record ArePaths (c : Choice) (paths : List (String Global)) : Type 0 where
  pub ordered : IsSorted string_cmp paths
  pub taken : All (λ p. IsEntry c (string_bytes p)) paths

-- Entries of the folder with this path stand before what was left.
pub record HasEntered (path : Text) (old new : Walk) : Type 0 where
  pub choice : choice_of new ≡ choice_of old
  pub entries : List FoundFile
  pub are : AreEntries (choice_of old) entries
  pub none_shut : IsOpen (choice_of old) path entries
  pub is : ahead new ≡ entries ++ ahead old
