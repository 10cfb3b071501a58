-- Replaced texts, as a status tells them: 0, the text was written; 3, the chunks are too long; 6, the text is longer than its place; 7, the
-- template isn't UTF-8; 8, it is none; 10, memory was refused; 11, the kind of match has no groups. 10 may come at any time; each other comes
-- only where that is so.
use Rattle.std.specs.Prelude.{◌≡◌, ◌≢◌, ◌⊎◌, ℕ, zero, suc, ◌<◌, ◌≤◌, List, IsUtf8, length, take, None, Some}
use Rattle.std.specs.Borrow.{Bor}
use Rattle.rc_text.specs.Joined.{IsTooLong, joined}
use Rattle.rc_text.specs.declared.types.MatchKind.TheVariants.{All as greatest_matches}
use Rattle.rc_program.specs.Answer.{Chosen}
use Rattle.rc_pikevm_search.specs.Walks.{chosen_by}
use Rattle.api_meta.specs.Views.{regex_kind, regex_names}
use Rattle.api_meta.specs.declared.regex.Regex.{Regex}
use Rattle.chunk_replace.specs.Replaced.{matches_of, replaced_by, replacement}
use Rattle.chunk_replace.specs.Template.{Item, IsReadAs, IsRefusedAt}
use Rattle.searcher.specs.Answers.{answer_in, search_in}
use Rattle.searcher.specs.Places.{found_at}
use Rattle.searcher.specs.Ranges.{IsFault, IsServed}
use Rattle.searcher.specs.declared.answers.Fault.TheVariants.{Outside, TooLong}
use Rattle.searcher.specs.declared.answers.MatchAt.{MatchAt}
use Rattle.zorfelith_c.specs.Statuses.{done, found, memory, no_kind, not_utf8, outside, short, syntax, too_long}
use Rattle.zorfelith_c.specs.declared.replace.Replaced.{Replaced}
use Rattle.zorfelith_c.specs.declared.replace.Replacement.{Replacement}
use Rattle.zorfelith_c.specs.declared.replace.Unparsed.{Unparsed}
use Rattle.zorfelith_c.specs.declared.replace.Unparsed.TheVariants.{Memory, NotUtf8, Syntax}

-- the template is these items, and each match of the text was replaced by them
pub record IsMade (r : Regex) (chunks : List (Bor (List ℕ))) (template text : List ℕ) (count : ℕ) : Type 0 where
  pub items : List Item
  pub read : IsReadAs items template
  pub kind : regex_kind r ≢ greatest_matches
  pub fits : ¬ IsTooLong chunks
  pub made : text ≡ replaced_by r items (joined chunks)
  pub counted : count ≡ length (matches_of r (joined chunks))

-- the replaced text stands in the first bytes of its place
abbrev pub IsPut : Regex → List (Bor (List ℕ)) → List ℕ → List ℕ → Replaced → Type 0
IsPut r chunks template place told = (told.len ≤ length place) × (told.at ≡ 0) × IsMade r chunks template (take told.len place) told.count

-- the replaced text is longer than its place
pub record IsTooLongFor (r : Regex) (chunks : List (Bor (List ℕ))) (template place : List ℕ) (told : Replaced) : Type 0 where
  pub text : List ℕ
  pub made : IsMade r chunks template text told.count
  pub needed : told.len ≡ length text
  pub longer : length place < told.len
  pub at : told.at ≡ 0

abbrev pub TellsReplaced : Regex → List (Bor (List ℕ)) → List ℕ → ℕ → List ℕ → Replaced → Type 0
TellsReplaced r chunks template zero place told = IsPut r chunks template place told
TellsReplaced r chunks template (suc zero) place told = ⊥
TellsReplaced r chunks template (suc (suc zero)) place told = ⊥
TellsReplaced r chunks template (suc (suc (suc zero))) place told = IsTooLong chunks
TellsReplaced r chunks template (suc (suc (suc (suc zero)))) place told = ⊥
TellsReplaced r chunks template (suc (suc (suc (suc (suc zero))))) place told = ⊥
TellsReplaced r chunks template (suc (suc (suc (suc (suc (suc zero)))))) place told = IsTooLongFor r chunks template place told
TellsReplaced r chunks template (suc (suc (suc (suc (suc (suc (suc zero))))))) place told = ¬ IsUtf8 template
TellsReplaced r chunks template (suc (suc (suc (suc (suc (suc (suc (suc zero)))))))) place told = IsRefusedAt template told.at
TellsReplaced r chunks template (suc (suc (suc (suc (suc (suc (suc (suc (suc zero))))))))) place told = ⊥
TellsReplaced r chunks template (suc (suc (suc (suc (suc (suc (suc (suc (suc (suc zero)))))))))) place told = Unit {0}
TellsReplaced r chunks template (suc (suc (suc (suc (suc (suc (suc (suc (suc (suc (suc zero))))))))))) place told = regex_kind r ≡ greatest_matches
TellsReplaced r chunks template (suc (suc (suc (suc (suc (suc (suc (suc (suc (suc (suc (suc n)))))))))))) place told = ⊥

-- The bytes stand in the first of their place, or are more than it has.
abbrev pub IsTextPut : List ℕ → ℕ → List ℕ → Type 0
IsTextPut bytes status place =
    ((status ≡ done) × (take (length bytes) place ≡ bytes) × (length bytes ≤ length place)) ⊎ ((status ≡ short) × (length place < length bytes))

-- why the bytes are no template
abbrev pub IsUnparsed : List ℕ → Unparsed → Type 0
IsUnparsed template NotUtf8 = ¬ IsUtf8 template
IsUnparsed template (Syntax at) = IsRefusedAt template at
IsUnparsed template Memory = Unit {0}

-- The template is these items, and they put these bytes in the place of the text's match from `start` on.
pub record IsOneMade (r : Regex) (text : List ℕ) (start : ℕ) (template bytes : List ℕ) (m : MatchAt) : Type 0 where
  pub items : List Item
  pub read : IsReadAs items template
  pub kind : regex_kind r ≢ greatest_matches
  pub found : answer_in r text start 18446744073709551615 ≡ Some (found_at m)
  pub walk : Chosen
  pub is_walk : chosen_by (regex_kind r) (search_in r text start 18446744073709551615) ≡ Some walk
  pub made : bytes ≡ replacement text (regex_names r) (search_in r text start 18446744073709551615) items walk

-- the bytes stand in the first of their place
abbrev pub IsOnePut : Regex → List ℕ → ℕ → List ℕ → List ℕ → Replacement → Type 0
IsOnePut r text start template place told = (told.len ≤ length place) × (told.at ≡ 0) × IsOneMade r text start template (take told.len place) told.found

-- they are more than it has
pub record IsOneTooLong (r : Regex) (text : List ℕ) (start : ℕ) (template place : List ℕ) (told : Replacement) : Type 0 where
  pub bytes : List ℕ
  pub made : IsOneMade r text start template bytes told.found
  pub needed : told.len ≡ length bytes
  pub longer : length place < told.len
  pub at : told.at ≡ 0

-- one of these, whose status it is
abbrev pub TellsOne : Regex → List (Bor (List ℕ)) → ℕ → List ℕ → ℕ → List ℕ → Replacement → Type 0
TellsOne r chunks start template status place told =
    ((status ≡ found) × IsServed chunks start 18446744073709551615 × IsOnePut r (joined chunks) start template place told)
    ⊎ ((status ≡ done) × IsServed chunks start 18446744073709551615 × (answer_in r (joined chunks) start 18446744073709551615 ≡ None))
    ⊎ ((status ≡ short) × IsServed chunks start 18446744073709551615 × IsOneTooLong r (joined chunks) start template place told)
    ⊎ ((status ≡ too_long) × IsFault chunks start 18446744073709551615 TooLong) ⊎ ((status ≡ outside) × IsFault chunks start 18446744073709551615 Outside)
    ⊎ ((status ≡ not_utf8) × ¬ IsUtf8 template) ⊎ ((status ≡ syntax) × IsRefusedAt template told.at)
    ⊎ ((status ≡ no_kind) × (regex_kind r ≡ greatest_matches)) ⊎ (status ≡ memory)
