-- What iterators in a lent cache have still to give: what an iterator with a cache of its own would that stands where they do.
use Rattle.std.specs.Prelude.{◌≡◌, List, Option, Result, IfOk, IfSome}
use Rattle.std.specs.declared.alloc.AllocError.{AllocError}
use Rattle.std.specs.Borrow.{GName}
use Rattle.std.specs.Iterator.{Yields}
use Rattle.std.specs.Iterator.Runs.{YieldsInOrder}
use Rattle.rc_text.specs.Found.{Found}
use Rattle.rc_text.specs.Text.{Searched}
use Rattle.rc_captures.specs.Captures.{match_of}
use Rattle.rc_captures.specs.declared.captures.Captures.{Captures}
use Rattle.api_meta.specs.Caches.{HasSameRoom, IsCacheFor}
use Rattle.api_meta.specs.Left.{CapturesKeeps, CapturesNext, FindKeeps, FindNext, captures_left, find_left}
use Rattle.api_meta.specs.Seeking.{Finding, seeking}
use Rattle.api_meta.specs.Views.{regex_patterns, regex_settings}
use Rattle.api_meta.specs.declared.iterators.CapturesMatches.{CapturesMatches}
use Rattle.api_meta.specs.declared.lists.CapturesMatchesWith.{CapturesMatchesWith}
use Rattle.api_meta.specs.declared.lists.FindMatchesWith.{FindMatchesWith}
use Rattle.api_meta.specs.declared.regex.Regex.{Regex}

-- the span begins where the match of the captures ends, if there are some
abbrev pub StartsBehind : Searched → Result Captures AllocError → Type 0
StartsBehind i item = IfOk item (λ caps. IfSome (match_of caps) (λ m. i.span.start ≡ m.end))

module _ {C : Type 0} where
  -- an iterator with a cache of its own that stands there
  abbrev pub find_by : FindMatchesWith C → Finding
  find_by s = record { seeker = seeking s.regex.now s.cache.now.inner s.standing; input = s.input.now }

  abbrev pub find_with_regex : FindMatchesWith C → Regex
  find_with_regex s = s.regex.now

  abbrev pub find_with_input : FindMatchesWith C → Searched
  find_with_input s = s.input.now

  -- the matches that are left
  abbrev pub find_with_left : FindMatchesWith C → List Found
  find_with_left s = find_left (find_by s)

  -- the ghost names of the references to the cache and to the input
  abbrev pub find_with_lenders : FindMatchesWith C → GName × GName
  find_with_lenders s = (s.cache.ghost_name, s.input.ghost_name)

  -- both borrow the same cache, whose lists have the same room, and the same input
  abbrev pub AreFindsOfOne : FindMatchesWith C → FindMatchesWith C → Type 0
  AreFindsOfOne s t =
      (t.cache.ghost_name ≡ s.cache.ghost_name) × (t.input.ghost_name ≡ s.input.ghost_name) × HasSameRoom s.cache.now t.cache.now

  -- the cache was made for the regex
  abbrev pub HasItsCache : FindMatchesWith C → Type 0
  HasItsCache s = IsCacheFor (regex_patterns s.regex.now) (regex_settings s.regex.now) s.cache.now

  -- the same regex, the same cache and input that are lent, and this the same but for its chunk, its position and the start of its span
  abbrev pub FindKeepsWith : FindMatchesWith C → FindMatchesWith C → Type 0
  FindKeepsWith s t = FindKeeps (find_by s) (find_by t) × AreFindsOfOne s t × (HasItsCache s → HasItsCache t)

  -- What `next` gives, and what it keeps: as with a cache of its own, in what is lent. The span then begins where the match ends.
  abbrev pub FindNextWith : FindMatchesWith C → Option Found → FindMatchesWith C → Type 0
  FindNextWith s r t =
      FindNext (find_by s) r (find_by t) × AreFindsOfOne s t × HasItsCache t × IfSome r (λ m. (find_with_input t).span.start ≡ m.end)

  -- each run of calls gives the matches in order
  abbrev pub FindRunsWith : FindMatchesWith C → Type 0
  FindRunsWith s = YieldsInOrder FindNextWith find_with_left

  -- each state that calls of `next` lead to keeps what the first keeps
  abbrev pub FindKeepsAlong : FindMatchesWith C → Type 0
  FindKeepsAlong s = (items : List Found) (t : FindMatchesWith C) → Yields FindNextWith s items t → FindKeepsWith s t

  abbrev pub captures_by : CapturesMatchesWith C → CapturesMatches C
  captures_by s = record { seeker = record { seeker = seeking s.regex.now s.cache.now.inner s.standing }; input = s.input.now }

  abbrev pub captures_with_regex : CapturesMatchesWith C → Regex
  captures_with_regex s = s.regex.now

  abbrev pub captures_with_input : CapturesMatchesWith C → Searched
  captures_with_input s = s.input.now

  -- the matches whose captures are left
  abbrev pub captures_with_left : CapturesMatchesWith C → List Found
  captures_with_left s = captures_left (captures_by s)

  abbrev pub captures_with_lenders : CapturesMatchesWith C → GName × GName
  captures_with_lenders s = (s.cache.ghost_name, s.input.ghost_name)

  abbrev pub AreCapturesOfOne : CapturesMatchesWith C → CapturesMatchesWith C → Type 0
  AreCapturesOfOne s t =
      (t.cache.ghost_name ≡ s.cache.ghost_name) × (t.input.ghost_name ≡ s.input.ghost_name) × HasSameRoom s.cache.now t.cache.now

  abbrev pub KeepsItsCache : CapturesMatchesWith C → Type 0
  KeepsItsCache s = IsCacheFor (regex_patterns s.regex.now) (regex_settings s.regex.now) s.cache.now

  abbrev pub CapturesKeepWith : CapturesMatchesWith C → CapturesMatchesWith C → Type 0
  CapturesKeepWith s t = CapturesKeeps (captures_by s) (captures_by t) × AreCapturesOfOne s t × (KeepsItsCache s → KeepsItsCache t)

  -- What `next` gives, and what it keeps: as with a cache of its own, in what is lent. The span then begins where the match ends.
  abbrev pub CapturesNextWith : CapturesMatchesWith C → Option (Result Captures AllocError) → CapturesMatchesWith C → Type 0
  CapturesNextWith s r t =
      CapturesNext (captures_by s) r (captures_by t) × AreCapturesOfOne s t × KeepsItsCache t × IfSome r (StartsBehind (captures_with_input t))

  -- runs of calls are runs with a cache of its own, so that the laws of those hold of them
  abbrev pub CapturesRunAlike : CapturesMatchesWith C → Type 0
  CapturesRunAlike s = (items : List (Result Captures AllocError)) (t : CapturesMatchesWith C) → Yields CapturesNextWith s items t →
      Yields CapturesNext (captures_by s) items (captures_by t)

  -- each state that calls of `next` lead to keeps what the first keeps
  abbrev pub CapturesKeepAlong : CapturesMatchesWith C → Type 0
  CapturesKeepAlong s = (items : List (Result Captures AllocError)) (t : CapturesMatchesWith C) → Yields CapturesNextWith s items t → CapturesKeepWith s t
