-- Ranges: the matches of a part of a text, if the whole text is there to read.
use Rattle.std.specs.Prelude.{◌≡◌, ℕ, ◌⊎◌, List, [], length, Option, None, Some, false, if◌then◌else◌, nat_eq}
use Rattle.rc_text.specs.declared.types.MatchKind.{MatchKind}
use Rattle.rc_text.specs.declared.types.Span.{Span}
use Rattle.rc_program.specs.Answer.{Search}
use Rattle.api_meta.specs.Views.{regex_kind}
use Rattle.api_meta.specs.declared.regex.Regex.{Regex}
use Rattle.live_matches.specs.Entry.{Entry}
use Rattle.live_matches.specs.Entries.{all_of, is_before, last_end}
use Rattle.live_matches.specs.Lists.{AreFirst, next_after}
use Rattle.live_matches.specs.Live.{Listed, seeks}
use Rattle.live_matches.specs.Stretches.{AreStretches}

-- These are the next entries if the match before them ended at `last`, up to one that ends at
-- `stop` or later. If none does, these are all.
pub record AreUpTo (kind : MatchKind) (s : Search) (content : List ℕ) (stop : ℕ)
    (last : Option ℕ) (es : List Entry) : Type 0 where
  pub first : AreFirst kind s content last es
  pub done : (is_before (last_end last es) stop ≡ false)
      ⊎ (next_after kind s content (last_end last es) ≡ None)

-- The entries come next after the mark, up to one that ends at `stop` or later. If there is no
-- mark, there are none.
abbrev pub MeetsUpTo : MatchKind → Search → List ℕ → ℕ → Option ℕ → List Entry → Type 0
MeetsUpTo kind s content stop None es = es ≡ []
MeetsUpTo kind s content stop (Some p) es = AreUpTo kind s content stop (Some p) es

-- The search of a range begins as if a match had ended there, unless the text begins there too.
abbrev pub begin_of_range : Span → Option ℕ
begin_of_range range = if nat_eq range.start 0 then None else Some range.start

-- The list is that of a range of the content.
pub record IsRange (r : Regex) (content : List ℕ) (range : Span) (l : Listed) : Type 0 where
  pub settled : AreUpTo (regex_kind r) (seeks r) content range.end (begin_of_range range) l.entries
  pub quiet : AreStretches (regex_kind r) (seeks r) content 0 (all_of l.quiets)
  pub quiet_len : l.quiets.len ≡ length content
  pub len : l.len ≡ length content
  pub fresh : l.is_stale ≡ false
