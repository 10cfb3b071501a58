-- A list of entries is live.
use Rattle.std.proofs.Common.{◌≡◌, ℕ, ◌+◌, ◌<◌, true, false, List, [], length, None, ap, ◌∙◌, arith}
use Rattle.rc_text.specs.Text.{Searched, high}
use Rattle.rc_program.specs.Answer.{Search}
use Rattle.rc_program.specs.Kinds.{matches_by_kind}
use Rattle.rc_program.specs.Sought.{Sought}
use Rattle.api_meta.specs.Views.{regex_kind, sought}
use Rattle.api_meta.specs.declared.regex.Regex.{Regex}
use Rattle.live_matches.specs.Lists.{AreEntries}
use Rattle.live_matches.specs.Entries.{Gapped, all_of}
use Rattle.live_matches.specs.Live.{IsLive, IsOver, Listed, seeks}
use Rattle.live_matches.specs.Stretches.{AreStretches}
use Rattle.live_matches.proofs.Listed.{are_list}
use Rattle.live_matches.proofs.Searches.{whole_search}

-- where a search of the whole ends
pub high_is : (s : Searched) → IsOver s → length s.content + 1 < 18446744073709551616 → high s ≡ length s.content
high_is s over fits =
    let q : Sought = record { patterns = []; grouped = true; terminator = 10; utf8_empty = true } in
    let e = ap (λ (t : Search). t.hi) (over.same q) in
    omega (arith, e, fits)

pub is_live : (r : Regex) (content : List ℕ) (l : Listed) → length content + 1 < 18446744073709551616 →
    AreEntries (regex_kind r) (seeks r) content None l.entries → AreStretches (regex_kind r) (seeks r) content 0 (all_of l.quiets) →
    l.quiets.len ≡ length content → l.len ≡ length content → l.is_stale ≡ false → IsLive r content l
is_live r content l fits are quiet quiet_len len fresh = record {
  matches = are_list (regex_kind r) (seeks r) content l.entries are
      ∙ ap (λ s. matches_by_kind (regex_kind r) s 0 None) (whole_search (sought r) content fits);
  settled = are;
  quiet = quiet;
  quiet_len = quiet_len;
  len = len;
  fresh = fresh;
}

-- no stretches are there yet
pub none_quiet : (r : Regex) (content : List ℕ) (n : ℕ) (g : Gapped) → n ≡ length content → g ≡ record { before = []; after = []; len = n } →
    AreStretches (regex_kind r) (seeks r) content 0 (all_of g) × (g.len ≡ length content)
none_quiet r content n g len same = rw same (tt, len)
