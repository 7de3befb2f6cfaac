-- What a visit counts of the files that it finds. This product's own profile.
use Rattle.std.specs.Prelude.{ℕ, ◌+◌, ◌-◌, ◌^◌, Bool, true, false, ◌&&◌, min, Result, Ok, Err, if◌then◌else◌}
use Rattle.part10.specs.declared.meta_fault.MetaFault.TheVariants.{NotPart10}
use Rattle.inspection.specs.declared.judgement.Judgement.{Judgement}
use Rattle.inspection.specs.declared.judgement.Judgement.TheVariants.{BadHeader}
use Rattle.keyed_files.specs.declared.keys.FileKeys.{FileKeys}
use Rattle.keyed_files.specs.declared.reading.NoKeys.{NoKeys}
use Rattle.keyed_files.specs.declared.reading.NoKeys.TheVariants.{Directory, Empty, Faulty, Unread}
use Rattle.keyed_files.specs.declared.tally.Tally.{Tally}

-- the number plus one, up to the greatest number of the type
abbrev pub counted_more : ℕ → ℕ
counted_more n = min (n + 1) (2 ^ 64 - 1)

abbrev pub with_omitted : Tally → Tally
with_omitted tally = record tally { omitted = counted_more tally.omitted }

abbrev pub with_ignored : Tally → Tally
with_ignored tally = record tally { ignored = counted_more tally.ignored }

abbrev pub with_vanished : Tally → Tally
with_vanished tally = record tally { vanished = counted_more tally.vanished }

abbrev pub with_link : Tally → Tally
with_link tally = record tally { links = counted_more tally.links }

-- the counts with one more unread file, which is also counted as left out
abbrev pub with_unread : Tally → Tally
with_unread tally = with_omitted (record tally { unread = counted_more tally.unread })

-- whether a file has no prefix `DICM`, so that it is no DICOM file
abbrev pub is_other : Judgement → Bool
is_other (BadHeader NotPart10) = true
is_other _ = false

-- the counts after a file with this fault, if files that are no DICOM files are skipped or not
abbrev pub after_fault : Bool → Judgement → Tally → Tally
after_fault ignores_others fault tally = if ignores_others && is_other fault then with_ignored tally else with_omitted tally

-- the counts after a file, by what was read of it: an empty one is left out in any case, and an unreadable one is counted
-- later, since it may have vanished
abbrev pub after_read : Bool → Result FileKeys NoKeys → Tally → Tally
after_read ignores_others (Ok keys) tally = tally
after_read ignores_others (Err Directory) tally = tally
after_read ignores_others (Err Empty) tally = with_omitted tally
after_read ignores_others (Err (Faulty fault)) tally = after_fault ignores_others fault tally
after_read ignores_others (Err (Unread error)) tally = tally

-- whether a file of which no values were read needs no further handling
abbrev pub is_over : NoKeys → Bool
is_over Directory = true
is_over Empty = true
is_over (Faulty fault) = true
is_over (Unread error) = false
