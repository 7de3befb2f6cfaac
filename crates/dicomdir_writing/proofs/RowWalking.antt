-- Walking the data set of a file, piece by piece, gives its row (`whole_file`), or why there is none (`refused_header`,
-- `refused_data_set`, `out_of_memory`). Stands on the laws of `dicomdir` and `sequence`.
use Rattle.std.specs.Prelude.{IfErr}
use Rattle.std.proofs.Common.{◌≡◌, ℕ, true, List, [], ◌++◌, take, Option, Some, None, IfSome, refl, sym, ap, subst, ◌∙◌, arith, suc, ◌∷◌, Result, Err, false}
use Rattle.std.proofs.lemmas.List.{append-nil}
use Rattle.std.specs.Io.KnownBytes.{Consumes, IsAtEnd}
use Rattle.std.proofs.KnownBytes.{Consumes-trans}
use Rattle.element.specs.Numbers.{IsBytes}
use Rattle.sequence.specs.Transfer.{coding_in}
use Rattle.sequence.specs.declared.fault.Fault.{Fault}
use Rattle.sequence.specs.declared.walker.Walker.{Walker}
use Rattle.sequence.specs.Ending.{Fails, IsWholeDataSet}
use Rattle.sequence.specs.Consumed.{StandsAt, walker_syntax, limits_of, fault_of, reported_by}
use Rattle.sequence.proofs.Public.{one_path, no_header, whole_breaks_no_rule}
use Rattle.dicomdir_writing.specs.declared.skip.Skip.{Skip}
use Rattle.dicomdir.specs.Walking.{IsSameSet, FailsIn}
use Rattle.dicomdir_writing.specs.machine.RowReading.{FailsBy, WalkFails, text_fails, ConsumedWhole, FailsToTake}
use Rattle.dicomdir.proofs.Public.{starts_good}
use Rattle.std.proofs.lemmas.Bool.Decides.{nat_tests}
use Rattle.std.proofs.lemmas.Grind.{common_steps}
use Rattle.sequence.specs.declared.coding.Coding.{Coding}
use Rattle.part10.specs.declared.meta.Meta.{Meta}
use Rattle.part10.specs.declared.meta_fault.MetaFault.{MetaFault}
use Rattle.part10.specs.declared.meta_fault.MetaFault.TheVariants.{NotPart10, BadMeta, OtherSyntax, ReadFailed}
use Rattle.dictionary.specs.declared.transfer.Transfer.{Transfer}
use Rattle.part10.specs.MetaText.{meta_values_of, ConsumesMeta, fault_number}
use Rattle.sequence.specs.Tree.{Elements, DataSet}
use Rattle.sequence.specs.Open.{header_tail, in_header, last_of, Nested, at_elements, Open}
use Rattle.sequence.specs.Walk.{Report, Reports, going, refused}
use Rattle.sequence.specs.Wanted.{kept_of}
use Rattle.sequence.specs.Rules.{Limits}
use Rattle.dicomdir_writing.specs.Row.{Row}
use Rattle.dicomdir_writing.specs.Keys.{checked_row}
use Rattle.dicomdir_writing.specs.RowOf.{row_wants, row_limits, row_from, is_allowed, IsInstance, in_header as header_fault, in_data_set, of_values, RowOf, DescribedRow, described, undescribed, is_too_long, RowIsRead, no_memory, read_failed, has_row}
use Rattle.dicomdir_writing.specs.declared.record_table.RecordRule.{RecordRule}
use Rattle.dicomdir_writing.specs.declared.record_table.RecordKeys.TheVariants.{Needed, Described}
use Rattle.dicomdir_writing.specs.RecordTable.{keys_read}
use Rattle.dicomdir_writing.specs.declared.skip.Skip.TheVariants as skip
use Rattle.dicomdir_writing.specs.machine.RowReading as walking

-- ---- over what a reader gives

-- what was read so far is what the walker consumed
pub record Reads {V D : ℕ} (w0 w : Walker V D) (old new : Option (List ℕ)) : Type 0 where
  pub consumed : List ℕ
  pub consumes : Consumes old new consumed
  pub stands : StandsAt w consumed
  pub good : fault_of w ≡ None
  pub same : IsSameSet w0 w

pub reads_first : {V D : ℕ} (w : Walker V D) (old : Option (List ℕ)) → StandsAt w [] → Reads w w old old
reads_first {V = V} {D = D} w old stands = grind (arith, common_steps, starts_good V D w stands)

pub reads_on : {V D : ℕ} (w0 w v : Walker V D) (old mid new : Option (List ℕ)) (piece : List ℕ) → Reads w0 w old mid → Consumes mid new piece
    → ((b : List ℕ) → StandsAt w b → StandsAt v (b ++ piece)) → fault_of v ≡ None → IsSameSet w v → Reads w0 v old new
reads_on w0 w v old mid new piece r more along good same = record {
  consumed = r.consumed ++ piece;
  consumes = Consumes-trans old mid new r.consumed piece r.consumes more;
  stands = along r.consumed r.stands;
  good = good;
  same = (same.0 ∙ r.same.0, same.1 ∙ r.same.1);
}

-- at the end of what the reader has
pub reads_whole : {V D : ℕ} (w0 w : Walker V D) (old mid new : Option (List ℕ)) (room : List ℕ) (count : ℕ) → Reads w0 w old mid → Consumes mid new (take count room) → count ≡ 0
    → IsAtEnd new → ((b : List ℕ) → StandsAt w b → IsWholeDataSet (walker_syntax w) (limits_of w) b) → ConsumedWhole w old
reads_whole w0 w old mid new room count r more none end whole = by old new (Consumes-trans old mid new r.consumed (take count room) r.consumes more) end
  where
    same : (text remaining : List ℕ) → text ≡ (r.consumed ++ take count room) ++ remaining → remaining ≡ [] → r.consumed ≡ text
    same text remaining c e = grind (arith, common_steps, append-nil r.consumed)

    by : (o n : Option (List ℕ)) → Consumes o n (r.consumed ++ take count room) → IsAtEnd n → ConsumedWhole w o
    by None n c e = tt
    by (Some text) None c e = absurd c
    by (Some text) (Some remaining) c e = subst (λ z. StandsAt w z × IsWholeDataSet (walker_syntax w) (limits_of w) z) (same text remaining c e) (r.stands, whole r.consumed r.stands)

by_same : {V D : ℕ} (w0 w : Walker V D) (text : List ℕ) (reason : Skip) → IsSameSet w0 w → FailsBy (walker_syntax w) (limits_of w) text reason → FailsBy (walker_syntax w0) (limits_of w0) text reason
by_same w0 w text reason same f = (f.0, subst (λ z. Fails (walker_syntax w0) z text f.0) same.1 (subst (λ z. Fails z (limits_of w) text f.0) same.0 f.1), f.2)

pub reads_fails : {V D : ℕ} (w0 w : Walker V D) (old mid new : Option (List ℕ)) (piece : List ℕ) (fault : Fault) → Reads w0 w old mid → Consumes mid new piece
    → FailsIn w piece fault → WalkFails w0 old (skip.Fault fault.number)
reads_fails w0 w old mid new piece fault r more fails = text_fails (by old new (Consumes-trans old mid new r.consumed piece r.consumes more))
  where
    by : (o n : Option (List ℕ)) → Consumes o n (r.consumed ++ piece) → IfSome o (λ text. IsBytes text → FailsBy (walker_syntax w0) (limits_of w0) text (skip.Fault fault.number))
    by None n c = tt
    by (Some text) None c = absurd c
    by (Some text) (Some remaining) c = λ bytes. by_same w0 w text (skip.Fault fault.number) r.same
        (fault, subst (λ z. Fails (walker_syntax w) (limits_of w) z fault) (sym c) (fails r.consumed remaining r.stands (subst (λ z. IsBytes z) c bytes)), refl)

-- ---- what reading a file for its row gives

-- after a whole data set nothing is open
whole_is_open : {s : Coding} {es : Elements} {b : List ℕ} → DataSet s 0 es b → Open s b es [] (last_of 0 es) (in_header [])
whole_is_open {s = s} {es = es} {b = b} d =
    let nested : Nested s (b ++ []) es [] (last_of 0 es) (in_header []) = at_elements d (header_tail (no_header s)) in
    record { nested = subst (λ z. Nested s z es [] (last_of 0 es) (in_header [])) (append-nil b) nested; remaining = record {}; innermost = record {} }

-- the values that are kept of a whole data set are those of its elements
pub kept_at_end : {s : Coding} {lim : Limits} {b : List ℕ} {reported : Report} (whole : IsWholeDataSet s lim b) → Reports s lim b reported → reported.kept ≡ kept_of lim.wanted whole.elements
kept_at_end {s = s} {lim = lim} {b = b} whole (going {es = es} {path = path} {last = last} {tail = tail} unbroken front) = grind (arith, common_steps, one_path s b es whole.elements path [] last (last_of 0 whole.elements) tail (in_header []) front (whole_is_open whole.text))
kept_at_end {s = s} {lim = lim} {b = b} whole (refused {p = p} {u = u} {rule = rule} {tag = tag} first front) = grind (arith, common_steps, whole_breaks_no_rule s lim b whole p u first.rest rule tag first.text first.breaks)

bytes_behind : (a b : List ℕ) → IsBytes (a ++ b) → IsBytes b
bytes_behind [] b bytes = bytes
bytes_behind (x ∷ a) b bytes = bytes_behind a b (λ i. bytes (suc i))

-- the result for what the reader has, where that is known
abbrev pub Read : List Transfer → List RecordRule → Option (List ℕ) → List ℕ → Result Row Skip → Type 0
Read additional rules old file_id result = IfSome old (λ file. IsBytes file → RowIsRead (RowOf additional rules file file_id) result)

pub refused_header : (additional : List Transfer) (rules : List RecordRule) (fault : MetaFault) (old : Option (List ℕ)) (file_id : List ℕ) → FailsToTake additional fault old → Read additional rules old file_id (Err (skip.Fault (fault_number fault)))
refused_header additional rules fault None file_id r = tt
refused_header additional rules NotPart10 (Some file) file_id r = λ _. has_row (header_fault NotPart10 r refl)
refused_header additional rules BadMeta (Some file) file_id r = λ _. has_row (header_fault BadMeta r refl)
refused_header additional rules OtherSyntax (Some file) file_id r = λ _. has_row (header_fault OtherSyntax r refl)
refused_header additional rules ReadFailed (Some file) file_id r = λ _. read_failed refl

-- what was read of a header that names a transfer syntax that is accepted
pub record Accepts (additional : List Transfer) (meta : Meta) (old new : Option (List ℕ)) : Type 0 where
  pub header : ConsumesMeta (meta_values_of meta) old new
  pub allowed : is_allowed additional meta.syntax ≡ true

abbrev instance_of : (additional : List Transfer) (meta : Meta) (file back : List ℕ) → Accepts additional meta (Some file) (Some back) → IsInstance additional file
instance_of additional meta file back accepts = record {
  class = meta.class;
  instance = meta.instance;
  syntax = meta.syntax;
  allowed = accepts.allowed;
  front = accepts.header.0;
  back = back;
  whole = accepts.header.2;
  header = accepts.header.1;
}

pub refused_data_set : {V D : ℕ} (w : Walker V D) (additional : List Transfer) (rules : List RecordRule) (meta : Meta) (old mid : Option (List ℕ)) (file_id : List ℕ) (reason : Skip) → Accepts additional meta old mid
    → walker_syntax w ≡ coding_in meta.syntax → limits_of w ≡ row_limits rules → WalkFails w mid reason → Read additional rules old file_id (Err reason)
refused_data_set w additional rules meta None mid file_id reason accepts syntax limits fails = tt
refused_data_set w additional rules meta (Some file) None file_id reason accepts syntax limits fails = absurd accepts.header.2
refused_data_set w additional rules meta (Some file) (Some back) file_id reason accepts syntax limits (walking.read_failed e) = λ _. read_failed (ap (λ z. Err z) e)
refused_data_set w additional rules meta (Some file) (Some back) file_id reason accepts syntax limits (walking.text_fails f) = λ bytes.
    let reported = f (bytes_behind accepts.header.0 back (subst (λ z. IsBytes z) accepts.header.2 bytes)) in
    let fails : Fails (coding_in meta.syntax) (row_limits rules) back reported.0 = subst (λ z. Fails z (row_limits rules) back reported.0) syntax (subst (λ z. Fails (walker_syntax w) z back reported.0) limits reported.1) in
    has_row (in_data_set (instance_of additional meta file back accepts) reported.0 fails (ap (λ z. Err z) reported.2))

pub out_of_memory : (additional : List Transfer) (rules : List RecordRule) (old : Option (List ℕ)) (file_id : List ℕ) (reason : Skip) → reason ≡ skip.OutOfMemory → Read additional rules old file_id (Err reason)
out_of_memory additional rules v1 file_id reason e = grind (arith, nat_tests)

pub whole_file : {V D : ℕ} (w : Walker V D) (additional : List Transfer) (rules : List RecordRule) (meta : Meta) (old mid : Option (List ℕ)) (file_id : List ℕ) (result : Result Row Skip) → Accepts additional meta old mid
    → walker_syntax w ≡ coding_in meta.syntax → limits_of w ≡ row_limits rules → ConsumedWhole w mid
    → result ≡ checked_row (row_from rules file_id meta.class meta.instance meta.syntax (reported_by w).kept) → Read additional rules old file_id result
whole_file w additional rules meta None mid file_id result accepts syntax limits consumes is = tt
whole_file w additional rules meta (Some file) None file_id result accepts syntax limits consumes is = absurd accepts.header.2
whole_file w additional rules meta (Some file) (Some back) file_id result accepts syntax limits consumes is = λ _.
    let whole : IsWholeDataSet (coding_in meta.syntax) (row_limits rules) back = subst (λ z. IsWholeDataSet z (row_limits rules) back) syntax (subst (λ z. IsWholeDataSet (walker_syntax w) z back) limits consumes.1) in
    let reports : Reports (coding_in meta.syntax) (row_limits rules) back (reported_by w) = subst (λ z. Reports z (row_limits rules) back (reported_by w)) syntax (subst (λ z. Reports (walker_syntax w) z back (reported_by w)) limits consumes.0.reports) in
    let kept : (reported_by w).kept ≡ kept_of (row_wants rules) whole.elements = kept_at_end whole reports in
    has_row (of_values (instance_of additional meta file back accepts) whole.elements whole.text whole.within
    (is ∙ ap (λ z. checked_row (row_from rules file_id meta.class meta.instance meta.syntax z)) kept))

-- ---- the result where Series Description is asked for

abbrev pub ReadDescribed : List Transfer → Option (List ℕ) → Option (List ℕ) → List ℕ → Result Row Skip → Type 0
ReadDescribed additional old again file_id result = IfSome old (λ file. again ≡ Some file → IsBytes file → RowIsRead (DescribedRow additional file file_id) result)

-- that with all keys, where none is too long
pub described_result : (additional : List Transfer) (old again : Option (List ℕ)) (file_id : List ℕ) (result : Result Row Skip) → Read additional (keys_read Described) old file_id result
    → IfErr result (λ reason. is_too_long reason ≡ false) → ReadDescribed additional old again file_id result
described_result additional None again file_id result read fits = tt
described_result additional (Some file) again file_id result read fits = λ same bytes. by (read bytes)
  where
    by : RowIsRead (RowOf additional (keys_read Described) file file_id) result → RowIsRead (DescribedRow additional file file_id) result
    by (no_memory e) = no_memory e
    by (read_failed e) = read_failed e
    by (has_row row) = has_row (described row fits)

-- else that with those alone that are needed
pub undescribed_result : (additional : List Transfer) (old again : Option (List ℕ)) (file_id : List ℕ) (reason : Skip) (result : Result Row Skip) → Read additional (keys_read Described) old file_id (Err reason)
    → is_too_long reason ≡ true → Read additional (keys_read Needed) again file_id result → ReadDescribed additional old again file_id result
undescribed_result additional None again file_id reason result read long other = tt
undescribed_result additional (Some file) again file_id reason result read long other = λ same bytes. by (read bytes) (subst (λ z. Read additional (keys_read Needed) z file_id result) same other bytes)
  where
    never : (other : Skip) → ◌≡◌ {A = Result Row Skip} (Err reason) (Err other) → is_too_long other ≡ false → ⊥
    never other e short =
        let is : reason ≡ other = cc in
        let wrong : false ≡ true = sym short ∙ subst (λ z. is_too_long z ≡ true) is long in
        absurd cc

    by : RowIsRead (RowOf additional (keys_read Described) file file_id) (Err reason) → RowIsRead (RowOf additional (keys_read Needed) file file_id) result → RowIsRead (DescribedRow additional file file_id) result
    by (no_memory e) second = absurd (never skip.OutOfMemory e refl)
    by (read_failed e) second = absurd (never (skip.Fault 54) e refl)
    by (has_row row) (no_memory e) = no_memory e
    by (has_row row) (read_failed e) = read_failed e
    by (has_row row) (has_row other) = has_row (undescribed reason row long other)
