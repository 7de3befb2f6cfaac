-- The row of a file, or why it has none (this product's own profile; the values that records have are those of PS3.3
-- section F.5).
use Rattle.std.specs.Prelude.{◌≡◌, ◌≢◌, ℕ, ◌^◌, Bool, true, false, not, ◌||◌, List, [], ◌∷◌, ◌++◌, Option, Some, None, Result, Err, IfErr, map, nat_eq}
use Rattle.std.specs.List.{list_any}
use Rattle.element.specs.Header.{number}
use Rattle.dictionary.specs.declared.transfer.Transfer.{Transfer}
use Rattle.dictionary.specs.Transfers.{is_encapsulated, is_text_of, transfer_uid}
use Rattle.part10.specs.declared.meta_fault.MetaFault.{MetaFault}
use Rattle.part10.specs.declared.meta_fault.MetaFault.TheVariants.{NotPart10, BadMeta, OtherSyntax, ReadFailed}
use Rattle.part10.specs.MetaText.{MetaValues, SpellsMeta, HasMeta, MetaFaultOf, fault_number}
use Rattle.sequence.specs.declared.fault.Fault.{Fault}
use Rattle.sequence.specs.declared.wanted.Want.{Want}
use Rattle.sequence.specs.Transfer.{coding_in}
use Rattle.sequence.specs.Tree.{Elements, DataSet}
use Rattle.sequence.specs.Within.{Within}
use Rattle.sequence.specs.Rules.{Limits}
use Rattle.sequence.specs.Wanted.{Values, value_of, kept_of}
use Rattle.sequence.specs.Ending.{Fails}
use Rattle.dicomdir_writing.specs.declared.record_table.RecordRule.{RecordRule}
use Rattle.dicomdir_writing.specs.declared.skip.Skip.{Skip}
use Rattle.dicomdir_writing.specs.declared.skip.Skip.TheVariants as skip
use Rattle.dicomdir_writing.specs.declared.record_table.RecordKeys.TheVariants.{Needed, Described}
use Rattle.dicomdir_writing.specs.RecordTable.{keys_read, want_of}
use Rattle.dicomdir_writing.specs.Row.{Row}
use Rattle.dicomdir_writing.specs.Keys.{checked_row}

-- the tags of these keys, each with the greatest size of its value, for a walker
abbrev pub row_wants : List RecordRule → List Want
row_wants rules = map want_of rules

-- the limits of the data set: the greatest sizes of these keys, 64 open levels and 2^48 bytes
abbrev pub row_limits : List RecordRule → Limits
row_limits rules = record { wanted = row_wants rules; depth = 64; bytes = 2 ^ 48 }

-- the value with this tag, if there is one, before others
abbrev pub with_value : ℕ → Option (List ℕ) → Values → Values
with_value n None others = others
with_value n (Some v) others = (n, v) ∷ others

-- those of these values that are keys of the table, in the order of the table
abbrev pub values_for : List RecordRule → Values → Values
values_for [] values = []
values_for (rule ∷ rules) values = with_value (number rule.tag) (value_of values (number rule.tag)) (values_for rules values)

-- the row of a file with this file ID and the values of these keys
abbrev pub row_from : List RecordRule → List ℕ → List ℕ → List ℕ → Transfer → Values → Row
row_from rules file_id class instance syntax values = record {
  file_id = file_id;
  class = class;
  instance = instance;
  syntax = syntax;
  values = values_for rules values;
}

-- whether files in this transfer syntax are accepted: in a native one, or in one of `additional`
abbrev pub is_allowed : List Transfer → Transfer → Bool
is_allowed additional transfer = not (is_encapsulated transfer) || list_any (is_text_of (transfer_uid transfer)) additional

-- the fault of a file header, if the native transfer syntaxes and these further ones are accepted; `OtherSyntax` is
-- that of any other
abbrev pub HeaderFaultOf : List Transfer → List ℕ → MetaFault → Type 0
HeaderFaultOf additional file NotPart10 = MetaFaultOf file NotPart10
HeaderFaultOf additional file BadMeta = MetaFaultOf file BadMeta
HeaderFaultOf additional file OtherSyntax = (said : MetaValues) × HasMeta said file × ((t : Transfer) → is_allowed additional t ≡ true → said.syntax ≢ transfer_uid t)
HeaderFaultOf additional file ReadFailed = ⊥

-- the file is a file header with an accepted transfer syntax, followed by the bytes `back`
pub record IsInstance (additional : List Transfer) (file : List ℕ) : Type 0 where
  pub class : List ℕ
  pub instance : List ℕ
  pub syntax : Transfer
  pub allowed : is_allowed additional syntax ≡ true
  pub front : List ℕ
  pub back : List ℕ
  pub whole : file ≡ front ++ back
  pub header : SpellsMeta (record { class = class; instance = instance; syntax = transfer_uid syntax }) front

-- the result of a file with this file ID: its row with these keys, its first fault, or the first key of type 1 that
-- is missing
pub data RowOf (additional : List Transfer) (rules : List RecordRule) (file file_id : List ℕ) (result : Result Row Skip) : Type 0 where
  -- the fault of the file header
  in_header : (fault : MetaFault) → HeaderFaultOf additional file fault → result ≡ Err (skip.Fault (fault_number fault)) → RowOf additional rules file file_id result
  -- else the first fault of the whole data set
  in_data_set : (is : IsInstance additional file) (fault : Fault) → Fails (coding_in is.syntax) (row_limits rules) is.back fault → result ≡ Err (skip.Fault fault.number)
      → RowOf additional rules file file_id result
  -- else the row of the file header's SOP class, SOP instance and transfer syntax and the keys of the data set, or
  -- the first key of type 1 that is missing
  of_values : (is : IsInstance additional file) (elements : Elements) → DataSet (coding_in is.syntax) 0 elements is.back → Within (coding_in is.syntax) (row_limits rules) elements is.back
      → result ≡ checked_row (row_from rules file_id is.class is.instance is.syntax (kept_of (row_wants rules) elements)) → RowOf additional rules file file_id result

-- the result of reading a file: memory ran out, a read failed, or that of the file
pub data RowIsRead (Gives : Result Row Skip → Type 0) (result : Result Row Skip) : Type 0 where
  no_memory : result ≡ Err skip.OutOfMemory → RowIsRead Gives result
  read_failed : result ≡ Err (skip.Fault 54) → RowIsRead Gives result
  has_row : Gives result → RowIsRead Gives result

-- ---- the row if Series Description is requested

-- whether a file has no row because a key is too long
abbrev pub is_too_long : Skip → Bool
is_too_long (skip.Fault number) = nat_eq number 21
is_too_long reason = false

-- the result of a file with all keys; or, if a key is too long then, with those alone that are not of type 3
pub data DescribedRow (additional : List Transfer) (file file_id : List ℕ) (result : Result Row Skip) : Type 0 where
  described : RowOf additional (keys_read Described) file file_id result → IfErr result (λ reason. is_too_long reason ≡ false) → DescribedRow additional file file_id result
  undescribed : (reason : Skip) → RowOf additional (keys_read Described) file file_id (Err reason) → is_too_long reason ≡ true → RowOf additional (keys_read Needed) file file_id result
      → DescribedRow additional file file_id result
