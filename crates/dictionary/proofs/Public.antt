-- What the crates above cite of this crate's lemmas: laws of `dictionary::laws`, which are their contracts, in the words of
-- the definitions alone.
use Rattle.std.proofs.Common.{◌≡◌, ◌≢◌, ◌≤◌, ℕ, List, Some, None, length, option_and_then}
use Rattle.element.specs.declared.syntax.Syntax.{Syntax}
use Rattle.dictionary.specs.declared.class.Class.{Class}
use Rattle.dictionary.specs.declared.transfer.Transfer.{Transfer}
use Rattle.dictionary.specs.Classes.{class_uid, class_of}
use Rattle.dictionary.specs.StorageClasses.{storage_classes}
use Rattle.dictionary.specs.Syntaxes.{syntax_of, syntax_uid}
use Rattle.dictionary.specs.Transfers.{native, native_of, syntax_in, transfer_named, transfer_of, transfer_uid}
use Rattle.dictionary.proofs.Names as names
use Rattle.dictionary.proofs.StorageClassesAreFew as storage
use Rattle.dictionary.proofs.TransferHasOneText as transfers
use Rattle.dictionary.proofs.TransferNames as identifiers

pub class_back : (c : Class) → class_of (class_uid c) ≡ Some c
class_back = names.class_back

pub length-storage_classes : length storage_classes ≡ 177
length-storage_classes = storage.length-storage_classes

pub transfer_back : (t : Transfer) → transfer_of (transfer_uid t) ≡ Some t
transfer_back = identifiers.transfer_back

pub transfer_short : (t : Transfer) → length (transfer_uid t) ≤ 23
transfer_short = identifiers.transfer_short

pub native_same : (bytes : List ℕ) → option_and_then native_of (transfer_of bytes) ≡ syntax_of bytes
native_same = transfers.native_same

pub native_uid : (s : Syntax) → transfer_uid (native s) ≡ syntax_uid s
native_uid = transfers.native_uid

pub native_layout : (s : Syntax) → syntax_in (native s) ≡ s
native_layout = transfers.native_layout

pub named_text : (text : List ℕ) (t : Transfer) → transfer_named text ≡ Some t → text ≡ transfer_uid t
named_text = transfers.named_text

pub not_named : (text : List ℕ) → transfer_named text ≡ None → (t : Transfer) → text ≢ transfer_uid t
not_named = transfers.not_named
