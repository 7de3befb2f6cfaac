-- A file header that names a transfer syntax that is not accepted fails (`other_fails`), and so does each fault of any
-- header (`still_fails`); the native ones are accepted alone where none further is (`native_alone`). Stands on the laws
-- of `dictionary`.
use Rattle.std.proofs.Common.{◌≡◌, ◌≢◌, ℕ, true, false, List, [], Option, Some, None, refl, ap, sym, ◌∙◌}
use Rattle.element.specs.declared.syntax.Syntax.{Syntax}
use Rattle.element.specs.declared.syntax.Syntax.TheVariants as layout
use Rattle.dictionary.specs.declared.transfer.Transfer.{Transfer}
use Rattle.dictionary.specs.declared.transfer.Transfer.TheVariants.{Implicit, Explicit}
use Rattle.dictionary.specs.Syntaxes.{syntax_uid}
use Rattle.dictionary.specs.Transfers.{native, syntax_in, transfer_of, transfer_uid}
use Rattle.dictionary.proofs.Public.{native_uid, transfer_back}
use Rattle.part10.specs.declared.meta.Meta.{Meta}
use Rattle.part10.specs.declared.meta_fault.MetaFault.{MetaFault}
use Rattle.part10.specs.declared.meta_fault.MetaFault.TheVariants.{NotPart10, BadMeta, OtherSyntax, ReadFailed}
use Rattle.part10.specs.MetaText.{meta_values_of, MetaFaultOf, ConsumesMeta, FailsToReadAny}
use Rattle.dicomdir_writing.specs.Laws.{NativeAloneAreAllowed}
use Rattle.dicomdir_writing.specs.RowOf.{is_allowed, HeaderFaultOf}
use Rattle.dicomdir_writing.specs.machine.RowReading.{FailsToTake}

pub one_transfer : (s t : Transfer) → transfer_uid s ≡ transfer_uid t → s ≡ t
one_transfer s t e =
    let again : ◌≡◌ {A = Option Transfer} (Some s) (Some t) = sym (transfer_back s) ∙ ap transfer_of e ∙ transfer_back t in
    cc

other_than_allowed : (additional : List Transfer) (s : Transfer) → is_allowed additional s ≡ false → (t : Transfer) → is_allowed additional t ≡ true → transfer_uid s ≢ transfer_uid t
other_than_allowed additional s other t consumed e =
    let wrong : false ≡ true = sym other ∙ ap (λ z. is_allowed additional z) (one_transfer s t e) ∙ consumed in
    absurd cc

-- a header that names a transfer syntax that is not accepted
pub other_fails : (additional : List Transfer) (meta : Meta) (old new : Option (List ℕ)) → ConsumesMeta (meta_values_of meta) old new → is_allowed additional meta.syntax ≡ false → FailsToTake additional OtherSyntax old
other_fails additional meta None new accepts other = tt
other_fails additional meta (Some file) None accepts other = absurd accepts.2
other_fails additional meta (Some file) (Some back) accepts other =
    (meta_values_of meta, record { front = accepts.0; back = back; whole = accepts.2; spelled = accepts.1 }, other_than_allowed additional meta.syntax other)

-- and one that fails for every transfer syntax
pub still_fails : (additional : List Transfer) (fault : MetaFault) (old : Option (List ℕ)) → FailsToReadAny fault old → FailsToTake additional fault old
still_fails additional ReadFailed old h = tt
still_fails additional NotPart10 old h = h
still_fails additional BadMeta old h = h
still_fails additional OtherSyntax None h = tt
still_fails additional OtherSyntax (Some file) (said, has, none) = (said, has, λ t consumed. none t)

-- ---- where none is accepted but the native ones

native_allowed : (s : Syntax) → is_allowed [] (native s) ≡ true
native_allowed layout.Implicit = refl
native_allowed layout.Explicit = refl

allowed_native : (t : Transfer) → is_allowed [] t ≡ true → transfer_uid t ≡ syntax_uid (syntax_in t)
allowed_native Implicit e = refl
allowed_native Explicit e = refl
allowed_native _ e = absurd cc

among_native : (file : List ℕ) (fault : MetaFault) → HeaderFaultOf [] file fault → MetaFaultOf file fault
among_native file NotPart10 h = h
among_native file BadMeta h = h
among_native file OtherSyntax (said, has, none) = (said, has, λ s e. none (native s) (native_allowed s) (e ∙ sym (native_uid s)))
among_native file ReadFailed h = h

among_consumed : (file : List ℕ) (fault : MetaFault) → MetaFaultOf file fault → HeaderFaultOf [] file fault
among_consumed file NotPart10 h = h
among_consumed file BadMeta h = h
among_consumed file OtherSyntax (said, has, none) = (said, has, λ t consumed e. none (syntax_in t) (e ∙ allowed_native t consumed))
among_consumed file ReadFailed h = h

pub native_alone : NativeAloneAreAllowed
native_alone file fault = (among_native file fault, among_consumed file fault)
