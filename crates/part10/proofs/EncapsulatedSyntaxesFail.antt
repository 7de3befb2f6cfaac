-- Where only the native transfer syntaxes are accepted, a header fails that fails where all are (`still_fails`,
-- `still_names`), and so does one in an encapsulated transfer syntax (`compressed_fails`). Stands on PartFailsTheWhole
-- and the laws of `dictionary`.
use Rattle.std.proofs.Common.{◌≡◌, ◌≢◌, ℕ, true, false, List, Option, Some, None, refl, ap, sym, ◌∙◌}
use Rattle.element.specs.declared.syntax.Syntax.{Syntax}
use Rattle.element.specs.declared.syntax.Syntax.TheVariants as layout
use Rattle.dictionary.specs.declared.transfer.Transfer.{Transfer}
use Rattle.dictionary.specs.declared.transfer.Transfer.TheVariants.{Implicit, Explicit}
use Rattle.dictionary.specs.Syntaxes.{syntax_uid}
use Rattle.dictionary.specs.Transfers.{is_encapsulated, native, syntax_in, transfer_of, transfer_uid}
use Rattle.dictionary.proofs.Public.{native_uid, transfer_back}
use Rattle.part10.specs.declared.meta.Meta.{Meta}
use Rattle.part10.specs.declared.meta_fault.MetaFault.{MetaFault}
use Rattle.part10.specs.declared.meta_fault.MetaFault.TheVariants.{NotPart10, BadMeta, OtherSyntax, ReadFailed}
use Rattle.part10.specs.MetaText.{meta_values_of, MetaFaultOf, ConsumesMeta, NamesOther, NamesUnknown, FailsToRead, FailsToReadAny}
use Rattle.part10.proofs.PartFailsTheWhole.{bad_after}

pub native_is : (t : Transfer) → is_encapsulated t ≡ false → t ≡ native (syntax_in t)
native_is Implicit e = refl
native_is Explicit e = refl
native_is _ e = absurd cc

native_not : (s : Syntax) → is_encapsulated (native s) ≡ false
native_not layout.Implicit = refl
native_not layout.Explicit = refl

other_than : (t : Transfer) → is_encapsulated t ≡ true → (s : Syntax) → transfer_uid t ≢ syntax_uid s
other_than t e s same =
    let again : ◌≡◌ {A = Option Transfer} (Some t) (Some (native s)) = sym (transfer_back t) ∙ ap transfer_of (same ∙ sym (native_uid s)) ∙ transfer_back (native s) in
    let is : t ≡ native s = cc in
    let wrong : true ≡ false = sym e ∙ ap is_encapsulated is ∙ native_not s in absurd cc

unknown_other : (text : List ℕ) → ((t : Transfer) → text ≢ transfer_uid t) → (s : Syntax) → text ≢ syntax_uid s
unknown_other text none s same = none (native s) (same ∙ sym (native_uid s))

pub still_fails : (fault : MetaFault) (old : Option (List ℕ)) → FailsToReadAny fault old → FailsToRead fault old
still_fails ReadFailed old h = tt
still_fails NotPart10 old h = h
still_fails BadMeta old h = h
still_fails OtherSyntax None h = tt
still_fails OtherSyntax (Some file) (said, has, none) = (said, has, unknown_other said.syntax none)

pub still_names : (old new : Option (List ℕ)) → NamesUnknown old new → NamesOther old new
still_names old new (said, accepts, none) = (said, accepts, unknown_other said.syntax none)

pub compressed_names : (meta : Meta) (old new : Option (List ℕ)) → ConsumesMeta (meta_values_of meta) old new → is_encapsulated meta.syntax ≡ true → NamesOther old new
compressed_names meta old new accepts e = (meta_values_of meta, accepts, other_than meta.syntax e)

pub compressed_fails : (meta : Meta) (old new : Option (List ℕ)) → ConsumesMeta (meta_values_of meta) old new → is_encapsulated meta.syntax ≡ true → FailsToRead OtherSyntax old
compressed_fails meta old new (header, spelled, consumes) e =
    bad_after old new header (λ file. MetaFaultOf file OtherSyntax) consumes (λ rest.
    (meta_values_of meta, record { front = header; back = rest; whole = refl; spelled = spelled }, other_than meta.syntax e))
