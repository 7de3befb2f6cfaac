-- The verdicts on one CT image, by its command and its filing, are these and no others (`verdicts_on_one_image`), and its
-- file is this one (`the_file_of_a_store`). Stands on the laws of `sequence`.
use Rattle.std.proofs.Common.{◌≡◌, ℕ, ◌^◌, List, [], ◌∷◌, take, drop, get_or, Option, Some, None, refl, sym, ap, subst, codes, arith, lit<, inl, inr}
use Rattle.sequence.specs.declared.coding.Coding.{Coding}
use Rattle.sequence.specs.declared.coding.Coding.TheVariants as codings
use Rattle.dictionary.specs.declared.transfer.Transfer.TheVariants.{Explicit}
use Rattle.element.specs.declared.header.Header.{Header}
use Rattle.element.specs.Header.{number, short}
use Rattle.element.specs.Uid.{uid_of}
use Rattle.element.specs.Vr.{is_short}
use Rattle.dictionary.specs.Tags.{row_of}
use Rattle.dictionary.specs.Classes.{class_named}
use Rattle.dictionary.specs.Syntaxes.{syntax_named}
use Rattle.dictionary.specs.Transfers.{transfer_named}
use Rattle.dimse.specs.Command.{command_element_bytes, store_command, command_of}
use Rattle.dimse.specs.Reading.{element_at, elements_in, elements_of, set_of, command_in}
use Rattle.dimse.specs.Reply.{reply_command, fragments, reply_bytes}
use Rattle.part10.specs.File.{identity_elements, implementation_elements, title_element}
use Rattle.pdu.specs.Items.{items_of, remainder}
use Rattle.pdu.specs.Pieces.{pieces_of}
use Rattle.pdu.specs.Refusal.{item_fault, items_fault}
use Rattle.sequence.specs.Tree.{Elements, no_elements, value, IsElement, DataSet, nothing, value_then}
use Rattle.sequence.specs.Rules.{Limits}
use Rattle.sequence.specs.FirstFault.{IsUnbroken}
use Rattle.sequence.specs.Wanted.{Values}
use Rattle.sequence.specs.Walk.{Report, Reports, going, refused}
use Rattle.sequence.proofs.Public.{one_store}
use Rattle.engine.specs.Stores.{IsOfContext, HasNoFault, NamesUid, NamesInstance, limits, class_tag, instance_tag}
use Rattle.engine.specs.StoreExamples.{data_set}
use Rattle.engine.specs.StoreVerdicts.{store_of, VerdictsOnOneImage, TheFileOfAStore}
use Rattle.engine.specs.VerdictExamples.{ct_in}

-- the header of an identifier of group 0008
abbrev identifier : ℕ → ℕ → Header
identifier element length-is = record { tag = record { 0 = 8; 1 = element }; vr = Some (85 ∷ 73 ∷ []); length = length-is }

abbrev class_value : List ℕ
class_value = take 26 (drop 8 data_set)

abbrev instance_value : List ℕ
instance_value = drop 42 data_set

-- the class and the instance
abbrev both : Elements
both = value (identifier 0x16 26) class_value (value (identifier 0x18 6) instance_value no_elements)

class_header : IsElement codings.Explicit 0 (identifier 0x16 26) (take 8 data_set)
unfolding is_short
class_header = record {
  spelled = short (record { 0 = 8; 1 = 0x16 }) 85 73 26 (lit< tt, lit< tt) refl refl refl (lit< tt);
  rising = lit< tt;
  no_marker = refl;
  no_command = λ e. omega (arith, e);
  no_file = λ e. omega (arith, e);
}

instance_header : IsElement codings.Explicit (number class_tag) (identifier 0x18 6) (take 8 (drop 34 data_set))
unfolding is_short
instance_header = record {
  spelled = short (record { 0 = 8; 1 = 0x18 }) 85 73 6 (lit< tt, lit< tt) refl refl refl (lit< tt);
  rising = lit< tt;
  no_marker = refl;
  no_command = λ e. omega (arith, e);
  no_file = λ e. omega (arith, e);
}

is_data_set : DataSet codings.Explicit 0 both data_set
unfolding row_of
is_data_set = value_then class_header refl (record { even = refl; size = refl })
    (value_then instance_header refl (record { even = refl; size = refl }) nothing)

-- where no fault is reported, there is none
unbroken_reported : (s : Coding) (lim : Limits) (b : List ℕ) (reported : Report) → Reports s lim b reported → reported.fault ≡ None → IsUnbroken s lim b
unbroken_reported s lim b reported (going ok o) e = ok
unbroken_reported s lim b reported (refused f o) e = absurd cc

is_unbroken : IsUnbroken codings.Explicit (limits 64 (2 ^ 40)) data_set
is_unbroken = unbroken_reported codings.Explicit (limits 64 (2 ^ 40)) data_set _ one_store refl

no_fault : HasNoFault codings.Explicit (limits 64 (2 ^ 40)) data_set both
no_fault = record { whole = is_data_set; unbroken = is_unbroken }

abbrev values : Values
values = (number class_tag, class_value) ∷ (number instance_tag, instance_value) ∷ []

of_ct : (instance : List ℕ) → IsOfContext (ct_in Explicit) (store_of instance)
unfolding class_named
of_ct instance = record { named = refl; storage = refl }

named_class : NamesUid values class_tag (codes "1.2.840.10008.5.1.4.1.1.2")
named_class = (class_value, refl, refl)

named_instance : NamesInstance values (store_of (codes "1.2.3"))
named_instance = (codes "1.2.3", refl, (instance_value, refl, refl))

apart : ◌≡◌ {A = List ℕ} (codes "1.2.3") (codes "1.2.9") → ⊥
apart e = let z : ◌≡◌ {A = ℕ} 51 57 = ap (λ (digits : List ℕ). get_or digits 4 0) e in omega (arith, z)

-- the data set names 1.2.3, and so no other instance
other_instance : NamesInstance values (store_of (codes "1.2.9")) → ⊥
other_instance (uid, is, (v, there, read-is)) =
    let same : ◌≡◌ {A = List ℕ} instance_value v = cc in
    let found : ◌≡◌ {A = Option (List ℕ)} (Some (codes "1.2.3")) (Some uid) = subst (λ (z : List ℕ). ◌≡◌ {A = Option (List ℕ)} (uid_of z) (Some uid)) (sym same) read-is in
    let one : ◌≡◌ {A = List ℕ} (codes "1.2.3") (codes "1.2.9") = cc in apart one

pub verdicts_on_one_image : VerdictsOnOneImage
verdicts_on_one_image = (
  record { elements = both; first = inr (of_ct _, inr (no_fault, inr (named_class, inr (named_instance, inr (refl, refl))))) },
  record { elements = both; first = inr (of_ct _, inr (no_fault, inr (named_class, inr (named_instance, inl ((λ e. cc), refl))))) },
  λ failed. record { elements = both; first = inr (of_ct _, inr (no_fault, inr (named_class, inl (other_instance, refl)))) },
)

pub the_file_of_a_store : TheFileOfAStore
unfolding pieces_of items_of remainder item_fault items_fault class_named syntax_named transfer_named is_short command_element_bytes store_command command_of element_at elements_in elements_of set_of command_in reply_command fragments reply_bytes identity_elements implementation_elements title_element
the_file_of_a_store = refl
