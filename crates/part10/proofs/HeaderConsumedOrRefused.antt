-- A file whose prefix, length and group are read is consumed with the values that they have (`consumes_meta`), or refused
-- (`meta_refused`, `names_other`); one that lacks the length or the group is refused, too (`no_size`, `no_group_at`).
-- Stands on OneHeader, PartFailsTheWhole, WrittenHeaderReadsBack and the laws of `dictionary`.
use Rattle.std.proofs.Common.{◌≡◌, ℕ, ◌^◌, ◌<◌, Bool, true, false, List, [], ◌∷◌, ◌++◌, length, take, drop, Option, Some, None, Result, Ok, Err, IfOk, IfErr, refl, sym, ap, subst, ◌∙◌, arith, append_assoc, codes, ◌&&◌, nat_eq, nat_le, if◌then◌else◌}
use Rattle.std.proofs.lemmas.List.{drop_at}
use Rattle.std.proofs.lemmas.Bool.{and_parts}
use Rattle.std.specs.List.{list_all}
use Rattle.std.specs.Io.KnownBytes.{Consumes}
use Rattle.element.specs.Padding.{is_padding, without_trailing}
use Rattle.element.specs.Uid.{is_uid_character, is_uid, uid_of}
use Rattle.dictionary.specs.Transfers.{transfer_named, transfer_uid}
use Rattle.dictionary.proofs.Public.{named_text, not_named}
use Rattle.part10.specs.declared.meta.Meta.{Meta}
use Rattle.part10.specs.declared.meta_fault.MetaFault.{MetaFault}
use Rattle.part10.specs.declared.meta_fault.MetaFault.TheVariants.{NotPart10, BadMeta, OtherSyntax, ReadFailed}
use Rattle.part10.specs.declared.reading.Found.{Found}
use Rattle.part10.specs.File.{length_element}
use Rattle.part10.specs.MetaText.{MetaValues, meta_values_of, SpellsMeta, HasMeta, HasLetters, MetaFaultOf, MetaElement, MetaElements, uid_at, ConsumesMeta, NamesNone, NamesUnknown, FailsToReadAny}
use Rattle.part10.specs.machine.Reading.{Breaks, NoLetters, NoSize, NoGroup, IsFound, IsMeta}
use Rattle.part10.proofs.PartFailsTheWhole.{bad_after}
use Rattle.part10.proofs.WrittenHeaderReadsBack.{text_kept}
use Rattle.part10.proofs.OneHeader.{same_front, one_elements, parted, length_size, same_length}

pub letters_refuse : (fault : MetaFault) (old : Option (List ℕ)) → NoLetters fault old → FailsToReadAny fault old
letters_refuse ReadFailed old none = tt
letters_refuse NotPart10 None none = tt
letters_refuse NotPart10 (Some file) none = none
letters_refuse BadMeta old none = absurd none
letters_refuse OtherSyntax old none = absurd none

pub breaks_refuse : (fault : MetaFault) (old : Option (List ℕ)) → Breaks fault old (λ file. MetaFaultOf file BadMeta) → FailsToReadAny fault old
breaks_refuse ReadFailed old breaks = tt
breaks_refuse NotPart10 old breaks = absurd breaks
breaks_refuse BadMeta old breaks = breaks
breaks_refuse OtherSyntax old breaks = absurd breaks

has_letters : (preamble rest : List ℕ) → length preamble ≡ 128 → HasLetters ((preamble ++ codes "DICM") ++ rest)
has_letters preamble rest size =
    let after : drop 128 ((preamble ++ codes "DICM") ++ rest) ≡ codes "DICM" ++ rest = ap (drop 128) (append_assoc preamble (codes "DICM") rest) ∙ drop_at preamble (codes "DICM" ++ rest) 128 size in
    ap (take 4) after

-- what a file header has after the letters
after_letters : (said : MetaValues) (preamble rest : List ℕ) → length preamble ≡ 128 → (has : HasMeta said ((preamble ++ codes "DICM") ++ rest))
    → rest ≡ length_element (length has.spelled.group) ++ (has.spelled.group ++ has.back)
after_letters said preamble rest size has =
    let all = sym (append_assoc preamble (codes "DICM") rest) ∙ parted said ((preamble ++ codes "DICM") ++ rest) has in
    let letters = (same_front preamble has.spelled.preamble _ _ (size ∙ sym has.spelled.preamble_size) all).1 in
    (same_front (codes "DICM") (codes "DICM") _ _ refl letters).1

pub no_size : (preamble rest : List ℕ) → length preamble ≡ 128 → NoSize rest → MetaFaultOf ((preamble ++ codes "DICM") ++ rest) BadMeta
no_size preamble rest size none =
    (has_letters preamble rest size, λ said has. none (length has.spelled.group) (has.spelled.group ++ has.back) has.spelled.group_size (after_letters said preamble rest size has))

-- and after the length
after_size : (said : MetaValues) (preamble rest : List ℕ) (n : ℕ) → length preamble ≡ 128 → n < 2 ^ 32 → (has : HasMeta said ((preamble ++ codes "DICM") ++ (length_element n ++ rest)))
    → (rest ≡ has.spelled.group ++ has.back) × (length has.spelled.group ≡ n)
after_size said preamble rest n size small has =
    let all = after_letters said preamble (length_element n ++ rest) size has in
    let parts = same_front (length_element n) (length_element (length has.spelled.group)) rest (has.spelled.group ++ has.back) (length_size n ∙ sym (length_size (length has.spelled.group))) all in
    (parts.1, sym (same_length n (length has.spelled.group) small has.spelled.group_size parts.0))

pub no_group_at : (preamble rest : List ℕ) (n : ℕ) → length preamble ≡ 128 → n < 2 ^ 32 → NoGroup n rest → MetaFaultOf (((preamble ++ codes "DICM") ++ length_element n) ++ rest) BadMeta
no_group_at preamble rest n size small none =
    let P : List ℕ → Type 0 = λ file. MetaFaultOf file BadMeta in
    let here : P ((preamble ++ codes "DICM") ++ (length_element n ++ rest)) = (
      has_letters preamble (length_element n ++ rest) size,
      λ said has.
          let parts = after_size said preamble rest n size small has in
          none has.spelled.elements has.spelled.group has.back parts.0 parts.1 has.spelled.spelled,
    ) in
    subst P (sym (append_assoc (preamble ++ codes "DICM") (length_element n) rest)) here

-- all was consumed
pub record Whole (n : ℕ) (found : Found) (old new : Option (List ℕ)) : Type 0 where
  pub preamble : List ℕ
  pub group : List ℕ
  pub elements : List MetaElement
  pub preamble_size : length preamble ≡ 128
  pub small : n < 2 ^ 32
  pub count : length group ≡ n
  pub consumed : Consumes old new (((preamble ++ codes "DICM") ++ length_element n) ++ group)
  pub spelled : MetaElements 0 elements group
  pub is : IsFound found elements

whole_text : (n : ℕ) (found : Found) (old new : Option (List ℕ)) → Whole n found old new → List ℕ
whole_text n found old new whole = ((whole.preamble ++ codes "DICM") ++ length_element n) ++ whole.group

same_elements : (n : ℕ) (found : Found) (old new : Option (List ℕ)) (whole : Whole n found old new) (said : MetaValues) (rest : List ℕ)
    (has : HasMeta said ((((whole.preamble ++ codes "DICM") ++ length_element n) ++ whole.group) ++ rest)) → has.spelled.elements ≡ whole.elements
same_elements n found old new whole said rest has =
    let regroup : (((whole.preamble ++ codes "DICM") ++ length_element n) ++ whole.group) ++ rest ≡ (whole.preamble ++ codes "DICM") ++ (length_element n ++ (whole.group ++ rest)) = simp append_assoc refl in
    let moved : HasMeta said ((whole.preamble ++ codes "DICM") ++ (length_element n ++ (whole.group ++ rest))) = record { front = has.front; back = has.back; whole = sym regroup ∙ has.whole; spelled = has.spelled } in
    let parts = after_size said whole.preamble (whole.group ++ rest) n whole.preamble_size whole.small moved in
    let groups = same_front whole.group has.spelled.group rest has.back (whole.count ∙ sym parts.1) parts.0 in
    one_elements 0 0 has.spelled.elements whole.elements has.spelled.group whole.group has.spelled.spelled whole.spelled (sym groups.0)

pub spells_whole : (n : ℕ) (found : Found) (old new : Option (List ℕ)) (whole : Whole n found old new) (said : MetaValues) → found.class ≡ Some said.class → found.instance ≡ Some said.instance → found.syntax ≡ Some said.syntax
    → SpellsMeta said (((whole.preamble ++ codes "DICM") ++ length_element n) ++ whole.group)
spells_whole n found old new whole said class instance syntax = record {
  preamble = whole.preamble;
  group = whole.group;
  elements = whole.elements;
  preamble_size = whole.preamble_size;
  group_size = omega (arith, whole.count, whole.small);
  whole = ap (λ z. ((whole.preamble ++ codes "DICM") ++ length_element z) ++ whole.group) (sym whole.count);
  spelled = whole.spelled;
  class = sym whole.is.class ∙ class;
  instance = sym whole.is.instance ∙ instance;
  syntax = sym whole.is.syntax ∙ syntax;
}

-- transfer syntaxes

uid_text : (bytes text : List ℕ) → uid_of bytes ≡ Some text → is_uid text ≡ true
uid_text bytes text e = by (is_uid (without_trailing is_padding bytes)) refl e
  where
    by : (b : Bool) → is_uid (without_trailing is_padding bytes) ≡ b → (if b then Some (without_trailing is_padding bytes) else None) ≡ Some text → is_uid text ≡ true
    by true is e = let same : without_trailing is_padding bytes ≡ text = cc in ap is_uid (sym same) ∙ is
    by false is e = absurd cc

uid_found : (n : ℕ) (es : List MetaElement) (text : List ℕ) → uid_at n es ≡ Some text → is_uid text ≡ true
uid_found n [] text e = absurd cc
uid_found n (x ∷ es) text e = by (nat_eq x.number n) (uid_found n es text) e
  where
    by : (b : Bool) → (uid_at n es ≡ Some text → is_uid text ≡ true) → (if b then uid_of x.value else uid_at n es) ≡ Some text → is_uid text ≡ true
    by true later e = uid_text x.value text e
    by false later e = later e

kept_text : (text : List ℕ) → is_uid text ≡ true → without_trailing is_padding text ≡ text
kept_text text e = text_kept text (and_parts (nat_le 1 (length text) && nat_le (length text) 64) (list_all is_uid_character text) e).1

-- what comes of the whole

pub consumes_meta : (n : ℕ) (found : Found) (old new : Option (List ℕ)) → Whole n found old new → (r : Result Meta MetaFault) → IsMeta found r → IfOk r (λ meta. ConsumesMeta (meta_values_of meta) old new)
consumes_meta n found old new whole (Err fault) is = tt
consumes_meta n found old new whole (Ok meta) is =
    let text : is_uid is.0 ≡ true = uid_found 0x0010 whole.elements is.0 (sym whole.is.syntax ∙ is.3) in
    let named : transfer_named is.0 ≡ Some meta.syntax = ap transfer_named (sym (kept_text is.0 text)) ∙ is.4 in
    let syntax : found.syntax ≡ Some (transfer_uid meta.syntax) = is.3 ∙ ap (λ z. Some z) (named_text is.0 meta.syntax named) in
    (((whole.preamble ++ codes "DICM") ++ length_element n) ++ whole.group, spells_whole n found old new whole (meta_values_of meta) is.1 is.2 syntax, whole.consumed)

pub meta_refused : (n : ℕ) (found : Found) (old new : Option (List ℕ)) → Whole n found old new → (r : Result Meta MetaFault) → IsMeta found r → IfErr r (λ fault. FailsToReadAny fault old)
meta_refused n found old new whole (Ok meta) is = tt
meta_refused n found old new whole (Err ReadFailed) is = tt
meta_refused n found old new whole (Err NotPart10) is = absurd is
meta_refused n found old new whole (Err BadMeta) none =
    bad_after old new _ (λ file. MetaFaultOf file BadMeta) whole.consumed (λ rest. (
      subst HasLetters (sym (append_assoc ((whole.preamble ++ codes "DICM") ++ length_element n) whole.group rest)) (subst HasLetters (sym (append_assoc (whole.preamble ++ codes "DICM") (length_element n) (whole.group ++ rest))) (has_letters whole.preamble (length_element n ++ (whole.group ++ rest)) whole.preamble_size)),
      λ said has.
          let same = same_elements n found old new whole said rest has in
          none (said.class, said.instance, said.syntax, whole.is.class ∙ (ap (uid_at 0x0002) (sym same) ∙ has.spelled.class), whole.is.instance ∙ (ap (uid_at 0x0003) (sym same) ∙ has.spelled.instance), whole.is.syntax ∙ (ap (uid_at 0x0010) (sym same) ∙ has.spelled.syntax)),
    ))
meta_refused n found old new whole (Err OtherSyntax) is =
    bad_after old new _ NamesNone whole.consumed (λ rest.
    let said : MetaValues = record { class = is.0; instance = is.1; syntax = is.2 } in
    let text : is_uid is.2 ≡ true = uid_found 0x0010 whole.elements is.2 (sym whole.is.syntax ∙ is.5) in
    let unnamed : transfer_named is.2 ≡ None = ap transfer_named (sym (kept_text is.2 text)) ∙ is.6 in
    (said, record { front = _; back = rest; whole = refl; spelled = spells_whole n found old new whole said is.3 is.4 is.5 }, not_named is.2 unnamed))

pub names_other : (n : ℕ) (found : Found) (old new : Option (List ℕ)) → Whole n found old new → (r : Result Meta MetaFault) → IsMeta found r → IfErr r (λ fault. fault ≡ OtherSyntax → NamesUnknown old new)
names_other n found old new whole (Ok meta) is = tt
names_other n found old new whole (Err ReadFailed) is = λ same. absurd is
names_other n found old new whole (Err NotPart10) is = λ same. absurd is
names_other n found old new whole (Err BadMeta) none = λ same. absurd cc
names_other n found old new whole (Err OtherSyntax) is =
    let said : MetaValues = record { class = is.0; instance = is.1; syntax = is.2 } in
    let text : is_uid is.2 ≡ true = uid_found 0x0010 whole.elements is.2 (sym whole.is.syntax ∙ is.5) in
    let unnamed : transfer_named is.2 ≡ None = ap transfer_named (sym (kept_text is.2 text)) ∙ is.6 in
    λ same. (said, (_, spells_whole n found old new whole said is.3 is.4 is.5, whole.consumed), not_named is.2 unnamed)

-- no other fault is that of another syntax
pub not_other : (fault : MetaFault) (mid old new : Option (List ℕ)) (P : List ℕ → Type 0) → Breaks fault mid P → fault ≡ OtherSyntax → NamesUnknown old new
not_other ReadFailed mid old new P breaks same = absurd cc
not_other NotPart10 mid old new P breaks same = absurd breaks
not_other BadMeta mid old new P breaks same = absurd cc
not_other OtherSyntax mid old new P breaks same = absurd breaks

pub letters_not_other : (fault : MetaFault) (old new : Option (List ℕ)) → NoLetters fault old → fault ≡ OtherSyntax → NamesUnknown old new
letters_not_other ReadFailed old new none same = absurd cc
letters_not_other NotPart10 old new none same = absurd cc
letters_not_other BadMeta old new none same = absurd none
letters_not_other OtherSyntax old new none same = absurd none
