-- An A-ASSOCIATE-RQ is read as its titles and presentation contexts (`requests_read`). Stands on the laws of
-- `dictionary`.
use Rattle.std.proofs.Common.{◌≡◌, ◌<◌, ◌≤◌, ℕ, true, false, eqb, List, [], ◌∷◌, ◌++◌, length, map, replicate, refl, sym, ap, subst, ◌∙◌, arith, append_assoc, nat_le, ◌&&◌}
use Rattle.std.specs.List.{AllByRecursion, IsDistinct, flat_map, list_all}
use Rattle.std.proofs.lemmas.Bool.{and_parts, eqb-false, leb-true, ne_eqb}
use Rattle.std.proofs.lemmas.Bool.Decides.{nat_tests}
use Rattle.std.proofs.lemmas.List.{append-nil, length-append, length-map}
use Rattle.byteorder.specs.Endian.{big_number}
use Rattle.byteorder.specs.Numbers.{big_number-reads_back}
use Rattle.element.specs.Numbers.{be}
use Rattle.element.specs.Padding.{is_padding, kept_before, without_trailing}
use Rattle.element.specs.Uid.{is_uid, is_uid_character}
use Rattle.dictionary.specs.declared.transfer.Transfer.{Transfer}
use Rattle.dictionary.specs.declared.transfer.Transfer.TheVariants as transfers
use Rattle.dictionary.specs.Implementation.{implementation_class_uid, implementation_version_name}
use Rattle.dictionary.specs.Syntaxes.{application_context}
use Rattle.dictionary.specs.Transfers.{transfer_uid}
use Rattle.dictionary.proofs.Public.{transfer_short}
use Rattle.pdu.specs.Items.{identifier, item, of_kind}
use Rattle.pdu.specs.Pieces.{IsWholePiece, joined}
use Rattle.pdu.specs.Record.{ids}
use Rattle.pdu.specs.Request.{ContextText, ContextTexts, InformationText, One}
use Rattle.negotiate.specs.Accept.{item_text, user_text}
use Rattle.sending.specs.declared.context.StorageContext.{StorageContext}
use Rattle.sending.specs.ReadBack.{RequestsAreRead, proposal_of}
use Rattle.sending.specs.Requesting.{context_id, proposal_text}

-- ---- an identifier has no padding

no_padding : (c : ℕ) → is_uid_character c ≡ true → is_padding c ≡ false
no_padding c e = grind (arith, nat_tests)

kept : (x : ℕ) (rest : List ℕ) → is_padding x ≡ false → kept_before is_padding x rest ≡ x ∷ rest
kept x [] e = rw e refl
kept x (y ∷ rest) e = refl

characters_kept : (text : List ℕ) → list_all is_uid_character text ≡ true → without_trailing is_padding text ≡ text
characters_kept [] e = refl
characters_kept (x ∷ xs) e =
    let parts = and_parts (is_uid_character x) (list_all is_uid_character xs) e in
    rw (characters_kept xs parts.1) (kept x xs (no_padding x parts.0))

text_kept : (text : List ℕ) → is_uid text ≡ true → without_trailing is_padding text ≡ text
text_kept text e = characters_kept text (and_parts (nat_le 1 (length text) && nat_le (length text) 64) (list_all is_uid_character text) e).1

text_short : (text : List ℕ) → is_uid text ≡ true → length text ≤ 64
text_short text e =
    let sizes = (and_parts (nat_le 1 (length text) && nat_le (length text) 64) (list_all is_uid_character text) e).0 in
    leb-true (length text) 64 (and_parts (nat_le 1 (length text)) (nat_le (length text) 64) sizes).1

syntax_is_uid : (t : Transfer) → is_uid (transfer_uid t) ≡ true
syntax_is_uid transfers.Implicit = refl
syntax_is_uid _ = refl

-- ---- an item

whole_item : (kind : ℕ) (content : List ℕ) → length content < 65536 → IsWholePiece item (item_text kind content)
whole_item kind content short =
    let back : big_number 2 (be (length content) 2 ++ content) ≡ length content = big_number-reads_back 2 (length content) content short in
    record { headed = omega arith; filled = omega (arith, back) }

-- ---- a presentation context

proposal_size : (c : StorageContext) → is_uid c.class ≡ true
    → length (context_id c.index ∷ 0 ∷ 0 ∷ 0 ∷ (item_text 0x30 c.class ++ item_text 0x40 (transfer_uid c.syntax))) < 65536
proposal_size c e = omega (arith, length-append (item_text 0x30 c.class) (item_text 0x40 (transfer_uid c.syntax)), text_short c.class e, transfer_short c.syntax)

context_read : (c : StorageContext) → is_uid c.class ≡ true → ContextText (proposal_of c) (proposal_text c)
context_read c e = record {
  a = 0;
  b = 0;
  c = 0;
  parts = item_text 0x30 c.class ∷ item_text 0x40 (transfer_uid c.syntax) ∷ [];
  whole = ap (λ (t : List ℕ). context_id c.index ∷ 0 ∷ 0 ∷ 0 ∷ (item_text 0x30 c.class ++ t)) (sym (append-nil (item_text 0x40 (transfer_uid c.syntax))));
  each = (whole_item 0x30 c.class (omega (arith, text_short c.class e)), (whole_item 0x40 (transfer_uid c.syntax) (omega (arith, transfer_short c.syntax)), tt));
  abstract_one = sym (text_kept c.class e);
  transfer = ap (λ (t : List ℕ). t ∷ []) (sym (text_kept (transfer_uid c.syntax) (syntax_is_uid c.syntax)));
  some = omega arith;
  odd = omega arith;
}

contexts_read : (cs : List StorageContext) → AllByRecursion (λ c. is_uid c.class ≡ true) cs → ContextTexts (map proposal_of cs) (map proposal_text cs)
contexts_read [] e = tt
contexts_read (c ∷ cs) e = (context_read c e.0, contexts_read cs e.1)

-- ---- the items of the request

abbrev items : List StorageContext → List (List ℕ)
items cs = map proposal_text cs ++ user_text 16384 ∷ []

items_joined : (cs : List StorageContext) → flat_map proposal_text cs ++ user_text 16384 ≡ joined (items cs)
items_joined [] = sym (append-nil (user_text 16384))
items_joined (c ∷ cs) = append_assoc (proposal_text c) (flat_map proposal_text cs) (user_text 16384) ∙ ap (λ (t : List ℕ). proposal_text c ++ t) (items_joined cs)

items_whole : (cs : List StorageContext) → AllByRecursion (λ c. is_uid c.class ≡ true) cs → AllByRecursion (IsWholePiece item) (items cs)
items_whole [] e = (record { headed = omega arith; filled = refl }, tt)
items_whole (c ∷ cs) e =
    (whole_item 0x20 (context_id c.index ∷ 0 ∷ 0 ∷ 0 ∷ (item_text 0x30 c.class ++ item_text 0x40 (transfer_uid c.syntax))) (proposal_size c e.0), items_whole cs e.1)

proposals_among : (cs : List StorageContext) → of_kind 0x20 (items cs) ≡ map proposal_text cs
proposals_among [] = refl
proposals_among (c ∷ cs) = ap (λ (is : List (List ℕ)). proposal_text c ∷ is) (proposals_among cs)

applications_among : (cs : List StorageContext) → of_kind 0x10 (items cs) ≡ []
applications_among [] = refl
applications_among (c ∷ cs) = applications_among cs

information_among : (cs : List StorageContext) → of_kind 0x50 (items cs) ≡ user_text 16384 ∷ []
information_among [] = refl
information_among (c ∷ cs) = information_among cs

information_read : InformationText 16384 (user_text 16384)
information_read = record {
  parts = item_text 0x51 (be 16384 4) ∷ item_text 0x52 implementation_class_uid ∷ item_text 0x55 implementation_version_name ∷ [];
  whole = refl;
  each = (record { headed = omega arith; filled = refl }, (record { headed = omega arith; filled = refl }, (record { headed = omega arith; filled = refl }, tt)));
  maximum_is = (refl, refl);
}

-- ---- each context has an ID of its own

other_ids : (i : ℕ) (cs : List StorageContext) → AllByRecursion (λ j. eqb i j ≡ false) (map (λ (c : StorageContext). c.index) cs)
    → AllByRecursion (λ id. eqb (context_id i) id ≡ false) (ids (map proposal_of cs))
other_ids i [] e = tt
other_ids i (c ∷ cs) e =
    (ne_eqb (context_id i) (context_id c.index) (λ same. eqb-false i c.index e.0 (omega (arith, same))), other_ids i cs e.1)

distinct_ids : (cs : List StorageContext) → IsDistinct eqb (map (λ (c : StorageContext). c.index) cs) → IsDistinct eqb (ids (map proposal_of cs))
unfolding IsDistinct
distinct_ids [] e = tt
distinct_ids (c ∷ cs) e = (other_ids c.index cs e.0, distinct_ids cs e.1)

pub requests_read : RequestsAreRead
requests_read called calling cs is_called is_calling p = record {
  version = 0 ∷ 1 ∷ [];
  unused = 0 ∷ 0 ∷ [];
  items = item_text 0x10 application_context ∷ items cs;
  whole = ap (λ (t : List ℕ). 0 ∷ 1 ∷ 0 ∷ 0 ∷ (called ++ (calling ++ (replicate 32 0 ++ (item_text 0x10 application_context ++ t))))) (items_joined cs);
  version_size = refl;
  unused_size = refl;
  called_size = is_called;
  calling_size = is_calling;
  reserved_size = refl;
  version_is = refl;
  each = (record { headed = omega arith; filled = refl }, items_whole cs p.classes);
  application = subst (λ is. One (λ i. application_context ≡ identifier i) (item_text 0x10 application_context ∷ is)) (sym (applications_among cs)) refl;
  information = subst (One (InformationText 16384)) (sym (information_among cs)) information_read;
  contexts = subst (ContextTexts (map proposal_of cs)) (sym (proposals_among cs)) (contexts_read cs p.classes);
  some = omega (arith, p.some, length-map cs proposal_of);
  distinct = distinct_ids cs p.indexes;
}
