-- The file of a stored instance (PS3.10 section 7.1). Which optional elements its File Meta Information has, and the
-- names of this implementation, are this product's own profile.
use Rattle.std.specs.Prelude.{ℕ, List, [], ◌∷◌, ◌++◌, length, replicate, Some, if◌then◌else◌, codes}
use Rattle.element.specs.Numbers.{le}
use Rattle.element.specs.Header.{header_bytes}
use Rattle.element.specs.Padding.{is_empty, padded}
use Rattle.element.specs.Title.{title_text}
use Rattle.element.specs.Uid.{even_uid}
use Rattle.dictionary.specs.Implementation.{implementation_class_uid, implementation_version_name}
use Rattle.dictionary.specs.Transfers.{transfer_uid}
use Rattle.part10.specs.declared.meta.Meta.{Meta}

-- the preamble of 128 zero bytes and the prefix DICM
-- e.g. length prefix ≡ 132
abbrev pub prefix : List ℕ
prefix = replicate 128 0 ++ codes "DICM"

-- the element (0002,number) in Explicit VR Little Endian (PS3.5 section 7.1.2)
-- e.g. meta_element 0x0010 (codes "UI") (codes "1.20") ≡ 2 ∷ 0 ∷ 16 ∷ 0 ∷ 85 ∷ 73 ∷ 4 ∷ 0 ∷ codes "1.20"
abbrev pub meta_element : ℕ → List ℕ → List ℕ → List ℕ
meta_element number vr value = header_bytes (record { tag = record { 0 = 2; 1 = number }; vr = Some vr; length = length value }) ++ value

-- an element of VR UI in group 0002
-- e.g. uid_element 0x0010 (codes "1.2") ≡ 2 ∷ 0 ∷ 16 ∷ 0 ∷ 85 ∷ 73 ∷ 4 ∷ 0 ∷ codes "1.2" ++ 0 ∷ []
abbrev pub uid_element : ℕ → List ℕ → List ℕ
uid_element number text = meta_element number (codes "UI") (even_uid text)

-- File Meta Information Version, Media Storage SOP Class UID, Media Storage SOP Instance UID, Transfer Syntax UID (law
-- `engine::the_file_of_a_store`)
unfoldable pub identity_elements : Meta → List ℕ
identity_elements meta =
    meta_element 0x0001 (codes "OB") (0 ∷ 1 ∷ [])
    ++ uid_element 0x0002 meta.class
    ++ uid_element 0x0003 meta.instance
    ++ uid_element 0x0010 (transfer_uid meta.syntax)

-- Implementation Class UID and Implementation Version Name (law `engine::the_file_of_a_store`)
unfoldable pub implementation_elements : List ℕ
implementation_elements =
    uid_element 0x0012 implementation_class_uid ++ meta_element 0x0013 (codes "SH") implementation_version_name

-- Source Application Entity Title, left out if the title is empty
-- e.g. title_element [] ≡ []
unfoldable pub title_element : List ℕ → List ℕ
title_element text = if is_empty text then [] else meta_element 0x0016 (codes "AE") (padded 32 text)

-- the elements of group 0002 after its length; the calling title is without spaces at both ends (law
-- `engine::the_file_of_a_store`)
abbrev pub meta_group : Meta → List ℕ
meta_group meta = identity_elements meta ++ implementation_elements ++ title_element (title_text meta.calling.0)

-- File Meta Information Group Length: the number of bytes of the group after it
-- e.g. length_element 4 ≡ 2 ∷ 0 ∷ 0 ∷ 0 ∷ 85 ∷ 76 ∷ 4 ∷ 0 ∷ 4 ∷ 0 ∷ 0 ∷ 0 ∷ []
abbrev pub length_element : ℕ → List ℕ
length_element bytes = meta_element 0x0000 (codes "UL") (le bytes 4)

-- the bytes of a file before its data set (law `part10::one_ct_store`)
abbrev pub head : Meta → List ℕ
head meta = prefix ++ length_element (length (meta_group meta)) ++ meta_group meta

-- the file of an instance: preamble, prefix and File Meta Information, then the data set as it was received (law
-- `engine::the_file_of_a_store`)
abbrev pub File : Meta → List ℕ → List ℕ
File meta data_set = head meta ++ data_set
