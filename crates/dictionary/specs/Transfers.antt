-- Transfer syntaxes by their unique identifiers (PS3.5 annex A, PS3.6 table A-1), as `tools/transfer-syntaxes` writes
-- them: the two in which Pixel Data is native, and those in which it may be encapsulated (PS3.5 section A.4).
use Rattle.std.specs.Prelude.{ℕ, Bool, true, false, List, [], ◌∷◌, Option, Some, None, filter, nat_eq, codes}
use Rattle.std.specs.List.{find}
use Rattle.std.specs.Cmp.Lexicographic.{pointwise}
use Rattle.element.specs.Padding.{is_padding, without_trailing}
use Rattle.element.specs.declared.syntax.Syntax.{Syntax}
use Rattle.element.specs.declared.syntax.Syntax.TheVariants as layout
use Rattle.dictionary.specs.declared.transfer.Transfer.{Transfer}
use Rattle.dictionary.specs.declared.transfer.Transfer.TheVariants.{Implicit, Explicit, EncapsulatedUncompressed, JpegBaseline8Bit, JpegExtended12Bit, JpegLossless, JpegLosslessSv1, JpegLsLossless, JpegLsNearLossless, Jpeg2000Lossless, Jpeg2000, Jpeg2000McLossless, Jpeg2000Mc, Mpeg2MainLevel, Mpeg2HighLevel, Mpeg4High41, Mpeg4High41Bd, Mpeg4High42For2d, Mpeg4High42For3d, Mpeg4High42Stereo, HevcMainLevel51, HevcMain10Level51, Htj2kLossless, Htj2kLosslessRpcl, Htj2k, RleLossless}

-- the text of the identifier of a transfer syntax
abbrev pub transfer_uid : Transfer → List ℕ
transfer_uid Implicit = codes "1.2.840.10008.1.2"
transfer_uid Explicit = codes "1.2.840.10008.1.2.1"
transfer_uid EncapsulatedUncompressed = codes "1.2.840.10008.1.2.1.98"
transfer_uid JpegBaseline8Bit = codes "1.2.840.10008.1.2.4.50"
transfer_uid JpegExtended12Bit = codes "1.2.840.10008.1.2.4.51"
transfer_uid JpegLossless = codes "1.2.840.10008.1.2.4.57"
transfer_uid JpegLosslessSv1 = codes "1.2.840.10008.1.2.4.70"
transfer_uid JpegLsLossless = codes "1.2.840.10008.1.2.4.80"
transfer_uid JpegLsNearLossless = codes "1.2.840.10008.1.2.4.81"
transfer_uid Jpeg2000Lossless = codes "1.2.840.10008.1.2.4.90"
transfer_uid Jpeg2000 = codes "1.2.840.10008.1.2.4.91"
transfer_uid Jpeg2000McLossless = codes "1.2.840.10008.1.2.4.92"
transfer_uid Jpeg2000Mc = codes "1.2.840.10008.1.2.4.93"
transfer_uid Mpeg2MainLevel = codes "1.2.840.10008.1.2.4.100"
transfer_uid Mpeg2HighLevel = codes "1.2.840.10008.1.2.4.101"
transfer_uid Mpeg4High41 = codes "1.2.840.10008.1.2.4.102"
transfer_uid Mpeg4High41Bd = codes "1.2.840.10008.1.2.4.103"
transfer_uid Mpeg4High42For2d = codes "1.2.840.10008.1.2.4.104"
transfer_uid Mpeg4High42For3d = codes "1.2.840.10008.1.2.4.105"
transfer_uid Mpeg4High42Stereo = codes "1.2.840.10008.1.2.4.106"
transfer_uid HevcMainLevel51 = codes "1.2.840.10008.1.2.4.107"
transfer_uid HevcMain10Level51 = codes "1.2.840.10008.1.2.4.108"
transfer_uid Htj2kLossless = codes "1.2.840.10008.1.2.4.201"
transfer_uid Htj2kLosslessRpcl = codes "1.2.840.10008.1.2.4.202"
transfer_uid Htj2k = codes "1.2.840.10008.1.2.4.203"
transfer_uid RleLossless = codes "1.2.840.10008.1.2.5"

abbrev pub transfer_keyword : Transfer → List ℕ
transfer_keyword Implicit = codes "ImplicitVRLittleEndian"
transfer_keyword Explicit = codes "ExplicitVRLittleEndian"
transfer_keyword EncapsulatedUncompressed = codes "EncapsulatedUncompressedExplicitVRLittleEndian"
transfer_keyword JpegBaseline8Bit = codes "JPEGBaseline8Bit"
transfer_keyword JpegExtended12Bit = codes "JPEGExtended12Bit"
transfer_keyword JpegLossless = codes "JPEGLossless"
transfer_keyword JpegLosslessSv1 = codes "JPEGLosslessSV1"
transfer_keyword JpegLsLossless = codes "JPEGLSLossless"
transfer_keyword JpegLsNearLossless = codes "JPEGLSNearLossless"
transfer_keyword Jpeg2000Lossless = codes "JPEG2000Lossless"
transfer_keyword Jpeg2000 = codes "JPEG2000"
transfer_keyword Jpeg2000McLossless = codes "JPEG2000MCLossless"
transfer_keyword Jpeg2000Mc = codes "JPEG2000MC"
transfer_keyword Mpeg2MainLevel = codes "MPEG2MPML"
transfer_keyword Mpeg2HighLevel = codes "MPEG2MPHL"
transfer_keyword Mpeg4High41 = codes "MPEG4HP41"
transfer_keyword Mpeg4High41Bd = codes "MPEG4HP41BD"
transfer_keyword Mpeg4High42For2d = codes "MPEG4HP422D"
transfer_keyword Mpeg4High42For3d = codes "MPEG4HP423D"
transfer_keyword Mpeg4High42Stereo = codes "MPEG4HP42STEREO"
transfer_keyword HevcMainLevel51 = codes "HEVCMP51"
transfer_keyword HevcMain10Level51 = codes "HEVCM10P51"
transfer_keyword Htj2kLossless = codes "HTJ2KLossless"
transfer_keyword Htj2kLosslessRpcl = codes "HTJ2KLosslessRPCL"
transfer_keyword Htj2k = codes "HTJ2K"
transfer_keyword RleLossless = codes "RLELossless"

-- the transfer syntaxes, by the numbers of their identifiers
abbrev pub all_transfers : List Transfer
all_transfers =
    Implicit
    ∷ Explicit
    ∷ EncapsulatedUncompressed
    ∷ JpegBaseline8Bit
    ∷ JpegExtended12Bit
    ∷ JpegLossless
    ∷ JpegLosslessSv1
    ∷ JpegLsLossless
    ∷ JpegLsNearLossless
    ∷ Jpeg2000Lossless
    ∷ Jpeg2000
    ∷ Jpeg2000McLossless
    ∷ Jpeg2000Mc
    ∷ Mpeg2MainLevel
    ∷ Mpeg2HighLevel
    ∷ Mpeg4High41
    ∷ Mpeg4High41Bd
    ∷ Mpeg4High42For2d
    ∷ Mpeg4High42For3d
    ∷ Mpeg4High42Stereo
    ∷ HevcMainLevel51
    ∷ HevcMain10Level51
    ∷ Htj2kLossless
    ∷ Htj2kLosslessRpcl
    ∷ Htj2k
    ∷ RleLossless
    ∷ []

-- whether this is the text of the transfer syntax
abbrev pub is_text_of : List ℕ → Transfer → Bool
is_text_of text transfer = pointwise nat_eq (transfer_uid transfer) text

-- the transfer syntax with this text
unfoldable pub transfer_named : List ℕ → Option Transfer
transfer_named text = find (is_text_of text) all_transfers

-- the transfer syntax that a value or a field of a PDU names: trailing zero bytes and spaces are dropped first
abbrev pub transfer_of : List ℕ → Option Transfer
transfer_of bytes = transfer_named (without_trailing is_padding bytes)

-- the default transfer syntax of the standard (PS3.5 section 10.1)
abbrev pub default_transfer : Transfer
default_transfer = Implicit

-- the layout of elements in a transfer syntax
abbrev pub syntax_in : Transfer → Syntax
syntax_in Implicit = layout.Implicit
syntax_in _ = layout.Explicit

-- whether Pixel Data may be encapsulated in the transfer syntax
abbrev pub is_encapsulated : Transfer → Bool
is_encapsulated Implicit = false
is_encapsulated Explicit = false
is_encapsulated _ = true

-- the transfer syntaxes in which Pixel Data may be encapsulated
abbrev pub encapsulated_transfers : List Transfer
encapsulated_transfers = filter is_encapsulated all_transfers

-- the transfer syntax of this layout in which Pixel Data is native
abbrev pub native : Syntax → Transfer
native layout.Implicit = Implicit
native layout.Explicit = Explicit

abbrev pub native_of : Transfer → Option Syntax
native_of Implicit = Some layout.Implicit
native_of Explicit = Some layout.Explicit
native_of _ = None
