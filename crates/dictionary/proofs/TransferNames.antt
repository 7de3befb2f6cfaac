-- The text of each transfer syntax names it alone (`transfer_back`, `named_back`) and is short (`transfer_short`), as
-- `tools/transfer-syntaxes` writes them. Stands on the definitions alone.
use Rattle.std.proofs.Common.{◌≡◌, ◌≤◌, Some, length, refl, arith}
use Rattle.dictionary.specs.declared.transfer.Transfer.{Transfer}
use Rattle.dictionary.specs.declared.transfer.Transfer.TheVariants.{Implicit, Explicit, EncapsulatedUncompressed, JpegBaseline8Bit, JpegExtended12Bit, JpegLossless, JpegLosslessSv1, JpegLsLossless, JpegLsNearLossless, Jpeg2000Lossless, Jpeg2000, Jpeg2000McLossless, Jpeg2000Mc, Mpeg2MainLevel, Mpeg2HighLevel, Mpeg4High41, Mpeg4High41Bd, Mpeg4High42For2d, Mpeg4High42For3d, Mpeg4High42Stereo, HevcMainLevel51, HevcMain10Level51, Htj2kLossless, Htj2kLosslessRpcl, Htj2k, RleLossless}
use Rattle.dictionary.specs.Transfers.{transfer_uid, transfer_named, transfer_of}

pub transfer_back : (t : Transfer) → transfer_of (transfer_uid t) ≡ Some t
unfolding transfer_named
transfer_back Implicit = refl
transfer_back Explicit = refl
transfer_back EncapsulatedUncompressed = refl
transfer_back JpegBaseline8Bit = refl
transfer_back JpegExtended12Bit = refl
transfer_back JpegLossless = refl
transfer_back JpegLosslessSv1 = refl
transfer_back JpegLsLossless = refl
transfer_back JpegLsNearLossless = refl
transfer_back Jpeg2000Lossless = refl
transfer_back Jpeg2000 = refl
transfer_back Jpeg2000McLossless = refl
transfer_back Jpeg2000Mc = refl
transfer_back Mpeg2MainLevel = refl
transfer_back Mpeg2HighLevel = refl
transfer_back Mpeg4High41 = refl
transfer_back Mpeg4High41Bd = refl
transfer_back Mpeg4High42For2d = refl
transfer_back Mpeg4High42For3d = refl
transfer_back Mpeg4High42Stereo = refl
transfer_back HevcMainLevel51 = refl
transfer_back HevcMain10Level51 = refl
transfer_back Htj2kLossless = refl
transfer_back Htj2kLosslessRpcl = refl
transfer_back Htj2k = refl
transfer_back RleLossless = refl

pub named_back : (t : Transfer) → transfer_named (transfer_uid t) ≡ Some t
unfolding transfer_named
named_back Implicit = refl
named_back Explicit = refl
named_back EncapsulatedUncompressed = refl
named_back JpegBaseline8Bit = refl
named_back JpegExtended12Bit = refl
named_back JpegLossless = refl
named_back JpegLosslessSv1 = refl
named_back JpegLsLossless = refl
named_back JpegLsNearLossless = refl
named_back Jpeg2000Lossless = refl
named_back Jpeg2000 = refl
named_back Jpeg2000McLossless = refl
named_back Jpeg2000Mc = refl
named_back Mpeg2MainLevel = refl
named_back Mpeg2HighLevel = refl
named_back Mpeg4High41 = refl
named_back Mpeg4High41Bd = refl
named_back Mpeg4High42For2d = refl
named_back Mpeg4High42For3d = refl
named_back Mpeg4High42Stereo = refl
named_back HevcMainLevel51 = refl
named_back HevcMain10Level51 = refl
named_back Htj2kLossless = refl
named_back Htj2kLosslessRpcl = refl
named_back Htj2k = refl
named_back RleLossless = refl

pub transfer_short : (t : Transfer) → length (transfer_uid t) ≤ 23
transfer_short Implicit = omega arith
transfer_short Explicit = omega arith
transfer_short EncapsulatedUncompressed = omega arith
transfer_short JpegBaseline8Bit = omega arith
transfer_short JpegExtended12Bit = omega arith
transfer_short JpegLossless = omega arith
transfer_short JpegLosslessSv1 = omega arith
transfer_short JpegLsLossless = omega arith
transfer_short JpegLsNearLossless = omega arith
transfer_short Jpeg2000Lossless = omega arith
transfer_short Jpeg2000 = omega arith
transfer_short Jpeg2000McLossless = omega arith
transfer_short Jpeg2000Mc = omega arith
transfer_short Mpeg2MainLevel = omega arith
transfer_short Mpeg2HighLevel = omega arith
transfer_short Mpeg4High41 = omega arith
transfer_short Mpeg4High41Bd = omega arith
transfer_short Mpeg4High42For2d = omega arith
transfer_short Mpeg4High42For3d = omega arith
transfer_short Mpeg4High42Stereo = omega arith
transfer_short HevcMainLevel51 = omega arith
transfer_short HevcMain10Level51 = omega arith
transfer_short Htj2kLossless = omega arith
transfer_short Htj2kLosslessRpcl = omega arith
transfer_short Htj2k = omega arith
transfer_short RleLossless = omega arith
