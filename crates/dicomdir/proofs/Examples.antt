-- Worked file IDs (`file_ids_are_read`) and file headers (`header_faults`) compute. Stands on the laws of `part10`.
use Rattle.std.proofs.Common.{[], refl, arith, codes, sym}
use Rattle.element.specs.Vr.{is_short}
use Rattle.part10.specs.MetaText.{SpellsMeta, HasMeta}
use Rattle.part10.proofs.Public.{no_headers, other_syntax_is_a_fault, least_read}
use Rattle.dicomdir.specs.DirFault.{in_header, in_syntax}
use Rattle.dicomdir.specs.Examples.{FileIdsAreRead, HeaderFaults}
use Rattle.std.proofs.lemmas.List.{append-nil}
use Rattle.part10.specs.declared.meta_fault.MetaFault.TheVariants.{NotPart10, OtherSyntax}
use Rattle.part10.specs.Examples.{least_header, least_said}

pub file_ids_are_read : FileIdsAreRead
file_ids_are_read = (refl, refl, refl, refl, refl, refl)

-- ---- faults of the file header

implicit_is : SpellsMeta (least_said (codes "1.2.840.10008.1.2")) (least_header (codes "1.2.840.10008.1.2"))
unfolding is_short
implicit_is = least_read (codes "1.2.840.10008.1.2") refl (omega arith)

implicit_has : HasMeta (least_said (codes "1.2.840.10008.1.2")) (least_header (codes "1.2.840.10008.1.2"))
implicit_has = record {
  front = least_header (codes "1.2.840.10008.1.2");
  back = [];
  whole = sym (append-nil (least_header (codes "1.2.840.10008.1.2")));
  spelled = implicit_is;
}

pub header_faults : HeaderFaults
header_faults = (in_header NotPart10 no_headers.0, in_header OtherSyntax other_syntax_is_a_fault.1, in_syntax implicit_has refl)
