-- What `index` does with a file by its name and kind. This product's own profile.
use Rattle.std.specs.Prelude.{Bool, true, false, ◌&&◌, not, Option, Some, None, if◌then◌else◌}
use Rattle.inspection.specs.FileKinds.{is_other}
use Rattle.inspection.specs.declared.file_kind.FileKind.{FileKind}
use Rattle.inspection.specs.declared.file_kind.FileKind.TheVariants.{Dicom, Empty, Unclear, Other}
use Rattle.index_command.specs.declared.files.Fate.{Fate}
use Rattle.index_command.specs.declared.files.Fate.TheVariants.{Listed, OtherName, Ignored, PassedOver}
use Rattle.index_command.specs.declared.files.ListedNames.{ListedNames}
use Rattle.index_command.specs.declared.files.ListedNames.TheVariants.{Received, Any}

-- a file of another name than a received one is counted if it is a DICOM file
abbrev pub fate_of_others : Option FileKind → Fate
fate_of_others (Some Dicom) = OtherName
fate_of_others (Some Empty) = PassedOver
fate_of_others (Some Unclear) = PassedOver
fate_of_others (Some Other) = PassedOver
fate_of_others None = PassedOver

-- with any name each file is listed but one that is surely no DICOM file
abbrev pub fate_of_any : Option FileKind → Fate
fate_of_any (Some Dicom) = Listed
fate_of_any (Some Empty) = Listed
fate_of_any (Some Unclear) = Listed
fate_of_any (Some Other) = PassedOver
fate_of_any None = Listed

-- the fate of a file that is not ignored, by its kind, if that is known
abbrev pub fate_by_name : ListedNames → Bool → Option FileKind → Fate
fate_by_name Any is_received kind = fate_of_any kind
fate_by_name Received is_received kind = if is_received then Listed else fate_of_others kind

abbrev pub is_known_other : Option FileKind → Bool
is_known_other None = false
is_known_other (Some kind) = is_other kind

-- the fate of a file: it is ignored if others are, and it has bytes and no letters DICM
abbrev pub fate : ListedNames → Bool → Bool → Option FileKind → Fate
fate names ignores_others is_received kind =
    if ignores_others && is_known_other kind then Ignored else fate_by_name names is_received kind
