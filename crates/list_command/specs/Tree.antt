-- What a listing has of each file: the series and the study that it belongs to. This product's own profile.
use Rattle.std.specs.Prelude.{◌≡◌, ℕ, zero, suc, Bool, true, false, ◌||◌, not, List, [], ◌∷◌, ◌++◌, map, Option, Some, None, nat_eq, replicate, Vec, IsPermutation, if◌then◌else◌}
use Rattle.std.specs.Cmp.Lexicographic.{pointwise}
use Rattle.std.specs.List.{flat_map}
use Rattle.std.specs.String.{string_bytes}
use Rattle.keyed_files.specs.Keys.{file_text}
use Rattle.keyed_files.specs.declared.keys.FileKeys.{FileKeys}
use Rattle.list_command.specs.Values.{columns_of}
use Rattle.list_command.specs.declared.columns.Column.{Column}
use Rattle.list_command.specs.declared.grouping.Grouping.{Grouping}
use Rattle.list_command.specs.declared.studies.Instance.{Instance}
use Rattle.list_command.specs.declared.studies.Series.{Series}
use Rattle.list_command.specs.declared.studies.Study.{Study}
use Rattle.values.specs.Repertoires as repertoires
use Rattle.values.specs.declared.repertoire.Repertoire.{Repertoire}

-- the files of a study's series, each as the UIDs of its study and its series: as many of each series as it counts
abbrev pub files_in : {A : Type 0} → List ℕ → List (Vec ℕ A × Series A) → List (List ℕ × List ℕ)
files_in study entries = flat_map (λ entry. replicate entry.1.images (study, entry.0.items)) entries

-- the files of all studies
abbrev pub files_of : {A : Type 0} → List (Vec ℕ A × Study A) → List (List ℕ × List ℕ)
files_of entries = flat_map (λ entry. files_in entry.0.items entry.1.series.entries) entries

-- the bytes of each text
abbrev pub texts_of : {A : Type 0} → List (Vec ℕ A) → List (List ℕ)
texts_of texts = map (λ text. text.items) texts

-- what is listed of a file: its path and its further columns
abbrev pub Listed : Type 0
Listed = List ℕ × List (List ℕ)

-- what is listed of this file
abbrev pub shown : {A : Type 0} → Instance A → Listed
shown instance = (string_bytes instance.path, texts_of instance.columns.items)

-- the listed files of a study's series, each as the UIDs of its study and its series, and what is listed of it
abbrev pub listed_in : {A : Type 0} → List ℕ → List (Vec ℕ A × Series A) → List (List ℕ × (List ℕ × Listed))
listed_in study entries = flat_map (λ entry. map (λ instance. (study, (entry.0.items, shown instance))) entry.1.instances.items) entries

-- the listed files of all studies
abbrev pub listed_of : {A : Type 0} → List (Vec ℕ A × Study A) → List (List ℕ × (List ℕ × Listed))
listed_of entries = flat_map (λ entry. listed_in entry.0.items entry.1.series.entries) entries

-- the value of a file with the tag of these numbers, without its padding
abbrev pub text_at : FileKeys → ℕ → ℕ → List ℕ
text_at keys group element = file_text keys (record { 0 = group; 1 = element })

-- Study Instance UID (0020,000D), without padding
abbrev pub study_uid : FileKeys → List ℕ
study_uid keys = text_at keys 0x0020 0x000d

-- Series Instance UID (0020,000E), without padding
abbrev pub series_uid : FileKeys → List ℕ
series_uid keys = text_at keys 0x0020 0x000e

-- Patient ID (0010,0020), without padding
abbrev pub patient_id_in : FileKeys → List ℕ
patient_id_in keys = text_at keys 0x0010 0x0020

-- the repertoire that Specific Character Set (0008,0005) names
abbrev pub repertoire_in : FileKeys → Repertoire
repertoire_in keys = repertoires.of_value (text_at keys 0x0008 0x0005)

-- what is shown of a series besides its files
pub record ShownSeries : Type 0 where
  pub number : List ℕ
  pub modality : List ℕ
  pub description : List ℕ
  pub columns : List (List ℕ)
  pub repertoire : Repertoire

-- what is shown of this series
abbrev pub shown_series : {A : Type 0} → Series A → ShownSeries
shown_series series = record { number = series.number.items; modality = series.modality.items; description = series.description.items; columns = texts_of series.columns.items; repertoire = series.repertoire }

-- what is shown of a series whose first file has these values: Series Number (0020,0011), Modality (0008,0060), Series
-- Description (0008,103E) and the further columns
abbrev pub first_of_series : FileKeys → List Column → ShownSeries
first_of_series keys columns = record { number = text_at keys 0x0020 0x0011; modality = text_at keys 0x0008 0x0060; description = text_at keys 0x0008 0x103e; columns = columns_of keys columns; repertoire = repertoire_in keys }

-- each study or series as its UID and what is shown of it
abbrev pub each_shown : {A T S : Type 0} → (T → S) → List (Vec ℕ A × T) → List (List ℕ × S)
each_shown show entries = map (λ entry. (entry.0.items, show entry.1)) entries

-- what is shown of a study besides its files: whether they have several Patient IDs, and its series
pub record ShownStudy : Type 0 where
  pub date : List ℕ
  pub patient_id : List ℕ
  pub patient_name : List ℕ
  pub columns : List (List ℕ)
  pub repertoire : Repertoire
  pub has_several_patients : Bool
  pub series : List (List ℕ × ShownSeries)

-- what is shown of this study
abbrev pub shown_study : {A : Type 0} → Study A → ShownStudy
shown_study study = record { date = study.date.items; patient_id = study.patient_id.items; patient_name = study.patient_name.items; columns = texts_of study.columns.items; repertoire = study.repertoire; has_several_patients = study.has_several_patients; series = each_shown shown_series study.series.entries }

-- what is shown of the studies
abbrev pub shown_studies : {A : Type 0} → List (Vec ℕ A × Study A) → List (List ℕ × ShownStudy)
shown_studies entries = each_shown shown_study entries

-- what is shown of a study whose first file has these values, before its series: Study Date (0008,0020), Patient ID,
-- Patient's Name (0010,0010) and the further columns
abbrev pub first_of_study : FileKeys → List Column → ShownStudy
first_of_study keys columns = record { date = text_at keys 0x0008 0x0020; patient_id = patient_id_in keys; patient_name = text_at keys 0x0010 0x0010; columns = columns_of keys columns; repertoire = repertoire_in keys; has_several_patients = false; series = [] }

-- the first with this UID is changed in this way; if none has it, a new one, changed in this way, is at the end
abbrev pub at_uid : {S : Type 0} → List ℕ → S → (S → S) → List (List ℕ × S) → List (List ℕ × S)
at_uid uid new change [] = (uid, change new) ∷ []
at_uid uid new change (one ∷ all) = if pointwise nat_eq uid one.0 then (one.0, change one.1) ∷ all else one ∷ at_uid uid new change all

-- unchanged if one has this UID; else with this new one at the end
abbrev pub or_new : {S : Type 0} → List ℕ → S → List (List ℕ × S) → List (List ℕ × S)
or_new uid new all = at_uid uid new (λ one. one) all

-- a study with the series of this UID: unchanged if it has one, else with this new one
abbrev pub with_series : List ℕ → ShownSeries → ShownStudy → ShownStudy
with_series uid new study = record study { series = or_new uid new study.series }

-- a study with a further file: its values and those of its series are unchanged
abbrev pub with_file : List ℕ → FileKeys → List Column → ShownStudy → ShownStudy
with_file uid keys columns study = record (with_series uid (first_of_series keys columns) study) { has_several_patients = study.has_several_patients || not (pointwise nat_eq study.patient_id (patient_id_in keys)) }

-- the studies with a further file of the study and the series with these UIDs
abbrev pub studies_with : List ℕ → List ℕ → FileKeys → List Column → List (List ℕ × ShownStudy) → List (List ℕ × ShownStudy)
studies_with study series keys columns all = at_uid study (first_of_study keys columns) (with_file series keys columns) all

-- files are listed as before, and with the same further columns
abbrev pub SameOptions : {A : Type 0} → Grouping A → Grouping A → Type 0
SameOptions old new = (new.has_instances ≡ old.has_instances) × (new.columns.now ≡ old.columns.now)

-- A file with these values is added to the series of the study that they name, and every other file is unchanged. If
-- files are listed, its path is added, too, with its values for the further columns. What is shown of a study or series
-- is that of its first file, in the order of these.
pub record IsFiled {A : Type 0} (path : List ℕ) (keys : FileKeys) (old new : Grouping A) : Type 0 where
  pub counted : IsPermutation {X = List ℕ × List ℕ} ((study_uid keys, series_uid keys) ∷ files_of old.studies.entries) (files_of new.studies.entries)
  pub listed : old.has_instances ≡ true → IsPermutation {X = List ℕ × (List ℕ × Listed)} ((study_uid keys, (series_uid keys, (path, columns_of keys old.columns.now))) ∷ listed_of old.studies.entries) (listed_of new.studies.entries)
  pub shown : shown_studies new.studies.entries ≡ studies_with (study_uid keys) (series_uid keys) keys old.columns.now (shown_studies old.studies.entries)
  pub options : SameOptions old new

-- this is to be listed of a file
abbrev pub Lists : {A : Type 0} → Listed → Option (Instance A) → Type 0
Lists listed None = ⊥
Lists listed (Some instance) = shown instance ≡ listed

-- whether a UID is this one
abbrev pub is_uid : {A : Type 0} → List ℕ → Vec ℕ A → Bool
is_uid uid key = pointwise nat_eq uid key.items

-- the first study or series with this UID is at this index
abbrev pub HasUid : {A T : Type 0} → List ℕ → ℕ → List (Vec ℕ A × T) → Type 0
HasUid uid index [] = ⊥
HasUid uid zero (entry ∷ entries) = is_uid uid entry.0 ≡ true
HasUid uid (suc index) (entry ∷ entries) = (is_uid uid entry.0 ≡ false) × HasUid uid index entries

-- the studies or series have a new one at their end, with this UID
pub record IsAdded {A T : Type 0} (uid : List ℕ) (new : T) (old entries : List (Vec ℕ A × T)) : Type 0 where
  pub key : Vec ℕ A
  pub named : key.items ≡ uid
  pub at_end : entries ≡ old ++ (key, new) ∷ []

-- an element, or none
abbrev pub one_or_none : {X : Type 0} → Option X → List X
one_or_none None = []
one_or_none (Some x) = x ∷ []
