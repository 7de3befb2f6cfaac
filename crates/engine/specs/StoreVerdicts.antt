-- Examples: verdicts on the C-STORE of a CT image, and its file, byte for byte (PS3.10 section 7.1).
use Rattle.std.specs.Prelude.{◌≡◌, ℕ, ◌^◌, Bool, true, false, List, [], ◌∷◌, ◌++◌, length, replicate, Some, None, codes}
use Rattle.dictionary.specs.declared.transfer.Transfer.TheVariants.{Explicit}
use Rattle.dimse.specs.Command.{CommandRecord}
use Rattle.dimse.specs.Status.{data_set_mismatch}
use Rattle.engine.specs.Timeline.{Finding, good}
use Rattle.engine.specs.Run.{files_of}
use Rattle.dimse.specs.Detail.{instance_mismatch}
use Rattle.engine.specs.Stores.{Verdict, cause, instance_tag}
use Rattle.engine.specs.Examples.{rooms, settings}
use Rattle.engine.specs.StoreExamples.{data_set, accepted, a_store, the_set, unfiled}
use Rattle.engine.specs.VerdictExamples.{ct_in}

-- a C-STORE-RQ of a CT image with this SOP Instance UID
abbrev pub store_of : List ℕ → CommandRecord
store_of instance = record { class = codes "1.2.840.10008.5.1.4.1.1.2"; field = 1; message = 7; with_data = true; instance = Some instance }

abbrev pub Arrives : List ℕ → Bool → Finding → Type 0
Arrives instance failed finding = Verdict 64 (2 ^ 40) (ct_in Explicit) (store_of instance) data_set failed finding

-- The data set is of the instance 1.2.3. If the command has the same, the answer is success, or A700 if a call of the
-- filing failed; if it has another one, A900.
abbrev pub VerdictsOnOneImage : Type 0
VerdictsOnOneImage =
    Arrives (codes "1.2.3") false good
    × Arrives (codes "1.2.3") true unfiled
    × ((failed : Bool) → Arrives (codes "1.2.9") failed (cause data_set_mismatch instance_mismatch instance_tag))

-- an element of group 0002 with a short VR
abbrev pub meta : ℕ → List ℕ → List ℕ → List ℕ
meta number vr value = 2 ∷ 0 ∷ number ∷ 0 ∷ (vr ++ length value ∷ 0 ∷ value)

-- the file of the instance: preamble and prefix, group 0002 with its length of 144, and the data set as it was
-- received
abbrev pub the_file : List ℕ
the_file =
    replicate 128 0 ++ codes "DICM"
    ++ meta 0x00 (codes "UL") (144 ∷ 0 ∷ 0 ∷ 0 ∷ [])
    ++ (2 ∷ 0 ∷ 1 ∷ 0 ∷ 79 ∷ 66 ∷ 0 ∷ 0 ∷ 2 ∷ 0 ∷ 0 ∷ 0 ∷ 0 ∷ 1 ∷ [])
    ++ meta 0x02 (codes "UI") (codes "1.2.840.10008.5.1.4.1.1.2" ++ 0 ∷ [])
    ++ meta 0x03 (codes "UI") (codes "1.2.3" ++ 0 ∷ [])
    ++ meta 0x10 (codes "UI") (codes "1.2.840.10008.1.2.1" ++ 0 ∷ [])
    ++ meta 0x12 (codes "UI") (codes "2.25.20260101" ++ 0 ∷ [])
    ++ meta 0x13 (codes "SH") (codes "DCMBOX_1")
    ++ meta 0x16 (codes "AE") (codes "SCANNER1")
    ++ data_set

abbrev pub TheFileOfAStore : Type 0
TheFileOfAStore = files_of rooms settings accepted (a_store (the_set false good None)) ≡ the_file ∷ []
