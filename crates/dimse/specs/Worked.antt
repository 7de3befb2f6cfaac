-- Example messages for the definitions.
use Rattle.std.specs.Prelude.{ℕ, false, true, List, [], ◌∷◌, take, drop, Option, Some, None, codes}
use Rattle.byteorder.specs.Endian.{little_number}
use Rattle.dimse.specs.Command.{CommandRecord}
use Rattle.dimse.specs.declared.detail.Detail.{Detail}
use Rattle.dimse.specs.Messages.{Pdv, Message}
use Rattle.dimse.specs.Reply.{reply_command}

abbrev pub pdv : ℕ → ℕ → List ℕ → Pdv
pdv context control fragment = record { context = context; control = control; fragment = fragment }

-- the command set of a C-ECHO-RQ of the Verification SOP Class with Message ID 1
abbrev pub echo : List ℕ
echo =
    0 ∷ 0 ∷ 0 ∷ 0 ∷ 4 ∷ 0 ∷ 0 ∷ 0 ∷ 56 ∷ 0 ∷ 0 ∷ 0
    ∷ 0 ∷ 0 ∷ 2 ∷ 0 ∷ 18 ∷ 0 ∷ 0 ∷ 0 ∷ 49 ∷ 46 ∷ 50 ∷ 46 ∷ 56 ∷ 52 ∷ 48 ∷ 46 ∷ 49 ∷ 48 ∷ 48 ∷ 48 ∷ 56 ∷ 46 ∷ 49 ∷ 46 ∷ 49 ∷ 0
    ∷ 0 ∷ 0 ∷ 0 ∷ 1 ∷ 2 ∷ 0 ∷ 0 ∷ 0 ∷ 48 ∷ 0
    ∷ 0 ∷ 0 ∷ 16 ∷ 1 ∷ 2 ∷ 0 ∷ 0 ∷ 0 ∷ 1 ∷ 0
    ∷ 0 ∷ 0 ∷ 0 ∷ 8 ∷ 2 ∷ 0 ∷ 0 ∷ 0 ∷ 1 ∷ 1 ∷ []

-- the contents of the command set `echo`
abbrev pub echo_record : CommandRecord
echo_record = record { class = codes "1.2.840.10008.1.1"; field = 0x0030; message = 1; with_data = false; instance = None }

-- the response to `echo` with status 0000 and presentation context ID 1, to a peer without a maximum length
abbrev pub echo_reply : List ℕ
echo_reply =
    4 ∷ 0 ∷ 0 ∷ 0 ∷ 0 ∷ 84 ∷ 0 ∷ 0 ∷ 0 ∷ 80 ∷ 1 ∷ 3 ∷ 0 ∷ 0 ∷ 0 ∷ 0
    ∷ 4 ∷ 0 ∷ 0 ∷ 0 ∷ 66 ∷ 0 ∷ 0 ∷ 0 ∷ 0 ∷ 0 ∷ 2 ∷ 0 ∷ 18 ∷ 0 ∷ 0 ∷ 0
    ∷ 49 ∷ 46 ∷ 50 ∷ 46 ∷ 56 ∷ 52 ∷ 48 ∷ 46 ∷ 49 ∷ 48 ∷ 48 ∷ 48 ∷ 56 ∷ 46 ∷ 49 ∷ 46
    ∷ 49 ∷ 0 ∷ 0 ∷ 0 ∷ 0 ∷ 1 ∷ 2 ∷ 0 ∷ 0 ∷ 0 ∷ 48 ∷ 128 ∷ 0 ∷ 0 ∷ 32 ∷ 1
    ∷ 2 ∷ 0 ∷ 0 ∷ 0 ∷ 1 ∷ 0 ∷ 0 ∷ 0 ∷ 0 ∷ 8 ∷ 2 ∷ 0 ∷ 0 ∷ 0 ∷ 1 ∷ 1
    ∷ 0 ∷ 0 ∷ 0 ∷ 9 ∷ 2 ∷ 0 ∷ 0 ∷ 0 ∷ 0 ∷ 0 ∷ []

-- the contents of a C-STORE-RQ of the CT Image instance `1.2.3`
abbrev pub store_record : CommandRecord
store_record = record { class = codes "1.2.840.10008.5.1.4.1.1.2"; field = 0x0001; message = 7; with_data = true; instance = Some (codes "1.2.3") }

-- the command set of `store_record`, with a Priority
abbrev pub store : List ℕ
store =
    0 ∷ 0 ∷ 0 ∷ 0 ∷ 4 ∷ 0 ∷ 0 ∷ 0 ∷ 88 ∷ 0 ∷ 0 ∷ 0
    ∷ 0 ∷ 0 ∷ 2 ∷ 0 ∷ 26 ∷ 0 ∷ 0 ∷ 0 ∷ 49 ∷ 46 ∷ 50 ∷ 46 ∷ 56 ∷ 52 ∷ 48 ∷ 46 ∷ 49 ∷ 48 ∷ 48 ∷ 48 ∷ 56 ∷ 46 ∷ 53 ∷ 46 ∷ 49 ∷ 46 ∷ 52 ∷ 46 ∷ 49 ∷ 46 ∷ 49 ∷ 46 ∷ 50 ∷ 0
    ∷ 0 ∷ 0 ∷ 0 ∷ 1 ∷ 2 ∷ 0 ∷ 0 ∷ 0 ∷ 1 ∷ 0
    ∷ 0 ∷ 0 ∷ 16 ∷ 1 ∷ 2 ∷ 0 ∷ 0 ∷ 0 ∷ 7 ∷ 0
    ∷ 0 ∷ 0 ∷ 0 ∷ 7 ∷ 2 ∷ 0 ∷ 0 ∷ 0 ∷ 0 ∷ 0
    ∷ 0 ∷ 0 ∷ 0 ∷ 8 ∷ 2 ∷ 0 ∷ 0 ∷ 0 ∷ 2 ∷ 1
    ∷ 0 ∷ 0 ∷ 0 ∷ 16 ∷ 6 ∷ 0 ∷ 0 ∷ 0 ∷ 49 ∷ 46 ∷ 50 ∷ 46 ∷ 51 ∷ 0 ∷ []

-- a cause of a failure; of the response that reports it, Command Group Length and the bytes after Status follow
abbrev pub cause : ℕ → ℕ → ℕ → Option Detail
cause number group element = Some (record { number = number; tag = record { 0 = group; 1 = element } })

abbrev pub group_length : ℕ → Option Detail → ℕ
group_length status detail = little_number 4 (drop 8 (reply_command store_record status detail))

abbrev pub after_status : ℕ → Option Detail → List ℕ
after_status status detail = drop 86 (reply_command store_record status detail)

-- the element Affected SOP Instance UID with `1.2.3`
abbrev pub instance_123 : List ℕ
instance_123 = 0 ∷ 0 ∷ 0 ∷ 16 ∷ 6 ∷ 0 ∷ 0 ∷ 0 ∷ 49 ∷ 46 ∷ 50 ∷ 46 ∷ 51 ∷ 0 ∷ []

-- the fragments of `store` and of its data set, and the first fragment of another message
abbrev pub store_in_parts : List Pdv
store_in_parts =
    pdv 5 1 (take 99 store) ∷ pdv 5 3 (drop 99 store)
    ∷ pdv 5 0 (8 ∷ []) ∷ pdv 5 0 [] ∷ pdv 5 2 (0 ∷ 24 ∷ []) ∷ pdv 7 1 (0 ∷ []) ∷ []

abbrev pub stored : Message
stored = record { context = 5; command = store; set = 8 ∷ 0 ∷ 24 ∷ [] }

-- Offending Element and Error Comment of a value of undefined length; those of another SOP instance and of another
-- SOP class follow
abbrev pub undefined_length_elements : List ℕ
undefined_length_elements = 0 ∷ 0 ∷ 1 ∷ 9 ∷ 4 ∷ 0 ∷ 0 ∷ 0 ∷ 224 ∷ 127 ∷ 16 ∷ 0 ∷ 0 ∷ 0 ∷ 2 ∷ 9 ∷ 24 ∷ 0 ∷ 0 ∷ 0 ∷ codes "fault 14 UndefinedLength"

abbrev pub other_instance_elements : List ℕ
other_instance_elements = 0 ∷ 0 ∷ 1 ∷ 9 ∷ 4 ∷ 0 ∷ 0 ∷ 0 ∷ 8 ∷ 0 ∷ 24 ∷ 0 ∷ 0 ∷ 0 ∷ 2 ∷ 9 ∷ 26 ∷ 0 ∷ 0 ∷ 0 ∷ codes "fault 46 InstanceMismatch "

abbrev pub other_class_elements : List ℕ
other_class_elements = 0 ∷ 0 ∷ 1 ∷ 9 ∷ 4 ∷ 0 ∷ 0 ∷ 0 ∷ 8 ∷ 0 ∷ 22 ∷ 0 ∷ 0 ∷ 0 ∷ 2 ∷ 9 ∷ 22 ∷ 0 ∷ 0 ∷ 0 ∷ codes "fault 45 ClassMismatch"
