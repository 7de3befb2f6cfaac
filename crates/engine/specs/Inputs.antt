-- The inputs of an association: received bytes, the close of the transport connection, the expiry of the ARTIM timer
-- and an abort of the local user (PS3.8 section 9.2.1).
use Rattle.std.specs.Prelude.{◌≡◌, ℕ, zero, suc, List, [], ◌∷◌, ◌++◌, map, Option, Some, None, option_map}
use Rattle.acceptor.specs.declared.state.State.{State}
use Rattle.engine.specs.declared.source.Input.{Input}
use Rattle.engine.specs.declared.source.Input.TheVariants as kind
use Rattle.engine.specs.declared.list_source.ListedInput.{ListedInput}
use Rattle.engine.specs.declared.list_source.ListedInput.TheVariants as listed

-- an input: received bytes, the close of the transport connection, the expiry of the ARTIM timer, or an abort of the
-- local user
pub data Received : Type 0 where
  Bytes : (piece : List ℕ) → Received
  Close : Received
  Expiry : Received
  UserAbort : Received

-- the received bytes of these inputs
-- e.g. stream_of (Bytes (1 ∷ []) ∷ Close ∷ Bytes (2 ∷ []) ∷ []) ≡ 1 ∷ 2 ∷ []
abbrev pub stream_of : List Received → List ℕ
stream_of [] = []
stream_of (Bytes piece ∷ inputs) = piece ++ stream_of inputs
stream_of (Close ∷ inputs) = stream_of inputs
stream_of (Expiry ∷ inputs) = stream_of inputs
stream_of (UserAbort ∷ inputs) = stream_of inputs

-- the first input; if there is none, the transport connection is closed
-- e.g. first_of [] ≡ Close
abbrev pub first_of : List Received → Received
first_of [] = Close
first_of (x ∷ xs) = x

-- the inputs after the first
-- e.g. others_of [] ≡ []
abbrev pub others_of : List Received → List Received
others_of [] = []
others_of (x ∷ xs) = xs

-- the first n inputs
-- e.g. first_inputs 2 (Expiry ∷ []) ≡ Expiry ∷ Close ∷ []
abbrev pub first_inputs : ℕ → List Received → List Received
first_inputs zero xs = []
first_inputs (suc n) xs = first_of xs ∷ first_inputs n (others_of xs)

-- the input that `Source::next` returned, with the bytes of `Source::piece`
abbrev pub input_of : Input → List ℕ → Received
input_of kind.Piece bytes = Bytes bytes
input_of kind.Closed bytes = Close
input_of kind.Expired bytes = Expiry
input_of kind.LocalAbort bytes = UserAbort

-- the inputs that a source returned, one after another, each with its bytes
abbrev pub inputs_of : List (Input × List ℕ) → List Received
inputs_of named = map (λ x. input_of x.0 x.1) named

-- the state of a source as contracts see it: the remaining inputs and those that it has returned, each if they are
-- known
pub record Supply : Type 0 where
  pub expected : Option (List Received)
  pub given : Option (List Received)

-- the inputs that a source has returned, with these appended, if they are known
abbrev pub with_given : List Received → Option (List Received) → Option (List Received)
with_given inputs known = option_map (λ xs. xs ++ inputs) known

-- the state with which `Source::next` was called last, if it is known
abbrev pub shown_after : State → Option State → Option State
shown_after state known = option_map (λ _. state) known

-- if the remaining inputs are known, the input is the first of them, and the others remain
abbrev pub ConsumesFirst : Option (List Received) → Option (List Received) → Received → Type 0
ConsumesFirst None new input = new ≡ None
ConsumesFirst (Some inputs) new input = (input ≡ first_of inputs) × (new ≡ Some (others_of inputs))

-- a source returns this input: the first of the remaining ones, appended to those returned
pub record Gives (old new : Supply) (last : List ℕ) (named : Input) : Type 0 where
  pub first : ConsumesFirst old.expected new.expected (input_of named last)
  pub added : new.given ≡ with_given (input_of named last ∷ []) old.given

-- the input of a list entry
abbrev pub received_of : ListedInput → Received
received_of (listed.Piece bytes) = Bytes bytes.now
received_of listed.Closed = Close
received_of listed.Expired = Expiry
received_of listed.LocalAbort = UserAbort
