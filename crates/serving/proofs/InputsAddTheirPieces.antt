-- An input more is appended to the inputs that were given (`inputs_more`), and its bytes to their pieces put together
-- (`still_whole`, `whole_more`); a source that shows them gives it (`gives_one`).
use Rattle.std.proofs.Common.{◌≡◌, ◌≢◌, ℕ, List, [], ◌∷◌, ◌++◌, Some, None, refl, sym, ap, ◌∙◌, append_assoc, append-nil}
use Rattle.std.proofs.lemmas.List.{map-append}
use Rattle.engine.specs.declared.source.Input.{Input}
use Rattle.engine.specs.declared.source.Input.TheVariants.{Piece, Closed, Expired, LocalAbort}
use Rattle.engine.specs.Inputs.{Received, Bytes, Close, Expiry, UserAbort, Gives, stream_of, input_of, inputs_of}

pub stream_more : (xs ys : List Received) → stream_of (xs ++ ys) ≡ stream_of xs ++ stream_of ys
stream_more [] ys = refl
stream_more (Bytes piece ∷ xs) ys = ap (λ (b : List ℕ). piece ++ b) (stream_more xs ys) ∙ sym (append_assoc piece (stream_of xs) (stream_of ys))
stream_more (Close ∷ xs) ys = stream_more xs ys
stream_more (Expiry ∷ xs) ys = stream_more xs ys
stream_more (UserAbort ∷ xs) ys = stream_more xs ys

-- one input more
pub inputs_more : (named : List (Input × List ℕ)) (kind : Input) (bytes : List ℕ) → inputs_of (named ++ (kind, bytes) ∷ []) ≡ inputs_of named ++ input_of kind bytes ∷ []
inputs_more named kind bytes = map-append (λ (x : Input × List ℕ). input_of x.0 x.1) named ((kind, bytes) ∷ [])

pub pieces_more : (named : List (Input × List ℕ)) (kind : Input) (bytes : List ℕ) → stream_of (inputs_of (named ++ (kind, bytes) ∷ [])) ≡ stream_of (inputs_of named) ++ stream_of (input_of kind bytes ∷ [])
pieces_more named kind bytes = ap stream_of (inputs_more named kind bytes) ∙ stream_more (inputs_of named) (input_of kind bytes ∷ [])

-- an input that is no piece has no bytes
no_bytes : (kind : Input) (bytes : List ℕ) → kind ≢ Piece → stream_of (input_of kind bytes ∷ []) ≡ []
no_bytes Piece bytes h = absurd (h refl)
no_bytes Closed bytes h = refl
no_bytes Expired bytes h = refl
no_bytes LocalAbort bytes h = refl

-- with one such input more, the pieces are what was read
pub still_whole : (named : List (Input × List ℕ)) (kind : Input) (bytes read : List ℕ) → kind ≢ Piece → stream_of (inputs_of named) ≡ read → stream_of (inputs_of (named ++ (kind, bytes) ∷ [])) ≡ read
still_whole named kind bytes read h e = pieces_more named kind bytes ∙ ap (λ (b : List ℕ). stream_of (inputs_of named) ++ b) (no_bytes kind bytes h) ∙ append-nil (stream_of (inputs_of named)) ∙ e

-- and with one piece more, its bytes are read too
pub whole_more : (named : List (Input × List ℕ)) (bytes read : List ℕ) → stream_of (inputs_of named) ≡ read → stream_of (inputs_of (named ++ (Piece, bytes) ∷ [])) ≡ read ++ bytes
whole_more named bytes read e = pieces_more named Piece bytes ∙ ap (λ (b : List ℕ). stream_of (inputs_of named) ++ b) (append-nil bytes) ∙ ap (λ (b : List ℕ). b ++ bytes) e

-- a source that shows what it has given gives one input more
pub gives_one : (old new : List (Input × List ℕ)) (kind : Input) (bytes : List ℕ) → new ≡ old ++ (kind, bytes) ∷ []
    → Gives (record { expected = None; given = Some (inputs_of old) }) (record { expected = None; given = Some (inputs_of new) }) bytes kind
gives_one old new kind bytes e = record {
  first = refl;
  added = ap (λ (xs : List (Input × List ℕ)). Some (inputs_of xs)) e ∙ ap (λ (xs : List Received). Some xs) (inputs_more old kind bytes);
}
