-- What an observer was notified of, put together, are the bytes that were consumed (`all_reported`): an input more adds its piece, if it is
-- one (`reported_with_piece`, `reported_without`). Stands on InputsAddTheirPieces.
use Rattle.std.proofs.Common.{◌≡◌, ◌≢◌, ℕ, List, [], ◌∷◌, ◌++◌, take, refl, sym, ap, ◌∙◌, append-nil}
use Rattle.pdu.specs.Pieces.{joined}
use Rattle.engine.specs.declared.source.Input.{Input}
use Rattle.engine.specs.declared.source.Input.TheVariants.{Piece, Closed, Expired, LocalAbort}
use Rattle.engine.specs.Inputs.{Received, Bytes, Close, Expiry, UserAbort, stream_of, input_of, inputs_of}
use Rattle.serving.specs.Reported.{pieces_of}
use Rattle.serving.proofs.InputsAddTheirPieces.{inputs_more}

pub pieces_joined : (inputs : List Received) → joined (pieces_of inputs) ≡ stream_of inputs
pieces_joined [] = refl
pieces_joined (Bytes piece ∷ inputs) = ap (λ (xs : List ℕ). piece ++ xs) (pieces_joined inputs)
pieces_joined (Close ∷ inputs) = pieces_joined inputs
pieces_joined (Expiry ∷ inputs) = pieces_joined inputs
pieces_joined (UserAbort ∷ inputs) = pieces_joined inputs

pieces_then : (xs ys : List Received) → pieces_of (xs ++ ys) ≡ pieces_of xs ++ pieces_of ys
pieces_then [] ys = refl
pieces_then (Bytes piece ∷ xs) ys = ap (λ (ps : List (List ℕ)). piece ∷ ps) (pieces_then xs ys)
pieces_then (Close ∷ xs) ys = pieces_then xs ys
pieces_then (Expiry ∷ xs) ys = pieces_then xs ys
pieces_then (UserAbort ∷ xs) ys = pieces_then xs ys

no_piece : (kind : Input) (bytes : List ℕ) → kind ≢ Piece → pieces_of (input_of kind bytes ∷ []) ≡ []
no_piece Piece bytes h = absurd (h refl)
no_piece Closed bytes h = refl
no_piece Expired bytes h = refl
no_piece LocalAbort bytes h = refl

pieces_more : (named : List (Input × List ℕ)) (kind : Input) (bytes : List ℕ) → pieces_of (inputs_of (named ++ (kind, bytes) ∷ [])) ≡ pieces_of (inputs_of named) ++ pieces_of (input_of kind bytes ∷ [])
pieces_more named kind bytes = ap pieces_of (inputs_more named kind bytes) ∙ pieces_then (inputs_of named) (input_of kind bytes ∷ [])

-- nothing was consumed yet
pub none_reported : (reported : List (List ℕ)) (named : List (Input × List ℕ)) → reported ≡ [] → named ≡ [] → reported ≡ pieces_of (inputs_of named)
none_reported reported named e f = e ∙ ap (λ (xs : List (Input × List ℕ)). pieces_of (inputs_of xs)) (sym f)

-- an input more that is no piece
pub reported_without : (reported : List (List ℕ)) (named named_new : List (Input × List ℕ)) (kind : Input) (bytes : List ℕ) → kind ≢ Piece → named_new ≡ named ++ (kind, bytes) ∷ []
    → reported ≡ pieces_of (inputs_of named) → reported ≡ pieces_of (inputs_of named_new)
reported_without reported named named_new kind bytes none pushed was =
    was ∙ sym (append-nil (pieces_of (inputs_of named))) ∙ ap (λ (ps : List (List ℕ)). pieces_of (inputs_of named) ++ ps) (sym (no_piece kind bytes none))
    ∙ sym (pieces_more named kind bytes) ∙ ap (λ (xs : List (Input × List ℕ)). pieces_of (inputs_of xs)) (sym pushed)

-- a piece more, which is the front of what waits
pub reported_with_piece : (reported reported_new : List (List ℕ)) (named named_new : List (Input × List ℕ)) (n : ℕ) (lent pending : List ℕ) → reported_new ≡ reported ++ take n pending ∷ [] → lent ≡ pending → named_new ≡ named ++ (Piece, take n lent) ∷ []
    → reported ≡ pieces_of (inputs_of named) → reported_new ≡ pieces_of (inputs_of named_new)
reported_with_piece reported reported_new named named_new n lent pending more same pushed was =
    more ∙ ap (λ (xs : List ℕ). reported ++ take n xs ∷ []) (sym same) ∙ ap (λ (ps : List (List ℕ)). ps ++ take n lent ∷ []) was ∙ sym (pieces_more named Piece (take n lent))
    ∙ ap (λ (xs : List (Input × List ℕ)). pieces_of (inputs_of xs)) (sym pushed)

-- what was notified of, put together and followed by what was not consumed, is what was read
pub all_reported : (reported : List (List ℕ)) (inputs : List Received) (unconsumed read : List ℕ) → reported ≡ pieces_of inputs → stream_of inputs ++ unconsumed ≡ read → joined reported ++ unconsumed ≡ read
all_reported reported inputs unconsumed read heard whole = ap (λ (ps : List (List ℕ)). joined ps ++ unconsumed) heard ∙ ap (λ (xs : List ℕ). xs ++ unconsumed) (pieces_joined inputs) ∙ whole
